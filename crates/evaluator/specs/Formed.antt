-- Document 02, #104: which lists are malformed, by how many values are on the stack and so whatever the conditions (theorem `well-formed` in
-- proofs/Formed): "right after 3 and 4 and before 8" a Set is judged by its expression alone.
use Rattle.std.specs.Prelude.{ℕ, zero, suc, ◌≡◌, Bool, true, false, not, cond, List, [], ◌∷◌, ◌⊎◌, eqb}
use Rattle.std.proofs.Math.Option.{Option, none, some}
use Rattle.expression.specs.declared.Part.{Part}
use Rattle.expression.specs.declared.Part.TheVariants.{Reference, Operator}
use Rattle.expression.specs.declared.Element.{Element}
use Rattle.evaluator.specs.declared.Evaluation.{Evaluation}
use Rattle.evaluator.specs.declared.Evaluation.TheVariants.{True, False, Malformed}
use Rattle.evaluator.specs.Value.{on_stack, value_by, is_true}

-- "AND and OR take two, NOT takes one, each puts one.": how many are left; none where the operator runs short
abbrev pub by_two : ℕ → Option ℕ
by_two zero = none
by_two (suc zero) = none
by_two (suc (suc n)) = some (suc n)

abbrev pub by_one : ℕ → Option ℕ
by_one zero = none
by_one (suc n) = some (suc n)

-- "00 AND, 01 OR or 02 NOT"; a reference puts one
abbrev pub count_after : Part → ℕ → Option ℕ
count_after (Reference row) n = some (suc n)
count_after (Operator code) n = cond (eqb code 0) (by_two n) (cond (eqb code 1) (by_two n) (cond (eqb code 2) (by_one n) none))

unfoldable pub count_from : List Element → Option ℕ → Option ℕ
count_from [] count = count
count_from (e ∷ es) count = count_from es (on_stack (count_after e.part) count)

abbrev pub is_one : Option ℕ → Bool
is_one none = false
is_one (some n) = eqb n 1

-- "Well formed: no operator runs short and exactly one value is left."
abbrev pub well_formed : List Element → Bool
well_formed es = is_one (count_from es (some 0))

-- "a malformed, non-empty expression"
abbrev pub malformed : List Element → Bool
malformed [] = false
malformed (e ∷ es) = not (well_formed (e ∷ es))

-- the third of the three
abbrev pub is_malformed : Evaluation → Bool
is_malformed True = false
is_malformed False = false
is_malformed Malformed = true

pub record WellFormed : Type 0 where
  -- evaluation says malformed of exactly these lists, whatever a reference puts
  pub judged : (f : ℕ → Bool) (es : List Element) → is_malformed (value_by f es) ≡ malformed es
  -- so under all conditions or under none
  pub whatever : (f g : ℕ → Bool) (es : List Element) → is_malformed (value_by f es) ≡ is_malformed (value_by g es)
  -- "Empty is not malformed": and it is not well formed, it has no value to leave
  pub empty : (malformed [] ≡ false) × (well_formed [] ≡ false)
  -- "its users take the three": TRUE alone is what locks and what holds a Set
  pub true-alone : (is_true True ≡ true) × ((v : Evaluation) → is_true v ≡ true → v ≡ True)
  -- so a malformed list never does
  pub never_true : (f : ℕ → Bool) (es : List Element) → malformed es ≡ true → is_true (value_by f es) ≡ false
  -- and a list that is not malformed is empty or well formed
  pub not-malformed : (es : List Element) → malformed es ≡ false → (es ≡ []) ⊎ (well_formed es ≡ true)
