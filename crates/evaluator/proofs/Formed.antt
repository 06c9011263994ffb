-- Whether a list is malformed: by the number of values on the stack, whatever they are. The record `WellFormed`.
use Prim.Native.Nat.{ℕ}
use mathlib.Core.Path.{◌≡◌, refl, sym, ap, ◌∙◌}
use mathlib.Core.Bool.{Bool, true, false, not, cond, ◌&&◌, ◌||◌, false≢true}
use mathlib.Core.List.{List, [], ◌∷◌}
use mathlib.Core.Logic.{◌⊎◌, inl, inr}
use mathlib.Core.Option.{Option, none, some}
use native.Mathlib.Omega.{arith}
use lib.Dec.{eqb}
use lib.ListN.{length}
use borrow.Author.Tests.{ne_eqb, not-false}
use Rattle.expression.specs.declared.Part.{Part}
use Rattle.expression.specs.declared.Part.TheVariants.{Reference, Operator}
use Rattle.expression.specs.declared.Element.{Element}
use Rattle.evaluator.specs.declared.Evaluation.{Evaluation}
use Rattle.evaluator.specs.declared.Evaluation.TheVariants.{True, False, Malformed}
use Rattle.evaluator.specs.Value.{on_two, on_one, operator_of, put_element, on_stack, end_of, evaluate, value_by, is_true}
use Rattle.evaluator.specs.Formed.{by_two, by_one, count_after, count_from, is_one, well_formed, malformed, is_malformed, WellFormed}

-- how many values a stack has
abbrev count_of : Option (List Bool) → Option ℕ
count_of none = none
count_of (some s) = some (length s)

two : (f : Bool → Bool → Bool) (s : List Bool) → count_of (on_two f s) ≡ by_two (length s)
two f [] = refl
two f (a ∷ []) = refl
two f (a ∷ b ∷ s) = refl

one : (f : Bool → Bool) (s : List Bool) → count_of (on_one f s) ≡ by_one (length s)
one f [] = refl
one f (a ∷ s) = refl

coded : (code : ℕ) (s : List Bool) → count_of (operator_of code s) ≡ count_after (Operator code) (length s)
coded code s = go (eqb code 0) (eqb code 1) (eqb code 2)
  where
    go : (a b c : Bool)
        → count_of (cond a (on_two ◌&&◌ s) (cond b (on_two ◌||◌ s) (cond c (on_one not s) none)))
        ≡ cond a (by_two (length s)) (cond b (by_two (length s)) (cond c (by_one (length s)) none))
    go true b c = two ◌&&◌ s
    go false true c = two ◌||◌ s
    go false false true = one not s
    go false false false = refl

step : (f : ℕ → Bool) (p : Part) (stack : Option (List Bool)) → count_of (on_stack (put_element f p) stack) ≡ on_stack (count_after p) (count_of stack)
step f p none = refl
step f (Reference row) (some s) = refl
step f (Operator code) (some s) = coded code s

ended : (stack : Option (List Bool)) → is_malformed (end_of stack) ≡ not (is_one (count_of stack))
ended none = refl
ended (some []) = refl
ended (some (true ∷ [])) = refl
ended (some (false ∷ [])) = refl
ended (some (v ∷ w ∷ s)) = sym (ap not (ne_eqb (length (v ∷ w ∷ s)) 1 (λ q. omega (arith, q))))

walked : (f : ℕ → Bool) (es : List Element) (stack : Option (List Bool)) → is_malformed (evaluate f es stack) ≡ not (is_one (count_from es (count_of stack)))
unfolding evaluate count_from
walked f [] stack = ended stack
walked f (e ∷ es) stack =
    walked f es (on_stack (put_element f e.part) stack) ∙ ap (λ (n : Option ℕ). not (is_one (count_from es n))) (step f e.part stack)

pub judged : (f : ℕ → Bool) (es : List Element) → is_malformed (value_by f es) ≡ malformed es
judged f [] = refl
judged f (e ∷ es) = walked f (e ∷ es) (some [])

only-true : (v : Evaluation) → is_true v ≡ true → v ≡ True
only-true True q = refl
only-true False q = absurd (false≢true q)
only-true Malformed q = absurd (false≢true q)

never_true : (f : ℕ → Bool) (es : List Element) → malformed es ≡ true → is_true (value_by f es) ≡ false
never_true f es h = go (value_by f es) (judged f es ∙ h)
  where
    go : (v : Evaluation) → is_malformed v ≡ true → is_true v ≡ false
    go True q = absurd (false≢true q)
    go False q = refl
    go Malformed q = refl

not-malformed : (es : List Element) → malformed es ≡ false → (es ≡ []) ⊎ (well_formed es ≡ true)
not-malformed [] h = inl refl
not-malformed (e ∷ es) h = inr (not-false (well_formed (e ∷ es)) h)

pub well-formed : WellFormed
unfolding count_from
well-formed = record {
  judged = judged;
  whatever = λ f g es. judged f es ∙ sym (judged g es);
  empty = (refl, refl);
  true-alone = (refl, only-true);
  never_true = never_true;
  not-malformed = not-malformed;
}
