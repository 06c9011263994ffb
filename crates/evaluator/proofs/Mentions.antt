-- The value depends only on the conditions of the rows that the elements refer to.
use Prim.Native.Nat.{ℕ, ◌≤◌}
use mathlib.Core.Path.{◌≡◌, refl, sym}
use mathlib.Core.Bool.{Bool, true, false}
use mathlib.Core.List.{List, [], ◌∷◌}
use mathlib.Core.Option.{Option, none, some}
use lib.ListN.{length, get_or-eq_default}
use borrow.Author.Tests.{eq-eqb}
use Rattle.base.specs.Lists.{any}
use Rattle.base.proofs.Cases.{or_yes, or-second}
use Rattle.expression.specs.declared.Part.{Part}
use Rattle.expression.specs.declared.Part.TheVariants.{Reference, Operator}
use Rattle.expression.specs.declared.Element.{Element}
use Rattle.evaluator.specs.declared.Evaluation.TheVariants.{False}
use Rattle.evaluator.specs.Value.{condition_at, put_element, on_stack, evaluate, value_by, value_of, refers_to, mentions}

module _ (f g : ℕ → Bool) where
  step-agree : (p : Part) (stack : Option (List Bool)) → ((row : ℕ) → refers_to row p ≡ true → f row ≡ g row)
      → on_stack (put_element f p) stack ≡ on_stack (put_element g p) stack
  step-agree p none h = refl
  step-agree (Reference row) (some s) h = rw (h row (eq-eqb row row refl))
  step-agree (Operator code) (some s) h = refl

  agree : (es : List Element) (stack : Option (List Bool)) → ((row : ℕ) → mentions row es ≡ true → f row ≡ g row)
      → evaluate f es stack ≡ evaluate g es stack
  unfolding evaluate mentions any
  agree [] stack h = refl
  agree (e ∷ es) stack h =
      rw (step-agree e.part stack (λ row q. h row (sym (or_yes (refers_to row e.part) (mentions row es) q))))
      (agree es (on_stack (put_element g e.part) stack) (λ row q. h row (or-second (refers_to row e.part) (mentions row es) q)))

  pub value-agree : (es : List Element) → ((row : ℕ) → mentions row es ≡ true → f row ≡ g row) → value_by f es ≡ value_by g es
  value-agree [] h = refl
  value-agree (e ∷ es) h = agree (e ∷ es) (some []) h

pub value_same : (cs ds : List Bool) (es : List Element)
    → ((row : ℕ) → mentions row es ≡ true → condition_at cs row ≡ condition_at ds row) → value_of cs es ≡ value_of ds es
unfolding value_of
value_same cs ds es h = value-agree (condition_at cs) (condition_at ds) es h

pub value-empty : (cs : List Bool) → value_of cs [] ≡ False
unfolding value_of
value-empty cs = refl

-- a row of which there is no condition
pub absent : (cs : List Bool) (row : ℕ) → length cs ≤ row → false ≡ condition_at cs row
absent cs row h = sym (get_or-eq_default cs false h)
