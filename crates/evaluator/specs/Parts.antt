-- What the parts of the evaluator do to the stack, for the contracts of private functions.
use Rattle.std.specs.Prelude.{◌≡◌, Bool, List, ◌∷◌, Option, Some, None}
use Rattle.std.proofs.Common.{reverse}
use Rattle.std.proofs.Math.Option as maybe
use Rattle.arrayvec.specs.ArrayVec.{ArrayVec}
use Rattle.evaluator.specs.Value.{on_two}

-- the stack whose head is the last value put
abbrev pub stack_in : ArrayVec Bool → List Bool
stack_in stack = reverse stack.items

-- what a function answers, and the stack that it leaves of `old`, where that should be f's: with None the stack does not count
abbrev pub Does : {A : Type 0} → (List Bool → maybe.Option (List Bool)) → List Bool → Option A → List Bool → Type 0
Does f old (Some done) new = f old ≡ maybe.some new
Does f old None new = f old ≡ maybe.none

-- the same of an operator on two values of which it is known what it gives: `gives a b v`, where b is the last
abbrev pub DoesTwo : {A : Type 0} → (Bool → Bool → Bool → Type 0) → List Bool → Option A → List Bool → Type 0
DoesTwo gives old (Some done) new =
    (rest : List Bool) × (a : Bool) × (b : Bool) × (v : Bool) × (old ≡ b ∷ a ∷ rest) × gives a b v × (new ≡ v ∷ rest)
DoesTwo gives old None new = (f : Bool → Bool → Bool) → on_two f old ≡ maybe.none
