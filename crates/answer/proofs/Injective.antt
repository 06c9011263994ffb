-- No two answers have the same number: a number gives its refusal back, and no refusal has the number of what is done.
use mathlib.Core.Path.{◌≡◌, refl, sym, ap, ◌∙◌}
use mathlib.Core.List.{List, [], ◌∷◌}
use Prim.Native.Nat.{ℕ, ◌≤◌}
use native.Mathlib.Omega.{arith}
use lib.ListN.{get_or}
use Rattle.answer.specs.Numbers.{number_of}
use Rattle.answer.specs.declared.Refusal.{Refusal}
use Rattle.answer.specs.declared.Refusal.TheVariants.{
  NoRow,
  OutOfRange,
  NotTokens,
  TooLong,
  Global,
  PastEnd,
  Overlap,
  Held,
  Locked,
  BadScript,
  ShortBuffer,
  ShortAnswer,
  Malformed,
}

-- the refusals in the order of the table, from 1 on; at 0, which is none's, the first stands too
abbrev table : List Refusal
table =
    NoRow ∷ NoRow ∷ OutOfRange ∷ NotTokens ∷ TooLong ∷ Global ∷ PastEnd ∷ Overlap ∷ Held ∷ Locked ∷ BadScript ∷ ShortBuffer ∷ ShortAnswer ∷ Malformed ∷ []

abbrev refusal_at : ℕ → Refusal
refusal_at n = get_or table n NoRow

back : (r : Refusal) → refusal_at (number_of r) ≡ r
back NoRow = refl
back OutOfRange = refl
back NotTokens = refl
back TooLong = refl
back Global = refl
back PastEnd = refl
back Overlap = refl
back Held = refl
back Locked = refl
back BadScript = refl
back ShortBuffer = refl
back ShortAnswer = refl
back Malformed = refl

pub number-injective : (a b : Refusal) → number_of a ≡ number_of b → a ≡ b
number-injective a b e = sym (back a) ∙ ap refusal_at e ∙ back b

-- a refusal is not done
pub refusal_number : (r : Refusal) → 1 ≤ number_of r
refusal_number NoRow = omega arith
refusal_number OutOfRange = omega arith
refusal_number NotTokens = omega arith
refusal_number TooLong = omega arith
refusal_number Global = omega arith
refusal_number PastEnd = omega arith
refusal_number Overlap = omega arith
refusal_number Held = omega arith
refusal_number Locked = omega arith
refusal_number BadScript = omega arith
refusal_number ShortBuffer = omega arith
refusal_number ShortAnswer = omega arith
refusal_number Malformed = omega arith
