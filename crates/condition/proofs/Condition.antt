-- Condition 3 whole.
use Prim.Native.Nat.{ℕ, ◌≤◌}
use mathlib.Core.Path.{◌≡◌}
use mathlib.Core.Bool.{true}
use native.Mathlib.Omega.{arith}
use borrow.Author.Tests.{leb-true}
use Rattle.base.proofs.Cases.{and_left, and_right}
use Rattle.drive.specs.State.{most_bands, header_fits}
use Rattle.condition.specs.Condition.{Condition3}
use Rattle.condition.proofs.Isolation.{isolation}
use Rattle.condition.proofs.History.{history}

sixteen : (capacity bands sensors : ℕ) → header_fits capacity bands sensors ≡ true → bands ≤ most_bands
unfolding header_fits
sixteen capacity bands sensors h = leb-true bands most_bands (search (and_left, and_right))

pub condition-3 : Condition3
condition-3 = record {
  isolation = λ capacity bands sensors h band k es fs e. isolation capacity bands sensors band es fs e;
  history = λ capacity bands sensors h band k side es. history capacity bands sensors band (omega (arith, sixteen capacity bands sensors h)) side es;
}
