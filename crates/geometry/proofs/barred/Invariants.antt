use Rattle.std.proofs.Common.{◌≡◌, ℕ, ◌<◌, false}
use Rattle.geometry.specs.Parts.{bars_at}
use Rattle.geometry.proofs.barred.Given as goal

abbrev pub invariant-loop-i : goal.invariant-loop-i
invariant-loop-i l = (k : ℕ) → k < l.i → bars_at l.spans l.closed l.range k ≡ false
