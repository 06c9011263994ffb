use mathlib.Core.Path.{◌≡◌}
use lib.Seq.{paste}
use Rattle.output.proofs.put.Given as goal

abbrev pub invariant-loop-i : goal.invariant-loop-i
invariant-loop-i g l = l.out ≡ paste l.fn.out l.at l.items l.i
