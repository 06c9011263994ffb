use Rattle.geometry.specs.Parts.{closed_in}
use Rattle.geometry.proofs.Sweeps.{Swept}
use Rattle.geometry.proofs.sweep.Given as goal

abbrev pub invariant-loop-left : goal.invariant-loop-left
invariant-loop-left l = Swept (closed_in l.spans l.closed) l.fn.range.start l.fn.range.length l.block l.left

abbrev pub decreases-loop-left : goal.decreases-loop-left
decreases-loop-left l = l.left
