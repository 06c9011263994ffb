use Rattle.numbers.proofs.Shortest.{Grouping}
use Rattle.numbers.proofs.write.Given as goal

abbrev pub invariant-loop-left : goal.invariant-loop-left
invariant-loop-left l = Grouping l.value l.bytes l.count l.left

abbrev pub decreases-loop-left : goal.decreases-loop-left
decreases-loop-left l = l.left
