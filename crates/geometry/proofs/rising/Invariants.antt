use lib.ListN.{length}
use Rattle.geometry.proofs.Ordered.{Rises}
use Rattle.geometry.proofs.rising.Given as goal

abbrev pub invariant-loop-span : goal.invariant-loop-span
invariant-loop-span l = Rises l.fn.spans l.low l.rest

abbrev pub decreases-loop-span : goal.decreases-loop-span
decreases-loop-span l = length l.rest
