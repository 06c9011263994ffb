use lib.ListN.{length}
use Rattle.discovery_answer.proofs.Walking.{Walking}
use Rattle.discovery_answer.proofs.features_in.Given as goal

abbrev pub invariant-loop-rest : goal.invariant-loop-rest
invariant-loop-rest l = Walking l.bytes l.features l.rest

abbrev pub decreases-loop-rest : goal.decreases-loop-rest
decreases-loop-rest l = length l.rest
