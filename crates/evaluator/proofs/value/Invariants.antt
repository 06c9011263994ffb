use Rattle.evaluator.proofs.Walk.{Ran}
use Rattle.evaluator.proofs.value.Given as goal

abbrev pub invariant-loop-element : goal.invariant-loop-element
invariant-loop-element l = Ran l.conditions l.elements l.element-index l.stack
