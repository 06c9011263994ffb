use Rattle.evaluator.proofs.Walk.{two-taken}
use Rattle.evaluator.proofs.on_two.Goals as goal

pub returns-clause-value : goal.returns-clause-value
returns-clause-value g c =
    two-taken {A = Unit} _ _ _ _ _ _ _ _ tt c.in_ok-second.ensures.items c.in_ok-first.ensures.items c.push.ensures.items c.operator.ensures
