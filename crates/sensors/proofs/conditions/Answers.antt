use borrow.Author.Rules.{rules}
use Rattle.sensors.proofs.Gather.{gather-begin, gather-again, gather-ends}
use Rattle.sensors.proofs.conditions.Goals as goal

pub loop-i-init : goal.loop-i-init
loop-i-init c = search (gather-begin, rules)

pub loop-i-preserved : goal.loop-i-preserved
loop-i-preserved c = search (gather-again, rules)

pub returns : goal.returns
returns c = search (gather-ends, rules)
