use borrow.Author.Rules.{rules}
use Rattle.base.proofs.Loops.{map-begin, map-again, map-done}
use Rattle.sensors.proofs.lower_all.Goals as goal

pub loop-sensor-init : goal.loop-sensor-init
loop-sensor-init c = search (map-begin, rules)

pub loop-sensor-preserved : goal.loop-sensor-preserved
loop-sensor-preserved c = search map-again

pub returns : goal.returns
returns c = search map-done
