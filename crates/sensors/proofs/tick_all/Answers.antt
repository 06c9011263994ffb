use borrow.Author.Rules.{rules}
use Rattle.base.proofs.Loops.{map-begin, map-done}
use Rattle.sensors.proofs.Quiet.{one-ticks, one-stays}
use Rattle.sensors.proofs.tick_all.Goals as goal
use Rattle.sensors.proofs.tick_all.Goals.{then-runs, else-runs}

pub loop-sensor-init : goal.loop-sensor-init
loop-sensor-init c = search (map-begin, rules)

pub loop-sensor-preserved : goal.loop-sensor-preserved
loop-sensor-preserved c = elim c.if-runs.branch [ then-runs w ↦ search one-ticks | else-runs w ↦ search one-stays ]

pub returns : goal.returns
returns c = search map-done
