use borrow.Author.Rules.{rules}
use Rattle.base.proofs.Loops.{map-begin, map-done}
use Rattle.sensors.proofs.Quiet.{one-cycles, one-rests}
use Rattle.sensors.proofs.power_cycle_all.Goals as goal
use Rattle.sensors.proofs.power_cycle_all.Goals.{then-not-rests, else-not-rests}

pub loop-sensor-init : goal.loop-sensor-init
loop-sensor-init c = search (map-begin, rules)

pub loop-sensor-preserved : goal.loop-sensor-preserved
loop-sensor-preserved c =
    elim c.if-not-rests.branch [ then-not-rests w ↦ search one-cycles | else-not-rests w ↦ search (one-rests, c.rests.ensures.self_value) ]

pub returns : goal.returns
returns c = search map-done
