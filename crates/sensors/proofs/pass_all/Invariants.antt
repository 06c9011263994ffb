use mathlib.Core.List.{map}
use Rattle.base.specs.Lists.{any, count}
use Rattle.base.specs.Parts.{turns_left}
use Rattle.base.proofs.Turns.{Running}
use Rattle.sensor.specs.Single.{sensor_tick, ends_next, runs}
use Rattle.sensors.proofs.pass_all.Given as goal

abbrev pub invariant-loop-left : goal.invariant-loop-left
invariant-loop-left l = Running (map sensor_tick) (any ends_next) l.n l.initial.sensors l.sensors l.left l.stops

abbrev pub decreases-loop-left : goal.decreases-loop-left
decreases-loop-left l = turns_left (any ends_next) (count runs) l.left l.sensors
