use Rattle.sensor.specs.Single.{sensor_tick}
use Rattle.base.proofs.Loops.{Mapped}
use Rattle.sensors.proofs.tick_all.Given as goal

abbrev pub invariant-loop-sensor : goal.invariant-loop-sensor
invariant-loop-sensor l = Mapped sensor_tick 16 l.initial.sensor-items l.sensor-items l.sensor-index
