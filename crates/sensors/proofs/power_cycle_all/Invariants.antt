use Rattle.sensor.specs.Single.{power_cycle_of}
use Rattle.base.proofs.Loops.{Mapped}
use Rattle.sensors.proofs.power_cycle_all.Given as goal

abbrev pub invariant-loop-sensor : goal.invariant-loop-sensor
invariant-loop-sensor l = Mapped power_cycle_of 16 l.initial.sensor-items l.sensor-items l.sensor-index
