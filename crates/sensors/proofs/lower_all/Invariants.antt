use Rattle.sensor.specs.Parts.{lowered_by}
use Rattle.base.proofs.Loops.{Mapped}
use Rattle.sensors.proofs.lower_all.Given as goal

abbrev pub invariant-loop-sensor : goal.invariant-loop-sensor
invariant-loop-sensor l = Mapped (lowered_by l.k) 16 l.initial.sensor-items l.sensor-items l.sensor-index
