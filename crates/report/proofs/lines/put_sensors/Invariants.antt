use Rattle.report.specs.Lines.{sensor_lines}
use Rattle.report.specs.Parts.{Puts}
use Rattle.report.proofs.lines.put_sensors.Given as goal

abbrev pub invariant-loop-number : goal.invariant-loop-number
invariant-loop-number l = Puts (sensor_lines l.sensors l.number) l.fn.out l.at l.out
