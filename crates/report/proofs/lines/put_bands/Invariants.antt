use Rattle.report.specs.Lines.{band_lines}
use Rattle.report.specs.Parts.{Puts}
use Rattle.report.proofs.lines.put_bands.Given as goal

abbrev pub invariant-loop-number : goal.invariant-loop-number
invariant-loop-number l = Puts (band_lines l.conditions l.rows l.number) l.fn.out l.at l.out
