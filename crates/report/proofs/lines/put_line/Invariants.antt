use Rattle.report.proofs.Putting.{Lining}
use Rattle.report.proofs.lines.put_line.Given as goal

abbrev pub invariant-loop-n : goal.invariant-loop-n
invariant-loop-n l = Lining l.fn.out l.numbers l.letter l.out l.at l.n-index
