use Rattle.report.specs.Lines.{event_lines}
use Rattle.report.specs.Parts.{Puts}
use Rattle.report.proofs.lines.put_events.Given as goal

abbrev pub invariant-loop-index : goal.invariant-loop-index
invariant-loop-index l = Puts (event_lines l.answers l.stops l.index) l.fn.out l.at l.out
