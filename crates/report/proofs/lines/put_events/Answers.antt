use Rattle.report.proofs.Putting.{lines_begin, lines_again}
use borrow.Author.Rules.{rules}
use Rattle.report.proofs.lines.put_events.Goals as goal

pub loop-index-init : goal.loop-index-init
loop-index-init c = search lines_begin

pub loop-index-preserved : goal.loop-index-preserved
loop-index-preserved c = search (lines_again, rules)
