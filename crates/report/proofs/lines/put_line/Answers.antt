use Rattle.report.proofs.Putting.{field_room, feed_bound, line_done}
use borrow.Author.Rules.{rules}
use Rattle.report.proofs.lines.put_line.Goals as goal

pub put_field-at-requires : goal.put_field-at-requires
put_field-at-requires c = search (field_room, rules)

pub bounds-out-at : goal.bounds-out-at
bounds-out-at c = search feed_bound

pub returns : goal.returns
returns c = search (line_done, rules)
