use borrow.Author.Rules.{rules}
use Rattle.event_form.proofs.Numbers.{count-band, count-other}
use Rattle.event_form.proofs.count_of.Goals as goal

pub returns-then-field-eq5 : goal.returns-then-field-eq5
returns-then-field-eq5 c = search (count-band, rules)

pub returns : goal.returns
returns c = search (count-other, rules)
