use borrow.Author.Rules.{rules}
use Rattle.events.proofs.Arms.{elapse-refused, elapse-done}
use Rattle.events.proofs.elapse.Goals as goal

pub returns-then-ticks-gt-MOST_TICKS-clause-replies : goal.returns-then-ticks-gt-MOST_TICKS-clause-replies
returns-then-ticks-gt-MOST_TICKS-clause-replies c = search (elapse-refused, rules)

pub returns-clause-replies : goal.returns-clause-replies
returns-clause-replies c = search (elapse-done, rules)
