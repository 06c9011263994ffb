use Rattle.run.proofs.Holding.{two-hold}
use borrow.Author.Rules.{rules}
use Rattle.run.proofs.run_two.Goals as goal

pub returns : goal.returns
returns c = record { stops_after = search rules; second = search rules; condition = search two-hold; reached = (search rules, search rules) }
