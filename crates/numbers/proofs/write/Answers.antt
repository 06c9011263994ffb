use borrow.Author.Rules.{rules}
use Rattle.numbers.proofs.Shortest.{group-done, writes-back}
use Rattle.numbers.proofs.write.Goals as goal

pub returns : goal.returns
returns c = search (group-done, writes-back, rules)
