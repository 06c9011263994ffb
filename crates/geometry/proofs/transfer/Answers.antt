use borrow.Author.Rules.{rules}
use Rattle.geometry.proofs.Refusals.{done_transfer, and_locked}
use Rattle.geometry.proofs.transfer.Goals as goal

pub returns-clause-locked : goal.returns-clause-locked
returns-clause-locked c = and_locked _ _ _ _ _ _ 0 (search (done_transfer, rules))
