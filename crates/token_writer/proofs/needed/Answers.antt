use borrow.Author.Rules.{rules}
use Rattle.token_writer.proofs.Passes.{size_again, size_done}
use Rattle.token_writer.proofs.needed.Goals as goal

pub loop-code-preserved : goal.loop-code-preserved
loop-code-preserved c = search (size_again, rules)

pub returns : goal.returns
returns c = search (size_done, rules)
