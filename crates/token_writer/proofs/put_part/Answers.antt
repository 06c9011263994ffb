use borrow.Author.Rules.{rules}
use Rattle.token_writer.proofs.Arms.{put_reference, put_operator}
use Rattle.token_writer.proofs.put_part.Goals as goal

pub returns-in-Reference : goal.returns-in-Reference
returns-in-Reference c = search (put_reference, rules)

pub returns-in-Operator : goal.returns-in-Operator
returns-in-Operator c = search (put_operator, rules)
