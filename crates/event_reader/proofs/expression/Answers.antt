use borrow.Author.Rules.{rules}
use Rattle.event_reader.proofs.Part.{part_is}
use Rattle.event_reader.proofs.expression.Goals as goal

pub returns-then-names-clause-bytes : goal.returns-then-names-clause-bytes
returns-then-names-clause-bytes c =
    part_is c.args.reader.now.script.now c.args.reader.now.at c.args.mask c.in_ok-size.size c.number.new.self.at c.part.new.self.at (search rules) (search rules)
    (search rules) c.part.result (search rules) (search rules)
