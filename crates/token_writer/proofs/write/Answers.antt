use borrow.Author.Rules.{rules}
use Rattle.std.specs.Prelude.{Ok}
use Rattle.token_writer.specs.Write.{Writes}
use Rattle.token_writer.proofs.Arms.{write_done}
use Rattle.token_writer.proofs.Functions.{reads_back}
use Rattle.token_writer.proofs.write.Goals as goal

pub returns-clause-back : goal.returns-clause-back
returns-clause-back c =
    let w : Writes c.args.codes.now c.args.out.now (Ok c.needed-count.result) c.fill.new.out = search (write_done, rules) in
    reads_back c.args.codes.now c.args.out.now _ _ w
