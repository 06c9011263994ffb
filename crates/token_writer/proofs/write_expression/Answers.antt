use mathlib.Core.Path.{ap}
use lib.ListN.{length}
use Rattle.token_writer.proofs.Arms.{write_first}
use Rattle.token_writer.proofs.write_expression.Goals as goal

pub returns-clause-writes : goal.returns-clause-writes
returns-clause-writes c =
    write_first c.args.expression.now _ (length c.as_slice.result.now) (ap length c.as_slice.ensures.value) _ _ _ c.codes-list.ensures.value c.write.ensures.writes
