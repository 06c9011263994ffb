use Rattle.drive.specs.State.{with_rows}
use Rattle.in_place.proofs.Finishing.{RowsFinished}
use Rattle.in_place.proofs.Run.finish.Given as goal

abbrev pub invariant-loop-row : goal.invariant-loop-row
invariant-loop-row l =
    RowsFinished l.fn.self.drive l.reset l.conditions (record { drive = with_rows l.row-items l.fn.self.drive; any_lockable = l.any_lockable }) l.row-index
