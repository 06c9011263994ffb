use Rattle.base.proofs.Loops.{Mapped}
use Rattle.band.specs.Rows.{settle_row}
use Rattle.drive.proofs.Drive.settle.Given as goal

abbrev pub invariant-loop-row : goal.invariant-loop-row
invariant-loop-row l = Mapped (settle_row l.conditions) 16 l.initial.row-items l.row-items l.row-index
