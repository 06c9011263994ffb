use Rattle.band.specs.Rows.{reset_row}
use Rattle.base.proofs.Loops.{Mapped}
use Rattle.bands.proofs.reset_all.Given as goal

abbrev pub invariant-loop-row : goal.invariant-loop-row
invariant-loop-row l = Mapped (reset_row l.reset_type) 16 l.initial.row-items l.row-items l.row-index
