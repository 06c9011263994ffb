use Rattle.band.specs.Rows.{closed_on}
use Prim.Native.Nat.{◌-◌}
use Rattle.base.proofs.Loops.{Filled}
use Rattle.bands.proofs.closed_sides.Given as goal

abbrev pub invariant-loop-i : goal.invariant-loop-i
invariant-loop-i l = Filled (closed_on l.side) 16 l.rows l.initial.closed l.closed l.i

abbrev pub decreases-loop-i : goal.decreases-loop-i
decreases-loop-i l = 16 - l.i
