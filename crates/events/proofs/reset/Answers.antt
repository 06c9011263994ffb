use lib.Dec.{lit≤}
use native.Mathlib.Nat.{le_trans}
use Rattle.events.proofs.Arms.{reset-refused, power-cycle-done, reset-done}
use Rattle.events.proofs.reset.Goals as goal
use Rattle.events.proofs.reset.Goals.{then-reset_type-eq0, else-reset_type-eq0}

pub returns-then-reset_type-gt-LAST_RESET : goal.returns-then-reset_type-gt-LAST_RESET
returns-then-reset_type-gt-LAST_RESET c = search (reset-refused, le_trans, lit≤)

pub returns : goal.returns
returns c = elim c.if-reset_type-eq0.branch [ then-reset_type-eq0 w ↦ search power-cycle-done | else-reset_type-eq0 w ↦ search reset-done ]
