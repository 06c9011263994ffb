use lib.Dec.{lit≤}
use native.Mathlib.Nat.{le_trans}
use Rattle.in_place.proofs.Storing.{reset_refused, cycle_runs, reset_runs}
use Rattle.in_place.proofs.Run.reset.Goals as goal
use Rattle.in_place.proofs.Run.reset.Goals.{then-reset_type-eq0, else-reset_type-eq0}

pub returns-then-reset_type-gt-LAST_RESET : goal.returns-then-reset_type-gt-LAST_RESET
returns-then-reset_type-gt-LAST_RESET c = search (reset_refused, le_trans, lit≤)

pub returns : goal.returns
returns c =
    let low = c.if-reset_type-gt-LAST_RESET.false in
    elim c.if-reset_type-eq0.branch [
      | then-reset_type-eq0 w ↦ cycle_runs _ c.requires _ low _ _ c.finish.ensures _ w.if-reset_type-eq0.true w.power_cycle_all.ensures w.self-is
      | else-reset_type-eq0 w ↦ reset_runs _ c.requires _ low _ _ c.finish.ensures w.if-reset_type-eq0.false w.self-is
    ]
