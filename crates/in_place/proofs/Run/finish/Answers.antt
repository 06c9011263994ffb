use mathlib.Core.Path.{refl}
use Rattle.in_place.proofs.Finishing.{finish_begin, finish_lock, finish_stay, finish_pass, finish_done}
use Rattle.in_place.proofs.Run.finish.Goals as goal
use Rattle.in_place.proofs.Run.finish.Goals.{then-lockable+then-locks, then-lockable+else-locks, else-lockable}

pub loop-row-init : goal.loop-row-init
loop-row-init c = search finish_begin

pub loop-row-preserved : goal.loop-row-preserved
loop-row-preserved c =
    let g = c.loop-row.invariant in
    elim c.if-lockable.branch [
      | then-lockable+then-locks w ↦ rw (w.any_lockable-is, w.row-items-is) (finish_lock _ _ _ _ _ _ g _ _ w.locks.ensures w.if-locks.true w.lock.ensures)
      | then-lockable+else-locks w ↦ rw (w.any_lockable-is, w.row-items-is) (finish_stay _ _ _ _ _ _ g _ _ w.locks.ensures w.if-locks.false refl)
      | else-lockable w ↦ rw (w.any_lockable-is, w.row-items-is) (finish_pass _ _ _ _ _ _ g _ _ c.lockable.ensures w.if-lockable.false refl)
    ]

pub returns : goal.returns
returns c = finish_done _ _ _ _ _ c.requires c.conditions-conditions.ensures c.loop-row.invariant c.loop-row-test.false
