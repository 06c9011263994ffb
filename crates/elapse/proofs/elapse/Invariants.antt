use Rattle.base.specs.Parts.{turns_left}
use Rattle.base.proofs.Turns.{Running}
use Rattle.drive.specs.State.{tick_of, stop_next}
use Rattle.elapse.specs.Jumps.{running}
use Rattle.elapse.proofs.elapse.Given as goal

abbrev pub invariant-loop-left : goal.invariant-loop-left
invariant-loop-left l = Running tick_of stop_next l.n l.initial.drive l.drive l.left l.stops

abbrev pub decreases-loop-left : goal.decreases-loop-left
decreases-loop-left l = turns_left stop_next running l.left l.drive
