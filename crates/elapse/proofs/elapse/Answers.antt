use borrow.Author.Rules.{rules}
use Rattle.base.proofs.Turns.{run-begin, run-again}
use Rattle.elapse.proofs.Turning.{turned, run-done}
use Rattle.elapse.proofs.elapse.Goals as goal

pub loop-left-init : goal.loop-left-init
loop-left-init c = search run-begin

pub overflow_add-stops : goal.overflow_add-stops
overflow_add-stops c = let t = turned _ c.loop-left.drive _ _ _ _ c.loop-left-test.true c.turn_once-turn.ensures c.settle.ensures in search (t, rules)

pub loop-left-smaller : goal.loop-left-smaller
loop-left-smaller c = let t = turned _ c.loop-left.drive _ _ _ _ c.loop-left-test.true c.turn_once-turn.ensures c.settle.ensures in search (t, rules)

pub loop-left-preserved : goal.loop-left-preserved
loop-left-preserved c = let t = turned _ c.loop-left.drive _ _ _ _ c.loop-left-test.true c.turn_once-turn.ensures c.settle.ensures in search (run-again, t)

pub returns : goal.returns
returns c = search run-done
