use borrow.Author.Rules.{rules}
use Rattle.base.proofs.Turns.{run-begin, run-again}
use Rattle.sensors.proofs.Passing.{code-turns, run-done}
use Rattle.sensors.proofs.pass_all.Goals as goal

pub loop-left-init : goal.loop-left-init
loop-left-init c = search run-begin

pub overflow_add-stops : goal.overflow_add-stops
overflow_add-stops c = search (code-turns _ _ _ _ c.loop-left-test.true c.turn_once-turn.ensures, rules)

pub loop-left-smaller : goal.loop-left-smaller
loop-left-smaller c = search (code-turns _ _ _ _ c.loop-left-test.true c.turn_once-turn.ensures, rules)

pub loop-left-preserved : goal.loop-left-preserved
loop-left-preserved c = search (run-again, code-turns _ _ _ _ c.loop-left-test.true c.turn_once-turn.ensures)

pub returns : goal.returns
returns c = search (run-done, rules)
