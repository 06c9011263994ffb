use Rattle.script.specs.Whole.{check_from}
use Rattle.script.specs.Parts.{events_from, events_in}
use Rattle.script.proofs.Checking.{check-begin, check-again, check-less, check-broken, check_done}
use borrow.Author.Rules.{rules}
use Rattle.script.proofs.count_events.Goals as goal

pub loop-reader-init : goal.loop-reader-init
loop-reader-init c = search check-begin

pub returns-in_err-ok_or : goal.returns-in_err-ok_or
unfolding check_from events_from events_in
returns-in_err-ok_or c = search (check-broken, rules)

pub loop-reader-smaller : goal.loop-reader-smaller
loop-reader-smaller c = check-less _ _ _ c.loop-reader.invariant (search rules) _ _ c.in_ok-ok_or.field-0 c.event.ensures.script c.event.ensures.event (search rules)

pub loop-reader-preserved : goal.loop-reader-preserved
loop-reader-preserved c = search (check-again, rules)

pub returns : goal.returns
unfolding check_from events_from events_in
returns c = search (check_done, rules)
