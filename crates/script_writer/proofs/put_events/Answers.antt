use borrow.Author.Rules.{rules}
use Rattle.script_writer.proofs.Writing.{write-begin, write-room, write-bad, width_fits, count_fits, write-less, write_again, write-long, write-end}
use Rattle.script_writer.proofs.put_events.Goals as goal

pub loop-fields-init : goal.loop-fields-init
loop-fields-init c = search (write-begin, rules)

pub put_event-requires : goal.put_event-requires
put_event-requires c = search (write-room, rules)

pub returns-in_err-put : goal.returns-in_err-put
returns-in_err-put c = write-bad _ _ _ _ _ _ _ _ c.loop-fields.invariant _ c.is_empty.ensures (search rules) _ _ c.put_event.ensures (search rules) _ (search rules)

pub returns-then-put-gt-MOST_BYTES : goal.returns-then-put-gt-MOST_BYTES
returns-then-put-gt-MOST_BYTES c = write-long _ _ _ _ _ _ _ _ c.loop-fields.invariant _ c.in_ok-put.put _ c.put_event.ensures (search rules) _ c.is_empty.ensures (search rules) (search rules)

pub slice_bounds-fields-count : goal.slice_bounds-fields-count
slice_bounds-fields-count c = width_fits _ _ _ _ _ _ _ _ c.loop-fields.invariant _ c.in_ok-put.put _ c.put_event.ensures (search rules)

pub slice_bounds-fields-start : goal.slice_bounds-fields-start
slice_bounds-fields-start c = width_fits _ _ _ _ _ _ _ _ c.loop-fields.invariant _ c.in_ok-put.put _ c.put_event.ensures (search rules)

pub slice_bounds-tokens-count : goal.slice_bounds-tokens-count
slice_bounds-tokens-count c = count_fits _ _ _ _ _ _ _ _ c.loop-fields.invariant _ c.in_ok-put.put _ c.put_event.ensures (search rules)

pub slice_bounds-tokens-start : goal.slice_bounds-tokens-start
slice_bounds-tokens-start c = count_fits _ _ _ _ _ _ _ _ c.loop-fields.invariant _ c.in_ok-put.put _ c.put_event.ensures (search rules)

pub loop-fields-smaller : goal.loop-fields-smaller
loop-fields-smaller c = write-less _ _ _ _ _ _ _ _ c.loop-fields.invariant _ c.in_ok-put.put _ c.put_event.ensures (search rules)

pub loop-fields-preserved : goal.loop-fields-preserved
loop-fields-preserved c = write_again _ _ _ _ _ _ _ _ c.loop-fields.invariant _ c.in_ok-put.put _ c.put_event.ensures (search rules) _ c.is_empty.ensures (search rules) (search rules) (search rules) (search rules) (search rules)

pub returns : goal.returns
returns c = write-end _ _ _ _ _ _ _ _ c.loop-fields.invariant _ c.is_empty.ensures (search rules) _ _ c.is_empty-2.ensures c.then_some.ensures
