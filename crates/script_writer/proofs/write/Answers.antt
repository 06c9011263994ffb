use borrow.Author.Rules.{rules}
use Rattle.script_writer.proofs.Whole.{header_refused, events-refused, header-short, script-told, told_back}
use Rattle.script_writer.proofs.write.Goals as goal

pub returns-then-not-fits-clause-out_after : goal.returns-then-not-fits-clause-out_after
returns-then-not-fits-clause-out_after c = search (header_refused, rules)

pub put_events-requires : goal.put_events-requires
put_events-requires c = search (header-short _ _ _ _ c.put_values-start.ensures.value, rules)

pub returns-in_err-count-clause-out_after : goal.returns-in_err-count-clause-out_after
returns-in_err-count-clause-out_after c = search (events-refused, rules)

pub returns-clause-out_after : goal.returns-clause-out_after
returns-clause-out_after c = script-told _ _ _ _ _ c.fits.ensures (search rules) _ c.put_values-start.ensures.value _ _ _ _ c.in_ok-count.count c.put_events.ensures (search rules) c.put_values-start.ensures.bytes _ _ _ c.fill.ensures

pub returns-clause-back : goal.returns-clause-back
returns-clause-back c =
    told_back _ _ _ _ _ c.fill.result c.args.out.now c.fill.new.out (search rules)
    (script-told _ _ _ _ _ c.fits.ensures (search rules) _ c.put_values-start.ensures.value _ _ _ _ c.in_ok-count.count c.put_events.ensures (search rules) c.put_values-start.ensures.bytes _ _ _ c.fill.ensures)
