use Rattle.event_reader.proofs.Progress.{reads_told}
use Rattle.event_reader.proofs.event.Goals as goal

pub returns-else-is_none-clause-event : goal.returns-else-is_none-clause-event
returns-else-is_none-clause-event c =
    let s = c.args.reader.now.script.now in
    let at = c.args.reader.now.at in
    reads_told s at at c.fields-event.new.reader.at c.fields-event.result c.if-is_none.ensures c.fields-event.ensures.event
