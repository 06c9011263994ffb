use lib.ListN.{length}
use Rattle.script_writer.proofs.Writing.{Writing}
use Rattle.script_writer.proofs.put_events.Given as goal

abbrev pub invariant-loop-fields : goal.invariant-loop-fields
invariant-loop-fields l = Writing l.initial.fields l.initial.tokens l.initial.bytes l.start l.bytes l.at l.fields l.tokens

abbrev pub decreases-loop-fields : goal.decreases-loop-fields
decreases-loop-fields l = length l.fields
