use Rattle.script_writer.proofs.Values.{Putting}
use Rattle.script_writer.proofs.put_values.Given as goal

abbrev pub invariant-loop-value : goal.invariant-loop-value
invariant-loop-value l = Putting l.mask l.values l.initial.bytes l.at l.bytes l.place l.rest l.value-index
