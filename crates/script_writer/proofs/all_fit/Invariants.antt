use Rattle.script_writer.proofs.Values.{Fitting}
use Rattle.script_writer.proofs.all_fit.Given as goal

abbrev pub invariant-loop-value : goal.invariant-loop-value
invariant-loop-value l = Fitting l.mask l.values l.rest l.value-index
