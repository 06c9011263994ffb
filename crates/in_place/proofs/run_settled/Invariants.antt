use Rattle.in_place.proofs.Running.{RunSoFar}
use Rattle.in_place.proofs.run_settled.Given as goal

abbrev pub invariant-loop-i : goal.invariant-loop-i
invariant-loop-i l =
    RunSoFar l.fn.reader.script.now l.fn.reader.at l.count l.fn.fresh l.fn.answers l.fn.stops l.run l.answers l.stops l.reader.script.now l.reader.at l.i
