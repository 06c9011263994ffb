use Rattle.geometry.proofs.Scans.{Seen}
use Rattle.geometry.proofs.run_of.Given as goal

abbrev pub invariant-loop-i : goal.invariant-loop-i
invariant-loop-i l = Seen l.spans l.block l.limit l.count l.i
