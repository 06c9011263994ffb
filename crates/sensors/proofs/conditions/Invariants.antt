use Rattle.sensors.proofs.Gather.{Gathered}
use Rattle.sensors.proofs.conditions.Given as goal

abbrev pub invariant-loop-i : goal.invariant-loop-i
invariant-loop-i l = Gathered 16 l.count l.sensors l.out l.i
