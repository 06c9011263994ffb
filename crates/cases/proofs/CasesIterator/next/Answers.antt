use Rattle.cases.proofs.Counting.{placed_next}
use Rattle.cases.proofs.CasesIterator.next.Goals as goal

pub invariant_of-self : goal.invariant_of-self
invariant_of-self c = record { placed = search placed_next }
