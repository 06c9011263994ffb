use Prim.Native.Nat.{◌-◌}
use Rattle.token_reader.proofs.Listing.{Reading}
use Rattle.token_reader.proofs.elements_in.Given as goal

abbrev pub invariant-loop-rest : goal.invariant-loop-rest
invariant-loop-rest l = Reading l.bytes l.expression l.rest

abbrev pub decreases-loop-rest : goal.decreases-loop-rest
decreases-loop-rest l = 32 - l.expression.count
