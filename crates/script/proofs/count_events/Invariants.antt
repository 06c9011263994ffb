use lib.ListN.{length}
use Prim.Native.Nat.{◌-◌}
use Rattle.script.proofs.Checking.{Checking}
use Rattle.script.proofs.count_events.Given as goal

abbrev pub invariant-loop-reader : goal.invariant-loop-reader
invariant-loop-reader l = Checking l.initial.reader l.reader l.count

abbrev pub decreases-loop-reader : goal.decreases-loop-reader
decreases-loop-reader l = length l.reader.script.now - l.reader.at
