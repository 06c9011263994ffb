use lib.ListN.{length}
use Prim.Native.Nat.{◌-◌}
use Rattle.script_reader.proofs.Flattening.{Flattening}
use Rattle.script_reader.proofs.flatten.Given as goal

abbrev pub invariant-loop-reader : goal.invariant-loop-reader
invariant-loop-reader l = Flattening l.initial.reader l.reader l.initial.fields l.initial.tokens l.fields l.tokens l.length

abbrev pub decreases-loop-reader : goal.decreases-loop-reader
decreases-loop-reader l = length l.reader.script.now - l.reader.at
