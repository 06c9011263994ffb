use lib.ListN.{length}
use Rattle.std.proofs.Common.{◌≡◌}
use Rattle.geometry.specs.Blocks.{overlapping}
use Rattle.geometry.proofs.some_meet.Given as goal

abbrev pub invariant-loop-span : goal.invariant-loop-span
invariant-loop-span l = overlapping l.rest ≡ overlapping l.fn.spans

abbrev pub decreases-loop-span : goal.decreases-loop-span
decreases-loop-span l = length l.rest
