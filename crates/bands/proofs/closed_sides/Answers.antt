use Rattle.base.proofs.Loops.{fill-again}
use Rattle.bands.proofs.closed_sides.Goals as goal

pub loop-i-preserved : goal.loop-i-preserved
loop-i-preserved c = search fill-again
