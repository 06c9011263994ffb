use borrow.Author.Rules.{rules}
use Rattle.base.proofs.Loops.{map-begin, map-again}
use Rattle.drive.proofs.Settling.{settle-done}
use Rattle.drive.proofs.Drive.settle.Goals as goal

pub loop-row-init : goal.loop-row-init
loop-row-init c = search (map-begin, rules)

pub loop-row-preserved : goal.loop-row-preserved
loop-row-preserved c = search map-again

pub returns : goal.returns
returns c = search settle-done
