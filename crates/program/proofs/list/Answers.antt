use Rattle.program.proofs.Cut.{lists}
use Rattle.program.proofs.list.Goals as goal

pub returns : goal.returns
returns c = search lists
