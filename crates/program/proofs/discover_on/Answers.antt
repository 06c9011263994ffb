use Rattle.program.proofs.Cut.{tells_none, tells-discovery}
use Rattle.program.proofs.discover_on.Goals as goal

pub returns-in-Ok : goal.returns-in-Ok
returns-in-Ok g c = search tells-discovery

pub returns-in-Err : goal.returns-in-Err
returns-in-Err g c = search tells_none
