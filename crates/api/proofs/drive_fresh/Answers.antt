use Rattle.api.proofs.Telling.{fresh-told}
use Rattle.api.proofs.drive_fresh.Goals as goal

pub returns : goal.returns
returns c = search fresh-told
