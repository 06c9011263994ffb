use Rattle.api.proofs.Telling.{unrun-refused, unrun-placed}
use Rattle.api.proofs.event_unrun.Goals as goal

pub returns-in-Some : goal.returns-in-Some
returns-in-Some c = search (unrun-refused, c.in-Some.ensures)

pub returns-in-None : goal.returns-in-None
returns-in-None c = search (unrun-placed, c.in-None.ensures)
