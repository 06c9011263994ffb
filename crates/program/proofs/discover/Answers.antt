use Rattle.program.proofs.Ending.{not-read, ended}
use Rattle.program.proofs.discover.Goals as goal

pub returns-in_err-read : goal.returns-in_err-read
returns-in_err-read g c = search (not-read, c.in_err-read.ensures.unread, c.from_residual.ensures)

pub returns : goal.returns
returns g c = search (ended, c.in_ok-read.ensures.read)
