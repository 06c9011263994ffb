use Rattle.api.proofs.Telling.{told-written}
use Rattle.api.proofs.tokens_write.Goals as goal

pub returns-clause-out_after : goal.returns-clause-out_after
returns-clause-out_after c = search (told-written, c.tell.ensures.told)
