use Rattle.api.proofs.Telling.{hand-refused, hand-told}
use Rattle.api.proofs.hand.Goals as goal

pub returns-then-out-codes : goal.returns-then-out-codes
returns-then-out-codes c = search hand-refused

pub returns : goal.returns
returns c = search hand-told
