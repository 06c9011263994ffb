use Rattle.api.proofs.Telling.{anyway, not-anyway, anyway-done}
use Rattle.api.proofs.refused_anyway.Goals as goal

pub returns-in-Err : goal.returns-in-Err
returns-in-Err c = search anyway

pub returns-in_default : goal.returns-in_default
returns-in_default c = search (not-anyway, anyway-done)

pub returns-in_default-2 : goal.returns-in_default-2
returns-in_default-2 c = search (not-anyway, anyway-done)
