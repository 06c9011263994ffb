use Rattle.std.specs.Prelude.{Ok}
use Rattle.run.specs.Parts.{refused_in}
use Rattle.run.proofs.Reaching.{all_reached}
use Rattle.run.proofs.run.Goals as goal

pub returns-in-Ok-clause-reached : goal.returns-in-Ok-clause-reached
returns-in-Ok-clause-reached c = all_reached _ _ _ _ (record { events = Ok c.in-Ok.count; drive = c.in-Ok.drive }) _ _ c.in-Ok.ensures c.type_inv.script

pub returns-in-Err-clause-reached : goal.returns-in-Err-clause-reached
returns-in-Err-clause-reached c = rw c.refused.ensures (all_reached _ _ _ _ (refused_in c.in-Err.error) _ _ c.in-Err.ensures c.type_inv.script)
