use mathlib.Core.Path.{refl}
use Rattle.run.proofs.Leaving.{left_ok, left_unrun}
use Rattle.run.proofs.left_by.Goals as goal

pub returns-in-Ok-clause-result_value : goal.returns-in-Ok-clause-result_value
returns-in-Ok-clause-result_value c =
    left_ok c.args.script.now c.args.answers.now c.args.stops.now c.requires.0 c.requires.1 c.run-ran.result _ _ _ c.in-Ok.is c.run-ran.ensures.stops_after

pub returns-in-Err-clause-result_value : goal.returns-in-Err-clause-result_value
returns-in-Err-clause-result_value c =
    left_unrun c.args.script.now c.args.answers.now c.args.stops.now c.requires.0 c.requires.1 c.run-ran.result c.in-Err.error (record { place = c.place.result; drive = c.run-ran.result.drive }) _ _ c.in-Err.is
    c.run-ran.ensures.stops_after c.place.ensures refl
