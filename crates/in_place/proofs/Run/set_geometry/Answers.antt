use mathlib.Core.Path.{◌≡◌}
use borrow.Author.Rules.{rules}
use Rattle.std.specs.Prelude.{Err}
use Rattle.in_place.proofs.Storing.{geometry_refused, geometry_runs}
use Rattle.in_place.proofs.Run.set_geometry.Goals as goal

pub returns-in_err-place : goal.returns-in_err-place
returns-in_err-place c =
    let q : c.from_residual.result ≡ Err c.in_err-place.field-0.0 = search rules in
    geometry_refused _ c.requires _ _ _ _ _ _ q c.in_err-place.ensures.places

pub returns : goal.returns
returns c = geometry_runs _ c.requires _ _ _ _ _ c.in_ok-place.ensures.places
