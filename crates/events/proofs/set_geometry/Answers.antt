use mathlib.Core.Path.{◌≡◌}
use borrow.Author.Rules.{rules}
use Rattle.std.specs.Prelude.{Err}
use Rattle.events.proofs.Arms.{geometry-refused, geometry-done}
use Rattle.events.proofs.set_geometry.Goals as goal

pub returns-in_err-place : goal.returns-in_err-place
returns-in_err-place c =
    let q : c.from_residual.result ≡ Err c.in_err-place.field-0.0 = search rules in
    let p = c.in_err-place.ensures.places in
    search (geometry-refused, p, q)

pub returns : goal.returns
returns c = let p = c.in_ok-place.ensures.places in search (geometry-done, p)
