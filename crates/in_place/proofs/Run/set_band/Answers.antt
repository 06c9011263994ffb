use mathlib.Core.Path.{◌≡◌}
use borrow.Author.Rules.{rules}
use Rattle.std.specs.Prelude.{Err}
use Rattle.in_place.proofs.Storing.{no_band, band_refused, band_runs, either_flag}
use Rattle.in_place.proofs.Run.set_band.Goals as goal

pub returns-in_err-at-clause-runs : goal.returns-in_err-at-clause-runs
returns-in_err-at-clause-runs c =
    let q : c.from_residual.result ≡ Err c.in_err-at.field-0.0 = search rules in
    no_band _ c.requires _ _ _ _ _ q c.in_err-at.ensures.none

pub returns-in_err-row-clause-runs : goal.returns-in_err-row-clause-runs
returns-in_err-row-clause-runs c =
    let q : c.from_residual-in_err-row.result ≡ Err c.in_err-row.field-0.0 = search rules in
    let p = c.in_ok-at.ensures.ok in
    band_refused _ c.requires _ _ _ _ _ _ p.0 p.1 p.2 c.conditions-conditions.ensures _ _ q c.in_err-row.ensures

pub returns-clause-runs : goal.returns-clause-runs
returns-clause-runs c =
    let p = c.in_ok-at.ensures.ok in
    band_runs _ c.requires _ _ _ _ _ _ p.0 p.1 p.2 c.conditions-conditions.ensures _ _ _ c.in_ok-row.ensures c.settle.ensures (either_flag _ _ _ c.lockable.ensures)
