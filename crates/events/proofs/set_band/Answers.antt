use mathlib.Core.Path.{◌≡◌}
use borrow.Author.Rules.{rules}
use Rattle.std.specs.Prelude.{Err}
use Rattle.events.proofs.Arms.{no-band, band-refused, band-done}
use Rattle.events.proofs.set_band.Goals as goal

pub returns-in_err-at : goal.returns-in_err-at
returns-in_err-at c =
    let q : c.from_residual.result ≡ Err c.in_err-at.field-0.0 = search rules in
    no-band c.args.drive.now c.args.band c.args.columns c.args.tokens.now _ _ q c.in_err-at.ensures.none

pub returns-in_err-drive : goal.returns-in_err-drive
returns-in_err-drive c =
    let q : c.from_residual-in_err-drive.result ≡ Err c.in_err-drive.field-0.0 = search rules in
    let k = c.in_ok-at.ensures.ok in
    band-refused c.args.drive.now c.args.band c.args.columns c.args.tokens.now c.in_ok-at.at _ _ k.0 k.1 k.2 (search rules) c.conditions-conditions.ensures _ _ q c.in_err-drive.ensures

pub returns : goal.returns
returns c =
    let k = c.in_ok-at.ensures.ok in
    band-done c.args.drive.now c.args.band c.args.columns c.args.tokens.now c.in_ok-at.at _ _ k.0 k.1 k.2 (search rules) c.conditions-conditions.ensures _ _ c.in_ok-drive.ensures c.settle.ensures
