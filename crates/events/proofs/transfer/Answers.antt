use mathlib.Core.Path.{◌≡◌}
use borrow.Author.Rules.{rules}
use Rattle.std.specs.Prelude.{Err}
use Rattle.events.proofs.Arms.{direction-refused, transfer-refused, transfer-done}
use Rattle.events.proofs.transfer.Goals as goal

pub returns-in_err-side : goal.returns-in_err-side
returns-in_err-side c =
    let q : c.from_residual.result ≡ Err c.in_err-side.field-0.0 = search rules in
    direction-refused c.args.drive.now c.args.direction c.args.range.start c.args.range.length _ _ q c.in_err-side.ensures

pub returns-in_err-transfer : goal.returns-in_err-transfer
returns-in_err-transfer c =
    let q : c.from_residual-in_err-transfer.result ≡ Err c.in_err-transfer.field-0.0 = search rules in
    transfer-refused c.args.drive.now c.args.direction c.args.range.start c.args.range.length _ _ c.in_ok-side.ensures c.closed_sides-closed.ensures _ _ q c.in_err-transfer.ensures.result_value

pub returns : goal.returns
returns c =
    transfer-done c.args.drive.now c.args.direction c.args.range.start c.args.range.length _ _ c.in_ok-side.ensures c.closed_sides-closed.ensures _ c.in_ok-transfer.ensures.result_value c.settle.ensures
