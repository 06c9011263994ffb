use mathlib.Core.Path.{◌≡◌}
use borrow.Author.Rules.{rules}
use Rattle.std.specs.Prelude.{Err}
use Rattle.in_place.proofs.Storing.{direction_refused, transfer_refused, transfer_runs}
use Rattle.in_place.proofs.Run.transfer.Goals as goal

pub returns-in_err-side : goal.returns-in_err-side
returns-in_err-side c =
    let q : c.from_residual.result ≡ Err c.in_err-side.field-0.0 = search rules in
    direction_refused _ c.requires _ _ _ _ _ q c.in_err-side.ensures

pub returns-in_err-transfer : goal.returns-in_err-transfer
returns-in_err-transfer c =
    let q : c.from_residual-in_err-transfer.result ≡ Err c.in_err-transfer.field-0.0 = search rules in
    transfer_refused _ c.requires _ _ _ _ _ c.in_ok-side.ensures c.closed_sides-closed.ensures _ _ q c.in_err-transfer.ensures.result_value

pub returns : goal.returns
returns c = transfer_runs _ c.requires _ _ _ _ _ c.in_ok-side.ensures c.closed_sides-closed.ensures c.in_ok-transfer.ensures.result_value
