use mathlib.Core.Path.{◌≡◌}
use borrow.Author.Rules.{rules}
use Rattle.std.specs.Prelude.{Err}
use Rattle.events.proofs.Arms.{no-sensor, sensor-refused, sensor-done}
use Rattle.events.proofs.on_sensor.Goals as goal

pub returns-in_err-at : goal.returns-in_err-at
returns-in_err-at c =
    let q : c.from_residual.result ≡ Err c.in_err-at.field-0.0 = search rules in
    no-sensor c.args.drive.now c.args.sensor c.args.event c.in_err-at.field-0.0 c.from_residual.result q c.in_err-at.ensures.none

pub returns-in_err-drive : goal.returns-in_err-drive
returns-in_err-drive c =
    let q : c.from_residual-in_err-drive.result ≡ Err c.in_err-drive.field-0.0 = search rules in
    sensor-refused c.args.drive.now c.args.sensor c.args.event c.in_err-drive.field-0.0 c.from_residual-in_err-drive.result q c.in_ok-at.ensures.ok.0 c.in_err-drive.ensures

pub returns : goal.returns
returns c =
    let k = c.in_ok-at.ensures.ok in
    sensor-done c.args.drive.now c.args.sensor c.args.event c.in_ok-at.at _ c.in_ok-drive.field-0 c.settle.new.self k.0 k.1 k.2 (search rules) c.in_ok-drive.ensures c.settle.ensures
