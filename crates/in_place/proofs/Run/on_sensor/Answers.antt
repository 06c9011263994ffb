use mathlib.Core.Path.{◌≡◌}
use borrow.Author.Rules.{rules}
use Rattle.std.specs.Prelude.{Err}
use Rattle.in_place.proofs.Storing.{no_sensor, sensor_refused, sensor_turned, sensor_steady, sensor_looks}
use Rattle.in_place.proofs.Run.on_sensor.Goals as goal

pub returns-in_err-at-clause-runs : goal.returns-in_err-at-clause-runs
returns-in_err-at-clause-runs c =
    let q : c.from_residual.result ≡ Err c.in_err-at.field-0.0 = search rules in
    no_sensor _ c.requires _ _ _ _ q c.in_err-at.ensures.none

pub returns-in_err-new-clause-runs : goal.returns-in_err-new-clause-runs
returns-in_err-new-clause-runs c =
    let q : c.from_residual-in_err-new.result ≡ Err c.in_err-new.field-0.0 = search rules in
    let p = c.in_ok-at.ensures.ok in
    sensor_refused _ c.requires _ _ _ p.0 p.1 p.2 _ _ q c.in_err-new.ensures

pub returns-then-new-one-clause-runs : goal.returns-then-new-one-clause-runs
returns-then-new-one-clause-runs c =
    let p = c.in_ok-at.ensures.ok in
    let v = c.in_ok-new.ensures in
    sensor_turned _ c.requires _ _ _ p.0 p.1 p.2 _ _ v.0 v.1 _ c.finish.ensures

pub returns-else-new-one-clause-runs : goal.returns-else-new-one-clause-runs
returns-else-new-one-clause-runs c =
    let p = c.in_ok-at.ensures.ok in
    let v = c.in_ok-new.ensures in
    sensor_steady _ c.requires _ _ _ p.0 p.1 p.2 _ _ v.0 v.1 (search rules)

pub returns-then-new-one-clause-looks : goal.returns-then-new-one-clause-looks
returns-then-new-one-clause-looks c =
    let p = c.in_ok-at.ensures.ok in
    let v = c.in_ok-new.ensures in
    sensor_looks _ c.requires _ _ _ p.0 p.1 p.2 _ _ v.0 v.1 _ c.finish.ensures (search rules)
