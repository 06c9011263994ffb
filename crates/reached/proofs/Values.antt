-- The values that a drive's rules ask for: the record `DriveValues`.
use mathlib.Core.Path.{◌≡◌, refl, ap, ◌∙◌}
use mathlib.Core.List.{List, [], ◌∷◌, map}
use Rattle.sensor.specs.declared.single.Sensor.{Sensor}
use Rattle.sensor.proofs.Motion.{fresh-condition}
use Rattle.expression.specs.Elements.{elements_in}
use Rattle.evaluator.specs.declared.Evaluation.{Evaluation}
use Rattle.evaluator.specs.Value.{is_true}
use Rattle.limit.specs.Limit.{own_conditions}
use Rattle.limit.proofs.Limit.{own_at, limit-test}
use Rattle.band.specs.declared.Row.{Row}
use Rattle.band.specs.Rows.{lock_under, value_in, settle_row}
use Rattle.band_columns.specs.declared.BandColumns.{BandColumns}
use Rattle.band_columns.specs.Sets.{held_by}
use Rattle.drive.specs.declared.Drive.{Drive}
use Rattle.drive.specs.State.{with_rows, conditions_of, row_at, settle_of}
use Rattle.drive.specs.Events.{held_under}
use Rattle.reached.specs.Reached.{Reached}
use Rattle.reached.specs.Values.{value_on, DriveValues}

row-value : (d : Drive) (row : Row) → value_in (conditions_of d) row ≡ value_on d row
unfolding conditions_of
row-value d row = limit-test.values-stay d.sensor_count d.sensors (elements_in row.expression)

-- all rows, each locked under its value
rows-settle : (d : Drive) (l : List Row) → map (settle_row (conditions_of d)) l ≡ map (λ row. lock_under (is_true (value_on d row)) row) l
unfolding settle_row
rows-settle d [] = refl
rows-settle d (row ∷ l) =
    ap (λ (v : Evaluation). lock_under (is_true v) row ∷ map (settle_row (conditions_of d)) l) (row-value d row)
    ∙ ap (λ (m : List Row). lock_under (is_true (value_on d row)) row ∷ m) (rows-settle d l)

settles : (d : Drive) → settle_of d ≡ with_rows (map (λ row. lock_under (is_true (value_on d row)) row) d.rows) d
unfolding settle_of
settles d = ap (λ (l : List Row). with_rows l d) (rows-settle d d.rows)

held : (d : Drive) (c : BandColumns) (new : Row) → held_under (conditions_of d) c new ≡ held_by c new (value_on d new)
held d c new = ap (held_by c new) (row-value d new)

own : (d : Drive) → Reached d → conditions_of d ≡ own_conditions d.sensors
unfolding conditions_of
own d r =
    limit-test.all-false-above d.sensor_count d.sensors
    (λ row h. own_at d.sensors row ∙ ap (λ (s : Sensor). s.condition) (r.shaped.sensors.unused row h) ∙ fresh-condition)

pub drive-values : DriveValues
drive-values = record { row-value = row-value; band-value = λ d band. row-value d (row_at d band); settles = settles; held = held; own = own }
