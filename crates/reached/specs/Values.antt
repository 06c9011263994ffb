-- Document 02, #103, of a whole drive: every value that its rules ask for is the one with the count of sensors tested at each reference (theorem
-- `drive-values` in proofs/Values).
use Rattle.std.specs.Prelude.{ℕ, ◌≡◌, map}
use Rattle.expression.specs.Elements.{elements_in}
use Rattle.evaluator.specs.declared.Evaluation.{Evaluation}
use Rattle.evaluator.specs.Value.{is_true}
use Rattle.limit.specs.Limit.{own_conditions, tested_value}
use Rattle.band.specs.declared.Row.{Row}
use Rattle.band.specs.Rows.{lock_under, value_in}
use Rattle.band_columns.specs.declared.BandColumns.{BandColumns}
use Rattle.band_columns.specs.Sets.{held_by}
use Rattle.drive.specs.declared.Drive.{Drive}
use Rattle.drive.specs.State.{with_rows, conditions_of, row_at, value_at, settle_of}
use Rattle.drive.specs.Events.{held_under}
use Rattle.reached.specs.Reached.{Reached}

-- the value of a row's expression on a drive, with the test inside the walk
abbrev pub value_on : Drive → Row → Evaluation
value_on d row = tested_value d.sensor_count d.sensors (elements_in row.expression)

pub record DriveValues : Type 0 where
  -- "Values stay, for every element list and every count.": of every row, on every drive
  pub row-value : (d : Drive) (row : Row) → value_in (conditions_of d) row ≡ value_on d row
  -- the value of a band, as the listing has it
  pub band-value : (d : Drive) (band : ℕ) → value_at d band ≡ value_on d (row_at d band)
  -- the settling of the bands
  pub settles : (d : Drive) → settle_of d ≡ with_rows (map (λ row. lock_under (is_true (value_on d row)) row) d.rows) d
  -- whether a Set is held
  pub held : (d : Drive) (c : BandColumns) (new : Row) → held_under (conditions_of d) c new ≡ held_by c new (value_on d new)
  -- on a drive that events reach the conditions are the sensors' own: no script has a sensor at or above the count that is TRUE
  pub own : (d : Drive) → Reached d → conditions_of d ≡ own_conditions d.sensors
