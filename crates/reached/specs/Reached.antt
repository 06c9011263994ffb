-- What holds of every drive that events reach from the fresh drive of a header in range.
use Rattle.std.specs.Prelude.{ℕ, ◌≤◌, ◌≡◌, true, false, List, [], ◌∷◌, ◌⊎◌, length, get_or}
use Rattle.base.specs.Lists.{Bytes}
use Rattle.sensor.specs.Single.{fresh_sensor}
use Rattle.sensor.specs.declared.single.Sensor.{Sensor}
use Rattle.sensor.specs.Sound.{Sound, UpToDate}
use Rattle.expression.specs.declared.Element.{Element}
use Rattle.expression.specs.declared.Expression.{Expression}
use Rattle.expression.specs.Elements.{most_elements, expression_of, AllFit}
use Rattle.evaluator.specs.Formed.{well_formed}
use Rattle.band.specs.declared.Row.{Row}
use Rattle.band.specs.Rows.{fresh_row, all_resets}
use Rattle.geometry.specs.Blocks.{band_spans, overlapping}
use Rattle.geometry.specs.Events.{no_span, Within}
use Rattle.drive.specs.declared.Drive.{Drive}
use Rattle.drive.specs.State.{most_blocks, most_bands, most_sensors, settle_of}
use Rattle.drive.specs.Events.{Event, shape_of, if_setting}

-- An array of a drive, of which the header counts the first ones.
pub record Table {A : Type 0} (Good : A → Type 0) (fresh : A) (count : ℕ) (l : List A) : Type 0 where
  -- "A drive is 16 rows, .. whatever the header counts."
  pub sixteen : length l ≡ 16
  -- what the header does not count is as in the fresh drive
  pub unused : (i : ℕ) → count ≤ i → get_or l i fresh ≡ fresh
  -- and every one of the sixteen is as it should be
  pub each : (i : ℕ) → Good (get_or l i fresh)

-- An expression as a row holds it.
pub record Stored (x : Expression) : Type 0 where
  -- "its expression is the stored list of elements"
  pub list : List Element
  -- the list, and blank cells after it
  pub same : x ≡ expression_of list
  -- "0 to 32 elements"
  pub few : length list ≤ most_elements
  -- references with "four row bytes", and the operators "00 AND, 01 OR or 02 NOT"
  pub fit : AllFit list
  -- document 02, #104: "A Set with a malformed, non-empty expression is now refused.": it is empty or well formed
  pub formed : (list ≡ []) ⊎ (well_formed list ≡ true)

pub record RowFits (row : Row) : Type 0 where
  -- document 02, #105: "LockOnReset takes 0 to 15"
  pub lock_on_reset : row.lock_on_reset ≤ all_resets
  -- "its expression is the stored list of elements"
  pub expression : Stored row.expression

pub record SensorFits (s : Sensor) : Type 0 where
  -- a timer, a phase, a level and a condition that agree, and fractions in their range
  pub sound : Sound s
  -- document 02, #101: "Thresholds act when they are set.": the level is the one that the last reading gives under the thresholds as they are;
  -- that reading, where there is one, is in its range
  pub up-to-date : UpToDate s

-- "a header out of range" is refused
pub record InRange (capacity bands sensors : ℕ) : Type 0 where
  -- "Capacity is 1 to 2^48 blocks"
  pub some-blocks : 1 ≤ capacity
  pub few-blocks : capacity ≤ most_blocks
  -- "bands 1 to 16 (band 0 is the global one)"
  pub some-bands : 1 ≤ bands
  pub few-bands : bands ≤ most_bands
  -- "sensors 0 to 16"
  pub few-sensors : sensors ≤ most_sensors

-- All of it but the settling.
pub record Shaped (d : Drive) : Type 0 where
  -- the counts and the capacity
  pub header : InRange d.capacity d.band_count d.sensor_count
  -- the rows, each with its columns in their ranges
  pub rows : Table RowFits fresh_row d.band_count d.rows
  -- the bands, none of which goes "past end"
  pub spans : Table (Within d.capacity) no_span d.band_count d.spans
  -- no "two non-empty bands .. share a block"
  pub apart : overlapping (band_spans d.band_count d.spans) ≡ false
  -- the sensors, each as it should be
  pub sensors : Table SensorFits fresh_sensor d.sensor_count d.sensors

pub record Reached (d : Drive) : Type 0 where
  -- "Settling, after every event and tick": to settle the bands once more changes nothing
  pub settled : settle_of d ≡ d
  pub shaped : Shaped d

-- The tokens of a band Set are bytes; the fields of the other events are any numbers.
abbrev pub Fields : Event → Type 0
Fields e = Bytes (if_setting (shape_of e) (λ b c tokens. tokens) [])

abbrev pub AllFields : List Event → Type 0
AllFields [] = Unit {0}
AllFields (e ∷ es) = Fields e × AllFields es
