-- Document 01, 'The drive and its refusals' and 'Bands': the drive's state, the fresh drive, settling and ticks.
use Rattle.std.specs.Prelude.{ℕ, ◌≡◌, Bool, cond, ◌&&◌, List, map, leb, length, replicate, get_or}
use Rattle.base.specs.Lists.{any}
use Rattle.answer.specs.Numbers.{answer_number}
use Rattle.sensor.specs.declared.single.Sensor.{Sensor}
use Rattle.sensor.specs.Single.{fresh_sensor, ends_next}
use Rattle.sensor.specs.Single.{sensor_tick}
use Rattle.sensors.specs.Sixteen.{conditions_below}
use Rattle.evaluator.specs.declared.Evaluation.{Evaluation}
use Rattle.band.specs.declared.Row.{Row}
use Rattle.band.specs.Rows.{fresh_row, value_in, settle_row}
use Rattle.geometry.specs.declared.Span.{Span}
use Rattle.geometry.specs.Events.{no_span}
use Rattle.drive.specs.declared.Drive.{Drive}
use Rattle.drive.specs.declared.Fresh.{Fresh}

-- "Capacity is 1 to 2^48 blocks, bands 1 to 16 (band 0 is the global one), sensors 0 to 16."
abbrev pub most_blocks : ℕ
most_blocks = 281474976710656

abbrev pub most_bands : ℕ
most_bands = 16

abbrev pub most_sensors : ℕ
most_sensors = 16

unfoldable pub header_fits : ℕ → ℕ → ℕ → Bool
header_fits capacity bands sensors =
    leb 1 capacity && (leb capacity most_blocks && (leb 1 bands && (leb bands most_bands && leb sensors most_sensors)))

-- "Fresh: all columns 0, expressions empty, LockOnReset 1, levels FALSE, phases SS0." "A drive is 16 rows, .. whatever the header counts."
unfoldable pub fresh_drive : ℕ → ℕ → ℕ → Drive
fresh_drive capacity bands sensors = record {
  capacity = capacity;
  band_count = bands;
  sensor_count = sensors;
  rows = replicate 16 fresh_row;
  spans = replicate 16 no_span;
  sensors = replicate 16 fresh_sensor;
}

-- "A call that gives, outside a script, a header out of range .. gets 2; the fresh call then hands back a fresh drive of capacity 1, one
-- band and no sensors."
abbrev pub fresh_of : ℕ → ℕ → ℕ → Drive
fresh_of capacity bands sensors = cond (header_fits capacity bands sensors) (fresh_drive capacity bands sensors) (fresh_drive 1 1 0)

pub record Freshens (capacity bands sensors : ℕ) (r : Fresh) : Type 0 where
  pub answer : answer_number r.answer ≡ cond (header_fits capacity bands sensors) 0 2
  pub drive : r.drive ≡ fresh_of capacity bands sensors

-- the drive with other rows, other spans or other sensors

abbrev pub with_rows : List Row → Drive → Drive
with_rows l d = record {
  capacity = d.capacity;
  band_count = d.band_count;
  sensor_count = d.sensor_count;
  rows = l;
  spans = d.spans;
  sensors = d.sensors;
}

abbrev pub with_spans : List Span → Drive → Drive
with_spans l d = record {
  capacity = d.capacity;
  band_count = d.band_count;
  sensor_count = d.sensor_count;
  rows = d.rows;
  spans = l;
  sensors = d.sensors;
}

abbrev pub with_sensors : List Sensor → Drive → Drive
with_sensors l d = record {
  capacity = d.capacity;
  band_count = d.band_count;
  sensor_count = d.sensor_count;
  rows = d.rows;
  spans = d.spans;
  sensors = l;
}

-- the sensors' conditions: "FALSE if that row is absent"
unfoldable pub conditions_of : Drive → List Bool
conditions_of d = conditions_below d.sensor_count d.sensors

abbrev pub row_at : Drive → ℕ → Row
row_at d band = get_or d.rows band fresh_row

abbrev pub sensor_at : Drive → ℕ → Sensor
sensor_at d sensor = get_or d.sensors sensor fresh_sensor

-- the value of a band's expression: TRUE, FALSE or malformed
abbrev pub value_at : Drive → ℕ → Evaluation
value_at d band = value_in (conditions_of d) (row_at d band)

-- "Settling, after every event and tick: a side that is enabled, under a TRUE expression, becomes locked."
unfoldable pub settle_of : Drive → Drive
settle_of d = with_rows (map (settle_row (conditions_of d)) d.rows) d

-- "One tick takes 1 from every running timer; those that reach 0 settle together."
abbrev pub fall_of : Drive → Drive
fall_of d = with_sensors (map sensor_tick d.sensors) d

-- the timers fall, and then the bands settle
unfoldable pub tick_of : Drive → Drive
tick_of d = settle_of (fall_of d)

-- "Its stops are the ticks at which some timer ends": the tick to come is one
unfoldable pub stop_next : Drive → Bool
stop_next d = any ends_next d.sensors

-- What no event changes: the capacity and the counts, and how many rows, spans and sensors there are. The first drive has those of the
-- second.
pub record SameHeader (d e : Drive) : Type 0 where
  pub capacity : d.capacity ≡ e.capacity
  pub band_count : d.band_count ≡ e.band_count
  pub sensor_count : d.sensor_count ≡ e.sensor_count
  pub rows : length d.rows ≡ length e.rows
  pub spans : length d.spans ≡ length e.spans
  pub sensors : length d.sensors ≡ length e.sensors
