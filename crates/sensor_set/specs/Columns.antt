-- Document 01, 'Sensors', and document 02, #101: a Set of a sensor's columns.
use Rattle.std.specs.Prelude.{ℕ, Bool, not, cond, ◌&&◌, ◌||◌, List, [], ◌∷◌, eqb, ltb}
use Rattle.base.specs.Columns.{named, within}
use Rattle.base.specs.Refusals.{TableRow, when, first_of}
use Rattle.sensor.specs.declared.single.Sensor.{Sensor}
use Rattle.sensor_set.specs.declared.SensorColumns.{SensorColumns}
use Rattle.sensor_set.specs.declared.SensorEvent.{SensorEvent}
use Rattle.sensor_set.specs.declared.SensorEvent.TheVariants as E
use Rattle.sensor.specs.Single.{greatest_number, greatest_fraction, judged, reading_refusals, reading_of, enable_of, disable_of}

-- the masks of seven bits are those below
abbrev pub sensor_masks : ℕ
sensor_masks = 128

-- Every bit of the mask is one of the seven, and every named value is in its range. "A boolean is 0 or 1."
unfoldable pub columns_fit : SensorColumns → Bool
columns_fit c =
    let m = c.mask in
    ltb m sensor_masks
    && (within 1 (named 1 m) c.enabled
    && (within greatest_number (named 2 m) c.on_threshold
    && (within greatest_fraction (named 4 m) c.on_fraction
    && (within greatest_number (named 8 m) c.on_timeout
    && (within greatest_number (named 16 m) c.off_threshold
    && (within greatest_fraction (named 32 m) c.off_fraction
    && within greatest_number (named 64 m) c.off_timeout))))))

-- 2 "out of range: a field exceeds its range"; "an unknown mask bit .. gets 2": the refusals of a Set of a sensor that is there
abbrev pub set_refusals : SensorColumns → List TableRow
set_refusals c = when 2 (not (columns_fit c)) ∷ []

abbrev pub set_answer : SensorColumns → ℕ
set_answer c = first_of (set_refusals c)

-- the named columns stored. "A running timer ignores a changed timeout."
unfoldable pub stored_of : SensorColumns → Sensor → Sensor
stored_of c s =
    let m = c.mask in
    record {
      on_threshold = cond (named 2 m) c.on_threshold s.on_threshold;
      on_fraction = cond (named 4 m) c.on_fraction s.on_fraction;
      on_timeout = cond (named 8 m) c.on_timeout s.on_timeout;
      off_threshold = cond (named 16 m) c.off_threshold s.off_threshold;
      off_fraction = cond (named 32 m) c.off_fraction s.off_fraction;
      off_timeout = cond (named 64 m) c.off_timeout s.off_timeout;
      level = s.level;
      phase = s.phase;
      condition = s.condition;
      timer = s.timer;
      last_reading = s.last_reading;
    }

-- #101: "A Set that names a threshold or fraction", by its mask
abbrev pub names_threshold : ℕ → Bool
names_threshold m = (named 2 m || named 4 m) || (named 16 m || named 32 m)

-- "judges that reading again by the level rule": the last reading, by the columns as they now are
unfoldable pub rejudged_of : SensorColumns → Sensor → Sensor
rejudged_of c s = cond (names_threshold c.mask) (judged s) s

-- the sensor enabled or disabled, where the Set names it
unfoldable pub switched_of : SensorColumns → Sensor → Sensor
switched_of c s = cond (named 1 c.mask) (cond (eqb c.enabled 1) (enable_of s) (disable_of s)) s

-- "A Set stores all its columns before it enables."; #101: it judges "after its columns are stored and before it enables"
unfoldable pub set_of : SensorColumns → Sensor → Sensor
set_of c s = cond (columns_fit c) (switched_of c (rejudged_of c (stored_of c s))) s

-- ---- the events on one sensor that is there: a reading, and a Set

abbrev pub sensor_refusals : SensorEvent → List TableRow
sensor_refusals (E.Reading v) = reading_refusals v
sensor_refusals (E.Set c) = set_refusals c

abbrev pub sensor_answer : SensorEvent → ℕ
sensor_answer x = first_of (sensor_refusals x)

abbrev pub sensor_after : SensorEvent → Sensor → Sensor
sensor_after (E.Reading v) = reading_of v
sensor_after (E.Set c) = set_of c
