-- Document 02, #101, "Thresholds act when they are set.", in its own words: what a Set makes of a sensor and its last reading. It follows from
-- the rules of Columns (theorem `thresholds-act` in proofs/Thresholds).
use Rattle.std.specs.Prelude.{ℕ, ◌≤◌, ◌≡◌, true, false, cond}
use Rattle.base.specs.Columns.{named}
use Rattle.phases.specs.declared.Phase.TheVariants.{SS0, SS2}
use Rattle.sensor.specs.declared.single.Sensor.{Sensor}
use Rattle.sensor.specs.Level.{greatest_reading}
use Rattle.sensor.specs.Single.{moved, with_level, level_given, reading_of}
use Rattle.sensor.specs.Judging.{LastRead, NoReading, SameReading}
use Rattle.sensor_set.specs.declared.SensorColumns.{SensorColumns}
use Rattle.sensor_set.specs.Columns.{columns_fit, stored_of, switched_of, set_of}

-- a Set as document 01 has it: columns stored, then the sensor enabled or disabled, and nothing judged
abbrev pub unjudged : SensorColumns → Sensor → Sensor
unjudged c s = cond (columns_fit c) (switched_of c (stored_of c s)) s

-- a mask with a bit of a threshold or fraction: 2, 4, 16 or 32
pub data SomeThreshold (mask : ℕ) : Type 0 where
  on-threshold : named 2 mask ≡ true → SomeThreshold mask
  on-fraction : named 4 mask ≡ true → SomeThreshold mask
  off-threshold : named 16 mask ≡ true → SomeThreshold mask
  off-fraction : named 32 mask ≡ true → SomeThreshold mask

-- and one with none of them
pub record NoThreshold (mask : ℕ) : Type 0 where
  pub on_threshold : named 2 mask ≡ false
  pub on_fraction : named 4 mask ≡ false
  pub off_threshold : named 16 mask ≡ false
  pub off_fraction : named 32 mask ≡ false

-- a Set that is granted and judges
pub record Judges (c : SensorColumns) : Type 0 where
  pub fits : columns_fit c ≡ true
  pub bit : SomeThreshold c.mask

-- a Set that enables
pub record Enables (c : SensorColumns) : Type 0 where
  pub bit : named 1 c.mask ≡ true
  pub value : c.enabled ≡ 1

pub record ThresholdsAct : Type 0 where
  -- "A sensor row now keeps its last reading": a Set does not touch it
  pub keeps : (c : SensorColumns) (s : Sensor) → SameReading s (set_of c s)
  -- "A Set that names a threshold or fraction judges that reading again by the level rule, after its columns are stored and before it
  -- enables.": on the sensor with the columns stored it does what the same reading does, also where a value is the one that was there
  pub judges : (c : SensorColumns) (s : Sensor) (v : ℕ) → Judges c → LastRead v s → v ≤ greatest_reading
      → set_of c s ≡ switched_of c (reading_of v (stored_of c s))
  -- "With no reading the level stays.", and the Set does what it did
  pub no-reading : (c : SensorColumns) (s : Sensor) → NoReading s → set_of c s ≡ unjudged c s
  -- a Set that names neither judges nothing: timeouts, enabling, disabling
  pub no-threshold : (c : SensorColumns) (s : Sensor) → NoThreshold c.mask → set_of c s ≡ unjudged c s
  -- of a disabled sensor the judging moves the level alone, and enabling then acts by that level
  pub disabled : (c : SensorColumns) (s : Sensor) → Judges c → s.phase ≡ SS0
      → set_of c s ≡ switched_of c (with_level (level_given (stored_of c s)) (stored_of c s))
  -- "before it enables": a disabled sensor that is judged FALSE and then enabled is settled FALSE, and no timer runs
  pub judged-first : (c : SensorColumns) (s : Sensor) → Judges c → Enables c → s.phase ≡ SS0 → level_given (stored_of c s) ≡ false
      → set_of c s ≡ moved false SS2 false 0 (stored_of c s)
