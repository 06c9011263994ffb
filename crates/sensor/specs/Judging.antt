-- Document 02, #101, in its own words: the last reading of one sensor, and what judging it again comes to. It follows from the rules of Single
-- (theorem `judging` in proofs/Judging).
use Rattle.std.specs.Prelude.{ℕ, ◌≤◌, ◌<◌, ◌≡◌, Some, None}
use Rattle.sensor.specs.declared.single.Sensor.{Sensor}
use Rattle.sensor.specs.Level.{greatest_reading}
use Rattle.sensor.specs.Single.{fresh_sensor, judged, reading_of, enable_of, disable_of, power_cycle_of, sensor_tick}
use Rattle.sensor.specs.Sound.{UpToDate}

-- v is the last reading of a sensor
pub record LastRead (v : ℕ) (s : Sensor) : Type 0 where
  pub value : s.last_reading ≡ Some v

-- a sensor has no last reading
abbrev pub NoReading : Sensor → Type 0
NoReading s = s.last_reading ≡ None

-- the second sensor has the last reading of the first, or none as the first has none
pub record SameReading (s t : Sensor) : Type 0 where
  pub value : t.last_reading ≡ s.last_reading

pub record Judging : Type 0 where
  -- "A sensor row now keeps its last reading": every one that is granted, of a disabled sensor too
  pub kept : (v : ℕ) (s : Sensor) → v ≤ greatest_reading → LastRead v (reading_of v s)
  -- and one that is refused leaves the sensor as it was
  pub refused : (v : ℕ) (s : Sensor) → greatest_reading < v → reading_of v s ≡ s
  -- ", none before the first or after a power cycle."
  pub none_first : NoReading fresh_sensor
  pub none_after : (s : Sensor) → NoReading (power_cycle_of s)
  -- and nothing else touches it: no tick, no enabling, no disabling, no judging
  pub tick-keeps : (s : Sensor) → SameReading s (sensor_tick s)
  pub enable-keeps : (s : Sensor) → SameReading s (enable_of s)
  pub disable-keeps : (s : Sensor) → SameReading s (disable_of s)
  pub judged-keeps : (s : Sensor) → SameReading s (judged s)
  -- "judges that reading again by the level rule": it does what the same reading does
  pub again : (v : ℕ) (s : Sensor) → LastRead v s → v ≤ greatest_reading → judged s ≡ reading_of v s
  -- "With no reading the level stays.", and all else with it
  pub no-reading : (s : Sensor) → NoReading s → judged s ≡ s
  -- and where the level is the one that the last reading gives (`UpToDate`), judging changes nothing
  pub nothing-waits : (s : Sensor) → UpToDate s → judged s ≡ s
