-- Document 02, #101, of a whole drive: what events make of the last readings of its sensors (theorem `drive-readings` in proofs/Readings).
use Rattle.std.specs.Prelude.{ℕ, ◌≤◌, ◌≡◌, true, length}
use Rattle.base.specs.Rows.{is_row}
use Rattle.sensor.specs.Level.{greatest_reading}
use Rattle.sensor.specs.Judging.{LastRead, NoReading}
use Rattle.drive.specs.declared.Drive.{Drive}
use Rattle.drive.specs.State.{sensor_at}
use Rattle.drive.specs.Events.{reading, reset, step_of}
use Rattle.reached.specs.Reached.{Reached}

pub record DriveReadings : Type 0 where
  -- "Instructors wait in vain"; "01's "from the next reading" is dropped.": on a drive that events reach a sensor's last reading, sent once more,
  -- changes nothing, neither of the sensor nor of a band
  pub nothing-waits : (d : Drive) → Reached d → (i v : ℕ) → LastRead v (sensor_at d i) → step_of d (reading i v) ≡ d
  -- "A sensor row now keeps its last reading"
  pub kept : (d : Drive) (i v : ℕ) → length d.sensors ≡ 16 → is_row d.sensor_count i ≡ true → v ≤ greatest_reading
      → LastRead v (sensor_at (step_of d (reading i v)) i)
  -- "none .. after a power cycle"
  pub power-cycle : (d : Drive) (i : ℕ) → NoReading (sensor_at (step_of d (reset 0)) i)
  -- and a reset of another type leaves the sensors as they are, their last readings too
  pub other-resets : (d : Drive) (type : ℕ) → (type ≡ 0 → ⊥) → (step_of d (reset type)).sensors ≡ d.sensors
