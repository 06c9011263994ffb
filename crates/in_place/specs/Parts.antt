-- What the run keeps of its drive, and what each of its parts makes of it.
use Rattle.std.specs.Prelude.{ℕ, ◌≡◌, false, ◌||◌, map, length, get_or, Option, Some, None, Result, Ok, Err}
use Rattle.base.specs.Lists.{any}
use Rattle.answer.specs.declared.Refusal.{Refusal}
use Rattle.answer.specs.Numbers.{answer_number}
use Rattle.sensor.specs.Single.{fresh_sensor}
use Rattle.band.specs.Rows.{fresh_row, reset_row}
use Rattle.band.specs.Parts.{is_lockable}
use Rattle.drive.specs.declared.Drive.{Drive}
use Rattle.drive.specs.State.{with_rows, settle_of}
use Rattle.drive.specs.Events.{Event, reading, sensor_set, answer_of, stops_of, step_of}
use Rattle.sensor_set.specs.declared.SensorEvent.{SensorEvent}
use Rattle.sensor_set.specs.declared.SensorEvent.TheVariants as S
use Rattle.in_place.specs.declared.Run.{Run}

-- sixteen rows and sensors, and bands that are settled
pub record SettledSixteen (d : Drive) : Type 0 where
  pub rows : length d.rows ≡ 16
  pub sensors : length d.sensors ≡ 16
  pub settled : settle_of d ≡ d

-- the flag is right: where it is not set, no row is lockable
abbrev pub Flagged : Run → Type 0
Flagged r = r.any_lockable ≡ false → any is_lockable r.drive.rows ≡ false

-- what holds once an event is stored
pub record Stored (r : Run) : Type 0 where
  pub rows : length r.drive.rows ≡ 16
  pub flag : Flagged r

-- what holds between two events
pub record Kept (r : Run) : Type 0 where
  pub drive : SettledSixteen r.drive
  pub flag : Flagged r

-- the stops of an event; a refused one has none
abbrev pub ended_in : Result ℕ Refusal → ℕ
ended_in (Ok stops) = stops
ended_in (Err refusal) = 0

-- an event run: its answer, its stops and the drive that it left
pub record Runs (was : Run) (e : Event) (r : Result ℕ Refusal) (now : Run) : Type 0 where
  pub answer : answer_number r ≡ answer_of was.drive e
  pub stops : ended_in r ≡ stops_of was.drive e
  pub drive : now.drive ≡ step_of was.drive e
  pub kept : Kept now

-- the two events on one sensor
abbrev pub on_sensor : ℕ → SensorEvent → Event
on_sensor sensor (S.Reading value) = reading sensor value
on_sensor sensor (S.Set columns) = sensor_set sensor columns

-- a reset of a type, where there is one, and then the bands settle
abbrev pub reset_by : Option ℕ → Drive → Drive
reset_by (Some type) d = with_rows (map (reset_row type) d.rows) d
reset_by None d = d

unfoldable pub finish_of : Option ℕ → Drive → Drive
finish_of reset d = settle_of (reset_by reset d)

-- once an event is stored: its rows locked, and the flag right
pub record Finishes (was : Run) (reset : Option ℕ) (now : Run) : Type 0 where
  pub drive : now.drive ≡ finish_of reset was.drive
  pub flag : Flagged now

-- ---- that rows are looked at only where it is due: what each event on one sensor and on one row makes of the flag

-- after an event on one sensor whose condition is the same then, the flag is as it was: as after a look at the rows it may not be
abbrev pub LooksIfTurned : Run → ℕ → Run → Type 0
LooksIfTurned was sensor now =
    (get_or now.drive.sensors sensor fresh_sensor).condition ≡ (get_or was.drive.sensors sensor fresh_sensor).condition → now.any_lockable ≡ was.any_lockable

-- a Set of a row sets the flag where the row is lockable then, and else leaves it
abbrev pub FlagsIfLockable : Run → ℕ → Result ℕ Refusal → Run → Type 0
FlagsIfLockable was band (Ok stops) now = now.any_lockable ≡ (was.any_lockable || is_lockable (get_or now.drive.rows band fresh_row))
FlagsIfLockable was band (Err refusal) now = now.any_lockable ≡ was.any_lockable
