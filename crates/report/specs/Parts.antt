-- What the parts of the listing do, for the contracts of its own functions.
use Rattle.std.specs.Prelude.{ℕ, ◌≤◌, ◌≡◌, cond, List, ◌++◌, eqb, length, IfOk}
use Rattle.base.specs.Spliced.{over}
use Rattle.run.specs.declared.Ran.{Ran}
use Rattle.run.specs.Outcome.{RunOutcome, outcome}
use Rattle.report.specs.Lines.{event_lines, drive_lines, bad_line}

-- bytes written from an output's start, and how many they are
pub record Puts (bytes out : List ℕ) (count : ℕ) (after : List ℕ) : Type 0 where
  pub output : after ≡ over bytes out
  pub count-is : count ≡ length bytes

-- there is room for them
abbrev pub Room : List ℕ → List ℕ → Type 0
Room bytes out = length bytes ≤ length out

-- the lines that a run's result and its buffers give
abbrev pub run_lines : RunOutcome → List ℕ
run_lines (outcome answer place count drive answers stops) =
    cond (eqb answer 10) (bad_line place) (event_lines answers stops count ++ drive_lines drive.band_count drive.sensor_count drive)

-- a result of which every part is there: the rows of its drive, and a byte in both buffers for each event
pub record Sized (r : Ran) (answers stops : List ℕ) : Type 0 where
  pub few-bands : r.drive.band_count ≤ 16
  pub few-sensors : r.drive.sensor_count ≤ 16
  pub long : IfOk r.events (λ count. count ≤ length answers)
  pub wide : IfOk r.events (λ count. count ≤ length stops)
