-- Document 01, 'Script': the drive that a script leaves after its last event.
use Rattle.std.specs.Prelude.{ℕ, Result, Ok, Err}
use Rattle.drive.specs.declared.Drive.{Drive}
use Rattle.drive.specs.State.{fresh_drive}
use Rattle.drive.specs.Events.{run_of}
use Rattle.numbers.specs.Groups.{bad_script}
use Rattle.script.specs.Whole.{Script, accepted, bad}
use Rattle.run.specs.declared.Unrun.{Unrun}

-- answer, place and drive
pub data LeftOutcome : Type 0 where
  leaves : (answer place : ℕ) (drive : Drive) → LeftOutcome

-- done with the drive; or bad script, with the place and the drive that are handed over
abbrev pub left_in : Result Drive Unrun → LeftOutcome
left_in (Ok drive) = leaves 0 0 drive
left_in (Err unrun) = leaves 10 unrun.place unrun.drive

-- the drive that is handed over, with a bad script too
abbrev pub left_drive : Result Drive Unrun → Drive
left_drive (Ok drive) = drive
left_drive (Err unrun) = unrun.drive

-- every event of the script, from the fresh drive of its header; or 10 "bad script" with its place, and the drive of a refused header
abbrev pub left_by : Script → LeftOutcome
left_by (accepted capacity bands sensors es) = leaves 0 0 (run_of (fresh_drive capacity bands sensors) es)
left_by (bad place) = leaves bad_script place (fresh_drive 1 1 0)
