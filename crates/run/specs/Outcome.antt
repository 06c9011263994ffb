-- Document 01, 'Script': what a run of the first events of a script hands back and writes.
use Rattle.std.specs.Prelude.{ℕ, cond, ◌&&◌, List, leb, length, take, Result, Ok, Err}
use Rattle.base.specs.Spliced.{over}
use Rattle.drive.specs.declared.Drive.{Drive}
use Rattle.drive.specs.State.{fresh_drive}
use Rattle.drive.specs.Events.{Event, run_of, answers_of, stops_in}
use Rattle.numbers.specs.Groups.{bad_script}
use Rattle.script.specs.declared.ScriptError.{ScriptError}
use Rattle.script.specs.Errors.{error_number, error_place}
use Rattle.script.specs.Whole.{Script, accepted, bad}
use Rattle.run.specs.declared.Ran.{Ran}

-- ---- what a run hands back: answer, place, number of events run and drive, with the two buffers

pub data RunOutcome : Type 0 where
  outcome : (answer place count : ℕ) (drive : Drive) (answers stops : List ℕ) → RunOutcome

-- done with the number of events run and place 0, or an error's number and place, with no event run
abbrev pub outcome_by : Result ℕ ScriptError → Drive → List ℕ → List ℕ → RunOutcome
outcome_by (Ok count) drive answers stops = outcome 0 0 count drive answers stops
outcome_by (Err error) drive answers stops = outcome (error_number error) (error_place error) 0 drive answers stops

abbrev pub outcome_in : Ran → List ℕ → List ℕ → RunOutcome
outcome_in r answers stops = outcome_by r.events r.drive answers stops

-- a refusal: "with the drive and lent memory unchanged", and no event run; the drive is that of a refused header
abbrev pub refused_run : ℕ → ℕ → List ℕ → List ℕ → RunOutcome
refused_run answer place answers stops = outcome answer place 0 (fresh_drive 1 1 0) answers stops

-- a list of events from a fresh drive: a byte for each event in both buffers, or 11 where one is too short
abbrev pub run_events : Drive → List Event → List ℕ → List ℕ → RunOutcome
run_events fresh es answers stops =
    cond (leb (length es) (length answers) && leb (length es) (length stops))
    (outcome 0 0 (length es) (run_of fresh es) (over (answers_of fresh es) answers) (over (stops_in fresh es) stops))
    (refused_run 11 0 answers stops)

-- the first events of a script, all where there are no more; "bad script" is 10 with its place
abbrev pub run_script : Script → ℕ → List ℕ → List ℕ → RunOutcome
run_script (accepted capacity bands sensors es) most answers stops = run_events (fresh_drive capacity bands sensors) (take most es) answers stops
run_script (bad place) most answers stops = refused_run bad_script place answers stops
