-- What the parts of the run do, for the contracts of private functions.
use Rattle.std.specs.Prelude.{ℕ, ◌≡◌, cond, List, ltb, Result, Ok, Err}
use Rattle.drive.specs.declared.Drive.{Drive}
use Rattle.drive.specs.State.{fresh_drive}
use Rattle.script.specs.Whole.{read_script}
use Rattle.script.specs.declared.ScriptError.{ScriptError}
use Rattle.run.specs.declared.Ran.{Ran}
use Rattle.run.specs.Outcome.{outcome_in, run_script}

abbrev pub fewer_of : ℕ → ℕ → ℕ
fewer_of all most = cond (ltb most all) most all

-- a run that is refused for an error
abbrev pub refused_in : ScriptError → Ran
refused_in error = record { events = Err error; drive = fresh_drive 1 1 0 }

-- what a run comes to, from how many events are run and the drive that they leave, or from an error
abbrev pub ran_in : Result (ℕ × Drive) ScriptError → Ran
ran_in (Ok r) = record { events = Ok r.0; drive = r.1 }
ran_in (Err error) = refused_in error

abbrev pub FirstRun : List ℕ → ℕ → List ℕ → List ℕ → Result (ℕ × Drive) ScriptError → List ℕ → List ℕ → Type 0
FirstRun s most answers stops r answers' stops' = outcome_in (ran_in r) answers' stops' ≡ run_script (read_script s) most answers stops
