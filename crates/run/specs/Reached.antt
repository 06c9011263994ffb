-- What holds of everything that a run hands back, of a refused one too.
use Rattle.std.specs.Prelude.{◌≤◌, IfOk}
use Rattle.reached.specs.Reached.{Reached}
use Rattle.script.specs.Whole.{most_events}
use Rattle.run.specs.declared.Ran.{Ran}

pub record RunReaches (r : Ran) : Type 0 where
  -- its drive has all that a drive has which events reach: settled, sixteen of each, with columns, places and sensors as they should be
  pub drive : Reached r.drive
  -- and no more events are run than a script may have
  pub few : IfOk r.events (λ count. count ≤ most_events)
