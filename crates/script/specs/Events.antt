-- Document 01, 'Script': the events of a script, one after the other.
use Rattle.std.specs.Prelude.{ℕ, List, ◌∷◌}
use Rattle.drive.specs.Events.{Event}
use Rattle.event_reader.specs.Fields.{Parsed, event, broken}

-- the events from a place on, or the place at which the first failing event starts
pub data Events : Type 0 where
  events : List Event → Events
  bad_from : (place : ℕ) → Events

abbrev pub before : Event → Events → Events
before e (events es) = events (e ∷ es)
before e (bad_from place) = bad_from place

abbrev pub and_then : ℕ → Parsed → (ℕ → Events) → Events
and_then at (event answer e start count next) follow = before e (follow next)
and_then at (broken answer) follow = bad_from at
