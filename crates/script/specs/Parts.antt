-- How the events from a place on are counted out.
use Rattle.std.specs.Prelude.{ℕ, zero, suc, ◌-◌, cond, List, [], ltb, length}
use Rattle.event_reader.specs.Fields.{event_at}
use Rattle.script.specs.Events.{Events, events, and_then}

-- an event takes at least one byte, so there are no more of them than bytes
unfoldable pub events_in : ℕ → List ℕ → ℕ → Events
events_in zero s at = events []
events_in (suc k) s at = cond (ltb at (length s)) (and_then at (event_at s at) (λ next. events_in k s next)) (events [])

unfoldable pub events_from : List ℕ → ℕ → Events
events_from s at = events_in (length s - at) s at
