-- What `run_events` hands back for every script, place, number and buffer: the events that read from the place on, run one after the other.
use Rattle.std.specs.Prelude.{ℕ, zero, suc, cond, ◌&&◌, List, [], ◌∷◌, leb, length}
use Rattle.base.specs.Spliced.{over}
use Rattle.drive.specs.declared.Drive.{Drive}
use Rattle.drive.specs.Events.{Event, run_of, answers_of, stops_in}
use Rattle.event_reader.specs.Fields.{Parsed, event, broken, event_at}

-- an event that reads, and those that follow it; none where it does not read
abbrev pub then_more : Parsed → (ℕ → List Event) → List Event
then_more (event answer e start count next) follow = e ∷ follow next
then_more (broken answer) follow = []

-- the events that read one after the other from a place on, at most so many, ending before the first that does not read
unfoldable pub first_events : ℕ → List ℕ → ℕ → List Event
first_events zero s at = []
first_events (suc n) s at = then_more (event_at s at) (λ next. first_events n s next)

-- what is there after events: a drive, and the two lent buffers
pub data AfterEvents : Type 0 where
  after : (drive : Drive) (answers stops : List ℕ) → AfterEvents

-- a list of events run from a drive: the drive that they leave, and a byte for each in both buffers
abbrev pub events_run : Drive → List Event → List ℕ → List ℕ → AfterEvents
events_run d es answers stops = after (run_of d es) (over (answers_of d es) answers) (over (stops_in d es) stops)

-- at most so many events of a script from a place on, run from a drive; none where a buffer has fewer bytes than that
abbrev pub first_events_run : List ℕ → ℕ → ℕ → Drive → List ℕ → List ℕ → AfterEvents
first_events_run s start count d answers stops =
    cond (leb count (length answers) && leb count (length stops))
    (events_run d (first_events count s start) answers stops)
    (after d answers stops)
