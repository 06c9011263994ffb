-- What the parts of an event hand on, for the contracts of private functions: the code's cases by the paper's numbers, with the place to
-- which the reader moved on.
use Rattle.std.specs.Prelude.{ℕ, List, get_or, Option, Some, None}
use Rattle.std.specs.Borrow.{Bor}
use Rattle.drive.specs.declared.Event.{Event as LentEvent}
use Rattle.drive.specs.Events.{Event, event_in}
use Rattle.event_reader.specs.Fields.{Five, five, no_five, Stretch, stretch, cut, Parsed, event, broken, tokens_at}

abbrev pub five_in : Option (List ℕ) → ℕ → Five
five_in (Some v) next = five 0 (get_or v 0 0) (get_or v 1 0) (get_or v 2 0) (get_or v 3 0) (get_or v 4 0) next
five_in None next = no_five 10

-- an expression's bytes, and the place after them
pub data Part : Type 0 where
  part : (answer : ℕ) (tokens : List ℕ) (next : ℕ) → Part
  no_part : (answer : ℕ) → Part

abbrev pub part_of : List ℕ → Stretch → Part
part_of s (stretch answer start count next) = part answer (tokens_at s start count) next
part_of s (cut answer) = no_part answer

abbrev pub part_in : Option (Bor (List ℕ)) → ℕ → Part
part_in (Some t) next = part 0 t.now next
part_in None next = no_part 10

-- an event and the place after it, without where its bytes stand: the event has them
pub data Brief : Type 0 where
  told : (answer : ℕ) (e : Event) (next : ℕ) → Brief
  untold : (answer : ℕ) → Brief

abbrev pub brief : Parsed → Brief
brief (event answer e start count next) = told answer e next
brief (broken answer) = untold answer

abbrev pub brief_in : Option LentEvent → ℕ → Brief
brief_in (Some ev) next = told 0 (event_in ev) next
brief_in None next = untold 10
