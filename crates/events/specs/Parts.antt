-- What the parts of an event's code hand on.
use Rattle.std.specs.Prelude.{ℕ, ◌≡◌, Result}
use Rattle.answer.specs.declared.Refusal.{Refusal}
use Rattle.drive.specs.declared.Drive.{Drive}
use Rattle.drive.specs.Events.{Event, Shape, shape_of, Replies}

-- the reply to every event of a shape
abbrev pub RepliesBy : Drive → Shape → Result ℕ Refusal → Drive → Type 0
RepliesBy d x r after = (e : Event) → shape_of e ≡ x → Replies d e r after
