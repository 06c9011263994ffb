-- Document 02, #106: "header and events", for a language that has no lists of events: the flat form, a pair of slices. In the one are the numbers of
-- all events, each its kind and then every field; in the other the bytes of all expressions.
use Rattle.std.specs.Prelude.{◌≡◌, ℕ, List, [], ◌∷◌, ◌++◌}
use Rattle.drive.specs.Events.{Event}
use Rattle.event_form.specs.Form.{fields_of, tokens_of}
use Rattle.event_form.specs.Parts.{flat, events_of}

unfoldable pub all_fields : List Event → List ℕ
all_fields [] = []
all_fields (e ∷ es) = fields_of e ++ all_fields es

unfoldable pub all_tokens : List Event → List ℕ
all_tokens [] = []
all_tokens (e ∷ es) = tokens_of e ++ all_tokens es

-- Which list of events a pair of slices is, if any (`events_of`): the list of which it is the flat form. A pair that is cut, has bytes left over or
-- an unknown kind is that of no list.
pub record FlatForm : Type 0 where
  pub back : (es : List Event) → events_of (all_fields es) (all_tokens es) ≡ flat es
  pub no_other : (fields tokens : List ℕ) (es : List Event) → events_of fields tokens ≡ flat es
      → (fields ≡ all_fields es) × (tokens ≡ all_tokens es)
