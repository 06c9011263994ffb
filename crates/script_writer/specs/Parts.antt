-- How the writer goes about a script, for the contracts of private functions.
use Rattle.std.specs.Prelude.{◌≡◌, true, false, cond, ◌&&◌, ℕ, ◌+◌, ◌*◌, ◌≤◌, List, [], ◌∷◌, leb, ltb, length, get_or, Option, Some, None}
use Rattle.base.specs.Columns.{named}
use Rattle.base.specs.Spliced.{spliced}
use Rattle.numbers.specs.Groups.{number_bytes}
use Rattle.sensor_set.specs.Columns.{sensor_masks}
use Rattle.drive.specs.Events.{Event}
use Rattle.event_form.specs.Form.{event_bytes, holdable, fields_of, tokens_of}
use Rattle.event_form.specs.Parts.{next, next_in, Flat, flat}
use Rattle.script.specs.Whole.{most_script_bytes}
use Rattle.script_form.specs.Written.{events_bytes, all_holdable}
use Rattle.script_writer.specs.declared.EventPut.{EventPut}

-- a value where the mask's lowest bit names it
abbrev pub value_bytes : ℕ → ℕ → List ℕ
value_bytes mask v = cond (named 1 mask) (number_bytes v) []

-- The bytes of a whole event go by one mask over all its numbers: the lowest bits are those of its kind and of the fields that every script has, and a
-- Set's own mask comes above them. Where that has an unknown bit it is 0, under which a kind does not fit.
abbrev pub set_mask : ℕ → ℕ
set_mask mask = cond (ltb mask sensor_masks) (7 + 8 * mask) 0

abbrev pub mask_over : (kind : ℕ) → (numbers : List ℕ) → ℕ
mask_over kind numbers = let set = set_mask (get_or numbers 2 0) in get_or (0 ∷ 7 ∷ 3 ∷ 3 ∷ set ∷ set ∷ 15 ∷ 15 ∷ []) kind 0

-- what one event comes to: the event that the pair begins with is put at the place, or there is none that a script can hold
pub record PutAt (fields tokens before : List ℕ) (at place width count : ℕ) (after : List ℕ) : Type 0 where
  pub e : Event
  pub f : List ℕ
  pub t : List ℕ
  pub given : next_in fields tokens ≡ next e f t
  pub holds : holdable e ≡ true
  pub place_is : place ≡ at + length (event_bytes e)
  pub width_is : width ≡ length (fields_of e)
  pub count-is : count ≡ length (tokens_of e)
  pub bytes : after ≡ spliced before at (event_bytes e)

abbrev pub PutsEvent : (fields tokens before : List ℕ) → ℕ → Option EventPut → List ℕ → Type 0
PutsEvent fields tokens before at (Some p) after = PutAt fields tokens before at p.place p.width p.count after
PutsEvent fields tokens before at None after = (e : Event) (f t : List ℕ) → next_in fields tokens ≡ next e f t → holdable e ≡ false

-- what all events come to: they are put from the place on and end within a script's bytes, or they cannot be
pub record AllPut (given : Flat) (before : List ℕ) (at place : ℕ) (after : List ℕ) : Type 0 where
  pub es : List Event
  pub is : given ≡ flat es
  pub hold : all_holdable es ≡ true
  pub place_is : place ≡ at + length (events_bytes es)
  pub short : place ≤ most_script_bytes
  pub bytes : after ≡ spliced before at (events_bytes es)

abbrev pub PutsEvents : Flat → (before : List ℕ) → ℕ → Option ℕ → List ℕ → Type 0
PutsEvents given before at (Some place) after = AllPut given before at place after
PutsEvents given before at None after =
    (es : List Event) → given ≡ flat es → (all_holdable es && leb (at + length (events_bytes es)) most_script_bytes) ≡ false
