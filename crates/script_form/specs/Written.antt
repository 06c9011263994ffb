-- Document 02, #106: a script's bytes from its header and its events, and that they are the only ones. Document 01, 'Script', read the other way.
use Rattle.std.specs.Prelude.{◌≡◌, ℕ, ◌≤◌, Bool, true, ◌&&◌, List, [], ◌∷◌, ◌++◌, length}
use Rattle.base.specs.Lists.{Bytes}
use Rattle.drive.specs.State.{header_fits}
use Rattle.drive.specs.Events.{Event}
use Rattle.event_form.specs.Form.{numbers_bytes, event_bytes, holdable, fields_of, Words}
use Rattle.script.specs.Whole.{most_script_bytes, accepted, read_script}

-- the events one after the other
unfoldable pub events_bytes : List Event → List ℕ
events_bytes [] = []
events_bytes (e ∷ es) = event_bytes e ++ events_bytes es

-- "Header: capacity, bands, sensors."
unfoldable pub script_bytes : (capacity bands sensors : ℕ) → List Event → List ℕ
script_bytes capacity bands sensors es = numbers_bytes (capacity ∷ bands ∷ sensors ∷ []) ++ events_bytes es

unfoldable pub all_holdable : List Event → Bool
all_holdable [] = true
all_holdable (e ∷ es) = holdable e && all_holdable es

-- the numbers of every event are below 2^64
abbrev pub AllWords : List Event → Type 0
AllWords [] = Unit {0}
AllWords (e ∷ es) = Words (fields_of e) × AllWords es

-- the events that a script of this header can have: "an event that no script can hold .. or a script that would exceed 65,536 bytes"
pub record Holds (capacity bands sensors : ℕ) (es : List Event) : Type 0 where
  pub header : header_fits capacity bands sensors ≡ true
  pub events : all_holdable es ≡ true
  pub numbers : AllWords es
  pub short : length (script_bytes capacity bands sensors es) ≤ most_script_bytes

-- Header and events have one form as bytes, and bytes one meaning.
pub record ScriptForm : Type 0 where
  -- "Reading what it wrote gives the same events"
  pub read_back : (capacity bands sensors : ℕ) (es : List Event) → Holds capacity bands sensors es
      → read_script (script_bytes capacity bands sensors es) ≡ accepted capacity bands sensors es
  -- "and an accepted script comes out again byte by byte"
  pub written-again : (script : List ℕ) (capacity bands sensors : ℕ) (es : List Event) → Bytes script
      → read_script script ≡ accepted capacity bands sensors es → script_bytes capacity bands sensors es ≡ script
  -- its header and events are some that a script can hold
  pub held : (script : List ℕ) (capacity bands sensors : ℕ) (es : List Event) → Bytes script
      → read_script script ≡ accepted capacity bands sensors es → Holds capacity bands sensors es
  -- no second form: two scripts that read to the same header and events are the same bytes
  pub one_form : (a b : List ℕ) → Bytes a → Bytes b → (capacity bands sensors : ℕ) (es : List Event)
      → read_script a ≡ accepted capacity bands sensors es → read_script b ≡ accepted capacity bands sensors es → a ≡ b
