-- Document 02, #106, the other way: the header of an accepted script, and the flat form of its events.
use Rattle.std.specs.Prelude.{◌≡◌, ℕ, ◌≤◌, Bool, false, cond, ◌||◌, List, ltb, length, take, Result, Ok, Err}
use Rattle.base.specs.Lists.{Bytes}
use Rattle.base.specs.Spliced.{over}
use Rattle.numbers.specs.Groups.{done, bad_script}
use Rattle.drive.specs.Events.{Event}
use Rattle.event_form.specs.Parts.{flat, events_of}
use Rattle.event_form.specs.Flat.{all_fields, all_tokens}
use Rattle.script.specs.declared.ScriptError.{ScriptError}
use Rattle.script.specs.Errors.{error_number, error_place}
use Rattle.script.specs.Whole.{Script, accepted, bad, read_script}
use Rattle.script_form.specs.Written.{script_bytes}
use Rattle.script_reader.specs.declared.FlatScript.{FlatScript}

-- what is told: the answer, the place of a bad script, the header, how many numbers and bytes the flat form has, and both lent slices
pub data ReadTold : Type 0 where
  read_to : (answer place capacity bands sensors field_count token_count : ℕ) (fields tokens : List ℕ) → ReadTold

abbrev pub read_in : Result FlatScript ScriptError → (fields tokens : List ℕ) → ReadTold
read_in (Ok s) fields tokens = read_to 0 0 s.header.capacity s.header.bands s.header.sensors s.fields s.tokens fields tokens
read_in (Err error) fields tokens = read_to (error_number error) (error_place error) 0 0 0 0 0 fields tokens

-- a refusal hands nothing over, and leaves both slices as they were
abbrev pub refused_read : (answer place : ℕ) → (fields tokens : List ℕ) → ReadTold
refused_read answer place fields tokens = read_to answer place 0 0 0 0 0 fields tokens

-- 11 "short buffer": one of the slices is shorter than needed
abbrev pub too_short : List Event → (fields tokens : List ℕ) → Bool
too_short es fields tokens = ltb (length fields) (length (all_fields es)) || ltb (length tokens) (length (all_tokens es))

-- "Answer 10 carries a place"; 11 where a slice is too short; else the flat form from the start of both, and the rest of them as it was
abbrev pub flat_told : Script → (fields tokens : List ℕ) → ReadTold
flat_told (accepted capacity bands sensors es) fields tokens =
    cond (too_short es fields tokens)
    (refused_read 11 0 fields tokens)
    (read_to done 0 capacity bands sensors (length (all_fields es)) (length (all_tokens es)) (over (all_fields es) fields) (over (all_tokens es) tokens))
flat_told (bad place) fields tokens = refused_read bad_script place fields tokens

-- Slices of so many numbers and bytes are never too short (theorem `never-short` in proofs/Room): a sensor Set that names nothing has ten numbers in
-- three bytes, no event has more for its bytes, and the header takes three.
abbrev pub enough_fields : ℕ
enough_fields = 218443

abbrev pub enough_tokens : ℕ
enough_tokens = 65533

abbrev pub NeverShort : Type 0
NeverShort = (script : List ℕ) (capacity bands sensors : ℕ) (es : List Event) → Bytes script → read_script script ≡ accepted capacity bands sensors es
    → (fields tokens : List ℕ) → enough_fields ≤ length fields → enough_tokens ≤ length tokens → too_short es fields tokens ≡ false

-- "an accepted script comes out again byte by byte": where the answer is 0, so many numbers and bytes of the slices are the flat form of some events,
-- and the bytes of the header and these are the script
pub record ComesOutOf (capacity bands sensors : ℕ) (fields tokens script : List ℕ) : Type 0 where
  pub events : List Event
  pub form : events_of fields tokens ≡ flat events
  pub again : script_bytes capacity bands sensors events ≡ script

abbrev pub WrittenAgain : (script : List ℕ) → Result FlatScript ScriptError → (fields tokens : List ℕ) → Type 0
WrittenAgain script (Ok s) fields tokens =
    ComesOutOf s.header.capacity s.header.bands s.header.sensors (take s.fields fields) (take s.tokens tokens) script
WrittenAgain script (Err error) fields tokens = Unit {0}
