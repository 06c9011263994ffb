-- Document 02, #106, of the two functions by their promises, one called after the other.
use Rattle.std.specs.Prelude.{◌≡◌, ℕ, ◌≤◌, List, length, take, Result, Ok}
use Rattle.base.specs.Lists.{Bytes}
use Rattle.answer.specs.declared.Refusal.{Refusal}
use Rattle.output.specs.Filling.{told_in}
use Rattle.event_form.specs.Form.{Words}
use Rattle.event_form.specs.Parts.{events_of}
use Rattle.script.specs.Whole.{read_script}
use Rattle.script_writer.specs.Write.{script_told}
use Rattle.script.specs.declared.ScriptError.{ScriptError}
use Rattle.script_reader.specs.declared.FlatScript.{FlatScript}
use Rattle.script_reader.specs.Read.{read_in, flat_told}

-- the reader is done, and hands over this header, and these numbers and bytes from the start of its slices
pub record HandsBack (capacity bands sensors : ℕ) (fields tokens : List ℕ) (r : Result FlatScript ScriptError) (fields' tokens' : List ℕ) : Type 0 where
  pub flat : FlatScript
  pub done : r ≡ Ok flat
  pub capacity-is : flat.header.capacity ≡ capacity
  pub bands-is : flat.header.bands ≡ bands
  pub sensors-is : flat.header.sensors ≡ sensors
  pub fields-are : take flat.fields fields' ≡ fields
  pub tokens-are : take flat.tokens tokens' ≡ tokens

-- the writer is done, and so many bytes from the output's start are the script
pub record ComesOut (script : List ℕ) (w : Result ℕ Refusal) (after : List ℕ) : Type 0 where
  pub done : w ≡ Ok (length script)
  pub same : take (length script) after ≡ script

pub record ScriptRoundTrips : Type 0 where
  -- "Reading what it wrote gives the same events": the writer where it is done, and then the reader, on slices as long as those that were given
  pub write-then-read : (capacity bands sensors : ℕ) (fields tokens out after : List ℕ) (count : ℕ) → Words fields
      → told_in (Ok count) after ≡ script_told capacity bands sensors (events_of fields tokens) out
      → (lent_fields lent_tokens fields' tokens' : List ℕ) (r : Result FlatScript ScriptError) → length fields ≤ length lent_fields → length tokens ≤ length lent_tokens
      → read_in r fields' tokens' ≡ flat_told (read_script (take count after)) lent_fields lent_tokens
      → HandsBack capacity bands sensors fields tokens r fields' tokens'
  -- "and an accepted script comes out again byte by byte": the reader where it is done, and then the writer, on an output as long as the script
  pub read-then-write : (script lent_fields lent_tokens fields' tokens' : List ℕ) (s : FlatScript) → Bytes script
      → read_in (Ok s) fields' tokens' ≡ flat_told (read_script script) lent_fields lent_tokens
      → (out after : List ℕ) (w : Result ℕ Refusal) → length script ≤ length out
      → told_in w after ≡ script_told s.header.capacity s.header.bands s.header.sensors (events_of (take s.fields fields') (take s.tokens tokens')) out
      → ComesOut script w after
