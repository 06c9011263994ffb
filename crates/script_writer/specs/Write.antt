-- Document 02, #106: "a writer from header and events to bytes".
use Rattle.std.specs.Prelude.{◌≡◌, ℕ, Bool, false, not, ◌&&◌, List, [], ◌∷◌, leb, ltb, length, take, Result, Ok, Err}
use Rattle.base.specs.Refusals.{TableRow, when, first_of, LowestOf}
use Rattle.answer.specs.declared.Refusal.{Refusal}
use Rattle.output.specs.Filling.{Told, told_by}
use Rattle.drive.specs.State.{header_fits}
use Rattle.drive.specs.Events.{Event}
use Rattle.event_form.specs.Parts.{Flat, flat, no_flat}
use Rattle.script.specs.Whole.{most_script_bytes, accepted, read_script}
use Rattle.script_form.specs.Written.{script_bytes, all_holdable}

-- "A header out of range, an event that no script can hold .., or a script that would exceed 65,536 bytes is refused with 2"; so is a pair of slices
-- that is the flat form of no events
abbrev pub writable : (capacity bands sensors : ℕ) → Flat → Bool
writable capacity bands sensors (flat es) =
    header_fits capacity bands sensors && (all_holdable es && leb (length (script_bytes capacity bands sensors es)) most_script_bytes)
writable capacity bands sensors no_flat = false

-- what there is to write
abbrev pub bytes_for : (capacity bands sensors : ℕ) → Flat → List ℕ
bytes_for capacity bands sensors (flat es) = script_bytes capacity bands sensors es
bytes_for capacity bands sensors no_flat = []

-- "An output too short gives 11, after 2"
abbrev pub write_refusals : (capacity bands sensors : ℕ) → Flat → (room : ℕ) → List TableRow
write_refusals capacity bands sensors f room =
    when 2 (not (writable capacity bands sensors f))
    ∷ when 11 (ltb room (length (bytes_for capacity bands sensors f)))
    ∷ []

unfoldable pub write_answer : (capacity bands sensors : ℕ) → Flat → (room : ℕ) → ℕ
write_answer capacity bands sensors f room = first_of (write_refusals capacity bands sensors f room)

-- "The lowest number that applies is given" (theorem `lowest-written` in proofs/Whole)
abbrev pub LowestWritten : Type 0
LowestWritten = (capacity bands sensors : ℕ) (f : Flat) (room : ℕ)
    → LowestOf (write_refusals capacity bands sensors f room) (write_answer capacity bands sensors f room)

-- answer, number of bytes written, and the output: "nothing written" where it is refused
abbrev pub script_told : (capacity bands sensors : ℕ) → Flat → (out : List ℕ) → Told
script_told capacity bands sensors f out = told_by (write_answer capacity bands sensors f (length out)) (bytes_for capacity bands sensors f) out

-- "Reading what it wrote gives the same events": where the answer is 0, the flat form is some events, and the bytes written read to the header and
-- these
pub record ReadsTo (capacity bands sensors : ℕ) (f : Flat) (script : List ℕ) : Type 0 where
  pub events : List Event
  pub given : f ≡ flat events
  pub read : read_script script ≡ accepted capacity bands sensors events

abbrev pub ReadsBack : (capacity bands sensors : ℕ) → Flat → Result ℕ Refusal → List ℕ → Type 0
ReadsBack capacity bands sensors f (Ok count) after = ReadsTo capacity bands sensors f (take count after)
ReadsBack capacity bands sensors f (Err refusal) after = Unit {0}
