-- What the exported functions return and leave: the number returned, the numbers behind each `&mut`, and the lent buffers, from what stood
-- there before.
use Rattle.std.specs.Prelude.{ℕ, ◌≤◌, ◌≡◌, Bool, true, cond, ◌&&◌, List, eqb, leb, length, take}
use Rattle.base.specs.Lists.{one_if}
use Rattle.base.specs.Refusals.{applying, order_of}
use Rattle.output.specs.Filling.{Told, told, told_by, filled_by}
use Rattle.token_reader.specs.Format.{bytes_of}
use Rattle.token_reader.specs.Read.{TokenOutcome, elements, refusal, read_tokens}
use Rattle.token_writer.specs.Write.{codes_of, elements_of, write_answer}
use Rattle.drive.specs.declared.Drive.{Drive}
use Rattle.drive.specs.State.{most_blocks, most_bands, most_sensors, header_fits, fresh_drive}
use Rattle.drive.specs.Events.{Event, refusals, answer_of, stops_of, run_of}
use Rattle.discovery_answer.specs.Write.{discovery_of}
use Rattle.discovery_answer.specs.Read.{read_answer, shown_in}
use Rattle.discovery_answer.specs.Answers.{ShowsDrive}
use Rattle.numbers.specs.Groups.{bad_script}
use Rattle.event_form.specs.Kinds.{event_by}
use Rattle.event_form.specs.Parts.{Flat}
use Rattle.event_reader.specs.Fields.{kinds}
use Rattle.script.specs.Whole.{Script, accepted, bad}
use Rattle.script_writer.specs.Write.{ReadsTo}
use Rattle.script_reader.specs.Read.{ReadTold, read_to, ComesOutOf}
use Rattle.run.specs.Outcome.{RunOutcome, outcome}

-- "Any refusal leaves the drive and all lent bytes untouched", and a number behind a `&mut` too: only answer 0 writes it
abbrev pub written : (answer new former : ℕ) → ℕ
written answer new former = cond (eqb answer 0) new former

-- what is told of a lent output, with the number that stood beside it before
abbrev pub leaving : (former : ℕ) → Told → Told
leaving former (told answer count output) = told answer (written answer count former) output

-- a run: answer, place, number of events and the two buffers; its drive is not handed over
pub data RunTold : Type 0 where
  ran_to : (answer place count : ℕ) (answers stops : List ℕ) → RunTold

-- with the place and the number of events that stood there before: "Answer 10 carries a place", and no other answer writes one
abbrev pub run_told : (place count : ℕ) → RunOutcome → RunTold
run_told place count (outcome answer at ran drive answers stops) =
    ran_to answer (cond (eqb answer bad_script) at place) (written answer ran count) answers stops

-- tokens read: the elements from the start of the output, 11 where they do not fit ("short buffer"); or 2, 3 or 4, and the output as it was
abbrev pub read_into : TokenOutcome → List ℕ → Told
read_into (elements es) lent = filled_by (codes_of es) lent
read_into (refusal answer) lent = told answer 0 lent

-- tokens written: "It fills exactly the bytes needed from the start of the output"; or 2, 4 or 11, and the output as it was
abbrev pub write_into : List ℕ → List ℕ → Told
write_into codes lent = told_by (write_answer codes (length lent)) (bytes_of (elements_of codes)) lent

-- "An expression written as tokens reads back as itself": where 0 is returned, so many bytes of the output read to the elements
abbrev pub ReadsBackTo : List ℕ → ℕ → ℕ → List ℕ → Type 0
ReadsBackTo codes answer count after = answer ≡ 0 → read_tokens (take count after) ≡ elements (elements_of codes)

-- "and tokens that are accepted are written again as the same bytes": where 0 is returned, these are the bytes of so many elements of the output
abbrev pub WrittenAgainFrom : List ℕ → ℕ → ℕ → List ℕ → Type 0
WrittenAgainFrom bytes answer count after = answer ≡ 0 → bytes_of (elements_of (take count after)) ≡ bytes

-- a fresh drive: answer, capacity, bands and sensors. "A call that gives, outside a script, a header out of range .. gets 2; the fresh
-- call then hands back a fresh drive of capacity 1, one band and no sensors."
pub data FreshTold : Type 0 where
  fresh_to : (answer capacity bands sensors : ℕ) → FreshTold

abbrev pub fresh_told : ℕ → ℕ → ℕ → FreshTold
fresh_told capacity bands sensors =
    cond (header_fits capacity bands sensors) (fresh_to 0 capacity bands sensors) (fresh_to 2 1 1 0)

-- ---- one event on the drive that a script leaves

-- answer, stops and place
pub data EventTold : Type 0 where
  answered : (answer stops place : ℕ) → EventTold

-- no later than 6: 1 to 6, and 13, which comes "right after 3 and 4". 7, 8 and 9 speak of bands that a run has placed and locked.
abbrev pub up_to_six : ℕ → Bool
up_to_six n = leb (order_of n) (order_of 6)

-- "The lowest number that applies is given", also where the script is bad and no drive is left: the one of these that the event gets on the fresh
-- drive of the greatest header, 0 if there is none
unfoldable pub refused_anyway : Event → ℕ
refused_anyway e = let n = answer_of (fresh_drive most_blocks most_bands most_sensors) e in cond (up_to_six n) n 0

abbrev pub InRange : Drive → Type 0
InRange d = header_fits d.capacity d.band_count d.sensor_count ≡ true

-- This is the lowest number of these that applies whatever the drive, 13 in its place (theorem `lowest-anyway` in proofs/Anyway).
pub record LowestAnyway (e : Event) : Type 0 where
  -- it applies on every drive
  pub applies : 1 ≤ refused_anyway e → (d : Drive) → InRange d → applying (refused_anyway e) (refusals d e) ≡ true
  -- so the event is refused on every drive, with this number or one that comes before it
  pub refused : 1 ≤ refused_anyway e → (d : Drive) → InRange d → (1 ≤ answer_of d e) × (order_of (answer_of d e) ≤ order_of (refused_anyway e))
  -- and where one of these numbers applies on every drive, this one comes no later, and is not 0
  pub lowest : (n : ℕ) → order_of n ≤ order_of 6 → ((d : Drive) → InRange d → applying n (refusals d e) ≡ true)
      → (1 ≤ refused_anyway e) × (order_of (refused_anyway e) ≤ order_of n)

-- that number; or, if there is none, the script's answer and its place
abbrev pub refused_event : (answer at : ℕ) → Event → (stops place : ℕ) → EventTold
refused_event answer at e stops place = cond (eqb (refused_anyway e) 0) (answered answer stops at) (answered (refused_anyway e) stops place)

-- the event after all events of the script, or 10 ("bad script"); with the stops and the place that stood there before
abbrev pub event_on : Script → Event → (stops place : ℕ) → EventTold
event_on (accepted capacity bands sensors es) e stops place =
    let left = run_of (fresh_drive capacity bands sensors) es in
    answered (answer_of left e) (written (answer_of left e) (stops_of left e) stops) place
event_on (bad at) e stops place = refused_event bad_script at e stops place

-- the kinds of a script's events are numbered from 1 on
abbrev pub last_kind : ℕ
last_kind = length kinds

-- 2 "out of range: a field exceeds its range" where there is no such kind, whatever the script
abbrev pub event_told : Script → ℕ → List ℕ → List ℕ → (stops place : ℕ) → EventTold
event_told script kind fields tokens stops place =
    cond (leb 1 kind && leb kind last_kind) (event_on script (event_by kind fields tokens) stops place) (answered 2 stops place)

-- ---- the discovery answer (document 02, #102)

-- Of the drive that a script leaves: "fill their output as the token writer does, 11 included". Before that 10: "Answer 10 carries a place",
-- which stands where the length would.
abbrev pub discovery_told : (former : ℕ) → Script → List ℕ → Told
discovery_told former (accepted capacity bands sensors es) lent = leaving former (filled_by (discovery_of (run_of (fresh_drive capacity bands sensors) es)) lent)
discovery_told former (bad at) lent = told bad_script at lent

-- What a host tool is shown of it: where 0 is returned, the whole output reads to both features, with the Locked flag exactly when some band of
-- the drive that the script leaves has an enabled locked side.
abbrev pub ShowsLeft : Script → ℕ → List ℕ → Type 0
ShowsLeft script answer after = (capacity bands sensors : ℕ) (es : List Event) → script ≡ accepted capacity bands sensors es → answer ≡ 0
    → ShowsDrive (run_of (fresh_drive capacity bands sensors) es) (read_answer after) (shown_in after)

-- what is shown of an answer: the answer's number, "whether each of the two is there and the Locking feature's flags"
pub data ShownTold : Type 0 where
  shown_to : (answer locking ranges flags : ℕ) → ShownTold

-- with the numbers that stood there before, where it is 12 "short answer"
abbrev pub shown_told : List ℕ → (locking ranges flags : ℕ) → ShownTold
shown_told bytes locking ranges flags =
    let answer = read_answer bytes in
    let features = shown_in bytes in
    shown_to answer (written answer (one_if features.locking) locking) (written answer (one_if features.ranges) ranges)
    (written answer features.flags flags)

-- ---- scripts written and read (document 02, #106)

-- "Reading what it wrote gives the same events": where 0 is returned, so many bytes of the output read to the header and the events that were given
abbrev pub ScriptReadsTo : (capacity bands sensors : ℕ) → Flat → (answer count : ℕ) → List ℕ → Type 0
ScriptReadsTo capacity bands sensors f answer count after = answer ≡ 0 → ReadsTo capacity bands sensors f (take count after)

-- a script read, with the numbers that stood there before: "Answer 10 carries a place", and only answer 0 writes the others
abbrev pub read_leaving : (place capacity bands sensors field_count token_count : ℕ) → ReadTold → ReadTold
read_leaving place capacity bands sensors field_count token_count (read_to answer at c b s f t fields tokens) =
    read_to answer (cond (eqb answer bad_script) at place) (written answer c capacity) (written answer b bands) (written answer s sensors)
    (written answer f field_count) (written answer t token_count) fields tokens

-- "and an accepted script comes out again byte by byte": where 0 is returned, these are the bytes of the header and of the events of which so many
-- numbers and bytes are the flat form
abbrev pub ScriptComesOut : (script : List ℕ) → (answer capacity bands sensors field_count token_count : ℕ) → (fields tokens : List ℕ) → Type 0
ScriptComesOut script answer capacity bands sensors field_count token_count fields tokens =
    answer ≡ 0 → ComesOutOf capacity bands sensors (take field_count fields) (take token_count tokens) script
