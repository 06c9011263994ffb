-- Document 01, 'Script': a script as a whole, its header and its events, or the place of what is bad.
use Rattle.std.specs.Prelude.{ℕ, ◌≡◌, cond, List, [], ltb, length, Option, Some, None, Result, Ok, Err}
use Rattle.numbers.specs.Groups.{done, bad_script, Found, onward, number_at}
use Rattle.drive.specs.State.{header_fits}
use Rattle.drive.specs.Events.{Event}
use Rattle.event_reader.specs.Fields.{event_at}
use Rattle.script.specs.Events.{Events, events, bad_from, and_then}
use Rattle.script.specs.Parts.{events_from}
use Rattle.script.specs.declared.BadScript.{BadScript}

-- "Header: capacity, bands, sensors.": done, with these and the place after them; or bad script with its place, where the header does not read
-- or is out of range: "0 for the header"
pub data Header : Type 0 where
  header : (answer capacity bands sensors next : ℕ) → Header
  no_header : (answer place : ℕ) → Header

abbrev pub field_header : Found → (ℕ → ℕ → Header) → Header
field_header f follow = onward (λ answer. no_header answer 0) f follow

unfoldable pub header_from : List ℕ → ℕ → Header
header_from s at =
    field_header (number_at s at) (λ capacity at.
    field_header (number_at s at) (λ bands at.
    field_header (number_at s at) (λ sensors at.
    cond (header_fits capacity bands sensors) (header done capacity bands sensors at) (no_header bad_script 0))))

-- a script begins with its header
unfoldable pub header_at : List ℕ → Header
header_at s = header_from s 0

-- the code's cases by the paper's numbers, with the place that the reader has then
abbrev pub header_in : Option Rattle.drive.specs.declared.Header.Header → ℕ → Header
header_in (Some h) next = header 0 h.capacity h.bands h.sensors next
header_in None next = no_header 10 0

-- The events from a place on are those that read one after the other up to the script's end: this equation determines them, since each
-- event takes at least one byte (`reads_on` in proofs/Checking).
abbrev pub ReadsOn : Type 0
ReadsOn = (s : List ℕ) (at : ℕ) → events_from s at ≡ cond (ltb at (length s)) (and_then at (event_at s at) (λ next. events_from s next)) (events [])

-- a script that reads to its end, or the place of what is bad: "0 for the header". "An overlong script is tested first and has place 0."
pub data Script : Type 0 where
  accepted : (capacity bands sensors : ℕ) → List Event → Script
  bad : (place : ℕ) → Script

-- "a script above 65,536 bytes" is bad
abbrev pub most_script_bytes : ℕ
most_script_bytes = 65536

-- the most events of a script: each takes two bytes at least, after a header of three (theorem `few-events`)
abbrev pub most_events : ℕ
most_events = 32766

abbrev pub with_events : ℕ → ℕ → ℕ → Events → Script
with_events capacity bands sensors (events es) = accepted capacity bands sensors es
with_events capacity bands sensors (bad_from place) = bad place

abbrev pub with_header : List ℕ → Header → Script
with_header s (header answer capacity bands sensors next) = with_events capacity bands sensors (events_from s next)
with_header s (no_header answer place) = bad place

unfoldable pub read_script : List ℕ → Script
read_script s = cond (ltb most_script_bytes (length s)) (bad 0) (with_header s (header_at s))

-- what the check answers: done, with how many events there are; or bad script: "Answer 10 carries a place"
pub data Check : Type 0 where
  reads : (answer count : ℕ) → Check
  bad_at : (answer place : ℕ) → Check

-- the code's cases by the paper's numbers
abbrev pub checked_in : Result ℕ BadScript → Check
checked_in (Ok count) = reads 0 count
checked_in (Err b) = bad_at 10 b.place

abbrev pub check_events : Events → Check
check_events (events es) = reads done (length es)
check_events (bad_from place) = bad_at bad_script place

unfoldable pub check_from : List ℕ → ℕ → Check
check_from s at = check_events (events_from s at)

abbrev pub check_script : Script → Check
check_script (accepted capacity bands sensors es) = reads done (length es)
check_script (bad place) = bad_at bad_script place

unfoldable pub check_of : List ℕ → Check
check_of s = check_script (read_script s)
