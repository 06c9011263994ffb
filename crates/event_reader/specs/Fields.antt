-- Document 01, 'Script': the events and their fields, each read at its place.
use Rattle.std.specs.Prelude.{◌≡◌, ℕ, ◌+◌, ◌-◌, cond, List, [], ◌∷◌, eqb, leb, ltb, length, take, drop, Option, Some, None}
use Rattle.base.specs.Columns.{named}
use Rattle.numbers.specs.Groups.{done, bad_script, Found, found, none, onward, number_at}
use Rattle.sensor_set.specs.Columns.{sensor_masks}
use Rattle.token_reader.specs.Read.{most_token_bytes}
use Rattle.band_columns.specs.Sets.{band_masks}
use Rattle.drive.specs.declared.Event.{Event as LentEvent}
use Rattle.drive.specs.Events.{Event, reading, elapse, reset, sensor_set, band_set, geometry, transfer, shape_of, if_setting, event_in}

-- what reading an event at a place answers: done, with the event, where its expression's bytes start and how many they are, and the place
-- after it; or bad script, whose place is the one "at which the first failing event starts"
pub data Parsed : Type 0 where
  event : (answer : ℕ) (e : Event) (start count next : ℕ) → Parsed
  broken : (answer : ℕ) → Parsed

-- an event that has no expression: its bytes are none, from place 0
abbrev pub plain : Event → ℕ → Parsed
plain e next = event done e 0 0 next

-- a field of an event, and what it goes on to
abbrev pub field : Found → (ℕ → ℕ → Parsed) → Parsed
field f follow = onward broken f follow

-- "values by rising bit": the column of a bit where the mask names it, else 0, which takes no bytes
abbrev pub column_at : List ℕ → ℕ → ℕ → ℕ → Found
column_at s at mask bit = cond (named bit mask) (number_at s at) (found done 0 at)

-- what reading the columns of bits 1 to 16 answers: done, with their values by rising bit and the place after them; or bad script
pub data Five : Type 0 where
  five : (answer first second third fourth fifth next : ℕ) → Five
  no_five : (answer : ℕ) → Five

abbrev pub field_five : Found → (ℕ → ℕ → Five) → Five
field_five f follow = onward no_five f follow

unfoldable pub first_columns_at : List ℕ → ℕ → ℕ → Five
first_columns_at s at mask =
    field_five (column_at s at mask 1) (λ a at. field_five (column_at s at mask 2) (λ b at. field_five (column_at s at mask 4) (λ c at.
    field_five (column_at s at mask 8) (λ d at. field_five (column_at s at mask 16) (λ e at. five done a b c d e at)))))

-- and what they and the place after them go on to
abbrev pub Follow : Type 0
Follow = ℕ → ℕ → ℕ → ℕ → ℕ → ℕ → Parsed

abbrev pub fields : Five → Follow → Parsed
fields (five answer a b c d e next) follow = follow a b c d e next
fields (no_five answer) follow = broken answer

-- 1 "reading (sensor, value)"
unfoldable pub reading_at : List ℕ → ℕ → Parsed
reading_at s at = field (number_at s at) (λ sensor at. field (number_at s at) (λ value at. plain (reading sensor value) at))

-- 2 "elapse (n)"
unfoldable pub elapse_at : List ℕ → ℕ → Parsed
elapse_at s at = field (number_at s at) (λ n at. plain (elapse n) at)

-- 3 "reset (type)"
unfoldable pub reset_at : List ℕ → ℕ → Parsed
reset_at s at = field (number_at s at) (λ type at. plain (reset type) at)

-- 4 "sensor Set (sensor, mask, values by rising bit)"; an unknown mask bit is bad
unfoldable pub sensor_set_at : List ℕ → ℕ → Parsed
sensor_set_at s at =
    field (number_at s at) (λ sensor at.
    field (number_at s at) (λ mask at.
    cond (ltb mask sensor_masks)
    (fields (first_columns_at s at mask) (λ enabled on-threshold on-fraction on-timeout off-threshold at.
    field (column_at s at mask 32) (λ off-fraction at.
    field (column_at s at mask 64) (λ off-timeout at.
    plain (sensor_set sensor (record {
      mask = mask;
      enabled = enabled;
      on_threshold = on-threshold;
      on_fraction = on-fraction;
      on_timeout = on-timeout;
      off_threshold = off-threshold;
      off_fraction = off-fraction;
      off_timeout = off-timeout;
    })) at))))
    (broken bad_script)))

-- "the expression as byte length up to 1,024 and then its bytes": done, with where they start, how many they are and the place after them; or
-- bad script, for "a byte length above 1,024" or bytes past the script's end
pub data Stretch : Type 0 where
  stretch : (answer start count next : ℕ) → Stretch
  cut : (answer : ℕ) → Stretch

abbrev pub stretch_at : List ℕ → Found → Stretch
stretch_at s (found answer size at) =
    cond (leb size most_token_bytes) (cond (leb size (length s - at)) (stretch done at size (at + size)) (cut bad_script)) (cut bad_script)
stretch_at s (none answer) = cut answer

abbrev pub expression_at : List ℕ → ℕ → ℕ → Stretch
expression_at s at mask = cond (named 32 mask) (stretch_at s (number_at s at)) (stretch done 0 0 at)

-- "an expression's bytes are a part of the script itself"; none where they would not lie in it
abbrev pub tokens_at : List ℕ → ℕ → ℕ → List ℕ
tokens_at s start count = cond (leb start (length s)) (cond (leb count (length s - start)) (take count (drop start s)) []) []

abbrev pub field_tokens : List ℕ → Stretch → (List ℕ → ℕ → ℕ → ℕ → Parsed) → Parsed
field_tokens s (stretch answer start count next) follow = follow (tokens_at s start count) start count next
field_tokens s (cut answer) follow = broken answer

-- 5 "band Set (band, mask, values likewise, the expression as byte length up to 1,024 and then its bytes)"
unfoldable pub band_set_at : List ℕ → ℕ → Parsed
band_set_at s at =
    field (number_at s at) (λ band at.
    field (number_at s at) (λ mask at.
    cond (ltb mask band_masks)
    (fields (first_columns_at s at mask) (λ read-lock-enabled write-lock-enabled read-locked write-locked lock-on-reset at.
    field_tokens s (expression_at s at mask) (λ tokens start count at.
    event done (band_set band (record {
      mask = mask;
      read_lock_enabled = read-lock-enabled;
      write_lock_enabled = write-lock-enabled;
      read_locked = read-locked;
      write_locked = write-locked;
      lock_on_reset = lock-on-reset;
    }) tokens) start count at)))
    (broken bad_script)))

-- 6 "geometry (band, start, length)"
unfoldable pub geometry_at : List ℕ → ℕ → Parsed
geometry_at s at =
    field (number_at s at) (λ band at. field (number_at s at) (λ start at. field (number_at s at) (λ length at. plain (geometry band start length) at)))

-- 7 "transfer (0 read or 1 write, start, count)"
unfoldable pub transfer_at : List ℕ → ℕ → Parsed
transfer_at s at =
    field (number_at s at) (λ direction at.
    field (number_at s at) (λ start at. field (number_at s at) (λ count at. plain (transfer direction start count) at)))

-- a kind of event: its number, and what its fields read to at a place
pub record KindAt : Type 0 where
  pub number : ℕ
  pub fields : List ℕ → ℕ → Parsed

abbrev pub kind : ℕ → (List ℕ → ℕ → Parsed) → KindAt
kind n f = record { number = n; fields = f }

-- "Events: 1 reading ..; 2 elapse ..; 3 reset ..; 4 sensor Set ..; 5 band Set ..; 6 geometry ..; 7 transfer .."
abbrev pub kinds : List KindAt
kinds =
    kind 1 reading_at
    ∷ kind 2 elapse_at
    ∷ kind 3 reset_at
    ∷ kind 4 sensor_set_at
    ∷ kind 5 band_set_at
    ∷ kind 6 geometry_at
    ∷ kind 7 transfer_at
    ∷ []

-- the event of the kind that has the number; "an unknown kind" is bad
abbrev pub among : List KindAt → ℕ → List ℕ → ℕ → Parsed
among [] n s at = broken bad_script
among (k ∷ l) n s at = cond (eqb n k.number) (k.fields s at) (among l n s at)

abbrev pub of_kind : ℕ → List ℕ → ℕ → Parsed
of_kind n s at = among kinds n s at

unfoldable pub event_at : List ℕ → ℕ → Parsed
event_at s at = field (number_at s at) (λ kind at. of_kind kind s at)

-- the bytes that an event carries: a band Set's expression
abbrev pub carried : Event → List ℕ
carried e = if_setting (shape_of e) (λ b c tokens. tokens) []

-- What the code's reading hands back, from a place where the reader was, and where the reader is then: the event that stands there, whose
-- bytes are a part of the script, and the reader after it; or none, with answer 10, and the reader as it was.
abbrev pub Reads : List ℕ → Parsed → ℕ → Option LentEvent → ℕ → Type 0
Reads s (event answer e start count next) was (Some ev) at =
    (answer ≡ 0) × (event_in ev ≡ e) × (carried e ≡ tokens_at s start count) × (at ≡ next)
Reads s (broken answer) was None at = (answer ≡ 10) × (at ≡ was)
Reads s (event answer e start count next) was None at = ⊥
Reads s (broken answer) was (Some ev) at = ⊥
