-- Document 02, #106: what a script holds of an event, and what the flat form of it is. Document 01, 'Script', read the other way.
use Rattle.std.specs.Prelude.{ℕ, ◌/◌, ◌<◌, Bool, cond, ◌&&◌, ◌||◌, List, [], ◌∷◌, ◌++◌, eqb, leb, length, get_or}
use Rattle.base.specs.Columns.{named}
use Rattle.numbers.specs.Groups.{too_great, number_bytes}
use Rattle.sensor_set.specs.declared.SensorColumns.{SensorColumns}
use Rattle.token_reader.specs.Read.{most_token_bytes}
use Rattle.band_columns.specs.declared.BandColumns.{BandColumns}
use Rattle.drive.specs.Events.{Event, reading, elapse, reset, sensor_set, band_set, geometry, transfer}

-- An event by its numbers: its kind and the fields that every script has, and of a Set the mask, a value for each column by rising bit, named
-- or not, and the expression's bytes.
pub record Form : Type 0 where
  pub numbers : List ℕ
  pub mask : ℕ
  pub values : List ℕ
  pub tokens : List ℕ

-- an event that is no Set
abbrev pub plain : List ℕ → Form
plain numbers = record { numbers = numbers; mask = 0; values = []; tokens = [] }

abbrev pub sensor_values : SensorColumns → List ℕ
sensor_values c =
    c.enabled
    ∷ c.on_threshold
    ∷ c.on_fraction
    ∷ c.on_timeout
    ∷ c.off_threshold
    ∷ c.off_fraction
    ∷ c.off_timeout
    ∷ []

-- "the expression as byte length up to 1,024 and then its bytes": the value of the sixth bit is the byte length
abbrev pub band_values : BandColumns → (tokens : List ℕ) → List ℕ
band_values c tokens =
    c.read_lock_enabled
    ∷ c.write_lock_enabled
    ∷ c.read_locked
    ∷ c.write_locked
    ∷ c.lock_on_reset
    ∷ length tokens
    ∷ []

-- "Events: 1 reading (sensor, value); 2 elapse (n); 3 reset (type); 4 sensor Set (sensor, mask, values by rising bit); 5 band Set (band, mask, values
-- likewise, the expression ..); 6 geometry (band, start, length); 7 transfer (0 read or 1 write, start, count)."
abbrev pub form_of : Event → Form
form_of (reading sensor value) = plain (1 ∷ sensor ∷ value ∷ [])
form_of (elapse n) = plain (2 ∷ n ∷ [])
form_of (reset type) = plain (3 ∷ type ∷ [])
form_of (sensor_set sensor c) = record {
  numbers = 4 ∷ sensor ∷ c.mask ∷ [];
  mask = c.mask;
  values = sensor_values c;
  tokens = [];
}
form_of (band_set band c tokens) = record {
  numbers = 5 ∷ band ∷ c.mask ∷ [];
  mask = c.mask;
  values = band_values c tokens;
  tokens = tokens;
}
form_of (geometry band start blocks) = plain (6 ∷ band ∷ start ∷ blocks ∷ [])
form_of (transfer direction start count) = plain (7 ∷ direction ∷ start ∷ count ∷ [])

-- ---- in a script

-- numbers one after the other
unfoldable pub numbers_bytes : List ℕ → List ℕ
numbers_bytes [] = []
numbers_bytes (v ∷ numbers) = number_bytes v ++ numbers_bytes numbers

-- "values by rising bit": the first value is that of the mask's lowest bit, and only what the mask names is there
unfoldable pub values_bytes : (mask : ℕ) → List ℕ → List ℕ
values_bytes mask [] = []
values_bytes mask (v ∷ values) = cond (named 1 mask) (number_bytes v) [] ++ values_bytes (mask / 2) values

abbrev pub form_bytes : Form → List ℕ
form_bytes f = numbers_bytes f.numbers ++ (values_bytes f.mask f.values ++ f.tokens)

-- the bytes of an event
unfoldable pub event_bytes : Event → List ℕ
event_bytes e = form_bytes (form_of e)

-- "a Set's value that its mask doesn't name must be 0 or empty"; and where the values have ended no bit is left: "an unknown mask bit"
unfoldable pub values_fit : (mask : ℕ) → List ℕ → Bool
values_fit mask [] = eqb mask 0
values_fit mask (v ∷ values) = (named 1 mask || eqb v 0) && values_fit (mask / 2) values

-- "an event that no script can hold" is any other than these; "a byte length above 1,024"
unfoldable pub holdable : Event → Bool
holdable e = values_fit (form_of e).mask (form_of e).values && leb (length (form_of e).tokens) most_token_bytes

-- ---- in the flat form

-- kind, then every field, and a value for each column, named or not
abbrev pub fields_of : Event → List ℕ
fields_of e = (form_of e).numbers ++ (form_of e).values

abbrev pub tokens_of : Event → List ℕ
tokens_of e = (form_of e).tokens

-- an event with other bytes for its expression; only a band Set has one
abbrev pub with_tokens : List ℕ → Event → Event
with_tokens tokens (reading sensor value) = reading sensor value
with_tokens tokens (elapse n) = elapse n
with_tokens tokens (reset type) = reset type
with_tokens tokens (sensor_set sensor c) = sensor_set sensor c
with_tokens tokens (band_set band c old) = band_set band c tokens
with_tokens tokens (geometry band start blocks) = geometry band start blocks
with_tokens tokens (transfer direction start count) = transfer direction start count

-- every number is below 2^64, as a number of a script and a `u64` are
abbrev pub Words : List ℕ → Type 0
Words numbers = (i : ℕ) → get_or numbers i 0 < too_great
