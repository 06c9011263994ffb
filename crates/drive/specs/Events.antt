-- Document 01: the events, the table of refusals, and what an event makes of a drive.
use Rattle.std.specs.Prelude.{ℕ, ◌≡◌, Bool, not, cond, ◌&&◌, ◌||◌, List, [], ◌∷◌, map, eqb, ltb, length, Result, IfOk}
use Rattle.base.specs.Ticks.{most_ticks, ticks, stops}
use Rattle.base.specs.Columns.{named}
use Rattle.base.specs.Refusals.{TableRow, when, first_of, LowestOf}
use Rattle.base.specs.Rows.{is_row, modify}
use Rattle.answer.specs.declared.Refusal.{Refusal}
use Rattle.answer.specs.Numbers.{answer_number}
use Rattle.sensor_set.specs.declared.SensorColumns.{SensorColumns}
use Rattle.sensor.specs.Single.{power_cycle_of}
use Rattle.sensor_set.specs.declared.SensorEvent.{SensorEvent}
use Rattle.sensor_set.specs.declared.SensorEvent.TheVariants as S
use Rattle.sensor_set.specs.Columns.{sensor_refusals, sensor_after}
use Rattle.expression.specs.Elements.{elements_in}
use Rattle.evaluator.specs.Formed.{malformed}
use Rattle.token_reader.specs.Read.{most_token_bytes, read_tokens, answer_in, expression_in}
use Rattle.band.specs.declared.Side.{Side}
use Rattle.band.specs.declared.Side.TheVariants.{Read, Write}
use Rattle.band.specs.declared.Row.{Row}
use Rattle.band_columns.specs.declared.BandColumns.{BandColumns}
use Rattle.band.specs.Rows.{closed_on, value_in, last_reset_type, reset_row}
use Rattle.band_columns.specs.Sets.{formed_row, held_by}
use Rattle.band_columns.specs.Sets.{columns_fit as band_columns_fit}
use Rattle.geometry.specs.Events.{place_refusals, transfer_refusals, placed}
use Rattle.drive.specs.declared.Drive.{Drive}
use Rattle.drive.specs.declared.Event.{Event as LentEvent}
use Rattle.drive.specs.declared.Event.TheVariants as L
use Rattle.drive.specs.State.{with_rows, with_spans, with_sensors, conditions_of, row_at, settle_of, tick_of, stop_next}

-- 'Script', the seven events with all their fields. A Set's columns are its mask and a number for each column; a band Set has the
-- expression's bytes besides.
pub data Event : Type 0 where
  reading : (sensor value : ℕ) → Event
  elapse : (ticks : ℕ) → Event
  reset : (type : ℕ) → Event
  sensor_set : (sensor : ℕ) (columns : SensorColumns) → Event
  band_set : (band : ℕ) (columns : BandColumns) (tokens : List ℕ) → Event
  geometry : (band start length : ℕ) → Event
  transfer : (direction start count : ℕ) → Event

-- One shape of an event: what it does to time, to all bands by a reset, to a band's row, to a sensor, to a band's place; a transfer only looks.
pub data Shape : Type 0 where
  ticking : (ticks : ℕ) → Shape
  resetting : (type : ℕ) → Shape
  setting : (band : ℕ) (columns : BandColumns) (tokens : List ℕ) → Shape
  sensing : (sensor : ℕ) (event : SensorEvent) → Shape
  placing : (band start length : ℕ) → Shape
  looking : (direction start count : ℕ) → Shape

abbrev pub shape_of : Event → Shape
shape_of (reading s v) = sensing s (S.Reading v)
shape_of (elapse n) = ticking n
shape_of (reset t) = resetting t
shape_of (sensor_set s c) = sensing s (S.Set c)
shape_of (band_set b c bytes) = setting b c bytes
shape_of (geometry b start n) = placing b start n
shape_of (transfer w start n) = looking w start n

-- what is said of an elapse, of a reset and of a band Set, and of all other events
abbrev pub if_ticking : {A : Type 0} → Shape → (ℕ → A) → A → A
if_ticking (ticking n) f a = f n
if_ticking (resetting t) f a = a
if_ticking (setting b c bytes) f a = a
if_ticking (sensing s x) f a = a
if_ticking (placing b start n) f a = a
if_ticking (looking w start n) f a = a

abbrev pub if_resetting : {A : Type 0} → Shape → (ℕ → A) → A → A
if_resetting (ticking n) f a = a
if_resetting (resetting t) f a = f t
if_resetting (setting b c bytes) f a = a
if_resetting (sensing s x) f a = a
if_resetting (placing b start n) f a = a
if_resetting (looking w start n) f a = a

abbrev pub if_setting : {A : Type 0} → Shape → (ℕ → BandColumns → List ℕ → A) → A → A
if_setting (ticking n) f a = a
if_setting (resetting t) f a = a
if_setting (setting b c bytes) f a = f b c bytes
if_setting (sensing s x) f a = a
if_setting (placing b start n) f a = a
if_setting (looking w start n) f a = a

-- ---- the refusals of each event, in the order in which they are given

-- "A Set forms the new row", with "the new [expression], if the Set names it"
abbrev pub formed_from : BandColumns → List ℕ → Row → Row
formed_from c bytes row = formed_row c (expression_in (read_tokens bytes)) row

-- what the token reader answers to a Set's bytes, where the Set names them
abbrev pub tokens_answer : BandColumns → List ℕ → ℕ
tokens_answer c bytes = cond (named 32 c.mask) (answer_in (read_tokens bytes)) 0

-- document 02, #104: "A Set with a malformed, non-empty expression": it names one, and the bytes read to one. It does not depend on the conditions.
abbrev pub malformed_in : BandColumns → List ℕ → Bool
malformed_in c bytes = named 32 c.mask && malformed (elements_in (expression_in (read_tokens bytes)))

-- a new row whose Set is held, under the conditions
abbrev pub held_under : List Bool → BandColumns → Row → Bool
held_under conditions c new = held_by c new (value_in conditions new)

-- the refusals of a Set of a row that is there: 2 "out of range: a field exceeds its range" ("an unknown mask bit or more than 1,024
-- expression bytes gets 2"), 3 "not tokens" and 4 "too long" ("the one met first from the left"), 13 "malformed, right after 3 and 4 and before
-- 8", 8 "held: an unlock under a TRUE expression"
abbrev pub row_refusals_if : BandColumns → List ℕ → (held : Bool) → List TableRow
row_refusals_if c bytes held =
    when 2 (not (band_columns_fit c) || ltb most_token_bytes (length bytes))
    ∷ when 3 (eqb (tokens_answer c bytes) 3)
    ∷ when 4 (eqb (tokens_answer c bytes) 4)
    ∷ when 13 (malformed_in c bytes)
    ∷ when 8 held
    ∷ []

abbrev pub row_refusals : List Bool → BandColumns → List ℕ → Row → List TableRow
row_refusals conditions c bytes row = row_refusals_if c bytes (held_under conditions c (formed_from c bytes row))

-- "transfer (0 read or 1 write, ..)"
abbrev pub side_of : ℕ → Side
side_of direction = cond (eqb direction 0) Read Write

-- 1 "no row: the band or sensor is not below its count"
abbrev pub no_row : ℕ → ℕ → TableRow
no_row count i = when 1 (not (is_row count i))

-- each event's own list; 2 "out of range: a field exceeds its range" of the ticks, of a reset's type and of a direction. The events on one
-- sensor, a reading and a Set, have theirs after 1 (`sensor_refusals`).
abbrev pub refusals_by : Drive → Shape → List TableRow
refusals_by d (ticking n) = when 2 (ltb most_ticks n) ∷ []
refusals_by d (resetting t) = when 2 (ltb last_reset_type t) ∷ []
refusals_by d (setting b c bytes) = no_row d.band_count b ∷ row_refusals (conditions_of d) c bytes (row_at d b)
refusals_by d (sensing s x) = no_row d.sensor_count s ∷ sensor_refusals x
refusals_by d (placing b start n) = place_refusals d.capacity d.band_count d.spans b start n
refusals_by d (looking w start n) =
    when 2 (ltb 1 w) ∷ transfer_refusals d.capacity d.band_count d.spans (map (closed_on (side_of w)) d.rows) start n

abbrev pub refusals : Drive → Event → List TableRow
refusals d e = refusals_by d (shape_of e)

-- "0 done: nothing below applies"
unfoldable pub answer_of : Drive → Event → ℕ
answer_of d e = first_of (refusals d e)

-- "The lowest number that applies is given", 13 in its place (`order_of`): so it is with every event, on every drive
abbrev pub LowestGiven : Type 0
LowestGiven = (d : Drive) (e : Event) → LowestOf (refusals d e) (answer_of d e)

-- ---- what an event that is answered 0 does before the bands settle

-- "A band whose set has the type gets each enabled side locked. A power cycle then sets each level FALSE .."; of the other types document 02, #105
-- says it of the new one: it "does not touch sensors"
abbrev pub reset_of : ℕ → Drive → Drive
reset_of t d =
    with_sensors (cond (eqb t 0) (map power_cycle_of d.sensors) d.sensors) (with_rows (map (reset_row t) d.rows) d)

abbrev pub act_by : Drive → Shape → Drive
act_by d (ticking n) = ticks tick_of n d
act_by d (resetting t) = reset_of t d
act_by d (setting b c bytes) = with_rows (modify (formed_from c bytes) b d.rows) d
act_by d (sensing s x) = with_sensors (modify (sensor_after x) s d.sensors) d
act_by d (placing b start n) = with_spans (placed d.spans b start n) d
act_by d (looking w start n) = d

unfoldable pub act_of : Drive → Event → Drive
act_of d e = act_by d (shape_of e)

-- "Settling, after every event and tick"; "Any refusal leaves the drive .. untouched."
unfoldable pub step_of : Drive → Event → Drive
step_of d e = cond (eqb (answer_of d e) 0) (settle_of (act_of d e)) d

-- "the answer carries their count"; "stops (0 unless elapse)"
abbrev pub elapsed_stops : Drive → Event → ℕ
elapsed_stops d e = if_ticking (shape_of e) (λ n. stops tick_of stop_next n d) 0

unfoldable pub stops_of : Drive → Event → ℕ
stops_of d e = cond (eqb (answer_of d e) 0) (elapsed_stops d e) 0

-- What an event hands back and the drive after it, on every drive.
pub record Replies (d : Drive) (e : Event) (r : Result ℕ Refusal) (after : Drive) : Type 0 where
  pub answer : answer_number r ≡ answer_of d e
  pub stops : IfOk r (λ n. n ≡ stops_of d e)
  pub drive : after ≡ step_of d e
  -- "The lowest number that applies is given", 13 in its place
  pub lowest : LowestOf (refusals d e) (answer_number r)

-- the event that one with its expression lent is
abbrev pub event_in : LentEvent → Event
event_in (L.Reading s v) = reading s v
event_in (L.Elapse n) = elapse n
event_in (L.Reset t) = reset t
event_in (L.SensorSet s c) = sensor_set s c
event_in (L.BandSet b c tokens) = band_set b c tokens.now
event_in (L.Geometry b span) = geometry b span.start span.length
event_in (L.Transfer w range) = transfer w range.start range.length

-- "each event, whatever its kind and answer, gets the drive that the last one left"
unfoldable pub run_of : Drive → List Event → Drive
run_of d [] = d
run_of d (e ∷ es) = run_of (step_of d e) es

-- what each event of a list gets, on the drive that the last one left
unfoldable pub along : (Drive → Event → ℕ) → Drive → List Event → List ℕ
along f d [] = []
along f d (e ∷ es) = f d e ∷ along f (step_of d e) es

-- "each event gets its answer"
abbrev pub answers_of : Drive → List Event → List ℕ
answers_of d es = along answer_of d es

-- and its stops, 0 for all but an elapse
abbrev pub stops_in : Drive → List Event → List ℕ
stops_in d es = along stops_of d es
