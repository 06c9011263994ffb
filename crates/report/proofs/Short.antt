-- How long a listing is at most: 13 bytes for each of 32,766 events, 11 for each of 16 bands and 22 for each of 16 sensors.
use mathlib.Core.Path.{◌≡◌, refl, ◌∙◌}
use Prim.Native.Nat.{ℕ, zero, suc, ◌+◌, ◌*◌, ◌≤◌, ◌<◌}
use native.Mathlib.Nat.{suc-mul}
use native.Mathlib.Omega.{arith}
use mathlib.Core.Bool.{Bool, true, false, cond}
use mathlib.Core.List.{List, [], ◌∷◌}
use lib.Dec.{eqb, ltb}
use lib.ListN.{length, get_or, length-append}
use borrow.Author.Tests.{ltb-true, ltb-false, eqb-true}
use Rattle.base.specs.Lists.{one_if}
use Rattle.base.specs.Ticks.{stops}
use Rattle.base.proofs.Cases.{cond_either}
use Rattle.base.proofs.Lists.{one_if-le, few-counted}
use Rattle.phases.specs.declared.Phase.{Phase}
use Rattle.phases.specs.declared.Phase.TheVariants.{SS0, ST0, SS1, ST1, SS2}
use Rattle.phases.specs.Phases.{phase_number}
use Rattle.sensor.specs.declared.single.Sensor.{Sensor}
use Rattle.sensor.specs.Single.{fresh_sensor, runs}
use Rattle.sensor.specs.Sound.{Timed}
use Rattle.sensor_set.proofs.Keeping.{keeps-timed}
use Rattle.evaluator.specs.declared.Evaluation.{Evaluation}
use Rattle.evaluator.specs.Value.{is_true}
use Rattle.band.specs.declared.Side.TheVariants.{Read, Write}
use Rattle.band.specs.declared.Row.{Row}
use Rattle.band.specs.Rows.{fresh_row, locked_on, value_in}
use Rattle.drive.specs.declared.Drive.{Drive}
use Rattle.drive.specs.State.{fresh_drive, header_fits, conditions_of, tick_of, stop_next}
use Rattle.drive.specs.Events.{Event, Shape, ticking, resetting, setting, sensing, placing, looking, shape_of, if_ticking, answer_of, elapsed_stops, stops_of, step_of, run_of, along, answers_of, stops_in}
use Rattle.drive.proofs.Answers.{answer-below}
use Rattle.drive.proofs.Keeping.{step_keeps, Each, run-each, fresh-each}
use Rattle.elapse.proofs.Calm.{stops-few}
use Rattle.reached.proofs.Reaching.{fresh-reached}
use Rattle.event_reader.specs.Fields.{Parsed, event, broken, event_at}
use Rattle.script.specs.Events.{Events, events, bad_from, before, and_then}
use Rattle.script.specs.Whole.{most_script_bytes, most_events, Header, header, no_header, header_at, Script, accepted, bad, with_events, with_header, read_script}
use Rattle.script.specs.Parts.{events_in, events_from}
use Rattle.script.proofs.Few.{AtStart, header-start, few-events}
use Rattle.run.proofs.Whole.{accepted-is}
use Rattle.report.specs.Lines.{decimal, fields, line, lines, event_line, event_lines, band_line, band_lines, sensor_line, sensor_lines, drive_lines, bad_line}
use Rattle.report.specs.Listing.{most_listed, listing}
use Rattle.report.proofs.Decimal.{few-digits}

-- ---- a line

field-long : (n : ℕ) (ns : List ℕ) → length (fields (n ∷ ns)) ≡ 1 + length (decimal n) + length (fields ns)
unfolding fields
field-long n ns = omega (arith, length-append (decimal n) (fields ns))

line-long : (letter : ℕ) (ns : List ℕ) → length (line letter ns) ≡ 1 + length (fields ns)
unfolding line
line-long letter ns = omega arith

feed-long : length (fields []) ≡ 1
unfolding fields
feed-long = refl

-- the digit of a test
bit-long : (b : Bool) → length (decimal (one_if b)) ≤ 1
bit-long b = few-digits 0 (one_if b) (omega (arith, one_if-le b))

-- the digits of an answer and of the stops beside it are three at most: a refused event has no stops
abbrev ThreeDigits : ℕ → ℕ → Type 0
ThreeDigits a s = length (decimal a) + length (decimal s) ≤ 3

pub event-short : (i a s : ℕ) → i < 100000 → ThreeDigits a s → length (event_line i a s) ≤ 13
event-short i a s h k =
    omega (arith, line-long 101 (i ∷ a ∷ s ∷ []), field-long i (a ∷ s ∷ []), field-long a (s ∷ []), field-long s [], feed-long, few-digits 4 i h, k)

band-short : (i : ℕ) (row : Row) (v : Evaluation) → i < 100 → length (band_line i row v) ≤ 11
band-short i row v h =
    let a = one_if (locked_on Read row) in
    let b = one_if (locked_on Write row) in
    let c = one_if (is_true v) in
    omega (
      arith,
      line-long 98 (i ∷ a ∷ b ∷ c ∷ []),
      field-long i (a ∷ b ∷ c ∷ []),
      field-long a (b ∷ c ∷ []),
      field-long b (c ∷ []),
      field-long c [],
      feed-long,
      few-digits 1 i h,
      bit-long (locked_on Read row),
      bit-long (locked_on Write row),
      bit-long (is_true v),
    )

phase-few : (p : Phase) → phase_number p < 10
phase-few SS0 = omega arith
phase-few ST0 = omega arith
phase-few SS1 = omega arith
phase-few ST1 = omega arith
phase-few SS2 = omega arith

sensor-short : (i : ℕ) (s : Sensor) → i < 100 → s.timer < 10000000000 → length (sensor_line i s) ≤ 22
sensor-short i s h t =
    let a = one_if s.level in
    let p = phase_number s.phase in
    let c = one_if s.condition in
    omega (
      arith,
      line-long 115 (i ∷ a ∷ p ∷ c ∷ s.timer ∷ []),
      field-long i (a ∷ p ∷ c ∷ s.timer ∷ []),
      field-long a (p ∷ c ∷ s.timer ∷ []),
      field-long p (c ∷ s.timer ∷ []),
      field-long c (s.timer ∷ []),
      field-long s.timer [],
      feed-long,
      few-digits 1 i h,
      bit-long s.level,
      few-digits 0 p (phase-few s.phase),
      bit-long s.condition,
      few-digits 9 s.timer t,
    )

bad-short : (place : ℕ) → place < 100000 → length (bad_line place) ≤ 8
bad-short place h = omega (arith, line-long 102 (place ∷ []), field-long place [], feed-long, few-digits 4 place h)

-- ---- lines

lines-short : (f : ℕ → List ℕ) (w n : ℕ) → ((i : ℕ) → i < n → length (f i) ≤ w) → length (lines f n) ≤ n * w
unfolding lines
lines-short f w zero h = omega arith
lines-short f w (suc n) h =
    omega (arith, length-append (lines f n) (f n), lines-short f w n (λ i k. h i (omega (arith, k))), h n (omega arith), suc-mul n w)

-- ---- an event's numbers

-- sixteen sensors, as the fresh drive has
abbrev Sixteen : Drive → Type 0
Sixteen d = length d.sensors ≡ 16

answered-short : (d : Drive) (e : Event) → Sixteen d → ThreeDigits (answer_of d e) (stops_of d e)
unfolding stops_of
answered-short d e h =
    cond_either (ThreeDigits (answer_of d e)) (eqb (answer_of d e) 0) (elapsed_stops d e) 0
    (λ q. omega (arith, few-digits 0 (answer_of d e) (omega (arith, eqb-true (answer_of d e) 0 q)), few-digits 1 (elapsed_stops d e) (elapsed (shape_of e))))
    (λ q. omega (arith, few-digits 1 (answer_of d e) (omega (arith, answer-below d e)), few-digits 0 0 (omega arith)))
  where
    elapsed : (s : Shape) → if_ticking s (λ n. stops tick_of stop_next n d) 0 < 100
    elapsed (ticking n) = omega (arith, stops-few n d, few-counted runs d.sensors, h)
    elapsed (resetting t) = omega arith
    elapsed (setting b c bytes) = omega arith
    elapsed (sensing s x) = omega arith
    elapsed (placing b start n) = omega arith
    elapsed (looking w start n) = omega arith

-- what an event gets on any drive that is reached
along-short : (d : Drive) (es : List Event) (i : ℕ) → Sixteen d → ThreeDigits (get_or (answers_of d es) i 0) (get_or (stops_in d es) i 0)
unfolding along
along-short d [] i t = omega (arith, few-digits 0 0 (omega arith))
along-short d (e ∷ es) zero t = answered-short d e t
along-short d (e ∷ es) (suc i) t = along-short (step_of d e) es i ((step_keeps d e).sensors ∙ t)

-- ---- the place of a bad script

place-within : (k : ℕ) (s : List ℕ) (at place : ℕ) → events_in k s at ≡ bad_from place → place < length s
unfolding events_in
place-within zero s at place h = let z : ◌≡◌ {A = ℕ} 0 1 = cc in absurd (omega arith)
place-within (suc k) s at place h = go (λ n. place-within k s n place) (ltb at (length s)) refl (event_at s at) h
  where
    after : (e : Event) (o : Events) → (o ≡ bad_from place → place < length s) → before e o ≡ bad_from place → place < length s
    after e (events es) ih q = let z : ◌≡◌ {A = ℕ} 0 1 = cc in absurd (omega arith)
    after e (bad_from x) ih q = ih q

    go : ((n : ℕ) → events_in k s n ≡ bad_from place → place < length s) → (t : Bool) → ltb at (length s) ≡ t → (p : Parsed)
        → cond t (and_then at p (λ n. events_in k s n)) (events []) ≡ bad_from place → place < length s
    go ih true l (event x e y z n) q = after e (events_in k s n) (ih n) q
    go ih true l (broken x) q = let e : at ≡ place = cc in omega (arith, ltb-true at (length s) l, e)
    go ih false l p q = let z : ◌≡◌ {A = ℕ} 0 1 = cc in absurd (omega arith)

bad-place : (s : List ℕ) (place : ℕ) → read_script s ≡ bad place → place < 100000
unfolding read_script events_from
bad-place s place q = go (ltb most_script_bytes (length s)) refl (header_at s) (header-start s) q
  where
    all : (a b c n : ℕ) → length s ≤ most_script_bytes → (o : Events) → events_from s n ≡ o → with_events a b c o ≡ bad place → place < 100000
    all a b c n l (events es) p q = let w : ◌≡◌ {A = ℕ} 0 1 = cc in absurd (omega arith)
    all a b c n l (bad_from x) p q = let e : x ≡ place = cc in omega (arith, l, e, place-within _ s n x p)

    at-start : (x : ℕ) → x ≡ 0 → bad x ≡ bad place → place < 100000
    at-start x z q = let e : x ≡ place = cc in omega (arith, e, z)

    go : (t : Bool) → ltb most_script_bytes (length s) ≡ t → (h : Header) → AtStart h → cond t (bad 0) (with_header s h) ≡ bad place → place < 100000
    go true l h i q = at-start 0 refl q
    go false l (header x a b c n) i q = let j = ltb-false most_script_bytes (length s) l in all a b c n (omega (arith, j)) (events_from s n) refl q
    go false l (no_header x y) i q = at-start y i q

-- ---- the listing

module _ (capacity bands sensors : ℕ) (es : List Event) (fits : header_fits capacity bands sensors ≡ true) (few : length es ≤ most_events) where
  -- no timer of the drive at the end exceeds the greatest timeout
  timed-after : Each Timed (run_of (fresh_drive capacity bands sensors) es)
  timed-after = run-each Timed keeps-timed (fresh_drive capacity bands sensors) es (fresh-each Timed keeps-timed capacity bands sensors)

  accepted-short : length (listing (accepted capacity bands sensors es)) ≤ most_listed
  unfolding listing fresh_drive
  accepted-short =
      let fresh = fresh_drive capacity bands sensors in
      let d = run_of fresh es in
      let h = (fresh-reached capacity bands sensors fits).shaped.header in
      let t : Sixteen fresh = refl in
      let e : length (event_lines (answers_of fresh es) (stops_in fresh es) (length es)) ≤ length es * 13 =
      lines-short _ 13 (length es) (λ i k. event-short _ _ _ (omega (arith, k, few)) (along-short fresh es i t)) in
      let b : length (band_lines (conditions_of d) d.rows bands) ≤ bands * 11 =
      lines-short _ 11 bands (λ i k. band-short i (get_or d.rows i fresh_row) (value_in (conditions_of d) (get_or d.rows i fresh_row)) (omega (arith, k, h.few-bands))) in
      let s : length (sensor_lines d.sensors sensors) ≤ sensors * 22 =
      lines-short _ 22 sensors (λ i k. sensor-short i (get_or d.sensors i fresh_sensor) (omega (arith, k, h.few-sensors)) (omega (arith, (timed-after i).timer))) in
      omega (
        arith,
        length-append (event_lines (answers_of fresh es) (stops_in fresh es) (length es)) (drive_lines bands sensors d),
        length-append (band_lines (conditions_of d) d.rows bands) (sensor_lines d.sensors sensors),
        e,
        b,
        s,
        few,
        h.few-bands,
        h.few-sensors,
      )

-- an output of 426,486 bytes is never too short
pub never-short : (s : List ℕ) → length (listing (read_script s)) ≤ most_listed
unfolding listing
never-short s = go (read_script s) refl
  where
    go : (o : Script) → read_script s ≡ o → length (listing o) ≤ most_listed
    go (accepted capacity bands sensors es) q = accepted-short capacity bands sensors es (accepted-is s capacity bands sensors es q).fits (few-events s capacity bands sensors es q)
    go (bad place) q = omega (arith, bad-short place (bad-place s place q))
