-- Laws of the answers to events, from their lists of refusals.
use Prim.Native.Nat.{ℕ, ◌<◌, ◌≤◌}
use mathlib.Core.Path.{◌≡◌, refl, sym, ap, ◌∙◌}
use native.Mathlib.Omega.{arith}
use mathlib.Core.Bool.{Bool, true, false, not}
use mathlib.Core.List.{List, ◌∷◌, map}
use lib.Dec.{eqb, ltb}
use borrow.Author.Tests.{lt-ltb, le-ltb}
use Rattle.base.specs.Refusals.{first_of}
use Rattle.base.specs.Rows.{is_row}
use Rattle.base.specs.Ticks.{most_ticks}
use Rattle.base.proofs.Cases.{cond-true, cond-false}
use Rattle.base.proofs.Refusals.{applies_at, numbers_below, past_events, rising_from, none-applies, first_below, rising-lowest}
use Rattle.sensor_set.specs.declared.SensorEvent.{SensorEvent}
use Rattle.sensor_set.specs.Columns.{sensor_refusals, sensor_answer}
use Rattle.sensor_set.proofs.Refused.{sensor-numbers, sensor-rises}
use Rattle.band.specs.declared.Side.{Side}
use Rattle.band_columns.specs.declared.BandColumns.{BandColumns}
use Rattle.band.specs.Rows.{last_reset_type, closed_on}
use Rattle.geometry.specs.Events.{place_answer, transfer_answer}
use Rattle.drive.specs.declared.Drive.{Drive}
use Rattle.drive.specs.State.{conditions_of, row_at, settle_of}
use Rattle.drive.specs.Events.{Event, elapse, reset, band_set, geometry, transfer, Shape, ticking, resetting, setting, sensing, placing, looking, shape_of}
use Rattle.drive.specs.Events.{row_refusals, side_of, no_row, refusals_by, refusals, answer_of, LowestGiven, act_of, step_of, elapsed_stops, stops_of}

-- the numbers that events can get
event-numbers : (d : Drive) (e : Event) → numbers_below past_events (refusals d e) ≡ true
event-numbers d e = go (shape_of e)
  where
    go : (x : Shape) → numbers_below past_events (refusals_by d x) ≡ true
    go (ticking n) = refl
    go (resetting t) = refl
    go (setting b c bytes) = refl
    go (sensing s x) = sensor-numbers x
    go (placing b start n) = refl
    go (looking w start n) = refl

-- of an event that is answered 0 nothing applies
pub granted-free : (d : Drive) (e : Event) → answer_of d e ≡ 0 → (i : ℕ) → applies_at (refusals d e) i ≡ false
unfolding answer_of
granted-free d e q = none-applies past_events (refusals d e) (event-numbers d e) q

pub answer-below : (d : Drive) (e : Event) → answer_of d e < past_events
unfolding answer_of
answer-below d e = first_below past_events (refusals d e) (omega arith) (event-numbers d e)

-- each event's numbers stand in their order, so the first that applies is the lowest
pub lowest-given : LowestGiven
unfolding answer_of
lowest-given d e = rising-lowest 1 (refusals d e) (omega arith) (rises (shape_of e))
  where
    rises : (x : Shape) → rising_from 1 (refusals_by d x) ≡ true
    rises (ticking n) = refl
    rises (resetting t) = refl
    rises (setting b c bytes) = refl
    rises (sensing s x) = sensor-rises x
    rises (placing b start n) = refl
    rises (looking w start n) = refl

-- ---- a row that is not there, and one that is: what is left of the list

-- an event on one sensor, whichever it is
module _ (d : Drive) (e : Event) (s : ℕ) (x : SensorEvent) (h : shape_of e ≡ sensing s x) (t : Bool) (p : t ≡ not (is_row d.sensor_count s)) where
  by-sensor : first_of (no_row d.sensor_count s ∷ sensor_refusals x) ≡ answer_of d e
  unfolding answer_of
  by-sensor = ap (λ (y : Shape). first_of (refusals_by d y)) (sym h)

  pub no-sensor : t ≡ true → 1 ≡ answer_of d e
  no-sensor g = cond-true (not (is_row d.sensor_count s)) 1 _ _ (sym p ∙ g) refl ∙ by-sensor

  pub sensor-answered : t ≡ false → sensor_answer x ≡ answer_of d e
  sensor-answered g = cond-false (not (is_row d.sensor_count s)) 1 _ _ (sym p ∙ g) refl ∙ by-sensor

module _ (d : Drive) (b : ℕ) (c : BandColumns) (bytes : List ℕ) (t : Bool) (p : t ≡ not (is_row d.band_count b)) where
  pub no-band : t ≡ true → 1 ≡ answer_of d (band_set b c bytes)
  unfolding answer_of
  no-band e = cond-true (not (is_row d.band_count b)) 1 _ _ (sym p ∙ e) refl

  pub band-answered : t ≡ false → first_of (row_refusals (conditions_of d) c bytes (row_at d b)) ≡ answer_of d (band_set b c bytes)
  unfolding answer_of
  band-answered e = cond-false (not (is_row d.band_count b)) 1 _ _ (sym p ∙ e) refl

-- ---- the other events

pub elapse-answered : (d : Drive) (n : ℕ) → n ≤ most_ticks → 0 ≡ answer_of d (elapse n)
unfolding answer_of
elapse-answered d n h = cond-false (ltb most_ticks n) 2 _ _ (le-ltb most_ticks n h) refl

pub elapse-refused : (d : Drive) (n : ℕ) → most_ticks < n → 2 ≡ answer_of d (elapse n)
unfolding answer_of
elapse-refused d n h = cond-true (ltb most_ticks n) 2 _ _ (lt-ltb most_ticks n h) refl

pub reset-answered : (d : Drive) (t : ℕ) → t ≤ last_reset_type → 0 ≡ answer_of d (reset t)
unfolding answer_of
reset-answered d t h = cond-false (ltb last_reset_type t) 2 _ _ (le-ltb last_reset_type t h) refl

pub reset-refused : (d : Drive) (t : ℕ) → last_reset_type < t → 2 ≡ answer_of d (reset t)
unfolding answer_of
reset-refused d t h = cond-true (ltb last_reset_type t) 2 _ _ (lt-ltb last_reset_type t h) refl

pub geometry-answered : (d : Drive) (b start n : ℕ) → place_answer d.capacity d.band_count d.spans b start n ≡ answer_of d (geometry b start n)
unfolding answer_of place_answer
geometry-answered d b start n = refl

pub transfer-refused : (d : Drive) (w start n : ℕ) → 1 < w → 2 ≡ answer_of d (transfer w start n)
unfolding answer_of
transfer-refused d w start n h = cond-true (ltb 1 w) 2 _ _ (lt-ltb 1 w h) refl

pub transfer-answered : (d : Drive) (w start n : ℕ) (side : Side) (closed : List Bool) → w ≤ 1 → side ≡ side_of w → closed ≡ map (closed_on side) d.rows
    → transfer_answer d.capacity d.band_count d.spans closed start n ≡ answer_of d (transfer w start n)
unfolding answer_of transfer_answer
transfer-answered d w start n side closed h es ec =
    ap (λ (l : List Bool). transfer_answer d.capacity d.band_count d.spans l start n) (ec ∙ ap (λ (x : Side). map (closed_on x) d.rows) es)
    ∙ cond-false (ltb 1 w) 2 _ _ (le-ltb 1 w h) refl

-- ---- what follows from the answer

-- "Any refusal leaves the drive .. untouched", and has no stops
pub refused-stays : (d : Drive) (e : Event) (n : ℕ) → n ≡ answer_of d e → eqb n 0 ≡ false → (d ≡ step_of d e) × (0 ≡ stops_of d e)
unfolding step_of stops_of
refused-stays d e n p z =
    let f : eqb (answer_of d e) 0 ≡ false = ap (λ (k : ℕ). eqb k 0) (sym p) ∙ z in
    (cond-false (eqb (answer_of d e) 0) _ _ _ f refl, cond-false (eqb (answer_of d e) 0) _ _ _ f refl)

pub granted-acts : (d : Drive) (e : Event) (n : ℕ) → n ≡ answer_of d e → eqb n 0 ≡ true → (settle_of (act_of d e) ≡ step_of d e) × (elapsed_stops d e ≡ stops_of d e)
unfolding step_of stops_of
granted-acts d e n p z =
    let f : eqb (answer_of d e) 0 ≡ true = ap (λ (k : ℕ). eqb k 0) (sym p) ∙ z in
    (cond-true (eqb (answer_of d e) 0) _ _ _ f refl, cond-true (eqb (answer_of d e) 0) _ _ _ f refl)
