-- What the arms of the events come to, over the values that their calls hand back.
use mathlib.Core.Path.{◌≡◌, refl, sym, ap, ap₂, ◌∙◌}
use mathlib.Core.Logic.{◌≢◌}
use Prim.Native.Nat.{ℕ, ◌<◌, ◌≤◌}
use native.Mathlib.Omega.{arith}
use mathlib.Core.Bool.{Bool, true, false, not, cond}
use mathlib.Core.List.{List, map}
use lib.Dec.{eqb}
use lib.ListN.{length, get_or, set}
use borrow.Author.Tests.{eq-eqb, ne_eqb}
use Rattle.std.specs.Prelude.{Result, Ok, Err}
use Rattle.base.specs.Rows.{is_row, modify}
use Rattle.base.specs.Ticks.{most_ticks, stops}
use Rattle.base.proofs.Cases.{cond-true, cond-false}
use Rattle.base.proofs.Rows.{modify-set, get_d_any}
use Rattle.answer.specs.declared.Refusal.{Refusal}
use Rattle.answer.specs.declared.Refusal.TheVariants.{NoRow, OutOfRange}
use Rattle.answer.specs.Numbers.{number_of}
use Rattle.answer.proofs.Injective.{refusal_number}
use Rattle.sensor.specs.declared.single.Sensor.{Sensor}
use Rattle.sensor.specs.Single.{power_cycle_of}
use Rattle.sensor_set.specs.declared.SensorEvent.{SensorEvent}
use Rattle.sensor_set.specs.Columns.{sensor_answer, sensor_after}
use Rattle.band.specs.declared.Side.{Side}
use Rattle.band.specs.declared.Row.{Row}
use Rattle.band_columns.specs.declared.BandColumns.{BandColumns}
use Rattle.band.specs.Rows.{last_reset_type, fresh_row, closed_on, reset_row}
use Rattle.geometry.specs.declared.Span.{Span}
use Rattle.geometry.specs.Events.{placed, place_answer, place_of, transfer_answer, Places}
use Rattle.drive.specs.declared.Drive.{Drive}
use Rattle.drive.specs.State.{with_rows, with_spans, with_sensors, conditions_of, settle_of, tick_of, stop_next}
use Rattle.drive.specs.Events.{elapse, reset, band_set, geometry, transfer, Shape, sensing, if_ticking}
use Rattle.drive.specs.Events.{answer_of, act_by, act_of, side_of, formed_from, Replies}
use Rattle.drive.proofs.Answers as A
use Rattle.elapse.specs.Jumps.{Elapses}
use Rattle.row_set.specs.Forming.{row_answer}
use Rattle.events.specs.Parts.{RepliesBy}
use Rattle.events.proofs.Answering.{refuses, grants}

-- ---- a sensor's events

module _ (d : Drive) (s : ℕ) (x : SensorEvent) where
  pub no-sensor : (k : Refusal) (r : Result ℕ Refusal) → r ≡ Err k → (is_row d.sensor_count s ≡ false) × (k ≡ NoRow) → RepliesBy d (sensing s x) r d
  no-sensor k r w p e h =
      refuses d e k r d w (ap number_of p.1 ∙ A.no-sensor d e s x h _ refl (ap not p.0)) refl

  pub sensor-refused : (k : Refusal) (r : Result ℕ Refusal) → r ≡ Err k → is_row d.sensor_count s ≡ true → number_of k ≡ sensor_answer x
      → RepliesBy d (sensing s x) r d
  sensor-refused k r w p a e h = refuses d e k r d w (a ∙ A.sensor-answered d e s x h _ refl (ap not p)) refl

  pub sensor-done : (at : ℕ) (z one : Sensor) (y : Drive) → is_row d.sensor_count s ≡ true → at ≡ s → at < 16 → length d.sensors ≡ 16
      → (sensor_answer x ≡ 0) × (one ≡ sensor_after x (get_or d.sensors at z)) → y ≡ settle_of (with_sensors (set d.sensors at one) d)
      → RepliesBy d (sensing s x) (Ok 0) y
  unfolding act_of
  sensor-done at z one y p q b l a w e h =
      grants d e y (with_sensors (set d.sensors at one) d) 0 (sym a.0 ∙ A.sensor-answered d e s x h _ refl (ap not p))
      (ap (λ (v : Shape). if_ticking v (λ n. stops tick_of stop_next n d) 0) (sym h)) w
      (ap (λ (v : List Sensor). with_sensors v d) (modify-set (sensor_after x) d.sensors at z one a.1 (omega (arith, b, l)))
      ∙ ap (λ (i : ℕ). with_sensors (modify (sensor_after x) i d.sensors) d) q
      ∙ ap (act_by d) (sym h))

-- ---- elapse and reset

pub elapse-refused : (d : Drive) (n : ℕ) → most_ticks < n → Replies d (elapse n) (Err OutOfRange) d
elapse-refused d n h = refuses d (elapse n) OutOfRange _ d refl (A.elapse-refused d n h) refl

pub elapse-done : (d x y : Drive) (n s : ℕ) → n ≤ most_ticks → Elapses n d s y → x ≡ settle_of y → Replies d (elapse n) (Ok s) x
unfolding act_of
elapse-done d x y n s h r w = grants d (elapse n) x y s (A.elapse-answered d n h) r.stops w r.drive

pub reset-refused : (d : Drive) (t : ℕ) → last_reset_type < t → Replies d (reset t) (Err OutOfRange) d
reset-refused d t h = refuses d (reset t) OutOfRange _ d refl (A.reset-refused d t h) refl

module _ (d x y : Drive) (t : ℕ) (rows : List Row) (h : t ≤ last_reset_type) (er : rows ≡ map (reset_row t) d.rows) (w : x ≡ settle_of y) where
  abbrev cycled : List Sensor
  cycled = cond (eqb t 0) (map power_cycle_of d.sensors) d.sensors

  resets : (sensors : List Sensor) → sensors ≡ cycled → y ≡ with_sensors sensors (with_rows rows d) → Replies d (reset t) (Ok 0) x
  unfolding act_of
  resets sensors es ey =
      grants d (reset t) x y 0 (A.reset-answered d t h) refl w
      (ey ∙ ap₂ (λ (l : List Sensor) (m : List Row). with_sensors l (with_rows m d)) es er)

  pub power-cycle-done : (sensors : List Sensor) → t ≡ 0 → sensors ≡ map power_cycle_of d.sensors → y ≡ with_sensors sensors (with_rows rows d)
      → Replies d (reset t) (Ok 0) x
  power-cycle-done sensors e es = resets sensors (cond-true (eqb t 0) _ _ _ (eq-eqb t 0 e) es)

  pub reset-done : t ≢ 0 → y ≡ with_rows rows d → Replies d (reset t) (Ok 0) x
  reset-done n = resets d.sensors (cond-false (eqb t 0) _ _ _ (ne_eqb t 0 n) refl)

-- ---- geometry and transfer

module _ (d : Drive) (b start n : ℕ) (spans : List Span) where
  pub geometry-refused : (k : Refusal) (r : Result ℕ Refusal) → r ≡ Err k → Places d.capacity d.band_count d.spans b start n (Err k) spans
      → Replies d (geometry b start n) r (with_spans spans d)
  unfolding place_of
  geometry-refused k r w p =
      refuses d (geometry b start n) k r _ w (p.answer ∙ A.geometry-answered d b start n)
      (ap (λ (l : List Span). with_spans l d)
      (p.after ∙ sym (cond-false (eqb (place_answer d.capacity d.band_count d.spans b start n) 0) (placed d.spans b start n) d.spans _
      (ne_eqb _ 0 (λ e. omega (arith, refusal_number k, p.answer, e))) refl)))

  pub geometry-done : (x : Drive) (v : Unit {0}) → Places d.capacity d.band_count d.spans b start n (Ok v) spans → x ≡ settle_of (with_spans spans d)
      → Replies d (geometry b start n) (Ok 0) x
  unfolding place_of act_of
  geometry-done x v p w =
      grants d (geometry b start n) x (with_spans spans d) 0 (p.answer ∙ A.geometry-answered d b start n) refl w
      (ap (λ (l : List Span). with_spans l d)
      (p.after ∙ sym (cond-true (eqb (place_answer d.capacity d.band_count d.spans b start n) 0) (placed d.spans b start n) d.spans _
      (ap (λ (k : ℕ). eqb k 0) (sym p.answer)) refl)))

module _ (d : Drive) (w start n : ℕ) where
  pub direction-refused : (k : Refusal) (r : Result ℕ Refusal) → r ≡ Err k → (1 < w) × (k ≡ OutOfRange) → Replies d (transfer w start n) r d
  direction-refused k r q h = refuses d (transfer w start n) k r d q (ap number_of h.1 ∙ A.transfer-refused d w start n h.0) refl

  module _ (side : Side) (closed : List Bool) (h : (w ≤ 1) × (side ≡ side_of w)) (ec : closed ≡ map (closed_on side) d.rows) where
    pub transfer-refused : (k : Refusal) (r : Result ℕ Refusal) → r ≡ Err k → number_of k ≡ transfer_answer d.capacity d.band_count d.spans closed start n
        → Replies d (transfer w start n) r d
    transfer-refused k r q ea = refuses d (transfer w start n) k r d q (ea ∙ A.transfer-answered d w start n side closed h.0 h.1 ec) refl

    pub transfer-done : (x : Drive) → 0 ≡ transfer_answer d.capacity d.band_count d.spans closed start n → x ≡ settle_of d
        → Replies d (transfer w start n) (Ok 0) x
    unfolding act_of
    transfer-done x ea e = grants d (transfer w start n) x d 0 (ea ∙ A.transfer-answered d w start n side closed h.0 h.1 ec) refl e refl

-- ---- band Set

module _ (d : Drive) (b : ℕ) (c : BandColumns) (bytes : List ℕ) where
  pub no-band : (k : Refusal) (r : Result ℕ Refusal) → r ≡ Err k → (is_row d.band_count b ≡ false) × (k ≡ NoRow) → Replies d (band_set b c bytes) r d
  no-band k r w p = refuses d (band_set b c bytes) k r d w (ap number_of p.1 ∙ A.no-band d b c bytes _ refl (ap not p.0)) refl

  module _ (at : ℕ) (z : Row) (cs : List Bool) (p : is_row d.band_count b ≡ true) (q : at ≡ b) (h : at < 16) (l : length d.rows ≡ 16) (ec : cs ≡ conditions_of d) where
    old : get_or d.rows at z ≡ get_or d.rows b fresh_row
    old = get_d_any d.rows at z fresh_row (omega (arith, h, l)) ∙ ap (λ (i : ℕ). get_or d.rows i fresh_row) q

    reached : row_answer cs c bytes (get_or d.rows at z) ≡ answer_of d (band_set b c bytes)
    unfolding row_answer
    reached = ap₂ (λ (x : List Bool) (y : Row). row_answer x c bytes y) ec old ∙ A.band-answered d b c bytes _ refl (ap not p)

    pub band-refused : (k : Refusal) (r : Result ℕ Refusal) → r ≡ Err k → number_of k ≡ row_answer cs c bytes (get_or d.rows at z)
        → Replies d (band_set b c bytes) r d
    band-refused k r w a = refuses d (band_set b c bytes) k r d w (a ∙ reached) refl

    pub band-done : (x : Drive) (new : Row) → (row_answer cs c bytes (get_or d.rows at z) ≡ 0) × (new ≡ formed_from c bytes (get_or d.rows at z))
        → x ≡ settle_of (with_rows (set d.rows at new) d) → Replies d (band_set b c bytes) (Ok 0) x
    unfolding act_of
    band-done x new a w =
        grants d (band_set b c bytes) x (with_rows (set d.rows at new) d) 0 (sym a.0 ∙ reached) refl w
        (ap (λ (v : List Row). with_rows v d) (modify-set (formed_from c bytes) d.rows at z new a.1 (omega (arith, h, l)))
        ∙ ap (λ (i : ℕ). with_rows (modify (formed_from c bytes) i d.rows) d) q)
