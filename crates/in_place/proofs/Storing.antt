-- An event on a drive whose bands are settled: what each of the run's methods makes of it is what the event does.
use mathlib.Core.Path.{◌≡◌, refl, sym, ap, ap₂, ◌∙◌, subst}
use mathlib.Core.Logic.{◌≢◌}
use Prim.Native.Nat.{ℕ, zero, suc, ◌+◌, ◌<◌, ◌≤◌}
use native.Mathlib.Omega.{arith}
use mathlib.Core.Bool.{Bool, true, false, not, cond, ◌||◌, true≢false}
use mathlib.Core.List.{List, [], ◌∷◌, map}
use lib.Dec.{eqb}
use lib.ListN.{length, get_or, set, length-map}
use borrow.Author.Tests.{ne_eqb, eq-eqb}
use Rattle.std.specs.Prelude.{Some, None, Result, Ok, Err}
use Rattle.std.proofs.lemmas.List.{get_or-set_same}
use Rattle.base.specs.Lists.{one_if, any}
use Rattle.base.specs.Rows.{is_row, modify}
use Rattle.base.specs.Ticks.{most_ticks, ticks}
use Rattle.base.specs.Ticks.{stops as stops_in}
use Rattle.base.proofs.Cases.{cond-true, cond-false, neither}
use Rattle.base.proofs.Jumps.{ticks-keep, quiet-ticks, quiet-stops}
use Rattle.base.proofs.Rows.{modify-set, get_d_any}
use Rattle.answer.specs.declared.Refusal.{Refusal}
use Rattle.answer.specs.declared.Refusal.TheVariants.{NoRow, OutOfRange}
use Rattle.answer.specs.Numbers.{number_of}
use Rattle.answer.proofs.Injective.{refusal_number}
use Rattle.sensor.specs.declared.single.Sensor.{Sensor}
use Rattle.sensor.specs.Single.{fresh_sensor, power_cycle_of, ends_next, sensor_tick}
use Rattle.sensor.specs.Parts.{lowered_by}
use Rattle.sensor_set.specs.declared.SensorEvent.{SensorEvent}
use Rattle.sensor_set.specs.declared.SensorEvent.TheVariants as S
use Rattle.sensor_set.specs.Columns.{sensor_answer, sensor_after}
use Rattle.sensors.specs.Sixteen.{conditions_below, Passes}
use Rattle.sensors.specs.Parts.{quiet_ticks}
use Rattle.sensors.proofs.Quiet.{AllQuiet, quiet_ticks-le, quiet_ticks-quiet}
use Rattle.band.specs.declared.Row.{Row}
use Rattle.band.specs.declared.Side.{Side}
use Rattle.band.specs.Rows.{last_reset_type, fresh_row, closed_on, settle_row, reset_row}
use Rattle.band.specs.Parts.{is_lockable}
use Rattle.bands.proofs.Steady.{settle-steady}
use Rattle.band_columns.specs.declared.BandColumns.{BandColumns}
use Rattle.geometry.specs.declared.Span.{Span}
use Rattle.geometry.specs.Events.{placed, place_answer, place_of, transfer_answer, Places}
use Rattle.drive.specs.declared.Drive.{Drive}
use Rattle.drive.specs.State.{with_rows, with_spans, with_sensors, conditions_of, settle_of, tick_of, stop_next}
use Rattle.drive.specs.Events.{Event, elapse, reset, band_set, geometry, transfer, Shape, sensing, shape_of, if_ticking}
use Rattle.drive.specs.Events.{answer_of, act_by, act_of, step_of, elapsed_stops, stops_of, side_of, formed_from}
use Rattle.drive.proofs.Answers as A
use Rattle.drive.proofs.Keeping.{step_keeps}
use Rattle.drive.proofs.Settling.{settle-with, tick-settled, step-settled}
use Rattle.elapse.specs.Jumps.{Elapses}
use Rattle.elapse.specs.Parts.{jump_of}
use Rattle.elapse.proofs.Calm.{Calm, drive-jumps}
use Rattle.row_set.specs.Forming.{row_answer}
use Rattle.in_place.specs.declared.Run.{Run}
use Rattle.in_place.specs.Parts.{SettledSixteen, Flagged, Stored, Kept, Runs, on_sensor, finish_of, Finishes, LooksIfTurned}

-- ---- what an event leaves

pub step-sixteen : (d : Drive) (e : Event) → SettledSixteen d → SettledSixteen (step_of d e)
step-sixteen d e k =
    record { rows = (step_keeps d e).rows ∙ k.rows; sensors = (step_keeps d e).sensors ∙ k.sensors; settled = step-settled d e k.settled }

-- once an event is stored
abbrev stored_in : Drive → Bool → Run
stored_in d flag = record { drive = d; any_lockable = flag }

pub kept_stored : (r : Run) → Kept r → Stored r
kept_stored r k = record { rows = k.drive.rows; flag = k.flag }

module _ (was : Run) (k : Kept was) (e : Event) where
  -- a refusal changes nothing
  pub refused_runs : (r : Refusal) (res : Result ℕ Refusal) → res ≡ Err r → number_of r ≡ answer_of was.drive e → Runs was e res was
  refused_runs r res w p =
      let q = A.refused-stays was.drive e (number_of r) p (ne_eqb (number_of r) 0 (λ z. omega (arith, z, refusal_number r))) in
      rw w (record { answer = p; stops = q.1; drive = q.0; kept = k })

  ran : (now : Run) (n : ℕ) → 0 ≡ answer_of was.drive e → n ≡ stops_of was.drive e → now.drive ≡ step_of was.drive e → Flagged now → Runs was e (Ok n) now
  ran now n a z s f = record {
    answer = a;
    stops = z;
    drive = s;
    kept = record { drive = subst SettledSixteen (sym s) (step-sixteen was.drive e k.drive); flag = f };
  }

  -- an event with no stops that is done: from what it stores before the bands settle
  pub done_runs : (now : Run) → 0 ≡ answer_of was.drive e → elapsed_stops was.drive e ≡ 0 → now.drive ≡ settle_of (act_of was.drive e) → Flagged now → Runs was e (Ok 0) now
  done_runs now a z s f =
      let q = A.granted-acts was.drive e 0 a refl in
      ran now 0 a (sym z ∙ q.1) (s ∙ q.0) f

-- ---- where nothing settles

same-conditions : (c : ℕ) (l : List Sensor) (i : ℕ) (y v : Sensor) → i < length l → v.condition ≡ (get_or l i y).condition
    → conditions_below c (set l i v) ≡ conditions_below c l
unfolding conditions_below
same-conditions c [] i y v h e = refl
same-conditions zero (x ∷ l) zero y v h e = refl
same-conditions (suc c) (x ∷ l) zero y v h e = ap (λ (b : Bool). b ∷ conditions_below c l) e
same-conditions zero (x ∷ l) (suc i) y v h e = ap (λ (m : List Bool). false ∷ m) (same-conditions zero l i y v (omega (arith, h)) e)
same-conditions (suc c) (x ∷ l) (suc i) y v h e = ap (λ (m : List Bool). x.condition ∷ m) (same-conditions c l i y v (omega (arith, h)) e)

-- ---- an event on one sensor

senses : (s : ℕ) (x : SensorEvent) → shape_of (on_sensor s x) ≡ sensing s x
senses s (S.Reading value) = refl
senses s (S.Set columns) = refl

module _ (was : Run) (k : Kept was) (s : ℕ) (x : SensorEvent) where
  pub no_sensor : (r : Refusal) (res : Result ℕ Refusal) → res ≡ Err r → (is_row was.drive.sensor_count s ≡ false) × (r ≡ NoRow) → Runs was (on_sensor s x) res was
  no_sensor r res w p =
      refused_runs was k (on_sensor s x) r res w (ap number_of p.1 ∙ A.no-sensor was.drive (on_sensor s x) s x (senses s x) true (sym (ap not p.0)) refl)

  module _ (at : ℕ) (p : is_row was.drive.sensor_count s ≡ true) (pa : at ≡ s) (low : at < 16) where
    answered : sensor_answer x ≡ answer_of was.drive (on_sensor s x)
    answered = A.sensor-answered was.drive (on_sensor s x) s x (senses s x) false (sym (ap not p)) refl

    pub sensor_refused : (r : Refusal) (res : Result ℕ Refusal) → res ≡ Err r → number_of r ≡ sensor_answer x → Runs was (on_sensor s x) res was
    sensor_refused r res w q = refused_runs was k (on_sensor s x) r res w (q ∙ answered)

    module _ (y new : Sensor) (zero-answer : sensor_answer x ≡ 0) (en : new ≡ sensor_after x (get_or was.drive.sensors at y)) where
      held : Drive
      held = with_sensors (set was.drive.sensors at new) was.drive

      within : at < length was.drive.sensors
      within = omega (arith, k.drive.sensors, low)

      held-acts : held ≡ act_of was.drive (on_sensor s x)
      unfolding held act_of
      held-acts =
          ap (λ (l : List Sensor). with_sensors l was.drive) (modify-set (sensor_after x) was.drive.sensors at y new en within)
          ∙ ap (λ (i : ℕ). with_sensors (modify (sensor_after x) i was.drive.sensors) was.drive) pa
          ∙ ap (act_by was.drive) (sym (senses s x))

      runs : (now : Run) → now.drive ≡ settle_of held → Flagged now → Runs was (on_sensor s x) (Ok 0) now
      runs now q f =
          done_runs was k (on_sensor s x) now (sym zero-answer ∙ answered) (ap (λ (y : Shape). if_ticking y (λ n. stops_in tick_of stop_next n was.drive) 0) (senses s x))
          (q ∙ ap settle_of held-acts) f

      pub sensor_stored : Stored (stored_in (with_sensors (set was.drive.sensors at new) was.drive) was.any_lockable)
      sensor_stored = record { rows = k.drive.rows; flag = k.flag }

      -- its condition is another: the rows are finished
      pub sensor_turned : (now : Run) → Finishes (stored_in (with_sensors (set was.drive.sensors at new) was.drive) was.any_lockable) None now → Runs was (on_sensor s x) (Ok 0) now
      unfolding held finish_of
      sensor_turned now q = runs now q.drive q.flag

      -- where it is the same, nothing is finished
      pub sensor_looks : (now : Run) → Finishes (stored_in (with_sensors (set was.drive.sensors at new) was.drive) was.any_lockable) None now
          → new.condition ≢ (get_or was.drive.sensors at y).condition → LooksIfTurned was s now
      unfolding finish_of settle_of
      sensor_looks now q n e =
          let kept : now.drive.sensors ≡ set was.drive.sensors at new = ap (λ (d : Drive). d.sensors) q.drive in
          let there : get_or now.drive.sensors s fresh_sensor ≡ new =
          ap₂ (λ (l : List Sensor) (i : ℕ). get_or l i fresh_sensor) kept (sym pa) ∙ get_or-set_same was.drive.sensors at new fresh_sensor within in
          let before : get_or was.drive.sensors s fresh_sensor ≡ get_or was.drive.sensors at y =
          ap (λ (i : ℕ). get_or was.drive.sensors i fresh_sensor) (sym pa) ∙ sym (get_d_any was.drive.sensors at y fresh_sensor within) in
          absurd (n (ap (λ (x : Sensor). x.condition) (sym there) ∙ e ∙ ap (λ (x : Sensor). x.condition) before))

      -- its condition is the same
      pub sensor_steady : new.condition ≡ (get_or was.drive.sensors at y).condition
          → Runs was (on_sensor s x) (Ok 0) (stored_in (with_sensors (set was.drive.sensors at new) was.drive) was.any_lockable)
      unfolding held
      sensor_steady q =
          runs (stored_in held was.any_lockable)
          (sym (settle-with was.drive (set was.drive.sensors at new) (same-conditions was.drive.sensor_count was.drive.sensors at y new within q)
          ∙ ap (λ (d : Drive). with_sensors (set was.drive.sensors at new) d) k.drive.settled))
          k.flag

-- ---- elapse

module _ (was : Run) (k : Kept was) (n : ℕ) where
  pub elapse_refused : most_ticks < n → Runs was (elapse n) (Err OutOfRange) was
  elapse_refused h = refused_runs was k (elapse n) OutOfRange _ refl (A.elapse-refused was.drive n h)

  -- an elapse in range, from the drive after its ticks, which is settled
  elapses : (now : Run) (z : ℕ) → n ≤ most_ticks → z ≡ stops_in tick_of stop_next n was.drive → now.drive ≡ ticks tick_of n was.drive → Flagged now → Runs was (elapse n) (Ok z) now
  unfolding act_of
  elapses now z h ez ex f =
      let a = A.elapse-answered was.drive n h in
      let q = A.granted-acts was.drive (elapse n) 0 a refl in
      ran was k (elapse n) now z a (ez ∙ q.1)
      (ex ∙ sym (ticks-keep tick_of (λ w. settle_of w ≡ w) (λ w q. tick-settled w) n was.drive k.drive.settled) ∙ q.0)
      f

  -- from stop to stop, with the bands settled at each, and once more, which changes nothing
  pub elapse_stops : (x : Drive) (z : ℕ) (now : Run) → n ≤ most_ticks → Elapses n was.drive z x → Finishes (stored_in x was.any_lockable) None now → Runs was (elapse n) (Ok z) now
  unfolding finish_of
  elapse_stops x z now h p q =
      elapses now z h p.stops
      (q.drive ∙ ap settle_of p.drive ∙ ticks-keep tick_of (λ w. settle_of w ≡ w) (λ w q. tick-settled w) n was.drive k.drive.settled)
      q.flag

  pub elapse_stored : (x : Drive) (z : ℕ) → was.any_lockable ≡ true → Elapses n was.drive z x → Stored (stored_in x was.any_lockable)
  unfolding tick_of settle_of
  elapse_stored x z o p = record {
    rows = ap (λ (d : Drive). length d.rows) p.drive
        ∙ ticks-keep tick_of (λ w. length w.rows ≡ 16) (λ w q. length-map w.rows (settle_row _) ∙ q) n was.drive k.drive.rows;
    flag = λ f. absurd (true≢false (sym o ∙ f));
  }

  -- no row is lockable: the sensors alone pass
  module _ (o : any is_lockable was.drive.rows ≡ false) where
    steady-tick : (l : List Sensor) → tick_of (with_sensors l was.drive) ≡ with_sensors (map sensor_tick l) was.drive
    unfolding tick_of settle_of
    steady-tick l =
        ap (λ (rows : List Row). with_rows rows (with_sensors (map sensor_tick l) was.drive)) (settle-steady (conditions_of (with_sensors (map sensor_tick l) was.drive)) was.drive.rows o)

    steady-ticks : (n : ℕ) (l : List Sensor) → ticks tick_of n (with_sensors l was.drive) ≡ with_sensors (ticks (map sensor_tick) n l) was.drive
    unfolding ticks
    steady-ticks zero l = refl
    steady-ticks (suc n) l = ap (λ (x : Drive). ticks tick_of n x) (steady-tick l) ∙ steady-ticks n (map sensor_tick l)

    steady-stops : (n : ℕ) (l : List Sensor) → stops_in tick_of stop_next n (with_sensors l was.drive) ≡ stops_in (map sensor_tick) (any ends_next) n l
    unfolding stops_in stop_next
    steady-stops zero l = refl
    steady-stops (suc n) l =
        ap (λ (m : ℕ). one_if (any ends_next l) + m)
        (ap (λ (x : Drive). stops_in tick_of stop_next n x) (steady-tick l) ∙ steady-stops n (map sensor_tick l))

  pub elapse_passes : (z : ℕ) (l : List Sensor) → n ≤ most_ticks → was.any_lockable ≡ false → Passes n was.drive.sensors z l
      → Runs was (elapse n) (Ok z) (stored_in (with_sensors l was.drive) was.any_lockable)
  elapse_passes z l h o p =
      elapses (stored_in (with_sensors l was.drive) was.any_lockable) z h (p.stops ∙ sym (steady-stops (k.flag o) n was.drive.sensors))
      (ap (λ (m : List Sensor). with_sensors m was.drive) p.sensors ∙ sym (steady-ticks (k.flag o) n was.drive.sensors))
      k.flag

  -- no timer ends: the timers that run are lower, whether or not a row is lockable
  pub elapse_quiet : (q : ℕ) (l : List Sensor) → n ≤ most_ticks → q ≡ quiet_ticks n was.drive.sensors → n ≤ q → l ≡ map (lowered_by n) was.drive.sensors
      → Runs was (elapse n) (Ok 0) (stored_in (with_sensors l was.drive) was.any_lockable)
  unfolding jump_of
  elapse_quiet q l b eq h el =
      let en : quiet_ticks n was.drive.sensors ≡ n = omega (arith, eq, h, quiet_ticks-le n was.drive.sensors) in
      let c : Calm n was.drive = record { settled = k.drive.settled; timers = subst (λ (m : ℕ). AllQuiet m was.drive.sensors) en (quiet_ticks-quiet n was.drive.sensors) } in
      elapses (stored_in (with_sensors l was.drive) was.any_lockable) 0 b (sym (quiet-stops tick_of stop_next jump_of Calm drive-jumps n was.drive c))
      (ap (λ (m : List Sensor). with_sensors m was.drive) el ∙ sym (quiet-ticks tick_of stop_next jump_of Calm drive-jumps n was.drive c))
      k.flag

-- ---- reset

module _ (was : Run) (k : Kept was) (t : ℕ) where
  pub reset_refused : last_reset_type < t → Runs was (reset t) (Err OutOfRange) was
  reset_refused h = refused_runs was k (reset t) OutOfRange _ refl (A.reset-refused was.drive t h)

  pub reset_stored : (l : List Sensor) → Stored (stored_in (with_sensors l was.drive) was.any_lockable)
  reset_stored l = record { rows = k.drive.rows; flag = k.flag }

  module _ (h : t ≤ last_reset_type) (x now : Run) (q : Finishes x (Some t) now) where
    resets : (l : List Sensor) → x ≡ stored_in (with_sensors l was.drive) was.any_lockable → l ≡ cond (eqb t 0) (map power_cycle_of was.drive.sensors) was.drive.sensors
        → Runs was (reset t) (Ok 0) now
    unfolding finish_of act_of
    resets l ex el =
        done_runs was k (reset t) now (A.reset-answered was.drive t h) refl
        (q.drive ∙ ap (λ (r : Run). finish_of (Some t) r.drive) ex
        ∙ ap (λ (m : List Sensor). settle_of (with_sensors m (with_rows (map (reset_row t) was.drive.rows) was.drive))) el)
        q.flag

    pub cycle_runs : (l : List Sensor) → t ≡ 0 → l ≡ map power_cycle_of was.drive.sensors → x ≡ stored_in (with_sensors l was.drive) was.any_lockable → Runs was (reset t) (Ok 0) now
    cycle_runs l e el ex = resets l ex (cond-true (eqb t 0) _ _ _ (eq-eqb t 0 e) el)

    pub reset_runs : t ≢ 0 → x ≡ was → Runs was (reset t) (Ok 0) now
    reset_runs n ex = resets was.drive.sensors ex (cond-false (eqb t 0) _ _ _ (ne_eqb t 0 n) refl)

-- ---- a Set of one row

map-set : {A : Type 0} (f : A → A) (l : List A) (i : ℕ) (v : A) → map f (set l i v) ≡ set (map f l) i (f v)
map-set f [] i v = refl
map-set f (x ∷ l) zero v = refl
map-set f (x ∷ l) (suc i) v = ap (λ (m : List _). f x ∷ m) (map-set f l i v)

settled-rows : (d : Drive) → settle_of d ≡ d → map (settle_row (conditions_of d)) d.rows ≡ d.rows
unfolding settle_of
settled-rows d s = ap (λ (x : Drive). x.rows) s

set-steady : (rows : List Row) (i : ℕ) (v : Row) → any is_lockable rows ≡ false → is_lockable v ≡ false → any is_lockable (set rows i v) ≡ false
unfolding any
set-steady [] i v e f = refl
set-steady (row ∷ rows) zero v e f = ap₂ (λ (a b : Bool). a || b) f (neither (is_lockable row) (any is_lockable rows) e).1
set-steady (row ∷ rows) (suc i) v e f =
    let h = neither (is_lockable row) (any is_lockable rows) e in
    ap₂ (λ (a b : Bool). a || b) h.0 (set-steady rows i v h.1 f)

-- a flag that is set by either of two
pub either_flag : (a b t : Bool) → t ≡ b → (a || t) ≡ false → (a ≡ false) × (b ≡ false)
either_flag a b t e h = let q = neither a t h in (q.0, sym e ∙ q.1)

module _ (was : Run) (k : Kept was) (b : ℕ) (c : BandColumns) (bytes : List ℕ) where
  pub no_band : (r : Refusal) (res : Result ℕ Refusal) → res ≡ Err r → (is_row was.drive.band_count b ≡ false) × (r ≡ NoRow) → Runs was (band_set b c bytes) res was
  no_band r res w p = refused_runs was k (band_set b c bytes) r res w (ap number_of p.1 ∙ A.no-band was.drive b c bytes true (sym (ap not p.0)) refl)

  module _ (at : ℕ) (y : Row) (cs : List Bool) (p : is_row was.drive.band_count b ≡ true) (pa : at ≡ b) (low : at < 16) (ec : cs ≡ conditions_of was.drive) where
    inside : at < length was.drive.rows
    inside = omega (arith, k.drive.rows, low)

    row-answered : row_answer cs c bytes (get_or was.drive.rows at y) ≡ answer_of was.drive (band_set b c bytes)
    unfolding row_answer
    row-answered =
        ap₂ (λ (x : List Bool) (z : Row). row_answer x c bytes z) ec (get_d_any was.drive.rows at y fresh_row inside ∙ ap (λ (i : ℕ). get_or was.drive.rows i fresh_row) pa)
        ∙ A.band-answered was.drive b c bytes false (sym (ap not p)) refl

    pub band_refused : (r : Refusal) (res : Result ℕ Refusal) → res ≡ Err r → number_of r ≡ row_answer cs c bytes (get_or was.drive.rows at y) → Runs was (band_set b c bytes) res was
    band_refused r res w q = refused_runs was k (band_set b c bytes) r res w (q ∙ row-answered)

    -- the new row settles alone, and the flag is set where it is lockable
    pub band_runs : (formed new : Row) (o : Bool) → (row_answer cs c bytes (get_or was.drive.rows at y) ≡ 0) × (formed ≡ formed_from c bytes (get_or was.drive.rows at y))
        → new ≡ settle_row cs formed → (o ≡ false → (was.any_lockable ≡ false) × (is_lockable new ≡ false))
        → Runs was (band_set b c bytes) (Ok 0) (stored_in (with_rows (set was.drive.rows at new) was.drive) o)
    unfolding settle_of act_of conditions_of
    band_runs formed new o q en f =
        done_runs was k (band_set b c bytes) (stored_in (with_rows (set was.drive.rows at new) was.drive) o) (sym q.0 ∙ row-answered) refl
        (ap (λ (rows : List Row). with_rows rows was.drive) (sym (
        ap (map (settle_row (conditions_of was.drive))) (sym (modify-set (formed_from c bytes) was.drive.rows at y formed q.1 inside ∙ ap (λ (i : ℕ). modify (formed_from c bytes) i was.drive.rows) pa))
        ∙ map-set (settle_row (conditions_of was.drive)) was.drive.rows at formed
        ∙ ap₂ (λ (rows : List Row) (w : Row). set rows at w) (settled-rows was.drive k.drive.settled) (ap (λ (w : List Bool). settle_row w formed) (sym ec) ∙ sym en)
        )))
        (λ z. let h = f z in set-steady was.drive.rows at new (k.flag h.0) h.1)

-- ---- geometry and transfer

spans-settle : (d : Drive) (l : List Span) → settle_of d ≡ d → settle_of (with_spans l d) ≡ with_spans l d
unfolding settle_of conditions_of
spans-settle d l s = ap (λ (x : Drive). with_spans l x) s

module _ (was : Run) (k : Kept was) (b start n : ℕ) (l : List Span) where
  pub geometry_refused : (r : Refusal) (res : Result ℕ Refusal) → res ≡ Err r → Places was.drive.capacity was.drive.band_count was.drive.spans b start n (Err r) l
      → Runs was (geometry b start n) res (stored_in (with_spans l was.drive) was.any_lockable)
  unfolding place_of
  geometry_refused r res w p =
      let e : l ≡ was.drive.spans =
      p.after ∙ sym (cond-false (eqb (place_answer was.drive.capacity was.drive.band_count was.drive.spans b start n) 0) (placed was.drive.spans b start n) was.drive.spans _
      (ne_eqb _ 0 (λ e. omega (arith, refusal_number r, p.answer, e))) refl) in
      rw e (refused_runs was k (geometry b start n) r res w (p.answer ∙ A.geometry-answered was.drive b start n))

  pub geometry_runs : (v : Unit {0}) → Places was.drive.capacity was.drive.band_count was.drive.spans b start n (Ok v) l
      → Runs was (geometry b start n) (Ok 0) (stored_in (with_spans l was.drive) was.any_lockable)
  unfolding place_of act_of
  geometry_runs v p =
      done_runs was k (geometry b start n) (stored_in (with_spans l was.drive) was.any_lockable) (p.answer ∙ A.geometry-answered was.drive b start n) refl
      (sym (spans-settle was.drive l k.drive.settled) ∙ ap (λ (m : List Span). settle_of (with_spans m was.drive))
      (p.after ∙ sym (cond-true (eqb (place_answer was.drive.capacity was.drive.band_count was.drive.spans b start n) 0) (placed was.drive.spans b start n) was.drive.spans _
      (ap (λ (k : ℕ). eqb k 0) (sym p.answer)) refl)))
      k.flag

module _ (was : Run) (k : Kept was) (w start n : ℕ) where
  pub direction_refused : (r : Refusal) (res : Result ℕ Refusal) → res ≡ Err r → (1 < w) × (r ≡ OutOfRange) → Runs was (transfer w start n) res was
  direction_refused r res q h = refused_runs was k (transfer w start n) r res q (ap number_of h.1 ∙ A.transfer-refused was.drive w start n h.0)

  module _ (side : Side) (closed : List Bool) (h : (w ≤ 1) × (side ≡ side_of w)) (ec : closed ≡ map (closed_on side) was.drive.rows) where
    pub transfer_refused : (r : Refusal) (res : Result ℕ Refusal) → res ≡ Err r → number_of r ≡ transfer_answer was.drive.capacity was.drive.band_count was.drive.spans closed start n
        → Runs was (transfer w start n) res was
    transfer_refused r res q ea = refused_runs was k (transfer w start n) r res q (ea ∙ A.transfer-answered was.drive w start n side closed h.0 h.1 ec)

    pub transfer_runs : 0 ≡ transfer_answer was.drive.capacity was.drive.band_count was.drive.spans closed start n → Runs was (transfer w start n) (Ok 0) was
    unfolding act_of
    transfer_runs ea = done_runs was k (transfer w start n) was (ea ∙ A.transfer-answered was.drive w start n side closed h.0 h.1 ec) refl (sym k.drive.settled) k.flag
