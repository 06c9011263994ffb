-- Every drive that events reach: the fresh one of a header in range, and what each event makes of one.
use mathlib.Core.Path.{◌≡◌, refl, sym, ap, ◌∙◌}
use Prim.Native.Nat.{ℕ, zero, suc, ◌<◌}
use native.Mathlib.Omega.{arith}
use mathlib.Core.Bool.{Bool, true, false, not, ◌&&◌}
use mathlib.Core.List.{List, [], ◌∷◌, map}
use mathlib.Core.Logic.{inl}
use lib.Dec.{eqb, leb, ltb}
use lib.ListN.{length, replicate}
use lib.Seq.{take_at}
use borrow.Author.Tests.{leb-true, eqb-true, not-false}
use Rattle.base.specs.Columns.{named}
use Rattle.base.specs.Rows.{is_row}
use Rattle.base.proofs.Cases.{cond_either, neither}
use Rattle.base.proofs.Columns.{each_holds, stored-within}
use Rattle.base.proofs.Refusals.{applies_at}
use Rattle.base.proofs.Rows.{row_is}
use Rattle.base.proofs.Jumps.{ticks-keep}
use Rattle.sensor.specs.declared.single.Sensor.{Sensor}
use Rattle.sensor.specs.Single.{fresh_sensor, power_cycle_of, sensor_tick}
use Rattle.sensor_set.specs.Columns.{sensor_after}
use Rattle.sensor_set.proofs.Keeping.{Keeps, keeps-sound, keeps-up-to-date}
use Rattle.sensor.proofs.Motion.{fresh-tick, fresh-power-cycle}
use Rattle.base.specs.Lists.{Bytes}
use Rattle.token_reader.specs.Read.{most_token_bytes, TokenOutcome, elements, refusal, read_tokens, expression_in}
use Rattle.token_reader.proofs.Fits.{read_fits}
use Rattle.expression.specs.Elements.{elements_in, expression_of}
use Rattle.evaluator.specs.Formed.{malformed}
use Rattle.evaluator.proofs.Formed.{well-formed}
use Rattle.band.specs.declared.Row.{Row}
use Rattle.band_columns.specs.declared.BandColumns.{BandColumns}
use Rattle.band.specs.Rows.{fresh_row, with_locked, lock_under, settle_row, in_set, reset_row}
use Rattle.band_columns.specs.Sets.{columns_fit, formed_row}
use Rattle.band_columns.proofs.Fits.{fitting}
use Rattle.band.proofs.Settling.{fresh-settles, fresh-reset}
use Rattle.geometry.specs.declared.Span.{Span}
use Rattle.geometry.specs.Blocks.{band_spans, overlapping}
use Rattle.geometry.specs.Events.{no_span, Within}
use Rattle.geometry.proofs.Arms.{end-up-to}
use Rattle.geometry.proofs.Invariant.{fresh-apart}
use Rattle.drive.specs.declared.Drive.{Drive}
use Rattle.drive.specs.State.{most_blocks, most_bands, most_sensors, header_fits, fresh_drive, with_rows, with_spans, with_sensors, conditions_of, settle_of, fall_of, tick_of}
use Rattle.drive.specs.Events.{Shape, ticking, resetting, setting, sensing, placing, looking, shape_of, if_setting}
use Rattle.drive.specs.Events.{Event, refusals_by, refusals, answer_of, formed_from, malformed_in, act_by, act_of, step_of, run_of}
use Rattle.drive.proofs.Answers.{granted-free}
use Rattle.drive.proofs.Settling.{settle-twice}
use Rattle.reached.specs.Reached.{Table, Stored, RowFits, SensorFits, InRange, Shaped, Reached, Fields, AllFields}
use Rattle.reached.proofs.Tables.{fresh-table, map-table, modify-table, set-table}

-- ---- one sensor

keeps-fits : Keeps SensorFits
keeps-fits = record {
  fresh = record { sound = keeps-sound.fresh; up-to-date = keeps-up-to-date.fresh };
  event = λ x s h. record { sound = keeps-sound.event x s h.sound; up-to-date = keeps-up-to-date.event x s h.up-to-date };
  tick = λ s h. record { sound = keeps-sound.tick s h.sound; up-to-date = keeps-up-to-date.tick s h.up-to-date };
  cycle = λ s h. record { sound = keeps-sound.cycle s h.sound; up-to-date = keeps-up-to-date.cycle s h.up-to-date };
}

-- ---- one row

empty-stored : Stored (expression_of [])
empty-stored = record { list = []; same = refl; few = omega arith; fit = tt; formed = inl refl }

fresh-fits : RowFits fresh_row
unfolding fresh_row
fresh-fits = record { lock_on_reset = omega arith; expression = empty-stored }

locked-fits : (read write : Bool) (row : Row) → RowFits row → RowFits (with_locked read write row)
locked-fits read write row r = record { lock_on_reset = r.lock_on_reset; expression = r.expression }

settle-fits : (conditions : List Bool) (row : Row) → RowFits row → RowFits (settle_row conditions row)
unfolding settle_row
settle-fits conditions row r = locked-fits _ _ row r

reset-fits : (type : ℕ) (row : Row) → RowFits row → RowFits (reset_row type row)
unfolding reset_row
reset-fits type row r = cond_either RowFits (in_set row.lock_on_reset type) (lock_under true row) row (λ q. locked-fits _ _ row r) (λ q. r)

-- what a Set's bytes read to, a refusal too, where it is not malformed
read-stored : (tokens : List ℕ) (o : TokenOutcome) → Bytes tokens → read_tokens tokens ≡ o → malformed (elements_in (expression_in o)) ≡ false
    → Stored (expression_in o)
read-stored tokens (elements es) k e q =
    let f = read_fits tokens es k e in
    record {
      list = es;
      same = refl;
      few = f.0;
      fit = f.1;
      formed = well-formed.not-malformed es (sym (ap malformed (take_at es _ (length es) refl)) ∙ q);
    }
read-stored tokens (refusal n) k e q = empty-stored

formed-fits : (c : BandColumns) (tokens : List ℕ) → columns_fit c ≡ true → Bytes tokens → malformed_in c tokens ≡ false → (row : Row) → RowFits row
    → RowFits (formed_from c tokens row)
unfolding formed_row
formed-fits c tokens e k w row r = record {
  lock_on_reset = stored-within _ (named 16 c.mask) c.lock_on_reset row.lock_on_reset (fitting c e).lock_on_reset r.lock_on_reset;
  expression =
      cond_either Stored (named 32 c.mask) (expression_in (read_tokens tokens)) row.expression
      (λ q. read-stored tokens (read_tokens tokens) k refl (sym (ap (λ (b : Bool). b && malformed (elements_in (expression_in (read_tokens tokens)))) q) ∙ w))
      (λ q. r.expression);
}

-- ---- other rows, spans or sensors

module _ (d : Drive) (r : Shaped d) where
  with_rows_lem : (l : List Row) → Table RowFits fresh_row d.band_count l → Shaped (with_rows l d)
  with_rows_lem l t = record { header = r.header; rows = t; spans = r.spans; apart = r.apart; sensors = r.sensors }

  with-spans : (l : List Span) → Table (Within d.capacity) no_span d.band_count l → overlapping (band_spans d.band_count l) ≡ false
      → Shaped (with_spans l d)
  with-spans l t w = record { header = r.header; rows = r.rows; spans = t; apart = w; sensors = r.sensors }

  with-sensors : (l : List Sensor) → Table SensorFits fresh_sensor d.sensor_count l → Shaped (with_sensors l d)
  with-sensors l t = record { header = r.header; rows = r.rows; spans = r.spans; apart = r.apart; sensors = t }

  settle-shaped : Shaped (settle_of d)
  unfolding settle_of
  settle-shaped =
      with_rows_lem _
      (map-table RowFits fresh_row (settle_row (conditions_of d)) (settle-fits (conditions_of d)) _ _ r.rows (fresh-settles (conditions_of d)))

  fall-shaped : Shaped (fall_of d)
  fall-shaped = with-sensors _ (map-table SensorFits fresh_sensor sensor_tick keeps-fits.tick _ _ r.sensors fresh-tick)

tick-shaped : (d : Drive) → Shaped d → Shaped (tick_of d)
unfolding tick_of
tick-shaped d r = settle-shaped (fall_of d) (fall-shaped d r)

-- ---- what an event that is answered 0 does

counted : (count i : ℕ) → not (is_row count i) ≡ false → (i < count) × (i < 16)
counted count i e = row_is count i (not-false (is_row count i) e)

shape-shaped : (d : Drive) (y : Shape) → Bytes (if_setting y (λ b c tokens. tokens) []) → ((i : ℕ) → applies_at (refusals_by d y) i ≡ false)
    → Shaped d → Shaped (act_by d y)
shape-shaped d (ticking n) f q r = ticks-keep tick_of Shaped tick-shaped n d r
shape-shaped d (resetting t) f q r =
    with-sensors _ (with_rows_lem d r _ (map-table RowFits fresh_row (reset_row t) (reset-fits t) _ _ r.rows (fresh-reset t))) _
    (cond_either (Table SensorFits fresh_sensor d.sensor_count) (eqb t 0) (map power_cycle_of d.sensors) d.sensors
    (λ e. map-table SensorFits fresh_sensor power_cycle_of keeps-fits.cycle _ _ r.sensors fresh-power-cycle) (λ e. r.sensors))
shape-shaped d (setting b c tokens) f q r =
    let fits : columns_fit c ≡ true = not-false (columns_fit c) (neither (not (columns_fit c)) (ltb most_token_bytes (length tokens)) (q 1)).0 in
    with_rows_lem d r _
    (modify-table RowFits fresh_row (formed_from c tokens) (formed-fits c tokens fits f (q 4)) _ _ r.rows b (counted _ b (q 0)).0)
shape-shaped d (sensing s x) f q r =
    with-sensors d r _ (modify-table SensorFits fresh_sensor (sensor_after x) (keeps-fits.event x) _ _ r.sensors s (counted _ s (q 0)).0)
shape-shaped d (placing b start n) f q r =
    let e = end-up-to d.capacity start n (q 2) in
    let k = counted d.band_count b (q 0) in
    with-spans d r _
    (set-table (Within d.capacity) no_span (record { start = start; length = n }) _ _ b
    (record { begins = e.0; ends = omega arith })
    k.0 k.1 r.spans)
    (q 3)
shape-shaped d (looking w start n) f q r = r

act-shaped : (d : Drive) (e : Event) → Fields e → ((i : ℕ) → applies_at (refusals d e) i ≡ false) → Shaped d → Shaped (act_of d e)
unfolding act_of
act-shaped d e f q r = shape-shaped d (shape_of e) f q r

-- ---- the theorems

repeated-settles : (n : ℕ) (conditions : List Bool) → map (settle_row conditions) (replicate n fresh_row) ≡ replicate n fresh_row
repeated-settles zero conditions = refl
repeated-settles (suc n) conditions = λ i. fresh-settles conditions i ∷ repeated-settles n conditions i

fresh-settled : (capacity bands sensors : ℕ) → settle_of (fresh_drive capacity bands sensors) ≡ fresh_drive capacity bands sensors
unfolding settle_of fresh_drive
fresh-settled capacity bands sensors =
    ap (λ (l : List Row). with_rows l (fresh_drive capacity bands sensors)) (repeated-settles 16 (conditions_of (fresh_drive capacity bands sensors)))

fresh-within : (capacity : ℕ) → Within capacity no_span
unfolding no_span
fresh-within capacity = record { begins = omega arith; ends = omega arith }

in-range : (capacity bands sensors : ℕ) → header_fits capacity bands sensors ≡ true → InRange capacity bands sensors
unfolding header_fits
in-range capacity bands sensors h =
    let t = each_holds (leb 1 capacity) (leb capacity most_blocks ∷ leb 1 bands ∷ leb bands most_bands ∷ leb sensors most_sensors ∷ []) h in
    record {
      some-blocks = leb-true 1 capacity (t 0);
      few-blocks = leb-true capacity most_blocks (t 1);
      some-bands = leb-true 1 bands (t 2);
      few-bands = leb-true bands most_bands (t 3);
      few-sensors = leb-true sensors most_sensors (t 4);
    }

fresh-shaped : (capacity bands sensors : ℕ) → header_fits capacity bands sensors ≡ true → Shaped (fresh_drive capacity bands sensors)
unfolding fresh_drive
fresh-shaped capacity bands sensors h = record {
  header = in-range capacity bands sensors h;
  rows = fresh-table RowFits fresh_row bands fresh-fits;
  spans = fresh-table (Within capacity) no_span bands (fresh-within capacity);
  apart = fresh-apart bands;
  sensors = fresh-table SensorFits fresh_sensor sensors keeps-fits.fresh;
}

pub fresh-reached : (capacity bands sensors : ℕ) → header_fits capacity bands sensors ≡ true → Reached (fresh_drive capacity bands sensors)
fresh-reached capacity bands sensors h =
    record { settled = fresh-settled capacity bands sensors; shaped = fresh-shaped capacity bands sensors h }

pub step-reached : (d : Drive) (e : Event) → Fields e → Reached d → Reached (step_of d e)
unfolding step_of
step-reached d e f r =
    cond_either Reached (eqb (answer_of d e) 0) (settle_of (act_of d e)) d
    (λ q. record {
      settled = settle-twice (act_of d e);
      shaped = settle-shaped (act_of d e) (act-shaped d e f (granted-free d e (eqb-true (answer_of d e) 0 q)) r.shaped);
    })
    (λ q. r)

-- from any drive that is reached, and so from the fresh one of a header in range
pub run_on : (d : Drive) (es : List Event) → AllFields es → Reached d → Reached (run_of d es)
unfolding run_of
run_on d [] f r = r
run_on d (e ∷ es) f r = run_on (step_of d e) es f.1 (step-reached d e f.0 r)

pub run-reached : (capacity bands sensors : ℕ) (es : List Event) → header_fits capacity bands sensors ≡ true → AllFields es
    → Reached (run_of (fresh_drive capacity bands sensors) es)
run-reached capacity bands sensors es h f = run_on (fresh_drive capacity bands sensors) es f (fresh-reached capacity bands sensors h)
