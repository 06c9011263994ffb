-- Resets that are no power cycle, and LockOnReset: the record `ProgrammaticReset`.
use Prim.Native.Nat.{ℕ, ◌≤◌, ◌<◌}
use mathlib.Core.Path.{◌≡◌, refl, sym, ap, ap₂, ◌∙◌}
use native.Mathlib.Omega.{arith}
use mathlib.Core.Bool.{Bool, true, false, not, cond, ◌&&◌, ◌||◌, false≢true}
use mathlib.Core.List.{List, [], ◌∷◌, map}
use lib.Dec.{eqb, leb, ltb}
use lib.ListN.{length}
use borrow.Author.Tests.{ne_eqb, le-leb}
use Rattle.std.specs.Prelude.{Some}
use Rattle.base.specs.Columns.{named, within}
use Rattle.base.specs.Refusals.{when, first_of}
use Rattle.base.specs.Rows.{is_row}
use Rattle.base.proofs.Cases.{cond-true, cond_both}
use Rattle.base.proofs.Columns.{named-fits}
use Rattle.base.proofs.Lists.{get_d_map}
use Rattle.base.proofs.Rows.{row_is, modify-same}
use Rattle.token_reader.specs.Read.{most_token_bytes}
use Rattle.evaluator.specs.Value.{is_true}
use Rattle.band.specs.declared.Side.{Side}
use Rattle.band.specs.declared.Side.TheVariants.{Read, Write}
use Rattle.band.specs.declared.Row.{Row}
use Rattle.band.specs.Rows.{fresh_row, enabled_on, locked_on, value_in, lock_under, settle_row, all_resets, reset_row}
use Rattle.band.specs.Parts.{locks_by}
use Rattle.band.proofs.Settling.{reset-settle}
use Rattle.band_columns.specs.declared.BandColumns.{BandColumns}
use Rattle.band_columns.specs.Sets.{band_masks, columns_fit, formed_row}
use Rattle.band_columns.proofs.Fits.{fitting}
use Rattle.drive.specs.declared.Drive.{Drive}
use Rattle.sensor.specs.Single.{power_cycle_of}
use Rattle.drive.specs.State.{with_rows, with_sensors, conditions_of, row_at, value_at, settle_of}
use Rattle.drive.specs.Events.{reset, band_set, no_row, tokens_answer, malformed_in, formed_from, held_under, answer_of, act_of, step_of, stops_of}
use Rattle.drive.proofs.Answers.{no-band, reset-answered, reset-refused, refused-stays, granted-acts}
use Rattle.drive.proofs.Settling.{settle-at}
use Rattle.reached.specs.Reached.{Reached}
use Rattle.reached.specs.Resets.{reset_by, lock_on_reset_alone, with_set, ProgrammaticReset}

no-stops : (d : Drive) (type : ℕ) → stops_of d (reset type) ≡ 0
unfolding stops_of
no-stops d type = cond_both (λ (n : ℕ). n ≡ 0) (eqb (answer_of d (reset type)) 0) 0 0 refl refl

-- ---- what a reset that is no power cycle makes of the rows

-- a reset of each row and then settling, in one look at the row
fused : (conditions : List Bool) (type : ℕ) (rows : List Row)
    → map (settle_row conditions) (map (reset_row type) rows) ≡ map (λ row. lock_under (locks_by conditions (Some type) row) row) rows
fused conditions type [] = refl
fused conditions type (row ∷ rows) = ap₂ ◌∷◌ (reset-settle conditions type row) (fused conditions type rows)

-- so it is with every type but the power cycle
resets : (d : Drive) (type : ℕ) → 1 ≤ type → type ≤ 3
    → step_of d (reset type) ≡ with_rows (map (λ row. lock_under (locks_by (conditions_of d) (Some type) row) row) d.rows) d
unfolding settle_of act_of conditions_of
resets d type some h =
    sym (granted-acts d (reset type) 0 (reset-answered d type h) refl).0
    ∙ ap (λ (b : Bool). settle_of (with_sensors (cond b (map power_cycle_of d.sensors) d.sensors) (with_rows (map (reset_row type) d.rows) d)))
    (ne_eqb type 0 (λ e. omega (arith, e, some)))
    ∙ ap (λ (l : List Row). with_rows l d) (fused (conditions_of d) type d.rows)

programmatic : (d : Drive) → step_of d (reset 3) ≡ with_rows (map (reset_by 8 d) d.rows) d
programmatic d = resets d 3 (omega arith) (omega arith)

fresh-stays : (d : Drive) → reset_by 8 d fresh_row ≡ fresh_row
unfolding fresh_row
fresh-stays d = refl

row-after : (d : Drive) (band : ℕ) → row_at (step_of d (reset 3)) band ≡ reset_by 8 d (row_at d band)
row-after d band = ap (λ (x : Drive). row_at x band) (programmatic d) ∙ get_d_map (reset_by 8 d) fresh_row (fresh-stays d) d.rows band

locks : (d : Drive) (band : ℕ) (side : Side)
    → locked_on side (row_at (step_of d (reset 3)) band)
    ≡ (locked_on side (row_at d band) || (enabled_on side (row_at d band) && (named 8 (row_at d band).lock_on_reset || is_true (value_at d band))))
locks d band Read = ap (λ (row : Row). row.read_locked) (row-after d band)
locks d band Write = ap (λ (row : Row). row.write_locked) (row-after d band)

-- a side that has settled is locked by the set alone
by-the-set : (locked enabled in_set v : Bool) → (locked || (enabled && v)) ≡ locked → (locked || (enabled && (in_set || v))) ≡ (locked || (enabled && in_set))
by-the-set true enabled in_set v e = refl
by-the-set false false in_set v e = refl
by-the-set false true in_set true e = absurd (false≢true (sym e))
by-the-set false true true false e = refl
by-the-set false true false false e = refl

settled-side : (d : Drive) → Reached d → (band : ℕ) (side : Side)
    → (locked_on side (row_at d band) || (enabled_on side (row_at d band) && is_true (value_at d band))) ≡ locked_on side (row_at d band)
unfolding settle_row
settled-side d r band side = go side
  where
    row : settle_row (conditions_of d) (row_at d band) ≡ row_at d band
    row = sym (settle-at d band) ∙ ap (λ (x : Drive). row_at x band) r.settled

    go : (s : Side) → (locked_on s (row_at d band) || (enabled_on s (row_at d band) && is_true (value_at d band))) ≡ locked_on s (row_at d band)
    go Read = ap (λ (x : Row). x.read_locked) row
    go Write = ap (λ (x : Row). x.write_locked) row

locks-reached : (d : Drive) → Reached d → (band : ℕ) (side : Side)
    → locked_on side (row_at (step_of d (reset 3)) band)
    ≡ (locked_on side (row_at d band) || (enabled_on side (row_at d band) && named 8 (row_at d band).lock_on_reset))
locks-reached d r band side =
    locks d band side
    ∙ by-the-set (locked_on side (row_at d band)) (enabled_on side (row_at d band)) (named 8 (row_at d band).lock_on_reset) (is_true (value_at d band)) (settled-side d r band side)

values-stay : (d : Drive) (band : ℕ) → value_at (step_of d (reset 3)) band ≡ value_at d band
unfolding conditions_of
values-stay d band =
    ap (λ (x : Drive). value_in (conditions_of x) (row_at (step_of d (reset 3)) band)) (programmatic d)
    ∙ ap (λ (row : Row). value_in (conditions_of d) row) (row-after d band)

-- ---- LockOnReset in a Set

module _ (d : Drive) (band : ℕ) (c : BandColumns) (bytes : List ℕ) (n : named 16 c.mask ≡ true) where
  -- such a Set is out of range
  not-fits : 15 < c.lock_on_reset → columns_fit c ≡ false
  not-fits h = go (columns_fit c) refl
    where
      go : (b : Bool) → columns_fit c ≡ b → b ≡ false
      go true e = absurd (omega (arith, h, named-fits all_resets c.lock_on_reset true (named 16 c.mask) (fitting c e).lock_on_reset (sym n) refl))
      go false e = refl

  above-15 : 15 < c.lock_on_reset → answer_of d (band_set band c bytes) ≡ cond (is_row d.band_count band) 2 1
  unfolding answer_of
  above-15 h = second (is_row d.band_count band) (not (columns_fit c)) _ _ (ap not (not-fits h))
    where
      second : (there out more : Bool) (rest : ℕ) → out ≡ true → cond (not there) 1 (cond (out || more) 2 rest) ≡ cond there 2 1
      second true true more rest e = refl
      second true false more rest e = absurd (false≢true e)
      second false out more rest e = refl

  above-15-kept : 15 < c.lock_on_reset → step_of d (band_set band c bytes) ≡ d
  above-15-kept h = sym (refused-stays d (band_set band c bytes) _ (sym (above-15 h)) (go (is_row d.band_count band))).0
    where
      go : (there : Bool) → eqb (cond there 2 1) 0 ≡ false
      go true = refl
      go false = refl

  stored : length d.rows ≡ 16 → answer_of d (band_set band c bytes) ≡ 0
      → (row_at (step_of d (band_set band c bytes)) band).lock_on_reset ≡ c.lock_on_reset
  unfolding act_of settle_row formed_row
  stored long z =
      ap (λ (x : Drive). (row_at x band).lock_on_reset) (sym (granted-acts d (band_set band c bytes) 0 (sym z) refl).0)
      ∙ ap (λ (row : Row). row.lock_on_reset) (settle-at (act_of d (band_set band c bytes)) band)
      ∙ ap (λ (row : Row). row.lock_on_reset) (modify-same (formed_from c bytes) fresh_row d.rows band (omega (arith, long, place)))
      ∙ sym (cond-true (named 16 c.mask) _ _ _ n refl)
    where
      there : (b : Bool) → is_row d.band_count band ≡ b → b ≡ true
      there true e = refl
      there false e = absurd (omega (arith, z, no-band d band c bytes true (sym (ap not e)) refl))

      place : band < 16
      place = (row_is d.band_count band (there (is_row d.band_count band) refl)).1

-- whether a Set is in range is alike for each LockOnReset up to 15
alike : (set : ℕ) (c : BandColumns) → set ≤ 15 → c.lock_on_reset ≤ 15 → columns_fit (with_set set c) ≡ columns_fit c
unfolding columns_fit
alike set c h k =
    let m = c.mask in
    ap (λ (b : Bool). ltb m band_masks
    && (within 1 (named 1 m) c.read_lock_enabled
    && (within 1 (named 2 m) c.write_lock_enabled
    && (within 1 (named 4 m) c.read_locked
    && (within 1 (named 8 m) c.write_locked
    && (not (named 16 m) || b))))))
    (le-leb set 15 h ∙ sym (le-leb c.lock_on_reset 15 k))

up-to-15 : (d : Drive) (band set : ℕ) (c : BandColumns) (bytes : List ℕ) → set ≤ 15 → c.lock_on_reset ≤ 15
    → answer_of d (band_set band (with_set set c) bytes) ≡ answer_of d (band_set band c bytes)
unfolding answer_of formed_row
up-to-15 d band set c bytes h k =
    ap (λ (b : Bool). first_of (no_row d.band_count band
    ∷ when 2 (not b || ltb most_token_bytes (length bytes))
    ∷ when 3 (eqb (tokens_answer c bytes) 3)
    ∷ when 4 (eqb (tokens_answer c bytes) 4)
    ∷ when 13 (malformed_in c bytes)
    ∷ when 8 (held_under (conditions_of d) c (formed_from c bytes (row_at d band)))
    ∷ []))
    (alike set c h k)

alone : (d : Drive) (band set : ℕ) → is_row d.band_count band ≡ true → set ≤ 15 → answer_of d (band_set band (lock_on_reset_alone set) []) ≡ 0
unfolding answer_of columns_fit
alone d band set r h =
    ap (λ (there : Bool). cond (not there) 1 (cond (not (leb set 15) || false) 2 0)) r
    ∙ ap (λ (fits : Bool). cond (not fits || false) 2 0) (le-leb set 15 h)

pub programmatic-reset : ProgrammaticReset
programmatic-reset = record {
  done = λ d type h. sym (reset-answered d type (omega (arith, h)));
  refused = λ d type h. sym (reset-refused d type (omega (arith, h)));
  kept = λ d type h. sym (refused-stays d (reset type) 2 (reset-refused d type (omega (arith, h))) refl).0;
  no-stops = no-stops;
  hardware = λ d. resets d 1 (omega arith) (omega arith);
  hot-plug = λ d. resets d 2 (omega arith) (omega arith);
  programmatic = programmatic;
  locks = locks;
  locks-reached = locks-reached;
  sensors-stay = λ d. ap (λ (x : Drive). x.sensors) (programmatic d);
  values-stay = values-stay;
  above-15 = λ d band c bytes n h. above-15 d band c bytes n (omega (arith, h));
  above-15-kept = λ d band c bytes n h. above-15-kept d band c bytes n (omega (arith, h));
  alone = λ d band set r h. alone d band set r (omega (arith, h));
  up-to-15 = λ d band set c bytes h k. up-to-15 d band set c bytes (omega (arith, h)) (omega (arith, k));
  stored = λ d band c bytes long n z. stored d band c bytes n long z;
}
