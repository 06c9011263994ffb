-- What is refused on the greatest drive with a number up to 6 or with 13 is refused on every drive: the numbers that apply there apply everywhere.
use Prim.Native.Nat.{ℕ, ◌-◌, ◌<◌, ◌≤◌}
use mathlib.Core.Path.{◌≡◌, refl, sym, ap, ◌∙◌}
use native.Mathlib.Omega.{arith}
use mathlib.Core.Bool.{Bool, true, false, not, cond, ◌&&◌, ◌||◌, false≢true}
use mathlib.Core.List.{List, [], ◌∷◌}
use lib.Dec.{eqb, ltb, leb}
use borrow.Author.Tests.{lt-ltb, le-leb, ltb-true, leb-true, ne_eqb}
use Rattle.base.specs.Lists.{any}
use Rattle.base.specs.Refusals.{TableRow, when, applying, order_of}
use Rattle.base.specs.Rows.{is_row}
use Rattle.base.proofs.Cases.{and_yes, and_left, and_right, or_yes, or-second}
use Rattle.sensor_set.specs.Columns.{sensor_refusals}
use Rattle.geometry.specs.Events.{past_end}
use Rattle.drive.specs.declared.Drive.{Drive}
use Rattle.drive.specs.State.{most_blocks, most_bands, most_sensors, header_fits, fresh_drive}
use Rattle.drive.specs.Events.{Event, Shape, ticking, resetting, setting, sensing, placing, looking, shape_of, refusals_by, refusals, answer_of}
use Rattle.drive.proofs.Answers.{lowest-given}
use Rattle.api.specs.Exports.{up_to_six, refused_anyway, InRange, LowestAnyway}

-- ---- two lists of refusals with the same numbers: what applies in the first and comes no later than 6 applies in the second

abbrev Passes : List TableRow → List TableRow → Type 0
Passes l m = (n : ℕ) → order_of n ≤ order_of 6 → applying n l ≡ true → applying n m ≡ true

module _ (number : ℕ) (a b : Bool) (l m : List TableRow) (more : Passes l m) where
  first : (a ≡ true → b ≡ true) → Passes (when number a ∷ l) (when number b ∷ m)
  unfolding applying any
  first f n h e = go (eqb number n) a f e
    where
      go : (x a : Bool) → (a ≡ true → b ≡ true) → ((x && a) || applying n l) ≡ true → ((x && b) || applying n m) ≡ true
      go true true f e = sym (or_yes b (applying n m) (f refl))
      go true false f e = or-second b (applying n m) (more n h e)
      go false a f e = more n h e

  later : order_of 6 < order_of number → Passes (when number a ∷ l) (when number b ∷ m)
  unfolding applying any
  later k n h e = go (eqb number n) (ne_eqb number n (λ q. absurd (omega (arith, ap order_of q, k, h)))) e
    where
      go : (x : Bool) → x ≡ false → ((x && a) || applying n l) ≡ true → ((x && b) || applying n m) ≡ true
      go true z e = absurd (false≢true (sym z))
      go false z e = more n h e

same : (l : List TableRow) → Passes l l
same l n h e = e

-- the same test in both
alike : (number : ℕ) (a : Bool) (l m : List TableRow) → Passes l m → Passes (when number a ∷ l) (when number a ∷ m)
alike number a l m more = first number a a l m more (λ e. e)

-- ---- what a lower count or a lower capacity refuses besides

no_row : (count most i : ℕ) → count ≤ most → not (is_row most i) ≡ true → not (is_row count i) ≡ true
no_row count most i h = contra (is_row count i) (is_row most i) up
  where
    up : is_row count i ≡ true → is_row most i ≡ true
    up e =
        let below : i < most = omega (arith, h, ltb-true i count (and_left (ltb i count) (ltb i 16) e)) in
        sym (and_yes (ltb i most) (ltb i 16) true (lt-ltb i most below) (sym (and_right (ltb i count) (ltb i 16) e)))

    contra : (a b : Bool) → (a ≡ true → b ≡ true) → not b ≡ true → not a ≡ true
    contra true true f e = absurd (false≢true e)
    contra true false f e = absurd (false≢true (f refl))
    contra false b f e = refl

past_end_lem : (capacity most start n : ℕ) → capacity ≤ most → past_end most start n ≡ true → past_end capacity start n ≡ true
past_end_lem capacity most start n h = go (ltb most start) refl
  where
    go : (x : Bool) → ltb most start ≡ x → (x || ltb (most - start) n) ≡ true → past_end capacity start n ≡ true
    go true q e = sym (or_yes _ _ (lt-ltb capacity start (omega (arith, h, ltb-true most start q))))
    go false q e = or-second (ltb capacity start) _ (lt-ltb (capacity - start) n (omega (arith, h, ltb-true (most - start) n e)))

-- ---- the greatest drive, and every other

abbrev greatest : Drive
greatest = fresh_drive most_blocks most_bands most_sensors

module _ (d : Drive) (fits : InRange d) where
  -- the tests of the header after that of capacity 0, and those after that of no bands
  tests : (leb d.capacity most_blocks && (leb 1 d.band_count && (leb d.band_count most_bands && leb d.sensor_count most_sensors))) ≡ true
  unfolding header_fits
  tests = and_right (leb 1 d.capacity) _ fits

  counts : (leb d.band_count most_bands && leb d.sensor_count most_sensors) ≡ true
  counts = and_right (leb 1 d.band_count) _ (and_right (leb d.capacity most_blocks) _ tests)

  few-blocks : d.capacity ≤ most_blocks
  few-blocks = leb-true d.capacity most_blocks (and_left (leb d.capacity most_blocks) _ tests)

  few-bands : d.band_count ≤ most_bands
  few-bands = leb-true d.band_count most_bands (and_left (leb d.band_count most_bands) _ counts)

  few-sensors : d.sensor_count ≤ most_sensors
  few-sensors = leb-true d.sensor_count most_sensors (and_right (leb d.band_count most_bands) _ counts)

  passes : (x : Shape) → Passes (refusals_by greatest x) (refusals_by d x)
  unfolding fresh_drive
  passes (ticking n) = same _
  passes (resetting t) = same _
  passes (setting b c bytes) =
      first 1 _ _ _ _ (alike 2 _ _ _ (alike 3 _ _ _ (alike 4 _ _ _ (alike 13 _ _ _ (later 8 _ _ [] [] (same []) (omega arith)))))) (no_row d.band_count most_bands b few-bands)
  passes (sensing s x) = first 1 _ _ _ _ (same (sensor_refusals x)) (no_row d.sensor_count most_sensors s few-sensors)
  passes (placing b start n) =
      first 1 _ _ _ _
      (alike 5 _ _ _ (first 6 _ _ _ _ (later 7 _ _ [] [] (same []) (omega arith)) (past_end_lem d.capacity most_blocks start n few-blocks)))
      (no_row d.band_count most_bands b few-bands)
  passes (looking w start n) =
      alike 2 _ _ _ (first 6 _ _ _ _ (later 9 _ _ [] [] (same []) (omega arith)) (past_end_lem d.capacity most_blocks start n few-blocks))

greatest-fits : InRange greatest
unfolding header_fits fresh_drive
greatest-fits = refl

module _ (e : Event) where
  -- where a number is told, it is the answer on the greatest drive
  told_is : 1 ≤ refused_anyway e → (refused_anyway e ≡ answer_of greatest e) × (order_of (answer_of greatest e) ≤ order_of 6)
  unfolding refused_anyway
  told_is = go (up_to_six (answer_of greatest e)) refl
    where
      go : (b : Bool) → up_to_six (answer_of greatest e) ≡ b → 1 ≤ cond b (answer_of greatest e) 0
          → (cond b (answer_of greatest e) 0 ≡ answer_of greatest e) × (order_of (answer_of greatest e) ≤ order_of 6)
      go true q h = (refl, leb-true (order_of (answer_of greatest e)) (order_of 6) q)
      go false q h = absurd (omega (arith, h))

  -- and it is told where that comes no later than 6
  is-told : order_of (answer_of greatest e) ≤ order_of 6 → answer_of greatest e ≡ refused_anyway e
  unfolding refused_anyway
  is-told h = ap (λ (b : Bool). cond b (answer_of greatest e) 0) (sym (le-leb (order_of (answer_of greatest e)) (order_of 6) h))

  applies-on : 1 ≤ refused_anyway e → (d : Drive) → InRange d → applying (refused_anyway e) (refusals d e) ≡ true
  applies-on h d fits =
      let t = told_is h in
      ap (λ (n : ℕ). applying n (refusals d e)) t.0
      ∙ passes d fits (shape_of e) (answer_of greatest e) t.1 ((lowest-given greatest e).given (omega (arith, h, t.0)))

  pub lowest-anyway : LowestAnyway e
  lowest-anyway = record {
    applies = applies-on;
    refused = λ h d fits. (lowest-given d e).lowest (refused_anyway e) (applies-on h d fits);
    lowest = λ n h all.
        let g = (lowest-given greatest e).lowest n (all greatest greatest-fits) in
        let t = is-told (omega (arith, h, g.1)) in (omega (arith, t, g.0), omega (arith, ap order_of t, g.1));
  }
