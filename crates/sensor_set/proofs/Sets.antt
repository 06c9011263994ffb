-- What a Set keeps of a sensor: one that is sound stays so, no timeout and no timer comes to exceed the range of timeouts, and the level is the
-- one that the last reading gives.
use mathlib.Core.Path.{◌≡◌, ap₂, ◌∙◌}
use Prim.Native.Nat.{ℕ}
use mathlib.Core.Bool.{true, false, cond, ◌||◌}
use lib.Dec.{eqb}
use Rattle.base.specs.Columns.{named}
use Rattle.base.proofs.Cases.{cond_either, neither}
use Rattle.base.proofs.Columns.{stored-within}
use Rattle.sensor.specs.declared.single.Sensor.{Sensor}
use Rattle.sensor.specs.Single.{greatest_number, greatest_fraction, judged, on_of, off_of, level_by, level_given, enable_of, disable_of}
use Rattle.sensor.specs.Sound.{Sound, Timed, Kept, UpToDate}
use Rattle.sensor.proofs.Soundness.{judged-sound, enable-sound, disable-sound}
use Rattle.sensor.proofs.Bounds.{judged-timed, enable-timed, disable-timed}
use Rattle.sensor.proofs.Judging.{judged-up-to-date, enable-up-to-date, disable-up-to-date}
use Rattle.sensor_set.specs.declared.SensorColumns.{SensorColumns}
use Rattle.sensor_set.specs.Columns.{columns_fit, stored_of, names_threshold, rejudged_of, switched_of, set_of}
use Rattle.sensor_set.proofs.Fits.{fitting}

-- what judging, enabling and disabling keep, a Set keeps after its columns are stored
module _ (P : Sensor → Type 0) (enabled : (s : Sensor) → P s → P (enable_of s)) (disabled : (s : Sensor) → P s → P (disable_of s)) where
  switched : (c : SensorColumns) (s : Sensor) → P s → P (switched_of c s)
  unfolding switched_of
  switched c s h =
      cond_either P (named 1 c.mask) (cond (eqb c.enabled 1) (enable_of s) (disable_of s)) s
      (λ e. cond_either P (eqb c.enabled 1) (enable_of s) (disable_of s) (λ f. enabled s h) (λ f. disabled s h))
      (λ e. h)

  pub set_keeps : ((c : SensorColumns) (s : Sensor) → columns_fit c ≡ true → P s → P (rejudged_of c (stored_of c s)))
      → (c : SensorColumns) (s : Sensor) → P s → P (set_of c s)
  unfolding set_of
  set_keeps stored c s h =
      cond_either P (columns_fit c) (switched_of c (rejudged_of c (stored_of c s))) s
      (λ e. switched c (rejudged_of c (stored_of c s)) (stored c s e h))
      (λ e. h)

-- what judging keeps
pub rejudged : (P : Sensor → Type 0) → ((s : Sensor) → P s → P (judged s)) → (c : SensorColumns) (s : Sensor) → P s → P (rejudged_of c s)
unfolding rejudged_of
rejudged P judges c s h = cond_either P (names_threshold c.mask) (judged s) s (λ e. judges s h) (λ e. h)

-- ---- soundness

stored-sound : (c : SensorColumns) (s : Sensor) → columns_fit c ≡ true → Sound s → Sound (stored_of c s)
unfolding stored_of
stored-sound c s e h = record {
  timer = h.timer;
  level = h.level;
  condition = h.condition;
  on_fraction = stored-within greatest_fraction (named 4 c.mask) c.on_fraction s.on_fraction (fitting c e).on_fraction h.on_fraction;
  off_fraction = stored-within greatest_fraction (named 32 c.mask) c.off_fraction s.off_fraction (fitting c e).off_fraction h.off_fraction;
}

pub set-sound : (c : SensorColumns) (s : Sensor) → Sound s → Sound (set_of c s)
set-sound = set_keeps Sound enable-sound disable-sound (λ c s e h. rejudged Sound judged-sound c (stored_of c s) (stored-sound c s e h))

-- ---- the bounds of timers

stored-timed : (c : SensorColumns) (s : Sensor) → columns_fit c ≡ true → Timed s → Timed (stored_of c s)
unfolding stored_of
stored-timed c s e h = record {
  on = stored-within greatest_number (named 8 c.mask) c.on_timeout s.on_timeout (fitting c e).on_timeout h.on;
  off = stored-within greatest_number (named 64 c.mask) c.off_timeout s.off_timeout (fitting c e).off_timeout h.off;
  timer = h.timer;
}

pub set-timed : (c : SensorColumns) (s : Sensor) → Timed s → Timed (set_of c s)
set-timed = set_keeps Timed enable-timed disable-timed (λ c s e h. rejudged Timed judged-timed c (stored_of c s) (stored-timed c s e h))

-- ---- the level under the thresholds as they now are

-- a Set that names no threshold and no fraction leaves On and Off
module _ (c : SensorColumns) (s : Sensor) (e : names_threshold c.mask ≡ false) where
  unnamed : ((named 2 c.mask ≡ false) × (named 4 c.mask ≡ false)) × ((named 16 c.mask ≡ false) × (named 32 c.mask ≡ false))
  unnamed =
      let both = neither (named 2 c.mask || named 4 c.mask) (named 16 c.mask || named 32 c.mask) e in
      (neither (named 2 c.mask) (named 4 c.mask) both.0, neither (named 16 c.mask) (named 32 c.mask) both.1)

  same-on : on_of (stored_of c s) ≡ on_of s
  unfolding stored_of
  same-on = rw (unnamed.0.0, unnamed.0.1)

  same-off : off_of (stored_of c s) ≡ off_of s
  unfolding stored_of
  same-off = rw (unnamed.1.0, unnamed.1.1)

  stored-level : level_given (stored_of c s) ≡ level_given s
  unfolding stored_of level_given
  stored-level =
      ap₂ (λ (on off : ℕ). level_by on off s.last_reading s.level) same-on same-off

stored-kept : (c : SensorColumns) (s : Sensor) → Kept s → Kept (stored_of c s)
unfolding stored_of
stored-kept c s h = record { range = h.range }

rejudged-up-to-date : (c : SensorColumns) (s : Sensor) → columns_fit c ≡ true → UpToDate s → UpToDate (rejudged_of c (stored_of c s))
unfolding rejudged_of stored_of
rejudged-up-to-date c s e h =
    cond_either UpToDate (names_threshold c.mask) (judged (stored_of c s)) (stored_of c s)
    (λ n. judged-up-to-date (stored_of c s) (stored-kept c s h.kept))
    (λ n. record { level = stored-level c s n ∙ h.level; kept = stored-kept c s h.kept })

pub set-up-to-date : (c : SensorColumns) (s : Sensor) → UpToDate s → UpToDate (set_of c s)
set-up-to-date = set_keeps UpToDate enable-up-to-date disable-up-to-date rejudged-up-to-date
