-- What a Set that fits says of each of its columns.
use mathlib.Core.Path.{◌≡◌, refl}
use Prim.Native.Nat.{ℕ}
use native.Mathlib.Omega.{arith}
use mathlib.Core.Bool.{Bool, true, false}
use mathlib.Core.List.{[], ◌∷◌}
use lib.Dec.{ltb}
use borrow.Author.Tests.{leb-true, le-leb}
use Rattle.base.specs.Columns.{named, within}
use Rattle.base.proofs.Columns.{each_holds}
use Rattle.sensor.specs.Single.{greatest_number, greatest_fraction}
use Rattle.sensor_set.specs.declared.SensorColumns.{SensorColumns}
use Rattle.sensor_set.specs.Columns.{sensor_masks, columns_fit}

pub record Fitting (c : SensorColumns) : Type 0 where
  pub enabled : within 1 (named 1 c.mask) c.enabled ≡ true
  pub on_threshold : within greatest_number (named 2 c.mask) c.on_threshold ≡ true
  pub on_fraction : within greatest_fraction (named 4 c.mask) c.on_fraction ≡ true
  pub on_timeout : within greatest_number (named 8 c.mask) c.on_timeout ≡ true
  pub off_threshold : within greatest_number (named 16 c.mask) c.off_threshold ≡ true
  pub off_fraction : within greatest_fraction (named 32 c.mask) c.off_fraction ≡ true
  pub off_timeout : within greatest_number (named 64 c.mask) c.off_timeout ≡ true

pub fitting : (c : SensorColumns) → columns_fit c ≡ true → Fitting c
unfolding columns_fit
fitting c e =
    let t = each_holds (ltb c.mask sensor_masks)
    (within 1 (named 1 c.mask) c.enabled
    ∷ within greatest_number (named 2 c.mask) c.on_threshold
    ∷ within greatest_fraction (named 4 c.mask) c.on_fraction
    ∷ within greatest_number (named 8 c.mask) c.on_timeout
    ∷ within greatest_number (named 16 c.mask) c.off_threshold
    ∷ within greatest_fraction (named 32 c.mask) c.off_fraction
    ∷ within greatest_number (named 64 c.mask) c.off_timeout
    ∷ [])
    e in
    record {
      enabled = t 1;
      on_threshold = t 2;
      on_fraction = t 3;
      on_timeout = t 4;
      off_threshold = t 5;
      off_fraction = t 6;
      off_timeout = t 7;
    }

-- a value in the range of fractions is in that of numbers
wider : (v : ℕ) (n : Bool) → within greatest_fraction n v ≡ true → within greatest_number n v ≡ true
wider v true e = le-leb v greatest_number (omega (arith, leb-true v greatest_fraction e))
wider v false e = refl

pub on-fraction : (c : SensorColumns) → columns_fit c ≡ true → within greatest_number (named 4 c.mask) c.on_fraction ≡ true
on-fraction c e = wider c.on_fraction (named 4 c.mask) (fitting c e).on_fraction

pub off-fraction : (c : SensorColumns) → columns_fit c ≡ true → within greatest_number (named 32 c.mask) c.off_fraction ≡ true
off-fraction c e = wider c.off_fraction (named 32 c.mask) (fitting c e).off_fraction
