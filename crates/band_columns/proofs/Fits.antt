-- What a Set that fits says of each of its columns.
use mathlib.Core.Path.{◌≡◌}
use mathlib.Core.Bool.{true}
use mathlib.Core.List.{[], ◌∷◌}
use lib.Dec.{ltb}
use Rattle.base.specs.Columns.{named, within}
use Rattle.base.proofs.Columns.{each_holds}
use Rattle.band.specs.declared.Side.{Side}
use Rattle.band.specs.declared.Side.TheVariants.{Read, Write}
use Rattle.band.specs.Rows.{all_resets}
use Rattle.band_columns.specs.declared.BandColumns.{BandColumns}
use Rattle.band_columns.specs.Sets.{band_masks, columns_fit, locked_named, locked_value}

pub record Fitting (c : BandColumns) : Type 0 where
  pub read_lock_enabled : within 1 (named 1 c.mask) c.read_lock_enabled ≡ true
  pub write_lock_enabled : within 1 (named 2 c.mask) c.write_lock_enabled ≡ true
  pub read_locked : within 1 (named 4 c.mask) c.read_locked ≡ true
  pub write_locked : within 1 (named 8 c.mask) c.write_locked ≡ true
  pub lock_on_reset : within all_resets (named 16 c.mask) c.lock_on_reset ≡ true

pub fitting : (c : BandColumns) → columns_fit c ≡ true → Fitting c
unfolding columns_fit
fitting c e =
    let t = each_holds (ltb c.mask band_masks)
    (within 1 (named 1 c.mask) c.read_lock_enabled
    ∷ within 1 (named 2 c.mask) c.write_lock_enabled
    ∷ within 1 (named 4 c.mask) c.read_locked
    ∷ within 1 (named 8 c.mask) c.write_locked
    ∷ within all_resets (named 16 c.mask) c.lock_on_reset
    ∷ [])
    e in
    record {
      read_lock_enabled = t 1;
      write_lock_enabled = t 2;
      read_locked = t 3;
      write_locked = t 4;
      lock_on_reset = t 5;
    }

-- a side's Locked, where the Set names it
pub locked-within : (side : Side) (c : BandColumns) → columns_fit c ≡ true → within 1 (locked_named side c) (locked_value side c) ≡ true
locked-within Read c e = (fitting c e).read_locked
locked-within Write c e = (fitting c e).write_locked
