-- Document 01, 'Bands': a Set of a row's columns.
use Rattle.std.specs.Prelude.{ℕ, Bool, cond, ◌&&◌, ◌||◌, eqb, ltb}
use Rattle.base.specs.Columns.{named, within}
use Rattle.expression.specs.declared.Expression.{Expression}
use Rattle.evaluator.specs.declared.Evaluation.{Evaluation}
use Rattle.evaluator.specs.Value.{is_true}
use Rattle.band.specs.declared.Side.{Side}
use Rattle.band.specs.declared.Side.TheVariants.{Read, Write}
use Rattle.band.specs.declared.Row.{Row}
use Rattle.band_columns.specs.declared.BandColumns.{BandColumns}
use Rattle.band.specs.Rows.{all_resets, enabled_on}

-- the masks of six bits are those below
abbrev pub band_masks : ℕ
band_masks = 64

-- Every bit of the mask is one of the six, and every named value is in its range: "LockOnReset takes 0 to 15" (document 02, #105), "The rest are
-- booleans."
unfoldable pub columns_fit : BandColumns → Bool
columns_fit c =
    let m = c.mask in
    ltb m band_masks
    && (within 1 (named 1 m) c.read_lock_enabled
    && (within 1 (named 2 m) c.write_lock_enabled
    && (within 1 (named 4 m) c.read_locked
    && (within 1 (named 8 m) c.write_locked
    && within all_resets (named 16 m) c.lock_on_reset))))

-- "A Set forms the new row": the named columns are the Set's, the others as they were. The expression is what the Set's bytes read to.
unfoldable pub formed_row : BandColumns → Expression → Row → Row
formed_row c new row =
    let m = c.mask in
    record {
      read_lock_enabled = cond (named 1 m) (eqb c.read_lock_enabled 1) row.read_lock_enabled;
      write_lock_enabled = cond (named 2 m) (eqb c.write_lock_enabled 1) row.write_lock_enabled;
      read_locked = cond (named 4 m) (eqb c.read_locked 1) row.read_locked;
      write_locked = cond (named 8 m) (eqb c.write_locked 1) row.write_locked;
      lock_on_reset = cond (named 16 m) c.lock_on_reset row.lock_on_reset;
      expression = cond (named 32 m) new row.expression;
    }

-- the Set names a side's Locked, and as which number
abbrev pub locked_named : Side → BandColumns → Bool
locked_named Read c = named 4 c.mask
locked_named Write c = named 8 c.mask

abbrev pub locked_value : Side → BandColumns → ℕ
locked_value Read c = c.read_locked
locked_value Write c = c.write_locked

abbrev pub names_locked : Side → ℕ → BandColumns → Bool
names_locked side v c = locked_named side c && eqb (locked_value side c) v

-- "if it names a side's Locked as 0, and the new row has that side enabled and its expression's value .. is TRUE, it is refused (8)";
-- held is document 01's word for it
abbrev pub held_on : Side → BandColumns → Row → Evaluation → Bool
held_on side c new v = names_locked side 0 c && (enabled_on side new && is_true v)

abbrev pub held_by : BandColumns → Row → Evaluation → Bool
held_by c new v = held_on Read c new v || held_on Write c new v
