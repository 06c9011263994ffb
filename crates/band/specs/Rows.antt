-- Document 01, 'Bands': a row, its two sides, settling and resets.
use Rattle.std.specs.Prelude.{ℕ, zero, suc, Bool, true, false, cond, ◌&&◌, ◌||◌, List, []}
use Rattle.base.specs.Columns.{named}
use Rattle.expression.specs.Elements.{elements_in, expression_of}
use Rattle.evaluator.specs.declared.Evaluation.{Evaluation}
use Rattle.evaluator.specs.Value.{value_of, is_true}
use Rattle.band.specs.declared.Side.{Side}
use Rattle.band.specs.declared.Side.TheVariants.{Read, Write}
use Rattle.band.specs.declared.Row.{Row}

-- "Fresh: all columns 0, expressions empty, LockOnReset 1"
unfoldable pub fresh_row : Row
fresh_row = record {
  read_lock_enabled = false;
  write_lock_enabled = false;
  read_locked = false;
  write_locked = false;
  lock_on_reset = 1;
  expression = expression_of [];
}

-- "A side, read or write, is enabled when its LockEnabled column is 1 and locked when its Locked column is 1."
abbrev pub enabled_on : Side → Row → Bool
enabled_on Read row = row.read_lock_enabled
enabled_on Write row = row.write_lock_enabled

abbrev pub locked_on : Side → Row → Bool
locked_on Read row = row.read_locked
locked_on Write row = row.write_locked

-- "has that direction's side enabled and locked"
abbrev pub closed_on : Side → Row → Bool
closed_on side row = enabled_on side row && locked_on side row

-- the value of the row's expression under the sensors' conditions: TRUE, FALSE or malformed
abbrev pub value_in : List Bool → Row → Evaluation
value_in conditions row = value_of conditions (elements_in row.expression)

-- the same row with other Locked columns
abbrev pub with_locked : Bool → Bool → Row → Row
with_locked read write row = record {
  read_lock_enabled = row.read_lock_enabled;
  write_lock_enabled = row.write_lock_enabled;
  read_locked = read;
  write_locked = write;
  lock_on_reset = row.lock_on_reset;
  expression = row.expression;
}

-- "a side that is enabled, under a TRUE expression, becomes locked"; v is whether it is TRUE. Slip three: under TRUE, not under FALSE.
abbrev pub locked_under : Bool → Side → Row → Bool
locked_under v side row = locked_on side row || (enabled_on side row && v)

abbrev pub lock_under : Bool → Row → Row
lock_under v row = with_locked (locked_under v Read row) (locked_under v Write row) row

-- settling, document 01's word for what happens to a row after every event and tick
unfoldable pub settle_row : List Bool → Row → Row
settle_row conditions row = lock_under (is_true (value_in conditions row)) row

-- "Reset types: 0 power cycle, 1 hardware, 2 hot plug." Document 02, #105, 'Programmatic reset': "Type 3"
abbrev pub last_reset_type : ℕ
last_reset_type = 3

-- "(a set as bits: 1 power cycle, 2 hardware, 4 hot plug; ..)"; "bit 8 for the new type". What is no type has no bit.
abbrev pub reset_bit : ℕ → ℕ
reset_bit zero = 1
reset_bit (suc zero) = 2
reset_bit (suc (suc zero)) = 4
reset_bit (suc (suc (suc zero))) = 8
reset_bit (suc (suc (suc (suc type)))) = 0

-- "LockOnReset takes 0 to 15": the greatest set, which has every type
abbrev pub all_resets : ℕ
all_resets = 15

-- "whose set has the type"
abbrev pub in_set : ℕ → ℕ → Bool
in_set set type = named (reset_bit type) set

-- "A band whose set has the type gets each enabled side locked."
unfoldable pub reset_row : ℕ → Row → Row
reset_row type row = cond (in_set row.lock_on_reset type) (lock_under true row) row
