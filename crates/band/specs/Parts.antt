-- Which rows settling or a reset can change, as the code looks at it before it evaluates an expression.
use Rattle.std.specs.Prelude.{ℕ, Bool, false, not, ◌&&◌, ◌||◌, List, Option, Some, None}
use Rattle.evaluator.specs.Value.{is_true}
use Rattle.band.specs.declared.Side.{Side}
use Rattle.band.specs.declared.Side.TheVariants.{Read, Write}
use Rattle.band.specs.declared.Row.{Row}
use Rattle.band.specs.Rows.{enabled_on, locked_on, value_in, in_set}

-- enabled and not locked yet
abbrev pub lockable_on : Side → Row → Bool
lockable_on side row = enabled_on side row && not (locked_on side row)

-- some side is enabled and not locked yet
abbrev pub is_lockable : Row → Bool
is_lockable row = lockable_on Read row || lockable_on Write row

-- the set has the type of the reset, where there is one
abbrev pub has_reset : ℕ → Option ℕ → Bool
has_reset set None = false
has_reset set (Some type) = in_set set type

-- a reset of a type, where there is one, and then settling lock what is enabled: where the set has the type, or under a TRUE expression
abbrev pub locks_by : List Bool → Option ℕ → Row → Bool
locks_by conditions reset row = has_reset row.lock_on_reset reset || is_true (value_in conditions row)
