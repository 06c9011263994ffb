-- The columns of a Set: a mask with a bit for each column, and a value for each column that the mask names.
use Rattle.std.specs.Prelude.{ℕ, ◌/◌, ◌%◌, Bool, not, ◌||◌, eqb, leb}

-- "Columns, by mask bit": a Set names a column when the column's bit is in its mask.
abbrev pub named : ℕ → ℕ → Bool
named bit mask = eqb (mask / bit % 2) 1

-- A named value is at most the greatest of its range; a value that is not named is not looked at.
abbrev pub within : ℕ → Bool → ℕ → Bool
within most is_named value = not is_named || leb value most
