-- Elements written into lent memory.
use Rattle.std.specs.Prelude.{ℕ, ◌+◌, List, ◌++◌, length, take, drop}

-- the output with other elements from a place on
abbrev pub spliced : {A : Type 0} → List A → ℕ → List A → List A
spliced out at items = take at out ++ items ++ drop (at + length items) out

-- elements from the start of a lent buffer, and the rest of it untouched
abbrev pub over : {A : Type 0} → List A → List A → List A
over items lent = items ++ drop (length items) lent
