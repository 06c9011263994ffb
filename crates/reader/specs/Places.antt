-- What a reader finds at its place, and where it stands then.
use Rattle.std.specs.Prelude.{ℕ, ◌-◌, cond, List, leb, length, take, drop, Option, Some, None}
use Rattle.numbers.specs.Groups.{Found, found, none}

-- the code's cases by the numbers of the table: a value and the place to which the reader moved on, or none
abbrev pub number_in : Option ℕ → ℕ → Found
number_in (Some value) next = found 0 value next
number_in None next = none 10

-- so many bytes at a place, where they lie in the script
abbrev pub part_at : List ℕ → ℕ → ℕ → Option (List ℕ)
part_at s at count = cond (leb at (length s)) (cond (leb count (length s - at)) (Some (take count (drop at s))) None) None
