-- The cases of a test program's data, each after its length in four bytes, low first.
use Rattle.std.specs.Prelude.{ℕ, zero, suc, ◌+◌, ◌-◌, ◌*◌, ◌≤◌, ◌≡◌, min, Bool, cond, List, leb, length, get_or, take, drop}

-- the length at a place
abbrev pub size_at : List ℕ → ℕ → ℕ
size_at s at = get_or s at 0 + get_or s (at + 1) 0 * 256 + get_or s (at + 2) 0 * 65536 + get_or s (at + 3) 0 * 16777216

-- a whole case stands at a place: the length, and as many bytes after it
abbrev pub whole_at : List ℕ → ℕ → Bool
whole_at s at = leb (at + 4 + size_at s at) (length s)

-- the place after the case at a place: at most the data's end
abbrev pub next_at : List ℕ → ℕ → ℕ
next_at s at = min (length s) (at + 4 + size_at s at)

-- the place so many cases after another
unfoldable pub case_place : List ℕ → ℕ → ℕ → ℕ
case_place s zero at = at
case_place s (suc n) at = case_place s n (next_at s at)

-- the bytes between two places, without the length in front of them
abbrev pub between : List ℕ → ℕ → ℕ → List ℕ
between s at next = take (next - (at + 4)) (drop (at + 4) s)

abbrev pub case_of : List ℕ → ℕ → List ℕ
case_of s number = between s (case_place s number 0) (next_at s (case_place s number 0))

-- how many whole cases stand from a place on, of at most so many
unfoldable pub count_from : List ℕ → ℕ → ℕ → ℕ
count_from s zero at = 0
count_from s (suc most) at = cond (whole_at s at) (suc (count_from s most (next_at s at))) 0

-- the whole cases of the data, up to the first that is not whole (the clause `all` of `held`): it has no more cases than bytes
abbrev pub case_count : List ℕ → ℕ
case_count s = count_from s (length s) 0

-- the bytes after them
abbrev pub left_over : List ℕ → ℕ
left_over s = length s - case_place s (case_count s) 0

-- a place is that of the case of a number: so many whole cases stand before it, and the rest are counted from it on
pub record Placed (s : List ℕ) (at number : ℕ) : Type 0 where
  pub within : at ≤ length s
  pub few : number ≤ at
  pub place : case_place s number 0 ≡ at
  pub same : number + count_from s (length s - number) at ≡ case_count s
