-- Document 01, 'Listing': "Per event: e, index from 0, answer, stops", "per band: b, number, ..", "per sensor: s, number, .." and the example
-- have each number in decimal. What the digits of a line say, for every number.
use Rattle.std.specs.Prelude.{ℕ, ◌+◌, ◌-◌, ◌*◌, ◌≤◌, ◌<◌, ◌≡◌, List, [], ◌∷◌, length, get_or}
use Rattle.report.specs.Lines.{decimal}

-- a digit's byte: 0 is 48, 9 is 57
pub record Digit (b : ℕ) : Type 0 where
  pub low : 48 ≤ b
  pub high : b ≤ 57

-- the number that bytes say in decimal, from the left, after a number that was said before them
abbrev pub said : ℕ → List ℕ → ℕ
said a [] = a
said a (b ∷ l) = said (10 * a + (b - 48)) l

pub record InDecimal : Type 0 where
  -- the digits of a number say that number
  pub says : (n : ℕ) → said 0 (decimal n) ≡ n
  -- and each of them is a digit
  pub of-digits : (n i : ℕ) → i < length (decimal n) → Digit (get_or (decimal n) i 0)
  -- "e 0 0 0": only the number 0 begins with a 0
  pub no-leading-zero : (n : ℕ) → get_or (decimal n) 0 0 ≡ 48 → n ≡ 0
