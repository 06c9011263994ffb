-- Rows of a table: an array of sixteen, of which the header counts the first ones.
use Rattle.std.specs.Prelude.{ℕ, zero, suc, ◌≡◌, Bool, ◌&&◌, List, [], ◌∷◌, ltb, length, get_or}

-- "no row: the band or sensor is not below its count"; of a count that no header has, the sixteen are all there is
abbrev pub is_row : ℕ → ℕ → Bool
is_row count i = ltb i count && ltb i 16

-- the list with one element changed, and as it was where there is no such element
abbrev pub modify : {A : Type 0} → (A → A) → ℕ → List A → List A
modify f i [] = []
modify f zero (x ∷ l) = f x ∷ l
modify f (suc i) (x ∷ l) = x ∷ modify f i l

-- an element of one of the drive's arrays
pub record Takes {A : Type 0} (l : List A) (i : ℕ) (z r : A) : Type 0 where
  pub long : length l ≡ 16
  pub element : r ≡ get_or l i z
