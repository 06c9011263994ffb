-- Document 01, 'The drive and its refusals': what an event or a call is refused for, as a list in the order in which it is given.
use Rattle.std.specs.Prelude.{ℕ, ◌*◌, ◌≤◌, ◌<◌, ◌≡◌, Bool, true, cond, ◌&&◌, List, [], ◌∷◌, eqb}
use Rattle.base.specs.Lists.{any}

-- a row of the table that can apply: its number, and whether it does
pub record TableRow : Type 0 where
  pub number : ℕ
  pub applies : Bool

abbrev pub when : ℕ → Bool → TableRow
when n b = record { number = n; applies = b }

-- the number of the first that applies; "0 done: nothing below applies"
abbrev pub first_of : List TableRow → ℕ
first_of [] = 0
first_of (r ∷ l) = cond r.applies r.number (first_of l)

-- a number of the table applies
unfoldable pub applying : ℕ → List TableRow → Bool
applying n l = any (λ r. eqb r.number n && r.applies) l

-- Which number comes before which: the lower one. Document 02, #104: "13 malformed, right after 3 and 4 and before 8": its place is between those of
-- 4 and 5, which are 8 and 10.
abbrev pub order_of : ℕ → ℕ
order_of n = cond (eqb n 13) 9 (n * 2)

-- The order is that one, and of the other numbers the usual one (theorem `order` in proofs/Refusals).
pub record Order : Type 0 where
  pub after-4 : order_of 4 < order_of 13
  pub before-5 : order_of 13 < order_of 5
  pub others : (m n : ℕ) → (m ≡ 13 → ⊥) → (n ≡ 13 → ⊥) → m < n → order_of m < order_of n

-- "The lowest number that applies is given", 13 in its place: where a number applies, the answer comes no later and is not 0; and an answer that
-- is not 0 applies
pub record LowestOf (l : List TableRow) (answer : ℕ) : Type 0 where
  pub lowest : (n : ℕ) → applying n l ≡ true → (1 ≤ answer) × (order_of answer ≤ order_of n)
  pub given : 1 ≤ answer → applying answer l ≡ true
