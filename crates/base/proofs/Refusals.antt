-- Laws of a list of refusals, from tests of its numbers that the checker computes.
use Prim.Native.Nat.{ℕ, zero, suc, ◌*◌, ◌≤◌, ◌<◌}
use mathlib.Core.Path.{◌≡◌, refl, sym, ap, ◌∙◌}
use native.Mathlib.Omega.{arith}
use mathlib.Core.Bool.{Bool, true, false, cond, ◌&&◌, ◌||◌, false≢true}
use mathlib.Core.List.{List, [], ◌∷◌}
use lib.Dec.{eqb, leb, ltb}
use borrow.Author.Tests.{le-leb, leb-true, ltb-true, eq-eqb, ne_eqb, eqb-true}
use Rattle.base.specs.Lists.{any}
use Rattle.base.specs.Refusals.{TableRow, first_of, applying, order_of, Order, LowestOf}
use Rattle.base.proofs.Cases.{cond-false, and_yes, and_left, and_right, or_yes, or-second}

-- the i-th applies
abbrev pub applies_at : List TableRow → ℕ → Bool
applies_at [] i = false
applies_at (r ∷ l) zero = r.applies
applies_at (r ∷ l) (suc i) = applies_at l i

-- every number is from 1 on and below k
abbrev pub numbers_below : ℕ → List TableRow → Bool
numbers_below k [] = true
numbers_below k (r ∷ l) = (ltb 0 r.number && ltb r.number k) && numbers_below k l

-- what events get is below
abbrev pub past_events : ℕ
past_events = 14

-- every number comes after the one before it, from the place k on
abbrev pub rising_from : ℕ → List TableRow → Bool
rising_from k [] = true
rising_from k (r ∷ l) = leb k (order_of r.number) && rising_from (suc (order_of r.number)) l

-- of what is answered 0 nothing applies
pub none-applies : (k : ℕ) (l : List TableRow) → numbers_below k l ≡ true → first_of l ≡ 0 → (i : ℕ) → applies_at l i ≡ false
none-applies k [] p e i = refl
none-applies k (r ∷ l) p e i =
    go r.applies refl e (λ e i. none-applies k l (and_right (ltb 0 r.number && ltb r.number k) _ p) e i) i
  where
    go : (b : Bool) → r.applies ≡ b → cond b r.number (first_of l) ≡ 0 → (first_of l ≡ 0 → (i : ℕ) → applies_at l i ≡ false) → (i : ℕ)
        → applies_at (r ∷ l) i ≡ false
    go true q e more i =
        absurd (omega (arith, e, ltb-true 0 r.number (and_left (ltb 0 r.number) _ (and_left (ltb 0 r.number && ltb r.number k) _ p))))
    go false q e more zero = q
    go false q e more (suc i) = more e i

-- an answer is below what the numbers are below
pub first_below : (k : ℕ) (l : List TableRow) → 0 < k → numbers_below k l ≡ true → first_of l < k
first_below k [] h p = h
first_below k (r ∷ l) h p = go r.applies (first_below k l h (and_right (ltb 0 r.number && ltb r.number k) _ p))
  where
    go : (b : Bool) → first_of l < k → cond b r.number (first_of l) < k
    go true more = ltb-true r.number k (and_right (ltb 0 r.number) _ (and_left (ltb 0 r.number && ltb r.number k) _ p))
    go false more = more

-- ---- the order of the numbers

-- every number but 13 has its own place
pub own-place : (n : ℕ) → (n ≡ 13 → ⊥) → order_of n ≡ n * 2
own-place n z = sym (cond-false (eqb n 13) _ _ _ (ne_eqb n 13 z) refl)

pub order : Order
order = record {
  after-4 = omega arith;
  before-5 = omega arith;
  others = λ m n p q h. omega (arith, own-place m p, own-place n q, h);
}

-- ---- where the numbers rise, the first that applies is the lowest

-- only 0 comes first
not_first : (n : ℕ) → 1 ≤ order_of n → 1 ≤ n
not_first zero h = absurd (omega (arith, h))
not_first (suc n) h = omega arith

-- what applies comes no sooner than the first number
from_first : (k : ℕ) (l : List TableRow) → rising_from k l ≡ true → (n : ℕ) → applying n l ≡ true → k ≤ order_of n
unfolding applying any
from_first k [] p n e = absurd (false≢true e)
from_first k (r ∷ l) p n e =
    go (eqb r.number n) refl e (λ q. from_first (suc (order_of r.number)) l (and_right (leb k (order_of r.number)) _ p) n q)
  where
    low : k ≤ order_of r.number
    low = leb-true k (order_of r.number) (and_left (leb k (order_of r.number)) _ p)

    go : (b : Bool) → eqb r.number n ≡ b → ((b && r.applies) || any (λ x. eqb x.number n && x.applies) l) ≡ true
        → (any (λ x. eqb x.number n && x.applies) l ≡ true → suc (order_of r.number) ≤ order_of n) → k ≤ order_of n
    go true q e more = omega (arith, low, ap order_of (eqb-true r.number n q))
    go false q e more = omega (arith, low, more e)

pub rising-lowest : (k : ℕ) (l : List TableRow) → 1 ≤ k → rising_from k l ≡ true → LowestOf l (first_of l)
unfolding applying any
rising-lowest k [] h p = record { lowest = λ n e. absurd (false≢true e); given = λ g. absurd (omega (arith, g)) }
rising-lowest k (r ∷ l) h p =
    go r.applies refl (rising-lowest (suc (order_of r.number)) l (omega arith) (and_right (leb k (order_of r.number)) _ p))
  where
    low : k ≤ order_of r.number
    low = leb-true k (order_of r.number) (and_left (leb k (order_of r.number)) _ p)

    -- the list from its own first number on
    own : rising_from (order_of r.number) (r ∷ l) ≡ true
    own =
        sym
        (and_yes _ _ _ (le-leb (order_of r.number) (order_of r.number) (omega arith)) (sym (and_right (leb k (order_of r.number)) _ p)))

    here : r.applies ≡ true → applying r.number (r ∷ l) ≡ true
    here q = sym (or_yes _ _ (sym (and_yes _ _ _ (eq-eqb r.number r.number refl) (sym q))))

    later : (n : ℕ) (b : Bool) → r.applies ≡ false → ((b && r.applies) || applying n l) ≡ true → applying n l ≡ true
    later n true q e = sym (ap (λ (x : Bool). x || applying n l) q) ∙ e
    later n false q e = e

    go : (b : Bool) → r.applies ≡ b → LowestOf l (first_of l) → LowestOf (r ∷ l) (cond b r.number (first_of l))
    go true q more = record {
      lowest = λ n e. (not_first r.number (omega (arith, h, low)), from_first (order_of r.number) (r ∷ l) own n e);
      given = λ g. here q;
    }
    go false q more = record {
      lowest = λ n e. more.lowest n (later n (eqb r.number n) q e);
      given = λ g. or-second (eqb r.number (first_of l) && r.applies) (applying (first_of l) l) (more.given g);
    }
