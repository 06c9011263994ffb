-- The clauses of `groups_from` at a place of the bytes, as the code meets them.
use mathlib.Core.Path.{◌≡◌, refl, subst}
use Prim.Native.Nat.{ℕ, zero, suc, ◌+◌, ◌-◌, ◌≤◌, ◌<◌}
use native.Mathlib.Numerals.{add-one}
use native.Mathlib.Omega.{arith}
use mathlib.Core.List.{List}
use mathlib.Core.Bool.{cond}
use lib.Dec.{ltb}
use lib.ListN.{length, get_or, drop, drop_of_length-le}
use lib.Seq.{drop-cons}
use borrow.Author.Tests.{lt-ltb, le-ltb}
use Rattle.numbers.specs.Groups.{Found, found, none, done, bad_script, prefixed, number_from}
use Rattle.numbers.specs.Parts.{groups_from}

pub none_left : (left at : ℕ) (s : List ℕ) → left ≡ 0 → none bad_script ≡ groups_from left at s
unfolding groups_from
none_left left at s e = rw e

pub no_byte : (left at : ℕ) (s : List ℕ) → length s ≤ at → none bad_script ≡ groups_from left at (drop at s)
unfolding groups_from
no_byte zero at s h = refl
no_byte (suc k) at s h = rw (drop_of_length-le s h)

-- at a byte, with a group left
at_byte : (k at : ℕ) (s : List ℕ) → at < length s
    → groups_from (suc k) at (drop at s)
    ≡ cond (ltb (get_or s at 0) 128) (found done (get_or s at 0) (at + 1)) (prefixed (get_or s at 0) (groups_from k (at + 1) (drop (at + 1) s)))
unfolding groups_from
at_byte k at s h = rw (drop-cons s at 0, add-one)

pub last : (left at : ℕ) (s : List ℕ) (b : ℕ) → (left ≡ 0 → ⊥) → at < length s → b ≡ get_or s at 0 → b < 128
    → found done b (at + 1) ≡ groups_from left at (drop at s)
last zero at s b n h e l = absurd (n refl)
last (suc k) at s b n h e l = rw (at_byte k at s h, ← e, lt-ltb b 128 l)

-- a number of one group
pub alone : (at : ℕ) (s : List ℕ) (b : ℕ) → at < length s → b ≡ get_or s at 0 → b < 128 → found done b (at + 1) ≡ number_from at (drop at s)
unfolding number_from
alone at s b h e l = rw (drop-cons s at 0, ← e, lt-ltb b 128 l)

further : (left at : ℕ) (s : List ℕ) (b : ℕ) (f : Found) → (left ≡ 0 → ⊥) → at < length s → b ≡ get_or s at 0 → 128 ≤ b
    → f ≡ groups_from (left - 1) (at + 1) (drop (at + 1) s) → prefixed b f ≡ groups_from left at (drop at s)
further zero at s b f n h e l p = absurd (n refl)
further (suc k) at s b f n h e l p =
    let q : suc k - 1 ≡ k = omega arith in
    rw (at_byte k at s h, ← e, le-ltb b 128 l, p, q)

-- the second of two groups that one call reads
not_last : (left : ℕ) → (left ≡ 0 → ⊥) → (left ≡ 1 → ⊥) → left - 1 ≡ 0 → ⊥
not_last zero n n' e = n refl
not_last (suc zero) n n' e = n' refl
not_last (suc (suc k)) n n' e = absurd (omega (arith, e))

module _ (left at : ℕ) (s : List ℕ) (b : ℕ) (n : left ≡ 0 → ⊥) (h : at < length s) (e : b ≡ get_or s at 0) (l : 128 ≤ b) where
  pub one_left : left ≡ 1 → none bad_script ≡ groups_from left at (drop at s)
  one_left q = further left at s b (none bad_script) n h e l (none_left (left - 1) (at + 1) (drop (at + 1) s) (omega (arith, q)))

  pub one_byte : length s ≤ at + 1 → none bad_script ≡ groups_from left at (drop at s)
  one_byte q = further left at s b (none bad_script) n h e l (no_byte (left - 1) (at + 1) s q)

  module _ (m : left ≡ 1 → ⊥) (b' : ℕ) (h' : at + 1 < length s) (e' : b' ≡ get_or s (at + 1) 0) where
    pub second-last : b' < 128 → prefixed b (found done b' (at + 2)) ≡ groups_from left at (drop at s)
    second-last l' =
        let z : at + 1 + 1 ≡ at + 2 = omega arith in
        further left at s b (found done b' (at + 2)) n h e l
        (subst (λ (x : ℕ). found done b' x ≡ groups_from (left - 1) (at + 1) (drop (at + 1) s)) z (last (left - 1) (at + 1) s b' (not_last left n m) h' e' l'))

    pub second-further : (f : Found) → 128 ≤ b' → f ≡ groups_from (left - 2) (at + 2) (drop (at + 2) s)
        → prefixed b (prefixed b' f) ≡ groups_from left at (drop at s)
    second-further f l' p =
        let y : left - 1 - 1 ≡ left - 2 = omega arith in
        let z : at + 1 + 1 ≡ at + 2 = omega arith in
        further left at s b (prefixed b' f) n h e l (further (left - 1) (at + 1) s b' f (not_last left n m) h' e' l' (rw (y, z) p))

pub ruleset steps = (none_left, no_byte, last, one_left, one_byte, second-last, second-further)
