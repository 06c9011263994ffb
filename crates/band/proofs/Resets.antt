-- The types of resets and the sets of them: the record `ResetTypes`.
use Prim.Native.Nat.{ℕ, zero, suc, ◌+◌, ◌≤◌, ◌<◌}
use mathlib.Core.Path.{◌≡◌, refl, sym, ap, ◌∙◌}
use native.Mathlib.Omega.{arith}
use mathlib.Core.Bool.{Bool, true, false, ◌&&◌}
use lib.Dec.{eqb}
use borrow.Author.Tests.{ne_eqb, eqb-true, eqb-false}
use Rattle.base.proofs.Cases.{and_left, and_right}
use Rattle.band.specs.Rows.{fresh_row, last_reset_type, reset_bit, all_resets, in_set}
use Rattle.band.specs.Resets.{bit_if, set_of, ResetTypes}
use Rattle.band.proofs.Settling.{past-types}

-- a test that every number below n passes
abbrev passed : (ℕ → Bool) → ℕ → Bool
passed test zero = true
passed test (suc n) = test n && passed test n

below : (test : ℕ → Bool) (n : ℕ) → passed test n ≡ true → (k : ℕ) → k < n → test k ≡ true
below test zero h k l = absurd (omega (arith, l))
below test (suc n) h k l = go (λ m. below test n (and_right (test n) _ h) k m) (eqb k n) refl
  where
    go : (k < n → test k ≡ true) → (b : Bool) → eqb k n ≡ b → test k ≡ true
    go lower true e = ap test (eqb-true k n e) ∙ and_left (test n) _ h
    go lower false e = lower (omega (arith, l, eqb-false k n e))

-- each set is the set of its types: the sixteen sets, one by one
as_bits : (set : ℕ) → set ≤ all_resets → set_of (in_set set) ≡ set
as_bits set h = eqb-true _ _ (below (λ n. eqb (set_of (in_set n)) n) 16 refl set (omega (arith, h)))

-- the set of four choices
abbrev choice : (a b c d : Bool) → ℕ
choice a b c d = bit_if a 0 + (bit_if b 1 + (bit_if c 2 + bit_if d 3))

-- it has each type that is chosen, and no other
abbrev Four : (a b c d : Bool) → Type 0
Four a b c d = (in_set (choice a b c d) 0 ≡ a) × (in_set (choice a b c d) 1 ≡ b) × (in_set (choice a b c d) 2 ≡ c) × (in_set (choice a b c d) 3 ≡ d)

four : (a b c d : Bool) → Four a b c d
four true true true true = (refl, refl, refl, refl)
four true true true false = (refl, refl, refl, refl)
four true true false true = (refl, refl, refl, refl)
four true true false false = (refl, refl, refl, refl)
four true false true true = (refl, refl, refl, refl)
four true false true false = (refl, refl, refl, refl)
four true false false true = (refl, refl, refl, refl)
four true false false false = (refl, refl, refl, refl)
four false true true true = (refl, refl, refl, refl)
four false true true false = (refl, refl, refl, refl)
four false true false true = (refl, refl, refl, refl)
four false true false false = (refl, refl, refl, refl)
four false false true true = (refl, refl, refl, refl)
four false false true false = (refl, refl, refl, refl)
four false false false true = (refl, refl, refl, refl)
four false false false false = (refl, refl, refl, refl)

has : (chosen : ℕ → Bool) (type : ℕ) → type ≤ last_reset_type → in_set (set_of chosen) type ≡ chosen type
has chosen zero h = (four (chosen 0) (chosen 1) (chosen 2) (chosen 3)).0
has chosen (suc zero) h = (four (chosen 0) (chosen 1) (chosen 2) (chosen 3)).1
has chosen (suc (suc zero)) h = (four (chosen 0) (chosen 1) (chosen 2) (chosen 3)).2
has chosen (suc (suc (suc zero))) h = (four (chosen 0) (chosen 1) (chosen 2) (chosen 3)).3
has chosen (suc (suc (suc (suc type)))) h = absurd (omega (arith, h))

-- a type that is chosen adds its bit, or nothing
at_most : (chosen : Bool) (type : ℕ) → bit_if chosen type ≤ reset_bit type
at_most true type = omega arith
at_most false type = omega arith

in-range : (chosen : ℕ → Bool) → set_of chosen ≤ all_resets
in-range chosen = omega (arith, at_most (chosen 0) 0, at_most (chosen 1) 1, at_most (chosen 2) 2, at_most (chosen 3) 3)

fresh : (type : ℕ) → in_set fresh_row.lock_on_reset type ≡ eqb type 0
unfolding fresh_row
fresh zero = refl
fresh (suc zero) = refl
fresh (suc (suc zero)) = refl
fresh (suc (suc (suc zero))) = refl
fresh (suc (suc (suc (suc type)))) = sym (ne_eqb (suc (suc (suc (suc type)))) 0 (λ e. omega (arith, e)))

pub reset-types : ResetTypes
reset-types = record {
  last = refl;
  power-cycle = refl;
  hardware = refl;
  hot-plug = refl;
  programmatic = refl;
  greatest = refl;
  in-range = in-range;
  has = has;
  as_bits = as_bits;
  no_other = λ set type h. sym (past-types set type h);
  fresh = fresh;
}
