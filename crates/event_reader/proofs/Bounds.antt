-- A number ends after the place at which it starts, and within the script.
use mathlib.Core.Path.{◌≡◌, refl}
use Prim.Native.Nat.{ℕ, suc, ◌+◌, ◌*◌, ◌%◌, ◌≤◌}
use native.Mathlib.Omega.{arith}
use mathlib.Core.List.{List, [], ◌∷◌}
use mathlib.Core.Bool.{Bool, true, false}
use lib.Dec.{eqb, ltb}
use lib.ListN.{length, drop, drop_of_length-le, length-drop}
use borrow.Author.Tests.{ltb-true, ltb-false}
use Rattle.base.proofs.Cases.{cond_both}
use Rattle.numbers.specs.Groups.{done, bad_script, Found, found, none, prefixed, number_from, number_at, too_great}

-- what was found ends between two places
abbrev pub NumberIn : ℕ → ℕ → Found → Type 0
NumberIn a z (found answer v n) = (a ≤ n) × (n ≤ z)
NumberIn a z (none answer) = Unit {0}

-- a number takes at least one byte

prefix-from : (a z b : ℕ) (f : Found) → NumberIn a z f → NumberIn a z (prefixed b f)
prefix-from a z b (found answer v n) h =
    cond_both (NumberIn a z) (eqb v 0) (none bad_script) _ tt (cond_both (NumberIn a z) (ltb (b % 128 + 128 * v) too_great) (found answer (b % 128 + 128 * v) n) (none bad_script) h tt)
prefix-from a z b (none answer) h = tt

number-later : (a b y z : ℕ) (f : Found) → a ≤ b → y ≤ z → NumberIn b y f → NumberIn a z f
number-later a b y z (found answer v n) h l k = (omega (arith, h, k.0), omega (arith, l, k.1))
number-later a b y z (none answer) h l k = tt

number_past : (at : ℕ) (bytes : List ℕ) → NumberIn (at + 1) (at + length bytes) (number_from at bytes)
unfolding number_from
number_past at [] = tt
number_past at (b ∷ bytes) =
    cond_both (NumberIn (at + 1) (at + suc (length bytes))) (ltb b 128) (found done b (at + 1)) _ (omega arith, omega arith)
    (prefix-from (at + 1) (at + suc (length bytes)) b (number_from (at + 1) bytes)
    (number-later (at + 1) (at + 1 + 1) (at + 1 + length bytes) (at + suc (length bytes)) (number_from (at + 1) bytes) (omega arith) (omega arith)
    (number_past (at + 1) bytes)))

pub number-at : (s : List ℕ) (at : ℕ) → NumberIn (at + 1) (length s) (number_at s at)
unfolding number_from
number-at s at = go (ltb (length s) at) refl
  where
    go : (t : Bool) → ltb (length s) at ≡ t → NumberIn (at + 1) (length s) (number_at s at)
    go true p = let h = ltb-true (length s) at p in let l : length s ≤ at = omega (arith, h) in rw (drop_of_length-le s l) tt
    go false p =
        let h = ltb-false (length s) at p in
        number-later (at + 1) (at + 1) (at + length (drop at s)) (length s) (number_at s at) (omega arith) (omega (arith, h, length-drop at s)) (number_past at (drop at s))

pub number-here : (s : List ℕ) (at : ℕ) → NumberIn at (length s) (number_at s at)
number-here s at = number-later at (at + 1) (length s) (length s) (number_at s at) (omega arith) (omega arith) (number-at s at)
