-- How the places of cases follow each other: after a whole case stands the next, and where none is whole, all are counted.
use mathlib.Core.Path.{◌≡◌, refl, sym, ap, ap₂, ◌∙◌}
use mathlib.Core.Bool.{Bool, true, false}
use Prim.Native.Nat.{ℕ, zero, suc, ◌+◌, ◌-◌, ◌<◌}
use native.Mathlib.Nat.{not-suc-le-zero}
use native.Mathlib.Omega.{arith}
use mathlib.Core.List.{List}
use lib.ListN.{length}
use borrow.Author.Tests.{leb-true}
use Rattle.cases.specs.Cases.{size_at, whole_at, next_at, case_place, between, case_of, count_from, case_count, left_over, Placed}

-- the place of the next case is the place after this one
place-next : (s : List ℕ) (n at : ℕ) → case_place s (suc n) at ≡ next_at s (case_place s n at)
unfolding case_place
place-next s zero at = refl
place-next s (suc n) at = place-next s n (next_at s at)

-- the way from case to case, by the places that the code has
pub first_place : (s : List ℕ) → 0 ≡ case_place s 0 0
unfolding case_place
first_place s = refl

pub next_place : (s : List ℕ) (n at next : ℕ) → at ≡ case_place s n 0 → next ≡ next_at s at → next ≡ case_place s (n + 1) 0
next_place s n at next p q = let b : suc n ≡ n + 1 = omega arith in q ∙ ap (next_at s) p ∙ sym (place-next s n 0) ∙ ap (λ (k : ℕ). case_place s k 0) b

-- and the bytes of the case that it ends at
pub case_between : (s : List ℕ) (number at next : ℕ) → at ≡ case_place s number 0 → next ≡ next_at s at → between s at next ≡ case_of s number
case_between s number at next p q = ap (between s at) q ∙ ap (λ (x : ℕ). between s x (next_at s x)) p

-- where a case is whole, one more than follow it
one_more : (s : List ℕ) (most at : ℕ) → 0 < most → whole_at s at ≡ true → count_from s most at ≡ suc (count_from s (most - 1) (next_at s at))
unfolding count_from
one_more s zero at h q = absurd (not-suc-le-zero h)
one_more s (suc most) at h q = let e : suc most - 1 ≡ most = omega arith in rw (q, e) refl

none_more : (s : List ℕ) (most at : ℕ) → whole_at s at ≡ false → count_from s most at ≡ 0
unfolding count_from
none_more s zero at q = refl
none_more s (suc most) at q = rw q refl

pub placed_first : (s : List ℕ) → Placed s 0 0
unfolding case_place
placed_first s = record { within = omega arith; few = omega arith; place = refl; same = let e : length s - 0 ≡ length s = omega arith in rw e (omega arith) }

-- the test and the length are the code's, results of calls
pub placed_next : (s : List ℕ) (at number size : ℕ) (test : Bool) → Placed s at number → test ≡ whole_at s at → test ≡ true → size ≡ size_at s at → Placed s (at + 4 + size) (number + 1)
placed_next s at number size test c t q z =
    let i = sym t ∙ q in
    let w = leb-true (at + 4 + size_at s at) (length s) i in
    let f : at + 4 + size ≡ next_at s at = omega (arith, w, z) in
    let b : number + 1 ≡ suc number = omega arith in
    record {
      within = omega (arith, w, z);
      few = omega (arith, c.few);
      place = ap (λ (k : ℕ). case_place s k 0) b ∙ place-next s number 0 ∙ ap (next_at s) c.place ∙ sym f;
      same =
          let o = one_more s (length s - number) at (omega (arith, w, c.few)) i in
          let l : length s - number - 1 ≡ length s - (number + 1) = omega arith in
          let r : count_from s (length s - (number + 1)) (at + 4 + size) ≡ count_from s (length s - number - 1) (next_at s at) = ap₂ (count_from s) (sym l) f in
          omega (arith, o, r, c.same);
    }

-- where none is whole, so many are there, and the rest is left over
module _ (s : List ℕ) (at number : ℕ) (c : Placed s at number) (q : whole_at s at ≡ false) where
  pub placed_last : number ≡ case_count s
  placed_last = omega (arith, none_more s (length s - number) at q, c.same)

  pub left_last : length s - at ≡ left_over s
  left_last = ap (λ (p : ℕ). length s - p) (sym c.place ∙ ap (λ (n : ℕ). case_place s n 0) placed_last)

  pub none_last : whole_at s (case_place s number 0) ≡ false
  none_last = ap (whole_at s) c.place ∙ q
