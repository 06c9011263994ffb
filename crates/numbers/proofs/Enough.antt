-- Ten groups hold every number below 2^64: reading at most ten is reading with no bound on the groups.
use mathlib.Core.Path.{◌≡◌, refl, sym, ap, ◌∙◌}
use Prim.Native.Nat.{ℕ, zero, suc, ◌+◌, ◌*◌, ◌%◌, ◌<◌}
use native.Mathlib.Omega.{arith}
use mathlib.Core.List.{List, [], ◌∷◌}
use mathlib.Core.Bool.{Bool, true, false, cond}
use lib.Dec.{ltb, eqb}
use borrow.Author.Tests.{ltb-true, eqb-false}
use Rattle.base.proofs.Cases.{cond_both}
use Rattle.numbers.specs.Groups.{Found, found, none, done, bad_script, prefixed, number_from, too_great}
use Rattle.numbers.specs.Parts.{groups_from}

-- 128 to the power of k + 1
unfoldable pub top : ℕ → ℕ
top zero = 128
top (suc k) = 128 * top k

-- what a further group says: the rest's number, which is not 0 and is below 2^57
pub more-is : (b : ℕ) (r : Found) (a v n : ℕ) → prefixed b r ≡ found a v n
    → (w : ℕ) × (r ≡ found a w n) × (0 < w) × (w < 144115188075855872) × (v ≡ b % 128 + 128 * w)
more-is b (none c) a v n h = let z : ◌≡◌ {A = ℕ} 0 1 = cc in absurd (omega arith)
more-is b (found c w m) a v n h = go (eqb w 0) refl (ltb (b % 128 + 128 * w) too_great) refl h
  where
    go : (t : Bool) → eqb w 0 ≡ t → (u : Bool) → ltb (b % 128 + 128 * w) too_great ≡ u
        → cond t (none bad_script) (cond u (found c (b % 128 + 128 * w) m) (none bad_script)) ≡ found a v n
        → (x : ℕ) × (found c w m ≡ found a x n) × (0 < x) × (x < 144115188075855872) × (v ≡ b % 128 + 128 * x)
    go true p u q h = let z : ◌≡◌ {A = ℕ} 0 1 = cc in absurd (omega arith)
    go false p true q h = (w, cc, go-pos w (eqb-false w 0 p), omega (arith, ltb-true (b % 128 + 128 * w) too_great q), cc)
      where
        go-pos : (x : ℕ) → (x ≡ 0 → ⊥) → 0 < x
        go-pos zero f = absurd (f refl)
        go-pos (suc x) f = omega arith
    go false p false q h = let z : ◌≡◌ {A = ℕ} 0 1 = cc in absurd (omega arith)

pub below : (at : ℕ) (s : List ℕ) (a v n : ℕ) → number_from at s ≡ found a v n → v < too_great
unfolding number_from
below at [] a v n h = let z : ◌≡◌ {A = ℕ} 0 1 = cc in absurd (omega arith)
below at (b ∷ s) a v n h = go (ltb b 128) refl h
  where
    go : (t : Bool) → ltb b 128 ≡ t → cond t (found done b (at + 1)) (prefixed b (number_from (at + 1) s)) ≡ found a v n → v < too_great
    go true p h = let e : b ≡ v = cc in let l : b < 128 = ltb-true b 128 p in omega arith
    go false p h = let m = more-is b (number_from (at + 1) s) a v n h in omega (arith, m.3, m.4)

-- a number below 128 ^ (k + 1) is read in k + 1 groups
within : (k at : ℕ) (s : List ℕ) (a v n : ℕ) → v < top k → number_from at s ≡ found a v n → groups_from (suc k) at s ≡ found a v n
unfolding number_from groups_from top
within k at [] a v n l h = let z : ◌≡◌ {A = ℕ} 0 1 = cc in absurd (omega arith)
within zero at (b ∷ s) a v n l h = go (ltb b 128) h
  where
    go : (t : Bool) → cond t (found done b (at + 1)) (prefixed b (number_from (at + 1) s)) ≡ found a v n → cond t (found done b (at + 1)) (prefixed b (none bad_script)) ≡ found a v n
    go true h = h
    go false h = let m = more-is b (number_from (at + 1) s) a v n h in absurd (omega (arith, m.2, m.4))
within (suc k) at (b ∷ s) a v n l h = go (λ w g e. within k (at + 1) s a w n g e) (ltb b 128) h
  where
    go : ((w : ℕ) → w < top k → number_from (at + 1) s ≡ found a w n → groups_from (suc k) (at + 1) s ≡ found a w n) → (t : Bool)
        → cond t (found done b (at + 1)) (prefixed b (number_from (at + 1) s)) ≡ found a v n → cond t (found done b (at + 1)) (prefixed b (groups_from (suc k) (at + 1) s)) ≡ found a v n
    go ih true h = h
    go ih false h =
        let m = more-is b (number_from (at + 1) s) a v n h in
        let e : groups_from (suc k) (at + 1) s ≡ found a m.0 n = ih m.0 (omega (arith, l, m.4)) m.1 in
        ap (prefixed b) (e ∙ sym m.1) ∙ h

-- what is read in so many groups is read
sound : (k at : ℕ) (s : List ℕ) (a v n : ℕ) → groups_from k at s ≡ found a v n → number_from at s ≡ found a v n
unfolding number_from groups_from
sound zero at s a v n h = let z : ◌≡◌ {A = ℕ} 0 1 = cc in absurd (omega arith)
sound (suc k) at [] a v n h = h
sound (suc k) at (b ∷ s) a v n h = go (λ w e. sound k (at + 1) s a w n e) (ltb b 128) h
  where
    go : ((w : ℕ) → groups_from k (at + 1) s ≡ found a w n → number_from (at + 1) s ≡ found a w n) → (t : Bool)
        → cond t (found done b (at + 1)) (prefixed b (groups_from k (at + 1) s)) ≡ found a v n → cond t (found done b (at + 1)) (prefixed b (number_from (at + 1) s)) ≡ found a v n
    go ih true h = h
    go ih false h =
        let m = more-is b (groups_from k (at + 1) s) a v n h in
        ap (prefixed b) (ih m.0 m.1 ∙ sym m.1) ∙ h

-- what does not read is a bad script
abbrev pub Refused : Found → Type 0
Refused (found a v n) = Unit {0}
Refused (none a) = a ≡ bad_script

prefixed-refused : (b : ℕ) (f : Found) → Refused f → Refused (prefixed b f)
prefixed-refused b (found a v n) h =
    cond_both Refused (eqb v 0) (none bad_script) _ refl
    (cond_both Refused (ltb (b % 128 + 128 * v) too_great) (found a (b % 128 + 128 * v) n) (none bad_script) tt refl)
prefixed-refused b (none a) h = h

pub number-refused : (at : ℕ) (s : List ℕ) → Refused (number_from at s)
unfolding number_from
number-refused at [] = refl
number-refused at (b ∷ s) =
    cond_both Refused (ltb b 128) (found done b (at + 1)) _ tt (prefixed-refused b (number_from (at + 1) s) (number-refused (at + 1) s))

groups-refused : (k at : ℕ) (s : List ℕ) → Refused (groups_from k at s)
unfolding groups_from
groups-refused zero at s = refl
groups-refused (suc k) at [] = refl
groups-refused (suc k) at (b ∷ s) =
    cond_both Refused (ltb b 128) (found done b (at + 1)) _ tt (prefixed-refused b (groups_from k (at + 1) s) (groups-refused k (at + 1) s))

pub ten : (at : ℕ) (s : List ℕ) → groups_from 10 at s ≡ number_from at s
unfolding top
ten at s = go (groups_from 10 at s) refl (groups-refused 10 at s) (number_from at s) refl (number-refused at s)
  where
    go : (g : Found) → groups_from 10 at s ≡ g → Refused g → (o : Found) → number_from at s ≡ o → Refused o → g ≡ o
    go (found a v n) p h o q k = sym (sound 10 at s a v n p) ∙ q
    go (none a) p h (none c) q k = ap none (h ∙ sym k)
    go (none a) p h (found c v n) q k = sym p ∙ within 9 at s c v n (omega (arith, below at s c v n q)) q
