-- A number's groups read to it, and no other bytes do.
use mathlib.Core.Path.{◌≡◌, refl, ap, subst}
use Prim.Native.Nat.{ℕ, zero, suc, ◌+◌, ◌*◌, ◌/◌, ◌%◌, ◌<◌}
use native.Mathlib.Omega.{arith}
use mathlib.Core.List.{List, [], ◌∷◌, ◌++◌}
use mathlib.Core.Bool.{Bool, true, false, cond}
use lib.Dec.{ltb}
use lib.ListN.{length}
use borrow.Author.Tests.{ltb-false, lt-ltb, le-ltb, ne_eqb}
use Rattle.base.specs.Lists.{Bytes}
use Rattle.numbers.specs.Groups.{found, done, prefixed, number_from, groups_of, Starts, OneForm, too_great}
use Rattle.numbers.proofs.Enough.{top, more-is, below, Refused, number-refused}

starts : (k at : ℕ) (s : List ℕ) (a v n : ℕ) → v < top k → Bytes s → number_from at s ≡ found a v n → Starts (suc k) at s v n
unfolding number_from groups_of top
starts k at [] a v n l f h = let z : ◌≡◌ {A = ℕ} 0 1 = cc in absurd (omega arith)
starts zero at (b ∷ s) a v n l f h = go (ltb b 128) refl h
  where
    go : (t : Bool) → ltb b 128 ≡ t → cond t (found done b (at + 1)) (prefixed b (number_from (at + 1) s)) ≡ found a v n → Starts 1 at (b ∷ s) v n
    go true p h = let e : b ≡ v = cc in let m : at + 1 ≡ n = cc in (s, rw (← e, p), rw (← e, p, ← m))
    go false p h = let m = more-is b (number_from (at + 1) s) a v n h in absurd (omega (arith, m.2, m.4))
starts (suc k) at (b ∷ s) a v n l f h = go (λ w g e. starts k (at + 1) s a w n g (λ i. f (suc i)) e) (ltb b 128) refl h
  where
    go : ((w : ℕ) → w < top k → number_from (at + 1) s ≡ found a w n → Starts (suc k) (at + 1) s w n) → (t : Bool) → ltb b 128 ≡ t
        → cond t (found done b (at + 1)) (prefixed b (number_from (at + 1) s)) ≡ found a v n → Starts (suc (suc k)) at (b ∷ s) v n
    go ih true p h = let e : b ≡ v = cc in let m : at + 1 ≡ n = cc in (s, rw (← e, p), rw (← e, p, ← m))
    go ih false p h =
        let m = more-is b (number_from (at + 1) s) a v n h in
        let r = ih m.0 (omega (arith, l, m.4)) m.1 in
        let low : b < 256 = f 0 in
        let high = ltb-false b 128 p in
        let q : v / 128 ≡ m.0 = omega (arith, m.4) in
        let o : v % 128 + 128 ≡ b = omega (arith, m.4, low, high) in
        let t : ltb v 128 ≡ false = le-ltb v 128 (omega (arith, m.4, m.2)) in
        (r.0, rw (t, o, q) (ap (λ x. b ∷ x) r.1), rw (t, q) (omega (arith, r.2)))

-- the only bytes that read to a number are its groups
only-its-groups : (at : ℕ) (s : List ℕ) (a v n : ℕ) → Bytes s → number_from at s ≡ found a v n
    → Starts 10 at s v n
unfolding top
only-its-groups at s a v n f h = starts 9 at s a v n (omega (arith, below at s a v n h)) f h

reads : (k at v : ℕ) (rest : List ℕ) → v < top k → v < too_great → number_from at (groups_of (suc k) v ++ rest) ≡ found done v (at + length (groups_of (suc k) v))
unfolding number_from groups_of top
reads zero at v rest l f = rw (lt-ltb v 128 l, lt-ltb v 128 l)
reads (suc k) at v rest l f = go (reads k (at + 1) (v / 128) rest (omega (arith, l)) (omega (arith, f))) (ltb v 128) refl
  where
    go : number_from (at + 1) (groups_of (suc k) (v / 128) ++ rest) ≡ found done (v / 128) (at + 1 + length (groups_of (suc k) (v / 128))) → (t : Bool) → ltb v 128 ≡ t
        → number_from at (cond t (v ∷ []) ((v % 128 + 128) ∷ groups_of (suc k) (v / 128)) ++ rest)
        ≡ found done v (at + length (cond t (v ∷ []) ((v % 128 + 128) ∷ groups_of (suc k) (v / 128))))
    go ih true p = rw p
    go ih false p =
        let high = ltb-false v 128 p in
        let b : ltb (v % 128 + 128) 128 ≡ false = le-ltb (v % 128 + 128) 128 (omega arith) in
        let z = ne_eqb (v / 128) 0 (λ e. omega (arith, e, high)) in
        let y = lt-ltb ((v % 128 + 128) % 128 + 128 * (v / 128)) too_great (omega (arith, f)) in
        let w : (v % 128 + 128) % 128 + 128 * (v / 128) ≡ v = omega arith in
        let n : at + 1 + length (groups_of (suc k) (v / 128)) ≡ at + suc (length (groups_of (suc k) (v / 128))) = omega arith in
        rw (b, ih, z, y, w, n)

-- a number's groups read to it, whatever follows them
its-groups-read : (at v : ℕ) (rest : List ℕ) → v < too_great
    → number_from at (groups_of 10 v ++ rest) ≡ found done v (at + length (groups_of 10 v))
unfolding top
its-groups-read at v rest f = reads 9 at v rest (omega (arith, f)) f

-- a number that is read is below 2^64, and done
pub number-done : (at : ℕ) (s : List ℕ) (a v n : ℕ) → number_from at s ≡ found a v n → a ≡ done
unfolding number_from
number-done at [] a v n h = let z : ◌≡◌ {A = ℕ} 0 1 = cc in absurd (omega arith)
number-done at (b ∷ s) a v n h = go (ltb b 128) h (λ w e. number-done (at + 1) s a w n e)
  where
    go : (t : Bool) → cond t (found done b (at + 1)) (prefixed b (number_from (at + 1) s)) ≡ found a v n
        → ((w : ℕ) → number_from (at + 1) s ≡ found a w n → a ≡ done) → a ≡ done
    go true h ih = cc
    go false h ih = let m = more-is b (number_from (at + 1) s) a v n h in ih m.0 m.1

pub one_form : OneForm
one_form = record {
  its-groups = its-groups-read;
  no_other = only-its-groups;
  within = λ at s a v n h. (below at s a v n h, number-done at s a v n h);
  refused = λ at s a h. subst Refused h (number-refused at s);
}
