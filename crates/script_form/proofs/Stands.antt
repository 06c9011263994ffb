-- Bytes that stand at a place of a script: numbers one after the other, and the values of a Set. What stands there is what reads there.
use mathlib.Core.Path.{◌≡◌, refl, sym, ap, ◌∙◌}
use Prim.Native.Nat.{ℕ, zero, suc, ◌+◌, ◌/◌, ◌≤◌, ◌<◌}
use native.Mathlib.Omega.{arith}
use mathlib.Core.Bool.{Bool, true, false, cond, ◌&&◌, ◌||◌}
use mathlib.Core.List.{List, [], ◌∷◌, ◌++◌, append-nil, append_assoc}
use lib.Dec.{eqb}
use lib.ListN.{length, drop, length-append}
use lib.Seq.{drop-drop, drop-length, drop-append_seam}
use borrow.Author.Tests.{eqb-true, eq-eqb}
use Rattle.base.specs.Lists.{Bytes}
use Rattle.base.specs.Columns.{named}
use Rattle.base.proofs.Bytes.{bytes_drop}
use Rattle.base.proofs.Cases.{and_left, and_right}
use Rattle.numbers.specs.Groups.{done, Found, found, none, onward, number_from, number_at, number_bytes, too_great}
use Rattle.numbers.proofs.Only.{one_form, number-done}
use Rattle.event_reader.specs.Fields.{column_at}
use Rattle.event_form.specs.Form.{numbers_bytes, values_bytes, values_fit, Words}

-- the bytes x stand at a place, and n is the place after them
abbrev pub Stands : List ℕ → ℕ → ℕ → List ℕ → Type 0
Stands s at n x = (drop at s ≡ x ++ drop n s) × (n ≡ at + length x)

-- no bytes stand everywhere
pub nothing : (s : List ℕ) (at : ℕ) → Stands s at at []
nothing s at = (refl, omega arith)

-- bytes one after the other stand as one, and what stands as one is two parts
pub join : (s : List ℕ) (a b c : ℕ) (x y : List ℕ) → Stands s a b x → Stands s b c y → Stands s a c (x ++ y)
join s a b c x y h k =
    (h.0 ∙ ap (λ (r : List ℕ). x ++ r) k.0 ∙ sym (append_assoc x y (drop c s)), omega (arith, h.1, k.1, length-append x y))

pub split : (s : List ℕ) (a c : ℕ) (x y : List ℕ) → Stands s a c (x ++ y) → Stands s a (a + length x) x × Stands s (a + length x) c y
split s a c x y h =
    let e : drop a s ≡ x ++ (y ++ drop c s) = h.0 ∙ append_assoc x y (drop c s) in
    let r : drop (a + length x) s ≡ y ++ drop c s =
    sym (drop-drop (length x) a s) ∙ ap (λ (l : List ℕ). drop (length x) l) e ∙ drop-append_seam x (y ++ drop c s) in
    ((e ∙ ap (λ (l : List ℕ). x ++ l) (sym r), refl), (r, omega (arith, h.1, length-append x y)))

-- a script stands at its own start, and nothing else up to its end
pub itself : (s : List ℕ) → Stands s 0 (length s) s
itself s = (sym (ap (λ (r : List ℕ). s ++ r) (drop-length s) ∙ append-nil s), omega arith)

pub only-itself : (s x : List ℕ) → Stands s 0 (length s) x → s ≡ x
only-itself s x h = h.0 ∙ ap (λ (r : List ℕ). x ++ r) (drop-length s) ∙ append-nil x

-- what stands at the start ends within the script
pub within : (s : List ℕ) (n : ℕ) (x : List ℕ) → Stands s 0 n x → n ≤ length s
within s n x h = omega (arith, h.1, ap length h.0 ∙ length-append x (drop n s))

-- ---- a field, whatever is made of it

-- what holds of a refusal, and of what each number found goes on to, holds of the field
pub on-found : {A : Type 0} (P : A → Type 0) (refuse : ℕ → A) → ((a : ℕ) → P (refuse a)) → (f : Found) (k : ℕ → ℕ → A)
    → ((a v n : ℕ) → f ≡ found a v n → P (k v n)) → P (onward refuse f k)
on-found P refuse z (found a v n) k go = go a v n refl
on-found P refuse z (none a) k go = z a

-- what is found is done
pub done-number : (s : List ℕ) (at a v n : ℕ) → number_at s at ≡ found a v n → number_at s at ≡ found done v n
done-number s at a v n h = h ∙ ap (λ (x : ℕ). found x v n) (number-done at (drop at s) a v n h)

pub done-column : (s : List ℕ) (at mask bit a v n : ℕ) → column_at s at mask bit ≡ found a v n → column_at s at mask bit ≡ found done v n
done-column s at mask bit a v n h = go (named bit mask) h
  where
    go : (t : Bool) → cond t (number_at s at) (found done 0 at) ≡ found a v n → cond t (number_at s at) (found done 0 at) ≡ found done v n
    go true h = done-number s at a v n h
    go false h = let e : a ≡ done = cc in h ∙ ap (λ (x : ℕ). found x v n) e

-- ---- a number

-- a number that is read stands there as its groups
number-stands : (s : List ℕ) → Bytes s → (at v n : ℕ) → number_at s at ≡ found done v n → Stands s at n (number_bytes v) × (v < too_great)
number-stands s b at v n h =
    let o = one_form.no_other at (drop at s) done v n (bytes_drop s at b) h in
    let e : drop n s ≡ o.0 =
    ap (λ (k : ℕ). drop k s) o.2 ∙ sym (drop-drop (length (number_bytes v)) at s)
    ∙ ap (λ (l : List ℕ). drop (length (number_bytes v)) l) o.1 ∙ drop-append_seam (number_bytes v) o.0 in
    ((o.1 ∙ ap (λ (l : List ℕ). number_bytes v ++ l) (sym e), o.2), (one_form.within at (drop at s) done v n h).0)

-- and its groups read to it
number-reads : (s : List ℕ) (at v n : ℕ) → Stands s at n (number_bytes v) → v < too_great → number_at s at ≡ found done v n
number-reads s at v n h l =
    ap (number_from at) h.0 ∙ one_form.its-groups at v (drop n s) l ∙ ap (found done v) (sym h.1)

-- ---- numbers one after the other

-- the numbers read one after the other from a place on, up to the place n
abbrev pub Reads : List ℕ → ℕ → List ℕ → ℕ → Type 0
Reads s at [] n = at ≡ n
Reads s at (v ∷ vs) n = (m : ℕ) × (number_at s at ≡ found done v m) × Reads s m vs n

-- numbers below 2^64: none, and one in front of others
pub no_words : Words []
no_words i = omega arith

pub words-cons : (v : ℕ) (vs : List ℕ) → v < too_great → Words vs → Words (v ∷ vs)
words-cons v vs l w zero = l
words-cons v vs l w (suc i) = w i

-- numbers that read stand there, and those that stand there read
pub numbers-stand : (s : List ℕ) → Bytes s → (at n : ℕ) (vs : List ℕ) → Reads s at vs n → Stands s at n (numbers_bytes vs) × Words vs
unfolding numbers_bytes
numbers-stand s b at n [] h = rw (← h) (nothing s at, no_words)
numbers-stand s b at n (v ∷ vs) h =
    let f = number-stands s b at v h.0 h.1 in
    let r = numbers-stand s b h.0 n vs h.2 in
    (join s at h.0 n (number_bytes v) (numbers_bytes vs) f.0 r.0, words-cons v vs f.1 r.1)

pub numbers-read : (s : List ℕ) (at n : ℕ) (vs : List ℕ) → Stands s at n (numbers_bytes vs) → Words vs → Reads s at vs n
unfolding numbers_bytes
numbers-read s at n [] h w = omega (arith, h.1)
numbers-read s at n (v ∷ vs) h w =
    let p = split s at n (number_bytes v) (numbers_bytes vs) h in
    let m = at + length (number_bytes v) in
    (m, number-reads s at v m p.0 (w 0), numbers-read s m n vs p.1 (λ i. w (suc i)))

-- ---- the values of a Set

-- the values by rising bit, each where the mask names it, up to the place n; no bit of the mask is left
abbrev pub Values : List ℕ → ℕ → ℕ → List ℕ → ℕ → Type 0
Values s at mask [] n = (at ≡ n) × (mask ≡ 0)
Values s at mask (v ∷ vs) n = (m : ℕ) × (column_at s at mask 1 ≡ found done v m) × Values s m (mask / 2) vs n

-- the bytes of a value, named or not
abbrev value_bytes : Bool → ℕ → List ℕ
value_bytes t v = cond t (number_bytes v) []

-- a value that is read stands there if it is named and is 0 if not
column-stands : (s : List ℕ) → Bytes s → (at v n : ℕ) (t : Bool) → cond t (number_at s at) (found done 0 at) ≡ found done v n
    → Stands s at n (value_bytes t v) × ((t || eqb v 0) ≡ true) × (v < too_great)
column-stands s b at v n true h = let r = number-stands s b at v n h in (r.0, refl, r.1)
column-stands s b at v n false h =
    let e : 0 ≡ v = cc in let m : at ≡ n = cc in rw (← e, ← m) (nothing s at, refl, omega arith)

-- and a value like that reads
column-reads : (s : List ℕ) (at v n : ℕ) (t : Bool) → Stands s at n (value_bytes t v) → (t || eqb v 0) ≡ true → v < too_great
    → cond t (number_at s at) (found done 0 at) ≡ found done v n
column-reads s at v n true h f l = number-reads s at v n h l
column-reads s at v n false h f l =
    let e : 0 ≡ v = sym (eqb-true v 0 f) in let m : at ≡ n = omega (arith, h.1) in rw (← e, ← m)

-- two tests that hold hold together
pub and_both : (a b : Bool) → a ≡ true → b ≡ true → (a && b) ≡ true
and_both a b p q = rw (p, q)

-- values that read stand there and fit the mask, and those that fit it and stand there read
pub values-stand : (s : List ℕ) → Bytes s → (at mask n : ℕ) (vs : List ℕ) → Values s at mask vs n
    → Stands s at n (values_bytes mask vs) × (values_fit mask vs ≡ true) × Words vs
unfolding values_bytes values_fit
values-stand s b at mask n [] h = rw (← h.0) (nothing s at, eq-eqb mask 0 h.1, no_words)
values-stand s b at mask n (v ∷ vs) h =
    let f = column-stands s b at v h.0 (named 1 mask) h.1 in
    let r = values-stand s b h.0 (mask / 2) n vs h.2 in (
      join s at h.0 n (value_bytes (named 1 mask) v) (values_bytes (mask / 2) vs) f.0 r.0,
      and_both (named 1 mask || eqb v 0) (values_fit (mask / 2) vs) f.1 r.1,
      words-cons v vs f.2 r.2,
    )

pub values-read : (s : List ℕ) (at mask n : ℕ) (vs : List ℕ) → Stands s at n (values_bytes mask vs) → values_fit mask vs ≡ true → Words vs
    → Values s at mask vs n
unfolding values_bytes values_fit
values-read s at mask n [] h f w = (omega (arith, h.1), eqb-true mask 0 f)
values-read s at mask n (v ∷ vs) h f w =
    let x = value_bytes (named 1 mask) v in
    let p = split s at n x (values_bytes (mask / 2) vs) h in
    let m = at + length x in (
      m,
      column-reads s at v m (named 1 mask) p.0 (and_left (named 1 mask || eqb v 0) (values_fit (mask / 2) vs) f) (w 0),
      values-read s m (mask / 2) n vs p.1 (and_right (named 1 mask || eqb v 0) (values_fit (mask / 2) vs) f) (λ i. w (suc i)),
    )
