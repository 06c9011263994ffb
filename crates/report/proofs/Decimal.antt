-- Laws of the decimal digits of a number.
use mathlib.Core.Path.{◌≡◌, refl, sym, ap, ◌∙◌}
use Prim.Native.Nat.{ℕ, zero, suc, ◌+◌, ◌-◌, ◌*◌, ◌/◌, ◌%◌, ◌^◌, ◌≤◌, ◌<◌}
use native.Mathlib.Omega.{arith}
use mathlib.Core.Bool.{Bool, true, false, cond}
use mathlib.Core.List.{List, [], ◌∷◌, ◌++◌}
use lib.Dec.{ltb}
use lib.ListN.{length, get_or, length-append}
use borrow.Author.Tests.{lt-ltb, le-ltb, ltb-true, ltb-false}
use Rattle.std.specs.Fmt.{decimal as text}
use Rattle.std.proofs.lemmas.Fmt.{decimal_by_steps}
use Rattle.report.specs.Lines.{digits, decimal}
use Rattle.report.specs.Decimal.{Digit, said, InDecimal}

-- room for more digits than there are changes nothing
enough : (k m n : ℕ) → n < k → n < m → digits k n ≡ digits m n
unfolding digits
enough zero m n h g = absurd (omega (arith, h))
enough (suc k) zero n h g = absurd (omega (arith, g))
enough (suc k) (suc m) n h g = go (enough k m (n / 10)) (ltb n 10) refl
  where
    go : (n / 10 < k → n / 10 < m → digits k (n / 10) ≡ digits m (n / 10)) → (t : Bool) → ltb n 10 ≡ t
        → cond t ((48 + n) ∷ []) (digits k (n / 10) ++ ((48 + n % 10) ∷ [])) ≡ cond t ((48 + n) ∷ []) (digits m (n / 10) ++ ((48 + n % 10) ∷ []))
    go ih true p = refl
    go ih false p =
        let l = ltb-false n 10 p in
        ap (λ (r : List ℕ). r ++ ((48 + n % 10) ∷ [])) (ih (omega (arith, h, l)) (omega (arith, g, l)))

pub decimal-one : (n : ℕ) → n < 10 → decimal n ≡ (48 + n) ∷ []
unfolding decimal digits
decimal-one n h = rw (lt-ltb n 10 h)

pub decimal-more : (n : ℕ) → 10 ≤ n → decimal n ≡ decimal (n / 10) ++ ((48 + n % 10) ∷ [])
unfolding decimal digits
decimal-more n h =
    let e : digits n (n / 10) ≡ digits (suc (n / 10)) (n / 10) = enough n (suc (n / 10)) (n / 10) (omega (arith, h)) (omega arith) in
    rw (le-ltb n 10 h) (ap (λ (r : List ℕ). r ++ ((48 + n % 10) ∷ [])) e)

-- what the library prints
pub decimal_text : (n : ℕ) → n < 2 ^ 64 → text n ≡ decimal n
decimal_text n h = decimal_by_steps (λ n l. l ≡ decimal n) (λ n k. sym (decimal-one n k)) (λ n l k e. rw e (sym (decimal-more n k))) n h

-- ---- how many digits

abbrev pub tens : ℕ → ℕ
tens zero = 10
tens (suc k) = 10 * tens k

few : (m k n : ℕ) → n < tens k → length (digits m n) ≤ suc k
unfolding digits
few zero k n h = omega arith
few (suc m) k n h = go k h (few m) (ltb n 10) refl
  where
    go : (k : ℕ) → n < tens k → ((k n : ℕ) → n < tens k → length (digits m n) ≤ suc k) → (t : Bool) → ltb n 10 ≡ t
        → length (cond t ((48 + n) ∷ []) (digits m (n / 10) ++ ((48 + n % 10) ∷ []))) ≤ suc k
    go k h ih true p = omega arith
    go zero h ih false p = absurd (omega (arith, h, ltb-false n 10 p))
    go (suc k) h ih false p = omega (arith, length-append (digits m (n / 10)) ((48 + n % 10) ∷ []), ih k (n / 10) (omega (arith, h)))

-- a number below a power of ten
pub few-digits : (k n : ℕ) → n < tens k → length (decimal n) ≤ suc k
unfolding decimal
few-digits k n h = few (suc n) k n h

-- ---- what the digits say

said-both : (a : ℕ) (x y : List ℕ) → said a (x ++ y) ≡ said (said a x) y
said-both a [] y = refl
said-both a (b ∷ x) y = said-both (10 * a + (b - 48)) x y

digits-said : (k n : ℕ) → n < k → said 0 (digits k n) ≡ n
unfolding digits
digits-said zero n h = absurd (omega (arith, h))
digits-said (suc k) n h = go (digits-said k (n / 10)) (ltb n 10) refl
  where
    go : (n / 10 < k → said 0 (digits k (n / 10)) ≡ n / 10) → (t : Bool) → ltb n 10 ≡ t
        → said 0 (cond t ((48 + n) ∷ []) (digits k (n / 10) ++ ((48 + n % 10) ∷ []))) ≡ n
    go ih true p = omega arith
    go ih false p =
        let l = ltb-false n 10 p in
        let e = ih (omega (arith, h, l)) in
        said-both 0 (digits k (n / 10)) ((48 + n % 10) ∷ []) ∙ omega (arith, e)

-- every byte is a digit
digits_are : (k n i : ℕ) → i < length (digits k n) → Digit (get_or (digits k n) i 0)
unfolding digits
digits_are zero n i h = absurd (omega (arith, h))
digits_are (suc k) n i h = go (digits_are k (n / 10)) (ltb n 10) refl i h
  where
    one : (b i : ℕ) → Digit b → i < 1 → Digit (get_or (b ∷ []) i 0)
    one b zero d h = d
    one b (suc i) d h = absurd (omega (arith, h))

    both : (x : List ℕ) (b i : ℕ) → ((i : ℕ) → i < length x → Digit (get_or x i 0)) → Digit b → i < length (x ++ (b ∷ [])) → Digit (get_or (x ++ (b ∷ [])) i 0)
    both [] b i f d h = one b i d h
    both (a ∷ x) b zero f d h = f 0 (omega arith)
    both (a ∷ x) b (suc i) f d h = both x b i (λ j k. f (suc j) (omega (arith, k))) d (omega (arith, h))

    go : ((i : ℕ) → i < length (digits k (n / 10)) → Digit (get_or (digits k (n / 10)) i 0)) → (t : Bool) → ltb n 10 ≡ t → (i : ℕ)
        → i < length (cond t ((48 + n) ∷ []) (digits k (n / 10) ++ ((48 + n % 10) ∷ [])))
        → Digit (get_or (cond t ((48 + n) ∷ []) (digits k (n / 10) ++ ((48 + n % 10) ∷ []))) i 0)
    go ih true p i h = one (48 + n) i (record { low = omega arith; high = omega (arith, ltb-true n 10 p) }) h
    go ih false p i h = both (digits k (n / 10)) (48 + n % 10) i ih (record { low = omega arith; high = omega arith }) h

-- only 0 begins with a 0

some : (k n : ℕ) → n < k → 0 < length (digits k n)
unfolding digits
some zero n h = absurd (omega (arith, h))
some (suc k) n h = go (ltb n 10)
  where
    go : (t : Bool) → 0 < length (cond t ((48 + n) ∷ []) (digits k (n / 10) ++ ((48 + n % 10) ∷ [])))
    go true = omega arith
    go false = omega (arith, length-append (digits k (n / 10)) ((48 + n % 10) ∷ []))

digits-first : (k n : ℕ) → n < k → get_or (digits k n) 0 0 ≡ 48 → n ≡ 0
unfolding digits
digits-first zero n h e = absurd (omega (arith, h))
digits-first (suc k) n h e = go (digits-first k (n / 10)) (ltb n 10) refl e
  where
    first : (x : List ℕ) (b : ℕ) → (get_or x 0 0 ≡ 48 → n / 10 ≡ 0) → 10 ≤ n → 0 < length x → get_or (x ++ (b ∷ [])) 0 0 ≡ 48 → n ≡ 0
    first [] b ih l s e = absurd (omega (arith, s))
    first (a ∷ x) b ih l s e = absurd (omega (arith, l, ih e))

    go : (n / 10 < k → get_or (digits k (n / 10)) 0 0 ≡ 48 → n / 10 ≡ 0) → (t : Bool) → ltb n 10 ≡ t
        → get_or (cond t ((48 + n) ∷ []) (digits k (n / 10) ++ ((48 + n % 10) ∷ []))) 0 0 ≡ 48 → n ≡ 0
    go ih true p e = omega (arith, e)
    go ih false p e =
        let l = ltb-false n 10 p in
        let m : n / 10 < k = omega (arith, h, l) in
        first (digits k (n / 10)) (48 + n % 10) (ih m) l (some k (n / 10) m) e

pub in-decimal : InDecimal
unfolding decimal
in-decimal = record {
  says = λ n. digits-said (suc n) n (omega arith);
  of-digits = λ n i h. digits_are (suc n) n i h;
  no-leading-zero = λ n e. digits-first (suc n) n (omega arith) e;
}
