-- Laws of the rows of a table: which exist, and one of them changed.
use mathlib.Core.Path.{◌≡◌, refl, sym, ap, ◌∙◌}
use mathlib.Core.Logic.{◌≢◌}
use Prim.Native.Nat.{ℕ, zero, suc, ◌<◌, ◌≤◌}
use native.Mathlib.Omega.{arith}
use mathlib.Core.Bool.{Bool, true, false, ◌&&◌, false≢true}
use mathlib.Core.List.{List, [], ◌∷◌, map}
use lib.Dec.{ltb}
use lib.ListN.{length, get_or, set}
use borrow.Author.Tests.{lt-ltb, le-ltb, ltb-true}
use Rattle.base.specs.Rows.{is_row, modify, Takes}
use Rattle.base.proofs.Cases.{and_yes, and_no, and_left, and_right}

and_last : (a b : Bool) → b ≡ false → (a && b) ≡ false
and_last true b e = e
and_last false b e = refl

pub not-counted : (count i : ℕ) → count ≤ i → is_row count i ≡ false
not-counted count i h = sym (and_no _ _ (le-ltb _ _ h))

pub no_room : (count i : ℕ) → 16 ≤ i → is_row count i ≡ false
no_room count i h = and_last (ltb i count) (ltb i 16) (le-ltb _ _ h)

pub is-row : (count i : ℕ) → i < count → i < 16 → is_row count i ≡ true
is-row count i h k = sym (and_yes _ _ _ (lt-ltb _ _ h) (sym (lt-ltb _ _ k)))

pub row_is : (count i : ℕ) → is_row count i ≡ true → (i < count) × (i < 16)
row_is count i e = (ltb-true i count (and_left (ltb i count) (ltb i 16) e), ltb-true i 16 (and_right (ltb i count) (ltb i 16) e))

-- a read and a store at one place: the default of the read does not matter
pub modify-set : {A : Type 0} (f : A → A) (l : List A) (i : ℕ) (d v : A) → v ≡ f (get_or l i d) → i < length l → set l i v ≡ modify f i l
modify-set f [] i d v q h = absurd (omega arith)
modify-set f (x ∷ l) zero d v q h = ap {B = List _} (λ t. t ∷ l) q
modify-set f (x ∷ l) (suc i) d v q h = ap {B = List _} (λ t. x ∷ t) (modify-set f l i d v q (omega arith))

-- an element that exists does not depend on the default
pub get_d_any : {A : Type 0} (l : List A) (i : ℕ) (d e : A) → i < length l → get_or l i d ≡ get_or l i e
get_d_any [] i d e h = absurd (omega arith)
get_d_any (x ∷ l) zero d e h = refl
get_d_any (x ∷ l) (suc i) d e h = get_d_any l i d e (omega arith)

-- an element as the code takes it, and what stands for one past the last
pub taken : {A : Type 0} (l : List A) (i : ℕ) (y z : A) → length l ≡ 16 → i < 16 → Takes l i z (get_or l i y)
taken l i y z e h = record { long = e; element = get_d_any l i y z (omega arith) }

-- two numbers that a test tells apart
pub apart : (p : ℕ → Bool) (m n : ℕ) → p m ≡ true → p n ≡ false → m ≢ n
apart p m n s t e = false≢true (sym t ∙ ap p (sym e) ∙ s)

-- ---- an element of a list of which one was changed

-- one element changed, in two lists of one length that agree at j
pub modify-agree : {A : Type 0} (f : A → A) (z : A) (l m : List A) → length l ≡ length m → (i j : ℕ) → get_or l j z ≡ get_or m j z
    → get_or (modify f i l) j z ≡ get_or (modify f i m) j z
modify-agree f z [] [] e i j h = refl
modify-agree f z [] (y ∷ m) e i j h = absurd (omega arith)
modify-agree f z (x ∷ l) [] e i j h = absurd (omega arith)
modify-agree f z (x ∷ l) (y ∷ m) e zero zero h = ap f h
modify-agree f z (x ∷ l) (y ∷ m) e zero (suc j) h = h
modify-agree f z (x ∷ l) (y ∷ m) e (suc i) zero h = h
modify-agree f z (x ∷ l) (y ∷ m) e (suc i) (suc j) h = modify-agree f z l m (omega arith) i j h

pub modify-other : {A : Type 0} (f : A → A) (z : A) (l : List A) (i j : ℕ) → j ≢ i → get_or (modify f i l) j z ≡ get_or l j z
modify-other f z [] i j n = refl
modify-other f z (x ∷ l) zero zero n = absurd (n refl)
modify-other f z (x ∷ l) zero (suc j) n = refl
modify-other f z (x ∷ l) (suc i) zero n = refl
modify-other f z (x ∷ l) (suc i) (suc j) n = modify-other f z l i j (λ e. n (ap suc e))

pub modify-same : {A : Type 0} (f : A → A) (z : A) (l : List A) (i : ℕ) → i < length l → get_or (modify f i l) i z ≡ f (get_or l i z)
modify-same f z [] i h = absurd (omega arith)
modify-same f z (x ∷ l) zero h = refl
modify-same f z (x ∷ l) (suc i) h = modify-same f z l i (omega arith)

pub modify-keeps : {A : Type 0} (P : A → Type 0) (f : A → A) → ((x : A) → P x → P (f x)) → (z : A) (l : List A) (i j : ℕ) → P (get_or l j z)
    → P (get_or (modify f i l) j z)
modify-keeps P f k z [] i j q = q
modify-keeps P f k z (x ∷ l) zero zero q = k x q
modify-keeps P f k z (x ∷ l) zero (suc j) q = q
modify-keeps P f k z (x ∷ l) (suc i) zero q = q
modify-keeps P f k z (x ∷ l) (suc i) (suc j) q = modify-keeps P f k z l i j q

pub length-modify : {A : Type 0} (f : A → A) (i : ℕ) (l : List A) → length (modify f i l) ≡ length l
length-modify f i [] = refl
length-modify f zero (x ∷ l) = refl
length-modify f (suc i) (x ∷ l) = ap suc (length-modify f i l)

-- what holds of each element, and of what stands for those past the end, holds of each once all are changed
pub map-keeps : {A : Type 0} (P : A → Type 0) (f : A → A) → ((x : A) → P x → P (f x)) → (z : A) (l : List A) (i : ℕ) → P z → P (get_or l i z)
    → P (get_or (map f l) i z)
map-keeps P f k z [] i p q = p
map-keeps P f k z (x ∷ l) zero p q = k x q
map-keeps P f k z (x ∷ l) (suc i) p q = map-keeps P f k z l i p q
