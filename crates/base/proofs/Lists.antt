-- Laws of lists that loops over arrays rest on.
use mathlib.Core.Path.{◌≡◌, refl, sym, ap}
use Prim.Native.Nat.{ℕ, zero, suc, ◌+◌, ◌≤◌, ◌<◌}
use native.Mathlib.Numerals.{add-one}
use native.Mathlib.Omega.{arith}
use mathlib.Core.Bool.{Bool, true, false, cond, ◌||◌, false≢true}
use mathlib.Core.List.{List, [], ◌∷◌, map}
use lib.ListN.{length, get_or, set, drop, replicate}
use lib.Seq.{drop-cons}
use Rattle.base.specs.Lists.{one_if, count}

-- f at the first i elements, and the rest as it was
module _ {A : Type 0} (f : A → A) where
  abbrev pub map_to : ℕ → List A → List A
  map_to zero l = l
  map_to (suc i) [] = []
  map_to (suc i) (x ∷ l) = f x ∷ map_to i l

  -- element i is not touched yet
  ahead : (i : ℕ) (l : List A) (d : A) → get_or (map_to i l) i d ≡ get_or l i d
  ahead zero l d = refl
  ahead (suc i) [] d = refl
  ahead (suc i) (x ∷ l) d = ahead i l d

  next : (i : ℕ) (l : List A) (d : A) → set (map_to i l) i (f (get_or l i d)) ≡ map_to (suc i) l
  next zero [] d = refl
  next (suc i) [] d = refl
  next zero (x ∷ l) d = refl
  next (suc i) (x ∷ l) d = ap {B = List A} (λ r. f x ∷ r) (next i l d)

  -- one turn: the value stored is f of the element that was read
  pub map_to-next : (i : ℕ) (l m : List A) (v d : A) → m ≡ map_to i l → v ≡ f (get_or m i d) → set m i v ≡ map_to (i + 1) l
  map_to-next i l m v d e q = rw (q, e, ahead i l d, add-one) (next i l d)

  pub map_to-all : (i : ℕ) (l : List A) → length l ≤ i → map_to i l ≡ map f l
  map_to-all zero [] h = refl
  map_to-all zero (x ∷ l) h = absurd (omega arith)
  map_to-all (suc i) [] h = refl
  map_to-all (suc i) (x ∷ l) h = ap {B = List A} (λ r. f x ∷ r) (map_to-all i l (omega arith))

-- an element stored where it stands
pub set_same : {A : Type 0} (l : List A) (i : ℕ) (d : A) → set l i (get_or l i d) ≡ l
set_same [] i d = refl
set_same (x ∷ l) zero d = refl
set_same (x ∷ l) (suc i) d = ap {B = List _} (λ r. x ∷ r) (set_same l i d)

-- at most one of two tests that stand for one
pub or-le : (a b : Bool) → one_if (a || b) ≤ one_if a + one_if b
or-le true b = omega arith
or-le false b = omega arith

pub one_if-le : (b : Bool) → one_if b ≤ 1
one_if-le true = omega arith
one_if-le false = omega arith

-- a test at every element of a list, which the checker computes, and what it says of each
abbrev pub every : {A : Type 0} → (A → Bool) → List A → Bool
every f [] = true
every f (x ∷ l) = cond (f x) (every f l) false

first : (b c : Bool) → cond b c false ≡ true → b ≡ true
first true c e = refl
first false c e = e

rest : (b c : Bool) → cond b c false ≡ true → c ≡ true
rest true c e = e
rest false c e = absurd (false≢true e)

pub every-at : {A : Type 0} (f : A → Bool) (l : List A) (k : ℕ) (d : A) → every f l ≡ true → k < length l → f (get_or l k d) ≡ true
every-at f [] k d t h = absurd (omega arith)
every-at f (x ∷ l) zero d t h = first (f x) (every f l) t
every-at f (x ∷ l) (suc k) d t h = every-at f l k d (rest (f x) (every f l) t) (omega arith)

-- f of the first i elements of l, in place of the first i of another list
module _ {A B : Type 0} (f : A → B) where
  abbrev pub fill_to : ℕ → List A → List B → List B
  fill_to zero l o = o
  fill_to (suc i) [] o = o
  fill_to (suc i) (x ∷ l) [] = []
  fill_to (suc i) (x ∷ l) (y ∷ o) = f x ∷ fill_to i l o

  fill_more : (i : ℕ) (l : List A) (o : List B) (d : A) → i < length l → i < length o → set (fill_to i l o) i (f (get_or l i d)) ≡ fill_to (suc i) l o
  fill_more i [] o d h k = absurd (omega arith)
  fill_more i (x ∷ l) [] d h k = absurd (omega arith)
  fill_more zero (x ∷ l) (y ∷ o) d h k = refl
  fill_more (suc i) (x ∷ l) (y ∷ o) d h k = ap {B = List B} (λ r. f x ∷ r) (fill_more i l o d (omega arith) (omega arith))

  pub fill_to-next : (i : ℕ) (l : List A) (o m : List B) (v : B) (d : A) → m ≡ fill_to i l o → v ≡ f (get_or l i d) → i < length l → i < length o
      → set m i v ≡ fill_to (i + 1) l o
  fill_to-next i l o m v d e q h k = rw (q, e, add-one) (fill_more i l o d h k)

  pub fill_to-all : (i : ℕ) (l : List A) (o : List B) → length l ≤ i → length o ≡ length l → fill_to i l o ≡ map f l
  fill_to-all zero [] [] h k = refl
  fill_to-all zero [] (y ∷ o) h k = absurd (omega arith)
  fill_to-all zero (x ∷ l) o h k = absurd (omega arith)
  fill_to-all (suc i) [] [] h k = refl
  fill_to-all (suc i) [] (y ∷ o) h k = absurd (omega arith)
  fill_to-all (suc i) (x ∷ l) [] h k = absurd (omega arith)
  fill_to-all (suc i) (x ∷ l) (y ∷ o) h k = ap {B = List B} (λ r. f x ∷ r) (fill_to-all i l o (omega arith) (omega arith))

-- an element of a mapped list, where the map keeps the default
pub get_d_map : {A : Type 0} (f : A → A) (d : A) → f d ≡ d → (l : List A) (n : ℕ) → get_or (map f l) n d ≡ f (get_or l n d)
get_d_map f d e [] n = sym e
get_d_map f d e (x ∷ l) zero = refl
get_d_map f d e (x ∷ l) (suc n) = get_d_map f d e l n

pub get_d-same : {A : Type 0} (n i : ℕ) (a : A) → get_or (replicate n a) i a ≡ a
get_d-same zero i a = refl
get_d-same (suc n) zero a = refl
get_d-same (suc n) (suc i) a = get_d-same n i a

-- no more elements pass a test than there are
pub few-counted : {A : Type 0} (f : A → Bool) (l : List A) → count f l ≤ length l
unfolding count
few-counted f [] = omega arith
few-counted f (x ∷ l) = omega (arith, few-counted f l, one_if-le (f x))

-- a list from a place within it on
pub rest_from : (l : List ℕ) (i : ℕ) → i < length l → drop i l ≡ get_or l i 0 ∷ drop (i + 1) l
rest_from l i h = rw (drop-cons l i 0, add-one)
