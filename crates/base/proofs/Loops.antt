-- Loops over an array, an element a turn: each record is what the loop knows after i turns, with the laws of its start, a turn and its end.
use mathlib.Core.Path.{◌≡◌, refl, sym, ◌∙◌}
use Prim.Native.Nat.{ℕ, ◌+◌, ◌≤◌, ◌<◌}
use native.Mathlib.Omega.{arith}
use mathlib.Core.List.{List, map}
use lib.ListN.{length, get_or, set}
use Rattle.base.proofs.Lists.{map_to, map_to-next, map_to-all, fill_to, fill_to-next, fill_to-all}

-- f at each element of an array, in place
module _ {A : Type 0} (f : A → A) where
  pub record Mapped (n : ℕ) (l m : List A) (i : ℕ) : Type 0 where
    pub low : i ≤ n
    pub long : length l ≡ n
    pub same : m ≡ map_to f i l

  pub map-begin : (n : ℕ) (l : List A) → length l ≡ n → Mapped n l l 0
  map-begin n l e = record { low = omega arith; long = e; same = refl }

  pub map-again : (n : ℕ) (l m : List A) (i : ℕ) (v d : A) → Mapped n l m i → i < n → v ≡ f (get_or m i d) → Mapped n l (set m i v) (i + 1)
  map-again n l m i v d t h q =
      record { low = omega arith; long = t.long; same = map_to-next f i l m v d t.same q }

  pub map-done : (n : ℕ) (l m : List A) (i : ℕ) → Mapped n l m i → n ≤ i → m ≡ map f l
  map-done n l m i t h = t.same ∙ map_to-all f i l (omega (arith, t.long))

-- f of each element of an array, into another
module _ {A B : Type 0} (f : A → B) where
  pub record Filled (n : ℕ) (l : List A) (o m : List B) (i : ℕ) : Type 0 where
    pub low : i ≤ n
    pub long : length l ≡ n
    pub wide : length o ≡ n
    pub same : m ≡ fill_to f i l o

  pub fill-begin : (n : ℕ) (l : List A) (o : List B) → length l ≡ n → length o ≡ n → Filled n l o o 0
  fill-begin n l o e w = record { low = omega arith; long = e; wide = w; same = refl }

  pub fill-again : (n : ℕ) (l : List A) (o m : List B) (i : ℕ) (v : B) (d : A) → Filled n l o m i → i < n → v ≡ f (get_or l i d)
      → Filled n l o (set m i v) (i + 1)
  fill-again n l o m i v d t h q = record {
    low = omega arith;
    long = t.long;
    wide = t.wide;
    same = fill_to-next f i l o m v d t.same q (omega (arith, t.long)) (omega (arith, t.wide));
  }

  pub fill_done : (n : ℕ) (l : List A) (o m : List B) (i : ℕ) → Filled n l o m i → n ≤ i → m ≡ map f l
  fill_done n l o m i t h = t.same ∙ fill_to-all f i l o (omega (arith, t.long)) (t.wide ∙ sym t.long)
