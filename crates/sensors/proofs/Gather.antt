-- The loop that gathers the conditions: after i turns it holds those of the first i sensors, and FALSE elsewhere.
use mathlib.Core.Path.{◌≡◌, refl, sym, ap, ◌∙◌}
use Prim.Native.Nat.{ℕ, zero, suc, ◌+◌, ◌<◌, ◌≤◌, min}
use lib.Dec.{ltb}
use borrow.Author.Tests.{ltb-true, ltb-false}
use native.Mathlib.Omega.{arith}
use native.Mathlib.Numerals.{add-one}
use mathlib.Core.Bool.{Bool, true, false}
use mathlib.Core.List.{List, [], ◌∷◌}
use lib.ListN.{length, get_or, set, replicate}
use Rattle.sensor.specs.declared.single.Sensor.{Sensor}
use Rattle.sensor.specs.Single.{fresh_sensor}
use Rattle.sensor.proofs.Motion.{fresh-condition}
use Rattle.sensors.specs.Sixteen.{conditions_below}

pub record Gathered (n count : ℕ) (l : List Sensor) (m : List Bool) (i : ℕ) : Type 0 where
  pub low : i ≤ n
  pub under : i ≤ count
  pub long : length l ≡ n
  pub same : m ≡ conditions_below i l

pub none : (l : List Sensor) → replicate (length l) false ≡ conditions_below 0 l
unfolding conditions_below
none [] = refl
none (s ∷ l) = ap {B = List Bool} (λ r. false ∷ r) (none l)

next : (i : ℕ) (l : List Sensor) (d : Sensor) → i < length l → set (conditions_below i l) i (get_or l i d).condition ≡ conditions_below (suc i) l
unfolding conditions_below
next i [] d h = absurd (omega arith)
next zero (s ∷ l) d h = refl
next (suc i) (s ∷ l) d h = ap {B = List Bool} (λ r. s.condition ∷ r) (next i l d (omega arith))

whole : (i j : ℕ) (l : List Sensor) → length l ≤ i → length l ≤ j → conditions_below i l ≡ conditions_below j l
unfolding conditions_below
whole i j [] h k = refl
whole zero j (s ∷ l) h k = absurd (omega arith)
whole (suc i) zero (s ∷ l) h k = absurd (omega arith)
whole (suc i) (suc j) (s ∷ l) h k = ap {B = List Bool} (λ r. s.condition ∷ r) (whole i j l (omega arith) (omega arith))

pub gather-begin : (count : ℕ) (l : List Sensor) → length l ≡ 16 → Gathered 16 count l (replicate 16 false) 0
gather-begin count l e =
    record { low = omega arith; under = omega arith; long = e; same = ap (λ (n : ℕ). replicate n false) (sym e) ∙ none l }

pub gather-again : (n count : ℕ) (l : List Sensor) (m : List Bool) (i : ℕ) (d : Sensor) → Gathered n count l m i → i < min count n
    → Gathered n count l (set m i (get_or l i d).condition) (i + 1)
gather-again n count l m i d t h = record {
  low = omega arith;
  under = omega arith;
  long = t.long;
  same = rw (add-one, t.same) (next i l d (omega (arith, t.long)));
}

-- the end, by the count or by the array
pub gather-ends : (n count : ℕ) (l : List Sensor) (m : List Bool) (i : ℕ) → Gathered n count l m i → min count n ≤ i → m ≡ conditions_below count l
gather-ends n count l m i t h = t.same ∙ go (ltb count n) refl
  where
    go : (b : Bool) → ltb count n ≡ b → conditions_below i l ≡ conditions_below count l
    go true e = let k : i ≡ count = omega (arith, t.under, h, ltb-true count n e) in ap (λ (k : ℕ). conditions_below k l) k
    go false e = let k : n ≤ count = ltb-false count n e in whole i count l (omega (arith, t.long, t.low, h, k)) (omega (arith, t.long, k))

-- ---- one condition of the sixteen

-- below the count it is the sensor's, and at or above it FALSE
pub condition-below : (n : ℕ) (l : List Sensor) (r : ℕ) → r < n → get_or (conditions_below n l) r false ≡ (get_or l r fresh_sensor).condition
unfolding conditions_below
condition-below zero l r h = absurd (omega arith)
condition-below (suc n) [] r h = sym fresh-condition
condition-below (suc n) (s ∷ l) zero h = refl
condition-below (suc n) (s ∷ l) (suc r) h = condition-below n l r (omega arith)

pub condition-past : (n : ℕ) (l : List Sensor) (r : ℕ) → n ≤ r → get_or (conditions_below n l) r false ≡ false
unfolding conditions_below
condition-past n [] r h = refl
condition-past zero (s ∷ l) zero h = refl
condition-past zero (s ∷ l) (suc r) h = condition-past zero l r (omega arith)
condition-past (suc n) (s ∷ l) zero h = absurd (omega arith)
condition-past (suc n) (s ∷ l) (suc r) h = condition-past n l r (omega arith)
