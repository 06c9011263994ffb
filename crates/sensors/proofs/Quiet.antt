-- Ticks of the sensors of a drive: k quiet ticks at once, the ticks before the next end, and stops that use up running timers.
use mathlib.Core.Path.{◌≡◌, refl, sym, ap, ◌∙◌}
use mathlib.Core.Bool.{Bool, true, false, cond, ◌||◌, false≢true}
use mathlib.Core.List.{List, [], ◌∷◌, map, foldl}
use mathlib.Core.Logic.{◌⊎◌, inl, inr, ⊎_elim}
use Prim.Native.Nat.{ℕ, zero, suc, ◌+◌, ◌-◌, ◌<◌, ◌≤◌}
use native.Mathlib.Omega.{arith}
use lib.Dec.{eqb}
use lib.ListN.{length, get_or, set}
use borrow.Author.Tests.{eq-eqb, ne_eqb, ltb-false}
use Rattle.std.specs.List.{All, list_any, filter, fold}
use Rattle.std.proofs.lemmas.List.Elements.{All-head, All-tail}
use Rattle.base.specs.Lists.{one_if, any, count}
use Rattle.base.proofs.Lists.{or-le}
use Rattle.base.proofs.Jumps.{Jumps}
use Rattle.base.proofs.Loops.{Mapped, map-again}
use Rattle.sensor.specs.declared.single.Sensor.{Sensor}
use Rattle.sensor.specs.Single.{sensor_tick, power_cycle_of, ends_next, runs}
use Rattle.sensor.specs.Parts.{lowered_by, quiet_of}
use Rattle.sensor.proofs.Ticks.{
  QuietFor,
  quiet-less,
  quiet_next,
  not_last,
  tick-none,
  tick-lowers,
  lowered_none,
  lowered-more,
  quiet_of-le,
  quiet_of-quiet,
  quiet_of-most,
  ends-runs,
  runs-less,
}
use Rattle.sensors.specs.Sixteen.{conditions_below}
use Rattle.sensors.specs.Parts.{quiet_ticks}

-- no timer of the list ends within k ticks
abbrev pub AllQuiet : ℕ → List Sensor → Type 0
AllQuiet k [] = Unit {0}
AllQuiet k (s ∷ l) = QuietFor k s.timer × AllQuiet k l

all-tick : (k : ℕ) (l : List Sensor) → AllQuiet (suc k) l → map sensor_tick l ≡ map (lowered_by 1) l
all-tick k [] q = refl
all-tick k (s ∷ l) q = λ i. tick-lowers k s s.timer refl q.0 i ∷ all-tick k l q.1 i

all-next : (k : ℕ) (l : List Sensor) → AllQuiet (suc k) l → AllQuiet k (map (lowered_by 1) l)
all-next k [] q = tt
all-next k (s ∷ l) q = (quiet_next k s.timer q.0, all-next k l q.1)

none_last : (k : ℕ) (l : List Sensor) → AllQuiet (suc k) l → any ends_next l ≡ false
unfolding any
none_last k [] q = refl
none_last k (s ∷ l) q = rw (ne_eqb s.timer 1 (not_last k s.timer q.0)) (none_last k l q.1)

all_none : (l : List Sensor) → map (lowered_by 0) l ≡ l
all_none [] = refl
all_none (s ∷ l) = λ i. lowered_none s i ∷ all_none l i

all_more : (k : ℕ) (l : List Sensor) → map (lowered_by k) (map (lowered_by 1) l) ≡ map (lowered_by (suc k)) l
all_more k [] = refl
all_more k (s ∷ l) = λ i. lowered-more k s i ∷ all_more k l i

-- lowering by k stands for k quiet ticks of all
pub sensors-jump : Jumps (map sensor_tick) (any ends_next) (λ k l. map (lowered_by k) l) AllQuiet
sensors-jump = record {
  none = λ l q. all_none l;
  more = λ k l q. all_more k l;
  no_stop = none_last;
  one = all-tick;
  next = all-next;
}

-- lowering changes no condition
pub lowered-conditions : (k n : ℕ) (l : List Sensor) → conditions_below n (map (lowered_by k) l) ≡ conditions_below n l
unfolding conditions_below
lowered-conditions k n [] = refl
lowered-conditions k zero (s ∷ l) = ap {B = List Bool} (λ r. false ∷ r) (lowered-conditions k zero l)
lowered-conditions k (suc n) (s ∷ l) = ap {B = List Bool} (λ r. s.condition ∷ r) (lowered-conditions k n l)

-- ---- the ticks before the next end

pub quiet_ticks-le : (n : ℕ) (l : List Sensor) → quiet_ticks n l ≤ n
unfolding quiet_ticks
quiet_ticks-le n [] = omega arith
quiet_ticks-le n (s ∷ l) = omega (arith, quiet_ticks-le (quiet_of n s) l, quiet_of-le n s)

-- so many ticks end no timer
pub quiet_ticks-quiet : (n : ℕ) (l : List Sensor) → AllQuiet (quiet_ticks n l) l
unfolding quiet_ticks
quiet_ticks-quiet n [] = tt
quiet_ticks-quiet n (s ∷ l) =
    (quiet-less _ (quiet_of n s) s.timer (quiet_ticks-le (quiet_of n s) l) (quiet_of-quiet n s s.timer refl), quiet_ticks-quiet (quiet_of n s) l)

or_left : (a b : Bool) → a ≡ true → (a || b) ≡ true
or_left true b e = refl
or_left false b e = absurd (false≢true e)

or_right : (a b : Bool) → b ≡ true → (a || b) ≡ true
or_right true b e = refl
or_right false b e = e

-- and no more of them: then the limit is reached, or the next tick ends a timer
pub quiet_ticks-most : (n : ℕ) (l : List Sensor) → (quiet_ticks n l ≡ n) ⊎ (any ends_next (map (lowered_by (quiet_ticks n l)) l) ≡ true)
unfolding quiet_ticks any
quiet_ticks-most n [] = inl refl
quiet_ticks-most n (s ∷ l) =
    let k : ℕ = quiet_ticks (quiet_of n s) l in
    ⊎_elim
    (λ e. ⊎_elim
    (λ f. inl (e ∙ f))
    (λ f. inr (or_left (eqb (s.timer - k) 1) _ (eq-eqb (s.timer - k) 1 (ap (λ (m : ℕ). s.timer - m) e ∙ f))))
    (quiet_of-most n s))
    (λ f. inr (or_right (eqb (s.timer - k) 1) _ f))
    (quiet_ticks-most (quiet_of n s) l)

-- they are among those that are left
pub few_left : (m k : ℕ) (l : List Sensor) → k ≡ quiet_ticks m l → k ≤ m
few_left m k l e = omega (arith, e, quiet_ticks-le m l)

-- ---- the loop of a tick

module _ (n : ℕ) (l m x : List Sensor) (i : ℕ) (d : Sensor) (s : Mapped sensor_tick n l m i) (h : i < n) where
  -- a sensor whose timer runs is stored after its tick
  pub one-ticks : (v : Sensor) → v ≡ sensor_tick (get_or m i d) → x ≡ set m i v → Mapped sensor_tick n l x (i + 1)
  one-ticks v e q = rw q (map-again sensor_tick n l m i v d s h e)

  -- another is left, since a tick leaves it
  pub one-stays : (v : Sensor) (t : Bool) → t ≡ runs (get_or m i d) → t ≡ false → v ≡ get_or m i d → x ≡ set m i v → Mapped sensor_tick n l x (i + 1)
  one-stays v t p e w q =
      let none : (get_or m i d).timer ≡ 0 = omega (arith, ltb-false 0 (get_or m i d).timer (sym p ∙ e)) in
      rw q (map-again sensor_tick n l m i v d s h (w ∙ sym (tick-none (get_or m i d) none)))

-- ---- a turn of a power cycle

module _ (n : ℕ) (l m x : List Sensor) (i : ℕ) (d : Sensor) (s : Mapped power_cycle_of n l m i) (h : i < n) where
  pub one-cycles : (v : Sensor) → v ≡ power_cycle_of (get_or m i d) → x ≡ set m i v → Mapped power_cycle_of n l x (i + 1)
  one-cycles v e q = rw q (map-again power_cycle_of n l m i v d s h e)

  -- another rests, and is left
  pub one-rests : (v : Sensor) → power_cycle_of (get_or m i d) ≡ get_or m i d → v ≡ get_or m i d → x ≡ set m i v → Mapped power_cycle_of n l x (i + 1)
  one-rests v f w q = rw q (map-again power_cycle_of n l m i v d s h (w ∙ sym f))

-- ---- whether all rest

pub rest-all : (l : List Sensor) → All (λ s. power_cycle_of s ≡ s) l → map power_cycle_of l ≡ l
rest-all [] a = refl
rest-all (s ∷ l) a =
    let P : Sensor → Type 0 = λ s. power_cycle_of s ≡ s in
    λ i. All-head P s l a i ∷ rest-all l (All-tail P s l a) i

-- ---- stops use up running timers

pub stop-uses : (l : List Sensor) → one_if (any ends_next l) + count runs (map sensor_tick l) ≤ count runs l
unfolding any count
stop-uses [] = omega arith
stop-uses (s ∷ l) = omega (arith, or-le (ends_next s) (any ends_next l), ends-runs s s.timer refl, stop-uses l)

-- lowering starts no timer
pub lowered-running : (k : ℕ) (l : List Sensor) → count runs (map (lowered_by k) l) ≤ count runs l
unfolding count
lowered-running k [] = omega arith
lowered-running k (s ∷ l) = omega (arith, runs-less k s.timer, lowered-running k l)

-- ---- the library's words for what the loops over the sixteen say

pub any-is : {A : Type 0} (p : A → Bool) (l : List A) → list_any p l ≡ any p l
unfolding any
any-is p [] = refl
any-is p (x ∷ l) = grind (arith, any-is p l)

pub count-is : {A : Type 0} (p : A → Bool) (l : List A) → length (filter p l) ≡ count p l
unfolding count
count-is p [] = refl
count-is p (x ∷ l) = go (p x) (count-is p l)
  where
    go : (b : Bool) → length (filter p l) ≡ count p l → length (cond b (x ∷ filter p l) (filter p l)) ≡ one_if b + count p l
    go true e = omega (arith, e)
    go false e = omega (arith, e)

pub fold-is : {A B : Type 0} (f : B → A → B) (b : B) (l : List A) → fold f b l ≡ foldl f b l
fold-is f b [] = refl
fold-is f b (x ∷ l) = fold-is f (f b x) l
