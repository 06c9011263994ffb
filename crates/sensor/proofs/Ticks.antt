-- Ticks of one sensor: by the ticks to go, k quiet ticks at once, and the ticks before its timer ends.
use mathlib.Core.Path.{◌≡◌, refl, sym, ap, ◌∙◌, subst}
use mathlib.Core.Bool.{Bool, true, false, cond}
use mathlib.Core.Logic.{◌⊎◌, inl, inr}
use Prim.Native.Nat.{ℕ, zero, suc, ◌+◌, ◌-◌, ◌<◌, ◌≤◌, min}
use native.Mathlib.Omega.{arith}
use lib.Dec.{eqb, ltb}
use borrow.Author.Tests.{eq-eqb, ne_eqb, eqb-false, lt-ltb, ltb-true, ltb-false}
use Rattle.base.specs.Lists.{one_if}
use Rattle.base.proofs.Cases.{cond-true, cond-false}
use Rattle.base.proofs.Jumps.{Jumps}
use Rattle.base.proofs.Lists.{one_if-le}
use Rattle.sensor.specs.declared.single.Sensor.{Sensor}
use Rattle.phases.specs.declared.Cause.TheVariants.{TimerEnds}
use Rattle.sensor.specs.Single.{sensor_tick, after_cause, with_timer, ends_next, runs}
use Rattle.sensor.specs.Parts.{lowered_by, quiet_of}
use Rattle.sensor.proofs.Motion.{ended-stops}

-- ---- one sensor

pub tick-none : (s : Sensor) → s.timer ≡ 0 → sensor_tick s ≡ s
unfolding sensor_tick
tick-none s e = sym (cond-true (eqb s.timer 0) s _ _ (eq-eqb s.timer 0 e) refl)

pub tick-last : (s : Sensor) → s.timer ≡ 1 → sensor_tick s ≡ after_cause TimerEnds s
unfolding sensor_tick
tick-last s e =
    sym (cond-false (eqb s.timer 0) s _ _ (ne_eqb s.timer 0 (omega arith)) (cond-true (eqb s.timer 1) _ _ _ (eq-eqb s.timer 1 e) refl))

pub tick-more : (s : Sensor) → 1 < s.timer → sensor_tick s ≡ with_timer (s.timer - 1) s
unfolding sensor_tick
tick-more s h =
    sym
    (cond-false (eqb s.timer 0) s _ _ (ne_eqb s.timer 0 (omega arith))
    (cond-false (eqb s.timer 1) (after_cause TimerEnds s) _ _ (ne_eqb s.timer 1 (omega arith)) refl))

-- a timer with t ticks to go does not end within k ticks
abbrev pub QuietFor : ℕ → ℕ → Type 0
QuietFor k zero = Unit {0}
QuietFor k (suc t) = k ≤ t

pub quiet-below : (k t : ℕ) → k < t → QuietFor k t
quiet-below k zero h = tt
quiet-below k (suc t) h = omega arith

pub quiet-less : (j k t : ℕ) → j ≤ k → QuietFor k t → QuietFor j t
quiet-less j k zero h q = tt
quiet-less j k (suc t) h q = omega arith

pub quiet_next : (k t : ℕ) → QuietFor (suc k) t → QuietFor k (t - 1)
quiet_next k zero q = tt
quiet_next k (suc zero) q = absurd (omega arith)
quiet_next k (suc (suc t)) q = let e : suc t ≡ suc (suc t) - 1 = omega arith in subst (QuietFor k) e (omega arith)

pub not_last : (k t : ℕ) → QuietFor (suc k) t → t ≡ 1 → ⊥
not_last k zero q e = omega arith
not_last k (suc t) q e = omega arith

same-timer : (s : Sensor) (t : ℕ) → t ≡ s.timer → with_timer t s ≡ s
same-timer s t e = ap (λ (n : ℕ). with_timer n s) e

pub tick-lowers : (k : ℕ) (s : Sensor) (t : ℕ) → s.timer ≡ t → QuietFor (suc k) t → sensor_tick s ≡ lowered_by 1 s
tick-lowers k s zero e q = tick-none s e ∙ sym (same-timer s (s.timer - 1) (omega arith))
tick-lowers k s (suc t) e q = tick-more s (omega arith)

pub lowered_none : (s : Sensor) → lowered_by 0 s ≡ s
lowered_none s = same-timer s (s.timer - 0) (omega arith)

pub lowered-more : (k : ℕ) (s : Sensor) → lowered_by k (lowered_by 1 s) ≡ lowered_by (suc k) s
lowered-more k s = let e : s.timer - 1 - k ≡ s.timer - suc k = omega arith in ap (λ (n : ℕ). with_timer n s) e

-- lowering by k stands for k quiet ticks of one sensor
pub sensor-jumps : Jumps sensor_tick ends_next lowered_by (λ k s. QuietFor k s.timer)
sensor-jumps = record {
  none = λ s q. lowered_none s;
  more = λ k s q. lowered-more k s;
  no_stop = λ k s q. ne_eqb s.timer 1 (not_last k s.timer q);
  one = λ k s q. tick-lowers k s s.timer refl q;
  next = λ k s q. quiet_next k s.timer q;
}

-- the ticks before the end

pub quiet_of-le : (n : ℕ) (s : Sensor) → quiet_of n s ≤ n
quiet_of-le n s = go (eqb s.timer 0)
  where
    go : (b : Bool) → cond b n (min n (s.timer - 1)) ≤ n
    go true = omega arith
    go false = omega arith

-- so many ticks do not end the timer
pub quiet_of-quiet : (n : ℕ) (s : Sensor) (t : ℕ) → s.timer ≡ t → QuietFor (quiet_of n s) t
quiet_of-quiet n s zero e = tt
quiet_of-quiet n s (suc t) e = rw (ne_eqb s.timer 0 (omega arith)) (omega arith)

-- and no more of them: then the limit is reached, or the next tick ends the timer
pub quiet_of-most : (n : ℕ) (s : Sensor) → (quiet_of n s ≡ n) ⊎ (s.timer - quiet_of n s ≡ 1)
quiet_of-most n s = go (eqb s.timer 0) refl
  where
    on : (b : Bool) → (s.timer ≡ 0 → ⊥) → ltb (s.timer - 1) n ≡ b → (min n (s.timer - 1) ≡ n) ⊎ (s.timer - min n (s.timer - 1) ≡ 1)
    on true ne e = let h : s.timer - 1 < n = ltb-true (s.timer - 1) n e in inr (omega arith)
    on false ne e = let h : n ≤ s.timer - 1 = ltb-false (s.timer - 1) n e in inl (omega arith)

    go : (b : Bool) → eqb s.timer 0 ≡ b → (cond b n (min n (s.timer - 1)) ≡ n) ⊎ (s.timer - cond b n (min n (s.timer - 1)) ≡ 1)
    go true e = inl refl
    go false e = on (ltb (s.timer - 1) n) (eqb-false s.timer 0 e) refl

-- a timer that ends does not run any more, and no timer starts
pub ends-runs : (s : Sensor) (t : ℕ) → s.timer ≡ t → one_if (ends_next s) + one_if (runs (sensor_tick s)) ≤ one_if (runs s)
ends-runs s zero e = rw (tick-none s e, e) (omega arith)
ends-runs s (suc zero) e = rw (tick-last s e, ended-stops s, e) (omega arith)
ends-runs s (suc (suc t)) e =
    let f : (sensor_tick s).timer ≡ s.timer - 1 = ap (λ (x : Sensor). x.timer) (tick-more s (omega arith)) in
    omega (
      arith,
      ap one_if (ne_eqb s.timer 1 (omega arith)),
      ap one_if (lt-ltb 0 s.timer (omega arith)),
      ap one_if (lt-ltb 0 (sensor_tick s).timer (omega arith)),
    )

pub runs-less : (k t : ℕ) → one_if (ltb 0 (t - k)) ≤ one_if (ltb 0 t)
runs-less k zero = let e : zero - k ≡ 0 = omega arith in rw e (omega arith)
runs-less k (suc t) = rw (lt-ltb 0 (suc t) (omega arith)) (one_if-le (ltb 0 (suc t - k)))
