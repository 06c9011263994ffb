-- Every sensor that events reach is sound: the fresh one is, and every method keeps it.
use mathlib.Core.Path.{◌≡◌, refl, subst}
use mathlib.Core.Bool.{Bool, true, false, cond, beq}
use Prim.Native.Nat.{ℕ, zero, suc, ◌-◌}
use native.Mathlib.Omega.{arith}
use lib.Dec.{eqb, ltb}
use borrow.Author.Tests.{eqb-false}
use Rattle.base.proofs.Cases.{cond_either}
use Rattle.phases.specs.declared.Phase.{Phase}
use Rattle.phases.specs.declared.Phase.TheVariants.{SS0, ST0, SS1, ST1, SS2}
use Rattle.std.specs.Prelude.{Option, Some, None}
use Rattle.phases.specs.declared.Cause.{Cause}
use Rattle.phases.specs.declared.Cause.TheVariants.{
  TrueAtOnce,
  TrueWaiting,
  FalseAtOnce,
  FalseWaiting,
  TimerEnds,
  EnabledTrueAtOnce,
  EnabledTrueWaiting,
  EnabledFalse,
  Disabled,
  PowerCycle,
}
use Rattle.sensor.specs.declared.single.Sensor.{Sensor}
use Rattle.phases.specs.Phases.{condition_in, when_enabled, when_disabled, settled, power_cycled, move_of}
use Rattle.sensor.specs.Level.{greatest_reading}
use Rattle.sensor.specs.Single.{fresh_sensor, moved, with_level, with_timer, timer_in, entering, moved_by, after_cause, with_reading, keeping, level_given, judged, turn_cause, turned_to, reading_of, enable_cause, enable_of, disable_of, power_cycle_of, sensor_tick}
use Rattle.sensor.specs.Parts.{lowered_by}
use Rattle.sensor.specs.Sound.{TimerAgrees, LevelAgrees, ConditionAgrees, Sound}
use Rattle.sensor.proofs.Ticks.{QuietFor}

pub fresh-sound : Sound fresh_sensor
unfolding fresh_sensor
fresh-sound = record { timer = refl; level = tt; condition = refl; on_fraction = omega arith; off_fraction = omega arith }

-- ---- a phase that is entered

condition-in : (p : Phase) (c : Bool) → ConditionAgrees p (condition_in p c)
condition-in SS0 c = refl
condition-in ST0 c = tt
condition-in SS1 c = refl
condition-in ST1 c = tt
condition-in SS2 c = refl

-- a sensor in a phase, with all else of it as in s
abbrev In : Sensor → Phase → Sensor
In s p = moved s.level p s.condition s.timer s

timer-in : (q : Phase) (l : Bool) (p : Phase) (s : Sensor) → timer_in q s ≡ timer_in q (with_level l (In s p))
timer-in SS0 l p s = refl
timer-in ST0 l p s = refl
timer-in SS1 l p s = refl
timer-in ST1 l p s = refl
timer-in SS2 l p s = refl

enters : (q : Phase) (s : Sensor) (l : Bool) (p : Phase) → Sound (In s p) → TimerAgrees q (timer_in q s) → LevelAgrees q l
    → Sound (entering q (with_level l (In s p)))
enters q s l p h t k = record {
  timer = subst (TimerAgrees q) (timer-in q l p s) t;
  level = k;
  condition = condition-in q s.condition;
  on_fraction = h.on_fraction;
  off_fraction = h.off_fraction;
}

-- a move of enabled sensors alone, and of disabled ones alone, by the phase
by-enabled : (P : Phase → Option Phase → Type 0) (q : Phase) → P SS0 None → ((p : Phase) → P p (Some q)) → (p : Phase) → P p (when_enabled p q)
by-enabled P q off on SS0 = off
by-enabled P q off on ST0 = on ST0
by-enabled P q off on SS1 = on SS1
by-enabled P q off on ST1 = on ST1
by-enabled P q off on SS2 = on SS2

by-disabled : (P : Phase → Option Phase → Type 0) (q : Phase) → P SS0 (Some q) → ((p : Phase) → P p None) → (p : Phase) → P p (when_disabled p q)
by-disabled P q off on SS0 = off
by-disabled P q off on ST0 = on ST0
by-disabled P q off on SS1 = on SS1
by-disabled P q off on ST1 = on ST1
by-disabled P q off on SS2 = on SS2

-- ---- a step

-- what a cause says of the sensor that it meets
abbrev pub Meets : Cause → Sensor → Type 0
Meets TrueAtOnce s = Unit {0}
Meets TrueWaiting s = s.on_timeout ≡ 0 → ⊥
Meets FalseAtOnce s = Unit {0}
Meets FalseWaiting s = s.off_timeout ≡ 0 → ⊥
Meets TimerEnds s = Unit {0}
Meets EnabledTrueAtOnce s = s.level ≡ true
Meets EnabledTrueWaiting s = (s.level ≡ true) × (s.on_timeout ≡ 0 → ⊥)
Meets EnabledFalse s = s.level ≡ false
Meets Disabled s = Unit {0}
Meets PowerCycle s = Unit {0}

-- the level of a disabled sensor moves alone
level-off : (s : Sensor) (l : Bool) → Sound (In s SS0) → Sound (with_level l (In s SS0))
level-off s l h =
    record { timer = h.timer; level = tt; condition = h.condition; on_fraction = h.on_fraction; off_fraction = h.off_fraction }

-- a turn to level l, into a phase whose timer and level agree
turns : (s : Sensor) (l : Bool) (q : Phase) → TimerAgrees q (timer_in q s) → LevelAgrees q l → (p : Phase) → Sound (In s p)
    → Sound (moved_by (when_enabled p q) (with_level l (In s p)))
turns s l q t k =
    by-enabled (λ p m. Sound (In s p) → Sound (moved_by m (with_level l (In s p)))) q (level-off s l) (λ p h. enters q s l p h t k)

-- enabling, into a phase whose timer and level agree
enabling : (s : Sensor) (q : Phase) → TimerAgrees q (timer_in q s) → LevelAgrees q s.level → (p : Phase) → Sound (In s p)
    → Sound (moved_by (when_disabled p q) (In s p))
enabling s q t k =
    by-disabled (λ p m. Sound (In s p) → Sound (moved_by m (In s p))) q (λ h. enters q s s.level SS0 h t k) (λ p h. h)

ends : (s : Sensor) (p : Phase) → Sound (In s p) → Sound (entering (settled p) (In s p))
ends s SS0 h = enters SS0 s s.level SS0 h refl tt
ends s ST0 h = enters SS1 s s.level ST0 h refl h.level
ends s SS1 h = enters SS1 s s.level SS1 h refl h.level
ends s ST1 h = enters SS2 s s.level ST1 h refl h.level
ends s SS2 h = enters SS2 s s.level SS2 h refl h.level

cycles : (s : Sensor) (p : Phase) → Sound (In s p) → Sound (entering (power_cycled p) (with_level false (In s p)))
cycles s SS0 h = enters SS0 s false SS0 h refl tt
cycles s ST0 h = enters SS2 s false ST0 h refl refl
cycles s SS1 h = enters SS2 s false SS1 h refl refl
cycles s ST1 h = enters SS2 s false ST1 h refl refl
cycles s SS2 h = enters SS2 s false SS2 h refl refl

pub step-sound : (c : Cause) (s : Sensor) → Meets c s → Sound s → Sound (after_cause c s)
unfolding after_cause move_of
step-sound TrueAtOnce s m h = turns s true SS1 refl refl s.phase h
step-sound TrueWaiting s m h = turns s true ST0 m refl s.phase h
step-sound FalseAtOnce s m h = turns s false SS2 refl refl s.phase h
step-sound FalseWaiting s m h = turns s false ST1 m refl s.phase h
step-sound TimerEnds s m h = ends s s.phase h
step-sound EnabledTrueAtOnce s m h = enabling s SS1 refl m s.phase h
step-sound EnabledTrueWaiting s m h = enabling s ST0 m.1 m.0 s.phase h
step-sound EnabledFalse s m h = enabling s SS2 refl m s.phase h
step-sound Disabled s m h = enters SS0 s s.level s.phase h refl tt
step-sound PowerCycle s m h = cycles s s.phase h

-- ---- readings and ticks

-- a choice between two causes by a timeout of 0
by-timeout : (t : ℕ) (now later : Cause) (s : Sensor) → Meets now s → ((t ≡ 0 → ⊥) → Meets later s) → Meets (cond (eqb t 0) now later) s
by-timeout t now later s n l = go (eqb t 0) refl
  where
    go : (b : Bool) → eqb t 0 ≡ b → Meets (cond b now later) s
    go true e = n
    go false e = l (eqb-false t 0 e)

turn-meets : (l : Bool) (s : Sensor) → Meets (turn_cause l s) s
turn-meets true s = by-timeout s.on_timeout TrueAtOnce TrueWaiting s tt (λ n. n)
turn-meets false s = by-timeout s.off_timeout FalseAtOnce FalseWaiting s tt (λ n. n)

pub turn-sound : (l : Bool) (s : Sensor) → Sound s → Sound (turned_to l s)
unfolding turned_to
turn-sound l s h =
    cond_either Sound (beq l s.level) s (after_cause (turn_cause l s) s) (λ e. h) (λ e. step-sound (turn_cause l s) s (turn-meets l s) h)

pub judged-sound : (s : Sensor) → Sound s → Sound (judged s)
unfolding judged
judged-sound s h = turn-sound (level_given s) s h

-- a last reading says nothing of the phases
kept-sound : (last : Option ℕ) (s : Sensor) → Sound s → Sound (with_reading last s)
kept-sound last s h =
    record { timer = h.timer; level = h.level; condition = h.condition; on_fraction = h.on_fraction; off_fraction = h.off_fraction }

pub reading-sound : (v : ℕ) (s : Sensor) → Sound s → Sound (reading_of v s)
unfolding reading_of
reading-sound v s h =
    cond_either Sound (ltb greatest_reading v) s (judged (keeping v s)) (λ e. h) (λ e. judged-sound (keeping v s) (kept-sound (Some v) s h))

-- fewer ticks to go, and some left where the sensor waits
later : (s : Sensor) (t : ℕ) (p : Phase) → (s.timer ≡ 0 → t ≡ 0) → (t ≡ 0 → s.timer ≡ 0) → TimerAgrees p s.timer → TimerAgrees p t
later s t SS0 f g h = f h
later s t ST0 f g h = λ e. h (g e)
later s t SS1 f g h = f h
later s t ST1 f g h = λ e. h (g e)
later s t SS2 f g h = f h

timer-sound : (s : Sensor) (t : ℕ) → (s.timer ≡ 0 → t ≡ 0) → (t ≡ 0 → s.timer ≡ 0) → Sound s → Sound (with_timer t s)
timer-sound s t f g h = record {
  timer = later s t s.phase f g h.timer;
  level = h.level;
  condition = h.condition;
  on_fraction = h.on_fraction;
  off_fraction = h.off_fraction;
}

pub tick-sound : (s : Sensor) → Sound s → Sound (sensor_tick s)
unfolding sensor_tick
tick-sound s h =
    cond_either Sound (eqb s.timer 0) s _ (λ e. h)
    (λ e. cond_either Sound (eqb s.timer 1) (after_cause TimerEnds s) (with_timer (s.timer - 1) s) (λ f. step-sound TimerEnds s tt h)
    (λ f. timer-sound s (s.timer - 1) (omega arith) (λ z. absurd (more (eqb-false s.timer 0 e) (eqb-false s.timer 1 f) z)) h))
  where
    more : (s.timer ≡ 0 → ⊥) → (s.timer ≡ 1 → ⊥) → s.timer - 1 ≡ 0 → ⊥
    more n m z = omega arith

-- k ticks at once, where none of them ends the timer
pub lowered-sound : (k : ℕ) (s : Sensor) → QuietFor k s.timer → Sound s → Sound (lowered_by k s)
lowered-sound k s q h = timer-sound s (s.timer - k) (omega arith) (go s.timer q) h
  where
    go : (t : ℕ) → QuietFor k t → t - k ≡ 0 → t ≡ 0
    go zero q e = refl
    go (suc t) q e = omega arith

-- ---- enabling, disabling, power cycle

enable-meets : (s : Sensor) → Meets (enable_cause s) s
enable-meets s = go s.level refl
  where
    go : (l : Bool) → s.level ≡ l → Meets (cond l (cond (eqb s.on_timeout 0) EnabledTrueAtOnce EnabledTrueWaiting) EnabledFalse) s
    go true e = by-timeout s.on_timeout EnabledTrueAtOnce EnabledTrueWaiting s e (λ n. (e, n))
    go false e = e

pub enable-sound : (s : Sensor) → Sound s → Sound (enable_of s)
unfolding enable_of
enable-sound s h = step-sound (enable_cause s) s (enable-meets s) h

pub disable-sound : (s : Sensor) → Sound s → Sound (disable_of s)
unfolding disable_of
disable-sound s h = step-sound Disabled s tt h

pub power-cycle-sound : (s : Sensor) → Sound s → Sound (power_cycle_of s)
unfolding power_cycle_of
power-cycle-sound s h = kept-sound None (after_cause PowerCycle s) (step-sound PowerCycle s tt h)
