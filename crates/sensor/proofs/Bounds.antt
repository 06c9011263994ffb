-- The bounds of timers: no timeout and no timer of a sensor that events reach exceeds the range of timeouts.
use Prim.Native.Nat.{ℕ, ◌-◌, ◌≤◌}
use native.Mathlib.Omega.{arith}
use mathlib.Core.Bool.{Bool, cond, beq}
use lib.Dec.{eqb, ltb}
use Rattle.base.proofs.Cases.{cond_both}
use Rattle.phases.specs.declared.Phase.{Phase}
use Rattle.phases.specs.declared.Phase.TheVariants.{SS0, ST0, SS1, ST1, SS2}
use Rattle.std.specs.Prelude.{Option, Some, None}
use Rattle.phases.specs.declared.Cause.{Cause}
use Rattle.phases.specs.declared.Cause.TheVariants.{TimerEnds, Disabled, PowerCycle}
use Rattle.phases.specs.Phases.{move_of, level_after}
use Rattle.sensor.specs.declared.single.Sensor.{Sensor}
use Rattle.sensor.specs.Level.{greatest_reading}
use Rattle.sensor.specs.Single.{greatest_number, fresh_sensor, with_level, with_timer, timer_in, moved_by, after_cause, with_reading, keeping, level_given, judged, turn_cause, turned_to, reading_of, enable_cause, enable_of, disable_of, power_cycle_of, sensor_tick}
use Rattle.sensor.specs.Sound.{Timed}

pub fresh-timed : Timed fresh_sensor
unfolding fresh_sensor
fresh-timed = record { on = omega arith; off = omega arith; timer = omega arith }

-- the timer as a phase is entered
entered : (p : Phase) (l : Bool) (s : Sensor) → Timed s → timer_in p (with_level l s) ≤ greatest_number
entered SS0 l s h = omega arith
entered ST0 l s h = h.on
entered SS1 l s h = omega arith
entered ST1 l s h = h.off
entered SS2 l s h = omega arith

moved-timed : (m : Option Phase) (l : Bool) (s : Sensor) → Timed s → Timed (moved_by m (with_level l s))
moved-timed None l s h = record { on = h.on; off = h.off; timer = h.timer }
moved-timed (Some p) l s h = record { on = h.on; off = h.off; timer = entered p l s h }

step-timed : (c : Cause) (s : Sensor) → Timed s → Timed (after_cause c s)
unfolding after_cause
step-timed c s h = moved-timed (move_of s.phase c) (level_after c s.level) s h

pub judged-timed : (s : Sensor) → Timed s → Timed (judged s)
unfolding judged turned_to
judged-timed s h =
    cond_both Timed (beq (level_given s) s.level) s (after_cause (turn_cause (level_given s) s) s) h (step-timed (turn_cause (level_given s) s) s h)

kept-timed : (last : Option ℕ) (s : Sensor) → Timed s → Timed (with_reading last s)
kept-timed last s h = record { on = h.on; off = h.off; timer = h.timer }

pub reading-timed : (v : ℕ) (s : Sensor) → Timed s → Timed (reading_of v s)
unfolding reading_of
reading-timed v s h =
    cond_both Timed (ltb greatest_reading v) s (judged (keeping v s)) h (judged-timed (keeping v s) (kept-timed (Some v) s h))

pub tick-timed : (s : Sensor) → Timed s → Timed (sensor_tick s)
unfolding sensor_tick
tick-timed s h =
    cond_both Timed (eqb s.timer 0) s (cond (eqb s.timer 1) (after_cause TimerEnds s) (with_timer (s.timer - 1) s)) h
    (cond_both Timed (eqb s.timer 1) (after_cause TimerEnds s) (with_timer (s.timer - 1) s) (step-timed TimerEnds s h)
    (record { on = h.on; off = h.off; timer = omega (arith, h.timer) }))

pub cycle-timed : (s : Sensor) → Timed s → Timed (power_cycle_of s)
unfolding power_cycle_of
cycle-timed s h = kept-timed None (after_cause PowerCycle s) (step-timed PowerCycle s h)

pub enable-timed : (s : Sensor) → Timed s → Timed (enable_of s)
unfolding enable_of
enable-timed s h = step-timed (enable_cause s) s h

pub disable-timed : (s : Sensor) → Timed s → Timed (disable_of s)
unfolding disable_of
disable-timed s h = step-timed Disabled s h
