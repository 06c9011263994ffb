-- Document 01's starred cases of one sensor: the level after a reading at the limits, and a timeout of three ticks.
use mathlib.Core.Path.{◌≡◌, refl, ap, ◌∙◌}
use Prim.Native.Nat.{ℕ, ◌≤◌}
use native.Mathlib.Omega.{arith}
use mathlib.Core.Bool.{Bool, true, false, cond, beq}
use borrow.Author.Tests.{le-ltb}
use Rattle.base.specs.Ticks.{ticks}
use Rattle.phases.specs.Phases.{is_enabled, move_of}
use Rattle.sensor.specs.declared.single.Sensor.{Sensor}
use Rattle.sensor.specs.Level.{greatest_reading, level_rule}
use Rattle.sensor.specs.Single.{on_of, off_of, moved, keeping, level_given, judged, turned_to, reading_of, after_cause, sensor_tick}
use Rattle.sensor.proofs.Levels.{high-true, low-false, inside-keeps, high-false}
use Rattle.sensor.specs.Turning.{waiting_at}
use Rattle.sensor.proofs.Motion.{turned-level, turn-waits}

-- ---- levels

-- the level after a reading is the one that the rule gives
pub reading-level : (v : ℕ) (s : Sensor) → v ≤ greatest_reading → (reading_of v s).level ≡ level_rule (on_of s) (off_of s) v s.level
unfolding reading_of judged level_given
reading-level v s h = rw (le-ltb greatest_reading v h) (turned-level (level_given (keeping v s)) (keeping v s))

module _ (s : Sensor) where
  module _ (p : on_of s ≡ 5000) (q : off_of s ≡ 5000) where
    pub below_both : (reading_of 4999 s).level ≡ false
    below_both =
        reading-level 4999 s (omega arith) ∙ low-false (on_of s) (off_of s) 4999 s.level (omega arith) (omega arith) (omega arith)

    pub at_both : (reading_of 5000 s).level ≡ true
    at_both = reading-level 5000 s (omega arith) ∙ high-true (on_of s) (off_of s) 5000 s.level (omega arith) (omega arith)

  module _ (p : on_of s ≡ 2000) (q : off_of s ≡ 3000) where
    pub at_off : (reading_of 3000 s).level ≡ s.level
    at_off =
        reading-level 3000 s (omega arith) ∙ inside-keeps (on_of s) (off_of s) 3000 s.level (omega arith) (omega arith) (omega arith)

    pub above-off : (reading_of 3001 s).level ≡ false
    above-off =
        reading-level 3001 s (omega arith) ∙ high-false (on_of s) (off_of s) 3001 s.level (omega arith) (omega arith) (omega arith)

-- ---- timers

-- a sensor that waits for three ticks
abbrev waits : Bool → Sensor → Sensor
waits level s = moved level (waiting_at level) s.condition 3 s

after_two : (level : Bool) (s : Sensor) → (ticks sensor_tick 2 (waits level s)).condition ≡ s.condition
unfolding ticks sensor_tick
after_two level s = refl

after-three : (level : Bool) (s : Sensor) → (ticks sensor_tick 3 (waits level s)).condition ≡ level
unfolding ticks sensor_tick after_cause move_of
after-three true s = refl
after-three false s = refl

module _ (level : Bool) (s : Sensor) (on : is_enabled s.phase ≡ true) (turns : beq level s.level ≡ false)
    (e : cond level s.on_timeout s.off_timeout ≡ 3) where
  three-ticks : turned_to level s ≡ waits level s
  three-ticks =
      turn-waits level s on turns (λ z. omega arith) ∙ ap (λ (t : ℕ). moved level (waiting_at level) s.condition t s) e

  pub two-old : (ticks sensor_tick 2 (turned_to level s)).condition ≡ s.condition
  two-old = ap (λ (x : Sensor). (ticks sensor_tick 2 x).condition) three-ticks ∙ after_two level s

  pub three-new : (ticks sensor_tick 3 (turned_to level s)).condition ≡ level
  three-new = ap (λ (x : Sensor). (ticks sensor_tick 3 x).condition) three-ticks ∙ after-three level s
