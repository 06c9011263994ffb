-- How long a condition lags: a timer with T ticks to go leaves the condition as it is for T - 1 ticks, and at the T-th it equals the level.
use mathlib.Core.Path.{◌≡◌, refl, sym, ap, ◌∙◌}
use mathlib.Core.Bool.{Bool}
use Prim.Native.Nat.{ℕ, ◌+◌, ◌-◌, ◌<◌}
use native.Mathlib.Omega.{arith}
use Rattle.base.specs.Ticks.{ticks}
use Rattle.base.proofs.Jumps.{quiet-ticks, ticks-add}
use Rattle.phases.specs.declared.Phase.{Phase}
use Rattle.phases.specs.declared.Phase.TheVariants.{SS0, ST0, SS1, ST1, SS2}
use Rattle.phases.specs.declared.Cause.TheVariants.{TimerEnds}
use Rattle.sensor.specs.declared.single.Sensor.{Sensor}
use Rattle.phases.specs.Phases.{condition_in, settled, move_of}
use Rattle.sensor.specs.Single.{sensor_tick, after_cause, ends_next}
use Rattle.sensor.specs.Parts.{lowered_by}
use Rattle.sensor.specs.Sound.{TimerAgrees, LevelAgrees, Sound}
use Rattle.sensor.proofs.Ticks.{QuietFor, quiet-below, sensor-jumps, tick-last}

lowered : (k : ℕ) (s : Sensor) → k < s.timer → ticks sensor_tick k s ≡ lowered_by k s
lowered k s h =
    quiet-ticks sensor_tick ends_next lowered_by (λ n x. QuietFor n x.timer) sensor-jumps k s (quiet-below k s.timer h)

pub lag-old : (s : Sensor) (k : ℕ) → k < s.timer → (ticks sensor_tick k s).condition ≡ s.condition
lag-old s k h = ap (λ (x : Sensor). x.condition) (lowered k s h)

-- a sound sensor whose timer runs settles at its level
settles : (p : Phase) (t : ℕ) (l c : Bool) → TimerAgrees p t → LevelAgrees p l → 0 < t → condition_in (settled p) c ≡ l
settles SS0 t l c e k h = absurd (omega arith)
settles ST0 t l c e k h = sym k
settles SS1 t l c e k h = absurd (omega arith)
settles ST1 t l c e k h = sym k
settles SS2 t l c e k h = absurd (omega arith)

ended : (s : Sensor) → (after_cause TimerEnds s).condition ≡ condition_in (settled s.phase) s.condition
unfolding after_cause move_of
ended s = refl

pub lag-new : (s : Sensor) → Sound s → 0 < s.timer → (ticks sensor_tick s.timer s).condition ≡ s.level
unfolding ticks
lag-new s v h =
    let k : ℕ = s.timer - 1 in
    let e : s.timer ≡ k + 1 = omega arith in
    ap (λ (n : ℕ). (ticks sensor_tick n s).condition) e
    ∙ ap (λ (x : Sensor). x.condition)
    (ticks-add sensor_tick k 1 s ∙ ap sensor_tick (lowered k s (omega arith)) ∙ tick-last (lowered_by k s) (omega arith))
    ∙ ended (lowered_by k s)
    ∙ settles s.phase s.timer s.level s.condition v.timer v.level h
