-- What single moves do to a sensor: laws of `after_cause` by cause.
use mathlib.Core.Path.{◌≡◌, refl, sym, ap, ◌∙◌}
use mathlib.Core.Bool.{Bool, true, false, cond, beq, false≢true}
use Prim.Native.Nat.{ℕ, ◌-◌}
use native.Mathlib.Omega.{arith}
use lib.Dec.{eqb}
use borrow.Author.Tests.{eq-eqb, ne_eqb}
use Rattle.base.proofs.Cases.{cond-false}
use Rattle.phases.specs.declared.Phase.{Phase}
use Rattle.phases.specs.declared.Phase.TheVariants.{SS0, ST0, SS1, ST1, SS2}
use Rattle.std.specs.Prelude.{Option, Some, None}
use Rattle.phases.specs.declared.Cause.{Cause}
use Rattle.phases.specs.declared.Cause.TheVariants.{TrueAtOnce, TrueWaiting, FalseAtOnce, FalseWaiting, TimerEnds, EnabledTrueAtOnce, EnabledTrueWaiting, EnabledFalse}
use Rattle.sensor.specs.declared.single.Sensor.{Sensor}
use Rattle.phases.specs.Phases.{is_enabled, when_enabled, when_disabled, move_of, settled, level_after}
use Rattle.sensor.specs.Single.{fresh_sensor, moved, moved_by, with_level, with_timer, after_cause, timer_in, turn_cause, turned_to, enable_of, sensor_tick, power_cycle_of}
use Rattle.sensor.specs.Parts.{lowered_by}
use Rattle.sensor.specs.Turning.{timeout_to, waiting_at, settled_at, Turning}

settled-off : (p : Phase) (s : Sensor) → timer_in (settled p) s ≡ 0
settled-off SS0 s = refl
settled-off ST0 s = refl
settled-off SS1 s = refl
settled-off ST1 s = refl
settled-off SS2 s = refl

-- a timer that ends does not run any more
pub ended-stops : (s : Sensor) → (after_cause TimerEnds s).timer ≡ 0
unfolding after_cause move_of
ended-stops s = settled-off s.phase s

-- ---- a turn of the level, by side

enters-enabled : (p q : Phase) → is_enabled p ≡ true → when_enabled p q ≡ Some q
enters-enabled p q e = ap (λ (b : Bool). cond b (Some q) None) e

turn-cause : (l : Bool) (s : Sensor) (b : Bool) → eqb (timeout_to l s) 0 ≡ b
    → turn_cause l s ≡ cond l (cond b TrueAtOnce TrueWaiting) (cond b FalseAtOnce FalseWaiting)
turn-cause true s b e = ap (λ (x : Bool). cond x TrueAtOnce TrueWaiting) e
turn-cause false s b e = ap (λ (x : Bool). cond x FalseAtOnce FalseWaiting) e

turns : (l : Bool) (s : Sensor) (c : Cause) → beq l s.level ≡ false → turn_cause l s ≡ c → turned_to l s ≡ after_cause c s
unfolding turned_to
turns l s c e q = sym (cond-false (beq l s.level) s _ _ e (ap (λ (x : Cause). after_cause x s) (sym q)))

-- an enabled sensor whose level turns waits with the condition as it was, for as many ticks as its timeout says
pub turn-waits : (l : Bool) (s : Sensor) → is_enabled s.phase ≡ true → beq l s.level ≡ false → (timeout_to l s ≡ 0 → ⊥)
    → turned_to l s ≡ moved l (waiting_at l) s.condition (timeout_to l s) s
unfolding after_cause move_of
turn-waits true s e d n =
    turns true s TrueWaiting d (turn-cause true s false (ne_eqb (timeout_to true s) 0 n)) ∙ rw (enters-enabled s.phase ST0 e)
turn-waits false s e d n =
    turns false s FalseWaiting d (turn-cause false s false (ne_eqb (timeout_to false s) 0 n)) ∙ rw (enters-enabled s.phase ST1 e)

-- and settles at once where its timeout is 0
turn-settles : (l : Bool) (s : Sensor) → is_enabled s.phase ≡ true → beq l s.level ≡ false → timeout_to l s ≡ 0
    → turned_to l s ≡ moved l (settled_at l) l 0 s
unfolding after_cause move_of
turn-settles true s e d n =
    turns true s TrueAtOnce d (turn-cause true s true (eq-eqb (timeout_to true s) 0 n)) ∙ rw (enters-enabled s.phase SS1 e)
turn-settles false s e d n =
    turns false s FalseAtOnce d (turn-cause false s true (eq-eqb (timeout_to false s) 0 n)) ∙ rw (enters-enabled s.phase SS2 e)

-- the level of a disabled sensor turns alone
off-step : (l b : Bool) (s : Sensor) → s.phase ≡ SS0
    → after_cause (cond l (cond b TrueAtOnce TrueWaiting) (cond b FalseAtOnce FalseWaiting)) s ≡ with_level l s
unfolding after_cause move_of
off-step true true s e = rw e
off-step true false s e = rw e
off-step false true s e = rw e
off-step false false s e = rw e

pub same-level : (a b : Bool) → beq a b ≡ true → b ≡ a
same-level true true e = refl
same-level true false e = e
same-level false true e = sym e
same-level false false e = refl

-- ---- the level after a turn

pub move-level : (m : Option Phase) (s : Sensor) → (moved_by m s).level ≡ s.level
move-level None s = refl
move-level (Some p) s = refl

pub turn_level : (l : Bool) (s : Sensor) → level_after (turn_cause l s) s.level ≡ l
turn_level true s = go (eqb s.on_timeout 0)
  where
    go : (at_once : Bool) → level_after (cond at_once TrueAtOnce TrueWaiting) s.level ≡ true
    go true = refl
    go false = refl
turn_level false s = go (eqb s.off_timeout 0)
  where
    go : (at_once : Bool) → level_after (cond at_once FalseAtOnce FalseWaiting) s.level ≡ false
    go true = refl
    go false = refl

pub turned-level : (l : Bool) (s : Sensor) → (turned_to l s).level ≡ l
unfolding turned_to after_cause
turned-level l s = go (beq l s.level) refl
  where
    go : (b : Bool) → beq l s.level ≡ b → (cond b s (after_cause (turn_cause l s) s)).level ≡ l
    go true e = same-level l s.level e
    go false e = move-level (move_of s.phase (turn_cause l s)) (with_level (level_after (turn_cause l s) s.level) s) ∙ turn_level l s

turn-off : (l : Bool) (s : Sensor) → s.phase ≡ SS0 → turned_to l s ≡ with_level l s
unfolding turned_to
turn-off l s e = go (beq l s.level) refl
  where
    go : (b : Bool) → beq l s.level ≡ b → cond b s (after_cause (turn_cause l s) s) ≡ with_level l s
    go true h = ap (λ (x : Bool). with_level x s) (same-level l s.level h)
    go false h = ap (λ (c : Cause). after_cause c s) (turn-cause l s (eqb (timeout_to l s) 0) refl) ∙ off-step l (eqb (timeout_to l s) 0) s e

-- enabling an enabled sensor does nothing
enable-again : (s : Sensor) → is_enabled s.phase ≡ true → enable_of s ≡ s
unfolding enable_of after_cause move_of
enable-again s e = go s.level
  where
    stay : (q : Phase) → moved_by (when_disabled s.phase q) s ≡ s
    stay q = ap (λ (b : Bool). moved_by (cond b None (Some q)) s) e

    go : (l : Bool) → after_cause (cond l (cond (eqb s.on_timeout 0) EnabledTrueAtOnce EnabledTrueWaiting) EnabledFalse) s ≡ s
    go true = at (eqb s.on_timeout 0)
      where
        at : (b : Bool) → after_cause (cond b EnabledTrueAtOnce EnabledTrueWaiting) s ≡ s
        at true = stay SS1
        at false = stay ST0
    go false = stay SS2

pub turning : Turning
turning = record {
  at-once = λ l s t z. turn-settles l s t.enabled t.other z;
  waiting = λ l s t z. turn-waits l s t.enabled t.other z;
  disabled = turn-off;
  again = enable-again;
}

-- ---- a waiting sensor keeps its condition

abbrev pub is_waiting : Phase → Bool
is_waiting SS0 = false
is_waiting ST0 = true
is_waiting SS1 = false
is_waiting ST1 = true
is_waiting SS2 = false

move-keeps : (m : Option Phase) (s : Sensor) → is_waiting (moved_by m s).phase ≡ true → (moved_by m s).condition ≡ s.condition
move-keeps None s e = refl
move-keeps (Some SS0) s e = absurd (false≢true e)
move-keeps (Some ST0) s e = refl
move-keeps (Some SS1) s e = absurd (false≢true e)
move-keeps (Some ST1) s e = refl
move-keeps (Some SS2) s e = absurd (false≢true e)

-- a sensor that waits after a cause has the condition of before it
pub step_keeps : (c : Cause) (s : Sensor) → is_waiting (after_cause c s).phase ≡ true → (after_cause c s).condition ≡ s.condition
unfolding after_cause
step_keeps c s e = move-keeps (move_of s.phase c) (with_level (level_after c s.level) s) e

-- ---- the fresh sensor: its condition is FALSE, and it stays as it is

pub fresh-condition : fresh_sensor.condition ≡ false
unfolding fresh_sensor
fresh-condition = refl

pub fresh-tick : sensor_tick fresh_sensor ≡ fresh_sensor
unfolding sensor_tick fresh_sensor
fresh-tick = refl

pub fresh-lowered : (k : ℕ) → lowered_by k fresh_sensor ≡ fresh_sensor
unfolding fresh_sensor
fresh-lowered k = let e : 0 - k ≡ 0 = omega arith in ap (λ (t : ℕ). with_timer t fresh_sensor) e

pub fresh-power-cycle : power_cycle_of fresh_sensor ≡ fresh_sensor
unfolding power_cycle_of after_cause move_of fresh_sensor
fresh-power-cycle = refl
