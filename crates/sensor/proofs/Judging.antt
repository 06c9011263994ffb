-- The last reading of a sensor, and the record `Judging`. The level of every sensor that events reach is the one that its last reading gives: the
-- fresh one's is, and every method keeps it so.
use mathlib.Core.Path.{◌≡◌, refl, sym, ap, subst, ◌∙◌}
use Prim.Native.Nat.{ℕ, ◌-◌, ◌≤◌, ◌<◌}
use mathlib.Core.Bool.{Bool, true, false, cond, beq}
use lib.Dec.{eqb, ltb}
use borrow.Author.Tests.{ltb-false, lt-ltb, le-ltb}
use Rattle.base.proofs.Cases.{cond_either, cond-true, cond-false}
use Rattle.phases.specs.declared.Phase.{Phase}
use Rattle.phases.specs.declared.Phase.TheVariants.{SS0, SS2}
use Rattle.std.specs.Prelude.{Option, Some, None}
use Rattle.phases.specs.declared.Cause.{Cause}
use Rattle.phases.specs.declared.Cause.TheVariants.{TimerEnds, EnabledTrueAtOnce, EnabledTrueWaiting, EnabledFalse, Disabled}
use Rattle.phases.specs.Phases.{when_disabled, move_of, level_after}
use Rattle.sensor.specs.declared.single.Sensor.{Sensor}
use Rattle.sensor.specs.Level.{greatest_reading}
use Rattle.sensor.specs.Single.{fresh_sensor, moved, with_level, with_timer, with_reading, keeping, on_of, off_of, level_by, level_given, judged, moved_by, after_cause, turn_cause, turned_to, reading_of, enable_cause, enable_of, disable_of, power_cycle_of, sensor_tick}
use Rattle.sensor.specs.Sound.{InRange, Kept, UpToDate}
use Rattle.sensor.specs.Judging.{LastRead, NoReading, SameReading, Judging}
use Rattle.sensor.proofs.Levels.{rule-again}
use Rattle.sensor.proofs.Motion.{same-level, move-level, turn_level, turned-level}

pub fresh-up-to-date : UpToDate fresh_sensor
unfolding fresh_sensor level_given
fresh-up-to-date = record { level = refl; kept = record { range = tt } }

-- ---- a cause moves the level, the phase, the condition and the timer, and neither a column nor the last reading

-- the level that the last reading gives, from another level before
abbrev from : Sensor → Bool → Bool
from s l = level_by (on_of s) (off_of s) s.last_reading l

step-level : (c : Cause) (s : Sensor) → level_given (after_cause c s) ≡ from s (level_after c s.level)
unfolding after_cause level_given
step-level c s = go (move_of s.phase c)
  where
    go : (m : Option Phase) → level_given (moved_by m (with_level (level_after c s.level) s)) ≡ from s (level_after c s.level)
    go None = refl
    go (Some p) = refl

step-reading : (c : Cause) (s : Sensor) → SameReading s (after_cause c s)
unfolding after_cause
step-reading c s = go (move_of s.phase c)
  where
    go : (m : Option Phase) → SameReading s (moved_by m (with_level (level_after c s.level) s))
    go None = record { value = refl }
    go (Some p) = record { value = refl }

after-level : (c : Cause) (s : Sensor) → (after_cause c s).level ≡ level_after c s.level
unfolding after_cause
after-level c s = move-level (move_of s.phase c) (with_level (level_after c s.level) s)

same_kept : (s t : Sensor) → SameReading s t → Kept s → Kept t
same_kept s t e h = record { range = subst InRange (sym e.value) h.range }

-- a cause that leaves the level as it was
step-up-to-date : (c : Cause) (s : Sensor) → level_after c s.level ≡ s.level → UpToDate s → UpToDate (after_cause c s)
unfolding level_given
step-up-to-date c s e h = record {
  level = step-level c s ∙ ap (from s) e ∙ h.level ∙ sym (after-level c s ∙ e);
  kept = same_kept s (after_cause c s) (step-reading c s) h.kept;
}

-- ---- judging

turned-given : (l : Bool) (s : Sensor) → level_given (turned_to l s) ≡ from s l
unfolding turned_to level_given
turned-given l s = go (beq l s.level) refl
  where
    go : (b : Bool) → beq l s.level ≡ b → level_given (cond b s (after_cause (turn_cause l s) s)) ≡ from s l
    go true e = ap (from s) (same-level l s.level e)
    go false e = step-level (turn_cause l s) s ∙ ap (from s) (turn_level l s)

judged-reading : (s : Sensor) → SameReading s (judged s)
unfolding judged turned_to
judged-reading s =
    cond_either (SameReading s) (beq (level_given s) s.level) s (after_cause (turn_cause (level_given s) s) s) (λ e. record { value = refl })
    (λ e. step-reading (turn_cause (level_given s) s) s)

-- to judge a last reading once more changes nothing
given-again : (on off : ℕ) (last : Option ℕ) (l : Bool) → let m = level_by on off last l in level_by on off last m ≡ m
given-again on off None l = refl
given-again on off (Some v) l = rule-again on off v l

judged-level : (s : Sensor) → level_given (judged s) ≡ (judged s).level
unfolding judged level_given
judged-level s =
    turned-given (level_given s) s ∙ given-again (on_of s) (off_of s) s.last_reading s.level ∙ sym (turned-level (level_given s) s)

pub judged-up-to-date : (s : Sensor) → Kept s → UpToDate (judged s)
judged-up-to-date s h = record { level = judged-level s; kept = same_kept s (judged s) (judged-reading s) h }

pub reading-up-to-date : (v : ℕ) (s : Sensor) → UpToDate s → UpToDate (reading_of v s)
unfolding reading_of
reading-up-to-date v s h =
    cond_either UpToDate (ltb greatest_reading v) s (judged (keeping v s)) (λ e. h)
    (λ e. judged-up-to-date (keeping v s) (record { range = ltb-false greatest_reading v e }))

-- ---- ticks, enabling, disabling, power cycle

lowered-up-to-date : (t : ℕ) (s : Sensor) → UpToDate s → UpToDate (with_timer t s)
unfolding level_given
lowered-up-to-date t s h = record { level = h.level; kept = record { range = h.kept.range } }

pub tick-up-to-date : (s : Sensor) → UpToDate s → UpToDate (sensor_tick s)
unfolding sensor_tick
tick-up-to-date s h =
    cond_either UpToDate (eqb s.timer 0) s _ (λ e. h)
    (λ e. cond_either UpToDate (eqb s.timer 1) (after_cause TimerEnds s) (with_timer (s.timer - 1) s) (λ f. step-up-to-date TimerEnds s refl h)
    (λ f. lowered-up-to-date (s.timer - 1) s h))

tick-reading : (s : Sensor) → SameReading s (sensor_tick s)
unfolding sensor_tick
tick-reading s =
    cond_either (SameReading s) (eqb s.timer 0) s _ (λ e. record { value = refl })
    (λ e. cond_either (SameReading s) (eqb s.timer 1) (after_cause TimerEnds s) (with_timer (s.timer - 1) s)
    (λ f. step-reading TimerEnds s) (λ f. record { value = refl }))

enable-keeps : (s : Sensor) → level_after (enable_cause s) s.level ≡ s.level
enable-keeps s = go s.level (eqb s.on_timeout 0)
  where
    go : (l b : Bool) → level_after (cond l (cond b EnabledTrueAtOnce EnabledTrueWaiting) EnabledFalse) s.level ≡ s.level
    go true true = refl
    go true false = refl
    go false b = refl

pub enable-up-to-date : (s : Sensor) → UpToDate s → UpToDate (enable_of s)
unfolding enable_of
enable-up-to-date s h = step-up-to-date (enable_cause s) s (enable-keeps s) h

pub disable-up-to-date : (s : Sensor) → UpToDate s → UpToDate (disable_of s)
unfolding disable_of
disable-up-to-date s h = step-up-to-date Disabled s refl h

enable-reading : (s : Sensor) → SameReading s (enable_of s)
unfolding enable_of
enable-reading s = step-reading (enable_cause s) s

disable-reading : (s : Sensor) → SameReading s (disable_of s)
unfolding disable_of
disable-reading s = step-reading Disabled s

-- "with level FALSE it gives SS2"
pub enable-false : (s : Sensor) → s.phase ≡ SS0 → s.level ≡ false → enable_of s ≡ moved false SS2 false 0 s
unfolding enable_of after_cause move_of
enable-false s p l =
    ap (λ (b : Bool). after_cause (cond b (cond (eqb s.on_timeout 0) EnabledTrueAtOnce EnabledTrueWaiting) EnabledFalse) s) l
    ∙ ap (λ (q : Phase). moved_by (when_disabled q SS2) s) p ∙ ap (λ (b : Bool). moved b SS2 false 0 s) l

pub power-cycle-up-to-date : (s : Sensor) → UpToDate s → UpToDate (power_cycle_of s)
unfolding power_cycle_of level_given
power-cycle-up-to-date s h = record { level = refl; kept = record { range = tt } }

-- ---- document 02, #101, in its own words

granted : (v : ℕ) (s : Sensor) → v ≤ greatest_reading → reading_of v s ≡ judged (keeping v s)
unfolding reading_of
granted v s h = sym (cond-false (ltb greatest_reading v) s (judged (keeping v s)) _ (le-ltb greatest_reading v h) refl)

refused : (v : ℕ) (s : Sensor) → greatest_reading < v → reading_of v s ≡ s
unfolding reading_of
refused v s h = sym (cond-true (ltb greatest_reading v) s (judged (keeping v s)) _ (lt-ltb greatest_reading v h) refl)

kept : (v : ℕ) (s : Sensor) → v ≤ greatest_reading → LastRead v (reading_of v s)
kept v s h =
    let e = granted v s h in
    let k = judged-reading (keeping v s) in
    record { value = ap (λ (x : Sensor). x.last_reading) e ∙ k.value }

none_first : NoReading fresh_sensor
unfolding fresh_sensor
none_first = refl

none_after : (s : Sensor) → NoReading (power_cycle_of s)
unfolding power_cycle_of
none_after s = refl

again : (v : ℕ) (s : Sensor) → LastRead v s → v ≤ greatest_reading → judged s ≡ reading_of v s
again v s e h = ap (λ (last : Option ℕ). judged (with_reading last s)) e.value ∙ sym (granted v s h)

-- a level that is the given one stays, and all else with it
judged-same : (s : Sensor) → level_given s ≡ s.level → judged s ≡ s
unfolding judged turned_to
judged-same s e = ap (λ (l : Bool). turned_to l s) e ∙ go s.level
  where
    go : (l : Bool) → cond (beq l l) s (after_cause (turn_cause s.level s) s) ≡ s
    go true = refl
    go false = refl

no-reading : (s : Sensor) → NoReading s → judged s ≡ s
unfolding level_given
no-reading s e = judged-same s (ap (λ (last : Option ℕ). level_by (on_of s) (off_of s) last s.level) e)

pub judging : Judging
judging = record {
  kept = kept;
  refused = refused;
  none_first = none_first;
  none_after = none_after;
  tick-keeps = tick-reading;
  enable-keeps = enable-reading;
  disable-keeps = disable-reading;
  judged-keeps = judged-reading;
  again = again;
  no-reading = no-reading;
  nothing-waits = λ s j. judged-same s j.level;
}
