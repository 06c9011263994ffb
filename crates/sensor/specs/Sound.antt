-- What holds of every sensor that events reach: its timer, phase, level and condition agree, its fractions and its last reading are in their
-- ranges, and its level is the one that its last reading gives.
use Rattle.std.specs.Prelude.{ℕ, ◌≤◌, ◌≡◌, Bool, true, false, Option, Some, None}
use Rattle.phases.specs.declared.Phase.{Phase}
use Rattle.phases.specs.declared.Phase.TheVariants.{SS0, ST0, SS1, ST1, SS2}
use Rattle.sensor.specs.declared.single.Sensor.{Sensor}
use Rattle.sensor.specs.Level.{greatest_reading}
use Rattle.sensor.specs.Single.{greatest_number, greatest_fraction, level_given}

-- a timer runs exactly while the sensor waits
abbrev pub TimerAgrees : Phase → ℕ → Type 0
TimerAgrees SS0 t = t ≡ 0
TimerAgrees ST0 t = t ≡ 0 → ⊥
TimerAgrees SS1 t = t ≡ 0
TimerAgrees ST1 t = t ≡ 0 → ⊥
TimerAgrees SS2 t = t ≡ 0

-- "ST0 waiting with level TRUE, SS1 settled TRUE, ST1 waiting with level FALSE, SS2 settled FALSE": any level where the sensor is off
abbrev pub LevelAgrees : Phase → Bool → Type 0
LevelAgrees SS0 l = Unit {0}
LevelAgrees ST0 l = l ≡ true
LevelAgrees SS1 l = l ≡ true
LevelAgrees ST1 l = l ≡ false
LevelAgrees SS2 l = l ≡ false

-- "The condition is TRUE in SS1, FALSE in SS0 and SS2": either while the sensor waits
abbrev pub ConditionAgrees : Phase → Bool → Type 0
ConditionAgrees SS0 c = c ≡ false
ConditionAgrees ST0 c = Unit {0}
ConditionAgrees SS1 c = c ≡ true
ConditionAgrees ST1 c = Unit {0}
ConditionAgrees SS2 c = c ≡ false

pub record Sound (s : Sensor) : Type 0 where
  pub timer : TimerAgrees s.phase s.timer
  pub level : LevelAgrees s.phase s.level
  pub condition : ConditionAgrees s.phase s.condition
  pub on_fraction : s.on_fraction ≤ greatest_fraction
  pub off_fraction : s.off_fraction ≤ greatest_fraction

-- A last reading in its range: "Readings are thousandths, 0 to 4,294,967,295,999.", and one that is refused is not kept.
abbrev pub InRange : Option ℕ → Type 0
InRange None = Unit {0}
InRange (Some v) = v ≤ greatest_reading

pub record Kept (s : Sensor) : Type 0 where
  pub range : InRange s.last_reading

-- Document 02, #101: "Thresholds act when they are set." The level is the one that the last reading gives under the thresholds as they now
-- are: no threshold waits for the next reading.
pub record UpToDate (s : Sensor) : Type 0 where
  pub level : level_given s ≡ s.level
  pub kept : Kept s

-- "Thresholds and timeouts are 0 to 4,294,967,295": so no timer exceeds that either
pub record Timed (s : Sensor) : Type 0 where
  pub on : s.on_timeout ≤ greatest_number
  pub off : s.off_timeout ≤ greatest_number
  pub timer : s.timer ≤ greatest_number
