-- Document 01, 'Sensors', and document 02, #101: one sensor, what each event and each tick makes of it. A sensor's phase says whether it is
-- enabled, its timer runs where it is not 0, and its last reading counts where it has one; so every value of the type has a meaning, also one
-- that no event reaches.
use Rattle.std.specs.Prelude.{ℕ, ◌-◌, ◌≡◌, Bool, false, cond, List, [], ◌∷◌, eqb, ltb, Option, Some, None, Result, Ok, Err}
use Rattle.std.specs.Bool.{beq}
use Rattle.base.specs.Refusals.{TableRow, when, first_of}
use Rattle.answer.specs.Numbers.{number_of}
use Rattle.answer.specs.declared.Refusal.{Refusal}
use Rattle.phases.specs.declared.Phase.{Phase}
use Rattle.phases.specs.declared.Phase.TheVariants.{SS0, ST0, SS1, ST1, SS2}
use Rattle.phases.specs.declared.Cause.{Cause}
use Rattle.phases.specs.declared.Cause.TheVariants.{TrueAtOnce, TrueWaiting, FalseAtOnce, FalseWaiting, TimerEnds, EnabledTrueAtOnce, EnabledTrueWaiting, EnabledFalse, Disabled, PowerCycle}
use Rattle.sensor.specs.declared.single.Sensor.{Sensor}
use Rattle.phases.specs.Phases.{condition_in, move_of, level_after}
use Rattle.sensor.specs.Level.{greatest_reading, thousandths, level_rule}

-- "Thresholds and timeouts are 0 to 4,294,967,295; fractions 0 to 999."
abbrev pub greatest_number : ℕ
greatest_number = 4294967295

abbrev pub greatest_fraction : ℕ
greatest_fraction = 999

-- "Fresh: all columns 0, .. levels FALSE, phases SS0."; #101: "its last reading, none before the first"
unfoldable pub fresh_sensor : Sensor
fresh_sensor = record {
  on_threshold = 0;
  on_fraction = 0;
  on_timeout = 0;
  off_threshold = 0;
  off_fraction = 0;
  off_timeout = 0;
  level = false;
  phase = SS0;
  condition = false;
  timer = 0;
  last_reading = None;
}

-- the same columns, with another level, phase, condition and timer, and another last reading
abbrev pub standing : Bool → Phase → Bool → ℕ → Option ℕ → Sensor → Sensor
standing l p c t last s = record {
  on_threshold = s.on_threshold;
  on_fraction = s.on_fraction;
  on_timeout = s.on_timeout;
  off_threshold = s.off_threshold;
  off_fraction = s.off_fraction;
  off_timeout = s.off_timeout;
  level = l;
  phase = p;
  condition = c;
  timer = t;
  last_reading = last;
}

-- the same columns and last reading, with another level, phase, condition and timer
abbrev pub moved : Bool → Phase → Bool → ℕ → Sensor → Sensor
moved l p c t s = standing l p c t s.last_reading s

abbrev pub with_level : Bool → Sensor → Sensor
with_level l s = moved l s.phase s.condition s.timer s

abbrev pub with_timer : ℕ → Sensor → Sensor
with_timer t s = moved s.level s.phase s.condition t s

abbrev pub with_reading : Option ℕ → Sensor → Sensor
with_reading last s = standing s.level s.phase s.condition s.timer last s

-- #101: "A sensor row now keeps its last reading"
abbrev pub keeping : ℕ → Sensor → Sensor
keeping v s = with_reading (Some v) s

-- #101: "none .. after a power cycle", as in the fresh sensor
abbrev pub forgetting : Sensor → Sensor
forgetting s = with_reading None s

-- "ST0 with the timer set to it", "ST1 with the timer set to it": the timer as a phase is entered. In the others no timer runs.
abbrev pub timer_in : Phase → Sensor → ℕ
timer_in SS0 s = 0
timer_in ST0 s = s.on_timeout
timer_in SS1 s = 0
timer_in ST1 s = s.off_timeout
timer_in SS2 s = 0

-- the sensor as it enters a phase
abbrev pub entering : Phase → Sensor → Sensor
entering p s = moved s.level p (condition_in p s.condition) (timer_in p s) s

-- by the table: the phase that is entered, or none where the sensor stays
abbrev pub moved_by : Option Phase → Sensor → Sensor
moved_by None s = s
moved_by (Some p) s = entering p s

-- the sensor after a cause
unfoldable pub after_cause : Cause → Sensor → Sensor
after_cause c s = moved_by (move_of s.phase c) (with_level (level_after c s.level) s)

-- On and Off, in thousandths
abbrev pub on_of : Sensor → ℕ
on_of s = thousandths s.on_threshold s.on_fraction

abbrev pub off_of : Sensor → ℕ
off_of s = thousandths s.off_threshold s.off_fraction

-- the level that a last reading gives by the level rule. #101: "With no reading the level stays."
abbrev pub level_by : (on off : ℕ) → Option ℕ → Bool → Bool
level_by on off None level = level
level_by on off (Some v) level = level_rule on off v level

-- the level that its own last reading gives, which is not always the level that the sensor has
unfoldable pub level_given : Sensor → Bool
level_given s = level_by (on_of s) (off_of s) s.last_reading s.level

-- "When an enabled sensor's level turns TRUE: on-timeout 0 ..", "Turning FALSE: off-timeout 0 ..": which cause a turn is
abbrev pub turn_cause : Bool → Sensor → Cause
turn_cause l s =
    cond l (cond (eqb s.on_timeout 0) TrueAtOnce TrueWaiting) (cond (eqb s.off_timeout 0) FalseAtOnce FalseWaiting)

-- the sensor once its level is l: it turns only where the level was another
unfoldable pub turned_to : Bool → Sensor → Sensor
turned_to l s = cond (beq l s.level) s (after_cause (turn_cause l s) s)

-- #101: "judges that reading again by the level rule": the one judging, of a reading and of a Set
unfoldable pub judged : Sensor → Sensor
judged s = turned_to (level_given s) s

-- 2 "out of range: a field exceeds its range": the refusals of a reading of a sensor that is there
abbrev pub reading_refusals : ℕ → List TableRow
reading_refusals v = when 2 (ltb greatest_reading v) ∷ []

abbrev pub reading_answer : ℕ → ℕ
reading_answer v = first_of (reading_refusals v)

-- a reading becomes the last one, and is judged; one that is refused is not kept
unfoldable pub reading_of : ℕ → Sensor → Sensor
reading_of v s = cond (ltb greatest_reading v) s (judged (keeping v s))

-- "Enabling with level TRUE acts as turning TRUE; with level FALSE it gives SS2.": which cause enabling is
abbrev pub enable_cause : Sensor → Cause
enable_cause s = cond s.level (cond (eqb s.on_timeout 0) EnabledTrueAtOnce EnabledTrueWaiting) EnabledFalse

unfoldable pub enable_of : Sensor → Sensor
enable_of s = after_cause (enable_cause s) s

-- "Disabling gives SS0 and stops the timer."
unfoldable pub disable_of : Sensor → Sensor
disable_of s = after_cause Disabled s

-- "A power cycle then sets each level FALSE and each sensor to SS2 if enabled, else SS0, timers stopped, columns kept.";
-- #101: "none .. after a power cycle"
unfoldable pub power_cycle_of : Sensor → Sensor
power_cycle_of s = forgetting (after_cause PowerCycle s)

-- "One tick takes 1 from every running timer; those that reach 0 settle"
unfoldable pub sensor_tick : Sensor → Sensor
sensor_tick s = cond (eqb s.timer 0) s (cond (eqb s.timer 1) (after_cause TimerEnds s) (with_timer (s.timer - 1) s))

-- the timer runs; it ends at the next tick
abbrev pub runs : Sensor → Bool
runs s = ltb 0 s.timer

abbrev pub ends_next : Sensor → Bool
ends_next s = eqb s.timer 1

-- What a reading or a Set hands back: the sensor, or a refusal by its number in the table. A refused call hands back no sensor, and the
-- caller's own is as it was.
abbrev pub Answers : (number : ℕ) (after : Sensor) → Result Sensor Refusal → Type 0
Answers number after (Ok s) = (number ≡ 0) × (s ≡ after)
Answers number after (Err r) = number_of r ≡ number
