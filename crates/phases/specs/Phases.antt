-- Document 01, 'Sensors', the paragraph on phases: what each cause does in each phase. Every rule goes by its cause.
use Rattle.std.specs.Prelude.{ℕ, Bool, true, false, cond, Option, Some, None}
use Rattle.phases.specs.declared.Phase.{Phase}
use Rattle.phases.specs.declared.Phase.TheVariants.{SS0, ST0, SS1, ST1, SS2}
use Rattle.phases.specs.declared.Cause.{Cause}
use Rattle.phases.specs.declared.Cause.TheVariants.{
  TrueAtOnce,
  TrueWaiting,
  FalseAtOnce,
  FalseWaiting,
  TimerEnds,
  EnabledTrueAtOnce,
  EnabledTrueWaiting,
  EnabledFalse,
  Disabled,
  PowerCycle,
}

-- "In the listing they are 0, 1, 2, 3, 4."
abbrev pub phase_number : Phase → ℕ
phase_number SS0 = 0
phase_number ST0 = 1
phase_number SS1 = 2
phase_number ST1 = 3
phase_number SS2 = 4

-- "SS0 off": a sensor is enabled when its phase is not SS0.
abbrev pub is_enabled : Phase → Bool
is_enabled SS0 = false
is_enabled ST0 = true
is_enabled SS1 = true
is_enabled ST1 = true
is_enabled SS2 = true

-- "The condition is TRUE in SS1, FALSE in SS0 and SS2, and keeps its former value in ST0 and ST1."
abbrev pub condition_in : Phase → Bool → Bool
condition_in SS0 former = false
condition_in ST0 former = former
condition_in SS1 former = true
condition_in ST1 former = former
condition_in SS2 former = false

-- "When an enabled sensor's level turns TRUE: on-timeout 0 gives SS1, else ST0": the phase, by whether the timeout is 0. Slip two: from SS2 too.
abbrev pub turned_true : Bool → Phase
turned_true at_once = cond at_once SS1 ST0

-- "Turning FALSE: off-timeout 0 gives SS2, else ST1"
abbrev pub turned_false : Bool → Phase
turned_false at_once = cond at_once SS2 ST1

-- ".. an enabled sensor's level ..": a turn moves an enabled sensor, whatever its phase ("This also holds while waiting."), and no other.
abbrev pub when_enabled : Phase → Phase → Option Phase
when_enabled before after = cond (is_enabled before) (Some after) None

-- "Enabling an enabled sensor does nothing."
abbrev pub when_disabled : Phase → Phase → Option Phase
when_disabled before after = cond (is_enabled before) None (Some after)

-- "those that reach 0 settle": at the level with which the sensor waits. One that does not wait keeps its phase, and its timer stops.
abbrev pub settled : Phase → Phase
settled SS0 = SS0
settled ST0 = SS1
settled SS1 = SS1
settled ST1 = SS2
settled SS2 = SS2

-- "A power cycle then sets .. each sensor to SS2 if enabled, else SS0"
abbrev pub power_cycled : Phase → Phase
power_cycled before = cond (is_enabled before) SS2 SS0

-- The move of a phase, by cause: the phase that is entered anew, or none where the sensor stays. "Enabling with level TRUE acts as turning TRUE; with level FALSE it gives SS2." "Disabling gives SS0".
unfoldable pub move_of : Phase → Cause → Option Phase
move_of p TrueAtOnce = when_enabled p (turned_true true)
move_of p TrueWaiting = when_enabled p (turned_true false)
move_of p FalseAtOnce = when_enabled p (turned_false true)
move_of p FalseWaiting = when_enabled p (turned_false false)
move_of p TimerEnds = Some (settled p)
move_of p EnabledTrueAtOnce = when_disabled p (turned_true true)
move_of p EnabledTrueWaiting = when_disabled p (turned_true false)
move_of p EnabledFalse = when_disabled p SS2
move_of p Disabled = Some SS0
move_of p PowerCycle = Some (power_cycled p)

-- A move by the numbers that phases have in the listing: the number after it, from the number before it. "does nothing": the number stays;
-- "gives SS1", "else ST0", ..: it is that phase's.
abbrev pub number_after : Option Phase → ℕ → ℕ
number_after None before = before
number_after (Some p) before = phase_number p

-- The level after a cause: a turn is a change of the level, and "A power cycle then sets each level FALSE".
abbrev pub level_after : Cause → Bool → Bool
level_after TrueAtOnce before = true
level_after TrueWaiting before = true
level_after FalseAtOnce before = false
level_after FalseWaiting before = false
level_after TimerEnds before = before
level_after EnabledTrueAtOnce before = before
level_after EnabledTrueWaiting before = before
level_after EnabledFalse before = before
level_after Disabled before = before
level_after PowerCycle before = false
