-- Document 01, 'Sensors', the paragraph on phases, in its own words: what turning and enabling come to, whatever the phase. It follows from
-- the rules of Single (theorem `turning` in proofs/Motion).
use Rattle.std.specs.Prelude.{ℕ, ◌≡◌, Bool, true, false, cond}
use Rattle.std.specs.Bool.{beq}
use Rattle.phases.specs.declared.Phase.{Phase}
use Rattle.phases.specs.declared.Phase.TheVariants.{SS0, ST0, SS1, ST1, SS2}
use Rattle.phases.specs.Phases.{is_enabled}
use Rattle.sensor.specs.declared.single.Sensor.{Sensor}
use Rattle.sensor.specs.Single.{moved, with_level, turned_to, enable_of}

-- the timeout of a turn to a level
abbrev pub timeout_to : Bool → Sensor → ℕ
timeout_to l s = cond l s.on_timeout s.off_timeout

-- "ST0 waiting with level TRUE", "ST1 waiting with level FALSE"
abbrev pub waiting_at : Bool → Phase
waiting_at l = cond l ST0 ST1

-- "SS1 settled TRUE", "SS2 settled FALSE"
abbrev pub settled_at : Bool → Phase
settled_at l = cond l SS1 SS2

-- an enabled sensor whose level turns
pub record Turns (l : Bool) (s : Sensor) : Type 0 where
  pub enabled : is_enabled s.phase ≡ true
  pub other : beq l s.level ≡ false

pub record Turning : Type 0 where
  -- "When an enabled sensor's level turns TRUE: on-timeout 0 gives SS1"; "Turning FALSE: off-timeout 0 gives SS2"
  pub at-once : (l : Bool) (s : Sensor) → Turns l s → timeout_to l s ≡ 0 → turned_to l s ≡ moved l (settled_at l) l 0 s
  -- "else ST0 with the timer set to it"; "else ST1 with the timer set to it"; "This also holds while waiting."
  pub waiting : (l : Bool) (s : Sensor) → Turns l s → (timeout_to l s ≡ 0 → ⊥) → turned_to l s ≡ moved l (waiting_at l) s.condition (timeout_to l s) s
  -- "Readings move the level of a disabled sensor too.", and nothing else of it
  pub disabled : (l : Bool) (s : Sensor) → s.phase ≡ SS0 → turned_to l s ≡ with_level l s
  -- "Enabling an enabled sensor does nothing."
  pub again : (s : Sensor) → is_enabled s.phase ≡ true → enable_of s ≡ s
