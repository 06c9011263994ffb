-- Document 01, 'Points worked by hand; a star means proved': the starred cases, as document 02 amends them, over the definitions that the contracts cite.
use Rattle.std.specs.Prelude.{ℕ, ◌≡◌, Bool, true, false, cond, List, [], ◌∷◌, length, get_or}
use Rattle.std.specs.Bool.{beq}
use Rattle.base.specs.Rows.{is_row}
use Rattle.base.specs.Ticks.{ticks}
use Rattle.phases.specs.Phases.{is_enabled}
use Rattle.sensor.specs.declared.single.Sensor.{Sensor}
use Rattle.sensor_set.specs.declared.SensorColumns.{SensorColumns}
use Rattle.sensor.specs.Single.{fresh_sensor, on_of, off_of, reading_of, turned_to}
use Rattle.sensor.specs.Single.{sensor_tick}
use Rattle.expression.specs.declared.Part.TheVariants.{Reference, Operator}
use Rattle.expression.specs.declared.Element.{Element}
use Rattle.expression.specs.Elements.{element}
use Rattle.evaluator.specs.declared.Evaluation.TheVariants.{True, False, Malformed}
use Rattle.evaluator.specs.Value.{value_of}
use Rattle.token_reader.specs.Format.{bytes_of}
use Rattle.token_reader.specs.Read.{read_tokens, elements}
use Rattle.band_columns.specs.declared.BandColumns.{BandColumns}
use Rattle.drive.specs.declared.Drive.{Drive}
use Rattle.drive.specs.State.{fresh_drive}
use Rattle.drive.specs.Events.{reading, elapse, sensor_set, band_set, geometry, transfer, answer_of, step_of, stops_of, run_of}

abbrev pub row : ℕ → Element
row n = element (Reference n)

-- "00 AND, 01 OR or 02 NOT"
abbrev pub AND : Element
AND = element (Operator 0)

abbrev pub OR : Element
OR = element (Operator 1)

abbrev pub NOT : Element
NOT = element (Operator 2)

-- F0, the operator AND, F1
abbrev pub and_tokens : List ℕ
and_tokens = 0xF0 ∷ 0xF2 ∷ 0xA4 ∷ 0x00 ∷ 0x00 ∷ 0x04 ∷ 0x0E ∷ 0x00 ∷ 0xF3 ∷ 0xF1 ∷ []

-- a drive of 1,000 blocks, two bands and two sensors, with nothing stored
abbrev pub small : Drive
small = fresh_drive 1000 2 2

-- a band Set that names the expression alone
abbrev pub expression_alone : BandColumns
expression_alone = record {
  mask = 32;
  read_lock_enabled = 0;
  write_lock_enabled = 0;
  read_locked = 0;
  write_locked = 0;
  lock_on_reset = 0;
}

-- a sensor Set: enabled, On = Off = 5,000, on-timeout 3
abbrev pub on_timeout_three : SensorColumns
on_timeout_three = record {
  mask = 27;
  enabled = 1;
  on_threshold = 5;
  on_fraction = 0;
  on_timeout = 3;
  off_threshold = 5;
  off_fraction = 0;
  off_timeout = 0;
}

-- the small drive with both sensors set so and read at 5,000: both timers have 3 ticks to go
abbrev pub waiting : Drive
waiting = run_of small (sensor_set 0 on_timeout_three ∷ sensor_set 1 on_timeout_three ∷ reading 0 5000 ∷ reading 1 5000 ∷ [])

pub record Starred : Type 0 where
  -- "2 1 AND 3 OR 0 AND takes 74 bytes."
  pub takes-74 : length (bytes_of (row 2 ∷ row 1 ∷ AND ∷ row 3 ∷ OR ∷ row 0 ∷ AND ∷ [])) ≡ 74
  -- "F0 F1 is FALSE.": it reads to no elements, and their value is FALSE whatever the conditions
  pub empty-reads : read_tokens (0xF0 ∷ 0xF1 ∷ []) ≡ elements []
  pub empty-false : (conditions : List Bool) → value_of conditions [] ≡ False
  -- document 02, #104: "The case of AND alone is amended.": it reads as tokens, and evaluation says malformed
  pub and-reads : read_tokens and_tokens ≡ elements (AND ∷ [])
  pub and-malformed : (conditions : List Bool) → value_of conditions (AND ∷ []) ≡ Malformed
  -- a Set of it is refused with 13 on every drive that has the band, and the drive stays as it was, with the band's row
  pub and-refused : (d : Drive) (band : ℕ) → is_row d.band_count band ≡ true → answer_of d (band_set band expression_alone and_tokens) ≡ 13
  pub and_kept : (d : Drive) (band : ℕ) → step_of d (band_set band expression_alone and_tokens) ≡ d
  -- "NOT of row 99 is TRUE."
  pub not-99 : (conditions : List Bool) → length conditions ≡ 16 → value_of conditions (row 99 ∷ NOT ∷ []) ≡ True
  -- "On = Off = 5,000: 4,999 FALSE, 5,000 TRUE.": the level after the reading, whatever it was
  pub below_both : (s : Sensor) → on_of s ≡ 5000 → off_of s ≡ 5000 → (reading_of 4999 s).level ≡ false
  pub at_both : (s : Sensor) → on_of s ≡ 5000 → off_of s ≡ 5000 → (reading_of 5000 s).level ≡ true
  -- "On 2,000, Off 3,000: 3,000 keeps, 3,001 FALSE."
  pub at_off : (s : Sensor) → on_of s ≡ 2000 → off_of s ≡ 3000 → (reading_of 3000 s).level ≡ s.level
  pub above-off : (s : Sensor) → on_of s ≡ 2000 → off_of s ≡ 3000 → (reading_of 3001 s).level ≡ false
  -- "Timeout 3: after 2 ticks the condition is old, after 3 new.": of every enabled sensor whose level turns, to either side
  pub two-old : (level : Bool) (s : Sensor) → is_enabled s.phase ≡ true → beq level s.level ≡ false
      → cond level s.on_timeout s.off_timeout ≡ 3 → (ticks sensor_tick 2 (turned_to level s)).condition ≡ s.condition
  pub three-new : (level : Bool) (s : Sensor) → is_enabled s.phase ≡ true → beq level s.level ≡ false
      → cond level s.on_timeout s.off_timeout ≡ 3 → (ticks sensor_tick 3 (turned_to level s)).condition ≡ level
  -- the same by events, of sensor 0
  pub elapse-2 : (get_or (step_of waiting (elapse 2)).sensors 0 fresh_sensor).condition ≡ false
  pub elapse-3 : (get_or (step_of waiting (elapse 3)).sensors 0 fresh_sensor).condition ≡ true
  -- "Timers 3 and 3, elapse 3: 1 stop."
  pub first-timer : (get_or waiting.sensors 0 fresh_sensor).timer ≡ 3
  pub second-timer : (get_or waiting.sensors 1 fresh_sensor).timer ≡ 3
  pub one-stop : stops_of waiting (elapse 3) ≡ 1
  -- "Capacity 1,000: start 1,000 length 0 done; start 1,000 length 1 past end.": a geometry, and a transfer of either direction
  pub place-at-end : answer_of small (geometry 1 1000 0) ≡ 0
  pub place-past-end : answer_of small (geometry 1 1000 1) ≡ 6
  pub read-at-end : answer_of small (transfer 0 1000 0) ≡ 0
  pub read-past-end : answer_of small (transfer 0 1000 1) ≡ 6
  pub write-at-end : answer_of small (transfer 1 1000 0) ≡ 0
  pub write-past-end : answer_of small (transfer 1 1000 1) ≡ 6
