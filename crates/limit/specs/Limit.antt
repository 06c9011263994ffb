-- Document 02, #103, 'Limit test out of the evaluator's loop': the value, malformed too, with the count of sensors tested at each reference, and that it is the
-- evaluator's value under conditions which are filled before the walk (theorem `limit-test` in proofs/Limit). The array of sensors is a list here,
-- of any length.
use Rattle.std.specs.Prelude.{ℕ, ◌≤◌, ◌<◌, ◌≡◌, Bool, false, cond, List, map, ltb, length, take}
use Rattle.sensor.specs.declared.single.Sensor.{Sensor}
use Rattle.sensors.specs.Sixteen.{conditions_below}
use Rattle.expression.specs.declared.Element.{Element}
use Rattle.evaluator.specs.declared.Evaluation.{Evaluation}
use Rattle.evaluator.specs.Value.{condition_at, value_by, value_of}

-- every sensor's own condition, whatever the count
abbrev pub own_conditions : List Sensor → List Bool
own_conditions sensors = map (λ s. s.condition) sensors

-- The limit test, made at a reference: a row at or above the count is absent, so FALSE; else it is that sensor's condition (and FALSE for a row
-- that no sensor has, where the count is above their number).
abbrev pub tested_condition : ℕ → List Sensor → ℕ → Bool
tested_condition count sensors row = cond (ltb row count) (condition_at (own_conditions sensors) row) false

-- the walk with that test inside: TRUE, FALSE or malformed
unfoldable pub tested_value : ℕ → List Sensor → List Element → Evaluation
tested_value count sensors es = value_by (tested_condition count sensors) es

pub record LimitTest : Type 0 where
  -- "the evaluator shall take sixteen conditions": as many as there are sensors, whatever the count
  pub sixteen : (count : ℕ) (sensors : List Sensor) → length (conditions_below count sensors) ≡ length sensors
  -- "they are filled once before the walk, FALSE for rows at or above the count"
  pub absent : (count : ℕ) (sensors : List Sensor) (row : ℕ) → count ≤ row → condition_at (conditions_below count sensors) row ≡ false
  -- and below it with the sensors' own
  pub present : (count : ℕ) (sensors : List Sensor) (row : ℕ) → row < count
      → condition_at (conditions_below count sensors) row ≡ condition_at (own_conditions sensors) row
  -- "Values stay, for every element list and every count.": all three
  pub values-stay : (count : ℕ) (sensors : List Sensor) (es : List Element)
      → value_of (conditions_below count sensors) es ≡ tested_value count sensors es
  -- what the sensors at or above the count hold makes no difference
  pub none_above : (count : ℕ) (sensors others : List Sensor) (es : List Element) → take count sensors ≡ take count others
      → tested_value count sensors es ≡ tested_value count others es
  -- and a count above all of them has them all
  pub all-below : (count : ℕ) (sensors : List Sensor) (es : List Element) → length sensors ≤ count
      → tested_value count sensors es ≡ value_of (own_conditions sensors) es
  -- where every sensor at or above the count is FALSE, as on each drive that events reach, the test makes no difference
  pub all-false-above : (count : ℕ) (sensors : List Sensor)
      → ((row : ℕ) → count ≤ row → condition_at (own_conditions sensors) row ≡ false)
      → conditions_below count sensors ≡ own_conditions sensors
