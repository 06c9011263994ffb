-- The limit test at each reference, or before the walk: the record `LimitTest`.
use Prim.Native.Nat.{ℕ, zero, suc, ◌≤◌, ◌<◌}
use mathlib.Core.Path.{◌≡◌, refl, sym, ap, ◌∙◌}
use mathlib.Core.Bool.{Bool, true, false, cond}
use mathlib.Core.List.{List, [], ◌∷◌}
use native.Mathlib.Omega.{arith}
use lib.Dec.{ltb}
use lib.ListN.{length, get_or, take, length-map, get_or-map, get_or-eq_default}
use lib.Seq.{get_or-take}
use borrow.Author.Tests.{ltb-true, ltb-false}
use Rattle.sensor.specs.declared.single.Sensor.{Sensor}
use Rattle.sensor.specs.Single.{fresh_sensor}
use Rattle.sensor.proofs.Motion.{fresh-condition}
use Rattle.sensors.specs.Sixteen.{conditions_below}
use Rattle.sensors.proofs.Gather.{condition-below, condition-past}
use Rattle.expression.specs.declared.Element.{Element}
use Rattle.evaluator.specs.declared.Evaluation.{Evaluation}
use Rattle.evaluator.specs.Value.{condition_at, value_of}
use Rattle.evaluator.proofs.Mentions.{value-agree}
use Rattle.limit.specs.Limit.{own_conditions, tested_condition, tested_value, LimitTest}

sixteen : (count : ℕ) (l : List Sensor) → length (conditions_below count l) ≡ length l
unfolding conditions_below
sixteen count [] = refl
sixteen zero (s ∷ l) = ap suc (sixteen zero l)
sixteen (suc n) (s ∷ l) = ap suc (sixteen n l)

-- a sensor's own condition, FALSE past them all as that of the fresh one is
pub own_at : (l : List Sensor) (row : ℕ) → condition_at (own_conditions l) row ≡ (get_or l row fresh_sensor).condition
own_at l row =
    ap (λ (b : Bool). get_or (own_conditions l) row b) (sym fresh-condition) ∙ get_or-map (λ (s : Sensor). s.condition) l row fresh_sensor

present : (count : ℕ) (l : List Sensor) (row : ℕ) → row < count → condition_at (conditions_below count l) row ≡ condition_at (own_conditions l) row
present count l row h = condition-below count l row h ∙ sym (own_at l row)

-- a condition that was filled is the one that the test gives
filled : (count : ℕ) (l : List Sensor) (row : ℕ) → condition_at (conditions_below count l) row ≡ tested_condition count l row
filled count l row = go (ltb row count) refl
  where
    go : (t : Bool) → ltb row count ≡ t → condition_at (conditions_below count l) row ≡ cond t (condition_at (own_conditions l) row) false
    go true e = present count l row (ltb-true row count e)
    go false e = condition-past count l row (ltb-false row count e)

values-stay : (count : ℕ) (l : List Sensor) (es : List Element) → value_of (conditions_below count l) es ≡ tested_value count l es
unfolding value_of tested_value
values-stay count l es = value-agree (condition_at (conditions_below count l)) (tested_condition count l) es (λ row m. filled count l row)

-- the evaluator's value, under the conditions that were filled
pub tied : (count : ℕ) (l : List Sensor) (es : List Element) (conditions : List Bool) (v : Evaluation) → conditions ≡ conditions_below count l
    → v ≡ value_of conditions es → v ≡ tested_value count l es
tied count l es conditions v f h = h ∙ ap (λ (cs : List Bool). value_of cs es) f ∙ values-stay count l es

none_above : (count : ℕ) (l k : List Sensor) (es : List Element) → take count l ≡ take count k → tested_value count l es ≡ tested_value count k es
unfolding tested_value
none_above count l k es h =
    value-agree (tested_condition count l) (tested_condition count k) es (λ row q. go row (ltb row count) refl)
  where
    at : (row : ℕ) → row < count → condition_at (own_conditions l) row ≡ condition_at (own_conditions k) row
    at row q =
        own_at l row
        ∙ ap (λ (s : Sensor). s.condition)
        (sym (get_or-take count l row fresh_sensor q)
        ∙ ap (λ (m : List Sensor). get_or m row fresh_sensor) h
        ∙ get_or-take count k row fresh_sensor q)
        ∙ sym (own_at k row)

    go : (row : ℕ) (t : Bool) → ltb row count ≡ t
        → cond t (condition_at (own_conditions l) row) false ≡ cond t (condition_at (own_conditions k) row) false
    go row true e = at row (ltb-true row count e)
    go row false e = refl

all-false-above : (count : ℕ) (l : List Sensor) → ((row : ℕ) → count ≤ row → condition_at (own_conditions l) row ≡ false)
    → conditions_below count l ≡ own_conditions l
unfolding conditions_below
all-false-above count [] h = refl
all-false-above zero (s ∷ l) h =
    ap (λ (b : Bool). b ∷ conditions_below zero l) (sym (h 0 (omega arith)))
    ∙ ap (λ (m : List Bool). s.condition ∷ m) (all-false-above zero l (λ row k. h (suc row) (omega arith)))
all-false-above (suc n) (s ∷ l) h = ap (λ (m : List Bool). s.condition ∷ m) (all-false-above n l (λ row k. h (suc row) (omega arith)))

-- past all of them there is nothing that could be TRUE
all-below : (count : ℕ) (l : List Sensor) (es : List Element) → length l ≤ count → tested_value count l es ≡ value_of (own_conditions l) es
all-below count l es h =
    sym (values-stay count l es) ∙ ap (λ (cs : List Bool). value_of cs es) (all-false-above count l past)
  where
    past : (row : ℕ) → count ≤ row → condition_at (own_conditions l) row ≡ false
    past row k = get_or-eq_default (own_conditions l) false (omega (arith, length-map l (λ (s : Sensor). s.condition)))

pub limit-test : LimitTest
limit-test = record {
  sixteen = sixteen;
  absent = condition-past;
  present = present;
  values-stay = values-stay;
  none_above = none_above;
  all-below = all-below;
  all-false-above = all-false-above;
}
