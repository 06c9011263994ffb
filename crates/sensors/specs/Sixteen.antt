-- Document 01, 'Sensors': the sensors of a drive. Its array is a list here; all sixteen tick, whatever the header counts.
use Rattle.std.specs.Prelude.{◌≡◌, ℕ, zero, suc, ◌≤◌, Bool, false, List, [], ◌∷◌, map}
use Rattle.base.specs.Lists.{any}
use Rattle.base.specs.Lists.{count as count_of}
use Rattle.base.specs.Ticks.{ticks}
use Rattle.base.specs.Ticks.{stops as stops_in}
use Rattle.sensor.specs.declared.single.Sensor.{Sensor}
use Rattle.sensor.specs.Single.{sensor_tick, runs, ends_next}

-- "FALSE if that row is absent": the conditions, FALSE at and above the count
unfoldable pub conditions_below : ℕ → List Sensor → List Bool
conditions_below n [] = []
conditions_below zero (s ∷ l) = false ∷ conditions_below zero l
conditions_below (suc n) (s ∷ l) = s.condition ∷ conditions_below n l

-- What n ticks of the sensors hand back and leave: the count of their stops, "which is at most the number of timers running at its start",
-- and the sensors after them.
pub record Passes (n : ℕ) (l : List Sensor) (r : ℕ) (after : List Sensor) : Type 0 where
  pub sensors : after ≡ ticks (map sensor_tick) n l
  pub stops : r ≡ stops_in (map sensor_tick) (any ends_next) n l
  pub few : r ≤ count_of runs l
