-- What the code does in an elapse of the sensors: one tick, and the quiet ticks after it.
use Rattle.std.specs.Prelude.{ℕ, ◌-◌, cond, eqb}
use mathlib.Core.List.{List, foldl, map}
use Rattle.base.specs.Lists.{any, one_if}
use Rattle.sensor.specs.declared.single.Sensor.{Sensor}
use Rattle.sensor.specs.Single.{sensor_tick, ends_next}
use Rattle.sensor.specs.Parts.{lowered_by, quiet_of}
use Rattle.sensors.specs.declared.Turn.{Turn}

-- the ticks that pass before some timer ends, n at most
unfoldable pub quiet_ticks : ℕ → List Sensor → ℕ
quiet_ticks n l = foldl quiet_of n l

-- what a turn of an elapse leaves: the sensors, the ticks that are still to pass, and its stops
pub record Turned : Type 0 where
  pub sensors : List Sensor
  pub left : ℕ
  pub stops : ℕ

-- of what the function hands back, and of the sensors that it was lent
abbrev pub turned_in : Turn → List Sensor → Turned
turned_in r after = record { sensors = after; left = r.left; stops = r.stops }

-- one tick, and the quiet ticks after it, n at most
abbrev pub tick_and_quiet : ℕ → List Sensor → Turned
tick_and_quiet n l = record {
  sensors = map (lowered_by (quiet_ticks n (map sensor_tick l))) (map sensor_tick l);
  left = n - quiet_ticks n (map sensor_tick l);
  stops = one_if (any ends_next l);
}

-- a turn of an elapse, of n ticks that are to pass; nothing where there are none
unfoldable pub turn_of : ℕ → List Sensor → Turned
turn_of n l = cond (eqb n 0) (record { sensors = l; left = 0; stops = 0 }) (tick_and_quiet (n - 1) l)
