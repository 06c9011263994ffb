-- Ticks of the sensors from stop to stop.
use mathlib.Core.Path.{◌≡◌, refl, sym, subst, ◌∙◌}
use mathlib.Core.Bool.{true, false}
use mathlib.Core.List.{List, map}
use mathlib.Core.Logic.{◌⊎◌}
use Prim.Native.Nat.{ℕ, ◌-◌, ◌<◌, ◌≤◌}
use native.Mathlib.Omega.{arith}
use lib.Dec.{eqb}
use borrow.Author.Tests.{ne_eqb}
use Rattle.base.specs.Lists.{any, count}
use Rattle.base.specs.Parts.{Turns}
use Rattle.base.specs.Ticks.{stops as stops_in}
use Rattle.base.proofs.Cases.{cond-false}
use Rattle.base.proofs.Jumps.{stops-bound}
use Rattle.base.proofs.Turns.{Turnable, QuietMost, Running, run-state, run-stops}
use Rattle.base.proofs.Turns.{turned as turned-any}
use Rattle.sensor.specs.declared.single.Sensor.{Sensor}
use Rattle.sensor.specs.Single.{sensor_tick, ends_next, runs}
use Rattle.sensor.specs.Parts.{lowered_by}
use Rattle.sensors.specs.Sixteen.{Passes}
use Rattle.sensors.specs.declared.Turn.{Turn}
use Rattle.sensors.specs.Parts.{quiet_ticks, Turned, turned_in, tick_and_quiet, turn_of}
use Rattle.sensors.proofs.Quiet.{
  AllQuiet,
  sensors-jump,
  quiet_ticks-quiet,
  quiet_ticks-most,
  few_left,
  stop-uses,
  lowered-running,
}

abbrev lowered : ℕ → List Sensor → List Sensor
lowered k l = map (lowered_by k) l

turnable : Turnable (map sensor_tick) (any ends_next) lowered (count runs) AllQuiet
turnable = record { jumps = sensors-jump; falls = stop-uses; starts_none = lowered-running }

-- the quiet ticks that the code counts are all that there are
pub quiet-most : (m k : ℕ) (l : List Sensor) → k ≡ quiet_ticks m l → QuietMost (any ends_next) lowered AllQuiet m k l
quiet-most m k l e = record {
  few = few_left m k l e;
  quiet = subst (λ (n : ℕ). AllQuiet n l) (sym e) (quiet_ticks-quiet m l);
  most = subst (λ (n : ℕ). (n ≡ m) ⊎ (any ends_next (lowered n l) ≡ true)) (sym e) (quiet_ticks-most m l);
}

-- what a turn of some ticks is
pub some_turn : (n : ℕ) (l : List Sensor) (r : Turned) → 0 < n → r ≡ turn_of n l → r ≡ tick_and_quiet (n - 1) l
unfolding turn_of
some_turn n l r h e =
    let some : eqb n 0 ≡ false = ne_eqb n 0 (λ z. omega arith) in
    e ∙ sym (cond-false (eqb n 0) (record { sensors = l; left = 0; stops = 0 }) _ _ some refl)

-- what is left to do after it
pub turn-turns : (n : ℕ) (l : List Sensor) (r : Turned) → 0 < n → r ≡ turn_of n l
    → Turns (map sensor_tick) (any ends_next) (count runs) n l r.sensors r.left r.stops
turn-turns n l r h e =
    let k : ℕ = quiet_ticks (n - 1) (map sensor_tick l) in
    rw (some_turn n l r h e)
    (turned-any (map sensor_tick) (any ends_next) lowered (count runs) AllQuiet turnable n k l _ _ h refl (quiet-most (n - 1) k _ refl) refl _ _ refl refl)

-- the same of the turn that the code makes
pub code-turns : (n : ℕ) (l after : List Sensor) (r : Turn) → 0 < n → turned_in r after ≡ turn_of n l
    → Turns (map sensor_tick) (any ends_next) (count runs) n l after r.left r.stops
code-turns n l after r h e = turn-turns n l (turned_in r after) h e

pub run-done : (n : ℕ) (l₀ l : List Sensor) (left stops : ℕ) → Running (map sensor_tick) (any ends_next) n l₀ l left stops → left ≤ 0
    → Passes n l₀ stops l
run-done n l₀ l left stops r h =
    let q : stops ≡ stops_in (map sensor_tick) (any ends_next) n l₀ = run-stops (map sensor_tick) (any ends_next) n l₀ l left stops r h in
    record {
      sensors = run-state (map sensor_tick) (any ends_next) n l₀ l left stops r h;
      stops = q;
      few = omega (arith, q, stops-bound (map sensor_tick) (any ends_next) (count runs) stop-uses n l₀);
    }
