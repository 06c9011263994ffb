-- Quiet ticks of a drive: where the bands are settled and no timer ends within k ticks, k ticks are one jump by k, and none is a stop.
use mathlib.Core.Path.{◌≡◌, ap, ◌∙◌}
use mathlib.Core.Bool.{false}
use mathlib.Core.List.{List, map}
use Prim.Native.Nat.{ℕ, suc, ◌+◌, ◌≤◌}
use Rattle.base.specs.Lists.{one_if}
use Rattle.base.specs.Ticks.{stops}
use Rattle.base.proofs.Jumps.{Jumps, stops-bound}
use Rattle.sensor.specs.declared.single.Sensor.{Sensor}
use Rattle.sensor.specs.Parts.{lowered_by}
use Rattle.sensor.specs.Single.{sensor_tick}
use Rattle.sensors.proofs.Quiet.{AllQuiet, sensors-jump, lowered-conditions, stop-uses}
use Rattle.drive.specs.declared.Drive.{Drive}
use Rattle.drive.specs.State.{with_sensors, settle_of, tick_of, stop_next}
use Rattle.drive.proofs.Settling.{settle-with}
use Rattle.elapse.specs.Jumps.{running}
use Rattle.elapse.specs.Parts.{jump_of}

-- the bands are settled, and no timer ends within k ticks
pub record Calm (k : ℕ) (d : Drive) : Type 0 where
  pub settled : settle_of d ≡ d
  pub timers : AllQuiet k d.sensors

pub jump-settled : (k : ℕ) (d : Drive) → settle_of d ≡ d → settle_of (jump_of k d) ≡ jump_of k d
unfolding jump_of
jump-settled k d e =
    settle-with d _ (lowered-conditions k d.sensor_count d.sensors)
    ∙ ap (λ (x : Drive). with_sensors (map (lowered_by k) d.sensors) x) e

jump-none : (d : Drive) → Calm 0 d → jump_of 0 d ≡ d
unfolding jump_of
jump-none d c = ap (λ (l : List Sensor). with_sensors l d) (sensors-jump.none d.sensors c.timers)

jump-more : (k : ℕ) (d : Drive) → Calm (suc k) d → jump_of k (jump_of 1 d) ≡ jump_of (suc k) d
unfolding jump_of
jump-more k d c = ap (λ (l : List Sensor). with_sensors l d) (sensors-jump.more k d.sensors c.timers)

calm-stop : (k : ℕ) (d : Drive) → Calm (suc k) d → stop_next d ≡ false
unfolding stop_next
calm-stop k d c = sensors-jump.no_stop k d.sensors c.timers

-- a quiet tick is a jump by 1
fallen : (k : ℕ) (d : Drive) → Calm (suc k) d → with_sensors (map sensor_tick d.sensors) d ≡ jump_of 1 d
unfolding jump_of
fallen k d c = ap (λ (l : List Sensor). with_sensors l d) (sensors-jump.one k d.sensors c.timers)

calm-tick : (k : ℕ) (d : Drive) → Calm (suc k) d → tick_of d ≡ jump_of 1 d
unfolding tick_of
calm-tick k d c = ap settle_of (fallen k d c) ∙ jump-settled 1 d c.settled

calm-next : (k : ℕ) (d : Drive) → Calm (suc k) d → AllQuiet k (jump_of 1 d).sensors
unfolding jump_of
calm-next k d c = sensors-jump.next k d.sensors c.timers

calm_more : (k : ℕ) (d : Drive) → Calm (suc k) d → Calm k (jump_of 1 d)
calm_more k d c = record { settled = jump-settled 1 d c.settled; timers = calm-next k d c }

pub drive-jumps : Jumps tick_of stop_next jump_of Calm
drive-jumps = record { none = jump-none; more = jump-more; no_stop = calm-stop; one = calm-tick; next = calm_more }

-- a stop uses up a running timer, and no tick starts one
pub stop-falls : (d : Drive) → one_if (stop_next d) + running (tick_of d) ≤ running d
unfolding stop_next tick_of settle_of
stop-falls d = stop-uses d.sensors

-- "at most the number of timers running at its start"
pub stops-few : (n : ℕ) (d : Drive) → stops tick_of stop_next n d ≤ running d
stops-few = stops-bound tick_of stop_next running stop-falls
