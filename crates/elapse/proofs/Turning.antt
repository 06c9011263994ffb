-- Ticks of a drive from stop to stop.
use mathlib.Core.Path.{◌≡◌, refl, sym, ap, ◌∙◌, subst}
use mathlib.Core.List.{List, map}
use Rattle.sensor.specs.declared.single.Sensor.{Sensor}
use Prim.Native.Nat.{ℕ, ◌-◌, ◌<◌, ◌≤◌}
use native.Mathlib.Omega.{arith}
use Rattle.base.specs.Parts.{Turns}
use Rattle.base.specs.Ticks.{stops as stops_in}
use Rattle.base.proofs.Turns.{Turnable, QuietMost, Running, run-state, run-stops}
use Rattle.base.proofs.Turns.{turned as turned-any}
use Rattle.sensor.specs.Parts.{lowered_by}
use Rattle.sensor.specs.Single.{sensor_tick}
use Rattle.sensors.specs.Parts.{Turned, quiet_ticks, tick_and_quiet, turn_of}
use Rattle.sensors.proofs.Quiet.{lowered-conditions, lowered-running}
use Rattle.sensors.proofs.Passing.{quiet-most, some_turn}
use Rattle.drive.specs.declared.Drive.{Drive}
use Rattle.drive.specs.State.{with_sensors, settle_of, fall_of, tick_of, stop_next}
use Rattle.drive.proofs.Settling.{settle-with, tick-settled}
use Rattle.elapse.specs.Jumps.{running, Elapses}
use Rattle.elapse.specs.Parts.{jump_of}
use Rattle.elapse.proofs.Calm.{Calm, drive-jumps, stop-falls, stops-few}

jump-running : (k : ℕ) (d : Drive) → running (jump_of k d) ≤ running d
unfolding jump_of
jump-running k d = lowered-running k d.sensors

turnable : Turnable tick_of stop_next jump_of running Calm
turnable = record { jumps = drive-jumps; falls = stop-falls; starts_none = jump-running }

calm-most : (m k : ℕ) (d : Drive) → settle_of d ≡ d → k ≡ quiet_ticks m d.sensors → QuietMost stop_next jump_of Calm m k d
unfolding stop_next jump_of
calm-most m k d settled e =
    let q = quiet-most m k d.sensors e in
    record { few = q.few; quiet = record { settled = settled; timers = q.quiet }; most = q.most }

-- a tick changes the sensors as it does by itself
ticked : (d : Drive) → (tick_of d).sensors ≡ map sensor_tick d.sensors
unfolding tick_of settle_of
ticked d = refl

-- to settle after the quiet ticks is to settle before them
settled-late : (k : ℕ) (d : Drive) → settle_of (with_sensors (map (lowered_by k) (map sensor_tick d.sensors)) d) ≡ jump_of k (tick_of d)
unfolding tick_of jump_of settle_of
settled-late k d = settle-with (fall_of d) _ (lowered-conditions k d.sensor_count (map sensor_tick d.sensors))

-- a turn as the code makes it: the sensors' own, and then the bands settle
pub turned : (m : ℕ) (d j : Drive) (l : List Sensor) (left one : ℕ) → 0 < m → record { sensors = l; left = left; stops = one } ≡ turn_of m d.sensors
    → j ≡ settle_of (with_sensors l d) → Turns tick_of stop_next running m d j left one
unfolding stop_next
turned m d j l left one h e q =
    let k : ℕ = quiet_ticks (m - 1) (map sensor_tick d.sensors) in
    let r : Turned = record { sensors = l; left = left; stops = one } in
    let p : r ≡ tick_and_quiet (m - 1) d.sensors = some_turn m d.sensors r h e in
    let ej : j ≡ jump_of k (tick_of d) = q ∙ ap (λ (x : Turned). settle_of (with_sensors x.sensors d)) p ∙ settled-late k d in
    let calm = calm-most (m - 1) k (tick_of d) (tick-settled d) (ap (quiet_ticks (m - 1)) (sym (ticked d))) in
    let t : Turns tick_of stop_next running m d j _ _ = turned-any tick_of stop_next jump_of running Calm turnable m k d (tick_of d) j h refl calm ej _ _ refl refl in
    subst (λ (x : Turned). Turns tick_of stop_next running m d j x.left x.stops) (sym p) t

pub run-done : (n : ℕ) (d₀ d : Drive) (left stops : ℕ) → Running tick_of stop_next n d₀ d left stops → left ≤ 0 → Elapses n d₀ stops d
run-done n d₀ d left stops r h =
    let q : stops ≡ stops_in tick_of stop_next n d₀ = run-stops tick_of stop_next n d₀ d left stops r h in
    record { drive = run-state tick_of stop_next n d₀ d left stops r h; stops = q; few = omega (arith, q, stops-few n d₀) }
