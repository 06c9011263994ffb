-- The last readings of a drive's sensors: the record `DriveReadings`.
use mathlib.Core.Path.{◌≡◌, refl, sym, ap, ◌∙◌, subst}
use Prim.Native.Nat.{ℕ, zero, suc, ◌≤◌}
use native.Mathlib.Omega.{arith}
use mathlib.Core.Bool.{Bool, true, not, cond}
use mathlib.Core.List.{List, [], ◌∷◌, map}
use lib.Dec.{ltb}
use lib.ListN.{length, get_or}
use borrow.Author.Tests.{ne_eqb, le-ltb}
use Rattle.base.specs.Rows.{is_row, modify}
use Rattle.base.proofs.Lists.{get_d_map}
use Rattle.base.proofs.Rows.{row_is, modify-same}
use Rattle.sensor.specs.declared.single.Sensor.{Sensor}
use Rattle.sensor.specs.Level.{greatest_reading}
use Rattle.sensor.specs.Single.{fresh_sensor, reading_of, power_cycle_of}
use Rattle.sensor.specs.Sound.{InRange, UpToDate}
use Rattle.sensor.specs.Judging.{LastRead, NoReading}
use Rattle.sensor.proofs.Judging.{judging}
use Rattle.sensor.proofs.Motion.{fresh-power-cycle}
use Rattle.drive.specs.declared.Drive.{Drive}
use Rattle.drive.specs.State.{with_sensors, sensor_at, settle_of}
use Rattle.drive.specs.Events.{Event, reading, reset, answer_of, act_of, step_of}
use Rattle.reached.specs.Reached.{Reached}
use Rattle.drive.proofs.Answers.{granted-acts}
use Rattle.drive.proofs.Keeping.{step_by}
use Rattle.reached.specs.Readings.{DriveReadings}

-- ---- the last reading once more

-- an element that a change leaves leaves the list
modify-still : {A : Type 0} (f : A → A) (z : A) (l : List A) (i : ℕ) → f (get_or l i z) ≡ get_or l i z → modify f i l ≡ l
modify-still f z [] i e = refl
modify-still f z (x ∷ l) zero e = ap (λ y. y ∷ l) e
modify-still f z (x ∷ l) (suc i) e = ap (λ m. x ∷ m) (modify-still f z l i e)

read_again : (v : ℕ) (s : Sensor) → UpToDate s → LastRead v s → reading_of v s ≡ s
read_again v s j l = sym (judging.again v s l (subst InRange l.value j.kept.range)) ∙ judging.nothing-waits s j

nothing-waits : (d : Drive) → Reached d → (i v : ℕ) → LastRead v (sensor_at d i) → step_of d (reading i v) ≡ d
unfolding act_of
nothing-waits d r i v l =
    step_by (λ x. x ≡ d) d (reading i v) (λ e. ap settle_of e ∙ r.settled) (ap (λ (m : List Sensor). with_sensors m d) still) refl
  where
    still : modify (reading_of v) i d.sensors ≡ d.sensors
    still = modify-still (reading_of v) fresh_sensor d.sensors i (read_again v _ (r.shaped.sensors.each i).up-to-date l)

-- ---- what is kept, and what is forgotten

-- settling leaves the sensors
settle-sensors : (d : Drive) → (settle_of d).sensors ≡ d.sensors
unfolding settle_of
settle-sensors d = refl

-- the sensors after an event that is granted
granted-sensors : (d : Drive) (e : Event) → answer_of d e ≡ 0 → (step_of d e).sensors ≡ (act_of d e).sensors
granted-sensors d e z = ap (λ (x : Drive). x.sensors) (sym (granted-acts d e 0 (sym z) refl).0) ∙ settle-sensors (act_of d e)

reading-granted : (d : Drive) (i v : ℕ) → is_row d.sensor_count i ≡ true → v ≤ greatest_reading → answer_of d (reading i v) ≡ 0
unfolding answer_of
reading-granted d i v p h =
    ap (λ (b : Bool). cond (not b) 1 (cond (ltb greatest_reading v) 2 0)) p ∙ ap (λ (b : Bool). cond b 2 0) (le-ltb greatest_reading v h)

kept : (d : Drive) (i v : ℕ) → length d.sensors ≡ 16 → is_row d.sensor_count i ≡ true → v ≤ greatest_reading
    → LastRead v (sensor_at (step_of d (reading i v)) i)
unfolding act_of
kept d i v long p h =
    let e = ap (λ (l : List Sensor). get_or l i fresh_sensor) (granted-sensors d (reading i v) (reading-granted d i v p h)) in
    let m = modify-same (reading_of v) fresh_sensor d.sensors i (omega (arith, long, (row_is d.sensor_count i p).1)) in
    subst (LastRead v) (sym (e ∙ m)) (judging.kept v (sensor_at d i) h)

power-cycle : (d : Drive) (i : ℕ) → NoReading (sensor_at (step_of d (reset 0)) i)
unfolding answer_of act_of
power-cycle d i =
    let e = ap (λ (l : List Sensor). get_or l i fresh_sensor) (granted-sensors d (reset 0) refl) in
    subst NoReading (sym (e ∙ get_d_map power_cycle_of fresh_sensor fresh-power-cycle d.sensors i)) (judging.none_after (sensor_at d i))

other-resets : (d : Drive) (type : ℕ) → (type ≡ 0 → ⊥) → (step_of d (reset type)).sensors ≡ d.sensors
unfolding act_of
other-resets d type n =
    step_by (λ x. x.sensors ≡ d.sensors) d (reset type) (λ e. settle-sensors (act_of d (reset type)) ∙ e)
    (ap (λ (b : Bool). cond b (map power_cycle_of d.sensors) d.sensors) (ne_eqb type 0 n)) refl

pub drive-readings : DriveReadings
drive-readings = record { nothing-waits = nothing-waits; kept = kept; power-cycle = power-cycle; other-resets = other-resets }
