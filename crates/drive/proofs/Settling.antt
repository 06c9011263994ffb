-- Laws of a drive's settling.
use mathlib.Core.Path.{◌≡◌, refl, ap, ◌∙◌}
use mathlib.Core.Bool.{Bool}
use Prim.Native.Nat.{ℕ, ◌≤◌}
use lib.Dec.{eqb}
use Rattle.base.proofs.Cases.{cond_either}
use Rattle.base.proofs.Lists.{get_d_map}
use Rattle.base.proofs.Loops.{Mapped, map-done}
use mathlib.Core.List.{List, [], ◌∷◌, map}
use Rattle.sensor.specs.declared.single.Sensor.{Sensor}
use Rattle.sensors.specs.Sixteen.{conditions_below}
use Rattle.band.specs.declared.Row.{Row}
use Rattle.band.specs.Rows.{fresh_row, settle_row}
use Rattle.band.proofs.Settling.{settle-again, fresh-settles}
use Rattle.drive.specs.declared.Drive.{Drive}
use Rattle.drive.specs.Events.{Event, answer_of, act_of, step_of}
use Rattle.drive.specs.State.{with_rows, with_sensors, conditions_of, row_at, settle_of, tick_of, fall_of}

-- ---- the loop that settles the rows in place, at its end

pub settle-done : (d : Drive) (cs : List Bool) (rows : List Row) (i : ℕ) → cs ≡ conditions_of d → Mapped (settle_row cs) 16 d.rows rows i → 16 ≤ i
    → with_rows rows d ≡ settle_of d
unfolding settle_of
settle-done d cs rows i e s h =
    ap (λ (l : List Row). with_rows l d) (map-done (settle_row cs) 16 d.rows rows i s h ∙ ap (λ (x : List Bool). map (settle_row x) d.rows) e)

-- ---- laws

rows-again : (cs : List Bool) (l : List Row) → map (settle_row cs) (map (settle_row cs) l) ≡ map (settle_row cs) l
rows-again cs [] = refl
rows-again cs (x ∷ l) = λ i. settle-again cs x i ∷ rows-again cs l i

-- one row of a drive that has settled
pub settle-at : (d : Drive) (b : ℕ) → row_at (settle_of d) b ≡ settle_row (conditions_of d) (row_at d b)
unfolding settle_of
settle-at d b = get_d_map (settle_row (conditions_of d)) fresh_row (fresh-settles (conditions_of d)) d.rows b

-- settling twice is settling once
pub settle-twice : (d : Drive) → settle_of (settle_of d) ≡ settle_of d
unfolding settle_of conditions_of
settle-twice d = ap (λ (l : List Row). with_rows l d) (rows-again (conditions_of d) d.rows)

-- settling looks at the conditions alone of all that the sensors have
pub settle-with : (d : Drive) (l : List Sensor) → conditions_below d.sensor_count l ≡ conditions_below d.sensor_count d.sensors
    → settle_of (with_sensors l d) ≡ with_sensors l (settle_of d)
unfolding settle_of conditions_of
settle-with d l e = ap (λ (cs : List Bool). with_sensors l (with_rows (map (settle_row cs) d.rows) d)) e

-- after a tick the bands are settled, whatever the drive was before it
pub tick-settled : (d : Drive) → settle_of (tick_of d) ≡ tick_of d
unfolding tick_of
tick-settled d = settle-twice (fall_of d)

-- every event leaves settled bands settled
pub step-settled : (d : Drive) (e : Event) → settle_of d ≡ d → settle_of (step_of d e) ≡ step_of d e
unfolding step_of
step-settled d e h = cond_either (λ x. settle_of x ≡ x) (eqb (answer_of d e) 0) (settle_of (act_of d e)) d (λ q. settle-twice (act_of d e)) (λ q. h)
