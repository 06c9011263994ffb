-- What every event keeps, whatever the drive: the header and the lengths, and whatever its parts keep of each sensor.
use Prim.Native.Nat.{ℕ, suc}
use mathlib.Core.Path.{◌≡◌, refl, ap, ◌∙◌}
use mathlib.Core.List.{List, [], ◌∷◌, map}
use lib.Dec.{eqb}
use lib.ListN.{length, get_or, length-map, length-set}
use Rattle.base.proofs.Cases.{cond_either}
use Rattle.base.proofs.Jumps.{ticks-keep}
use Rattle.base.proofs.Lists.{get_d-same}
use Rattle.base.proofs.Rows.{length-modify, modify-keeps, map-keeps}
use Rattle.sensor.specs.declared.single.Sensor.{Sensor}
use Rattle.sensor.specs.Single.{fresh_sensor, power_cycle_of}
use Rattle.sensor.specs.Single.{sensor_tick}
use Rattle.sensor_set.specs.Columns.{sensor_after}
use Rattle.sensor_set.proofs.Keeping.{Keeps}
use Rattle.band.specs.declared.Row.{Row}
use Rattle.geometry.specs.declared.Span.{Span}
use Rattle.drive.specs.declared.Drive.{Drive}
use Rattle.drive.specs.State.{fresh_drive, with_rows, with_spans, with_sensors, settle_of, tick_of, SameHeader}
use Rattle.drive.specs.Events.{Event, Shape, ticking, resetting, setting, sensing, placing, looking, shape_of, answer_of, act_by, act_of, step_of, run_of, along}

-- ---- a step, from what the bands' settling and the event do

-- what settling and every event keep, a step keeps
pub step_by : (P : Drive → Type 0) (d : Drive) (e : Event) → (P (act_of d e) → P (settle_of (act_of d e))) → P (act_of d e) → P d → P (step_of d e)
unfolding step_of
step_by P d e settles acts h = cond_either P (eqb (answer_of d e) 0) (settle_of (act_of d e)) d (λ q. settles acts) (λ q. h)

-- and so does a run
pub run_by : (P : Drive → Type 0) → ((d : Drive) (e : Event) → P d → P (step_of d e)) → (d : Drive) (es : List Event) → P d → P (run_of d es)
unfolding run_of
run_by P step d [] h = h
run_by P step d (e ∷ es) h = run_by P step (step_of d e) es (step d e h)

-- ---- the header and the lengths

same : (d : Drive) → SameHeader d d
same d = record { capacity = refl; band_count = refl; sensor_count = refl; rows = refl; spans = refl; sensors = refl }

after : {c d e : Drive} → SameHeader c d → SameHeader d e → SameHeader c e
after p q = record {
  capacity = p.capacity ∙ q.capacity;
  band_count = p.band_count ∙ q.band_count;
  sensor_count = p.sensor_count ∙ q.sensor_count;
  rows = p.rows ∙ q.rows;
  spans = p.spans ∙ q.spans;
  sensors = p.sensors ∙ q.sensors;
}

-- other rows, spans and sensors, as many as before
others : (rows : List Row) (spans : List Span) (sensors : List Sensor) (d : Drive) → length rows ≡ length d.rows → length spans ≡ length d.spans
    → length sensors ≡ length d.sensors → SameHeader (with_rows rows (with_spans spans (with_sensors sensors d))) d
others rows spans sensors d r s t =
    record { capacity = refl; band_count = refl; sensor_count = refl; rows = r; spans = s; sensors = t }

settle-header : (d : Drive) → SameHeader (settle_of d) d
unfolding settle_of
settle-header d = others _ _ _ d (length-map d.rows _) refl refl

tick-header : (d : Drive) → SameHeader (tick_of d) d
unfolding tick_of settle_of
tick-header d = others _ _ _ d (length-map d.rows _) refl (length-map d.sensors _)

shape-header : (d : Drive) (x : Shape) → SameHeader (act_by d x) d
shape-header d (ticking n) = ticks-keep tick_of (λ x. SameHeader x d) (λ x p. after (tick-header x) p) n d (same d)
shape-header d (resetting t) =
    others _ _ _ d (length-map d.rows _) refl
    (cond_either (λ (l : List Sensor). length l ≡ length d.sensors) (eqb t 0) _ _ (λ q. length-map d.sensors power_cycle_of) (λ q. refl))
shape-header d (setting b c tokens) = others _ _ _ d (length-modify _ b d.rows) refl refl
shape-header d (sensing s x) = others _ _ _ d refl refl (length-modify _ s d.sensors)
shape-header d (placing b start n) = others _ _ _ d refl (length-set d.spans b _) refl
shape-header d (looking w start n) = same d

act-header : (d : Drive) (e : Event) → SameHeader (act_of d e) d
unfolding act_of
act-header d e = shape-header d (shape_of e)

pub step_keeps : (d : Drive) (e : Event) → SameHeader (step_of d e) d
step_keeps d e = step_by (λ x. SameHeader x d) d e (λ p. after (settle-header (act_of d e)) p) (act-header d e) (same d)

pub run-keeps : (d : Drive) (es : List Event) → SameHeader (run_of d es) d
run-keeps d es = run_by (λ x. SameHeader x d) (λ x e p. after (step_keeps x e) p) d es (same d)

fresh-header : (capacity bands sensors : ℕ)
    → ((fresh_drive capacity bands sensors).capacity ≡ capacity)
    × ((fresh_drive capacity bands sensors).band_count ≡ bands)
    × ((fresh_drive capacity bands sensors).sensor_count ≡ sensors)
unfolding fresh_drive
fresh-header capacity bands sensors = (refl, refl, refl)

-- the header of every drive that a script's events reach is the script's
pub run-header : (capacity bands sensors : ℕ) (es : List Event)
    → ((run_of (fresh_drive capacity bands sensors) es).capacity ≡ capacity)
    × ((run_of (fresh_drive capacity bands sensors) es).band_count ≡ bands)
    × ((run_of (fresh_drive capacity bands sensors) es).sensor_count ≡ sensors)
run-header capacity bands sensors es =
    let k = run-keeps (fresh_drive capacity bands sensors) es in
    let f = fresh-header capacity bands sensors in
    (k.capacity ∙ f.0, k.band_count ∙ f.1, k.sensor_count ∙ f.2)

-- what each event of a list gets is one number for each
pub along-length : (f : Drive → Event → ℕ) (d : Drive) (es : List Event) → length (along f d es) ≡ length es
unfolding along
along-length f d [] = refl
along-length f d (x ∷ es) = ap suc (along-length f (step_of d x) es)

-- ---- each sensor

-- it holds of every sensor of the drive
abbrev pub Each : (Sensor → Type 0) → Drive → Type 0
Each P d = (i : ℕ) → P (get_or d.sensors i fresh_sensor)

module _ (P : Sensor → Type 0) (k : Keeps P) where
  mapped : (f : Sensor → Sensor) → ((s : Sensor) → P s → P (f s)) → (d : Drive) → Each P d → (i : ℕ) → P (get_or (map f d.sensors) i fresh_sensor)
  mapped f h d g i = map-keeps P f h fresh_sensor d.sensors i k.fresh (g i)

  settle-each : (d : Drive) → Each P d → Each P (settle_of d)
  unfolding settle_of
  settle-each d h = h

  tick-each : (d : Drive) → Each P d → Each P (tick_of d)
  unfolding tick_of settle_of
  tick-each d h = mapped sensor_tick k.tick d h

  shape-each : (d : Drive) (x : Shape) → Each P d → Each P (act_by d x)
  shape-each d (ticking n) h i = ticks-keep tick_of (Each P) tick-each n d h i
  shape-each d (resetting t) h i =
      cond_either (λ (l : List Sensor). P (get_or l i fresh_sensor)) (eqb t 0) _ _ (λ q. mapped power_cycle_of k.cycle d h i) (λ q. h i)
  shape-each d (setting b c tokens) h i = h i
  shape-each d (sensing s x) h i = modify-keeps P (sensor_after x) (k.event x) fresh_sensor d.sensors s i (h i)
  shape-each d (placing b start n) h i = h i
  shape-each d (looking w start n) h i = h i

  act-each : (d : Drive) (e : Event) → Each P d → Each P (act_of d e)
  unfolding act_of
  act-each d e h = shape-each d (shape_of e) h

  -- what everything that happens to a sensor keeps, every event keeps of each sensor of the drive
  pub step-each : (d : Drive) (e : Event) → Each P d → Each P (step_of d e)
  step-each d e h = step_by (Each P) d e (settle-each (act_of d e)) (act-each d e h) h

  pub run-each : (d : Drive) (es : List Event) → Each P d → Each P (run_of d es)
  run-each d es h = run_by (Each P) step-each d es h

  pub fresh-each : (capacity bands sensors : ℕ) → Each P (fresh_drive capacity bands sensors)
  unfolding fresh_drive
  fresh-each capacity bands sensors i = let e = get_d-same 16 i fresh_sensor in rw e k.fresh
