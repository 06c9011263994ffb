-- Two drives that agree on some bands and on the sensors that these name, and which events keep that.
use Prim.Native.Nat.{ℕ, zero, suc}
use mathlib.Core.Path.{◌≡◌, refl, sym, ap, ap₂, ◌∙◌}
use mathlib.Core.Bool.{Bool, true, false, cond, ◌&&◌, false≢true}
use mathlib.Core.List.{List, ◌∷◌, map}
use lib.Dec.{eqb, ltb}
use lib.ListN.{length, get_or, length-map}
use lib.Seq.{take_at}
use borrow.Author.Tests.{ltb-true, ltb-false, eq-eqb}
use Rattle.base.specs.Columns.{named}
use Rattle.base.specs.Lists.{any}
use Rattle.base.specs.Refusals.{first_of}
use Rattle.base.specs.Rows.{modify}
use Rattle.base.specs.Ticks.{ticks}
use Rattle.base.proofs.Cases.{and_yes}
use Rattle.base.proofs.Lists.{get_d_map}
use Rattle.base.proofs.Rows.{apart, modify-agree, modify-other, modify-keeps, length-modify}
use Rattle.sensor.specs.declared.single.Sensor.{Sensor}
use Rattle.sensor.specs.Single.{fresh_sensor, power_cycle_of}
use Rattle.sensor.specs.Single.{sensor_tick}
use Rattle.sensor_set.specs.Columns.{sensor_refusals, sensor_after}
use Rattle.sensor.proofs.Motion.{fresh-tick, fresh-power-cycle}
use Rattle.sensors.specs.Sixteen.{conditions_below}
use Rattle.sensors.proofs.Gather.{condition-below, condition-past}
use Rattle.expression.specs.declared.Element.{Element}
use Rattle.expression.specs.Elements.{elements_in}
use Rattle.evaluator.specs.Value.{value_of, is_true, mentions}
use Rattle.evaluator.proofs.Mentions.{value_same}
use Rattle.token_reader.specs.Read.{TokenOutcome, elements, refusal, read_tokens, expression_in}
use Rattle.band.specs.declared.Row.{Row}
use Rattle.band_columns.specs.declared.BandColumns.{BandColumns}
use Rattle.band.specs.Rows.{fresh_row, value_in, lock_under, settle_row, in_set, reset_row}
use Rattle.band_columns.specs.Sets.{formed_row, held_by}
use Rattle.band.proofs.Settling.{settle-again, fresh-reset}
use Rattle.drive.specs.declared.Drive.{Drive}
use Rattle.drive.specs.State.{with_rows, with_sensors, conditions_of, row_at, sensor_at, value_at, settle_of, tick_of}
use Rattle.drive.specs.Events.{Shape, ticking, resetting, setting, sensing, placing, looking, shape_of, if_setting, act_by}
use Rattle.drive.specs.Events.{Event, band_set, no_row, row_refusals_if, refusals_by, held_under, formed_from, answer_of, reset_of, act_of, step_of}
use Rattle.drive.proofs.Settling.{settle-at}
use Rattle.condition.specs.History.{granted}
use Rattle.condition.specs.Compared.{stays_by, mentioned_in, refers_in, stays}

-- ---- one row of a drive

pub reset-at : (t : ℕ) (d : Drive) (b : ℕ) → row_at (reset_of t d) b ≡ reset_row t (row_at d b)
reset-at t d b = get_d_map (reset_row t) fresh_row (fresh-reset t) d.rows b

-- the row's locks follow its expression already
abbrev pub Settled : ℕ → Drive → Type 0
Settled b d = settle_row (conditions_of d) (row_at d b) ≡ row_at d b

pub settle-settled : (b : ℕ) (d : Drive) → Settled b (settle_of d)
unfolding settle_of conditions_of
settle-settled b d = rw settle-at (settle-again (conditions_of d) (row_at d b))

pub step-settled : (b : ℕ) (d : Drive) (x : Event) → Settled b d → Settled b (step_of d x)
unfolding step_of
step-settled b d x z = go (granted d x)
  where
    go : (g : Bool) → Settled b (cond g (settle_of (act_of d x)) d)
    go true = settle-settled b (act_of d x)
    go false = z

-- a sensor's condition depends on that sensor alone
condition-agree : (n : ℕ) (l m : List Sensor) (r : ℕ) → get_or l r fresh_sensor ≡ get_or m r fresh_sensor
    → get_or (conditions_below n l) r false ≡ get_or (conditions_below n m) r false
condition-agree n l m r h = go (ltb r n) refl
  where
    go : (t : Bool) → ltb r n ≡ t → get_or (conditions_below n l) r false ≡ get_or (conditions_below n m) r false
    go true e = let k = ltb-true r n e in condition-below n l r k ∙ ap (λ (s : Sensor). s.condition) h ∙ sym (condition-below n m r k)
    go false e = let k = ltb-false r n e in condition-past n l r k ∙ sym (condition-past n m r k)

-- the bands in B and the sensors in N are the same in both, whatever the other rows and the spans; the bands refer only to sensors in N
pub record Same (B N : ℕ → Bool) (d e : Drive) : Type 0 where
  pub band_count : d.band_count ≡ e.band_count
  pub sensor_count : d.sensor_count ≡ e.sensor_count
  pub rows_long : length d.rows ≡ length e.rows
  pub sensors_long : length d.sensors ≡ length e.sensors
  pub band : (b : ℕ) → B b ≡ true → row_at d b ≡ row_at e b
  pub sensor : (s : ℕ) → N s ≡ true → sensor_at d s ≡ sensor_at e s
  pub within : (b : ℕ) → B b ≡ true → (r : ℕ) → mentions r (elements_in (row_at d b).expression) ≡ true → N r ≡ true

module _ (B N : ℕ → Bool) where
  pub same-trans : {d e f : Drive} → Same B N d e → Same B N e f → Same B N d f
  same-trans p q = record {
    band_count = p.band_count ∙ q.band_count;
    sensor_count = p.sensor_count ∙ q.sensor_count;
    rows_long = p.rows_long ∙ q.rows_long;
    sensors_long = p.sensors_long ∙ q.sensors_long;
    band = λ b t. p.band b t ∙ q.band b t;
    sensor = λ s t. p.sensor s t ∙ q.sensor s t;
    within = p.within;
  }

  same_left : {d e : Drive} → Same B N d e → Same B N d d
  same_left p = record {
    band_count = refl;
    sensor_count = refl;
    rows_long = refl;
    sensors_long = refl;
    band = λ b t. refl;
    sensor = λ s t. refl;
    within = p.within;
  }

  -- the value of a list that refers only to sensors in N
  pub value-alike : {d e : Drive} → Same B N d e → (xs : List Element) → ((r : ℕ) → mentions r xs ≡ true → N r ≡ true)
      → value_of (conditions_of d) xs ≡ value_of (conditions_of e) xs
  unfolding conditions_of
  value-alike {d} {e} p xs h =
      value_same (conditions_of d) (conditions_of e) xs
      (λ r t. ap (λ (n : ℕ). get_or (conditions_below n d.sensors) r false) p.sensor_count
      ∙ condition-agree e.sensor_count d.sensors e.sensors r (p.sensor r (h r t)))

  pub band-value : {d e : Drive} → Same B N d e → (b : ℕ) → B b ≡ true → value_at d b ≡ value_at e b
  band-value {d} {e} p b t =
      value-alike p (elements_in (row_at d b).expression) (p.within b t) ∙ ap (λ (x : Row). value_in (conditions_of e) x) (p.band b t)

  pub settle-same : {d e : Drive} → Same B N d e → Same B N (settle_of d) (settle_of e)
  unfolding settle_of settle_row
  settle-same {d} {e} p = record {
    band_count = p.band_count;
    sensor_count = p.sensor_count;
    rows_long = length-map d.rows _ ∙ p.rows_long ∙ sym (length-map e.rows _);
    sensors_long = p.sensors_long;
    band = λ b t. settle-at d b ∙ ap₂ lock_under (ap is_true (band-value p b t)) (p.band b t) ∙ sym (settle-at e b);
    sensor = p.sensor;
    within = λ b t r u. p.within b t r (rw (settle-at d b) at u);
  }

  -- settling bands that are settled
  settled_same : {d e : Drive} → ((b : ℕ) → B b ≡ true → Settled b d) → Same B N d e → Same B N (settle_of d) e
  unfolding settle_of settle_row
  settled_same {d} {e} z p = record {
    band_count = p.band_count;
    sensor_count = p.sensor_count;
    rows_long = length-map d.rows _ ∙ p.rows_long;
    sensors_long = p.sensors_long;
    band = λ b t. settle-at d b ∙ z b t ∙ p.band b t;
    sensor = p.sensor;
    within = λ b t r u. p.within b t r (rw (settle-at d b) at u);
  }

  -- ---- the same event on both sides

  -- other sensors, alike where they are in N
  sensors-same : {d e : Drive} (l m : List Sensor) → length l ≡ length m
      → ((s : ℕ) → N s ≡ true → get_or l s fresh_sensor ≡ get_or m s fresh_sensor) → Same B N d e → Same B N (with_sensors l d) (with_sensors m e)
  sensors-same l m n h p = record {
    band_count = p.band_count;
    sensor_count = p.sensor_count;
    rows_long = p.rows_long;
    sensors_long = n;
    band = p.band;
    sensor = h;
    within = p.within;
  }

  -- other rows, alike where they are in B
  rows_same : {d e : Drive} (l m : List Row) → length l ≡ length m → ((b : ℕ) → B b ≡ true → get_or l b fresh_row ≡ get_or m b fresh_row)
      → ((b : ℕ) → B b ≡ true → (r : ℕ) → mentions r (elements_in (get_or l b fresh_row).expression) ≡ true → N r ≡ true) → Same B N d e
      → Same B N (with_rows l d) (with_rows m e)
  rows_same l m n h w p = record {
    band_count = p.band_count;
    sensor_count = p.sensor_count;
    rows_long = n;
    sensors_long = p.sensors_long;
    band = h;
    sensor = p.sensor;
    within = w;
  }

  mapped-sensors : (f : Sensor → Sensor) → f fresh_sensor ≡ fresh_sensor → {d e : Drive} → Same B N d e
      → Same B N (with_sensors (map f d.sensors) d) (with_sensors (map f e.sensors) e)
  mapped-sensors f z {d} {e} p =
      sensors-same (map f d.sensors) (map f e.sensors) (length-map d.sensors f ∙ p.sensors_long ∙ sym (length-map e.sensors f))
      (λ s t. get_d_map f fresh_sensor z d.sensors s ∙ ap f (p.sensor s t) ∙ sym (get_d_map f fresh_sensor z e.sensors s)) p

  ticks-same : (n : ℕ) {d e : Drive} → Same B N d e → Same B N (ticks tick_of n d) (ticks tick_of n e)
  unfolding ticks tick_of
  ticks-same zero p = p
  ticks-same (suc n) p = ticks-same n (settle-same (mapped-sensors sensor_tick fresh-tick p))

  reset-elements : (t : ℕ) (x : Row) → elements_in (reset_row t x).expression ≡ elements_in x.expression
  unfolding reset_row
  reset-elements t x = go (in_set x.lock_on_reset t)
    where
      go : (c : Bool) → elements_in (cond c (lock_under true x) x).expression ≡ elements_in x.expression
      go true = refl
      go false = refl

  reset-same : (t : ℕ) {d e : Drive} → Same B N d e → Same B N (reset_of t d) (reset_of t e)
  reset-same t {d} {e} p = powered (eqb t 0)
    where
      rows : Same B N (with_rows (map (reset_row t) d.rows) d) (with_rows (map (reset_row t) e.rows) e)
      rows =
          rows_same (map (reset_row t) d.rows) (map (reset_row t) e.rows)
          (length-map d.rows _ ∙ p.rows_long ∙ sym (length-map e.rows _))
          (λ b u. reset-at t d b ∙ ap (reset_row t) (p.band b u) ∙ sym (reset-at t e b))
          (λ b v r u. p.within b v r (rw (reset-at t d b, reset-elements) at u)) p

      powered : (c : Bool)
          → Same B N (with_sensors (cond c (map power_cycle_of d.sensors) d.sensors) (with_rows (map (reset_row t) d.rows) d))
          (with_sensors (cond c (map power_cycle_of e.sensors) e.sensors) (with_rows (map (reset_row t) e.rows) e))
      powered true = mapped-sensors power_cycle_of fresh-power-cycle rows
      powered false = rows

  sensor-same : (i : ℕ) (f : Sensor → Sensor) {d e : Drive} → Same B N d e
      → Same B N (with_sensors (modify f i d.sensors) d) (with_sensors (modify f i e.sensors) e)
  sensor-same i f {d} {e} p =
      sensors-same (modify f i d.sensors) (modify f i e.sensors)
      (length-modify f i d.sensors ∙ p.sensors_long ∙ sym (length-modify f i e.sensors))
      (λ s t. modify-agree f fresh_sensor d.sensors e.sensors p.sensors_long i s (p.sensor s t)) p

  -- what the row that a Set forms refers to
  formed-within : (c : BandColumns) (bytes : List ℕ) (x : Row) → ((r : ℕ) → mentions r (elements_in x.expression) ≡ true → N r ≡ true)
      → ((r : ℕ) → refers_in r c bytes ≡ true → N r ≡ true)
      → (r : ℕ) → mentions r (elements_in (formed_from c bytes x).expression) ≡ true → N r ≡ true
  unfolding formed_row refers_in mentions any
  formed-within c bytes x old new = go (named 32 c.mask) (read_tokens bytes) new
    where
      go : (g : Bool) (o : TokenOutcome) → ((r : ℕ) → (g && mentioned_in r o) ≡ true → N r ≡ true)
          → (r : ℕ) → mentions r (elements_in (cond g (expression_in o) x.expression)) ≡ true → N r ≡ true
      go false o new r t = old r t
      go true (elements l) new r t = new r (rw (take_at l _ (length l) refl) at t)
      go true (refusal n) new r t = new r t

  band-same : (i : ℕ) (c : BandColumns) (bytes : List ℕ) {d e : Drive} → ((r : ℕ) → refers_in r c bytes ≡ true → N r ≡ true) → Same B N d e
      → Same B N (with_rows (modify (formed_from c bytes) i d.rows) d) (with_rows (modify (formed_from c bytes) i e.rows) e)
  band-same i c bytes {d} {e} w p =
      let f = formed_from c bytes in
      rows_same (modify f i d.rows) (modify f i e.rows)
      (length-modify f i d.rows ∙ p.rows_long ∙ sym (length-modify f i e.rows))
      (λ b t. modify-agree f fresh_row d.rows e.rows p.rows_long i b (p.band b t))
      (λ b t. modify-keeps (λ (x : Row). (r : ℕ) → mentions r (elements_in x.expression) ≡ true → N r ≡ true) f
      (λ x q. formed-within c bytes x q w) fresh_row d.rows i b (p.within b t)) p

  -- what an event of a band in B refers to is in N
  abbrev pub FitBy : Shape → Type 0
  FitBy y = (b : ℕ) → B b ≡ true → (r : ℕ) → if_setting y (λ i c bytes. eqb i b && refers_in r c bytes) false ≡ true → N r ≡ true

  abbrev pub Fit : Event → Type 0
  Fit x = FitBy (shape_of x)

  own-fit : (b : ℕ) (c : BandColumns) (bytes : List ℕ) → B b ≡ true → Fit (band_set b c bytes) → (r : ℕ) → refers_in r c bytes ≡ true
      → N r ≡ true
  own-fit b c bytes t w r u = w b t r (sym (and_yes (eqb b b) (refers_in r c bytes) true (eq-eqb b b refl) (sym u)))

  held_same : {d e : Drive} (b : ℕ) (c : BandColumns) (bytes : List ℕ) → B b ≡ true → Fit (band_set b c bytes) → Same B N d e
      → held_under (conditions_of d) c (formed_from c bytes (row_at d b)) ≡ held_under (conditions_of e) c (formed_from c bytes (row_at e b))
  held_same {d} {e} b c bytes t w p =
      let f = formed_from c bytes in
      ap (λ (x : Row). held_by c (f x) (value_in (conditions_of d) (f x))) (p.band b t)
      ∙ ap (held_by c (f (row_at e b)))
      (value-alike p (elements_in (f (row_at e b)).expression)
      (formed-within c bytes (row_at e b) (λ r u. p.within b t r (rw (p.band b t) u)) (own-fit b c bytes t w)))

  -- an event that stays gets the same answer
  shape-answer : {d e : Drive} (y : Shape) → stays_by B N y ≡ true → FitBy y → Same B N d e → first_of (refusals_by d y) ≡ first_of (refusals_by e y)
  shape-answer (ticking n) t w p = refl
  shape-answer (resetting n) t w p = refl
  shape-answer (setting b c bytes) t w p =
      ap₂ (λ (n : ℕ) (h : Bool). first_of (no_row n b ∷ row_refusals_if c bytes h)) p.band_count (held_same b c bytes t w p)
  shape-answer (sensing s y) t w p = ap (λ (n : ℕ). first_of (no_row n s ∷ sensor_refusals y)) p.sensor_count
  shape-answer (placing b start n) t w p = absurd (false≢true t)
  shape-answer (looking v start n) t w p = absurd (false≢true t)

  pub answer-same : {d e : Drive} (x : Event) → stays B N x ≡ true → Fit x → Same B N d e → answer_of d x ≡ answer_of e x
  unfolding answer_of stays
  answer-same x t w p = shape-answer (shape_of x) t w p

  shape_same : {d e : Drive} (y : Shape) → stays_by B N y ≡ true → FitBy y → Same B N d e → Same B N (act_by d y) (act_by e y)
  shape_same (ticking n) t w p = ticks-same n p
  shape_same (resetting n) t w p = reset-same n p
  shape_same (setting b c bytes) t w p = band-same b c bytes (own-fit b c bytes t w) p
  shape_same (sensing s y) t w p = sensor-same s (sensor_after y) p
  shape_same (placing b start n) t w p = absurd (false≢true t)
  shape_same (looking v start n) t w p = absurd (false≢true t)

  act-same : {d e : Drive} (x : Event) → stays B N x ≡ true → Fit x → Same B N d e → Same B N (act_of d x) (act_of e x)
  unfolding act_of stays
  act-same x t w p = shape_same (shape_of x) t w p

  -- ---- an event on one side only

  sensor-struck : (i : ℕ) (f : Sensor → Sensor) {d : Drive} → N i ≡ false → Same B N d d → Same B N (with_sensors (modify f i d.sensors) d) d
  sensor-struck i f {d} n p =
      sensors-same (modify f i d.sensors) d.sensors (length-modify f i d.sensors)
      (λ s t. modify-other f fresh_sensor d.sensors i s (apart N s i t n)) p

  band-struck : (i : ℕ) (f : Row → Row) {d : Drive} → B i ≡ false → Same B N d d → Same B N (with_rows (modify f i d.rows) d) d
  band-struck i f {d} n p =
      rows_same (modify f i d.rows) d.rows (length-modify f i d.rows) other (λ b t r u. p.within b t r (rw (other b t) at u)) p
    where
      other : (b : ℕ) → B b ≡ true → get_or (modify f i d.rows) b fresh_row ≡ get_or d.rows b fresh_row
      other b t = modify-other f fresh_row d.rows i b (apart B b i t n)

  -- an event that is struck changes nothing that the bands see, before they settle
  shape-struck : {d : Drive} (y : Shape) → stays_by B N y ≡ false → Same B N d d → Same B N (act_by d y) d
  shape-struck (ticking n) t p = absurd (false≢true (sym t))
  shape-struck (resetting n) t p = absurd (false≢true (sym t))
  shape-struck (setting b c bytes) t p = band-struck b (formed_from c bytes) t p
  shape-struck (sensing s y) t p = sensor-struck s (sensor_after y) t p
  shape-struck (placing b start n) t p = record {
    band_count = refl;
    sensor_count = refl;
    rows_long = refl;
    sensors_long = refl;
    band = λ b t. refl;
    sensor = λ s t. refl;
    within = p.within;
  }
  shape-struck (looking v start n) t p = p

  act-struck : {d : Drive} (x : Event) → stays B N x ≡ false → Same B N d d → Same B N (act_of d x) d
  unfolding act_of stays
  act-struck x t p = shape-struck (shape_of x) t p

  -- ---- a step

  -- what a run keeps: agreement, with the bands of the left drive settled
  pub record Agree (d e : Drive) : Type 0 where
    pub same : Same B N d e
    pub settled : (b : ℕ) → B b ≡ true → Settled b d

  -- an event that stays, whether it is granted or not
  pub granted-kept : {d e : Drive} (x : Event) → stays B N x ≡ true → Fit x → Agree d e → (g : Bool)
      → Agree (cond g (settle_of (act_of d x)) d) (cond g (settle_of (act_of e x)) e)
  granted-kept {d} x t w p true =
      record { same = settle-same (act-same x t w p.same); settled = λ b u. settle-settled b (act_of d x) }
  granted-kept x t w p false = p

  pub step_kept : {d e : Drive} (x : Event) → stays B N x ≡ true → Fit x → Agree d e → Agree (step_of d x) (step_of e x)
  unfolding step_of
  step_kept {d} {e} x t w p = rw (answer-same x t w p.same) (granted-kept x t w p (granted e x))

  -- one that is struck, on the left
  pub granted-struck : {d e : Drive} (x : Event) → stays B N x ≡ false → Agree d e → (g : Bool) → Agree (cond g (settle_of (act_of d x)) d) e
  granted-struck {d} x t p true = record {
    same = same-trans (settle-same (act-struck x t (same_left p.same))) (settled_same p.settled p.same);
    settled = λ b u. settle-settled b (act_of d x);
  }
  granted-struck x t p false = p

  pub step-struck : {d e : Drive} (x : Event) → stays B N x ≡ false → Agree d e → Agree (step_of d x) e
  unfolding step_of
  step-struck {d} x t p = granted-struck x t p (granted d x)
