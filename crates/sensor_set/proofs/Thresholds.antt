-- Document 02, #101, over the rules of a Set: the record `ThresholdsAct`.
use mathlib.Core.Path.{◌≡◌, refl, sym, ap, ◌∙◌}
use Prim.Native.Nat.{ℕ, ◌≤◌}
use mathlib.Core.Bool.{true, false, cond, ◌||◌}
use lib.Dec.{eqb}
use borrow.Author.Tests.{eq-eqb}
use Rattle.base.specs.Columns.{named}
use Rattle.base.proofs.Cases.{cond-true, cond-false, or_yes, or-second}
use Rattle.phases.specs.declared.Phase.TheVariants.{SS0, SS2}
use Rattle.sensor.specs.declared.single.Sensor.{Sensor}
use Rattle.sensor.specs.Level.{greatest_reading}
use Rattle.sensor.specs.Single.{moved, with_level, level_given, judged, reading_of, enable_of, disable_of}
use Rattle.sensor.specs.Judging.{LastRead, NoReading, SameReading}
use Rattle.sensor.proofs.Judging.{judging, enable-false}
use Rattle.sensor.proofs.Motion.{turning}
use Rattle.sensor_set.specs.declared.SensorColumns.{SensorColumns}
use Rattle.sensor_set.specs.Columns.{columns_fit, stored_of, names_threshold, rejudged_of, switched_of, set_of}
use Rattle.sensor_set.specs.Thresholds.{unjudged, SomeThreshold, on-threshold, on-fraction, off-threshold, off-fraction, NoThreshold, Judges, Enables, ThresholdsAct}
use Rattle.sensor_set.proofs.Sets.{rejudged, set_keeps}

-- ---- the last reading

stored-reading : (c : SensorColumns) (s : Sensor) → SameReading s (stored_of c s)
unfolding stored_of
stored-reading c s = record { value = refl }

-- one step after another
onward : (s t u : Sensor) → SameReading s t → SameReading t u → SameReading s u
onward s t u e f = record { value = f.value ∙ e.value }

set-reading : (c : SensorColumns) (s : Sensor) → SameReading s (set_of c s)
set-reading c s =
    set_keeps (SameReading s) (λ x h. onward s x (enable_of x) h (judging.enable-keeps x)) (λ x h. onward s x (disable_of x) h (judging.disable-keeps x))
    (λ c x e h. rejudged (SameReading s) (λ y k. onward s y (judged y) k (judging.judged-keeps y)) c (stored_of c x) (onward s x (stored_of c x) h (stored-reading c x)))
    c s (record { value = refl })

-- ---- a Set that judges, and one that does not

done : (c : SensorColumns) (s t : Sensor) → columns_fit c ≡ true → rejudged_of c (stored_of c s) ≡ t → set_of c s ≡ switched_of c t
unfolding set_of
done c s t e q = sym (cond-true (columns_fit c) _ s _ e (ap (switched_of c) (sym q)))

-- a bit of the four is what the mask is asked for
some-named : (m : ℕ) → SomeThreshold m → names_threshold m ≡ true
some-named m (on-threshold e) = sym (or_yes (named 2 m || named 4 m) _ (sym (or_yes (named 2 m) (named 4 m) e)))
some-named m (on-fraction e) = sym (or_yes (named 2 m || named 4 m) _ (or-second (named 2 m) (named 4 m) e))
some-named m (off-threshold e) =
    or-second (named 2 m || named 4 m) (named 16 m || named 32 m) (sym (or_yes (named 16 m) (named 32 m) e))
some-named m (off-fraction e) =
    or-second (named 2 m || named 4 m) (named 16 m || named 32 m) (or-second (named 16 m) (named 32 m) e)

rejudges : (c : SensorColumns) (t : Sensor) → Judges c → rejudged_of c t ≡ judged t
unfolding rejudged_of
rejudges c t h = sym (cond-true (names_threshold c.mask) (judged t) t _ (some-named c.mask h.bit) refl)

stored-read : (c : SensorColumns) (s : Sensor) (v : ℕ) → LastRead v s → LastRead v (stored_of c s)
stored-read c s v l = record { value = (stored-reading c s).value ∙ l.value }

judges : (c : SensorColumns) (s : Sensor) (v : ℕ) → Judges c → LastRead v s → v ≤ greatest_reading
    → set_of c s ≡ switched_of c (reading_of v (stored_of c s))
judges c s v k l h =
    let t = stored_of c s in
    done c s (reading_of v t) k.fits (rejudges c t k ∙ judging.again v t (stored-read c s v l) h)

-- a Set whose judging leaves the sensor as it is
idle : (c : SensorColumns) (s : Sensor) → rejudged_of c (stored_of c s) ≡ stored_of c s → set_of c s ≡ unjudged c s
unfolding set_of
idle c s q = ap (λ (t : Sensor). cond (columns_fit c) (switched_of c t) s) q

no-reading : (c : SensorColumns) (s : Sensor) → NoReading s → set_of c s ≡ unjudged c s
no-reading c s l =
    idle c s (rejudged (λ x. x ≡ stored_of c s) (λ x e. judging.no-reading x (ap (λ (y : Sensor). y.last_reading) e ∙ (stored-reading c s).value ∙ l) ∙ e) c (stored_of c s) refl)

no-threshold : (c : SensorColumns) (s : Sensor) → NoThreshold c.mask → set_of c s ≡ unjudged c s
unfolding rejudged_of
no-threshold c s n =
    idle c s
    (sym (cond-false (names_threshold c.mask) (judged (stored_of c s)) (stored_of c s) _
    (rw (n.on_threshold, n.on_fraction, n.off_threshold, n.off_fraction)) refl))

-- ---- a disabled sensor

stored-off : (c : SensorColumns) (s : Sensor) → s.phase ≡ SS0 → (stored_of c s).phase ≡ SS0
unfolding stored_of
stored-off c s p = p

judged-alone : (t : Sensor) → t.phase ≡ SS0 → judged t ≡ with_level (level_given t) t
unfolding judged
judged-alone t p = turning.disabled (level_given t) t p

disabled : (c : SensorColumns) (s : Sensor) → Judges c → s.phase ≡ SS0
    → set_of c s ≡ switched_of c (with_level (level_given (stored_of c s)) (stored_of c s))
disabled c s k p = done c s _ k.fits (rejudges c (stored_of c s) k ∙ judged-alone (stored_of c s) (stored-off c s p))

enables : (c : SensorColumns) (t : Sensor) → Enables c → switched_of c t ≡ enable_of t
unfolding switched_of
enables c t h =
    sym (cond-true (named 1 c.mask) _ t _ h.bit
    (cond-true (eqb c.enabled 1) (enable_of t) (disable_of t) _ (eq-eqb c.enabled 1 h.value) refl))

judged-first : (c : SensorColumns) (s : Sensor) → Judges c → Enables c → s.phase ≡ SS0 → level_given (stored_of c s) ≡ false
    → set_of c s ≡ moved false SS2 false 0 (stored_of c s)
judged-first c s k h p l =
    let t = with_level (level_given (stored_of c s)) (stored_of c s) in
    disabled c s k p ∙ enables c t h ∙ enable-false t (stored-off c s p) l

pub thresholds-act : ThresholdsAct
thresholds-act = record {
  keeps = set-reading;
  judges = judges;
  no-reading = no-reading;
  no-threshold = no-threshold;
  disabled = disabled;
  judged-first = judged-first;
}
