-- The answers of the events on one sensor. "Any refusal leaves the drive .. untouched": a reading or a Set that is refused leaves the sensor as
-- it was.
use mathlib.Core.Path.{◌≡◌, refl}
use mathlib.Core.Bool.{Bool, true, false, not, cond, true≢false}
use lib.Dec.{eqb}
use Rattle.base.proofs.Refusals.{numbers_below, past_events, rising_from}
use Rattle.sensor.specs.declared.single.Sensor.{Sensor}
use Rattle.sensor_set.specs.declared.SensorColumns.{SensorColumns}
use Rattle.sensor_set.specs.declared.SensorEvent.{SensorEvent}
use Rattle.sensor_set.specs.declared.SensorEvent.TheVariants as E
use Rattle.sensor.proofs.Refused.{reading-refused}
use Rattle.sensor_set.specs.Columns.{columns_fit, stored_of, rejudged_of, switched_of, set_answer, set_of, sensor_refusals, sensor_answer, sensor_after}

set-refused : (c : SensorColumns) (s : Sensor) → eqb (set_answer c) 0 ≡ false → set_of c s ≡ s
unfolding set_of
set-refused c s e = go (columns_fit c) e
  where
    go : (b : Bool) → eqb (cond (not b) 2 0) 0 ≡ false → cond b (switched_of c (rejudged_of c (stored_of c s))) s ≡ s
    go true e = absurd (true≢false e)
    go false e = refl

pub event-refused : (x : SensorEvent) (s : Sensor) → eqb (sensor_answer x) 0 ≡ false → sensor_after x s ≡ s
event-refused (E.Reading v) s e = reading-refused v s e
event-refused (E.Set c) s e = set-refused c s e

-- the numbers that they can get, after 1: events' numbers, in their order
pub sensor-numbers : (x : SensorEvent) → numbers_below past_events (sensor_refusals x) ≡ true
sensor-numbers (E.Reading v) = refl
sensor-numbers (E.Set c) = refl

pub sensor-rises : (x : SensorEvent) → rising_from 3 (sensor_refusals x) ≡ true
sensor-rises (E.Reading v) = refl
sensor-rises (E.Set c) = refl
