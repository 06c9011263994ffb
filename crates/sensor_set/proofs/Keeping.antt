-- What every event and every tick keeps of a sensor: the facts that the layers above carry from drive to drive.
use Rattle.sensor.specs.declared.single.Sensor.{Sensor}
use Rattle.sensor.specs.Single.{fresh_sensor, power_cycle_of, sensor_tick}
use Rattle.sensor_set.specs.declared.SensorEvent.{SensorEvent}
use Rattle.sensor_set.specs.declared.SensorEvent.TheVariants as E
use Rattle.sensor_set.specs.Columns.{sensor_after}
use Rattle.sensor.specs.Sound.{Sound, Timed, UpToDate}
use Rattle.sensor.proofs.Soundness.{fresh-sound, tick-sound, reading-sound, power-cycle-sound}
use Rattle.sensor.proofs.Bounds.{fresh-timed, tick-timed, reading-timed, cycle-timed}
use Rattle.sensor.proofs.Judging.{fresh-up-to-date, tick-up-to-date, reading-up-to-date, power-cycle-up-to-date}
use Rattle.sensor_set.proofs.Sets.{set-sound, set-timed, set-up-to-date}

-- it holds of the fresh sensor, and whatever happens to a sensor leaves it so
pub record Keeps (P : Sensor → Type 0) : Type 0 where
  pub fresh : P fresh_sensor
  pub event : (x : SensorEvent) (s : Sensor) → P s → P (sensor_after x s)
  pub tick : (s : Sensor) → P s → P (sensor_tick s)
  pub cycle : (s : Sensor) → P s → P (power_cycle_of s)

event-sound : (x : SensorEvent) (s : Sensor) → Sound s → Sound (sensor_after x s)
event-sound (E.Reading v) = reading-sound v
event-sound (E.Set c) = set-sound c

pub keeps-sound : Keeps Sound
keeps-sound = record { fresh = fresh-sound; event = event-sound; tick = tick-sound; cycle = power-cycle-sound }

event-timed : (x : SensorEvent) (s : Sensor) → Timed s → Timed (sensor_after x s)
event-timed (E.Reading v) = reading-timed v
event-timed (E.Set c) = set-timed c

pub keeps-timed : Keeps Timed
keeps-timed = record { fresh = fresh-timed; event = event-timed; tick = tick-timed; cycle = cycle-timed }

event-up-to-date : (x : SensorEvent) (s : Sensor) → UpToDate s → UpToDate (sensor_after x s)
event-up-to-date (E.Reading v) = reading-up-to-date v
event-up-to-date (E.Set c) = set-up-to-date c

pub keeps-up-to-date : Keeps UpToDate
keeps-up-to-date = record { fresh = fresh-up-to-date; event = event-up-to-date; tick = tick-up-to-date; cycle = power-cycle-up-to-date }
