-- The rules of the sensor part, for worked examples above it that the checker computes: to unfold this is to unfold them all.
use mathlib.Core.Bool.{Bool, true}
use Rattle.phases.specs.Phases.{move_of}
use Rattle.sensor.specs.Level.{level_rule}
use Rattle.sensor.specs.Single.{fresh_sensor, level_given, judged, turned_to, reading_of, enable_of, disable_of, power_cycle_of, after_cause, sensor_tick}
use Rattle.sensor_set.specs.Columns.{columns_fit, stored_of, rejudged_of, switched_of, set_of}

unfoldable pub sensor-rules : Bool
unfolding move_of level_rule fresh_sensor level_given judged turned_to reading_of enable_of disable_of power_cycle_of after_cause sensor_tick columns_fit stored_of rejudged_of switched_of set_of
sensor-rules = true
