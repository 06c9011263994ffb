-- What the code does in an elapse between two stops.
use Rattle.std.specs.Prelude.{ℕ, map}
use Rattle.sensor.specs.Parts.{lowered_by}
use Rattle.drive.specs.declared.Drive.{Drive}
use Rattle.drive.specs.State.{with_sensors}

-- k ticks at once, at which no timer ends and nothing settles
unfoldable pub jump_of : ℕ → Drive → Drive
jump_of k d = with_sensors (map (lowered_by k) d.sensors) d
