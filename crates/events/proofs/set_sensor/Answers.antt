use mathlib.Core.Path.{refl}
use Rattle.events.proofs.set_sensor.Goals as goal

pub returns : goal.returns
returns c = c.on_sensor.ensures _ refl
