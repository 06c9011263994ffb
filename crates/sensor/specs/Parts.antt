-- Several ticks at once, as the code passes them.
use Rattle.std.specs.Prelude.{ℕ, ◌-◌, min, cond, eqb}
use Rattle.sensor.specs.declared.single.Sensor.{Sensor}
use Rattle.sensor.specs.Single.{with_timer}

-- k ticks at once: the ticks to go less k
abbrev pub lowered_by : ℕ → Sensor → Sensor
lowered_by k s = with_timer (s.timer - k) s

-- the ticks that pass before the one that ends the timer, n at most
abbrev pub quiet_of : ℕ → Sensor → ℕ
quiet_of n s = cond (eqb s.timer 0) n (min n (s.timer - 1))
