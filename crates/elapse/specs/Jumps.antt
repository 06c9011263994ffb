-- Document 01, 'Sensors': "An elapse of n is n ticks, bands settled after each. Its stops are the ticks at which some timer ends".
use Rattle.std.specs.Prelude.{ℕ, ◌≤◌, ◌≡◌}
use Rattle.base.specs.Lists.{count}
use Rattle.base.specs.Ticks.{ticks}
use Rattle.base.specs.Ticks.{stops as stops_in}
use Rattle.sensor.specs.Single.{runs}
use Rattle.drive.specs.declared.Drive.{Drive}
use Rattle.drive.specs.State.{tick_of, stop_next}

-- the timers that run
abbrev pub running : Drive → ℕ
running d = count runs d.sensors

-- What an elapse of n hands back and leaves: the drive after n ticks and the count of its stops, "which is at most the number of timers
-- running at its start".
pub record Elapses (n : ℕ) (d : Drive) (r : ℕ) (after : Drive) : Type 0 where
  pub drive : after ≡ ticks tick_of n d
  pub stops : r ≡ stops_in tick_of stop_next n d
  pub few : r ≤ running d
