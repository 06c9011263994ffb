-- "transfer (0 read or 1 write, ..)": the side that a direction reads or writes.
use Rattle.std.specs.Prelude.{ℕ, ◌≡◌, ◌<◌, ◌≤◌, cond, eqb, Result, Ok, Err}
use Rattle.answer.specs.declared.Refusal.{Refusal}
use Rattle.answer.specs.declared.Refusal.TheVariants.{OutOfRange}
use Rattle.band.specs.declared.Side.{Side}
use Rattle.band.specs.declared.Side.TheVariants.{Read, Write}

-- the side of 0 or 1; any other number is out of range
abbrev pub SideRead : ℕ → Result Side Refusal → Type 0
SideRead direction (Ok side) = (direction ≤ 1) × (side ≡ cond (eqb direction 0) Read Write)
SideRead direction (Err refusal) = (1 < direction) × (refusal ≡ OutOfRange)
