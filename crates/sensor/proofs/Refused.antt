-- A reading that is refused leaves the sensor as it was.
use mathlib.Core.Path.{◌≡◌, refl}
use Prim.Native.Nat.{ℕ}
use mathlib.Core.Bool.{Bool, true, false, cond, true≢false}
use lib.Dec.{ltb, eqb}
use Rattle.sensor.specs.declared.single.Sensor.{Sensor}
use Rattle.sensor.specs.Single.{keeping, judged, reading_of, reading_answer}
use Rattle.sensor.specs.Level.{greatest_reading}

-- "Any refusal leaves the drive .. untouched"
pub reading-refused : (v : ℕ) (s : Sensor) → eqb (reading_answer v) 0 ≡ false → reading_of v s ≡ s
unfolding reading_of
reading-refused v s e = go (ltb greatest_reading v) e
  where
    go : (b : Bool) → eqb (cond b 2 0) 0 ≡ false → cond b s (judged (keeping v s)) ≡ s
    go true e = refl
    go false e = absurd (true≢false e)
