-- An element among the first of an array is the same whatever stands for those past it.
use mathlib.Core.Path.{◌≡◌, ap, ◌∙◌}
use Prim.Native.Nat.{ℕ, ◌<◌, ◌≤◌}
use native.Mathlib.Omega.{arith}
use mathlib.Core.Bool.{Bool}
use mathlib.Core.List.{List}
use lib.ListN.{length, get_or, take}
use lib.Seq.{length-take-le}
use Rattle.std.proofs.lemmas.List.{get_or-take}
use Rattle.base.proofs.Rows.{get_d_any}
use Rattle.sensor.specs.declared.single.Sensor.{Sensor}
use Rattle.sensor.specs.Single.{fresh_sensor}
use Rattle.band.specs.declared.Row.{Row}
use Rattle.band.specs.Rows.{fresh_row, value_in}
use Rattle.report.specs.Lines.{band_line, sensor_line}

-- a place below the length of the first elements is one of them
pub below : {A : Type 0} (n : ℕ) (l : List A) (i : ℕ) → n ≤ length l → i < length (take n l) → i < n
below n l i h k = rw (length-take-le n l h) at k

module _ (n i : ℕ) (h : i < n) where
  pub band_there : (rows : List Row) (conditions : List Bool) (y : Row) → n ≤ length rows
      → band_line i (get_or (take n rows) i y) (value_in conditions (get_or (take n rows) i y))
      ≡ band_line i (get_or rows i fresh_row) (value_in conditions (get_or rows i fresh_row))
  band_there rows conditions y l =
      ap (λ (x : Row). band_line i x (value_in conditions x)) (get_or-take n rows i y h ∙ get_d_any rows i y fresh_row (omega (arith, h, l)))

  pub sensor_there : (sensors : List Sensor) (y : Sensor) → n ≤ length sensors
      → sensor_line i (get_or (take n sensors) i y) ≡ sensor_line i (get_or sensors i fresh_sensor)
  sensor_there sensors y l =
      ap (λ (x : Sensor). sensor_line i x) (get_or-take n sensors i y h ∙ get_d_any sensors i y fresh_sensor (omega (arith, h, l)))
