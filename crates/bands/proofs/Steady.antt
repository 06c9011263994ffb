-- Rows of which no side is lockable: settling and a reset leave them as they are.
use mathlib.Core.Path.{◌≡◌, refl, sym}
use mathlib.Core.Bool.{Bool, false}
use mathlib.Core.List.{List, [], ◌∷◌, map}
use Prim.Native.Nat.{ℕ}
use Rattle.base.specs.Lists.{any}
use Rattle.base.proofs.Cases.{neither}
use Rattle.base.proofs.Loops.{map-begin, map-again, map-done, fill-begin, fill_done}
use Rattle.band.specs.declared.Row.{Row}
use Rattle.band.specs.Rows.{settle_row, reset_row}
use Rattle.band.specs.Parts.{is_lockable}
use Rattle.band.proofs.Settling.{not-lockable, steady-reset}

-- a change that leaves each row with no lockable side as it is
module _ (f : Row → Row) (steady : (row : Row) → is_lockable row ≡ false → f row ≡ row) where
  all-steady : (rows : List Row) → any is_lockable rows ≡ false → map f rows ≡ rows
  unfolding any
  all-steady [] e = refl
  all-steady (row ∷ rows) e =
      let h = neither (is_lockable row) (any is_lockable rows) e in
      λ i. steady row h.0 i ∷ all-steady rows h.1 i

pub settle-steady : (conditions : List Bool) (rows : List Row) → any is_lockable rows ≡ false → map (settle_row conditions) rows ≡ rows
settle-steady conditions = all-steady (settle_row conditions) (λ row e. sym (not-lockable conditions row (is_lockable row) refl e))

pub reset-steady : (type : ℕ) (rows : List Row) → any is_lockable rows ≡ false → map (reset_row type) rows ≡ rows
reset-steady type = all-steady (reset_row type) (steady-reset type)

-- the start, a turn and the end of a loop over the sixteen
pub ruleset loops = (map-begin, map-again, map-done, fill-begin, fill_done)
