-- The loop over the rows, once an event is stored: a reset, if there is one, and then the bands settle.
use mathlib.Core.Path.{◌≡◌, refl, sym, ap, ap₂, ◌∙◌}
use Prim.Native.Nat.{ℕ, zero, suc, ◌+◌, ◌≤◌}
use native.Mathlib.Numerals.{add-one}
use native.Mathlib.Omega.{arith}
use mathlib.Core.Bool.{Bool, true, false, not, ◌&&◌, ◌||◌, true≢false}
use mathlib.Core.List.{List, [], ◌∷◌, map}
use lib.ListN.{length, get_or, set, take, length-map}
use Rattle.std.specs.Prelude.{Option, Some, None}
use Rattle.base.specs.Lists.{any}
use Rattle.base.proofs.Cases.{neither}
use Rattle.base.proofs.Lists.{map_to, map_to-next, map_to-all}
use Rattle.band.specs.declared.Row.{Row}
use Rattle.band.specs.Rows.{with_locked, lock_under, settle_row, reset_row}
use Rattle.band.specs.Parts.{is_lockable, locks_by}
use Rattle.band.proofs.Settling.{not-lockable, steady-reset, reset-settle}
use Rattle.bands.proofs.Steady.{settle-steady, reset-steady}
use Rattle.drive.specs.declared.Drive.{Drive}
use Rattle.drive.specs.State.{with_rows, conditions_of, settle_of}
use Rattle.in_place.specs.declared.Run.{Run}
use Rattle.in_place.specs.Parts.{Stored, Finishes, finish_of}

-- ---- one row

-- a reset, where there is one, and then settling
abbrev reset_one : Option ℕ → Row → Row
reset_one (Some type) row = reset_row type row
reset_one None row = row

unfoldable pub finish_row : List Bool → Option ℕ → Row → Row
finish_row cs reset row = settle_row cs (reset_one reset row)

finish-locks : (cs : List Bool) (reset : Option ℕ) (row : Row) → finish_row cs reset row ≡ lock_under (locks_by cs reset row) row
unfolding finish_row settle_row
finish-locks cs (Some type) row = reset-settle cs type row
finish-locks cs None row = refl

finish-steady-row : (cs : List Bool) (reset : Option ℕ) (row : Row) → is_lockable row ≡ false → row ≡ finish_row cs reset row
unfolding finish_row
finish-steady-row cs (Some type) row e = not-lockable cs row (is_lockable row) refl e ∙ ap (settle_row cs) (sym (steady-reset type row e))
finish-steady-row cs None row e = not-lockable cs row (is_lockable row) refl e

finish-stays : (row : Row) → row ≡ lock_under false row
finish-stays row = ap₂ (λ (a b : Bool). with_locked a b row) (none row.read_locked row.read_lock_enabled) (none row.write_locked row.write_lock_enabled)
  where
    none : (locked enabled : Bool) → locked ≡ (locked || (enabled && false))
    none true enabled = refl
    none false true = refl
    none false false = refl

locked-steady : (row : Row) → is_lockable (lock_under true row) ≡ false
locked-steady row = ap₂ (λ (a b : Bool). a || b) (side row.read_locked row.read_lock_enabled) (side row.write_locked row.write_lock_enabled)
  where
    side : (locked enabled : Bool) → (enabled && not (locked || (enabled && true))) ≡ false
    side locked false = refl
    side true true = refl
    side false true = refl

-- ---- the loop

-- the rows before j are finished, and none of them is lockable where the flag is not set
pub record RowsFinished (y : Drive) (reset : Option ℕ) (cs : List Bool) (x : Run) (j : ℕ) : Type 0 where
  pub drive : x.drive ≡ with_rows (map_to (finish_row cs reset) j y.rows) y
  pub flag : x.any_lockable ≡ false → any is_lockable (take j x.drive.rows) ≡ false

pub finish_begin : (y : Drive) (reset : Option ℕ) (cs : List Bool) (o : Bool) → RowsFinished y reset cs (record { drive = y; any_lockable = o }) 0
unfolding any
finish_begin y reset cs o = record { drive = refl; flag = λ _. refl }

steady-next : (j : ℕ) (rows : List Row) (v : Row) → any is_lockable (take j rows) ≡ false → is_lockable v ≡ false → any is_lockable (take (suc j) (set rows j v)) ≡ false
unfolding any
steady-next j [] v e f = refl
steady-next zero (row ∷ rows) v e f = ap (λ (b : Bool). b || false) f
steady-next (suc j) (row ∷ rows) v e f =
    let h = neither (is_lockable row) (any is_lockable (take j rows)) e in
    ap₂ (λ (a b : Bool). a || b) h.0 (steady-next j rows v h.1 f)

steady-whole : (n : ℕ) (rows : List Row) → length rows ≤ n → any is_lockable (take n rows) ≡ false → any is_lockable rows ≡ false
unfolding any
steady-whole n [] h e = refl
steady-whole zero (row ∷ rows) h e = absurd (omega (arith, h))
steady-whole (suc n) (row ∷ rows) h e =
    let f = neither (is_lockable row) (any is_lockable (take n rows)) e in
    ap₂ (λ (a b : Bool). a || b) f.0 (steady-whole n rows (omega (arith, h)) f.1)

module _ (y : Drive) (reset : Option ℕ) (cs : List Bool) (x : Run) (j : ℕ) (z : Row) (g : RowsFinished y reset cs x j) where
  row : Row
  row = get_or x.drive.rows j z

  -- the next row finished, whatever is stored for it
  next_row : (v : Row) (o : Bool) → v ≡ finish_row cs reset (get_or x.drive.rows j z) → (o ≡ false → (x.any_lockable ≡ false) × (is_lockable v ≡ false))
      → RowsFinished y reset cs (record { drive = with_rows (set x.drive.rows j v) x.drive; any_lockable = o }) (j + 1)
  next_row v o e f = record {
    drive = ap (λ (w : Drive). with_rows (set x.drive.rows j v) w) g.drive
        ∙ ap (λ (rows : List Row). with_rows rows y) (map_to-next (finish_row cs reset) j y.rows x.drive.rows v z (ap (λ (w : Drive). w.rows) g.drive) e);
    flag = λ q. rw add-one (steady-next j x.drive.rows v (g.flag (f q).0) (f q).1);
  }

  pub finish_lock : (w : Bool) (new : Row) → w ≡ locks_by cs reset (get_or x.drive.rows j z) → w ≡ true → new ≡ lock_under true (get_or x.drive.rows j z)
      → RowsFinished y reset cs (record { drive = with_rows (set x.drive.rows j new) x.drive; any_lockable = x.any_lockable }) (j + 1)
  finish_lock w new q f r =
      next_row new x.any_lockable
      (r ∙ ap (λ (b : Bool). lock_under b (get_or x.drive.rows j z)) (sym f ∙ q) ∙ sym (finish-locks cs reset (get_or x.drive.rows j z)))
      (λ u. (u, ap is_lockable r ∙ locked-steady (get_or x.drive.rows j z)))

  pub finish_stay : (w : Bool) (v : Row) → w ≡ locks_by cs reset (get_or x.drive.rows j z) → w ≡ false → v ≡ get_or x.drive.rows j z
      → RowsFinished y reset cs (record { drive = with_rows (set x.drive.rows j v) x.drive; any_lockable = true }) (j + 1)
  finish_stay w v q f r =
      next_row v true
      (r ∙ finish-stays (get_or x.drive.rows j z) ∙ ap (λ (b : Bool). lock_under b (get_or x.drive.rows j z)) (sym f ∙ q) ∙ sym (finish-locks cs reset (get_or x.drive.rows j z)))
      (λ u. absurd (true≢false u))

  pub finish_pass : (u : Bool) (v : Row) → u ≡ is_lockable (get_or x.drive.rows j z) → u ≡ false → v ≡ get_or x.drive.rows j z
      → RowsFinished y reset cs (record { drive = with_rows (set x.drive.rows j v) x.drive; any_lockable = x.any_lockable }) (j + 1)
  finish_pass u v p e r =
      let f : is_lockable (get_or x.drive.rows j z) ≡ false = sym p ∙ e in
      next_row v x.any_lockable (r ∙ finish-steady-row cs reset (get_or x.drive.rows j z) f) (λ q. (q, ap is_lockable r ∙ f))

-- ---- at its end

map-twice : {A : Type 0} (f g : A → A) (l : List A) → map (λ x. f (g x)) l ≡ map f (map g l)
map-twice f g [] = refl
map-twice f g (x ∷ l) = ap (λ (m : List _). f (g x) ∷ m) (map-twice f g l)

all-finished : (reset : Option ℕ) (y : Drive) → with_rows (map (finish_row (conditions_of y) reset) y.rows) y ≡ finish_of reset y
unfolding finish_row finish_of settle_of conditions_of
all-finished (Some type) y = ap (λ (rows : List Row). with_rows rows y) (map-twice (settle_row (conditions_of y)) (reset_row type) y.rows)
all-finished None y = refl

pub finish_done : (was : Run) (reset : Option ℕ) (cs : List Bool) (x : Run) (j : ℕ) → Stored was → cs ≡ conditions_of was.drive → RowsFinished was.drive reset cs x j → 16 ≤ j
    → Finishes was reset x
finish_done was reset cs x j k ec g m =
    let w : x.drive ≡ with_rows (map (finish_row cs reset) was.drive.rows) was.drive =
    g.drive ∙ ap (λ (rows : List Row). with_rows rows was.drive) (map_to-all (finish_row cs reset) j was.drive.rows (omega (arith, k.rows, m))) in
    record {
      drive = w ∙ ap (λ (l : List Bool). with_rows (map (finish_row l reset) was.drive.rows) was.drive) ec ∙ all-finished reset was.drive;
      flag = λ q.
          steady-whole j x.drive.rows
          (let l : length x.drive.rows ≡ 16 = ap (λ (d : Drive). length d.rows) w ∙ length-map was.drive.rows _ ∙ k.rows in omega (arith, l, m)) (g.flag q);
    }

-- no row may be lockable: nothing is to lock
pub finish_idle : (was : Run) (reset : Option ℕ) → Stored was → was.any_lockable ≡ false → Finishes was reset was
unfolding finish_of settle_of
finish_idle was reset k e = record { drive = go reset; flag = k.flag }
  where
    settles : settle_of was.drive ≡ was.drive
    settles = ap (λ (rows : List Row). with_rows rows was.drive) (settle-steady (conditions_of was.drive) was.drive.rows (k.flag e))

    go : (reset : Option ℕ) → was.drive ≡ finish_of reset was.drive
    go None = sym settles
    go (Some type) = sym (ap (λ (rows : List Row). settle_of (with_rows rows was.drive)) (reset-steady type was.drive.rows (k.flag e)) ∙ settles)
