-- Laws of a row's sides, settling and resets.
use mathlib.Core.Path.{◌≡◌, refl, sym, ap, ap₂, ◌∙◌}
use Prim.Native.Nat.{ℕ, zero, suc, ◌<◌}
use native.Mathlib.Omega.{arith}
use mathlib.Core.Bool.{Bool, true, false, not, cond, ◌&&◌, ◌||◌, false≢true}
use mathlib.Core.List.{List}
use Rattle.std.specs.Prelude.{Some}
use Rattle.base.proofs.Cases.{neither}
use Rattle.base.proofs.Columns.{named_none}
use Rattle.evaluator.specs.declared.Evaluation.{Evaluation}
use Rattle.evaluator.specs.Value.{is_true}
use Rattle.band.specs.declared.Side.TheVariants.{Read, Write}
use Rattle.band.specs.declared.Row.{Row}
use Rattle.band.specs.Rows.{last_reset_type, fresh_row, value_in, with_locked, lock_under, settle_row, in_set, reset_row}
use Rattle.band.specs.Parts.{lockable_on, is_lockable, locks_by}

-- ---- what settling and a reset come to, by the tests of the code

pub settled : (cs : List Bool) (row r : Row) (v : Evaluation) (t : Bool) → v ≡ value_in cs row → t ≡ is_true v → t ≡ true → r ≡ lock_under true row
    → r ≡ settle_row cs row
unfolding settle_row
settled cs row r v t p e h q = q ∙ ap (λ (x : Bool). lock_under x row) (sym h ∙ e ∙ ap is_true p)

-- a side stays as it is where it is not lockable, and where the value is not TRUE
steady : (locked enabled v : Bool) → (enabled && not locked) ≡ false → locked ≡ (locked || (enabled && v))
steady true enabled v e = refl
steady false true v e = absurd (false≢true (sym e))
steady false false v e = refl

unlocked : (locked enabled : Bool) → locked ≡ (locked || (enabled && false))
unlocked true enabled = refl
unlocked false true = refl
unlocked false false = refl

-- a row with no lockable side stays as it is
steady-row : (v : Bool) (row : Row) → is_lockable row ≡ false → row ≡ lock_under v row
steady-row v row e =
    let h = neither (lockable_on Read row) (lockable_on Write row) e in
    ap₂ (λ (a b : Bool). with_locked a b row)
    (steady row.read_locked row.read_lock_enabled v h.0)
    (steady row.write_locked row.write_lock_enabled v h.1)

pub not-lockable : (cs : List Bool) (row : Row) (t : Bool) → t ≡ is_lockable row → t ≡ false → row ≡ settle_row cs row
unfolding settle_row
not-lockable cs row t p e = steady-row (is_true (value_in cs row)) row (sym p ∙ e)

pub not_true : (cs : List Bool) (row : Row) (v : Evaluation) (t : Bool) → v ≡ value_in cs row → t ≡ is_true v → t ≡ false → row ≡ settle_row cs row
unfolding settle_row
not_true cs row v t p e h =
    ap₂ (λ (a b : Bool). with_locked a b row)
    (unlocked row.read_locked row.read_lock_enabled)
    (unlocked row.write_locked row.write_lock_enabled)
    ∙ ap (λ (x : Bool). lock_under x row) (sym h ∙ e ∙ ap is_true p)

pub ruleset settling = (settled, not-lockable, not_true)

-- a type above the last is in no set
pub past-types : (set type : ℕ) → last_reset_type < type → false ≡ in_set set type
past-types set zero h = absurd (omega (arith, h))
past-types set (suc zero) h = absurd (omega (arith, h))
past-types set (suc (suc zero)) h = absurd (omega (arith, h))
past-types set (suc (suc (suc zero))) h = absurd (omega (arith, h))
past-types set (suc (suc (suc (suc type)))) h = named_none set 0 refl

-- ---- laws for the layers above

-- a reset and then settling: each enabled side is locked where the type is in the row's set or the expression is TRUE
pub reset-settle : (cs : List Bool) (type : ℕ) (row : Row) → settle_row cs (reset_row type row) ≡ lock_under (locks_by cs (Some type) row) row
unfolding settle_row reset_row
reset-settle cs type row = go (in_set row.lock_on_reset type)
  where
    once : (locked enabled v : Bool) → ((locked || (enabled && true)) || (enabled && v)) ≡ (locked || (enabled && true))
    once true enabled v = refl
    once false true v = refl
    once false false v = refl

    go : (b : Bool) → lock_under (is_true (value_in cs (cond b (lock_under true row) row))) (cond b (lock_under true row) row) ≡ lock_under (b || is_true (value_in cs row)) row
    go true =
        ap₂ (λ (a b : Bool). with_locked a b row)
        (once row.read_locked row.read_lock_enabled (is_true (value_in cs row)))
        (once row.write_locked row.write_lock_enabled (is_true (value_in cs row)))
    go false = refl

-- a row with no lockable side is reset to itself
pub steady-reset : (type : ℕ) (row : Row) → is_lockable row ≡ false → reset_row type row ≡ row
unfolding reset_row
steady-reset type row e = go (in_set row.lock_on_reset type)
  where
    go : (b : Bool) → cond b (lock_under true row) row ≡ row
    go true = sym (steady-row true row e)
    go false = refl

lock-again : (locked enabled v : Bool) → ((locked || (enabled && v)) || (enabled && v)) ≡ (locked || (enabled && v))
lock-again true enabled v = refl
lock-again false true true = refl
lock-again false true false = refl
lock-again false false v = refl

-- settling twice is settling once
pub settle-again : (cs : List Bool) (row : Row) → settle_row cs (settle_row cs row) ≡ settle_row cs row
unfolding settle_row
settle-again cs row =
    ap₂ (λ (a b : Bool). with_locked a b row)
    (lock-again row.read_locked row.read_lock_enabled (is_true (value_in cs row)))
    (lock-again row.write_locked row.write_lock_enabled (is_true (value_in cs row)))

-- a fresh row settles and is reset to itself
pub fresh-settles : (cs : List Bool) → settle_row cs fresh_row ≡ fresh_row
unfolding settle_row fresh_row
fresh-settles cs = refl

pub fresh-reset : (type : ℕ) → reset_row type fresh_row ≡ fresh_row
unfolding reset_row fresh_row
fresh-reset type = go (in_set fresh_row.lock_on_reset type)
  where
    go : (b : Bool) → cond b (lock_under true fresh_row) fresh_row ≡ fresh_row
    go true = refl
    go false = refl
