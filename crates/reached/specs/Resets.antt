-- Document 02, #105, 'Programmatic reset', of a whole drive (theorem `programmatic-reset` in proofs/Resets). The types' bits and the sets of them
-- are `ResetTypes` (band, specs/Resets).
use Rattle.std.specs.Prelude.{ℕ, ◌≤◌, ◌<◌, ◌≡◌, true, cond, ◌&&◌, ◌||◌, List, [], map, length}
use Rattle.base.specs.Columns.{named}
use Rattle.base.specs.Rows.{is_row}
use Rattle.evaluator.specs.Value.{is_true}
use Rattle.band.specs.declared.Side.{Side}
use Rattle.band.specs.declared.Row.{Row}
use Rattle.band.specs.Rows.{enabled_on, locked_on, value_in, lock_under}
use Rattle.band_columns.specs.declared.BandColumns.{BandColumns}
use Rattle.drive.specs.declared.Drive.{Drive}
use Rattle.drive.specs.State.{with_rows, conditions_of, row_at, value_at}
use Rattle.drive.specs.Events.{reset, band_set, answer_of, step_of, stops_of}
use Rattle.reached.specs.Reached.{Reached}

-- "A band whose set has the type gets each enabled side locked. .. Then bands settle.": a row after a reset whose type has this bit, where the sensors
-- stay as they are
abbrev pub reset_by : ℕ → Drive → Row → Row
reset_by bit d row = lock_under (named bit row.lock_on_reset || is_true (value_in (conditions_of d) row)) row

-- a Set that names LockOnReset alone
abbrev pub lock_on_reset_alone : ℕ → BandColumns
lock_on_reset_alone set = record {
  mask = 16;
  read_lock_enabled = 0;
  write_lock_enabled = 0;
  read_locked = 0;
  write_locked = 0;
  lock_on_reset = set;
}

-- a Set with another LockOnReset
abbrev pub with_set : ℕ → BandColumns → BandColumns
with_set set c = record {
  mask = c.mask;
  read_lock_enabled = c.read_lock_enabled;
  write_lock_enabled = c.write_lock_enabled;
  read_locked = c.read_locked;
  write_locked = c.write_locked;
  lock_on_reset = set;
}

pub record ProgrammaticReset : Type 0 where
  -- "Type 3, refused with 2 so far, now resets": the types 0 to 3 are answered 0, on every drive
  pub done : (d : Drive) (type : ℕ) → type ≤ 3 → answer_of d (reset type) ≡ 0
  -- what is above 3 is no type: it gets 2, and the drive stays; and no reset has stops
  pub refused : (d : Drive) (type : ℕ) → 3 < type → answer_of d (reset type) ≡ 2
  pub kept : (d : Drive) (type : ℕ) → 3 < type → step_of d (reset type) ≡ d
  pub no-stops : (d : Drive) (type : ℕ) → stops_of d (reset type) ≡ 0
  -- "as the other types do and does not touch sensors": the three that are no power cycle have one equation, each with its bit, and "bit 8 for the new
  -- type". Of the drive they change the rows alone.
  pub hardware : (d : Drive) → step_of d (reset 1) ≡ with_rows (map (reset_by 2 d) d.rows) d
  pub hot-plug : (d : Drive) → step_of d (reset 2) ≡ with_rows (map (reset_by 4 d) d.rows) d
  pub programmatic : (d : Drive) → step_of d (reset 3) ≡ with_rows (map (reset_by 8 d) d.rows) d
  -- so a side is locked after it exactly where it was locked, or is enabled and has bit 8 in its band's set or a TRUE expression
  pub locks : (d : Drive) (band : ℕ) (side : Side)
      → locked_on side (row_at (step_of d (reset 3)) band)
      ≡ (locked_on side (row_at d band) || (enabled_on side (row_at d band) && (named 8 (row_at d band).lock_on_reset || is_true (value_at d band))))
  -- and where bands are settled already, as events leave them, by its band's set alone
  pub locks-reached : (d : Drive) → Reached d → (band : ℕ) (side : Side)
      → locked_on side (row_at (step_of d (reset 3)) band)
      ≡ (locked_on side (row_at d band) || (enabled_on side (row_at d band) && named 8 (row_at d band).lock_on_reset))
  -- and levels, phases, timers and last readings stay, and with them the value of each band
  pub sensors-stay : (d : Drive) → (step_of d (reset 3)).sensors ≡ d.sensors
  pub values-stay : (d : Drive) (band : ℕ) → value_at (step_of d (reset 3)) band ≡ value_at d band
  -- "LockOnReset takes 0 to 15": a Set that names a greater one gets 2, or 1 where the band is not there, and the drive stays
  pub above-15 : (d : Drive) (band : ℕ) (c : BandColumns) (bytes : List ℕ) → named 16 c.mask ≡ true → 15 < c.lock_on_reset
      → answer_of d (band_set band c bytes) ≡ cond (is_row d.band_count band) 2 1
  pub above-15-kept : (d : Drive) (band : ℕ) (c : BandColumns) (bytes : List ℕ) → named 16 c.mask ≡ true → 15 < c.lock_on_reset
      → step_of d (band_set band c bytes) ≡ d
  -- alone each of the sixteen is granted, on every drive that has the band, and beside other columns none is refused where another is granted
  pub alone : (d : Drive) (band set : ℕ) → is_row d.band_count band ≡ true → set ≤ 15 → answer_of d (band_set band (lock_on_reset_alone set) []) ≡ 0
  pub up-to-15 : (d : Drive) (band set : ℕ) (c : BandColumns) (bytes : List ℕ) → set ≤ 15 → c.lock_on_reset ≤ 15
      → answer_of d (band_set band (with_set set c) bytes) ≡ answer_of d (band_set band c bytes)
  -- and the one that a granted Set names is stored
  pub stored : (d : Drive) (band : ℕ) (c : BandColumns) (bytes : List ℕ) → length d.rows ≡ 16 → named 16 c.mask ≡ true
      → answer_of d (band_set band c bytes) ≡ 0 → (row_at (step_of d (band_set band c bytes)) band).lock_on_reset ≡ c.lock_on_reset
