-- Condition 3 as one claim about whole lists of events, on the runs that document 01's rules give. That the code's runs are these is said
-- by the contracts.
use Rattle.std.specs.Prelude.{ℕ, ◌<◌, ◌≡◌, ◌↔◌, true, List}
use Rattle.band.specs.declared.Side.{Side}
use Rattle.band.specs.Rows.{locked_on}
use Rattle.drive.specs.declared.Drive.{Drive}
use Rattle.drive.specs.State.{header_fits, fresh_drive, row_at, value_at}
use Rattle.drive.specs.Events.{Event, run_of}
use Rattle.condition.specs.History.{moments, LockedByHistory}
use Rattle.condition.specs.Compared.{compared, answers_to}

-- "both runs end with that band's lock columns, expression and value alike, and give the same answers to its Sets, in the same order". The
-- whole row is alike: the columns of bits 1 to 16, the stored elements, and the cells past them too.
pub record SameBand (band : ℕ) (fresh : Drive) (es fs : List Event) : Type 0 where
  pub row : row_at (run_of fresh es) band ≡ row_at (run_of fresh fs) band
  pub value : value_at (run_of fresh es) band ≡ value_at (run_of fresh fs) band
  pub answers : answers_to band fresh es ≡ answers_to band fresh fs

-- "every two scripts that read to their end and have equal headers, whatever their events and whichever of these are refused, and every
-- band that the header counts": a header in range, a band below its count, any lists of events.
pub record Condition3 : Type 0 where
  -- "If the same list of events then remains, both runs end .. alike"
  pub isolation : (capacity bands sensors : ℕ) → header_fits capacity bands sensors ≡ true → (band : ℕ) → band < bands
      → (es fs : List Event) → compared band es ≡ compared band fs → SameBand band (fresh_drive capacity bands sensors) es fs
  -- "a side of a band is locked exactly when document 01's history rule says so"
  pub history : (capacity bands sensors : ℕ) → header_fits capacity bands sensors ≡ true → (band : ℕ) → band < bands
      → (side : Side) (es : List Event)
      → (locked_on side (row_at (run_of (fresh_drive capacity bands sensors) es) band) ≡ true)
      ↔ LockedByHistory side band (moments (fresh_drive capacity bands sensors) es)
