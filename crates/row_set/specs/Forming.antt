-- Document 01, 'Bands': "A Set forms the new row; .. it is refused (8). Otherwise it is stored."; document 02, #104: 13.
use Rattle.std.specs.Prelude.{ℕ, ◌≡◌, Bool, List, Result, Ok, Err}
use Rattle.base.specs.Refusals.{first_of}
use Rattle.answer.specs.declared.Refusal.{Refusal}
use Rattle.answer.specs.Numbers.{number_of}
use Rattle.band.specs.declared.Row.{Row}
use Rattle.band_columns.specs.declared.BandColumns.{BandColumns}
use Rattle.drive.specs.Events.{formed_from, row_refusals}

-- the answer to a Set of a row that is there
unfoldable pub row_answer : List Bool → BandColumns → List ℕ → Row → ℕ
row_answer conditions c bytes row = first_of (row_refusals conditions c bytes row)

-- a value, where the answer is 0, or else the refusal of that number
abbrev pub Gives : {A : Type 0} → ℕ → A → Result A Refusal → Type 0
Gives answer value (Ok given) = (answer ≡ 0) × (given ≡ value)
Gives answer value (Err refusal) = number_of refusal ≡ answer

-- What a Set makes of a row, which is only lent: the new row, or a refusal.
abbrev pub SetsRow : List Bool → BandColumns → List ℕ → Row → Result Row Refusal → Type 0
SetsRow conditions c bytes row r = Gives (row_answer conditions c bytes row) (formed_from c bytes row) r
