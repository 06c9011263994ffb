-- Document 02, #104, 'Malformed expressions at the door', of a whole drive (theorem `at-the-door` in proofs/Door).
use Rattle.std.specs.Prelude.{ℕ, ◌≤◌, ◌≡◌, Bool, true, false, List, []}
use Rattle.base.specs.Columns.{named}
use Rattle.base.specs.Refusals.{applying, order_of}
use Rattle.base.specs.Rows.{is_row}
use Rattle.expression.specs.Elements.{elements_in}
use Rattle.evaluator.specs.Formed.{malformed}
use Rattle.token_reader.specs.Read.{read_tokens, elements}
use Rattle.band.specs.declared.Row.{Row}
use Rattle.band.specs.Rows.{settle_row}
use Rattle.band_columns.specs.declared.BandColumns.{BandColumns}
use Rattle.drive.specs.declared.Drive.{Drive}
use Rattle.drive.specs.Events.{Event, band_set, shape_of, if_setting, malformed_in, formed_from, held_under, refusals, answer_of, step_of}

pub record AtTheDoor : Type 0 where
  -- "A Set with a malformed, non-empty expression is now refused.": with 13 or a number that comes before it, so never with 8, and the drive stays
  pub refused : (d : Drive) (band : ℕ) (c : BandColumns) (bytes : List ℕ) → malformed_in c bytes ≡ true
      → (1 ≤ answer_of d (band_set band c bytes)) × (order_of (answer_of d (band_set band c bytes)) ≤ order_of 13)
  pub kept : (d : Drive) (band : ℕ) (c : BandColumns) (bytes : List ℕ) → malformed_in c bytes ≡ true → step_of d (band_set band c bytes) ≡ d
  -- "Turned away: 13 malformed": no other Set and no other event gets it
  pub only-malformed : (d : Drive) (e : Event) → answer_of d e ≡ 13 → if_setting (shape_of e) (λ band c bytes. malformed_in c bytes) false ≡ true
  -- not a Set that leaves the expression as it is, and not one that empties it
  pub unnamed : (d : Drive) (band : ℕ) (c : BandColumns) (bytes : List ℕ) → named 32 c.mask ≡ false → answer_of d (band_set band c bytes) ≡ 13 → ⊥
  pub emptied : (d : Drive) (band : ℕ) (c : BandColumns) (bytes : List ℕ) → read_tokens bytes ≡ elements [] → answer_of d (band_set band c bytes) ≡ 13
      → ⊥
  -- a row that has such an expression all the same, as no script can make one, is not under a TRUE expression: it settles as it is, and no Set of it
  -- is held
  pub settles-open : (conditions : List Bool) (row : Row) → malformed (elements_in row.expression) ≡ true → settle_row conditions row ≡ row
  pub never-held : (conditions : List Bool) (c : BandColumns) (new : Row) → malformed (elements_in new.expression) ≡ true
      → held_under conditions c new ≡ false
  -- so 13 and 8 never apply both, and document 01's sentence stays as it was: "The lowest number that applies is given"
  pub not-both : (conditions : List Bool) (c : BandColumns) (bytes : List ℕ) (row : Row) → malformed_in c bytes ≡ true
      → held_under conditions c (formed_from c bytes row) ≡ false
  pub lowest-number : (d : Drive) (e : Event) (n : ℕ) → applying n (refusals d e) ≡ true → answer_of d e ≤ n
  -- "at the door": it is judged without the conditions and the rows. Of two drives that have the band, whatever else they hold, one gives 13 where
  -- the other does.
  pub whatever : (d e : Drive) (band : ℕ) (c : BandColumns) (bytes : List ℕ) → is_row d.band_count band ≡ true
      → is_row e.band_count band ≡ true → answer_of d (band_set band c bytes) ≡ 13 → answer_of e (band_set band c bytes) ≡ 13
