-- What condition 3 says of one event that is struck, and of a list in which nothing but time and resets reaches the band: of every header and
-- every band. "(Half the board's questions ask whether something could have moved a band; ..)"
use Rattle.std.specs.Prelude.{ℕ, ◌≡◌, true, false, List, [], ◌∷◌, ◌++◌}
use Rattle.base.specs.Columns.{named}
use Rattle.expression.specs.declared.Element.{Element}
use Rattle.evaluator.specs.declared.Evaluation.TheVariants.{False}
use Rattle.evaluator.specs.Value.{mentions}
use Rattle.token_reader.specs.Read.{read_tokens, elements}
use Rattle.band.specs.Rows.{fresh_row}
use Rattle.band_columns.specs.declared.BandColumns.{BandColumns}
use Rattle.drive.specs.State.{fresh_drive, row_at, value_at}
use Rattle.drive.specs.Events.{Event, band_set, run_of}
use Rattle.condition.specs.Compared.{named_in, stays, only, compared}
use Rattle.condition.specs.Condition.{SameBand}

-- every element of a list
abbrev pub All : {A : Type 0} → (A → Type 0) → List A → Type 0
All P [] = Unit {0}
All P (x ∷ l) = P x × All P l

-- what stays where no band and no sensor is meant: an elapse or a reset
abbrev pub IsTime : Event → Type 0
IsTime x = stays (λ b. false) (λ s. false) x ≡ true

pub record Corollaries : Type 0 where
  -- "If the same list of events then remains, both runs end with that band's lock columns, expression and value alike": a list and what
  -- remains of it
  pub kept-alone : (capacity bands sensors band : ℕ) (es : List Event) → SameBand band (fresh_drive capacity bands sensors) es (compared band es)
  -- "What could have moved a band": an event that is struck, wherever it stands in a list, could not
  pub struck-never-moves : (capacity bands sensors band : ℕ) (x : Event) (es fs : List Event)
      → stays (only band) (named_in band (es ++ (x ∷ fs))) x ≡ false
      → SameBand band (fresh_drive capacity bands sensors) (es ++ (x ∷ fs)) (es ++ fs)
  -- "any expression in any of its Sets in the script that reads as tokens, granted or refused": a Set names the sensors that its expression refers
  -- to wherever it stands and whatever it is answered, with 13 too (document 02, #104)
  pub named-anyway : (band row : ℕ) (c : BandColumns) (bytes : List ℕ) (list : List Element) (es fs : List Event) → named 32 c.mask ≡ true
      → read_tokens bytes ≡ elements list → mentions row list ≡ true → named_in band (es ++ (band_set band c bytes ∷ fs)) row ≡ true
  -- "nothing there could": where only elapses and resets remain, the band's row is a fresh one and its value FALSE
  pub only-time-row : (capacity bands sensors band : ℕ) (es : List Event) → All IsTime (compared band es)
      → row_at (run_of (fresh_drive capacity bands sensors) es) band ≡ fresh_row
  pub only-time-value : (capacity bands sensors band : ℕ) (es : List Event) → All IsTime (compared band es)
      → value_at (run_of (fresh_drive capacity bands sensors) es) band ≡ False
