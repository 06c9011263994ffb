-- How the reader goes through the events, for the contracts of private functions.
use Rattle.std.specs.Prelude.{◌≡◌, ℕ, ◌≤◌, List, length, Result, Ok, Err}
use Rattle.base.specs.Spliced.{spliced}
use Rattle.drive.specs.Events.{Event}
use Rattle.event_form.specs.Flat.{all_fields, all_tokens}
use Rattle.script.specs.Events.{Events, events, bad_from}
use Rattle.script.specs.declared.BadScript.{BadScript}
use Rattle.script_reader.specs.declared.FlatLength.{FlatLength}

-- all events are told, and each slice has its part of the flat form where that fits
pub record AllTold (given : Events) (field_count token_count : ℕ) (fields tokens fields' tokens' : List ℕ) : Type 0 where
  pub es : List Event
  pub is : given ≡ events es
  pub field-count : field_count ≡ length (all_fields es)
  pub token-count : token_count ≡ length (all_tokens es)
  pub fields-are : field_count ≤ length fields → fields' ≡ spliced fields 0 (all_fields es)
  pub tokens-are : token_count ≤ length tokens → tokens' ≡ spliced tokens 0 (all_tokens es)

abbrev pub Flattens : Events → Result FlatLength BadScript → (fields tokens fields' tokens' : List ℕ) → Type 0
Flattens given (Ok l) fields tokens fields' tokens' = AllTold given l.fields l.tokens fields tokens fields' tokens'
Flattens given (Err bad) fields tokens fields' tokens' = given ≡ bad_from bad.place

-- the same, where no slice is lent
abbrev pub Measures : Events → Result FlatLength BadScript → Type 0
Measures given r = (fields : List ℕ) × (tokens : List ℕ) × (fields' : List ℕ) × (tokens' : List ℕ) × Flattens given r fields tokens fields' tokens'
