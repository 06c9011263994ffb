-- What the parts of a Set's code do, for the contracts of private functions.
use Rattle.std.specs.Prelude.{ℕ, Bool, cond, ◌&&◌, List, [], Result}
use Rattle.base.specs.Columns.{named}
use Rattle.answer.specs.declared.Refusal.{Refusal}
use Rattle.expression.specs.declared.Expression.{Expression}
use Rattle.expression.specs.Elements.{elements_in, expression_of}
use Rattle.evaluator.specs.Formed.{malformed}
use Rattle.token_reader.specs.Read.{read_tokens, expression_in}
use Rattle.band.specs.declared.Row.{Row}
use Rattle.band_columns.specs.declared.BandColumns.{BandColumns}
use Rattle.band_columns.specs.Sets.{formed_row}
use Rattle.drive.specs.Events.{tokens_answer, held_under}
use Rattle.row_set.specs.Forming.{Gives}

-- the expression of a Set: what its bytes read to where the Set names it, and else the empty one, which is not looked at
abbrev pub expression_for : BandColumns → List ℕ → Expression
expression_for c bytes = cond (named 32 c.mask) (expression_in (read_tokens bytes)) (expression_of [])

abbrev pub TokensFor : BandColumns → List ℕ → Result Expression Refusal → Type 0
TokensFor c bytes r = Gives (tokens_answer c bytes) (expression_for c bytes) r

-- the answer to a Set whose fields fit and whose bytes read, from the expression that they read to
abbrev pub form_answer : List Bool → BandColumns → Expression → Row → ℕ
form_answer conditions c x row =
    cond (named 32 c.mask && malformed (elements_in x)) 13 (cond (held_under conditions c (formed_row c x row)) 8 0)

-- the new row
abbrev pub Forms : List Bool → BandColumns → Expression → Row → Result Row Refusal → Type 0
Forms conditions c x row r = Gives (form_answer conditions c x row) (formed_row c x row) r
