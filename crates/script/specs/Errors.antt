-- Why a script comes to nothing, by the numbers of the table of answers.
use Rattle.std.specs.Prelude.{ℕ}
use Rattle.script.specs.declared.ScriptError.{ScriptError}
use Rattle.script.specs.declared.ScriptError.TheVariants as E

-- 10 "bad script: the script cannot be read", 11 "short buffer"
abbrev pub error_number : ScriptError → ℕ
error_number (E.Bad place) = 10
error_number E.ShortBuffer = 11

-- "Answer 10 carries a place"
abbrev pub error_place : ScriptError → ℕ
error_place (E.Bad place) = place
error_place E.ShortBuffer = 0
