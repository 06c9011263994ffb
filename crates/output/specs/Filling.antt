-- How a writer fills its output. Document 01, 'Expressions as tokens': "It fills exactly the bytes needed from the start of the output."
-- Document 02, #102: "This and later writers fill their output as the token writer does, 11 included." The listing does too.
use Rattle.std.specs.Prelude.{ℕ, ◌+◌, cond, List, [], ◌∷◌, Result, Ok, Err, eqb, leb, ltb, length}
use Rattle.base.specs.Refusals.{TableRow, when, first_of}
use Rattle.base.specs.Spliced.{spliced, over}
use Rattle.answer.specs.Numbers.{number_of}
use Rattle.answer.specs.declared.Refusal.{Refusal}

-- by the answer's number: the bytes from the start of the output and the rest as it was, or all as it was
abbrev pub output_after : ℕ → List ℕ → List ℕ → List ℕ
output_after answer bytes out = cond (eqb answer 0) (over bytes out) out

-- and the number of bytes written
abbrev pub written_after : ℕ → List ℕ → ℕ
written_after answer bytes = cond (eqb answer 0) (length bytes) 0

-- what is told of a lent output: answer, number of bytes written, and the output
pub data Told : Type 0 where
  told : (answer count : ℕ) (output : List ℕ) → Told

-- of what a writer answers: done with the number of bytes written, or a refusal, with none
abbrev pub told_in : Result ℕ Refusal → List ℕ → Told
told_in (Ok count) output = told 0 count output
told_in (Err refusal) output = told (number_of refusal) 0 output

-- of a writer with bytes to write that gives this answer
abbrev pub told_by : (answer : ℕ) (bytes out : List ℕ) → Told
told_by answer bytes out = told answer (written_after answer bytes) (output_after answer bytes out)

-- 11 "short buffer: the .. output is shorter than needed"
abbrev pub fill_refusals : (bytes : List ℕ) (room : ℕ) → List TableRow
fill_refusals bytes room = when 11 (ltb room (length bytes)) ∷ []

unfoldable pub fill_answer : List ℕ → ℕ → ℕ
fill_answer bytes room = first_of (fill_refusals bytes room)

-- of a writer that has no other refusal
abbrev pub filled_by : (bytes out : List ℕ) → Told
filled_by bytes out = told_by (fill_answer bytes (length out)) bytes out

-- a part of what is written: the output with items from a place on where they fit, and else as it was
abbrev pub spliced_within : {A : Type 0} → List A → ℕ → List A → List A
spliced_within out at items = cond (leb (at + length items) (length out)) (spliced out at items) out
