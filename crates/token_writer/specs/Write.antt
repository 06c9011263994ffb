-- Document 01, 'Expressions as tokens': "The writer takes an element list, whose operator codes are 0 to 2 (else 2), at most 32 elements
-- (else 4). It fills exactly the bytes needed from the start of the output."
use Rattle.std.specs.Prelude.{ℕ, ◌+◌, ◌-◌, ◌≡◌, Bool, true, not, cond, ◌&&◌, List, [], ◌∷◌, Result, IfOk, map, leb, ltb, length, take}
use Rattle.base.specs.Refusals.{TableRow, when, first_of}
use Rattle.answer.specs.declared.Refusal.{Refusal}
use Rattle.answer.specs.Numbers.{answer_number}
use Rattle.output.specs.Filling.{output_after, written_after}
use Rattle.expression.specs.declared.Part.{Part}
use Rattle.expression.specs.declared.Part.TheVariants.{Reference, Operator}
use Rattle.expression.specs.declared.Element.{Element}
use Rattle.expression.specs.Elements.{most_elements, element}
use Rattle.token_reader.specs.Format.{width_of, bytes_of}
use Rattle.token_reader.specs.Read.{elements, read_tokens}

-- An element as a number: a row below 2^32, and 2^32 plus the code of an operator.
abbrev pub part_of : ℕ → Part
part_of n = cond (ltb n 4294967296) (Reference n) (Operator (n - 4294967296))

abbrev pub code_of : Part → ℕ
code_of (Reference row) = row
code_of (Operator code) = 4294967296 + code

abbrev pub elements_of : List ℕ → List Element
elements_of codes = map (λ n. element (part_of n)) codes

abbrev pub codes_of : List Element → List ℕ
codes_of es = map (λ e. code_of e.part) es

-- "operator codes are 0 to 2", anywhere in the list
unfoldable pub codes_fit : List ℕ → Bool
codes_fit [] = true
codes_fit (n ∷ codes) = leb n 4294967298 && codes_fit codes

-- the bytes needed: 2, and 12 for each reference and 8 for each operator
unfoldable pub needed_for : List Element → ℕ
needed_for [] = 2
needed_for (e ∷ es) = width_of e.part + needed_for es

-- 2 "out of range", 4 "too long", and 11 "short buffer: the token writer's output is shorter than needed"
abbrev pub write_refusals : List ℕ → ℕ → List TableRow
write_refusals codes room =
    when 2 (not (codes_fit codes))
    ∷ when 4 (ltb most_elements (length codes))
    ∷ when 11 (ltb room (length (bytes_of (elements_of codes))))
    ∷ []

unfoldable pub write_answer : List ℕ → ℕ → ℕ
write_answer codes room = first_of (write_refusals codes room)

-- what the writer does with a list of numbers and an output
pub record Writes (codes out : List ℕ) (r : Result ℕ Refusal) (after : List ℕ) : Type 0 where
  pub answer : answer_number r ≡ write_answer codes (length out)
  pub count : IfOk r (λ n. n ≡ written_after (write_answer codes (length out)) (bytes_of (elements_of codes)))
  pub output : after ≡ output_after (write_answer codes (length out)) (bytes_of (elements_of codes)) out

-- "An expression written as tokens reads back as itself": where the writer is done, the bytes written read to these elements
abbrev pub ReadsBack : List Element → Result ℕ Refusal → List ℕ → Type 0
ReadsBack es r after = IfOk r (λ n. read_tokens (take n after) ≡ elements es)
