-- Document 01, 'Expressions as tokens': what a string of bytes reads to.
use Rattle.std.specs.Prelude.{ℕ, zero, suc, ◌≡◌, cond, List, [], ◌∷◌, ◌++◌, Option, Some, None, Result, Ok, Err, IfOk, eqb, ltb, length, get_or, drop}
use Rattle.answer.specs.declared.Refusal.{Refusal}
use Rattle.answer.specs.Numbers.{number_of}
use Rattle.expression.specs.declared.Part.{Part}
use Rattle.expression.specs.declared.Element.{Element}
use Rattle.expression.specs.declared.Expression.{Expression}
use Rattle.expression.specs.Elements.{most_elements, element, elements_in, expression_of}
use Rattle.token_reader.specs.Format.{part_in, width_of, is_end, bytes_of}

-- what is read: the elements, or the refusal's number
pub data TokenOutcome : Type 0 where
  elements : List Element → TokenOutcome
  refusal : ℕ → TokenOutcome

-- what stands where an element may begin: that element, with the answer 0; or 3 "not tokens: the expression bytes break the token form"
abbrev pub head_outcome : Option Part → TokenOutcome
head_outcome (Some p) = elements (element p ∷ [])
head_outcome None = refusal 3

-- what is read first, and then what follows it
abbrev pub followed : TokenOutcome → TokenOutcome → TokenOutcome
followed (elements es) (elements fs) = elements (es ++ fs)
followed (elements es) (refusal n) = refusal n
followed (refusal n) next = refusal n

-- past what is broken nothing is read
abbrev pub and_then : List ℕ → Option Part → (List ℕ → TokenOutcome) → TokenOutcome
and_then bytes (Some p) follow = followed (head_outcome (Some p)) (follow (drop (width_of p) bytes))
and_then bytes None follow = head_outcome None

-- The elements up to the end of the list, with room for so many. "not tokens: the expression bytes break the token form"; "too long:
-- after 32 elements another F2 stands where an element may begin"; "of 3 and 4 the one met first from the left".
unfoldable pub read_elements : ℕ → List ℕ → TokenOutcome
read_elements zero bytes = cond (is_end bytes) (elements []) (cond (eqb (get_or bytes 0 0) 0xF2) (refusal 4) (refusal 3))
read_elements (suc room) bytes = cond (is_end bytes) (elements []) (and_then bytes (part_in bytes) (λ rest. read_elements room rest))

-- "F0, then the elements, then F1, then no more bytes." "0 to 32 elements."
unfoldable pub read_list : List ℕ → TokenOutcome
read_list bytes = cond (eqb (get_or bytes 0 0) 0xF0) (read_elements most_elements (drop 1 bytes)) (refusal 3)

-- "more than 1,024 expression bytes gets 2"
abbrev pub most_token_bytes : ℕ
most_token_bytes = 1024

unfoldable pub read_tokens : List ℕ → TokenOutcome
read_tokens bytes = cond (ltb most_token_bytes (length bytes)) (refusal 2) (read_list bytes)

-- the number that an outcome has in the table of answers, and the expression that it comes to, of none the empty one
abbrev pub answer_in : TokenOutcome → ℕ
answer_in (elements es) = 0
answer_in (refusal n) = n

abbrev pub expression_in : TokenOutcome → Expression
expression_in (elements es) = expression_of es
expression_in (refusal n) = expression_of []

-- r says what the outcome is: the expression of these elements, or a refusal of this number
abbrev pub Tells : TokenOutcome → Result Expression Refusal → Type 0
Tells (elements es) (Ok expression) = expression ≡ expression_of es
Tells (elements es) (Err reason) = ⊥
Tells (refusal n) (Ok expression) = ⊥
Tells (refusal n) (Err reason) = number_of reason ≡ n

abbrev pub Reads : List ℕ → Result Expression Refusal → Type 0
Reads bytes r = Tells (read_tokens bytes) r

-- "tokens that are accepted are written again as the same bytes": these are the bytes of the elements handed back
abbrev pub WrittenAgain : List ℕ → Result Expression Refusal → Type 0
WrittenAgain bytes r = IfOk r (λ expression. bytes_of (elements_in expression) ≡ bytes)
