-- The second condition of acceptance: "An expression written as tokens reads back as itself, and tokens that are accepted are written again
-- as the same bytes." First of the token form, then of the writer and the reader by their promises, one called after the other.
use Rattle.std.specs.Prelude.{◌≡◌, ℕ, ◌≤◌, List, Result, IfOk, length, take}
use Rattle.base.specs.Lists.{Bytes}
use Rattle.answer.specs.declared.Refusal.{Refusal}
use Rattle.answer.specs.Numbers.{answer_number}
use Rattle.expression.specs.declared.Element.{Element}
use Rattle.expression.specs.declared.Expression.{Expression}
use Rattle.expression.specs.Elements.{most_elements, elements_in, expression_of, AllFit}
use Rattle.token_reader.specs.Format.{bytes_of}
use Rattle.token_reader.specs.Read.{elements, read_tokens, Reads}
use Rattle.token_writer.specs.Write.{codes_of, needed_for, Writes}

-- both calls are done, and the expression read is the list written
pub record ReadBack (es : List Element) (w : Result ℕ Refusal) (r : Result Expression Refusal) : Type 0 where
  pub written : answer_number w ≡ 0
  pub read : answer_number r ≡ 0
  pub same : IfOk r (λ expression. expression ≡ expression_of es)

-- the writer is done, and so many bytes from the output's start are these
pub record Holds (bytes : List ℕ) (w : Result ℕ Refusal) (after : List ℕ) : Type 0 where
  pub done : answer_number w ≡ 0
  pub count : IfOk w (λ n. n ≡ length bytes)
  pub same : IfOk w (λ n. take n after ≡ bytes)

pub record RoundTrips : Type 0 where
  -- "An expression written as tokens reads back as itself": every list of "0 to 32 elements", with rows of four bytes and codes 0 to 2
  pub read_back : (es : List Element) → length es ≤ most_elements → AllFit es → read_tokens (bytes_of es) ≡ elements es
  -- "and tokens that are accepted are written again as the same bytes": every string of bytes that reads to elements
  pub written-again : (bytes : List ℕ) (es : List Element) → Bytes bytes → read_tokens bytes ≡ elements es → bytes_of es ≡ bytes
  -- "No other atom form is read.": no two strings of bytes read to the same elements
  pub one_form : (a b : List ℕ) (es : List Element) → Bytes a → Bytes b → read_tokens a ≡ elements es → read_tokens b ≡ elements es → a ≡ b
  -- the writer, where the output has room, and then the reader on the bytes written
  pub write-then-read : (es : List Element) (out after : List ℕ) (w : Result ℕ Refusal) (r : Result Expression Refusal) → length es ≤ most_elements → AllFit es
      → needed_for es ≤ length out → Writes (codes_of es) out w after → IfOk w (λ n. Reads (take n after) r) → ReadBack es w r
  -- the reader, where it is done, and then the writer with an output that has room for as many bytes
  pub read-then-write : (bytes out after : List ℕ) (r : Result Expression Refusal) (w : Result ℕ Refusal) → Bytes bytes → Reads bytes r → answer_number r ≡ 0
      → length bytes ≤ length out → IfOk r (λ expression. Writes (codes_of (elements_in expression)) out w after) → Holds bytes w after
