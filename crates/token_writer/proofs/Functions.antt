-- The writer and the reader, one after the other, said of their contracts; and both round trips.
use mathlib.Core.Path.{◌≡◌, refl, sym, ap, ◌∙◌}
use Prim.Native.Nat.{ℕ, ◌≤◌}
use native.Mathlib.Omega.{arith}
use mathlib.Core.Bool.{true, false}
use mathlib.Core.List.{List}
use lib.ListN.{length, take, length-map}
use borrow.Author.Tests.{le-ltb, ltb-false, not-false}
use Rattle.std.specs.Prelude.{Result, Ok, Err, IfOk}
use Rattle.base.proofs.Refusals.{applies_at, none-applies}
use Rattle.answer.specs.declared.Refusal.{Refusal}
use Rattle.answer.specs.Numbers.{answer_number}
use Rattle.answer.proofs.Injective.{refusal_number}
use Rattle.output.proofs.Filled.{written-bytes}
use Rattle.expression.specs.declared.Element.{Element}
use Rattle.expression.specs.declared.Expression.{Expression}
use Rattle.expression.specs.Elements.{elements_in, AllFit}
use Rattle.base.specs.Lists.{Bytes}
use Rattle.token_reader.specs.Format.{bytes_of}
use Rattle.token_reader.specs.Read.{elements, read_tokens, Tells, Reads}
use Rattle.token_reader.proofs.Fits.{read_fits}
use Rattle.token_reader.proofs.Again.{written_read, accepted-read}
use Rattle.token_writer.specs.Write.{elements_of, codes_of, codes_fit, needed_for, write_refusals, write_answer, Writes, ReadsBack}
use Rattle.token_writer.specs.RoundTrips.{ReadBack, Holds, RoundTrips}
use Rattle.token_writer.proofs.RoundTrip.{needed-is, codes-back, codes-fit, numbers_fit, tokens-written}

-- what a count says: every number fits, there are at most 32, and the bytes of their elements are written
module _ (codes out : List ℕ) (n : ℕ) (after : List ℕ) (h : Writes codes out (Ok n) after) where
  none-applied : (i : ℕ) → applies_at (write_refusals codes (length out)) i ≡ false
  unfolding write_answer
  none-applied i = none-applies 12 (write_refusals codes (length out)) refl (sym h.answer) i

  done-fits : codes_fit codes ≡ true
  done-fits = not-false (codes_fit codes) (none-applied 0)

  done-few : length (elements_of codes) ≤ 32
  done-few = rw (length-map codes) (ltb-false 32 (length codes) (none-applied 1))

  done-bytes : Holds (bytes_of (elements_of codes)) (Ok n) after
  done-bytes =
      let b = written-bytes _ _ (bytes_of (elements_of codes)) out after (sym h.answer) h.count h.output in
      record { done = refl; count = b.0; same = b.1 }

  read-back : read_tokens (take n after) ≡ elements (elements_of codes)
  read-back = ap read_tokens done-bytes.same ∙ tokens-written (elements_of codes) done-few (numbers_fit codes done-fits)

-- what is written is read back
pub reads_back : (codes out : List ℕ) (w : Result ℕ Refusal) (after : List ℕ) → Writes codes out w after → ReadsBack (elements_of codes) w after
reads_back codes out (Ok n) after h = read-back codes out n after h
reads_back codes out (Err reason) after h = tt

-- elements that fit, written where there is room
module _ (es : List Element) (out after : List ℕ) (short : length es ≤ 32) (f : AllFit es) (room : needed_for es ≤ length out) where
  accepts : write_answer (codes_of es) (length out) ≡ 0
  unfolding write_answer
  accepts = rw (
    codes-fit es f,
    le-ltb 32 (length (codes_of es)) (rw (length-map es) short),
    codes-back es f,
    le-ltb (length out) (length (bytes_of es)) (omega (arith, needed-is es)),
  )

  writes-all : (w : Result ℕ Refusal) → Writes (codes_of es) out w after → Holds (bytes_of es) w after
  writes-all (Ok n) h = rw (codes-back es f) at (done-bytes (codes_of es) out n after h)
  writes-all (Err reason) h = absurd (omega (arith, refusal_number reason, h.answer, accepts))

  write-then-read : (w : Result ℕ Refusal) (r : Result Expression Refusal) → Writes (codes_of es) out w after → IfOk w (λ n. Reads (take n after) r)
      → ReadBack es w r
  write-then-read (Ok n) r h q =
      let e : read_tokens (take n after) ≡ elements es = ap read_tokens (writes-all (Ok n) h).same ∙ tokens-written es short f in
      told r (rw e at q)
    where
      told : (r : Result Expression Refusal) → Tells (elements es) r → ReadBack es (Ok n) r
      told (Ok x) t = record { written = refl; read = refl; same = t }
      told (Err reason) t = absurd t
  write-then-read (Err reason) r h q = absurd (omega (arith, refusal_number reason, h.answer, accepts))

-- what is read is written back

read-then-write : (bytes out after : List ℕ) (r : Result Expression Refusal) (w : Result ℕ Refusal) → Bytes bytes → Reads bytes r → answer_number r ≡ 0
    → length bytes ≤ length out → IfOk r (λ x. Writes (codes_of (elements_in x)) out w after) → Holds bytes w after
read-then-write bytes out after (Ok x) w k q z room p =
    accepted-read bytes x q
    (λ es e y.
    let b : bytes_of es ≡ bytes = written_read bytes es k e in
    let fits = read_fits bytes es k e in
    let l : needed_for es ≤ length out = omega (arith, needed-is es, ap length b) in
    rw b at (writes-all es out after fits.0 fits.1 l w (rw y at p)))
read-then-write bytes out after (Err reason) w k q z room p = absurd (omega (arith, refusal_number reason))

pub round-trips : RoundTrips
round-trips = record {
  read_back = tokens-written;
  written-again = written_read;
  one_form = λ a b es j k p q. sym (written_read a es j p) ∙ written_read b es k q;
  write-then-read = λ es out after w r short f room p q. write-then-read es out after short f room w r p q;
  read-then-write = read-then-write;
}
