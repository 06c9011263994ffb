-- What the arms of the functions come to, over the values that their calls hand back.
use mathlib.Core.Path.{◌≡◌, refl, sym, ap, ◌∙◌}
use Prim.Native.Nat.{ℕ, zero, suc, ◌+◌, ◌/◌, ◌%◌, ◌<◌, ◌≤◌}
use native.Mathlib.Omega.{arith}
use mathlib.Core.Bool.{Bool, true, false, cond}
use mathlib.Core.List.{List, [], ◌∷◌}
use lib.Dec.{ltb, eqb}
use lib.ListN.{length, get_or, take, length-take}
use Rattle.std.proofs.lemmas.List.{take_min}
use mir.Syntax.{w32}
use mir.Val.{Fits}
use borrow.Author.Tests.{lt-ltb, le-ltb, ne_eqb}
use Rattle.base.specs.Spliced.{spliced}
use Rattle.base.proofs.Cases.{cond-true, cond-false, behind, absent}
use Rattle.base.proofs.Spliced.{spliced-over}
use Rattle.std.specs.Prelude.{Result, Ok, Err}
use Rattle.std.specs.Int.{to_be_bytes}
use Rattle.answer.specs.declared.Refusal.{Refusal}
use Rattle.answer.specs.declared.Refusal.TheVariants.{OutOfRange, TooLong, ShortBuffer}
use Rattle.answer.specs.Numbers.{number_of}
use Rattle.answer.proofs.Injective.{refusal_number}
use Rattle.output.specs.Filling.{spliced_within, output_after, written_after}
use Rattle.output.proofs.Filled.{put-twice}
use Rattle.expression.specs.declared.Element.{Element}
use Rattle.expression.specs.declared.Expression.{Expression}
use Rattle.expression.specs.Elements.{element, elements_in}
use Rattle.expression.specs.declared.Part.{Part}
use Rattle.expression.specs.declared.Part.TheVariants.{Reference, Operator}
use Rattle.token_reader.specs.Format.{reference_prefix, operator_prefix, width_of, part_bytes, bytes_of}
use Rattle.token_writer.specs.Write.{
  part_of,
  code_of,
  codes_of,
  codes_fit,
  elements_of,
  needed_for,
  write_answer,
  Writes,
  ReadsBack,
}
use Rattle.token_writer.proofs.RoundTrip.{needed-is}

-- one element: its first bytes and its last, where there is room for both

-- the high byte of a row needs no remainder
high-byte : (row : ℕ) → row < 4294967296 → row / 16777216 % 256 ≡ row / 16777216
high-byte row h = omega arith

pub put_reference : (p : Part) (row at : ℕ) (d next last bytes : List ℕ) → p ≡ Reference row → Fits w32 row → at + width_of p ≤ length d
    → length next ≡ length d → bytes ≡ to_be_bytes w32 row → next ≡ spliced_within d at reference_prefix
    → last ≡ spliced_within next (at + 7) (get_or bytes 0 0 ∷ get_or bytes 1 0 ∷ get_or bytes 2 0 ∷ get_or bytes 3 0 ∷ 0xF3 ∷ [])
    → last ≡ spliced d at (part_bytes p)
put_reference p row at d next last bytes e fits room k b f g =
    let h : at + 12 ≤ length d = rw e at room in
    let rest : List ℕ = row / 16777216 ∷ row / 65536 % 256 ∷ row / 256 % 256 ∷ row % 256 ∷ 0xF3 ∷ [] in
    let q : last ≡ spliced_within next (at + 7) rest = rw (b, high-byte row (omega (arith, fits))) at g in
    rw e (put-twice d at reference_prefix rest next last (omega arith) k f q)

pub put_operator : (p : Part) (code at : ℕ) (d next last : List ℕ) → p ≡ Operator code → at + width_of p ≤ length d → length next ≡ length d
    → next ≡ spliced_within d at operator_prefix → last ≡ spliced_within next (at + 6) (code ∷ 0xF3 ∷ []) → last ≡ spliced d at (part_bytes p)
put_operator p code at d next last e room k f g =
    let h : at + 8 ≤ length d = rw e at room in
    rw e (put-twice d at operator_prefix (code ∷ 0xF3 ∷ []) next last (omega arith) k f g)

-- the writer's answers

-- a refusal, by its number
refuses : (codes out : List ℕ) (reason : Refusal) → number_of reason ≡ write_answer codes (length out) → Writes codes out (Err reason) out
refuses codes out reason q =
    let k : 1 ≤ write_answer codes (length out) = omega (arith, refusal_number reason) in
    let z : eqb (write_answer codes (length out)) 0 ≡ false = ne_eqb (write_answer codes (length out)) 0 (λ e. absurd (omega arith)) in
    record { answer = q; count = tt; output = cond-false _ _ out out z refl }

module _ (codes out : List ℕ) (t : Bool) (p : t ≡ codes_fit codes) where
  pub write_unfit : t ≡ false → Writes codes out (Err OutOfRange) out
  unfolding write_answer
  write_unfit e = refuses codes out OutOfRange (absent (codes_fit codes) _ _ 2 (sym p ∙ e) refl)

  module _ (e : t ≡ true) where
    pub fit_told : codes_fit codes ≡ true
    fit_told = sym p ∙ e

    pub write_long : 32 < length codes → Writes codes out (Err TooLong) out
    unfolding write_answer
    write_long h =
        refuses codes out TooLong (behind (codes_fit codes) _ _ 2 fit_told (cond-true (ltb 32 (length codes)) 4 _ 4 (lt-ltb 32 (length codes) h) refl))

    module _ (n : ℕ) (k : length codes ≤ 32) (q : n ≡ needed_for (elements_of codes)) where
      -- the answer is left to the output's length
      by_length : (a : ℕ) → a ≡ cond (ltb (length out) (length (bytes_of (elements_of codes)))) 11 0 → a ≡ write_answer codes (length out)
      unfolding write_answer
      by_length a w = behind (codes_fit codes) a _ 2 fit_told (cond-false (ltb 32 (length codes)) 4 _ a (le-ltb 32 (length codes) k) w)

      pub write_short : length out < n → Writes codes out (Err ShortBuffer) out
      write_short h =
          let l : length out < length (bytes_of (elements_of codes)) = omega (arith, needed-is (elements_of codes)) in
          refuses codes out ShortBuffer (by_length 11 (cond-true _ 11 0 11 (lt-ltb (length out) (length (bytes_of (elements_of codes))) l) refl))

      module _ (h : n ≤ length out) where
        pub room_told : length (bytes_of (elements_of codes)) ≤ length out
        room_told = omega (arith, needed-is (elements_of codes))

        pub write_done : (after : List ℕ) → after ≡ spliced out 0 (bytes_of (elements_of codes)) → Writes codes out (Ok n) after
        write_done after w =
            let z : 0 ≡ write_answer codes (length out) =
            by_length 0 (cond-false _ 11 0 0 (le-ltb (length out) (length (bytes_of (elements_of codes))) room_told) refl) in
            record {
              answer = z;
              count = q ∙ sym (needed-is (elements_of codes)) ∙ ap (λ (k : ℕ). written_after k (bytes_of (elements_of codes))) z;
              output = spliced-over out (bytes_of (elements_of codes)) after w ∙ ap (λ (k : ℕ). output_after k (bytes_of (elements_of codes)) out) z;
            }

-- an expression: the numbers of the elements that count

pub codes-taken : (es : List Element) (n : ℕ) → take n (codes_of es) ≡ codes_of (take n es)
codes-taken es zero = refl
codes-taken [] (suc n) = refl
codes-taken (e ∷ es) (suc n) = ap (λ (r : List ℕ). code_of e.part ∷ r) (codes-taken es n)

-- the elements of the first numbers are the first elements
pub elements-taken : (codes : List ℕ) (n : ℕ) → elements_of (take n codes) ≡ take n (elements_of codes)
elements-taken codes zero = refl
elements-taken [] (suc n) = refl
elements-taken (k ∷ codes) (suc n) = ap {B = List Element} (λ r. element (part_of k) ∷ r) (elements-taken codes n)

taken-again : (es : List Element) (n : ℕ) → take (length (take n es)) es ≡ take n es
taken-again es n = rw (length-take n es) (take_min n es)

module _ (x : Expression) (list : List ℕ) (n : ℕ) (q : n ≡ length (elements_in x)) where
  pub within_list : length list ≡ 32 → length x.elements ≡ 32 → n ≤ length list
  within_list h k = omega (arith, length-take x.count x.elements)

  module _ (r : Result ℕ Refusal) (after : List ℕ) where
    pub write_first : (out : List ℕ) → list ≡ codes_of x.elements → Writes (take n list) out r after → Writes (codes_of (elements_in x)) out r after
    write_first out e w =
        let f : take n list ≡ codes_of (elements_in x) = rw (e, q) (codes-taken x.elements (length (elements_in x)) ∙ ap codes_of (taken-again x.elements x.count)) in
        rw f at w

    pub back_first : elements_of list ≡ x.elements → ReadsBack (elements_of (take n list)) r after → ReadsBack (elements_in x) r after
    back_first e b =
        let f : elements_of (take n list) ≡ elements_in x = elements-taken list n ∙ rw (e, q) (taken-again x.elements x.count) in
        rw f at b
