-- Tokens that are accepted are written again as the same bytes.
use mathlib.Core.Path.{◌≡◌, refl, sym, ap, ◌∙◌}
use Prim.Native.Nat.{ℕ, zero, suc, ◌-◌, ◌/◌, ◌%◌, ◌<◌}
use native.Mathlib.Omega.{arith}
use mathlib.Core.Bool.{true, cond}
use mathlib.Core.List.{List, [], ◌∷◌, ◌++◌}
use lib.Dec.{eqb, leb, ltb}
use lib.ListN.{length, get_or, drop, replicate}
use lib.Seq.{drop-cons, take-append_seam}
use mir.Syntax.{w8}
use mir.Val.{Fits}
use borrow.Author.Tests.{eqb-true}
use Rattle.base.proofs.Cases.{and_left, and_right}
use Rattle.answer.specs.declared.Refusal.{Refusal}
use Rattle.expression.specs.declared.Part.{Part}
use Rattle.expression.specs.declared.Part.TheVariants.{Reference, Operator}
use Rattle.expression.specs.declared.Element.{Element}
use Rattle.expression.specs.Elements.{element, blank, elements_in, expression_of}
use Rattle.std.specs.Prelude.{Option, Some, None, Result, Ok, Err}
use Rattle.expression.specs.declared.Expression.{Expression}
use Rattle.base.specs.Lists.{Bytes}
use Rattle.base.proofs.Bytes.{bytes_drop}
use Rattle.token_reader.specs.Format.{
  reference_prefix,
  operator_prefix,
  width_of,
  part_bytes,
  body_of,
  bytes_of,
  four_bytes,
  starts_with,
  reference_in,
  operator_in,
  part_in,
  is_end,
}
use Rattle.token_reader.specs.Read.{
  most_token_bytes,
  TokenOutcome,
  elements,
  refusal,
  head_outcome,
  followed,
  and_then,
  read_elements,
  read_list,
  read_tokens,
  Tells,
  Reads,
  WrittenAgain,
}
use Rattle.token_reader.proofs.Fits.{by_arm, not-broken, not-refused}

-- a list that starts with a prefix is the prefix and the rest
starts_is : (prefix bytes : List ℕ) → starts_with prefix bytes ≡ true → bytes ≡ prefix ++ drop (length prefix) bytes
unfolding starts_with
starts_is [] bytes h = refl
starts_is (p ∷ prefix) [] h = let z : ◌≡◌ {A = ℕ} 0 1 = cc in absurd (omega arith)
starts_is (p ∷ prefix) (b ∷ bytes) h =
    let e : b ≡ p = eqb-true b p (and_left (eqb b p) (starts_with prefix bytes) h) in
    let r : bytes ≡ prefix ++ drop (length prefix) bytes = starts_is prefix bytes (and_right (eqb b p) (starts_with prefix bytes) h) in
    cc

end_is : (bytes : List ℕ) → is_end bytes ≡ true → bytes ≡ 0xF1 ∷ []
unfolding is_end
end_is [] h = let z : ◌≡◌ {A = ℕ} 0 1 = cc in absurd (omega arith)
end_is (b ∷ []) h = let e : b ≡ 0xF1 = eqb-true b 0xF1 h in cc
end_is (b ∷ x ∷ bytes) h =
    let e : suc (suc (length bytes)) ≡ 1 =
    eqb-true (suc (suc (length bytes))) 1 (and_left (eqb (suc (suc (length bytes))) 1) (eqb b 0xF1) h) in
    absurd (omega arith)

-- a byte that is not 0 lies within the list
pub inside : (bytes : List ℕ) (i : ℕ) → get_or bytes i 0 ≡ 0xF3 → i < length bytes
inside [] i e = absurd (omega arith)
inside (b ∷ bytes) zero e = omega arith
inside (b ∷ bytes) (suc i) e = let h : i < length bytes = inside bytes i e in omega arith

-- one byte of a list, with what follows it
next : (bytes : List ℕ) (i : ℕ) (rest : List ℕ) → i < length bytes → drop (suc i) bytes ≡ rest → drop i bytes ≡ get_or bytes i 0 ∷ rest
next bytes i rest h e = drop-cons bytes i 0 h ∙ ap (λ (r : List ℕ). get_or bytes i 0 ∷ r) e

-- the end mark, with what follows it
mark : (bytes : List ℕ) (i : ℕ) → get_or bytes i 0 ≡ 0xF3 → drop i bytes ≡ 0xF3 ∷ drop (suc i) bytes
mark bytes i e = next bytes i (drop (suc i) bytes) (inside bytes i e) refl ∙ ap (λ (b : ℕ). b ∷ drop (suc i) bytes) e

-- the bytes of four bytes' number
module _ (a b c d : ℕ) (ha : a < 256) (hb : b < 256) (hc : c < 256) (hd : d < 256) where
  row-bytes : part_bytes (Reference (four_bytes a b c d)) ≡ reference_prefix ++ a ∷ b ∷ c ∷ d ∷ 0xF3 ∷ []
  row-bytes =
      let p : four_bytes a b c d / 16777216 ≡ a = omega arith in
      let q : four_bytes a b c d / 65536 % 256 ≡ b = omega arith in
      let r : four_bytes a b c d / 256 % 256 ≡ c = omega arith in
      let s : four_bytes a b c d % 256 ≡ d = omega arith in
      rw (p, q, r, s)

-- the bytes are an element's and what follows it
abbrev BeginsWith : Part → List ℕ → Type 0
BeginsWith p bytes = bytes ≡ part_bytes p ++ drop (width_of p) bytes

module _ (bytes : List ℕ) (p : Part) where
  reference-is : Bytes bytes → starts_with reference_prefix bytes ≡ true → reference_in bytes ≡ Some p → BeginsWith p bytes
  reference-is k s h =
      let row = four_bytes (get_or bytes 7 0) (get_or bytes 8 0) (get_or bytes 9 0) (get_or bytes 10 0) in
      by_arm (eqb (get_or bytes 11 0) 0xF3) (Some (Reference row)) None (Some p) h
      (λ t e.
      let f : p ≡ Reference row = cc in
      let x : get_or bytes 11 0 ≡ 0xF3 = eqb-true (get_or bytes 11 0) 0xF3 t in
      let l : 11 < length bytes = inside bytes 11 x in
      let d : drop 7 bytes ≡ get_or bytes 7 0 ∷ get_or bytes 8 0 ∷ get_or bytes 9 0 ∷ get_or bytes 10 0 ∷ 0xF3 ∷ drop 12 bytes =
      next bytes 7 _ (omega arith) (next bytes 8 _ (omega arith) (next bytes 9 _ (omega arith) (next bytes 10 _ (omega arith) (mark bytes 11 x)))) in
      rw f
      (starts_is reference_prefix bytes s
      ∙ ap (λ (r : List ℕ). reference_prefix ++ r) d
      ∙ sym (ap (λ (r : List ℕ). r ++ drop 12 bytes) (row-bytes _ _ _ _ (k 7) (k 8) (k 9) (k 10)))))
      (λ t e. not-broken p e)

  operator-is : starts_with operator_prefix bytes ≡ true → operator_in bytes ≡ Some p → BeginsWith p bytes
  operator-is s h =
      let code = get_or bytes 6 0 in
      by_arm (eqb (get_or bytes 7 0) 0xF3) (cond (leb code 2) (Some (Operator code)) None) None (Some p) h
      (λ t e. by_arm (leb code 2) (Some (Operator code)) None (Some p) e
      (λ u g.
      let f : p ≡ Operator code = cc in
      let x : get_or bytes 7 0 ≡ 0xF3 = eqb-true (get_or bytes 7 0) 0xF3 t in
      let l : 7 < length bytes = inside bytes 7 x in
      let d : drop 6 bytes ≡ code ∷ 0xF3 ∷ drop 8 bytes = next bytes 6 _ (omega arith) (mark bytes 7 x) in
      rw f (starts_is operator_prefix bytes s ∙ ap (λ (r : List ℕ). operator_prefix ++ r) d))
      (λ u g. not-broken p g))
      (λ t e. not-broken p e)

  head-is : Bytes bytes → part_in bytes ≡ Some p → BeginsWith p bytes
  unfolding part_in
  head-is k h =
      by_arm (starts_with reference_prefix bytes) (reference_in bytes) (cond (starts_with operator_prefix bytes) (operator_in bytes) None) (Some p) h
      (λ t e. reference-is k t e)
      (λ t e. by_arm (starts_with operator_prefix bytes) (operator_in bytes) None (Some p) e (λ u f. operator-is u f) (λ u f. not-broken p f))

none_is : (bytes : List ℕ) (es : List Element) → is_end bytes ≡ true → elements [] ≡ elements es → body_of es ≡ bytes
unfolding body_of
none_is bytes es t e = let f : es ≡ [] = cc in rw (f, end_is bytes t)

-- an element in front of what is written
before-is : (bytes : List ℕ) (p : Part) (o : TokenOutcome) (es : List Element) → BeginsWith p bytes
    → ((fs : List Element) → o ≡ elements fs → body_of fs ≡ drop (width_of p) bytes) → followed (head_outcome (Some p)) o ≡ elements es → body_of es ≡ bytes
unfolding body_of
before-is bytes p (elements fs) es b rest h = let f : es ≡ element p ∷ fs = cc in rw (f, rest fs refl) (sym b)
before-is bytes p (refusal n) es b rest h = not-refused n es h

then_is : (room : ℕ) (bytes : List ℕ) (head : Option Part) (es : List Element) → Bytes bytes
    → ((rest : List ℕ) (fs : List Element) → Bytes rest → read_elements room rest ≡ elements fs → body_of fs ≡ rest)
    → part_in bytes ≡ head → and_then bytes head (λ rest. read_elements room rest) ≡ elements es → body_of es ≡ bytes
then_is room bytes (Some p) es k all q h =
    before-is bytes p (read_elements room (drop (width_of p) bytes)) es (head-is bytes p k q)
    (λ fs e. all (drop (width_of p) bytes) fs (bytes_drop bytes (width_of p) k) e)
    h
then_is room bytes None es k all q h = not-refused _ es h

body_is : (room : ℕ) (bytes : List ℕ) (es : List Element) → Bytes bytes → read_elements room bytes ≡ elements es → body_of es ≡ bytes
unfolding read_elements
body_is zero bytes es k h =
    by_arm (is_end bytes) (elements []) (cond (eqb (get_or bytes 0 0) 0xF2) (refusal 4) (refusal 3)) (elements es) h
    (λ t e. none_is bytes es t e)
    (λ t e. by_arm (eqb (get_or bytes 0 0) 0xF2) (refusal 4) (refusal 3) (elements es) e (λ u f. not-refused 4 es f) (λ u f. not-refused 3 es f))
body_is (suc room) bytes es k h =
    by_arm (is_end bytes) (elements []) (and_then bytes (part_in bytes) (λ rest. read_elements room rest)) (elements es) h
    (λ t e. none_is bytes es t e)
    (λ t e. then_is room bytes (part_in bytes) es k (body_is room) refl e)

list-is : (bytes : List ℕ) (es : List Element) → Bytes bytes → read_list bytes ≡ elements es → bytes_of es ≡ bytes
unfolding read_list
list-is [] es k h = not-refused 3 es h
list-is (b ∷ bytes) es k h =
    by_arm (eqb b 0xF0) (read_elements 32 bytes) (refusal 3) (elements es) h
    (λ t e. rw (body_is 32 bytes es (λ i. k (suc i)) e, eqb-true b 0xF0 t))
    (λ t e. not-refused 3 es e)

pub written_read : (bytes : List ℕ) (es : List Element) → Bytes bytes → read_tokens bytes ≡ elements es → bytes_of es ≡ bytes
unfolding read_tokens
written_read bytes es k h =
    by_arm (ltb most_token_bytes (length bytes)) (refusal 2) (read_list bytes) (elements es) h
    (λ t e. not-refused 2 es e)
    (λ t e. list-is bytes es k e)

-- what is handed back

elements-back : (es : List Element) → elements_in (expression_of es) ≡ es
elements-back es = take-append_seam es (replicate (32 - length es) blank)

told-back : {P : Type 0} (o : TokenOutcome) (x : Expression) → Tells o (Ok x) → ((es : List Element) → o ≡ elements es → elements_in x ≡ es → P) → P
told-back (elements es) x q f = f es refl (ap elements_in q ∙ elements-back es)
told-back (refusal n) x q f = absurd q

pub accepted-read : {P : Type 0} (bytes : List ℕ) (x : Expression) → Reads bytes (Ok x)
    → ((es : List Element) → read_tokens bytes ≡ elements es → elements_in x ≡ es → P) → P
accepted-read bytes x q f = told-back (read_tokens bytes) x q f

pub written-again : (bytes : List ℕ) (r : Result Expression Refusal) → Bytes bytes → Reads bytes r → WrittenAgain bytes r
written-again bytes (Ok x) k q = accepted-read bytes x q (λ es e y. ap bytes_of y ∙ written_read bytes es k e)
written-again bytes (Err reason) k q = tt

-- the same of a slice, whose elements are known to be bytes
pub slice_again : (bytes : List ℕ) (r : Result Expression Refusal) → ((i : ℕ) → Fits w8 (get_or bytes i 0)) → Reads bytes r → WrittenAgain bytes r
slice_again bytes r k q = written-again bytes r (λ i. omega (arith, k i)) q
