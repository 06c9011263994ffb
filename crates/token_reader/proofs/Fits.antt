-- What is read has at most 32 elements, each of which the token form can hold.
use mathlib.Core.Path.{◌≡◌, refl}
use Prim.Native.Nat.{ℕ, zero, suc, ◌≤◌}
use native.Mathlib.Omega.{arith}
use mathlib.Core.Bool.{Bool, true, false, cond}
use mathlib.Core.List.{List, [], ◌∷◌}
use lib.Dec.{eqb, leb, ltb}
use lib.ListN.{length, get_or, drop}
use borrow.Author.Tests.{leb-true}
use Rattle.expression.specs.declared.Part.{Part}
use Rattle.expression.specs.declared.Part.TheVariants.{Reference, Operator}
use Rattle.expression.specs.declared.Element.{Element}
use Rattle.expression.specs.Elements.{element, PartFits, AllFit}
use Rattle.std.specs.Prelude.{Option, Some, None}
use Rattle.base.specs.Lists.{Bytes}
use Rattle.base.proofs.Bytes.{bytes_drop}
use Rattle.token_reader.specs.Format.{four_bytes, reference_prefix, operator_prefix, starts_with, reference_in, operator_in, part_in, width_of, is_end}
use Rattle.token_reader.specs.Read.{most_token_bytes, TokenOutcome, elements, refusal, head_outcome, followed, and_then, read_elements, read_list, read_tokens}

-- a claim about what a choice gave, from either arm
pub by_arm : {A P : Type 0} (t : Bool) (x y r : A) → cond t x y ≡ r → (t ≡ true → x ≡ r → P) → (t ≡ false → y ≡ r → P) → P
by_arm true x y r e f g = f refl e
by_arm false x y r e f g = g refl e

pub not-broken : {P : Type 0} (p : Part) → None ≡ Some p → P
not-broken p e = cc

pub not-refused : {P : Type 0} (n : ℕ) (es : List Element) → refusal n ≡ elements es → P
not-refused n es e = cc

module _ (bytes : List ℕ) (p : Part) where
  reference-fits : Bytes bytes → reference_in bytes ≡ Some p → PartFits p
  reference-fits k h =
      let row = four_bytes (get_or bytes 7 0) (get_or bytes 8 0) (get_or bytes 9 0) (get_or bytes 10 0) in
      by_arm (eqb (get_or bytes 11 0) 0xF3) (Some (Reference row)) None (Some p) h
      (λ t e. let f : p ≡ Reference row = cc in rw f (omega (arith, k 7, k 8, k 9, k 10)))
      (λ t e. not-broken p e)

  code_fits : (code : ℕ) → cond (leb code 2) (Some (Operator code)) None ≡ Some p → PartFits p
  code_fits code h =
      by_arm (leb code 2) (Some (Operator code)) None (Some p) h
      (λ t e. let f : p ≡ Operator code = cc in rw f (leb-true code 2 t))
      (λ t e. not-broken p e)

  operator-fits : operator_in bytes ≡ Some p → PartFits p
  operator-fits h =
      let code = get_or bytes 6 0 in
      by_arm (eqb (get_or bytes 7 0) 0xF3) (cond (leb code 2) (Some (Operator code)) None) None (Some p) h
      (λ t e. code_fits code e)
      (λ t e. not-broken p e)

  part-fits : Bytes bytes → part_in bytes ≡ Some p → PartFits p
  unfolding part_in
  part-fits k h =
      by_arm (starts_with reference_prefix bytes) (reference_in bytes) (cond (starts_with operator_prefix bytes) (operator_in bytes) None) (Some p) h
      (λ t e. reference-fits k e)
      (λ t e. by_arm (starts_with operator_prefix bytes) (operator_in bytes) None (Some p) e (λ u f. operator-fits f) (λ u f. not-broken p f))

-- at most so many elements, all of which fit
abbrev Fits : ℕ → List Element → Type 0
Fits room es = (length es ≤ room) × AllFit es

none-fits : (room : ℕ) (es : List Element) → elements [] ≡ elements es → Fits room es
none-fits room es e = let f : es ≡ [] = cc in rw f (omega arith, tt)

-- an element in front of what fits
before-fits : (room : ℕ) (p : Part) (o : TokenOutcome) (es : List Element) → PartFits p → ((fs : List Element) → o ≡ elements fs → Fits room fs)
    → followed (head_outcome (Some p)) o ≡ elements es → Fits (suc room) es
before-fits room p (elements fs) es k rest h =
    let f : es ≡ element p ∷ fs = cc in
    let g = rest fs refl in
    rw f (omega (arith, g.0), (k, g.1))
before-fits room p (refusal n) es k rest h = not-refused n es h

-- what stands first, and then the rest
then-fits : (room : ℕ) (bytes : List ℕ) (head : Option Part) (es : List Element) → Bytes bytes
    → ((rest : List ℕ) (fs : List Element) → Bytes rest → read_elements room rest ≡ elements fs → Fits room fs)
    → part_in bytes ≡ head → and_then bytes head (λ rest. read_elements room rest) ≡ elements es → Fits (suc room) es
then-fits room bytes (Some p) es k all q h =
    let rest = drop (width_of p) bytes in
    before-fits room p (read_elements room rest) es (part-fits bytes p k q) (λ fs e. all rest fs (bytes_drop bytes (width_of p) k) e) h
then-fits room bytes None es k all q h = not-refused _ es h

elements-fit : (room : ℕ) (bytes : List ℕ) (es : List Element) → Bytes bytes → read_elements room bytes ≡ elements es → Fits room es
unfolding read_elements
elements-fit zero bytes es k h =
    by_arm (is_end bytes) (elements []) (cond (eqb (get_or bytes 0 0) 0xF2) (refusal 4) (refusal 3)) (elements es) h
    (λ t e. none-fits 0 es e)
    (λ t e. by_arm (eqb (get_or bytes 0 0) 0xF2) (refusal 4) (refusal 3) (elements es) e (λ u f. not-refused 4 es f) (λ u f. not-refused 3 es f))
elements-fit (suc room) bytes es k h =
    by_arm (is_end bytes) (elements []) (and_then bytes (part_in bytes) (λ rest. read_elements room rest)) (elements es) h
    (λ t e. none-fits (suc room) es e)
    (λ t e. then-fits room bytes (part_in bytes) es k (elements-fit room) refl e)

pub list-fits : (bytes : List ℕ) (es : List Element) → Bytes bytes → read_list bytes ≡ elements es → (length es ≤ 32) × AllFit es
unfolding read_list
list-fits bytes es k h =
    by_arm (eqb (get_or bytes 0 0) 0xF0) (read_elements 32 (drop 1 bytes)) (refusal 3) (elements es) h
    (λ t e. elements-fit 32 (drop 1 bytes) es (bytes_drop bytes 1 k) e)
    (λ t e. not-refused 3 es e)

pub read_fits : (bytes : List ℕ) (es : List Element) → Bytes bytes → read_tokens bytes ≡ elements es → (length es ≤ 32) × AllFit es
unfolding read_tokens
read_fits bytes es k h =
    by_arm (ltb most_token_bytes (length bytes)) (refusal 2) (read_list bytes) (elements es) h
    (λ t e. not-refused 2 es e)
    (λ t e. list-fits bytes es k e)
