-- Reading what is written gives the elements back.
use mathlib.Core.Path.{◌≡◌, refl, ap, ◌∙◌}
use Prim.Native.Nat.{ℕ, zero, suc, ◌+◌, ◌-◌, ◌*◌, ◌/◌, ◌%◌, ◌≤◌, ◌<◌}
use native.Mathlib.Nat.{not-suc-le-zero, le_of_suc-le-suc}
use native.Mathlib.Omega.{arith}
use mathlib.Core.Bool.{true, false}
use mathlib.Core.List.{List, [], ◌∷◌, ◌++◌}
use lib.Dec.{eqb, leb, ltb}
use lib.ListN.{length, drop, length-append}
use borrow.Author.Tests.{lt-ltb, le-ltb, le-leb, leb-true, ltb-true, ltb-false}
use Rattle.base.proofs.Cases.{and_left, and_right, and-false, cond_either}
use Rattle.expression.specs.declared.Part.{Part}
use Rattle.expression.specs.declared.Part.TheVariants.{Reference, Operator}
use Rattle.expression.specs.declared.Element.{Element}
use Rattle.expression.specs.Elements.{PartFits, AllFit}
use Rattle.std.specs.Prelude.{Option, Some}
use Rattle.token_reader.specs.Format.{width_of, part_bytes, body_of, bytes_of, four_bytes, starts_with, part_in, is_end}
use Rattle.token_reader.specs.Read.{elements, read_elements, read_list, read_tokens}
use Rattle.token_reader.proofs.Listing.{few}
use Rattle.token_writer.specs.Write.{part_of, code_of, elements_of, codes_of, codes_fit, needed_for}
use Rattle.token_writer.proofs.Passes.{width_is, width-most}

-- the bytes needed

body-length : (es : List Element) → 1 + length (body_of es) ≡ needed_for es
unfolding body_of needed_for
body-length [] = refl
body-length (e ∷ es) = omega (arith, length-append (part_bytes e.part) (body_of es), width_is e.part, body-length es)

pub needed-is : (es : List Element) → length (bytes_of es) ≡ needed_for es
needed-is es = omega (arith, body-length es)

needed-most : (es : List Element) → needed_for es ≤ 2 + 12 * length es
unfolding needed_for
needed-most [] = omega arith
needed-most (e ∷ es) = omega (arith, width-most e.part, needed-most es)

-- elements as numbers

pub operator-back : (code : ℕ) → part_of (code_of (Operator code)) ≡ Operator code
operator-back code =
    let e : 4294967296 + code - 4294967296 ≡ code = omega arith in
    rw (le-ltb (4294967296 + code) 4294967296 (omega arith)) (ap Operator e)

pub part-back : (p : Part) → PartFits p → part_of (code_of p) ≡ p
part-back (Reference row) h = rw (lt-ltb row 4294967296 h)
part-back (Operator code) h = operator-back code

pub codes-back : (es : List Element) → AllFit es → elements_of (codes_of es) ≡ es
codes-back [] f = refl
codes-back (e ∷ es) f = rw (part-back e.part f.0, codes-back es f.1)

code_fits : (p : Part) → PartFits p → code_of p ≤ 4294967298
code_fits (Reference row) h = omega arith
code_fits (Operator code) h = omega arith

pub codes-fit : (es : List Element) → AllFit es → codes_fit (codes_of es) ≡ true
unfolding codes_fit
codes-fit [] f = refl
codes-fit (e ∷ es) f = rw (le-leb (code_of e.part) 4294967298 (code_fits e.part f.0), codes-fit es f.1)

-- a number that fits is an element that fits
number_fits : (n : ℕ) → n ≤ 4294967298 → PartFits (part_of n)
number_fits n h =
    cond_either PartFits (ltb n 4294967296) (Reference n) (Operator (n - 4294967296)) (λ t. ltb-true n 4294967296 t)
    (λ t. let k : 4294967296 ≤ n = ltb-false n 4294967296 t in omega arith)

pub numbers_fit : (codes : List ℕ) → codes_fit codes ≡ true → AllFit (elements_of codes)
unfolding codes_fit
numbers_fit [] f = tt
numbers_fit (n ∷ codes) f = (
  number_fits n (leb-true n 4294967298 (and_left (leb n 4294967298) (codes_fit codes) f)),
  numbers_fit codes (and_right (leb n 4294967298) (codes_fit codes) f),
)

-- reading what is written

not_end : (p : Part) (rest : List ℕ) → is_end (part_bytes p ++ rest) ≡ false
unfolding is_end
not_end (Reference row) rest = and-false (eqb (length (part_bytes (Reference row) ++ rest)) 1)
not_end (Operator code) rest = and-false (eqb (length (part_bytes (Operator code) ++ rest)) 1)

-- the four bytes of a row, put together
row_back : (r : ℕ) → r < 4294967296 → four_bytes (r / 16777216) (r / 65536 % 256) (r / 256 % 256) (r % 256) ≡ r
row_back r h = omega arith

head-back : (p : Part) (rest : List ℕ) → PartFits p → part_in (part_bytes p ++ rest) ≡ Some p
unfolding part_in starts_with
head-back (Reference row) rest h = ap {B = Option Part} (λ r. Some (Reference r)) (row_back row h)
head-back (Operator code) rest h = rw (le-leb code 2 h)

drop-back : (p : Part) (rest : List ℕ) → drop (width_of p) (part_bytes p ++ rest) ≡ rest
drop-back (Reference row) rest = refl
drop-back (Operator code) rest = refl

body_back : (room : ℕ) (es : List Element) → length es ≤ room → AllFit es → read_elements room (body_of es) ≡ elements es
unfolding read_elements body_of is_end
body_back zero [] h f = refl
body_back (suc k) [] h f = refl
body_back zero (e ∷ es) h f = absurd (not-suc-le-zero h)
body_back (suc k) (e ∷ es) h f = rw (
  not_end e.part (body_of es),
  head-back e.part (body_of es) f.0,
  drop-back e.part (body_of es),
  body_back k es (le_of_suc-le-suc h) f.1,
)

pub read-written : (es : List Element) → length es ≤ 32 → AllFit es → read_list (bytes_of es) ≡ elements es
unfolding read_list
read-written es h f = body_back 32 es h f

pub tokens-written : (es : List Element) → length es ≤ 32 → AllFit es → read_tokens (bytes_of es) ≡ elements es
tokens-written es h f = few (bytes_of es) (omega (arith, needed-is es, needed-most es)) ∙ read-written es h f
