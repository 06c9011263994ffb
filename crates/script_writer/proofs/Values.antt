-- The loops over the numbers of an event: which are written, and whether the others are 0.
use mathlib.Core.Path.{◌≡◌, refl, sym, ap, ◌∙◌}
use Prim.Native.Nat.{ℕ, ◌+◌, ◌*◌, ◌/◌, ◌≤◌, ◌<◌}
use native.Mathlib.Nat.{add_assoc, add-zero}
use native.Mathlib.Omega.{arith}
use mathlib.Core.Bool.{Bool, true, false, not}
use mathlib.Core.List.{List, [], ◌++◌, append_assoc, append-nil}
use lib.Dec.{eqb}
use lib.ListN.{length, get_or, take, drop, drop_of_length-le, length-append}
use borrow.Author.Tests.{not-true, ne_eqb}
use Rattle.base.specs.Columns.{named}
use Rattle.base.specs.Spliced.{spliced}
use Rattle.base.proofs.Cases.{cond_both, or-second}
use Rattle.base.proofs.Lists.{rest_from}
use Rattle.base.proofs.Spliced.{splice-none, splice-twice}
use Rattle.numbers.specs.declared.ShortForm.{ShortForm}
use Rattle.numbers.specs.Groups.{number_bytes, Writes}
use Rattle.numbers.proofs.Shortest.{number-first, number-most}
use Rattle.output.specs.Filling.{spliced_within}
use Rattle.output.proofs.Filled.{put-fits}
use Rattle.event_form.specs.Form.{values_bytes, values_fit}
use Rattle.script_writer.specs.Parts.{value_bytes}

-- one number

pub value-most : (mask v : ℕ) → length (value_bytes mask v) ≤ 10
value-most mask v = cond_both (λ (l : List ℕ). length l ≤ 10) (named 1 mask) (number_bytes v) [] (number-most v) (omega arith)

pub count_most : (v : ℕ) (r : ShortForm) → Writes v r → r.count ≤ 10
count_most v r w = omega (arith, w.count, number-most v)

pub count-within : (v : ℕ) (r : ShortForm) → Writes v r → r.count ≤ length r.bytes
count-within v r w = rw (w.bytes, w.count, length-append) (omega arith)

module _ (mask v at : ℕ) (t : Bool) (p : t ≡ named 1 mask) where
  pub value-place : (r : ShortForm) → t ≡ true → Writes v r → at + r.count ≡ at + length (value_bytes mask v)
  value-place r q w = rw (← p, q, w.count)

  pub value-put : (before after : List ℕ) (r : ShortForm) → t ≡ true → Writes v r → at + 10 ≤ length before
      → after ≡ spliced_within before at (take r.count r.bytes) → after ≡ spliced before at (value_bytes mask v)
  value-put before after r q w room e =
      let f : after ≡ spliced_within before at (number_bytes v) = e ∙ ap (spliced_within before at) (number-first v r w) in
      rw (← p, q) (put-fits before at (number_bytes v) after (omega (arith, room, number-most v)) f)

  pub value-here : t ≡ false → at ≡ at + length (value_bytes mask v)
  value-here q = rw (← p, q, add-zero)

  pub value_none : (before : List ℕ) → t ≡ false → before ≡ spliced before at (value_bytes mask v)
  value_none before q = rw (← p, q) (splice-none before at)

pub ruleset value-laws = (value-place, value-put, value-here, value_none)

-- the numbers from place i on

none_left : (values : List ℕ) (i : ℕ) → length values ≤ i → drop i values ≡ []
none_left values i h = drop_of_length-le values {i = i} h

-- the first i are written from the place `at` on, up to `place`, and `rest` is the mask of the others

pub record Putting (mask : ℕ) (values before : List ℕ) (at : ℕ) (bytes : List ℕ) (place rest i : ℕ) : Type 0 where
  pub w : List ℕ
  pub low : i ≤ length values
  pub holds : bytes ≡ spliced before at w
  pub place_is : place ≡ at + length w
  pub left : values_bytes mask values ≡ w ++ values_bytes rest (drop i values)
  pub most : length w ≤ 10 * i
  pub long : length bytes ≡ length before

pub put-begin : (mask : ℕ) (values before : List ℕ) (at : ℕ) → Putting mask values before at before at mask 0
put-begin mask values before at = record {
  w = [];
  low = omega arith;
  holds = splice-none before at;
  place_is = sym (add-zero at);
  left = refl;
  most = omega arith;
  long = refl;
}

module _ (mask : ℕ) (values before : List ℕ) (at : ℕ) (bytes : List ℕ) (place rest i : ℕ) (s : Putting mask values before at bytes place rest i) where
  pub put-room : at + 10 * length values ≤ length before → i < length values → place + 10 ≤ length bytes
  put-room room h = omega (arith, s.place_is, s.most, s.long)

  pub put-again : (next : List ℕ) (n : ℕ) → at + 10 * length values ≤ length before → i < length values → n ≡ place + length (value_bytes rest (get_or values i 0))
      → next ≡ spliced bytes place (value_bytes rest (get_or values i 0)) → length next ≡ length bytes
      → Putting mask values before at next n (rest / 2) (i + 1)
  unfolding values_bytes
  put-again next n room h e f k =
      let b : List ℕ = value_bytes rest (get_or values i 0) in
      let l : values_bytes mask values ≡ s.w ++ (b ++ values_bytes (rest / 2) (drop (i + 1) values)) = s.left ∙ rw (rest_from values i h) in
      record {
        w = s.w ++ b;
        low = omega arith;
        holds = rw (f, s.holds, s.place_is) (splice-twice before at s.w b (omega arith));
        place_is = rw (e, s.place_is, length-append, add_assoc);
        left = l ∙ sym (append_assoc s.w b (values_bytes (rest / 2) (drop (i + 1) values)));
        most = rw length-append (omega (arith, s.most, value-most rest (get_or values i 0)));
        long = k ∙ s.long;
      }

  whole : length values ≤ i → s.w ≡ values_bytes mask values
  unfolding values_bytes
  whole h = sym (s.left ∙ rw (none_left values i h, append-nil s.w))

  pub put-place : length values ≤ i → place ≡ at + length (values_bytes mask values)
  put-place h = rw (← whole h) s.place_is

  pub put-done : length values ≤ i → bytes ≡ spliced before at (values_bytes mask values)
  put-done h = rw (← whole h) s.holds

-- whether the first i fit, and what is left to be looked at decides

pub record Fitting (mask : ℕ) (values : List ℕ) (rest i : ℕ) : Type 0 where
  pub low : i ≤ length values
  pub same : values_fit mask values ≡ values_fit rest (drop i values)

pub fit-begin : (mask : ℕ) (values : List ℕ) → Fitting mask values mask 0
fit-begin mask values = record { low = omega arith; same = refl }

module _ (mask : ℕ) (values : List ℕ) (rest i : ℕ) (s : Fitting mask values rest i) where
  module _ (t : Bool) (p : t ≡ named 1 rest) (h : i < length values) where
    pub fit-named : t ≡ true → Fitting mask values (rest / 2) (i + 1)
    unfolding values_fit
    fit-named q = record { low = omega arith; same = s.same ∙ rw (rest_from values i h, ← p, q) }

    pub fit-zero : get_or values i 0 ≡ 0 → Fitting mask values (rest / 2) (i + 1)
    unfolding values_fit
    fit-zero q = record { low = omega arith; same = s.same ∙ rw (rest_from values i h, q, or-second (named 1 rest) true refl) }

    pub fit-broken : not t ≡ true → (get_or values i 0 ≡ 0 → ⊥) → false ≡ values_fit mask values
    unfolding values_fit
    fit-broken q n = rw (s.same, rest_from values i h, ← p, not-true t q, ne_eqb (get_or values i 0) 0 n)

  pub fit-done : (r : Bool) → length values ≤ i → r ≡ eqb rest 0 → r ≡ values_fit mask values
  unfolding values_fit
  fit-done r h e = rw (s.same, none_left values i h) e
