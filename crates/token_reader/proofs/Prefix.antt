-- Bytes that begin with a prefix, as the library tests it.
use mathlib.Core.Path.{◌≡◌, refl, sym, ap, ◌∙◌}
use Prim.Native.Nat.{ℕ}
use Rattle.std.proofs.Math.Bool.{and-true}
use mathlib.Core.Bool.{Bool, true, false, ◌&&◌}
use mathlib.Core.List.{List, [], ◌∷◌}
use lib.Dec.{eqb}
use lib.ListN.{get_or}
use borrow.Author.Tests.{eqb-true, eq-eqb, ne_eqb}
use Rattle.std.specs.Prelude.{Option, None, nat_eq}
use Rattle.std.specs.List as std
use Rattle.expression.specs.declared.Part.{Part}
use Rattle.token_reader.specs.Format.{reference_prefix, operator_prefix, starts_with, reference_in, operator_in, part_in}

eqb_sym : (a b : ℕ) → eqb a b ≡ eqb b a
eqb_sym a b = go (eqb b a) refl
  where
    go : (t : Bool) → eqb b a ≡ t → eqb a b ≡ t
    go true q = eq-eqb a b (sym (eqb-true b a q))
    go false q = ne_eqb a b (λ e. let z : eqb b a ≡ true = eq-eqb b a (sym e) in cc)

starts_same : (prefix bytes : List ℕ) → std.starts_with nat_eq bytes prefix ≡ starts_with prefix bytes
unfolding starts_with
starts_same [] bytes = refl
starts_same (p ∷ prefix) [] = refl
starts_same (p ∷ prefix) (b ∷ bytes) =
    ap (λ (t : Bool). nat_eq p b && t) (starts_same prefix bytes) ∙ ap (λ (t : Bool). t && starts_with prefix bytes) (eqb_sym p b)

-- of one byte
pub first_is : (bytes : List ℕ) (b : ℕ) → (b ≡ 0 → ⊥) → std.starts_with nat_eq bytes (b ∷ []) ≡ eqb (get_or bytes 0 0) b
first_is [] b n = sym (ne_eqb 0 b (λ e. n (sym e)))
first_is (x ∷ bytes) b n = and-true (eqb b x) ∙ eqb_sym b x

-- what begins the bytes, by the tests of both prefixes
module _ (bytes : List ℕ) (t : Bool) (e : t ≡ std.starts_with nat_eq bytes reference_prefix) where
  of_reference : starts_with reference_prefix bytes ≡ t
  of_reference = sym (e ∙ starts_same reference_prefix bytes)

  pub reference_first : (r : Option Part) → t ≡ true → r ≡ reference_in bytes → r ≡ part_in bytes
  unfolding part_in
  reference_first r h q = rw (of_reference, h) q

  module _ (h : t ≡ false) (u : Bool) (f : u ≡ std.starts_with nat_eq bytes operator_prefix) where
    of_operator : starts_with operator_prefix bytes ≡ u
    of_operator = sym (f ∙ starts_same operator_prefix bytes)

    pub operator_first : (r : Option Part) → u ≡ true → r ≡ operator_in bytes → r ≡ part_in bytes
    unfolding part_in
    operator_first r k q = rw (of_reference, h, of_operator, k) q

    pub neither_first : u ≡ false → None ≡ part_in bytes
    unfolding part_in
    neither_first k = rw (of_reference, h, of_operator, k) refl
