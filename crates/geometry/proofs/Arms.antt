-- What the arms of a transfer and of a geometry come to, over the values that their calls hand back.
use mathlib.Core.Path.{◌≡◌, refl, sym, ap, ◌∙◌}
use Prim.Native.Nat.{ℕ, zero, suc, ◌-◌, ◌≤◌, ◌<◌}
use native.Mathlib.Omega.{arith}
use mathlib.Core.Bool.{Bool, true, false, cond}
use mathlib.Core.List.{List, [], ◌∷◌}
use borrow.Author.Tests.{le-ltb, ltb-false, eq-eqb, ne_eqb}
use lib.Dec.{eqb, ltb}
use lib.ListN.{get_or, set}
use Rattle.base.specs.Rows.{is_row}
use Rattle.base.proofs.Rows.{is-row, no_room, not-counted}
use Rattle.base.proofs.Cases.{cond-true, cond-false, absent, behind, or_no, neither}
use Rattle.std.specs.Prelude.{Ok, Err}
use Rattle.answer.specs.declared.Refusal.{Refusal}
use Rattle.answer.specs.declared.Refusal.TheVariants.{NoRow, Global, PastEnd, Overlap}
use Rattle.answer.specs.Numbers.{number_of}
use Rattle.answer.proofs.Injective.{refusal_number}
use Rattle.geometry.specs.declared.Span.{Span}
use Rattle.geometry.specs.Blocks.{band_spans, overlapping}
use Rattle.geometry.specs.Events.{past_end, placed, place_answer, place_of, Places, Allowed}

-- the end of the drive

module _ (capacity start count : ℕ) where
  pub up-to-end : start ≤ capacity → count ≤ capacity - start → past_end capacity start count ≡ false
  up-to-end h k = sym (or_no _ _ _ (le-ltb _ _ h) (sym (le-ltb _ _ k)))

  pub end-up-to : past_end capacity start count ≡ false → (start ≤ capacity) × (count ≤ capacity - start)
  end-up-to e =
      let t : (ltb capacity start ≡ false) × (ltb (capacity - start) count ≡ false) = neither _ _ e in
      (ltb-false _ _ t.0, ltb-false _ _ t.1)

-- a span put back where it stood
pub put_back : (l : List Span) (i : ℕ) (a d : Span) → set (set l i a) i (get_or l i d) ≡ l
put_back [] i a d = refl
put_back (s ∷ l) zero a d = refl
put_back (s ∷ l) (suc i) a d = ap (λ (k : List Span). s ∷ k) (put_back l i a d)

-- a geometry's answer, and the spans that go with it

module _ (capacity bands : ℕ) (spans : List Span) (band start length : ℕ) where
  pub refused : (a : Refusal) (after : List Span) → after ≡ spans → number_of a ≡ place_answer capacity bands spans band start length
      → Places capacity bands spans band start length (Err a) after
  unfolding place_of
  refused a after f e =
      let n : number_of a ≡ 0 → ⊥ = λ q. omega (arith, refusal_number a, q) in
      record { answer = e; after = f ∙ cond-false _ _ _ _ (ap (λ (n : ℕ). eqb n 0) (sym e) ∙ ne_eqb _ _ n) refl }

  -- the answers that need no place
  pub no_row : 16 ≤ band → Places capacity bands spans band start length (Err NoRow) spans
  unfolding place_answer
  no_row h = refused NoRow spans refl (absent (is_row bands band) _ _ _ (no_room bands band h) refl)

  pub no_band : bands ≤ band → Places capacity bands spans band start length (Err NoRow) spans
  unfolding place_answer
  no_band h = refused NoRow spans refl (absent (is_row bands band) _ _ _ (not-counted bands band h) refl)

  pub band_zero : band < bands → band ≡ 0 → Places capacity bands spans band start length (Err Global) spans
  unfolding place_answer
  band_zero k e =
      refused Global spans refl
      (behind (is_row bands band) _ _ 1 (is-row bands band (omega (arith, k, e)) (omega (arith, e))) (cond-true _ _ _ _ (eq-eqb band 0 e) refl))

  pub far_place : (t : Bool) → t ≡ past_end capacity start length → t ≡ true → band < bands → band < 16 → (band ≡ 0 → ⊥)
      → Places capacity bands spans band start length (Err PastEnd) spans
  unfolding place_answer
  far_place t e q k h n =
      refused PastEnd spans refl
      (behind (is_row bands band) _ _ 1 (is-row bands band k h) (cond-false _ _ _ _ (ne_eqb band 0 n) (cond-true _ _ _ _ (sym e ∙ q) refl)))

  done : 0 ≡ place_answer capacity bands spans band start length
      → Places capacity bands spans band start length (Ok tt) (placed spans band start length)
  unfolding place_of
  done e = record { answer = e; after = cond-true _ _ _ _ (ap (λ (n : ℕ). eqb n 0) (sym e)) refl }

  -- what follows the refusals 1, 5 and 6
  pub placing : Allowed capacity bands band start length
      → place_answer capacity bands spans band start length ≡ cond (overlapping (band_spans bands (placed spans band start length))) 7 0
  unfolding place_answer
  placing a =
      let n : band ≡ 0 → ⊥ = λ e. omega (arith, a.local) in
      sym
      (behind (is_row bands band) _ _ 1 (is-row _ _ a.known a.row)
      (cond-false _ _ _ _ (ne_eqb _ _ n)
      (cond-false _ _ _ _ (up-to-end capacity start length a.begins a.ends) refl)))

  module _ (p t : Bool) (k : band < bands) (h : band < 16) (n : band ≡ 0 → ⊥) (ep : p ≡ past_end capacity start length) (q : p ≡ false)
      (e : t ≡ overlapping (band_spans bands (placed spans band start length))) where
    allowed : Allowed capacity bands band start length
    allowed =
        let b : (start ≤ capacity) × (length ≤ capacity - start) = end-up-to capacity start length (sym ep ∙ q) in
        record { known = k; row = h; local = omega (arith, n); begins = b.0; ends = b.1 }

    pub place_refused : (after : List Span) → after ≡ spans → t ≡ true → Places capacity bands spans band start length (Err Overlap) after
    place_refused after f w = refused Overlap after f (cond-true _ _ _ _ (sym e ∙ w) refl ∙ sym (placing allowed))

    pub place_done : t ≡ false → Places capacity bands spans band start length (Ok tt) (placed spans band start length)
    place_done w = done (cond-false _ _ _ _ (sym e ∙ w) refl ∙ sym (placing allowed))
