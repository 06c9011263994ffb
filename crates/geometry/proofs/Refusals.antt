-- The refusals 9 and 7, said over blocks (P10, P11).
use mathlib.Core.Path.{◌≡◌, refl, sym, ◌∙◌}
use Prim.Native.Nat.{ℕ, ◌-◌, ◌≤◌, ◌<◌}
use native.Mathlib.Omega.{arith}
use mathlib.Core.Bool.{Bool, true, false, not, cond}
use mathlib.Core.List.{List}
use mathlib.Core.Logic.{◌↔◌}
use borrow.Author.Tests.{eqb-false, not-false}
use lib.Dec.{eqb}
use Rattle.base.specs.Rows.{is_row}
use Rattle.base.proofs.Cases.{cond-true, cond-false}
use Rattle.std.specs.Prelude.{Result}
use Rattle.answer.specs.declared.Refusal.{Refusal}
use Rattle.answer.specs.Numbers.{answer_number}
use Rattle.geometry.specs.declared.Span.{Span}
use Rattle.geometry.specs.Blocks.{any_block, band_of, band_spans, overlapping}
use Rattle.geometry.specs.Parts.{closed_in}
use Rattle.geometry.specs.Events.{past_end, transfer_answer, placed, place_answer, Places, LockedTransfer, Allowed, OverlapRefused}
use Rattle.geometry.proofs.Ranges.{any-block}
use Rattle.geometry.proofs.Sharing.{shared-block}
use Rattle.base.proofs.Rows.{row_is}
use Rattle.geometry.proofs.Arms.{up-to-end, end-up-to, placing}

-- a result that one arm does not give: the test is against that arm, and the result is the other's
module _ {A : Type 0} (b : Bool) (x y r : A) where
  pub not_first : cond b x y ≡ r → (x ≡ r → ⊥) → (b ≡ false) × (y ≡ r)
  not_first e f = go b refl e
    where
      go : (t : Bool) → b ≡ t → cond t x y ≡ r → (b ≡ false) × (y ≡ r)
      go true q e = absurd (f e)
      go false q e = (q, e)

  not-second : cond b x y ≡ r → (y ≡ r → ⊥) → (b ≡ true) × (x ≡ r)
  not-second e f = go b refl e
    where
      go : (t : Bool) → b ≡ t → cond t x y ≡ r → (b ≡ true) × (x ≡ r)
      go true q e = (q, e)
      go false q e = absurd (f e)

module _ (capacity bands : ℕ) (spans : List Span) (closed : List Bool) (start count : ℕ) where
  locked-there : transfer_answer capacity bands spans closed start count ≡ 9 → LockedTransfer capacity bands spans closed start count
  unfolding transfer_answer
  locked-there e =
      let a = not_first (past_end capacity start count) 6 _ 9 e (λ q. omega arith) in
      let b : (start ≤ capacity) × (count ≤ capacity - start) = end-up-to _ _ _ a.0 in
      record {
        begins = b.0;
        ends = b.1;
        touched = (any-block _ _ _).0 (not-second _ _ _ _ a.1 (λ q. omega arith)).0;
      }

  locked-at : LockedTransfer capacity bands spans closed start count → transfer_answer capacity bands spans closed start count ≡ 9
  unfolding transfer_answer
  locked-at r =
      sym
      (cond-false _ _ _ _ (up-to-end _ _ _ r.begins r.ends)
      (cond-true _ _ _ _ ((any-block _ _ _).1 r.touched) refl))

  -- a transfer's answer, by what its tests say; the second over the spans of the bands from 1 on
  pub far_transfer : past_end capacity start count ≡ true → 6 ≡ transfer_answer capacity bands spans closed start count
  unfolding transfer_answer
  far_transfer e = cond-true _ _ _ _ e refl

  pub locked_transfer : past_end capacity start count ≡ false → any_block (closed_in (band_spans bands spans) closed) start count ≡ true
      → 9 ≡ transfer_answer capacity bands spans closed start count
  unfolding transfer_answer band_of
  locked_transfer e q = cond-false _ _ _ _ e (cond-true _ _ _ _ q refl)

  pub done_transfer : past_end capacity start count ≡ false → any_block (closed_in (band_spans bands spans) closed) start count ≡ false
      → 0 ≡ transfer_answer capacity bands spans closed start count
  unfolding transfer_answer band_of
  done_transfer e q = cond-false _ _ _ _ e (cond-false _ _ _ _ q refl)

  -- the second promise of a transfer, by the first
  pub and_locked : (r : ℕ) → r ≡ transfer_answer capacity bands spans closed start count
      → (r ≡ 9) ↔ LockedTransfer capacity bands spans closed start count
  and_locked r e = (λ q. locked-there (sym e ∙ q), λ l. e ∙ locked-at l)

module _ (capacity bands : ℕ) (spans : List Span) (band start length : ℕ) where
  -- an answer that is none of 1, 5 and 6
  pub passed : (r : ℕ) → place_answer capacity bands spans band start length ≡ r → (1 ≡ r → ⊥) → (5 ≡ r → ⊥) → (6 ≡ r → ⊥)
      → Allowed capacity bands band start length × (cond (overlapping (band_spans bands (placed spans band start length))) 7 0 ≡ r)
  unfolding place_answer
  passed r e x y z =
      let a = not_first (not (is_row bands band)) 1 _ r e x in
      let g = not_first (eqb band 0) 5 _ r a.1 y in
      let v = not_first (past_end capacity start length) 6 _ r g.1 z in
      let k : (band < bands) × (band < 16) = row_is _ _ (not-false (is_row bands band) a.0) in
      let b : (start ≤ capacity) × (length ≤ capacity - start) = end-up-to _ _ _ v.0 in (
        record { known = k.0; row = k.1; local = omega (arith, eqb-false band 0 g.0); begins = b.0; ends = b.1 },
        v.1,
      )

  overlap-there : place_answer capacity bands spans band start length ≡ 7 → OverlapRefused capacity bands spans band start length
  overlap-there e =
      let p = passed 7 e (λ q. omega arith) (λ q. omega arith) (λ q. omega arith) in
      record { allowed = p.0; shared = (shared-block _ _).0 (not-second _ _ _ _ p.1 (λ q. omega arith)).0 }

  overlap-at : OverlapRefused capacity bands spans band start length → place_answer capacity bands spans band start length ≡ 7
  overlap-at r = placing capacity bands spans band start length r.allowed ∙ sym (cond-true _ _ _ _ ((shared-block _ _).1 r.shared) refl)

  -- the second promise of a geometry, by the first
  pub and_overlap : (r : Result (Unit {0}) Refusal) (after : List Span) → Places capacity bands spans band start length r after
      → (answer_number r ≡ 7) ↔ OverlapRefused capacity bands spans band start length
  and_overlap r after p = (λ q. overlap-there (sym p.answer ∙ q), λ o. p.answer ∙ overlap-at o)

pub ruleset transfers = (far_transfer, locked_transfer, done_transfer, and_locked)
