-- What every drive that events reach has of its bands: they lie within the capacity, and no two share a block.
use mathlib.Core.Path.{◌≡◌, refl, sym, ap, ◌∙◌, subst}
use Prim.Native.Nat.{ℕ, zero, suc, ◌≤◌}
use native.Mathlib.Omega.{arith}
use mathlib.Core.Bool.{Bool, true, false, cond}
use mathlib.Core.List.{List, [], ◌∷◌}
use borrow.Author.Tests.{eqb-true}
use lib.Dec.{eqb}
use lib.ListN.{length, set, replicate, length-set}
use lib.Seq.{get_or-set_other}
use Rattle.geometry.specs.declared.Span.{Span}
use Rattle.geometry.specs.Blocks.{covers, overlapping, band_spans, span_of, SharedBlock}
use Rattle.geometry.specs.Events.{no_span, placed, place_answer, place_of, Allowed, Within}
use Rattle.geometry.proofs.Ranges.{refuted}
use Rattle.geometry.proofs.Sharing.{empty, no_block, shared-there}
use Rattle.geometry.proofs.Refusals.{not_first, passed}

-- fresh spans

none-there : (n i : ℕ) → span_of (replicate n empty) i ≡ empty
none-there zero i = refl
none-there (suc n) zero = refl
none-there (suc n) (suc i) = none-there n i

pub fresh-within : (capacity i : ℕ) → Within capacity (span_of (replicate 16 no_span) i)
unfolding no_span
fresh-within capacity i = subst (Within capacity) (sym (none-there 16 i)) (record { begins = omega arith; ends = omega arith })

pub fresh-apart : (bands : ℕ) → overlapping (band_spans bands (replicate 16 no_span)) ≡ false
unfolding no_span
fresh-apart bands =
    refuted _
    (λ e.
    let r : SharedBlock bands (replicate 16 empty) = shared-there _ _ e in
    no_block r.block (sym (ap (λ (s : Span). covers s r.block) (none-there 16 r.low)) ∙ r.in-low))

-- a property of a span of the list, with one of the list set
set_keeps : (P : Span → Type 0) (l : List Span) (i j : ℕ) (v : Span) → P v → P (span_of l j) → P (span_of (set l i v) j)
set_keeps P [] i j v h k = k
set_keeps P (s ∷ l) zero zero v h k = h
set_keeps P (s ∷ l) zero (suc j) v h k = k
set_keeps P (s ∷ l) (suc i) zero v h k = k
set_keeps P (s ∷ l) (suc i) (suc j) v h k = set_keeps P l i j v h k

module _ (capacity bands : ℕ) (spans : List Span) (band start size : ℕ) where
  -- a geometry leaves the spans, or puts the band in its new place
  pub by_place : (P : List Span → Type 0) → P spans
      → (Allowed capacity bands band start size → overlapping (band_spans bands (placed spans band start size)) ≡ false
      → P (placed spans band start size))
      → P (place_of capacity bands spans band start size)
  unfolding place_of
  by_place P f g = go (eqb (place_answer capacity bands spans band start size) 0) refl
    where
      go : (t : Bool) → eqb (place_answer capacity bands spans band start size) 0 ≡ t → P (cond t (placed spans band start size) spans)
      go true e =
          let p = passed capacity bands spans band start size 0 (eqb-true _ _ e) (λ q. omega arith) (λ q. omega arith) (λ q. omega arith) in
          g p.0 (not_first _ _ _ _ p.1 (λ q. omega arith)).0
      go false e = f

  pub place-within : ((i : ℕ) → Within capacity (span_of spans i)) → (i : ℕ)
      → Within capacity (span_of (place_of capacity bands spans band start size) i)
  place-within f i =
      by_place (λ l. Within capacity (span_of l i)) (f i)
      (λ a w.
      set_keeps (Within capacity) spans band i (record { start = start; length = size })
      (record { begins = a.begins; ends = omega (arith, a.begins, a.ends) })
      (f i))

  -- the test that a geometry which is done has passed
  pub place-apart : overlapping (band_spans bands spans) ≡ false → overlapping (band_spans bands (place_of capacity bands spans band start size)) ≡ false
  place-apart f = by_place (λ l. overlapping (band_spans bands l) ≡ false) f (λ a w. w)

  pub place-length : length (place_of capacity bands spans band start size) ≡ length spans
  place-length = by_place (λ l. length l ≡ length spans) refl (λ a w. length-set spans band _)

  -- a band that the header does not count keeps its span
  pub place_other : (i : ℕ) → bands ≤ i → span_of (place_of capacity bands spans band start size) i ≡ span_of spans i
  place_other i h =
      by_place (λ l. span_of l i ≡ span_of spans i) refl
      (λ a w. get_or-set_other spans band i (record { start = start; length = size }) empty (λ q. omega (arith, a.known)))
