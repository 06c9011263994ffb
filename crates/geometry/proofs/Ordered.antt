-- Bands of which each lies before all after it: no two of them share a block. The loop goes from the last band down.
use mathlib.Core.Path.{◌≡◌, refl, sym, ap, ◌∙◌}
use Prim.Native.Nat.{ℕ, zero, suc, ◌-◌, ◌≤◌, ◌<◌}
use native.Mathlib.Omega.{arith}
use mathlib.Core.Bool.{true, false}
use mathlib.Core.List.{List, [], ◌∷◌, ◌++◌, append_assoc, append-nil}
use Rattle.base.proofs.Cases.{or_no}
use Rattle.geometry.specs.declared.Span.{Span}
use Rattle.geometry.specs.Blocks.{covers, meets_any, overlapping, span_of}
use Rattle.geometry.proofs.Ranges.{refuted}
use Rattle.geometry.proofs.Covering.{covered}
use Rattle.geometry.proofs.Sharing.{no_block, Met, met-there}

-- no two spans of the list share a block, and no block of them lies below `low`
pub record Ordered (low : ℕ) (l : List Span) : Type 0 where
  pub apart : overlapping l ≡ false
  pub above : (i y : ℕ) → covers (span_of l i) y ≡ true → low ≤ y

ordered-none : (low : ℕ) → Ordered low []
ordered-none low = record { apart = refl; above = λ i y e. no_block y e }

-- a span in front that lies below, or has no block
module _ (low : ℕ) (s : Span) (l : List Span) (o : Ordered low l) where
  in-front : (first : ℕ) → first ≤ low → ((y : ℕ) → covers s y ≡ true → first ≤ y) → ((y : ℕ) → covers s y ≡ true → y < low) → Ordered first (s ∷ l)
  in-front first h from before = record { apart = sym (or_no _ _ _ none (sym o.apart)); above = go }
    where
      none : meets_any s l ≡ false
      none =
          refuted _
          (λ e.
          let m : Met s l = met-there s l e in
          absurd (omega (arith, before m.block m.here, o.above m.other m.block m.there)))

      go : (i y : ℕ) → covers (span_of (s ∷ l) i) y ≡ true → first ≤ y
      go zero y e = from y e
      go (suc i) y e = omega (arith, h, o.above i y e)

  below : s.start < low → s.length ≤ low - s.start → Ordered s.start (s ∷ l)
  below h k = in-front s.start (omega arith) (λ y e. (covered s y e).0) (λ y e. omega (arith, (covered s y e).1))

  empty : s.length ≤ 0 → Ordered low (s ∷ l)
  empty h =
      let none : (y : ℕ) → covers s y ≡ true → ⊥ = λ y e. omega (arith, (covered s y e).0, (covered s y e).1) in
      in-front low (omega arith) (λ y e. absurd (none y e)) (λ y e. absurd (none y e))

-- ---- the loop

-- of the spans those of `rest` are to be looked at, and the others are in order
pub record Rises (spans : List Span) (low : ℕ) (rest : List Span) : Type 0 where
  pub done : List Span
  pub parts : spans ≡ rest ++ done
  pub ordered : Ordered low done

pub rise_begin : (spans : List Span) (low : ℕ) → Rises spans low spans
rise_begin spans low = record { done = []; parts = sym (append-nil spans); ordered = ordered-none low }

module _ (spans : List Span) (low : ℕ) (rest : List Span) (r : Rises spans low rest) (before : List Span) (s : Span) (e : rest ≡ before ++ s ∷ []) where
  parted : spans ≡ before ++ s ∷ r.done
  parted = r.parts ∙ ap (λ (k : List Span). k ++ r.done) e ∙ append_assoc before (s ∷ []) r.done

  pub rise_again : s.start < low → s.length ≤ low - s.start → Rises spans s.start before
  rise_again b l = record { done = s ∷ r.done; parts = parted; ordered = below low s _ r.ordered b l }

  pub rise_over : s.length ≤ 0 → Rises spans low before
  rise_over l = record { done = s ∷ r.done; parts = parted; ordered = empty low s _ r.ordered l }

pub rise_done : (spans : List Span) (low : ℕ) (rest : List Span) → Rises spans low rest → rest ≡ [] → overlapping spans ≡ false
rise_done spans low rest r e =
    let q : spans ≡ r.done = r.parts ∙ ap (λ (k : List Span). k ++ r.done) e in
    ap overlapping q ∙ r.ordered.apart

pub ruleset rises = (rise_begin, rise_again, rise_over, rise_done)
