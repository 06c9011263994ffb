-- Two bands that share a block: the test over the spans is true exactly when there is such a block.
use mathlib.Core.Path.{◌≡◌, refl, sym, ap, ◌∙◌}
use Prim.Native.Nat.{ℕ, zero, suc, ◌+◌, ◌-◌, ◌≤◌, ◌<◌}
use native.Mathlib.Omega.{arith}
use mathlib.Core.Bool.{Bool, true, false, ◌||◌, false≢true}
use mathlib.Core.List.{List, [], ◌∷◌}
use mathlib.Core.Logic.{◌↔◌}
use borrow.Author.Tests.{ltb-true, ltb-false}
use lib.Dec.{ltb}
use lib.ListN.{take, length-take, get_or-eq_default}
use lib.Seq.{get_or-drop, get_or-take}
use Rattle.std.specs.List.{list_any}
use Rattle.base.proofs.Cases.{or_yes}
use Rattle.geometry.specs.declared.Span.{Span}
use Rattle.geometry.specs.Blocks.{covers, meets_of, meets_any, overlapping, band_spans, span_of, BlockIn, SharedBlock}
use Rattle.geometry.proofs.Ranges.{any_at, any-there, or-second}
use Rattle.geometry.proofs.Covering.{inside, covered}

-- what a list reads as past its end
abbrev pub empty : Span
empty = record { start = 0; length = 0 }

pub no_block : {A : Type 0} (x : ℕ) → covers empty x ≡ true → A
no_block x e = let h : (0 ≤ x) × (x < 0 + 0) = covered empty x e in absurd (omega arith)

-- one span and those of a list
pub record Met (s : Span) (l : List Span) : Type 0 where
  pub other : ℕ
  pub block : ℕ
  pub here : covers s block ≡ true
  pub there : covers (span_of l other) block ≡ true

first-met : (s t : Span) (l : List Span) → meets_of s t ≡ true → Met s (t ∷ l)
first-met s t l e =
    let r : BlockIn (covers t) s.start s.length = any-there (covers t) _ _ e in
    record { other = 0; block = r.block; here = inside s _ r.after r.short; there = r.holds }

later-met : (s t : Span) (l : List Span) → Met s l → Met s (t ∷ l)
later-met s t l r = record { other = suc r.other; block = r.block; here = r.here; there = r.there }

either-met : (s t : Span) (l : List Span) (b : Bool) → meets_of s t ≡ b → (b || meets_any s l) ≡ true → (meets_any s l ≡ true → Met s l) → Met s (t ∷ l)
either-met s t l true h e f = first-met s t l h
either-met s t l false h e f = later-met s t l (f e)

-- the test by std's word
pub some_met : (s : Span) (l : List Span) → list_any (λ t. meets_of s t) l ≡ meets_any s l
some_met s [] = refl
some_met s (t ∷ l) = ap (λ (b : Bool). meets_of s t || b) (some_met s l)

pub met-there : (s : Span) (l : List Span) → meets_any s l ≡ true → Met s l
met-there s [] e = absurd (false≢true e)
met-there s (t ∷ l) e = either-met s t l (meets_of s t) refl e (met-there s l)

met_at : (s : Span) (l : List Span) (j x : ℕ) → covers s x ≡ true → covers (span_of l j) x ≡ true → meets_any s l ≡ true
met_at s [] j x h e = no_block x e
met_at s (t ∷ l) zero x h e =
    let k : (s.start ≤ x) × (x < s.start + s.length) = covered s x h in
    sym (or_yes (meets_of s t) (meets_any s l) (any_at (covers t) _ _ x k.0 k.1 e))
met_at s (t ∷ l) (suc j) x h e = or-second (meets_of s t) (meets_any s l) (met_at s l j x h e)

-- two spans of a list
pub record Pair (l : List Span) : Type 0 where
  pub low : ℕ
  pub high : ℕ
  pub block : ℕ
  pub two : low < high
  pub in-low : covers (span_of l low) block ≡ true
  pub in-high : covers (span_of l high) block ≡ true

first-pair : (s : Span) (l : List Span) → Met s l → Pair (s ∷ l)
first-pair s l r =
    record { low = 0; high = suc r.other; block = r.block; two = omega arith; in-low = r.here; in-high = r.there }

later-pair : (s : Span) (l : List Span) → Pair l → Pair (s ∷ l)
later-pair s l r =
    record { low = suc r.low; high = suc r.high; block = r.block; two = omega (arith, r.two); in-low = r.in-low; in-high = r.in-high }

either-pair : (s : Span) (l : List Span) (b : Bool) → meets_any s l ≡ b → (b || overlapping l) ≡ true → (overlapping l ≡ true → Pair l) → Pair (s ∷ l)
either-pair s l true h e f = first-pair s l (met-there s l h)
either-pair s l false h e f = later-pair s l (f e)

pair-there : (l : List Span) → overlapping l ≡ true → Pair l
pair-there [] e = absurd (false≢true e)
pair-there (s ∷ l) e = either-pair s l (meets_any s l) refl e (pair-there l)

pub pair-at : (l : List Span) (i j x : ℕ) → i < j → covers (span_of l i) x ≡ true → covers (span_of l j) x ≡ true → overlapping l ≡ true
pair-at [] i j x k e f = no_block x e
pair-at (s ∷ l) i zero x k e f = absurd (omega arith)
pair-at (s ∷ l) zero (suc j) x k e f = sym (or_yes (meets_any s l) (overlapping l) (met_at s l j x e f))
pair-at (s ∷ l) (suc i) (suc j) x k e f = or-second (meets_any s l) (overlapping l) (pair-at l i j x (omega arith) e f)

-- the bands of a drive: band 1 + i is the i-th of `band_spans`
module _ (bands : ℕ) (spans : List Span) where
  nth : (i : ℕ) → 1 + i < bands → span_of (band_spans bands spans) i ≡ span_of spans (1 + i)
  nth i h = get_or-drop 1 (take bands spans) i empty ∙ get_or-take bands spans (1 + i) empty h

  pub below : (i x : ℕ) → covers (span_of (band_spans bands spans) i) x ≡ true → 1 + i < bands
  below i x e = go (ltb (1 + i) bands) refl
    where
      gone : bands ≤ 1 + i → span_of (band_spans bands spans) i ≡ empty
      gone h =
          get_or-drop 1 (take bands spans) i empty ∙ get_or-eq_default (take bands spans) empty {n = 1 + i} (rw length-take (omega arith))

      go : (b : Bool) → ltb (1 + i) bands ≡ b → 1 + i < bands
      go true q = ltb-true _ _ q
      go false q = no_block x (sym (ap (λ (s : Span). covers s x) (gone (ltb-false _ _ q))) ∙ e)

  pub at-band : (i x : ℕ) → covers (span_of (band_spans bands spans) i) x ≡ true → covers (span_of spans (1 + i)) x ≡ true
  at-band i x e = sym (ap (λ (s : Span). covers s x) (nth i (below i x e))) ∙ e

  pub of-band : (band x : ℕ) → 1 ≤ band → band < bands → covers (span_of spans band) x ≡ true
      → covers (span_of (band_spans bands spans) (band - 1)) x ≡ true
  of-band band x h k e =
      let q : 1 + (band - 1) ≡ band = omega arith in
      ap (λ (s : Span). covers s x) (nth (band - 1) (omega arith)) ∙ ap (λ (b : ℕ). covers (span_of spans b) x) q ∙ e

  pub shared-there : overlapping (band_spans bands spans) ≡ true → SharedBlock bands spans
  shared-there e =
      let r : Pair (band_spans bands spans) = pair-there _ e in
      record {
        low = 1 + r.low;
        high = 1 + r.high;
        block = r.block;
        proper = omega arith;
        two = omega (arith, r.two);
        known = below _ _ r.in-high;
        in-low = at-band _ _ r.in-low;
        in-high = at-band _ _ r.in-high;
      }

  pub shared_at : SharedBlock bands spans → overlapping (band_spans bands spans) ≡ true
  shared_at r =
      pair-at (band_spans bands spans) (r.low - 1) (r.high - 1) r.block (omega (arith, r.proper, r.two))
      (of-band _ _ r.proper (omega (arith, r.two, r.known)) r.in-low)
      (of-band _ _ (omega (arith, r.proper, r.two)) r.known r.in-high)

  -- the test is true exactly when two different bands share a block
  pub shared-block : (overlapping (band_spans bands spans) ≡ true) ↔ SharedBlock bands spans
  shared-block = (shared-there, shared_at)
