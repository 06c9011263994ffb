-- The bands from 1 on, and the walk over them that finds the band of a block.
use mathlib.Core.Path.{◌≡◌, refl, ap}
use Prim.Native.Nat.{ℕ, zero, suc, ◌+◌, ◌-◌, ◌≤◌, ◌<◌, min}
use native.Mathlib.Omega.{arith}
use mathlib.Core.List.{List, [], ◌∷◌}
use lib.ListN.{length, take, drop}
use borrow.Rule.Slice.PartMut.{mid_of}
use Rattle.geometry.specs.declared.Span.{Span}
use Rattle.geometry.specs.Blocks.{band_from, band_spans}

-- n blocks from x on lie in no band of the first i spans, so those from the i-th on decide
pub record Seen (l : List Span) (x limit n i : ℕ) : Type 0 where
  pub some_left : 0 < n
  pub most : n ≤ limit
  pub same : (y : ℕ) → x ≤ y → y < x + n → band_from 1 l y ≡ band_from (i + 1) (drop i l) y

-- the spans of the bands from 1 on, as a part of the sixteen
local-end : (n b : ℕ) (l : List Span) → n ≡ min b (length l) → take n l ≡ take b l
local-end n zero l e = let q : n ≡ 0 = omega (arith, e) in ap (λ (k : ℕ). take k l) q
local-end zero (suc b) [] e = refl
local-end (suc n) (suc b) [] e = refl
local-end zero (suc b) (s ∷ l) e = absurd (omega (arith, e))
local-end (suc n) (suc b) (s ∷ l) e = ap (λ (k : List Span). s ∷ k) (local-end n b l (omega (arith, e)))

pub local_spans : (n bands : ℕ) (l : List Span) → length l ≡ 16 → 1 < bands → n ≡ min bands 16 - 1 → mid_of 1 n l ≡ band_spans bands l
local_spans n bands [] e h q = absurd (omega (arith, e))
local_spans n zero (s ∷ l) e h q = absurd (omega (arith, h))
local_spans n (suc b) (s ∷ l) e h q = local-end n b l (omega (arith, e, q))
