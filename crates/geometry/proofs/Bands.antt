-- The band of a block: the band that covers it, else band 0. Where bands overlap, the first that covers it.
use mathlib.Core.Path.{◌≡◌, refl, sym, ap, ◌∙◌, subst}
use Prim.Native.Nat.{ℕ, zero, suc, ◌+◌, ◌-◌, ◌≤◌, ◌<◌}
use native.Mathlib.Omega.{arith}
use mathlib.Core.Bool.{Bool, true, false, cond, false≢true}
use mathlib.Core.List.{List, [], ◌∷◌}
use borrow.Author.Tests.{ltb-true, ltb-false}
use lib.Dec.{ltb}
use lib.ListN.{length, get_or, get_or-eq_default}
use Rattle.std.specs.List.{list_any}
use Rattle.base.proofs.Cases.{cond-true, cond-false, and_yes, neither}
use Rattle.geometry.specs.declared.Span.{Span}
use Rattle.geometry.specs.Blocks.{covers, any_block, band_from, band_of, overlapping, band_spans, span_of, Lying}
use Rattle.geometry.specs.Parts.{closed_in, bars_at}
use Rattle.geometry.proofs.Ranges.{any_at, any_none, refuted}
use Rattle.geometry.proofs.Sharing.{empty, no_block, pair-at, at-band, below, of-band}

first-at : (k : ℕ) (l : List Span) (j x : ℕ) → covers (span_of l j) x ≡ true → ((i : ℕ) → i < j → covers (span_of l i) x ≡ false)
    → band_from k l x ≡ k + j
first-at k [] j x e f = no_block x e
first-at k (s ∷ l) zero x e f = let q : k ≡ k + 0 = omega arith in sym (cond-true _ _ _ _ e refl) ∙ q
first-at k (s ∷ l) (suc j) x e f =
    let q : k + 1 + j ≡ k + suc j = omega arith in
    sym (cond-false _ _ _ _ (f 0 (omega arith)) refl) ∙ first-at (k + 1) l j x e (λ i h. f (suc i) (omega arith)) ∙ q

none-at : (k : ℕ) (l : List Span) (x : ℕ) → ((i : ℕ) → covers (span_of l i) x ≡ false) → band_from k l x ≡ 0
none-at k [] x f = refl
none-at k (s ∷ l) x f = sym (cond-false _ _ _ _ (f 0) refl) ∙ none-at (k + 1) l x (λ i. f (suc i))

-- what holds of 0, and of each band that covers the block, holds of its band
band-cases : (P : ℕ → Type 0) (k : ℕ) (l : List Span) (x : ℕ) → P 0 → ((j : ℕ) → covers (span_of l j) x ≡ true → P (k + j))
    → P (band_from k l x)
band-cases P k [] x z f = z
band-cases P k (s ∷ l) x z f = go (covers s x) refl (band-cases P (k + 1) l x z later)
  where
    later : (j : ℕ) → covers (span_of l j) x ≡ true → P (k + 1 + j)
    later j e = let q : k + suc j ≡ k + 1 + j = omega arith in subst P q (f (suc j) e)

    go : (b : Bool) → covers s x ≡ b → P (band_from (k + 1) l x) → P (cond b k (band_from (k + 1) l x))
    go true e r = let q : k + 0 ≡ k = omega arith in subst P q (f 0 e)
    go false e r = r

module _ (bands : ℕ) (spans : List Span) (block : ℕ) where
  -- the block lies in the band that covers it, if no two bands share a block
  band-of : (band : ℕ) → 1 ≤ band → band < bands → covers (span_of spans band) block ≡ true → overlapping (band_spans bands spans) ≡ false
      → band_of bands spans block ≡ band
  unfolding band_of
  band-of band h k e apart =
      let q : 1 + (band - 1) ≡ band = omega arith in
      let c = of-band bands spans band block h k e in
      first-at 1 (band_spans bands spans) (band - 1) block c
      (λ i l. refuted _ (λ t. false≢true (sym apart ∙ pair-at (band_spans bands spans) i (band - 1) block l t c)))
      ∙ q

  -- and in band 0 if none covers it
  band-zero : ((band : ℕ) → 1 ≤ band → band < bands → covers (span_of spans band) block ≡ false) → band_of bands spans block ≡ 0
  unfolding band_of
  band-zero f =
      none-at 1 (band_spans bands spans) block
      (λ i. refuted _
      (λ t. false≢true (sym (f (1 + i) (omega arith) (below bands spans i block t)) ∙ at-band bands spans i block t)))

pub lying : Lying
lying = record { covered = band-of; else-global = band-zero }

-- no band is closed: a test that `true` passes is passed by none of the sides
all-false : (p : Bool → Bool) → p true ≡ true → (l : List Bool) (k : ℕ) → list_any p l ≡ false → get_or l k false ≡ false
all-false p h [] k e = refl
all-false p h (true ∷ l) k e = absurd (false≢true (sym (neither (p true) (list_any p l) e).0 ∙ h))
all-false p h (false ∷ l) zero e = refl
all-false p h (false ∷ l) (suc k) e = all-false p h l k (neither (p false) (list_any p l) e).1

pub none_closed : (spans : List Span) (closed : List Bool) (start count : ℕ) (p : Bool → Bool) (t : Bool) → t ≡ list_any p closed → p true ≡ true → t ≡ false
    → false ≡ any_block (closed_in spans closed) start count
none_closed spans closed start count p t e h q =
    sym (any_none (closed_in spans closed) start count (λ y u v. all-false p h closed (band_from 1 spans y) (sym e ∙ q)))

-- a range in which no closed band has a block, and band 0 is not closed
pub barred_none : (spans : List Span) (closed : List Bool) (range : Span) → get_or closed 0 false ≡ false
    → ((i : ℕ) → i < length spans → bars_at spans closed range i ≡ false) → false ≡ any_block (closed_in spans closed) range.start range.length
barred_none spans closed range z f =
    sym
    (any_none (closed_in spans closed) range.start range.length
    (λ y u v. band-cases (λ (k : ℕ). get_or closed k false ≡ false) 1 spans y z (λ j e. clear y u v j e)))
  where
    within : (j y : ℕ) → covers (span_of spans j) y ≡ true → j < length spans
    within j y e = go (ltb j (length spans)) refl
      where
        go : (b : Bool) → ltb j (length spans) ≡ b → j < length spans
        go true q = ltb-true _ _ q
        go false q =
            no_block y (sym (ap (λ (s : Span). covers s y) (get_or-eq_default spans empty {n = j} (ltb-false _ _ q))) ∙ e)

    clear : (y : ℕ) → range.start ≤ y → y < range.start + range.length → (j : ℕ) → covers (span_of spans j) y ≡ true → get_or closed (1 + j) false ≡ false
    clear y u v j e =
        let q : 1 + j ≡ j + 1 = omega arith in
        rw q
        (refuted _
        (λ t. false≢true
        (sym (f j (within j y e)) ∙ sym (and_yes _ _ _ t (sym (any_at (covers (span_of spans j)) range.start range.length y u v e))))))
