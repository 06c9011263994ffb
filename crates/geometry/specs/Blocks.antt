-- Document 01, 'Geometry and transfers': blocks, and the bands in which they lie.
use Rattle.std.specs.Prelude.{◌≡◌, ℕ, zero, suc, ◌+◌, ◌≤◌, ◌<◌, Bool, true, false, cond, ◌&&◌, ◌||◌, List, [], ◌∷◌, ltb, leb, get_or, take, drop}
use Rattle.geometry.specs.declared.Span.{Span}

-- the blocks of a span. "A band with length 0 covers nothing"
abbrev pub covers : Span → ℕ → Bool
covers s block = leb s.start block && ltb block (s.start + s.length)

-- some block among the n from a block on has the property
unfoldable pub any_block : (ℕ → Bool) → ℕ → ℕ → Bool
any_block p block zero = false
any_block p block (suc n) = p block || any_block p (suc block) n

-- the spans of the bands 1, 2, .. below the count; band 0 is the global one and has none
abbrev pub band_spans : ℕ → List Span → List Span
band_spans bands spans = drop 1 (take bands spans)

-- among bands numbered from k on: the first that covers the block, else band 0
abbrev pub band_from : ℕ → List Span → ℕ → ℕ
band_from k [] block = 0
band_from k (s ∷ l) block = cond (covers s block) k (band_from (k + 1) l block)

-- "A block lies in the non-empty band that covers it, else in band 0."
unfoldable pub band_of : ℕ → List Span → ℕ → ℕ
band_of bands spans block = band_from 1 (band_spans bands spans) block

-- the block's band is among the closed ones: those with the transfer's side enabled and locked
abbrev pub closed_at : ℕ → List Span → List Bool → ℕ → Bool
closed_at bands spans closed block = get_or closed (band_of bands spans block) false

-- ".. some block's band has that direction's side enabled and locked; count 0 touches nothing."
abbrev pub touches_of : ℕ → List Span → List Bool → ℕ → ℕ → Bool
touches_of bands spans closed start count = any_block (closed_at bands spans closed) start count

-- two spans share a block: some block of the first is covered by the second
abbrev pub meets_of : Span → Span → Bool
meets_of s t = any_block (covers t) s.start s.length

abbrev pub meets_any : Span → List Span → Bool
meets_any s [] = false
meets_any s (t ∷ l) = meets_of s t || meets_any s l

-- "two non-empty bands would share a block"
abbrev pub overlapping : List Span → Bool
overlapping [] = false
overlapping (s ∷ l) = meets_any s l || overlapping l

-- The same in words of existence; the theorems `any-block` and `shared-block` say that the tests are true exactly when there is such a thing.

-- a block with the property, among the n from a block on
pub record BlockIn (p : ℕ → Bool) (from n : ℕ) : Type 0 where
  pub block : ℕ
  pub after : from ≤ block
  pub short : block < from + n
  pub holds : p block ≡ true

abbrev pub span_of : List Span → ℕ → Span
span_of spans band = get_or spans band (record { start = 0; length = 0 })

-- a block that two bands other than 0 cover
pub record SharedBlock (bands : ℕ) (spans : List Span) : Type 0 where
  pub low : ℕ
  pub high : ℕ
  pub block : ℕ
  pub proper : 1 ≤ low
  pub two : low < high
  pub known : high < bands
  pub in-low : covers (span_of spans low) block ≡ true
  pub in-high : covers (span_of spans high) block ≡ true

-- "A block lies in the non-empty band that covers it, else in band 0.": what `band_of` comes to (theorem `lying` in proofs/Bands)
pub record Lying : Type 0 where
  -- in the band that covers it, where no two share a block
  pub covered : (bands : ℕ) (spans : List Span) (block band : ℕ) → 1 ≤ band → band < bands → covers (span_of spans band) block ≡ true
      → overlapping (band_spans bands spans) ≡ false → band_of bands spans block ≡ band
  -- in band 0 where none covers it
  pub else-global : (bands : ℕ) (spans : List Span) (block : ℕ)
      → ((band : ℕ) → 1 ≤ band → band < bands → covers (span_of spans band) block ≡ false) → band_of bands spans block ≡ 0
