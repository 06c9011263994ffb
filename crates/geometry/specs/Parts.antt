-- Runs of blocks that lie in one band: what the loops of the code hand on. They go over the spans of the bands from 1 on.
use Rattle.std.specs.Prelude.{◌≡◌, ℕ, ◌+◌, ◌≤◌, ◌<◌, Bool, true, false, ◌&&◌, List, get_or, length}
use Rattle.geometry.specs.declared.Span.{Span}
use Rattle.geometry.specs.declared.Run.{Run}
use Rattle.geometry.specs.Blocks.{covers, meets_of, span_of, band_from}

-- of the n blocks from a block on the first r are alike to the span: it covers all of them, or none
pub record Alike (s : Span) (block n r : ℕ) : Type 0 where
  pub some_left : 0 < r
  pub most : r ≤ n
  pub same : (y : ℕ) → block ≤ y → y < block + r → covers s y ≡ covers s block

-- the first blocks of the n from a block on, all in one band
pub record OneBand (spans : List Span) (block n : ℕ) (r : Run) : Type 0 where
  pub some_left : 0 < r.count
  pub most : r.count ≤ n
  pub small : r.band ≤ length spans
  pub same : (y : ℕ) → block ≤ y → y < block + r.count → band_from 1 spans y ≡ r.band

-- the block's band is among the closed ones
abbrev pub closed_in : List Span → List Bool → ℕ → Bool
closed_in spans closed block = get_or closed (band_from 1 spans block) false

-- the i-th of the spans is that of a closed band and has a block of the range
abbrev pub bars_at : List Span → List Bool → Span → ℕ → Bool
bars_at spans closed range i = get_or closed (i + 1) false && meets_of range (span_of spans i)

-- a closed band, other than 0, that has a block of the range
pub record Bar (spans : List Span) (closed : List Bool) (range : Span) : Type 0 where
  pub at : ℕ
  pub known : at < length spans
  pub bars : bars_at spans closed range at ≡ true

-- whether there is one
pub record Barred (spans : List Span) (closed : List Bool) (range : Span) (r : Bool) : Type 0 where
  pub there : r ≡ true → Bar spans closed range
  pub none : r ≡ false → (i : ℕ) → i < length spans → bars_at spans closed range i ≡ false
