-- Document 01, the table of refusals and 'Geometry and transfers': a geometry's and a transfer's answer.
use Rattle.std.specs.Prelude.{◌≡◌, ℕ, ◌+◌, ◌-◌, ◌≤◌, ◌<◌, Bool, not, cond, ◌||◌, List, [], ◌∷◌, eqb, ltb, set, Result}
use Rattle.base.specs.Refusals.{TableRow, when, first_of}
use Rattle.base.specs.Rows.{is_row}
use Rattle.answer.specs.declared.Refusal.{Refusal}
use Rattle.answer.specs.Numbers.{answer_number}
use Rattle.geometry.specs.declared.Span.{Span}
use Rattle.geometry.specs.Blocks.{band_spans, overlapping, closed_at, touches_of, BlockIn, SharedBlock}

-- a fresh band's span: it covers nothing
unfoldable pub no_span : Span
no_span = record { start = 0; length = 0 }

-- "past end: a geometry's or transfer's start exceeds capacity, or its length or count exceeds capacity less start"
abbrev pub past_end : ℕ → ℕ → ℕ → Bool
past_end capacity start count = ltb capacity start || ltb (capacity - start) count

-- the refusals of a transfer whose direction is in range, with the bands that are closed in it: 6 "past end", and 9 "locked: a transfer
-- touches a locked block"
abbrev pub transfer_refusals : ℕ → ℕ → List Span → List Bool → ℕ → ℕ → List TableRow
transfer_refusals capacity bands spans closed start count =
    when 6 (past_end capacity start count) ∷ when 9 (touches_of bands spans closed start count) ∷ []

unfoldable pub transfer_answer : ℕ → ℕ → List Span → List Bool → ℕ → ℕ → ℕ
transfer_answer capacity bands spans closed start count = first_of (transfer_refusals capacity bands spans closed start count)

-- the spans with one band's in a new place
abbrev pub placed : List Span → ℕ → ℕ → ℕ → List Span
placed spans band start length = set spans band (record { start = start; length = length })

-- the refusals of a geometry: 1 "no row", 5 "global: geometry for band 0", 6 "past end", and 7 "overlap: two non-empty bands would share a
-- block", judged with the band in its new place
abbrev pub place_refusals : ℕ → ℕ → List Span → ℕ → ℕ → ℕ → List TableRow
place_refusals capacity bands spans band start length =
    when 1 (not (is_row bands band))
    ∷ when 5 (eqb band 0)
    ∷ when 6 (past_end capacity start length)
    ∷ when 7 (overlapping (band_spans bands (placed spans band start length)))
    ∷ []

unfoldable pub place_answer : ℕ → ℕ → List Span → ℕ → ℕ → ℕ → ℕ
place_answer capacity bands spans band start length = first_of (place_refusals capacity bands spans band start length)

-- "Any refusal leaves the drive untouched."
unfoldable pub place_of : ℕ → ℕ → List Span → ℕ → ℕ → ℕ → List Span
place_of capacity bands spans band start length =
    cond (eqb (place_answer capacity bands spans band start length) 0) (placed spans band start length) spans

-- what a geometry hands back, and the spans after it
pub record Places (capacity bands : ℕ) (spans : List Span) (band start length : ℕ) (r : Result (Unit {0}) Refusal) (spans' : List Span) : Type 0 where
  pub answer : answer_number r ≡ place_answer capacity bands spans band start length
  pub after : spans' ≡ place_of capacity bands spans band start length

-- a band within the capacity
pub record Within (capacity : ℕ) (s : Span) : Type 0 where
  pub begins : s.start ≤ capacity
  pub ends : s.start + s.length ≤ capacity

-- When a transfer gets 9, and a geometry 7, in words of blocks: the promises of `transfer` and `place` say that it is exactly then.

-- "A transfer is refused with 9 exactly when some block's band has that direction's side enabled and locked"
pub record LockedTransfer (capacity bands : ℕ) (spans : List Span) (closed : List Bool) (start count : ℕ) : Type 0 where
  -- the transfer starts at the capacity or before it
  pub begins : start ≤ capacity
  -- and ends there or before
  pub ends : count ≤ capacity - start
  -- one of its blocks lies in a closed band
  pub touched : BlockIn (closed_at bands spans closed) start count

-- a geometry to which none of 1, 5 and 6 applies
pub record Allowed (capacity bands band start length : ℕ) : Type 0 where
  -- the header counts the band
  pub known : band < bands
  -- a drive has room for it
  pub row : band < 16
  -- it is not the global one
  pub local : 1 ≤ band
  -- its new place starts at the capacity or before it
  pub begins : start ≤ capacity
  -- and ends there or before
  pub ends : length ≤ capacity - start

-- "overlap: two non-empty bands would share a block"
pub record OverlapRefused (capacity bands : ℕ) (spans : List Span) (band start length : ℕ) : Type 0 where
  -- no refusal with a lower number applies
  pub allowed : Allowed capacity bands band start length
  -- two bands cover one block, with the band in its new place
  pub shared : SharedBlock bands (placed spans band start length)
