use mathlib.Core.Path.{ap, ◌∙◌}
use borrow.Author.Rules.{rules}
use Rattle.geometry.specs.Blocks.{overlapping}
use Rattle.geometry.proofs.Arms.{put_back, no_row, no_band, band_zero, far_place, place_refused, place_done}
use Rattle.geometry.proofs.Refusals.{and_overlap}
use Rattle.geometry.proofs.place.Goals as goal

pub returns-then-band-ge16-clause-places : goal.returns-then-band-ge16-clause-places
returns-then-band-ge16-clause-places c = search (no_row, rules)

pub returns-then-bands-at-clause-places : goal.returns-then-bands-at-clause-places
returns-then-bands-at-clause-places c = search (no_band, rules)

pub returns-then-at-eq0-clause-places : goal.returns-then-at-eq0-clause-places
returns-then-at-eq0-clause-places c = search (band_zero, rules)

pub returns-then-is_past_end-clause-places : goal.returns-then-is_past_end-clause-places
returns-then-is_past_end-clause-places c =
    far_place _ _ _ _ _ _ _ c.is_past_end.ensures (search rules) (search rules) (search rules) c.if-at-eq0.false

pub returns-then-overlap-clause-places : goal.returns-then-overlap-clause-places
returns-then-overlap-clause-places c =
    place_refused _ _ _ _ _ _ _ _ (search rules) (search rules) c.if-at-eq0.false c.is_past_end.ensures (search rules)
    (c.overlap.ensures ∙ ap overlapping c.local.ensures) _ (put_back _ _ _ _) (search rules)

pub returns-then-overlap-clause-overlap : goal.returns-then-overlap-clause-overlap
returns-then-overlap-clause-overlap c = and_overlap _ _ _ _ _ _ _ _ (returns-then-overlap-clause-places c)

pub returns-clause-places : goal.returns-clause-places
returns-clause-places c =
    place_done _ _ _ _ _ _ _ _ (search rules) (search rules) c.if-at-eq0.false c.is_past_end.ensures (search rules)
    (c.overlap.ensures ∙ ap overlapping c.local.ensures) (search rules)

pub returns-clause-overlap : goal.returns-clause-overlap
returns-clause-overlap c = and_overlap _ _ _ _ _ _ _ _ (returns-clause-places c)
