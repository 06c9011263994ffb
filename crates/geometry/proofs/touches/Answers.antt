use mathlib.Core.Path.{refl}
use borrow.Author.Rules.{rules}
use Rattle.geometry.proofs.Bands.{none_closed, barred_none}
use Rattle.geometry.proofs.touches.Goals as goal

pub returns-then-not-contains : goal.returns-then-not-contains
returns-then-not-contains c =
    none_closed c.args.spans.now c.args.closed.now c.args.range.start c.args.range.length _ _ c.contains.ensures.value refl (search rules)

pub returns : goal.returns
returns c = barred_none c.args.spans.now c.args.closed.now c.args.range (search rules) (search rules)
