use borrow.Author.Rules.{rules}
use borrow.Author.Tests.{tests}
use mathlib.Core.Path.{◌∙◌}
use Rattle.std.proofs.lemmas.Iterator.{YieldsList-from_slice}
use Rattle.std.proofs.lemmas.Iterator.Search.{any_from_yields_List}
use Rattle.sensor.specs.Single.{ends_next}
use Rattle.sensors.proofs.Quiet.{any-is}
use Rattle.sensors.proofs.some_ends.Goals as goal

pub returns : goal.returns
returns c =
    any_from_yields_List ends_next _ _ _ c.any.ensures.ran (YieldsList-from_slice c.args.sensors.now cc) (λ x b q k. search (rules, tests)) ∙ any-is ends_next c.args.sensors.now
