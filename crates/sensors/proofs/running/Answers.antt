use borrow.Author.Rules.{rules}
use borrow.Author.Tests.{tests}
use mathlib.Core.Path.{◌∙◌}
use Rattle.std.proofs.lemmas.Iterator.{YieldsList-from_slice}
use Rattle.std.proofs.lemmas.Iterator.Consumers.{YieldsList-at, YieldsList-from_filter, count_from_yields_List}
use Rattle.sensor.specs.Single.{runs}
use Rattle.sensors.proofs.Quiet.{count-is}
use Rattle.sensors.proofs.running.Goals as goal

pub returns : goal.returns
returns c =
    count_from_yields_List c.filter.result _ c.count.ensures.ran
    (YieldsList-from_filter _ runs (YieldsList-at c.filter.ensures.source (YieldsList-from_slice c.args.sensors.now cc)) c.filter.ensures.closure (λ x b q k. search (rules, tests)))
    ∙ count-is runs c.args.sensors.now
