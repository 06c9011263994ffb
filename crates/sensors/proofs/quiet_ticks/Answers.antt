use borrow.Author.Rules.{rules}
use borrow.Author.Tests.{tests}
use mathlib.Core.Path.{◌∙◌}
use Rattle.std.proofs.lemmas.Iterator.{YieldsList-from_slice}
use Rattle.std.proofs.lemmas.Iterator.Consumers.{fold_from_yields_List}
use Rattle.sensor.specs.Parts.{quiet_of}
use Rattle.sensors.specs.Parts.{quiet_ticks}
use Rattle.sensors.proofs.Quiet.{fold-is}
use Rattle.sensors.proofs.quiet_ticks.Goals as goal

pub returns : goal.returns
unfolding quiet_ticks
returns c =
    fold_from_yields_List _ quiet_of c.args.most c.fold.result c.fold.ensures.ran (YieldsList-from_slice c.args.sensors.now cc) (λ a x b q k. search (rules, tests))
    ∙ fold-is quiet_of c.args.most c.args.sensors.now
