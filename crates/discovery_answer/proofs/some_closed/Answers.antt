use lib.ListN.{take}
use mathlib.Core.Path.{◌∙◌}
use borrow.Author.Rules.{rules}
use borrow.Author.Tests.{tests}
use Rattle.std.proofs.lemmas.Iterator.{YieldsList-from_slice}
use Rattle.std.proofs.lemmas.Iterator.Search.{any_from_yields_List}
use Rattle.discovery_answer.specs.Write.{closed}
use Rattle.discovery_answer.proofs.Writing.{first-closed}
use Rattle.discovery_answer.proofs.some_closed.Goals as goal

pub returns : goal.returns
returns c =
    let n = c.min.result in
    let rows = c.args.rows.now in
    any_from_yields_List {all = take n rows} closed _ _ _ c.any.ensures.ran (YieldsList-from_slice (take n rows) cc) (λ x b q k. search (rules, tests))
    ∙ first-closed rows c.args.count n (cc) (search rules)
