use borrow.Author.Rules.{rules}
use borrow.Author.Tests.{tests}
use mathlib.Core.Path.{◌∙◌}
use lib.Dec.{leb}
use Rattle.std.proofs.lemmas.Iterator.{YieldsList-from_slice}
use Rattle.std.proofs.lemmas.Iterator.Search.{all_from_yields_List}
use Rattle.token_writer.proofs.Passes.{all_fit}
use Rattle.token_writer.proofs.fit.Goals as goal

pub returns : goal.returns
returns c =
    all_from_yields_List (λ n. leb n 4294967298) _ _ _ c.all.ensures.ran (YieldsList-from_slice c.args.codes.now cc) (λ x b q k. search (rules, tests))
    ∙ all_fit c.args.codes.now
