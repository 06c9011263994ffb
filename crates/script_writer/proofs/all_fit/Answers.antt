use borrow.Author.Rules.{rules}
use Rattle.script_writer.proofs.Values.{fit-begin, fit-named, fit-zero, fit-broken, fit-done}
use Rattle.script_writer.proofs.all_fit.Goals.{else-not-names-via-then-not-names+else-value-ne0, else-not-names-via-else-not-names}
use Rattle.script_writer.proofs.all_fit.Goals as goal

pub loop-value-init : goal.loop-value-init
loop-value-init c = search (fit-begin, rules)

pub returns-then-value-ne0 : goal.returns-then-value-ne0
returns-then-value-ne0 c = search (fit-broken, rules)

pub loop-value-preserved : goal.loop-value-preserved
loop-value-preserved c =
    elim c.else-not-names.branch [
      | else-not-names-via-then-not-names+else-value-ne0 w ↦ search (fit-zero, rules)
      | else-not-names-via-else-not-names w ↦ search (fit-named, rules)
    ]

pub returns : goal.returns
returns c = search (fit-done, rules)
