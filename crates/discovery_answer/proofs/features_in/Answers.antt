use borrow.Author.Rules.{rules}
use borrow.Author.Tests.{tests}
use Rattle.discovery_answer.proofs.Walking.{none-shown, walk_begin, walk_past, walk_done}
use Rattle.discovery_answer.proofs.features_in.Goals as goal

pub loop-rest-init : goal.loop-rest-init
loop-rest-init c = search (walk_begin, none-shown, rules)

pub returns-then-rest-width : goal.returns-then-rest-width
returns-then-rest-width c = walk_past _ _ _ _ c.loop-rest.invariant (search (rules, tests)) c.width_in-width.ensures (search (rules, tests))

pub returns : goal.returns
returns c = walk_done _ _ _ c.loop-rest.invariant (search (rules, tests))
