use borrow.Author.Rules.{rules}
use Rattle.script_reader.proofs.Flattening.{flat-begin, flat-bad, flat-done, flat-less, flat-again}
use Rattle.script_reader.proofs.flatten.Goals as goal

pub loop-reader-init : goal.loop-reader-init
loop-reader-init c = search (flat-begin, rules)

pub returns-in_err-event : goal.returns-in_err-event
returns-in_err-event c =
    flat-bad _ _ _ _ _ _ _ c.loop-reader.invariant (search rules) _ c.event.new.reader c.event.ensures.event (search rules) _ (search rules) _ _

pub loop-reader-smaller : goal.loop-reader-smaller
loop-reader-smaller c =
    flat-less _ _ _ _ _ _ _ c.loop-reader.invariant (search rules) _ c.event.new.reader c.event.ensures.event c.in_ok-event.event (search rules) c.event.ensures.script

pub loop-reader-preserved : goal.loop-reader-preserved
loop-reader-preserved c =
    flat-again _ _ _ _ _ _ _ c.loop-reader.invariant (search rules) _ c.event.new.reader c.event.ensures.event c.in_ok-event.event (search rules) c.event.ensures.script
    _ c.numbers_of-numbers.ensures c.tokens_of-expression.result c.tokens_of-expression.ensures c.requires _ _ c.put.ensures (search rules) c.put-in-loop-reader.ensures (search rules)

pub returns : goal.returns
returns c = flat-done _ _ _ _ _ _ _ c.loop-reader.invariant (search rules)
