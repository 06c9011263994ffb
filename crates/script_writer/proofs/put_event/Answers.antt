use borrow.Author.Rules.{rules}
use Rattle.script_writer.proofs.Events.{put-unknown, put-cut, put-unfit, put-long, put-few, put_is}
use Rattle.script_writer.proofs.put_event.Goals as goal

pub returns-in_err-kind : goal.returns-in_err-kind
returns-in_err-kind c = put-unknown _ _ _ _ _ _ c.field.ensures c.try_from.ensures _ _ (search rules) (search rules)

pub returns-in_err-numbers : goal.returns-in_err-numbers
returns-in_err-numbers c =
    put-cut _ _ _ _ _ _ c.field.ensures c.try_from.ensures c.in_ok-kind.kind (search rules) _ c.width-width.ensures _ c.get.ensures.lookup _ _ (search rules) (search rules)

pub returns-then-not-all_fit : goal.returns-then-not-all_fit
returns-then-not-all_fit c =
    put-unfit _ _ c.args.bytes.now c.args.at _ _ c.field.ensures c.try_from.ensures c.in_ok-kind.kind (search rules) _ c.width-width.ensures _ c.get.ensures.lookup c.in_ok-numbers.numbers (search rules)
    _ c.mask_over-mask.ensures _ c.all_fit.ensures (search rules)

pub returns-then-size : goal.returns-then-size
returns-then-size c =
    put-long _ _ c.args.bytes.now c.args.at _ _ c.field.ensures c.try_from.ensures c.in_ok-kind.kind (search rules) _ c.width-width.ensures _ c.get.ensures.lookup c.in_ok-numbers.numbers (search rules)
    _ c.mask_over-mask.ensures _ c.all_fit.ensures _ c.count_of-size.ensures c.if-size.true

pub returns-in_err-expression : goal.returns-in_err-expression
returns-in_err-expression c =
    put-few _ _ _ _ _ _ c.field.ensures c.try_from.ensures c.in_ok-kind.kind (search rules) _ c.width-width.ensures _ c.get.ensures.lookup c.in_ok-numbers.numbers (search rules)
    _ c.mask_over-mask.ensures _ c.all_fit.ensures _ c.count_of-size.ensures c.if-size.false _ c.get-2.ensures.lookup _ _ (search rules) (search rules)

pub returns : goal.returns
returns c =
    put_is _ _ _ _ _ _ c.field.ensures c.try_from.ensures c.in_ok-kind.kind (search rules) _ c.width-width.ensures _ c.get.ensures.lookup c.in_ok-numbers.numbers (search rules)
    _ c.mask_over-mask.ensures _ c.all_fit.ensures _ c.count_of-size.ensures c.if-size.false _ c.get-2.ensures.lookup c.in_ok-expression.expression (search rules)
    _ c.put_values-end.ensures.value _ _ c.requires (search rules) c.put_values-end.ensures.bytes (search rules) c.put.ensures
