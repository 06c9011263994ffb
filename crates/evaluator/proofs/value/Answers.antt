use Rattle.evaluator.proofs.Walk.{ran_again, ran_broken}
use Rattle.std.proofs.Common.{rules, ◌≡◌}
use Rattle.evaluator.specs.declared.Evaluation.TheVariants.{Malformed}
use Rattle.evaluator.specs.Value.{value_of}
use Rattle.evaluator.proofs.value.Goals as goal

pub returns-then-is_none : goal.returns-then-is_none
returns-then-is_none c =
    let h : Malformed ≡ value_of c.args.conditions.now c.as_slice-elements.result.now = search (ran_broken, rules) in
    cc

pub loop-element-preserved : goal.loop-element-preserved
loop-element-preserved c = search (ran_again, rules)
