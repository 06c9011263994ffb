use mathlib.Core.Path.{sym, ap, ◌∙◌}
use native.Mathlib.Omega.{arith}
use borrow.Author.Rules.{rules}
use Rattle.answer.specs.Numbers.{answer_number}
use Rattle.in_place.specs.Parts.{ended_in}
use Rattle.in_place.proofs.Running.{run_begin, run_broken, run_done, run_again, stops_fit}
use Rattle.in_place.proofs.run_settled.Goals as goal
use Rattle.in_place.proofs.run_settled.Goals.{in-Ok, in-Err}

pub loop-i-init : goal.loop-i-init
loop-i-init c = run_begin _ _ _ _ _ _ c.requires.settled_sixteen

pub returns-in_default : goal.returns-in_default
returns-in_default c = search (run_broken, rules)

pub overflow_cast-stops : goal.overflow_cast-stops
overflow_cast-stops c = omega (arith, stops_fit _ _ _ _ _ _ _ _ _ _ _ _ c.loop-i.invariant _ _ _ c.in-Ok.ensures)

pub loop-i-preserved : goal.loop-i-preserved
loop-i-preserved c =
    let g = c.loop-i.invariant in
    let reads = c.in-Some.ensures in
    elim c.match-apply.branch [
      | in-Ok w ↦
          rw (w.answers-is, w.stops-is)
          (run_again _ _ _ _ _ _ _ _ _ _ _ _ g _ _ _ _ _ _ _ c.loop-i-test.true c.requires.count_in_bounds reads.event (ap (λ b. b.now) reads.script) c.apply.ensures
          (sym (ap answer_number w.in-Ok.is)) (sym (ap ended_in w.in-Ok.is)))
      | in-Err w ↦
          rw (w.answers-is, w.stops-is)
          (run_again _ _ _ _ _ _ _ _ _ _ _ _ g _ _ _ _ _ _ _ c.loop-i-test.true c.requires.count_in_bounds reads.event (ap (λ b. b.now) reads.script) c.apply.ensures
          (w.number.ensures ∙ sym (ap answer_number w.in-Err.is)) (sym (ap ended_in w.in-Err.is)))
    ]

pub returns : goal.returns
returns c = run_done _ _ _ _ _ _ _ _ _ _ _ _ c.loop-i.invariant c.loop-i-test.false
