use native.Mathlib.Omega.{arith}
use lib.Seq.{paste-zero}
use Rattle.output.proofs.Copying.{copy_again, copy_done}
use Rattle.output.proofs.put.Goals as goal

pub loop-i-init : goal.loop-i-init
loop-i-init g c = paste-zero c.args.out.now c.args.at c.args.items.now

pub loop-i-preserved : goal.loop-i-preserved
loop-i-preserved g c =
    copy_again _ _ _ _ _ c.loop-i.invariant _ c.index-items-i.is (omega (arith, c.if-out-items.false, c.if-out-items-2.false, c.loop-i-test.true)) c.loop-i-test.true

pub returns : goal.returns
returns g c =
    copy_done c.args.out.now c.args.at c.args.items.now _ c.loop-i.i c.loop-i.invariant (omega (arith, c.loop-i-test.false, c.loop-i.auto.i-end))
    (omega (arith, c.if-out-items.false, c.if-out-items-2.false))
