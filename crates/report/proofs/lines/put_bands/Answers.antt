use Prim.Native.Nat.{◌<◌}
use native.Mathlib.Omega.{arith}
use Rattle.report.proofs.Putting.{lines_begin, lines_room, lines_again}
use Rattle.report.proofs.Rows.{below, band_there}
use Rattle.report.proofs.lines.put_bands.Goals as goal

pub loop-number-init : goal.loop-number-init
loop-number-init c = search lines_begin

pub put_band-at-requires : goal.put_band-at-requires
put_band-at-requires c =
    let h : c.loop-number.number < c.args.count = below _ c.args.rows.now _ (omega arith) c.loop-number-test.true in
    lines_room _ _ _ _ _ _ c.requires.0 c.loop-number.invariant h _ (band_there _ _ h c.args.rows.now _ _ (omega arith))

pub loop-number-preserved : goal.loop-number-preserved
loop-number-preserved c =
    let h : c.loop-number.number < c.args.count = below _ c.args.rows.now _ (omega arith) c.loop-number-test.true in
    lines_again _ _ _ _ _ _ c.requires.0 c.loop-number.invariant h _ _ _ (band_there _ _ h c.args.rows.now _ _ (omega arith)) c.put_band-at.ensures
