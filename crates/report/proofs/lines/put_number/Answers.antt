use Rattle.report.proofs.Putting.{digit_put}
use Rattle.report.proofs.lines.put_number.Goals as goal

pub returns-then-n-lt10 : goal.returns-then-n-lt10
returns-then-n-lt10 c = digit_put c.args.n c.args.out.now c.if-n-lt10.true c.requires
