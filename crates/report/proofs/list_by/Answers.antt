use Rattle.report.proofs.Whole.{straight_listed}
use Rattle.report.proofs.list_by.Goals as goal

pub returns-then-out-ge-MOST : goal.returns-then-out-ge-MOST
returns-then-out-ge-MOST c = straight_listed _ _ _ c.requires.0 c.requires.1 _ _ _ c.run-ran.ensures.stops_after _ _ _ c.if-out-ge-MOST.true c.put_run.ensures
