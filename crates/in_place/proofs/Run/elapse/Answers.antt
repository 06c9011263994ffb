use borrow.Author.Rules.{rules}
use Rattle.in_place.proofs.Storing.{elapse_refused, elapse_quiet, elapse_passes, elapse_stored, elapse_stops}
use Rattle.in_place.proofs.Run.elapse.Goals as goal

pub returns-then-ticks-gt-MOST_TICKS : goal.returns-then-ticks-gt-MOST_TICKS
returns-then-ticks-gt-MOST_TICKS c = search (elapse_refused, rules)

pub returns-then-n-quiet_ticks : goal.returns-then-n-quiet_ticks
returns-then-n-quiet_ticks c = elapse_quiet _ c.requires _ _ _ c.if-ticks-gt-MOST_TICKS.false c.quiet_ticks.ensures c.if-n-quiet_ticks.true c.lower_all.ensures

pub returns-then-not-self : goal.returns-then-not-self
returns-then-not-self c = elapse_passes _ c.requires _ _ _ c.if-ticks-gt-MOST_TICKS.false (search rules) c.pass_all.ensures

pub finish-requires : goal.finish-requires
finish-requires c = elapse_stored _ c.requires _ _ _ (search rules) c.elapse-stops.ensures

pub returns : goal.returns
returns c = elapse_stops _ c.requires _ _ _ _ c.if-ticks-gt-MOST_TICKS.false c.elapse-stops.ensures c.finish.ensures
