use borrow.Author.Rules.{rules}
use Rattle.sensors.proofs.Quiet.{rest-all}
use Rattle.sensors.proofs.all_rest.Goals as goal

pub returns-clause-sensors_value : goal.returns-clause-sensors_value
returns-clause-sensors_value c = λ e. rest-all c.args.sensors.now (search rules)
