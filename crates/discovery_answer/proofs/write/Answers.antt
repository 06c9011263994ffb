use Rattle.discovery_answer.proofs.Answering.{wrote-back}
use Rattle.discovery_answer.proofs.write.Goals as goal

pub returns-clause-back : goal.returns-clause-back
returns-clause-back c = search wrote-back
