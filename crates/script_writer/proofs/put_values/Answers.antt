use borrow.Author.Rules.{rules}
use Rattle.script_writer.proofs.Values.{put-begin, put-room, put-again, put-place, put-done}
use Rattle.script_writer.proofs.put_values.Goals as goal

pub loop-value-init : goal.loop-value-init
loop-value-init c = search (put-begin, rules)

pub put_value-place-requires : goal.put_value-place-requires
put_value-place-requires c = search (put-room, rules)

pub loop-value-preserved : goal.loop-value-preserved
loop-value-preserved c = search (put-again, rules)

pub returns-clause-value : goal.returns-clause-value
returns-clause-value c = search (put-place, rules)

pub returns-clause-bytes : goal.returns-clause-bytes
returns-clause-bytes c = search (put-done, rules)
