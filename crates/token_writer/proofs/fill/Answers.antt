use borrow.Author.Rules.{rules}
use Rattle.token_writer.proofs.Passes.{fill_first, fill_room, fill_last, fill_done}
use Rattle.token_writer.proofs.fill.Goals as goal

pub put_part-requires : goal.put_part-requires
put_part-requires c = search (fill_room, rules)

pub bounds-out-at : goal.bounds-out-at
bounds-out-at c = search (fill_last, rules)

pub returns : goal.returns
returns c = search (fill_done, fill_first, rules)
