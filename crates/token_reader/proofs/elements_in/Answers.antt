use Rattle.std.proofs.Common.{rules}
use Rattle.token_reader.proofs.Listing.{reading_long, reading_other, reading_broken, reading_done}
use Rattle.token_reader.proofs.elements_in.Goals as goal

pub returns-then-starts_with : goal.returns-then-starts_with
returns-then-starts_with c = search (reading_long, rules)

pub returns-then-expression-eq-ELEMENTS : goal.returns-then-expression-eq-ELEMENTS
returns-then-expression-eq-ELEMENTS c = search (reading_other, rules)

pub returns-in_default : goal.returns-in_default
returns-in_default c = search (reading_broken, rules)

pub returns : goal.returns
returns c = search (reading_done, rules)
