use native.Mathlib.Omega.{arith}
use borrow.Author.Rules.{rules}
use Rattle.script.specs.Whole.{check_of}
use Rattle.script.proofs.Checking.{check-overlong, check-no-header, check-events}
use Rattle.script.proofs.check.Goals as goal

pub returns-then-script-gt-MOST_BYTES : goal.returns-then-script-gt-MOST_BYTES
returns-then-script-gt-MOST_BYTES c = check-overlong _ (omega arith)

pub returns-in_err-ok_or : goal.returns-in_err-ok_or
unfolding check_of
returns-in_err-ok_or c = search (check-no-header, rules)

pub returns : goal.returns
unfolding check_of
returns c = search (check-events, rules)
