use Rattle.std.proofs.Common.{◌≡◌}
use Rattle.cases.proofs.held.Given as goal

abbrev pub invariant-loop : goal.invariant-loop
invariant-loop l = l.cases.input.now ≡ l.input
