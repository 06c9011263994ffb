use Rattle.std.proofs.Common.{◌≡◌, ◌≤◌, length}
use Rattle.cases.specs.Cases.{case_place}
use Rattle.cases.proofs.case_of.Given as goal

abbrev pub invariant-loop : goal.invariant-loop
invariant-loop l = (l.at ≡ case_place l.input l.counter 0) × (l.at ≤ length l.input)
