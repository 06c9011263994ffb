use Rattle.std.proofs.Common.{◌≡◌, ◌≤◌}
use Rattle.vectors.proofs.all_cases.Given as goal

-- no more of a kind than cases that were read, of which each took a byte at least
abbrev pub invariant-loop-number : goal.invariant-loop-number
invariant-loop-number g l =
    (goal.iterator-loop-number g).can_next l.number-iterator
    × (goal.iterator-loop-number g).is_finite l.number-iterator
    × (l.number-iterator.input.now ≡ l.input)
    × (l.tally.same ≤ l.number-iterator.number)
    × (l.tally.bad ≤ l.number-iterator.number)
    × (l.tally.other ≤ l.number-iterator.number)
