-- What the reader of cases gives.
use Rattle.std.specs.Prelude.{ℕ, ◌+◌, ◌≡◌, true, false, List, Option, Some, None}
use Rattle.std.specs.Borrow.{Bor}
use Rattle.cases.specs.declared.Cases.{Cases}
use Rattle.cases.specs.Cases.{whole_at, next_at, case_of}

-- what a reader of cases gives: the next case with its number, or that none is whole, and then it stays as it is
abbrev pub GivesCase : Cases → Option (ℕ × Bor (List ℕ)) → Cases → Type 0
GivesCase old None new = (whole_at old.input.now old.at ≡ false) × (new ≡ old)
GivesCase old (Some item) new =
    (whole_at old.input.now old.at ≡ true) × (item.0 ≡ old.number) × (item.1.now ≡ case_of old.input.now old.number)
    × (new.input ≡ old.input) × (new.at ≡ next_at old.input.now old.at) × (new.number ≡ old.number + 1)
