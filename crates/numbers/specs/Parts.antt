-- What the reader of groups does, for the contracts of private functions.
use Rattle.std.specs.Prelude.{ℕ, zero, suc, ◌+◌, cond, List, [], ◌∷◌, ltb}
use Rattle.numbers.specs.Groups.{Found, prefixed, found, none, done, bad_script}

-- the same with at most so many groups, as the code counts them; `ten` says that ten are enough
unfoldable pub groups_from : ℕ → ℕ → List ℕ → Found
groups_from zero at bytes = none bad_script
groups_from (suc k) at [] = none bad_script
groups_from (suc k) at (b ∷ bytes) = cond (ltb b 128) (found done b (at + 1)) (prefixed b (groups_from k (at + 1) bytes))
