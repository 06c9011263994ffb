-- What a loop over ticks does in between: turns of one tick and the quiet ticks after it.
use Rattle.std.specs.Prelude.{◌≡◌, ℕ, ◌+◌, ◌<◌, ◌≤◌, Bool, not, ◌&&◌, ltb}
use Rattle.base.specs.Lists.{one_if}
use Rattle.base.specs.Ticks.{ticks, stops}

-- the turns that are left, at most: one for each running timer, and one that starts at no stop
unfoldable pub turns_left : {S : Type 0} → (S → Bool) → (S → ℕ) → ℕ → S → ℕ
turns_left stop running left s = running s + one_if (ltb 0 left && not (stop s))

-- a turn from s to t uses up one of them, and what is left to do after it is what was left before, less its stops
pub record Turns {S : Type 0} (tick : S → S) (stop : S → Bool) (running : S → ℕ) (before : ℕ) (s t : S) (after one : ℕ) : Type 0 where
  pub fewer : turns_left stop running after t < turns_left stop running before s
  pub state : ticks tick after t ≡ ticks tick before s
  pub counted : one + stops tick stop after t ≡ stops tick stop before s
  pub single : one ≤ 1
  pub passes : after < before
