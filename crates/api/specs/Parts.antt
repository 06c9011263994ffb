-- What the inner functions hand back.
use Rattle.std.specs.Prelude.{ℕ, Option, Some, None}
use Rattle.answer.specs.declared.Refusal.{Refusal}
use Rattle.answer.specs.Numbers.{number_of}

-- the number of a refusal, 0 where there is none
abbrev pub anyway_in : Option Refusal → ℕ
anyway_in (Some refusal) = number_of refusal
anyway_in None = 0
