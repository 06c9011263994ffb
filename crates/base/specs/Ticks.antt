-- Document 01, 'Sensors': "An elapse of n is n ticks"; "Its stops are the ticks at which some timer ends". Over any state.
use Rattle.std.specs.Prelude.{ℕ, zero, suc, ◌+◌, Bool}
use Rattle.base.specs.Lists.{one_if}

-- "An elapse of n (0 to 4,294,967,295)"
abbrev pub most_ticks : ℕ
most_ticks = 4294967295

-- the state after n ticks
unfoldable pub ticks : {S : Type 0} → (S → S) → ℕ → S → S
ticks tick zero s = s
ticks tick (suc n) s = ticks tick n (tick s)

-- the stops of n ticks; `stop s` says that the tick which s is about to make is a stop (document 01's word)
unfoldable pub stops : {S : Type 0} → (S → S) → (S → Bool) → ℕ → S → ℕ
stops tick stop zero s = 0
stops tick stop (suc n) s = one_if (stop s) + stops tick stop n (tick s)
