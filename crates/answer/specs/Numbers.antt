-- The table of answers: its numbers and its words.
use Rattle.std.specs.Prelude.{ℕ, Result, Ok, Err}
use Rattle.answer.specs.declared.Refusal.{Refusal}
use Rattle.answer.specs.declared.Refusal.TheVariants.{
  NoRow,
  OutOfRange,
  NotTokens,
  TooLong,
  Global,
  PastEnd,
  Overlap,
  Held,
  Locked,
  BadScript,
  ShortBuffer,
  ShortAnswer,
  Malformed,
}

abbrev pub number_of : Refusal → ℕ
-- no row
number_of NoRow = 1
-- out of range
number_of OutOfRange = 2
-- not tokens
number_of NotTokens = 3
-- too long
number_of TooLong = 4
-- global
number_of Global = 5
-- past end
number_of PastEnd = 6
-- overlap
number_of Overlap = 7
-- held
number_of Held = 8
-- locked
number_of Locked = 9
-- bad script
number_of BadScript = 10
-- short buffer
number_of ShortBuffer = 11
-- #102: "Turned away: 12 short answer"
number_of ShortAnswer = 12
-- #104: "Turned away: 13 malformed"
number_of Malformed = 13

-- the number of what was answered: done is 0, whatever is handed over with it
abbrev pub answer_number : {A : Type 0} → Result A Refusal → ℕ
answer_number (Ok value) = 0
answer_number (Err refusal) = number_of refusal
