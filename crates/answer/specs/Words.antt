-- The table of answers: the words of the refusals, as text shows them.
use Rattle.std.specs.Prelude.{ℕ, List, codes}
use Rattle.answer.specs.declared.Refusal.{Refusal}
use Rattle.answer.specs.declared.Refusal.TheVariants.{
  NoRow,
  OutOfRange,
  NotTokens,
  TooLong,
  Global,
  PastEnd,
  Overlap,
  Held,
  Locked,
  BadScript,
  ShortBuffer,
  ShortAnswer,
  Malformed,
}

abbrev pub word_of : Refusal → List ℕ
word_of NoRow = codes "no row"
word_of OutOfRange = codes "out of range"
word_of NotTokens = codes "not tokens"
word_of TooLong = codes "too long"
word_of Global = codes "global"
word_of PastEnd = codes "past end"
word_of Overlap = codes "overlap"
word_of Held = codes "held"
word_of Locked = codes "locked"
word_of BadScript = codes "bad script"
word_of ShortBuffer = codes "short buffer"
word_of ShortAnswer = codes "short answer"
word_of Malformed = codes "malformed"
