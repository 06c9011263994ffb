-- What only serves the contracts of private functions.
use Rattle.std.specs.Prelude.{cond, ◌||◌, List, Result, Ok, Err}
use Rattle.answer.specs.declared.Refusal.{Refusal}
use Rattle.answer.specs.declared.Refusal.TheVariants.{ShortAnswer}
use Rattle.discovery_answer.specs.declared.Features.{Features}
use Rattle.discovery_answer.specs.Format.{Descriptor, locking_code, ranges_code}
use Rattle.discovery_answer.specs.Read.{Descriptors, whole, past_end, is_there, first_flags}

-- what is shown where some descriptors have shown so much, and these follow
abbrev pub shown_after : Features → List Descriptor → Features
shown_after f fs = record {
  locking = f.locking || is_there locking_code fs;
  ranges = f.ranges || is_there ranges_code fs;
  flags = cond f.locking f.flags (cond (is_there locking_code fs) (first_flags fs) f.flags);
}

-- a walk over the descriptors to their end
abbrev pub walked : Features → Descriptors → Result Features Refusal
walked f (whole fs) = Ok (shown_after f fs)
walked f past_end = Err ShortAnswer
