-- What a program makes of its input.
use Rattle.std.specs.Prelude.{ℕ, ◌+◌, ◌≤◌, ◌≡◌, Bool, min, List, [], length, take, Result, Ok, Err, IfOk}
use Rattle.std.specs.Result.{is_err}
use Rattle.drive.specs.State.{fresh_drive}
use Rattle.drive.specs.Events.{run_of}
use Rattle.discovery_answer.specs.Write.{discovery_of}
use Rattle.script.specs.Whole.{most_script_bytes, Script, accepted, bad, read_script}
use Rattle.program.specs.declared.BytesRead.{BytesRead}
use Rattle.program.specs.declared.Ended.{Ended}
use Rattle.program.specs.declared.Unread.{Unread}

-- a read that answers an error has failed
abbrev pub is_failure : {E : Type 0} → Result ℕ E → Bool
is_failure got = is_err got

-- how many bytes a read moved, of at most so many: none where it failed
abbrev pub moved : {E : Type 0} → Result ℕ E → ℕ → ℕ
moved (Ok n) most = min n most
moved (Err e) most = 0

-- how many bytes were read, or the read that failed
abbrev pub length_in : Result BytesRead Unread → Result ℕ Unread
length_in (Ok input) = Ok input.length
length_in (Err unread) = Err unread

-- one byte more than a script may have: at most so many bytes of an input are read
abbrev pub most_read : ℕ
most_read = most_script_bytes + 1

-- A program says something of a script: its listing, or the discovery answer of the drive that it leaves (document 02, #102), of which a bad
-- script has none.
abbrev pub discovery_after : Script → List ℕ
discovery_after (accepted capacity bands sensors es) = discovery_of (run_of (fresh_drive capacity bands sensors) es)
discovery_after (bad place) = []

-- The text is what is said of every input that starts with the bytes that were read: of those bytes themselves, and of a longer input where
-- there were as many as are read at most.
abbrev pub Tells : (Script → List ℕ) → List ℕ → List ℕ → Type 0
Tells says bytes text = (input : List ℕ) → bytes ≡ take most_read input → text ≡ says (read_script input)

-- as many bytes are handed to standard output as the text of the bytes read has
pub record Prints (says : Script → List ℕ) (bytes : List ℕ) (written : ℕ) : Type 0 where
  pub text : List ℕ
  pub tells : Tells says bytes text
  pub whole : written ≡ length text

-- so many bytes are the first of a space
abbrev pub AreFirst : ℕ → List ℕ → Type 0
AreFirst n space = (n ≤ length space) × (n ≡ length (take n space))

-- how many bytes were read
abbrev pub read_in : Result Ended Unread → ℕ
read_in (Ok ended) = ended.read
read_in (Err unread) = unread.read

-- What a program came to. Which bytes the outside hands over no contract can say; that there are such bytes, as many as were read:
pub record EndsSo (says : Script → List ℕ) (r : Result Ended Unread) : Type 0 where
  pub input : List ℕ
  pub read-are : read_in r ≡ length input
  -- one more than a script may have, and no more
  pub few : length input ≤ most_read
  -- and that their text was printed, "A program reads a script on standard input", unless they could not be read
  pub printed : IfOk r (λ ended. Prints says input ended.written)
