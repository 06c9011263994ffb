-- Document 01, 'Script': "Every number is in groups of seven bits, low group first, top bit set when more follow. Shortest form only, below
-- 2^64."
use Rattle.std.specs.Prelude.{◌≡◌, ℕ, zero, suc, ◌+◌, ◌-◌, ◌*◌, ◌/◌, ◌%◌, ◌<◌, cond, List, [], ◌∷◌, ◌++◌, eqb, ltb, length, take, drop, replicate, Option, Some, None}
use Rattle.base.specs.Lists.{Bytes}
use Rattle.numbers.specs.declared.ShortForm.{ShortForm}

-- The answers of every reading, by the table: "0 done", and "10 bad script: the script cannot be read".

abbrev pub done : ℕ
done = 0

abbrev pub bad_script : ℕ
bad_script = 10

-- what reading at a place answers: done, with a number and the place after it, or bad script, where none in this form stands there
pub data Found : Type 0 where
  found : (answer value next : ℕ) → Found
  none : (answer : ℕ) → Found

-- the code's cases by the paper's numbers: a value with the place after it, or none
abbrev pub found_in : Option (ℕ × ℕ) → Found
found_in (Some n) = found 0 n.0 n.1
found_in None = none 10

-- "below 2^64"
abbrev pub too_great : ℕ
too_great = 18446744073709551616

-- "Shortest form only": a number in front of which a group stands is not 0. "below 2^64": the whole is.
abbrev pub prefixed : ℕ → Found → Found
prefixed group (found answer v next) =
    let whole = group % 128 + 128 * v in
    cond (eqb v 0) (none bad_script) (cond (ltb whole too_great) (found answer whole next) (none bad_script))
prefixed group (none answer) = none answer

-- the number that starts the bytes, whose first has the place at; "a cut field" is bad
unfoldable pub number_from : ℕ → List ℕ → Found
number_from at [] = none bad_script
number_from at (b ∷ bytes) = cond (ltb b 128) (found done b (at + 1)) (prefixed b (number_from (at + 1) bytes))

abbrev pub number_at : List ℕ → ℕ → Found
number_at bytes at = number_from at (drop at bytes)

-- a field, and what its value and the place after it go on to; or what is made of a refusal: "a cut field, a number not in shortest form or
-- not below 2^64" is bad
abbrev pub onward : {A : Type 0} → (ℕ → A) → Found → (ℕ → ℕ → A) → A
onward refuse (found answer v next) follow = follow v next
onward refuse (none answer) follow = refuse answer

-- the groups of a number, at most so many
unfoldable pub groups_of : ℕ → ℕ → List ℕ
groups_of zero v = []
groups_of (suc k) v = cond (ltb v 128) (v ∷ []) ((v % 128 + 128) ∷ groups_of k (v / 128))

-- the bytes of a number: ten groups hold every number below 2^64 (`OneForm`)
abbrev pub number_bytes : ℕ → List ℕ
number_bytes v = groups_of 10 v

-- the bytes start with the groups of a number, at most so many, and the place after them is after them all
abbrev pub Starts : ℕ → ℕ → List ℕ → ℕ → ℕ → Type 0
Starts k at s v n = (rest : List ℕ) × (s ≡ groups_of k v ++ rest) × (n ≡ at + length (groups_of k v))

-- "Every number is in groups of seven bits, low group first, top bit set when more follow. Shortest form only, below 2^64.": at every place
-- of a string of bytes
pub record OneForm : Type 0 where
  -- the groups of a number below 2^64 read to it, whatever follows them
  pub its-groups : (at v : ℕ) (rest : List ℕ) → v < too_great
      → number_from at (groups_of 10 v ++ rest) ≡ found done v (at + length (groups_of 10 v))
  -- and no other bytes do
  pub no_other : (at : ℕ) (s : List ℕ) (answer v n : ℕ) → Bytes s → number_from at s ≡ found answer v n → Starts 10 at s v n
  -- a number that is read is below 2^64, and its answer is done
  pub within : (at : ℕ) (s : List ℕ) (answer v n : ℕ) → number_from at s ≡ found answer v n → (v < too_great) × (answer ≡ done)
  -- what does not read is bad script
  pub refused : (at : ℕ) (s : List ℕ) (answer : ℕ) → number_from at s ≡ none answer → answer ≡ bad_script

-- The writer's ten bytes: those of the number from the start, and 0 after them.
pub record Writes (v : ℕ) (r : ShortForm) : Type 0 where
  pub count : r.count ≡ length (number_bytes v)
  pub bytes : r.bytes ≡ number_bytes v ++ replicate (10 - length (number_bytes v)) 0

-- "Reading what it wrote gives the same": so many of them read to the number, to their end
abbrev pub ReadsBack : ℕ → ShortForm → Type 0
ReadsBack v r = number_at (take r.count r.bytes) 0 ≡ found done v r.count
