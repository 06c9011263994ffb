-- Document 02, #102: what is shown of the bytes of a discovery answer.
use Rattle.std.specs.Prelude.{ℕ, zero, suc, ◌+◌, ◌*◌, ◌/◌, ◌%◌, ◌≡◌, Bool, true, false, cond, ◌&&◌, List, [], ◌∷◌, eqb, ltb, length, get_or, take, drop, Result, Ok, Err}
use Rattle.base.specs.Lists.{any}
use Rattle.base.specs.Refusals.{TableRow, when, first_of}
use Rattle.answer.specs.declared.Refusal.{Refusal}
use Rattle.answer.specs.Numbers.{number_of}
use Rattle.discovery_answer.specs.declared.Features.{Features}
use Rattle.discovery_answer.specs.Format.{
  Descriptor,
  descriptor_head,
  header_bytes,
  length_bytes,
  locking_code,
  ranges_code,
  feature_version,
  feature_length,
  flags_in,
}

-- ---- the descriptors

-- the descriptor that begins the bytes
abbrev pub descriptor_in : List ℕ → Descriptor
descriptor_in s = record {
  code = get_or s 0 0 * 256 + get_or s 1 0;
  version = get_or s 2 0 / 16;
  reserved = get_or s 2 0 % 16;
  content = take (get_or s 3 0) (drop descriptor_head s);
}

-- its bytes: four and its length, which counts as 0 where the bytes end before it
abbrev pub width_in : List ℕ → ℕ
width_in s = descriptor_head + get_or s 3 0

-- "a descriptor runs past it"; so one to three bytes left before the end do
abbrev pub runs_past : List ℕ → Bool
runs_past s = ltb (length s) (width_in s)

-- all descriptors up to the end, or one that runs past it
pub data Descriptors : Type 0 where
  whole : List Descriptor → Descriptors
  past_end : Descriptors

abbrev pub before : Descriptor → Descriptors → Descriptors
before f (whole fs) = whole (f ∷ fs)
before f past_end = past_end

-- "A reader skips by length each feature": one descriptor after the other, so many at most
unfoldable pub descriptors_up_to : ℕ → List ℕ → Descriptors
descriptors_up_to zero s = cond (eqb (length s) 0) (whole []) past_end
descriptors_up_to (suc most) s =
    cond (eqb (length s) 0) (whole []) (cond (runs_past s) past_end (before (descriptor_in s) (descriptors_up_to most (drop (width_in s) s))))

-- there are never more descriptors than bytes
abbrev pub descriptors_in : List ℕ → Descriptors
descriptors_in s = descriptors_up_to (length s) s

abbrev pub is_past : Descriptors → Bool
is_past (whole fs) = false
is_past past_end = true

abbrev pub listed : Descriptors → List Descriptor
listed (whole fs) = fs
listed past_end = []

-- ---- what is shown of them

-- "A reader skips by length each feature that it doesn't know. A known code with another version or length is passed over likewise."
abbrev pub is_feature : ℕ → Descriptor → Bool
is_feature code f = eqb f.code code && (eqb f.version feature_version && eqb (length f.content) feature_length)

abbrev pub is_there : ℕ → List Descriptor → Bool
is_there code fs = any (is_feature code) fs

-- "the Locking feature's flags, of a repeated one the first's, all 0 when it isn't there"
unfoldable pub first_flags : List Descriptor → ℕ
first_flags [] = 0
first_flags (f ∷ fs) = cond (is_feature locking_code f) (flags_in (get_or f.content 0 0)) (first_flags fs)

-- "Shown are whether each of the two is there and the Locking feature's flags"
abbrev pub features_of : List Descriptor → Features
features_of fs = record { locking = is_there locking_code fs; ranges = is_there ranges_code fs; flags = first_flags fs }

-- ---- the whole answer

-- "the end that its length field states": four bytes, high first, which do not count themselves
abbrev pub end_in : List ℕ → ℕ
end_in s = length_bytes + (get_or s 0 0 * 16777216 + get_or s 1 0 * 65536 + get_or s 2 0 * 256 + get_or s 3 0)

-- "Bytes after the end that the header's length field states are not looked at."
abbrev pub features_in : List ℕ → Descriptors
features_in s = descriptors_in (drop header_bytes (take (end_in s) s))

-- "12 short answer, when the header, or the end that its length field states, lies past the bytes given, or that end lies inside the
-- header, or a descriptor runs past it"
abbrev pub read_refusals : List ℕ → List TableRow
read_refusals s =
    when 12 (ltb (length s) header_bytes)
    ∷ when 12 (ltb (length s) (end_in s))
    ∷ when 12 (ltb (end_in s) header_bytes)
    ∷ when 12 (is_past (features_in s))
    ∷ []

unfoldable pub read_answer : List ℕ → ℕ
read_answer s = first_of (read_refusals s)

-- ".. tested before any feature is shown": by the answer's number, what the descriptors show, or what none show
abbrev pub shown_by : ℕ → Descriptors → Features
shown_by answer ds = features_of (cond (eqb answer 0) (listed ds) [])

unfoldable pub shown_in : List ℕ → Features
shown_in s = shown_by (read_answer s) (features_in s)

-- what the reader answers to bytes: what is shown, or the refusal, with which nothing is
abbrev pub Shows : List ℕ → Result Features Refusal → Type 0
Shows s (Ok features) = (read_answer s ≡ 0) × (features ≡ shown_in s)
Shows s (Err refusal) = number_of refusal ≡ read_answer s
