-- Document 02, #102: what the writer and the reader come to together (theorem `discovery-answers` in proofs/Answering).
use Rattle.std.specs.Prelude.{ℕ, ◌+◌, ◌<◌, ◌≡◌, ◌↔◌, ◌≢◌, true, false, List, [], ◌∷◌, ◌++◌, map, length, get_or, take, drop, replicate, Result, Ok}
use Rattle.base.specs.Lists.{Bytes}
use Rattle.base.specs.Columns.{named}
use Rattle.answer.specs.declared.Refusal.{Refusal}
use Rattle.answer.specs.Numbers.{answer_number}
use Rattle.output.specs.Filling.{told_in, filled_by}
use Rattle.band.specs.declared.Side.{Side}
use Rattle.band.specs.Rows.{closed_on}
use Rattle.drive.specs.declared.Drive.{Drive}
use Rattle.drive.specs.State.{row_at}
use Rattle.discovery_answer.specs.declared.Features.{Features}
use Rattle.discovery_answer.specs.Format.{
  Descriptor,
  header_bytes,
  length_bytes,
  feature_bytes,
  flags_in,
  locking_supported,
  locking_enabled,
  locked,
  media_encryption,
  mbr_enabled,
  mbr_done,
}
use Rattle.discovery_answer.specs.Write.{flags_of, discovery_of, discovery_bytes}
use Rattle.discovery_answer.specs.Read.{whole, descriptors_in, features_of, end_in, read_answer, shown_in}

-- "some band has an enabled locked side"
pub record SomeSideLocked (d : Drive) : Type 0 where
  pub band : ℕ
  pub side : Side
  pub there : band < d.band_count
  pub closed : closed_on side (row_at d band) ≡ true

-- The flags that are written, one by one. "The Locking feature's Locked flag is set exactly when some band has an enabled locked side; its
-- other flags hold what 003, 3.6.2.2 fixes."
pub record FlagsAre (d : Drive) (flags : ℕ) : Type 0 where
  pub locked-exactly : (named locked flags ≡ true) ↔ SomeSideLocked d
  pub locking-supported : named locking_supported flags ≡ true
  pub media-encryption : named media_encryption flags ≡ true
  pub locking-enabled : named locking_enabled flags ≡ false
  pub mbr-enabled : named mbr_enabled flags ≡ false
  pub mbr-done : named mbr_done flags ≡ false

-- both features are there, with these flags
abbrev pub both_with : ℕ → Features
both_with flags = record { locking = true; ranges = true; flags = flags }

-- what is shown of an answer that a drive has written: both features, and flags that say whether a side of it is locked
pub record ShowsDrive (d : Drive) (answer : ℕ) (features : Features) : Type 0 where
  pub done : answer ≡ 0
  pub both : features ≡ both_with (flags_of d)
  pub flags : FlagsAre d features.flags

-- where the writer is done, the output reads so, with what stood there behind the answer
abbrev pub ReadsBack : Drive → Result ℕ Refusal → List ℕ → Type 0
ReadsBack d r after = answer_number r ≡ 0 → ShowsDrive d (read_answer after) (shown_in after)

-- an answer's 80 bytes by their numbers: 76 bytes follow the length field; revision 1; 0002 and 0401, each of version 1 with 12 bytes
abbrev pub numbers_with : ℕ → List ℕ
numbers_with flags =
    (0x00 ∷ 0x00 ∷ 0x00 ∷ 0x4C ∷ 0x00 ∷ 0x00 ∷ 0x00 ∷ 0x01 ∷ []) ++ replicate 40 0x00
    ++ (0x00 ∷ 0x02 ∷ 0x10 ∷ 0x0C ∷ flags ∷ []) ++ replicate 11 0x00
    ++ (0x04 ∷ 0x01 ∷ 0x10 ∷ 0x0C ∷ []) ++ replicate 12 0x00

-- numbers that the bytes of a descriptor can hold
pub record Fits (f : Descriptor) : Type 0 where
  pub code : f.code < 65536
  pub version : f.version < 16
  pub reserved : f.reserved < 16
  pub content : length f.content < 256

abbrev pub AllFit : List Descriptor → Type 0
AllFit [] = Unit {0}
AllFit (f ∷ fs) = Fits f × AllFit fs

-- bytes that are an answer with these descriptors: table 1, the header and the descriptors, of which the length field states the end, and
-- whatever follows
pub record IsAnswer (s : List ℕ) (fs : List Descriptor) : Type 0 where
  pub header : List ℕ
  pub rest : List ℕ
  pub header-whole : length header ≡ header_bytes
  pub fit : AllFit fs
  pub bytes : s ≡ header ++ (feature_bytes fs ++ rest)
  pub end-stated : end_in s ≡ header_bytes + length (feature_bytes fs)

-- the reader answers and shows the same
abbrev pub ReadAlike : List ℕ → List ℕ → Type 0
ReadAlike s t = (read_answer s ≡ read_answer t) × (shown_in s ≡ shown_in t)

-- the flags that are shown of a byte: the six of table 23 as they are, and nothing of the two bits above them
pub record SixOf (byte flags : ℕ) : Type 0 where
  pub locking-supported : named locking_supported flags ≡ named locking_supported byte
  pub locking-enabled : named locking_enabled flags ≡ named locking_enabled byte
  pub locked-as-it-is : named locked flags ≡ named locked byte
  pub media-encryption : named media_encryption flags ≡ named media_encryption byte
  pub mbr-enabled : named mbr_enabled flags ≡ named mbr_enabled byte
  pub mbr-done : named mbr_done flags ≡ named mbr_done byte
  pub no_other : flags < 64

-- what is looked at of a descriptor: code, version, length and, in the first byte of the content, the six flags
abbrev pub looked_at : Descriptor → ℕ × ℕ × ℕ × ℕ
looked_at f = (f.code, f.version, length f.content, flags_in (get_or f.content 0 0))

pub record DiscoveryAnswers : Type 0 where
  pub length-is : (d : Drive) → length (discovery_of d) ≡ discovery_bytes
  -- the bytes that the tables make
  pub by_number : (d : Drive) → discovery_of d ≡ numbers_with (flags_of d)
  -- reading what was written shows both features and the drive's flags, whatever bytes follow
  pub read_back : (d : Drive) (rest : List ℕ) → ShowsDrive d (read_answer (discovery_of d ++ rest)) (shown_in (discovery_of d ++ rest))
  -- no drive makes two different answers
  pub one_answer : (d : Drive) (out out' after after' : List ℕ) (n n' : ℕ) → told_in (Ok n) after ≡ filled_by (discovery_of d) out
      → told_in (Ok n') after' ≡ filled_by (discovery_of d) out' → take n after ≡ take n' after'
  -- "Bytes after the end that the header's length field states are not looked at": of bytes that agree up to that end the same is shown
  pub to_the_end : (s t : List ℕ) → take (end_in s) s ≡ take (end_in s) t → ReadAlike s t
  -- "header revision .. (untested on reading), reserved and vendor bytes .. passed over on reading": of the header only the length field is
  -- looked at,
  pub header-passed-over : (s t : List ℕ) → length s ≡ length t → take length_bytes s ≡ take length_bytes t → drop header_bytes s ≡ drop header_bytes t
      → ReadAlike s t
  -- and of each descriptor nothing that is reserved
  pub reserved-passed-over : (fs gs : List Descriptor) → map looked_at fs ≡ map looked_at gs → features_of fs ≡ features_of gs
  pub six-flags : (byte : ℕ) → SixOf byte (flags_in byte)
  -- bytes that are an answer are read, and show what their descriptors show; no others are read, and these get "12 short answer"
  pub answers-read : (s : List ℕ) (fs : List Descriptor) → IsAnswer s fs → (read_answer s ≡ 0) × (shown_in s ≡ features_of fs)
  pub only-answers : (s : List ℕ) → Bytes s → read_answer s ≡ 0 → (fs : List Descriptor) × IsAnswer s fs
  pub else-short : (s : List ℕ) → read_answer s ≢ 0 → read_answer s ≡ 12
  -- and nothing is shown of them
  pub nothing-shown : (s : List ℕ) → read_answer s ≢ 0 → shown_in s ≡ features_of []
  -- descriptors read to themselves, whatever their codes, versions and lengths,
  pub descriptors-back : (fs : List Descriptor) → AllFit fs → descriptors_in (feature_bytes fs) ≡ whole fs
  -- and bytes that read to descriptors are the bytes of these, and of no others
  pub one_form : (s : List ℕ) (fs : List Descriptor) → Bytes s → descriptors_in s ≡ whole fs → AllFit fs × (feature_bytes fs ≡ s)
