-- The Level 0 discovery answer (document 02, #102) as the tables of the standards have it: 003, 10.2.14, tables 1, 2, 4 and 23; 002, 4.1.1,
-- table 8. The writer and the reader both go by this page.
use Rattle.std.specs.Prelude.{ℕ, ◌+◌, ◌-◌, ◌*◌, ◌/◌, ◌%◌, List, [], ◌∷◌, ◌++◌, length, replicate}

-- a number in two bytes and in four, "(MSB)" first and "(LSB)" last

abbrev pub in_two_bytes : ℕ → List ℕ
in_two_bytes n = n / 256 ∷ n % 256 ∷ []

abbrev pub in_four_bytes : ℕ → List ℕ
in_four_bytes n = n / 16777216 ∷ n / 65536 % 256 ∷ n / 256 % 256 ∷ n % 256 ∷ []

-- ---- table 4, a feature descriptor

pub record Descriptor : Type 0 where
  -- "Feature Code": bytes 0 and 1
  pub code : ℕ
  -- "Version": the high half of byte 2
  pub version : ℕ
  -- "Reserved": its low half
  pub reserved : ℕ
  -- "Feature Dependent Data": bytes 4 to n. Byte 3 "indicates the length of the Feature Dependent Data (in bytes) that follow this header."
  pub content : List ℕ

-- the bytes of a descriptor before its content
abbrev pub descriptor_head : ℕ
descriptor_head = 4

abbrev pub descriptor_bytes : Descriptor → List ℕ
descriptor_bytes f = in_two_bytes f.code ++ (f.version * 16 + f.reserved) ∷ length f.content ∷ f.content

-- descriptors, one after the other
unfoldable pub feature_bytes : List Descriptor → List ℕ
feature_bytes [] = []
feature_bytes (f ∷ fs) = descriptor_bytes f ++ feature_bytes fs

-- ---- table 1: "0 – 47 Level 0 Discovery header", "48 – n Feature Descriptor(s)"

abbrev pub header_bytes : ℕ
header_bytes = 48

-- Table 2: bytes 0 to 3 are "the total number of bytes that are valid in the level 0 discovery header and all of the feature descriptors
-- returned, not including this field",
abbrev pub length_bytes : ℕ
length_bytes = 4

-- bytes 4 to 7 the "Data structure revision": "The value SHALL be 00000001h",
abbrev pub revision : ℕ
revision = 1

-- bytes 8 to 15 "Reserved", bytes 16 to 47 "Vendor Specific": "reserved and vendor bytes written as 0"
abbrev pub header_of : List ℕ → List ℕ
header_of features = in_four_bytes (header_bytes + length features - length_bytes) ++ in_four_bytes revision ++ replicate 8 0 ++ replicate 32 0

unfoldable pub answer_bytes : List Descriptor → List ℕ
answer_bytes fs = header_of (feature_bytes fs) ++ feature_bytes fs

-- ---- the two features of #102: "the Locking feature 0002 and the Locking LBA Ranges Control feature 0401 .. version 1, length 12"

abbrev pub locking_code : ℕ
locking_code = 0x0002

abbrev pub ranges_code : ℕ
ranges_code = 0x0401

abbrev pub feature_version : ℕ
feature_version = 1

abbrev pub feature_length : ℕ
feature_length = 12

-- Table 23, byte 4, the first of the content: the bits of the Locking feature's flags. The two above them, 64 and 128, are reserved.

abbrev pub locking_supported : ℕ
locking_supported = 1

abbrev pub locking_enabled : ℕ
locking_enabled = 2

abbrev pub locked : ℕ
locked = 4

abbrev pub media_encryption : ℕ
media_encryption = 8

abbrev pub mbr_enabled : ℕ
mbr_enabled = 16

abbrev pub mbr_done : ℕ
mbr_done = 32

-- the six flags of that byte
abbrev pub flags_in : ℕ → ℕ
flags_in byte = byte % 64

-- the flags in their byte, "5 - 15 Reserved"
abbrev pub locking_feature : ℕ → Descriptor
locking_feature flags =
    record { code = locking_code; version = feature_version; reserved = 0; content = flags ∷ replicate 11 0 }

-- 002, table 8: all of the content is reserved
abbrev pub ranges_feature : Descriptor
ranges_feature = record { code = ranges_code; version = feature_version; reserved = 0; content = replicate 12 0 }
