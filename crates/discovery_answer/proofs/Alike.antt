-- Bytes of which the same is shown.
use mathlib.Core.Path.{◌≡◌, refl, sym, ap, ap₂, ◌∙◌}
use Prim.Native.Nat.{ℕ, zero, suc, ◌-◌, ◌/◌, ◌%◌, ◌<◌, ◌≤◌, min}
use native.Mathlib.Omega.{arith}
use mathlib.Core.Bool.{Bool, true, false, cond, ◌&&◌, ◌||◌}
use mathlib.Core.List.{List, [], ◌∷◌, map}
use lib.Dec.{eqb, ltb}
use lib.ListN.{length, get_or, take, drop, length-take}
use lib.Seq.{take_all, take-nil, get_or-take}
use borrow.Author.Tests.{le-ltb, ltb-true, ltb-false}
use Rattle.base.specs.Lists.{any}
use Rattle.base.specs.Columns.{named}
use Rattle.discovery_answer.specs.declared.Features.{Features}
use Rattle.discovery_answer.specs.Format.{
  Descriptor,
  flags_in,
  locking_code,
  ranges_code,
  feature_version,
  feature_length,
}
use Rattle.discovery_answer.specs.Read.{
  Descriptors,
  is_feature,
  is_there,
  features_of,
  descriptors_in,
  first_flags,
  end_in,
  features_in,
  is_past,
  read_answer,
  shown_by,
  shown_in,
}
use Rattle.discovery_answer.specs.Answers.{looked_at, SixOf}
use Rattle.discovery_answer.proofs.Walking.{same-arms}

-- bytes that agree in the length field state the same end
module _ (s t : List ℕ) (n : ℕ) (h : 4 ≤ n) (e : take n s ≡ take n t) where
  same_byte : (i : ℕ) → i < 4 → get_or s i 0 ≡ get_or t i 0
  same_byte i k = sym (get_or-take n s i 0 (omega arith)) ∙ ap (λ (l : List ℕ). get_or l i 0) e ∙ get_or-take n t i 0 (omega arith)

  end-alike : end_in s ≡ end_in t
  end-alike = omega (arith, same_byte 0 (omega arith), same_byte 1 (omega arith), same_byte 2 (omega arith), same_byte 3 (omega arith))

-- ---- bytes that agree up to the stated end

-- the answer, where the stated end does not lie past the bytes
answer-within : (s : List ℕ) → end_in s ≤ length s → read_answer s ≡ cond (ltb (end_in s) 48) 12 (cond (is_past (features_in s)) 12 0)
unfolding read_answer
answer-within s h = rw (le-ltb (length s) (end_in s) h) (go (ltb (end_in s) 48) refl (cond (is_past (features_in s)) 12 0))
  where
    go : (b : Bool) → ltb (end_in s) 48 ≡ b → (n : ℕ) → cond (ltb (length s) 48) 12 (cond b 12 n) ≡ cond b 12 n
    go true q n = same-arms (ltb (length s) 48) 12
    go false q n = rw (le-ltb (length s) 48 (omega (arith, h, ltb-false (end_in s) 48 q)))

module _ (s t : List ℕ) (e : take (end_in s) s ≡ take (end_in s) t) where
  same_end : end_in s ≡ end_in t
  same_end = end-alike s t (end_in s) (omega arith) e

  same_length : min (end_in s) (length s) ≡ min (end_in s) (length t)
  same_length = sym (length-take (end_in s) s) ∙ ap length e ∙ length-take (end_in s) t

  -- the end lies past both: they are the same bytes
  all_same : length s < end_in s → s ≡ t
  all_same h = sym (take_all (end_in s) s (omega arith)) ∙ e ∙ take_all (end_in s) t (omega (arith, h, same_length))

  same-features : features_in s ≡ features_in t
  same-features = ap (λ (l : List ℕ). descriptors_in (drop 48 l)) (e ∙ ap (λ (n : ℕ). take n t) same_end)

  same-within : end_in s ≤ length s → read_answer s ≡ read_answer t
  same-within h =
      answer-within s h
      ∙ ap₂ (λ (n : ℕ) (ds : Descriptors). cond (ltb n 48) 12 (cond (is_past ds) 12 0)) same_end same-features
      ∙ sym (answer-within t (omega (arith, h, same_length, same_end)))

  pub same_answer : read_answer s ≡ read_answer t
  same_answer = go (ltb (length s) (end_in s)) refl
    where
      go : (b : Bool) → ltb (length s) (end_in s) ≡ b → read_answer s ≡ read_answer t
      go true q = ap read_answer (all_same (ltb-true (length s) (end_in s) q))
      go false q = same-within (ltb-false (length s) (end_in s) q)

  pub same-shown : shown_in s ≡ shown_in t
  unfolding shown_in
  same-shown = ap₂ shown_by same_answer same-features

-- ---- what is passed over

pub drop-take : (n k : ℕ) (l : List ℕ) → drop n (take k l) ≡ take (k - n) (drop n l)
drop-take zero k l = let e : k ≡ k - 0 = omega arith in ap (λ (m : ℕ). take m l) e
drop-take (suc n) zero l = let e : 0 ≡ 0 - suc n = omega arith in ap (λ (m : ℕ). take m (drop (suc n) l)) e
drop-take (suc n) (suc k) [] = sym (take-nil (suc k - suc n))
drop-take (suc n) (suc k) (x ∷ l) = let e : k - n ≡ suc k - suc n = omega arith in drop-take n k l ∙ ap (λ (m : ℕ). take m (drop n l)) e

abbrev pub answer_by : ℕ → ℕ → Descriptors → ℕ
answer_by n end ds = cond (ltb n 48) 12 (cond (ltb n end) 12 (cond (ltb end 48) 12 (cond (is_past ds) 12 0)))

pub answer-by : (s : List ℕ) → read_answer s ≡ answer_by (length s) (end_in s) (features_in s)
unfolding read_answer
answer-by s = refl

module _ (s t : List ℕ) (l : length s ≡ length t) (e : take 4 s ≡ take 4 t) (d : drop 48 s ≡ drop 48 t) where
  field_end : end_in s ≡ end_in t
  field_end = end-alike s t 4 (omega arith) e

  after-header : features_in s ≡ features_in t
  after-header =
      ap descriptors_in (drop-take 48 (end_in s) s)
      ∙ ap₂ (λ (n : ℕ) (b : List ℕ). descriptors_in (take (n - 48) b)) field_end d
      ∙ ap descriptors_in (sym (drop-take 48 (end_in t) t))

  pub header-answer : read_answer s ≡ read_answer t
  header-answer =
      answer-by s
      ∙ ap₂ (λ (n : ℕ) (end : ℕ). answer_by n end (features_in s)) l field_end
      ∙ ap (answer_by (length t) (end_in t)) after-header
      ∙ sym (answer-by t)

  pub header-shown : shown_in s ≡ shown_in t
  unfolding shown_in
  header-shown = ap₂ shown_by header-answer after-header

-- what is looked at, tested as the descriptors are
abbrev is_looked : ℕ → ℕ × ℕ × ℕ × ℕ → Bool
is_looked code v = eqb v.0 code && (eqb v.1 feature_version && eqb v.2 feature_length)

first_looked : List (ℕ × ℕ × ℕ × ℕ) → ℕ
first_looked [] = 0
first_looked (v ∷ vs) = cond (is_looked locking_code v) v.3 (first_looked vs)

there-looked : (code : ℕ) (fs : List Descriptor) → is_there code fs ≡ any (is_looked code) (map looked_at fs)
unfolding any
there-looked code [] = refl
there-looked code (f ∷ fs) = ap (λ (b : Bool). is_feature code f || b) (there-looked code fs)

flags-looked : (fs : List Descriptor) → first_flags fs ≡ first_looked (map looked_at fs)
unfolding first_flags first_looked
flags-looked [] = refl
flags-looked (f ∷ fs) = ap (λ (n : ℕ). cond (is_feature locking_code f) (flags_in (get_or f.content 0 0)) n) (flags-looked fs)

abbrev looked_features : List (ℕ × ℕ × ℕ × ℕ) → Features
looked_features vs = record { locking = any (is_looked locking_code) vs; ranges = any (is_looked ranges_code) vs; flags = first_looked vs }

looked-features : (fs : List Descriptor) → features_of fs ≡ looked_features (map looked_at fs)
looked-features fs = rw (there-looked locking_code fs, there-looked ranges_code fs, flags-looked fs)

pub reserved-passed-over : (fs gs : List Descriptor) → map looked_at fs ≡ map looked_at gs → features_of fs ≡ features_of gs
reserved-passed-over fs gs e = looked-features fs ∙ ap looked_features e ∙ sym (looked-features gs)

-- a bit of what is left over by 64
same_bit : (bit byte : ℕ) → byte % 64 / bit % 2 ≡ byte / bit % 2 → named bit (flags_in byte) ≡ named bit byte
same_bit bit byte e = ap (λ (n : ℕ). eqb n 1) e

pub six-flags : (byte : ℕ) → SixOf byte (flags_in byte)
six-flags byte = record {
  locking-supported = same_bit 1 byte (omega arith);
  locking-enabled = same_bit 2 byte (omega arith);
  locked-as-it-is = same_bit 4 byte (omega arith);
  media-encryption = same_bit 8 byte (omega arith);
  mbr-enabled = same_bit 16 byte (omega arith);
  mbr-done = same_bit 32 byte (omega arith);
  no_other = omega arith;
}
