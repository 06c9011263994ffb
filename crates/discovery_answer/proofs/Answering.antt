-- The writer and the reader together: theorem `discovery-answers`.
use mathlib.Core.Path.{◌≡◌, refl, sym, ap, ◌∙◌}
use Prim.Native.Nat.{ℕ, zero, suc, ◌+◌, ◌<◌}
use native.Mathlib.Omega.{arith}
use mathlib.Core.Bool.{Bool, true, false, ◌||◌, false≢true}
use mathlib.Core.List.{List, [], ◌∷◌, ◌++◌}
use mathlib.Core.Logic.{◌↔◌}
use lib.ListN.{length, get_or, take, drop}
use Rattle.base.specs.Lists.{any}
use Rattle.base.specs.Columns.{named}
use Rattle.base.proofs.Cases.{cond_either, or_yes, or-second}
use Rattle.std.specs.Prelude.{Result, Ok, Err}
use Rattle.answer.specs.declared.Refusal.{Refusal}
use Rattle.output.specs.Filling.{told_in, filled_by}
use Rattle.output.proofs.Filled.{filled-bytes}
use Rattle.answer.proofs.Injective.{refusal_number}
use Rattle.band.specs.declared.Row.{Row}
use Rattle.band.specs.declared.Side.{Side}
use Rattle.band.specs.declared.Side.TheVariants.{Read, Write}
use Rattle.band.specs.Rows.{fresh_row, closed_on}
use Rattle.drive.specs.declared.Drive.{Drive}
use Rattle.drive.specs.State.{row_at}
use Rattle.discovery_answer.specs.Format.{
  feature_bytes,
  answer_bytes,
  locking_supported,
  locking_enabled,
  locked,
  media_encryption,
  mbr_enabled,
  mbr_done,
  flags_in,
  locking_feature,
  ranges_feature,
}
use Rattle.discovery_answer.specs.Write.{closed, some_closed, flags_of, discovery_of}
use Rattle.discovery_answer.specs.Read.{
  descriptors_up_to,
  first_flags,
  end_in,
  read_answer,
  shown_in,
}
use Rattle.discovery_answer.specs.Answers.{SomeSideLocked, FlagsAre, both_with, ShowsDrive, ReadsBack, numbers_with, DiscoveryAnswers}
use Rattle.discovery_answer.proofs.Writing.{discovery-length, filled_so}
use Rattle.discovery_answer.proofs.Alike.{same_answer, same-shown, header-answer, header-shown, reserved-passed-over, six-flags}
use Rattle.discovery_answer.proofs.Descriptors.{all_back, only-form}
use Rattle.discovery_answer.proofs.Exact.{answer-done, answer-shown, only-answers, else-short, nothing-shown}

-- ---- the flags

-- some element among the first n passes the test
module _ {A : Type 0} (p : A → Bool) (d : A) where
  record Passing (l : List A) (n : ℕ) : Type 0 where
    place : ℕ
    there : place < n
    passes : p (get_or l place d) ≡ true

  some-passing : (l : List A) (n : ℕ) → any p (take n l) ≡ true → Passing l n
  unfolding any
  some-passing l zero e = absurd (false≢true e)
  some-passing [] (suc n) e = absurd (false≢true e)
  some-passing (x ∷ l) (suc n) e = go (p x) refl (some-passing l n) e
    where
      go : (b : Bool) → p x ≡ b → (any p (take n l) ≡ true → Passing l n) → (b || any p (take n l)) ≡ true → Passing (x ∷ l) (suc n)
      go true q f k = record { place = 0; there = omega arith; passes = q }
      go false q f k = let r = f k in record { place = suc r.place; there = omega (arith, r.there); passes = r.passes }

  -- what stands past the end does not pass it
  passing-some : p d ≡ false → (l : List A) (n i : ℕ) → i < n → p (get_or l i d) ≡ true → any p (take n l) ≡ true
  unfolding any
  passing-some z l zero i h e = absurd (omega arith)
  passing-some z [] (suc n) i h e = absurd (false≢true (sym z ∙ e))
  passing-some z (x ∷ l) (suc n) zero h e = sym (or_yes (p x) (any p (take n l)) e)
  passing-some z (x ∷ l) (suc n) (suc i) h e = or-second (p x) (any p (take n l)) (passing-some z l n i (omega arith) e)

closed-side : (row : Row) → closed row ≡ true → (side : Side) × (closed_on side row ≡ true)
closed-side row e = go (closed_on Read row) refl e
  where
    go : (b : Bool) → closed_on Read row ≡ b → (b || closed_on Write row) ≡ true → (side : Side) × (closed_on side row ≡ true)
    go true q k = (Read, q)
    go false q k = (Write, k)

side-closed : (side : Side) (row : Row) → closed_on side row ≡ true → closed row ≡ true
side-closed Read row e = sym (or_yes (closed_on Read row) (closed_on Write row) e)
side-closed Write row e = or-second (closed_on Read row) (closed_on Write row) e

fresh-open : closed fresh_row ≡ false
unfolding fresh_row
fresh-open = refl

module _ (d : Drive) where
  locked-so : (some_closed d ≡ true) ↔ SomeSideLocked d
  unfolding some_closed
  locked-so = (
    λ e.
        let r = some-passing closed fresh_row d.rows d.band_count e in
        let side = closed-side (row_at d r.place) r.passes in
        record { band = r.place; side = side.0; there = omega (arith, r.there); closed = side.1 },
    λ k.
        passing-some closed fresh_row fresh-open d.rows d.band_count k.band (omega (arith, k.there))
        (side-closed k.side (row_at d k.band) k.closed),
  )

  -- the flags have two values
  by-locked : (P : ℕ → Type 0) → (some_closed d ≡ true → P 13) → (some_closed d ≡ false → P 9) → P (flags_of d)
  unfolding flags_of
  by-locked P p q = cond_either (λ (n : ℕ). P (9 + n)) (some_closed d) 4 0 p q

  locked-flag : named locked (flags_of d) ≡ some_closed d
  locked-flag = by-locked (λ (n : ℕ). named locked n ≡ some_closed d) sym sym

  -- a flag that is the same in both
  fixed : (bit : ℕ) (v : Bool) → named bit 13 ≡ v → named bit 9 ≡ v → named bit (flags_of d) ≡ v
  fixed bit v p q = by-locked (λ (n : ℕ). named bit n ≡ v) (λ e. p) (λ e. q)

  flags-are : FlagsAre d (flags_of d)
  flags-are = record {
    locked-exactly = rw locked-flag locked-so;
    locking-supported = fixed locking_supported true refl refl;
    media-encryption = fixed media_encryption true refl refl;
    locking-enabled = fixed locking_enabled false refl refl;
    mbr-enabled = fixed mbr_enabled false refl refl;
    mbr-done = fixed mbr_done false refl refl;
  }

  -- they lie below the two reserved bits
  all-flags : flags_in (flags_of d) ≡ flags_of d
  all-flags = by-locked (λ (n : ℕ). flags_in n ≡ n) (λ e. refl) (λ e. refl)

-- ---- what a drive has written

-- with any flags in their byte
module _ (flags : ℕ) where
  abbrev bytes_with : List ℕ
  bytes_with = answer_bytes (locking_feature flags ∷ ranges_feature ∷ [])

  read_done : read_answer bytes_with ≡ 0
  unfolding read_answer answer_bytes feature_bytes descriptors_up_to
  read_done = refl

  both-there : shown_in bytes_with ≡ both_with (flags_in flags)
  unfolding shown_in read_answer answer_bytes feature_bytes descriptors_up_to first_flags any
  both-there = refl

  all-of-it : (rest : List ℕ) → take (end_in bytes_with) bytes_with ≡ take (end_in bytes_with) (bytes_with ++ rest)
  unfolding answer_bytes feature_bytes
  all-of-it rest = refl

read_back : (d : Drive) (rest : List ℕ) → ShowsDrive d (read_answer (discovery_of d ++ rest)) (shown_in (discovery_of d ++ rest))
unfolding discovery_of
read_back d rest =
    let flags = flags_of d in
    let same = all-of-it flags rest in
    let both : shown_in (bytes_with flags ++ rest) ≡ both_with flags =
    sym (same-shown (bytes_with flags) (bytes_with flags ++ rest) same) ∙ both-there flags ∙ ap both_with (all-flags d) in
    record {
      done = sym (same_answer (bytes_with flags) (bytes_with flags ++ rest) same) ∙ read_done flags;
      both = both;
      flags = rw both (flags-are d);
    }

-- the output that the writer has filled
pub wrote-back : (d : Drive) (flags : ℕ) (bytes out : List ℕ) (w : Result ℕ Refusal) (after : List ℕ) → flags ≡ flags_of d
    → bytes ≡ answer_bytes (locking_feature flags ∷ ranges_feature ∷ []) → told_in w after ≡ filled_by bytes out → ReadsBack d w after
wrote-back d flags bytes out w after p q f z =
    back w (filled_so d flags bytes out w after p q f) z
  where
    back : (r : Result ℕ Refusal) → told_in r after ≡ filled_by (discovery_of d) out → ReadsBack d r after
    back (Ok n) g z = rw (filled-bytes (discovery_of d) out 0 n after g refl).2 (read_back d (drop (length (discovery_of d)) out))
    back (Err e) g z = absurd (omega (arith, refusal_number e, z))

by_number : (d : Drive) → discovery_of d ≡ numbers_with (flags_of d)
unfolding discovery_of answer_bytes feature_bytes
by_number d = refl

pub discovery-answers : DiscoveryAnswers
discovery-answers = record {
  length-is = discovery-length;
  by_number = by_number;
  read_back = read_back;
  one_answer = λ d out out' after after' n n' f f'.
      (filled-bytes (discovery_of d) out 0 n after f refl).1 ∙ sym (filled-bytes (discovery_of d) out' 0 n' after' f' refl).1;
  to_the_end = λ s t e. (same_answer s t e, same-shown s t e);
  header-passed-over = λ s t l e d. (header-answer s t l e d, header-shown s t l e d);
  reserved-passed-over = reserved-passed-over;
  six-flags = six-flags;
  answers-read = λ s fs a. (answer-done s fs a, answer-shown s fs a);
  only-answers = only-answers;
  else-short = else-short;
  nothing-shown = nothing-shown;
  descriptors-back = λ fs a. all_back fs (length (feature_bytes fs)) a (omega arith);
  one_form = λ s fs b e. only-form (length s) s fs b e;
}
