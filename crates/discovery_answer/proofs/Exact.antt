-- What is read: bytes that are an answer, and no others.
use mathlib.Core.Path.{◌≡◌, refl, sym, ap, ap₂, ◌∙◌}
use mathlib.Core.Logic.{◌≢◌}
use Prim.Native.Nat.{ℕ, ◌+◌, ◌-◌, ◌≤◌}
use native.Mathlib.Omega.{arith}
use mathlib.Core.Bool.{Bool, true, false, cond, false≢true}
use mathlib.Core.List.{List, [], ◌++◌}
use lib.Dec.{ltb, eqb}
use lib.ListN.{length, take, drop, length-append, length-take, length-drop, take-append-drop}
use lib.Seq.{take-append_seam, drop_at, drop-drop, length-take-le}
use borrow.Author.Tests.{le-ltb, ltb-false, ne_eqb}
use Rattle.base.specs.Lists.{Bytes}
use Rattle.base.proofs.Bytes.{bytes_drop, bytes_take}
use Rattle.base.proofs.Refusals.{applies_at, none-applies}
use Rattle.discovery_answer.specs.Format.{Descriptor, feature_bytes}
use Rattle.discovery_answer.specs.Read.{Descriptors, whole, past_end, descriptors_in, is_past, features_of, listed, end_in, features_in, read_refusals, read_answer, shown_by, shown_in}
use Rattle.discovery_answer.specs.Answers.{IsAnswer}
use Rattle.discovery_answer.proofs.Descriptors.{all_back, only-form}
use Rattle.discovery_answer.proofs.Alike.{drop-take, answer_by, answer-by}

-- ---- an answer is read

module _ (s : List ℕ) (fs : List Descriptor) (a : IsAnswer s fs) where
  room : length s ≡ 48 + length (feature_bytes fs) + length a.rest
  room =
      ap length a.bytes
      ∙ omega (arith, length-append a.header (feature_bytes fs ++ a.rest), length-append (feature_bytes fs) a.rest, a.header-whole)

  -- the bytes between the header and the stated end
  between : drop 48 (take (end_in s) s) ≡ feature_bytes fs
  between =
      let n : end_in s - 48 ≡ length (feature_bytes fs) = omega (arith, a.end-stated) in
      let d : drop 48 s ≡ feature_bytes fs ++ a.rest = ap (drop 48) a.bytes ∙ drop_at a.header (feature_bytes fs ++ a.rest) 48 a.header-whole in
      drop-take 48 (end_in s) s ∙ ap₂ take n d ∙ take-append_seam (feature_bytes fs) a.rest

  all_there : features_in s ≡ whole fs
  all_there = ap descriptors_in between ∙ all_back fs (length (feature_bytes fs)) a.fit (omega arith)

  pub answer-done : read_answer s ≡ 0
  answer-done =
      answer-by s ∙ ap (answer_by (length s) (end_in s)) all_there
      ∙ rw (
        le-ltb (length s) 48 (omega (arith, room)),
        le-ltb (length s) (end_in s) (omega (arith, room, a.end-stated)),
        le-ltb (end_in s) 48 (omega (arith, a.end-stated)),
      )

  pub answer-shown : shown_in s ≡ features_of fs
  unfolding shown_in
  answer-shown = ap₂ shown_by answer-done all_there

-- ---- what is read is an answer

module _ (s : List ℕ) (e : read_answer s ≡ 0) where
  none-applied : (i : ℕ) → applies_at (read_refusals s) i ≡ false
  unfolding read_answer
  none-applied i = none-applies 13 (read_refusals s) refl e i

  header-there : 48 ≤ length s
  header-there = ltb-false (length s) 48 (none-applied 0)

  end-there : end_in s ≤ length s
  end-there = ltb-false (length s) (end_in s) (none-applied 1)

  end_after : 48 ≤ end_in s
  end_after = ltb-false (end_in s) 48 (none-applied 2)

  module _ (fs : List Descriptor) (b : Bytes s) (q : features_in s ≡ whole fs) where
    put-together : take 48 s ++ (drop 48 (take (end_in s) s) ++ drop (end_in s) s) ≡ s
    put-together =
        let n : 48 + (end_in s - 48) ≡ end_in s = omega (arith, end_after) in
        let d : drop (end_in s) s ≡ drop (end_in s - 48) (drop 48 s) =
        ap (λ (k : ℕ). drop k s) (sym n) ∙ sym (drop-drop (end_in s - 48) 48 s) in
        rw (drop-take 48 (end_in s) s, d, take-append-drop (end_in s - 48) (drop 48 s)) (take-append-drop 48 s)

    is-answer : IsAnswer s fs
    is-answer =
        let form = only-form (length (drop 48 (take (end_in s) s))) (drop 48 (take (end_in s) s)) fs (bytes_drop (take (end_in s) s) 48 (bytes_take (end_in s) s b)) q in
        record {
          header = take 48 s;
          rest = drop (end_in s) s;
          header-whole = length-take-le 48 s header-there;
          fit = form.0;
          bytes = rw form.1 (sym put-together);
          end-stated = omega (arith, end-there, end_after, ap length form.1, length-drop 48 (take (end_in s) s), length-take (end_in s) s);
        }

pub only-answers : (s : List ℕ) → Bytes s → read_answer s ≡ 0 → (fs : List Descriptor) × IsAnswer s fs
only-answers s b e = go (features_in s) refl (none-applied s e 3)
  where
    go : (ds : Descriptors) → features_in s ≡ ds → is_past (features_in s) ≡ false → (fs : List Descriptor) × IsAnswer s fs
    go (whole fs) q p = (fs, is-answer s e fs b q)
    go past_end q p = absurd (false≢true (sym p ∙ ap is_past q))

-- ---- there is one refusal

abbrev first_of_four : Bool → Bool → Bool → Bool → ℕ
first_of_four a b c d = cond a 12 (cond b 12 (cond c 12 (cond d 12 0)))

twelve : (a b c d : Bool) → first_of_four a b c d ≢ 0 → first_of_four a b c d ≡ 12
twelve true b c d z = refl
twelve false true c d z = refl
twelve false false true d z = refl
twelve false false false true z = refl
twelve false false false false z = absurd (z refl)

pub else-short : (s : List ℕ) → read_answer s ≢ 0 → read_answer s ≡ 12
unfolding read_answer
else-short s z = twelve (ltb (length s) 48) (ltb (length s) (end_in s)) (ltb (end_in s) 48) (is_past (features_in s)) z

-- with which nothing is shown
pub nothing-shown : (s : List ℕ) → read_answer s ≢ 0 → shown_in s ≡ features_of []
unfolding shown_in
nothing-shown s z = ap (λ (b : Bool). features_of (cond b (listed (features_in s)) [])) (ne_eqb (read_answer s) 0 z)
