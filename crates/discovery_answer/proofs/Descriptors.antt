-- Descriptors and their bytes: each gives the other back.
use mathlib.Core.Path.{◌≡◌, refl, sym, ap, ap₂, ◌∙◌}
use Prim.Native.Nat.{ℕ, zero, suc, ◌+◌, ◌*◌, ◌/◌, ◌%◌, ◌≤◌}
use native.Mathlib.Omega.{arith}
use mathlib.Core.Bool.{Bool, true, false, cond}
use mathlib.Core.List.{List, [], ◌∷◌, ◌++◌}
use lib.Dec.{ltb}
use lib.ListN.{length, get_or, drop, length-append, length-take, take-append-drop}
use lib.Seq.{length-take-le, take-append_seam, drop-append_seam, drop-drop}
use borrow.Author.Tests.{ltb-false}
use Rattle.base.specs.Lists.{Bytes}
use Rattle.base.proofs.Bytes.{bytes_drop}
use Rattle.discovery_answer.specs.Format.{Descriptor, descriptor_bytes, feature_bytes}
use Rattle.discovery_answer.specs.Read.{descriptor_in, width_in, Descriptors, whole, past_end, before, descriptors_up_to}
use Rattle.discovery_answer.specs.Answers.{Fits, AllFit}
use Rattle.discovery_answer.proofs.Walking.{some_bytes, first-descriptor, no-descriptor}

-- from descriptors to bytes and back

module _ (f : Descriptor) (rest : List ℕ) where
  one-back : Fits f → descriptor_in (descriptor_bytes f ++ rest) ≡ f
  one-back h =
      let code : f.code / 256 * 256 + f.code % 256 ≡ f.code = omega arith in
      let version : (f.version * 16 + f.reserved) / 16 ≡ f.version = omega (arith, h.reserved) in
      let reserved : (f.version * 16 + f.reserved) % 16 ≡ f.reserved = omega (arith, h.reserved) in
      rw (code, version, reserved, take-append_seam f.content rest)

  others-left : drop (width_in (descriptor_bytes f ++ rest)) (descriptor_bytes f ++ rest) ≡ rest
  others-left = sym (drop-drop (length f.content) 4 (descriptor_bytes f ++ rest)) ∙ drop-append_seam f.content rest

pub all_back : (fs : List Descriptor) (most : ℕ) → AllFit fs → length (feature_bytes fs) ≤ most → descriptors_up_to most (feature_bytes fs) ≡ whole fs
unfolding feature_bytes
all_back [] most a h = no-descriptor [] most refl
all_back (f ∷ fs) zero a h = absurd (omega arith)
all_back (f ∷ fs) (suc most) a h =
    let l = length-append f.content (feature_bytes fs) in
    first-descriptor (descriptor_bytes f ++ feature_bytes fs) (omega arith) most (omega (arith, l))
    ∙ ap₂ before (one-back f (feature_bytes fs) a.0)
    (ap (descriptors_up_to most) (others-left f (feature_bytes fs)) ∙ all_back fs most a.1 (omega (arith, l, h)))

-- from bytes to descriptors and back

same_bytes : (s : List ℕ) → Bytes s → width_in s ≤ length s → descriptor_bytes (descriptor_in s) ++ drop (width_in s) s ≡ s
same_bytes [] b h = absurd (omega arith)
same_bytes (x ∷ []) b h = absurd (omega arith)
same_bytes (x ∷ y ∷ []) b h = absurd (omega arith)
same_bytes (x ∷ y ∷ z ∷ []) b h = absurd (omega arith)
same_bytes (x ∷ y ∷ z ∷ n ∷ s) b h =
    let high : (x * 256 + y) / 256 ≡ x = omega (arith, b 1) in
    let low : (x * 256 + y) % 256 ≡ y = omega (arith, b 1) in
    let halves : z / 16 * 16 + z % 16 ≡ z = omega arith in
    rw (high, low, halves, length-take-le n s (omega arith), ← drop-drop n 4 (x ∷ y ∷ z ∷ n ∷ s), take-append-drop n s)

read_fits : (s : List ℕ) → Bytes s → Fits (descriptor_in s)
read_fits s b = record {
  code = omega (arith, b 0, b 1);
  version = omega (arith, b 2);
  reserved = omega arith;
  content = omega (arith, b 3, length-take (get_or s 3 0) (drop 4 s));
}

not-whole : {A : Type 0} (fs : List Descriptor) → past_end ≡ whole fs → A
not-whole fs e = let z : ◌≡◌ {A = ℕ} 0 1 = cc in absurd (omega (arith, z))

-- descriptors that fit, with these bytes
abbrev Of : List ℕ → List Descriptor → Type 0
Of s fs = AllFit fs × (feature_bytes fs ≡ s)

-- the first descriptor, where the bytes behind it are those of the others
module _ (s : List ℕ) (b : Bytes s) (fs : List Descriptor) where
  first-form : (ds : Descriptors) → ((gs : List Descriptor) → ds ≡ whole gs → Of (drop (width_in s) s) gs) → width_in s ≤ length s
      → before (descriptor_in s) ds ≡ whole fs → Of s fs
  unfolding feature_bytes
  first-form (whole gs) again room e =
      let f : fs ≡ descriptor_in s ∷ gs = cc in
      let g = again gs refl in
      rw f ((read_fits s b, g.0), rw g.1 (same_bytes s b room))
  first-form past_end again room e = not-whole fs e

  if-room : (past : Bool) (ds : Descriptors) → ltb (length s) (width_in s) ≡ past
      → ((gs : List Descriptor) → ds ≡ whole gs → Of (drop (width_in s) s) gs) → cond past past_end (before (descriptor_in s) ds) ≡ whole fs
      → Of s fs
  if-room true ds q again e = not-whole fs e
  if-room false ds q again e = first-form ds again (ltb-false (length s) (width_in s) q) e

none_of : (fs : List Descriptor) → fs ≡ [] → Of [] fs
unfolding feature_bytes
none_of fs n = rw n (tt, refl)

pub only-form : (most : ℕ) (s : List ℕ) (fs : List Descriptor) → Bytes s → descriptors_up_to most s ≡ whole fs → Of s fs
unfolding descriptors_up_to
only-form zero [] fs b e = none_of fs cc
only-form zero (x ∷ s) fs b e = not-whole fs (rw (some_bytes (x ∷ s) (omega arith)) at e)
only-form (suc most) [] fs b e = none_of fs cc
only-form (suc most) (x ∷ s) fs b e =
    let others = drop (width_in (x ∷ s)) (x ∷ s) in
    if-room (x ∷ s) b fs _ (descriptors_up_to most others) refl
    (λ gs. only-form most others gs (bytes_drop (x ∷ s) (width_in (x ∷ s)) b)) (rw (some_bytes (x ∷ s) (omega arith)) at e)
