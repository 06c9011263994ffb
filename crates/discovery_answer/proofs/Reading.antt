-- The reader: its refusals, and what the walk over the descriptors shows.
use mathlib.Core.Path.{◌≡◌, refl, sym, ap, ◌∙◌, subst}
use Prim.Native.Nat.{ℕ, ◌-◌, ◌<◌, ◌≤◌}
use mathlib.Core.Bool.{Bool, true, false, cond, ◌||◌}
use mathlib.Core.List.{List, [], ◌∷◌}
use lib.ListN.{length, take, drop}
use borrow.Author.Tests.{lt-ltb, le-ltb}
use Rattle.base.specs.Lists.{any}
use Rattle.std.specs.Prelude.{Result}
use Rattle.answer.specs.declared.Refusal.{Refusal}
use Rattle.discovery_answer.specs.declared.Features.{Features}
use Rattle.discovery_answer.specs.Format.{Descriptor, locking_code}
use Rattle.discovery_answer.specs.Read.{
  Descriptors,
  whole,
  past_end,
  descriptors_in,
  is_feature,
  is_there,
  first_flags,
  features_of,
  end_in,
  features_in,
  is_past,
  read_answer,
  shown_in,
  Shows,
}
use Rattle.discovery_answer.specs.Parts.{shown_after, walked}
use Rattle.discovery_answer.proofs.Alike.{drop-take}

one_of : (b l : Bool) (n m : ℕ) → cond l n 0 ≡ n → cond (b || l) (cond b m n) 0 ≡ cond b m n
one_of true l n m h = refl
one_of false l n m h = h

-- the flags are 0 where the feature is not there
none-there : (fs : List Descriptor) → cond (is_there locking_code fs) (first_flags fs) 0 ≡ first_flags fs
unfolding any first_flags
none-there [] = refl
none-there (f ∷ fs) = one_of (is_feature locking_code f) (is_there locking_code fs) (first_flags fs) _ (none-there fs)

-- what is shown from the start on
pub shown-from-none : (fs : List Descriptor) → shown_after (features_of []) fs ≡ features_of fs
unfolding any first_flags
shown-from-none fs = rw (none-there fs)

module _ (s : List ℕ) where
  pub short_header : length s < 48 → 12 ≡ read_answer s
  unfolding read_answer
  short_header h = rw (lt-ltb (length s) 48 h)

  module _ (h : 48 ≤ length s) (end : ℕ) (d : end ≡ end_in s) where
    pub short_end : length s < end → 12 ≡ read_answer s
    unfolding read_answer
    short_end k = rw (le-ltb (length s) 48 h, ← d, lt-ltb (length s) end k)

    module _ (k : end ≤ length s) where
      pub inside_header : end < 48 → 12 ≡ read_answer s
      unfolding read_answer
      inside_header l = rw (le-ltb (length s) 48 h, ← d, le-ltb (length s) end k, lt-ltb end 48 l)

      -- the answer is left to the descriptors
      by-descriptors : 48 ≤ end → (past : Bool) → is_past (features_in s) ≡ past → read_answer s ≡ cond past 12 0
      unfolding read_answer
      by-descriptors l past q = rw (q, le-ltb (length s) 48 h, ← d, le-ltb (length s) end k, le-ltb end 48 l)

      shown_by : 48 ≤ end → (ds : Descriptors) → features_in s ≡ ds → Shows s (walked (features_of []) ds)
      unfolding shown_in
      shown_by l (whole fs) q =
          let a : read_answer s ≡ 0 = by-descriptors l false (ap is_past q) in
          (a, shown-from-none fs ∙ rw (a, q))
      shown_by l past_end q = sym (by-descriptors l true (ap is_past q))

      pub whole_shown : 48 ≤ end → (r : Result Features Refusal) → r ≡ walked (features_of []) (descriptors_in (take (end - 48) (drop 48 s))) → Shows s r
      whole_shown l r e =
          subst (Shows s) (ap (walked (features_of [])) (ap descriptors_in (drop-take 48 (end_in s) s ∙ ap (λ (n : ℕ). take (n - 48) (drop 48 s)) (sym d))) ∙ sym e)
          (shown_by l (features_in s) refl)

pub ruleset reading = (short_header, short_end, inside_header, whole_shown)
