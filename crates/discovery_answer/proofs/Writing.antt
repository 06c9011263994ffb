-- The writer's bytes.
use mathlib.Core.Path.{◌≡◌, refl, sym, ap, ◌∙◌}
use Prim.Native.Nat.{ℕ, min}
use native.Mathlib.Omega.{arith}
use mathlib.Core.Bool.{Bool, true, false, ◌||◌}
use lib.Dec.{ltb}
use lib.Seq.{take_all}
use borrow.Author.Tests.{ltb-true, ltb-false}
use mathlib.Core.List.{List, [], ◌∷◌}
use lib.ListN.{length, take}
use Rattle.std.specs.List.{list_any}
use Rattle.base.specs.Lists.{any}
use Rattle.band.specs.declared.Row.{Row}
use Rattle.drive.specs.declared.Drive.{Drive}
use Rattle.std.specs.Prelude.{Result}
use Rattle.answer.specs.declared.Refusal.{Refusal}
use Rattle.output.specs.Filling.{told_in, filled_by}
use Rattle.discovery_answer.specs.Format.{feature_bytes, answer_bytes, locking_feature, ranges_feature}
use Rattle.discovery_answer.specs.Write.{closed, flags_of, discovery_of, discovery_bytes}

-- some of the first rows has a side enabled and locked
list-any : {A : Type 0} (p : A → Bool) (l : List A) → list_any p l ≡ any p l
unfolding any
list-any p [] = refl
list-any p (x ∷ l) = ap (λ (b : Bool). p x || b) (list-any p l)

pub first-closed : (rows : List Row) (count n : ℕ) → n ≡ min count 16 → length rows ≡ 16 → list_any closed (take n rows) ≡ any closed (take count rows)
first-closed rows count n e h =
    list-any closed (take n rows)
    ∙ ap (any closed) (ap (λ (i : ℕ). take i rows) e ∙ take-min count 16 rows h)
  where
    take-min : (n m : ℕ) (l : List Row) → length l ≡ m → take (min n m) l ≡ take n l
    take-min n m l e = go (ltb m n) refl
      where
        go : (b : Bool) → ltb m n ≡ b → take (min n m) l ≡ take n l
        go true q =
            let k : min n m ≡ m = omega (arith, ltb-true m n q) in
            ap (λ (i : ℕ). take i l) k ∙ take_all m l (omega (arith, e)) ∙ sym (take_all n l (omega (arith, e, ltb-true m n q)))
        go false q =
            let k : min n m ≡ n = omega (arith, ltb-false m n q) in
            ap (λ (i : ℕ). take i l) k

pub discovery-length : (d : Drive) → length (discovery_of d) ≡ discovery_bytes
unfolding discovery_of answer_bytes feature_bytes
discovery-length d = refl

pub filled_so : (d : Drive) (flags : ℕ) (bytes out : List ℕ) (r : Result ℕ Refusal) (after : List ℕ) → flags ≡ flags_of d
    → bytes ≡ answer_bytes (locking_feature flags ∷ ranges_feature ∷ []) → told_in r after ≡ filled_by bytes out → told_in r after ≡ filled_by (discovery_of d) out
unfolding discovery_of
filled_so d flags bytes out r after f b h =
    let e : bytes ≡ answer_bytes (locking_feature (flags_of d) ∷ ranges_feature ∷ []) =
    b ∙ ap (λ (n : ℕ). answer_bytes (locking_feature n ∷ ranges_feature ∷ [])) f in
    rw e at h
