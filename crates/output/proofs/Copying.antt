-- The loop that copies: the first i items stand in the output, from the place on.
use mathlib.Core.Path.{◌≡◌, refl, ap, ◌∙◌}
use Prim.Native.Nat.{ℕ, ◌+◌, ◌-◌, ◌≤◌, ◌<◌}
use native.Mathlib.Numerals.{add-one}
use native.Mathlib.Omega.{arith}
use mathlib.Core.List.{List}
use lib.ListN.{length, get_or, set}
use lib.Seq.{paste, paste-suc, take-length}
use borrow.Author.Tests.{le-leb}
use Rattle.base.specs.Spliced.{spliced}
use Rattle.base.proofs.Cases.{cond-true}
use Rattle.output.specs.Filling.{spliced_within}

module _ {A : Type 0} (before : List A) (at : ℕ) (items out : List A) (i : ℕ) (s : out ≡ paste before at items i) where
  pub copy_again : (item : A) → item ≡ get_or items i item → at + i < length before → i < length items → set out (at + i) item ≡ paste before at items (i + 1)
  copy_again item e room h = rw (s, add-one) (ap (set (paste before at items i) (at + i)) e ∙ paste-suc before at items i item room h)

  pub copy_done : i ≡ length items → at + length items ≤ length before → out ≡ spliced_within before at items
  copy_done e room =
      let whole : out ≡ spliced before at items = rw (s, e, take-length) in
      whole ∙ cond-true _ _ before _ (le-leb (at + length items) (length before) room) refl
