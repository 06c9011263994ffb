-- Laws of a Set's columns: a range test, where the mask names the column and where it does not, and tests that hold together.
use mathlib.Core.Path.{◌≡◌, refl, sym, ap, ◌∙◌}
use Prim.Native.Nat.div
use Prim.Native.Nat.{ℕ, zero, suc, ◌%◌, ◌≤◌}
use mathlib.Core.Bool.{Bool, true, false, cond, ◌&&◌, false≢true}
use mathlib.Core.List.{List, [], ◌∷◌}
use lib.Dec.{eqb}
use lib.ListN.{get_or}
use borrow.Author.Tests.{leb-true}
use Rattle.base.specs.Columns.{named, within}
use Rattle.base.proofs.Cases.{and_left, and_right}

-- a named value of a range is at most its greatest
pub named-fits : (most v : ℕ) (t n : Bool) → within most n v ≡ true → t ≡ n → t ≡ true → v ≤ most
named-fits most v t true h p e = leb-true v most h
named-fits most v t false h p e = absurd (false≢true (sym p ∙ e))

-- a column after a Set that fits: in its range, where it was before
pub stored-within : (most : ℕ) (n : Bool) (new old : ℕ) → within most n new ≡ true → old ≤ most → cond n new old ≤ most
stored-within most true new old e h = leb-true new most e
stored-within most false new old e h = h

-- no column has the bit 0
pub named_none : (mask bit : ℕ) → bit ≡ 0 → false ≡ named bit mask
named_none mask bit e = ap (λ (n : ℕ). eqb (n % 2) 1) (sym (div.zero mask)) ∙ ap (λ (b : ℕ). named b mask) (sym e)

-- a chain of tests, bracketed to the right: where it holds, each test does
abbrev pub chained : Bool → List Bool → Bool
chained b [] = b
chained b (c ∷ l) = b && chained c l

pub each_holds : (b : Bool) (l : List Bool) → chained b l ≡ true → (i : ℕ) → get_or (b ∷ l) i true ≡ true
each_holds b [] e zero = e
each_holds b [] e (suc i) = refl
each_holds b (c ∷ l) e zero = and_left b (chained c l) e
each_holds b (c ∷ l) e (suc i) = each_holds c l (and_right b (chained c l) e) i
