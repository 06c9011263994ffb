-- Some block of a range has a property: the test is true exactly when there is such a block, and a range may be taken in parts.
use mathlib.Core.Path.{◌≡◌, refl, sym, ap, ap₂, ◌∙◌}
use Prim.Native.Nat.{ℕ, zero, suc, ◌+◌, ◌≤◌, ◌<◌}
use native.Mathlib.Omega.{arith}
use mathlib.Core.Bool.{Bool, true, false, ◌&&◌, ◌||◌, false≢true}
use mathlib.Core.Logic.{◌↔◌}
use borrow.Author.Tests.{eqb-true, eqb-false}
use lib.Dec.{eqb}
use Rattle.base.proofs.Cases.{or_yes, or_no}
use Rattle.geometry.specs.Blocks.{any_block, BlockIn}

-- tests joined by "or" and by "and"

pub or-second : (a b : Bool) → b ≡ true → (a || b) ≡ true
or-second true b e = refl
or-second false b e = e

pub both : (a b : Bool) → (a && b) ≡ true → (a ≡ true) × (b ≡ true)
both true b e = (refl, e)
both false b e = absurd (false≢true e)

pub refuted : (b : Bool) → (b ≡ true → ⊥) → b ≡ false
refuted true f = absurd (f refl)
refuted false f = refl

module _ (p : ℕ → Bool) where
  first-or-later : (x n : ℕ) (t b : Bool) → p x ≡ b → (b || t) ≡ true → (t ≡ true → BlockIn p (suc x) n) → BlockIn p x (suc n)
  first-or-later x n t true h e f = record { block = x; after = omega arith; short = omega arith; holds = h }
  first-or-later x n t false h e f =
      let r : BlockIn p (suc x) n = f e in
      record { block = r.block; after = omega arith; short = omega arith; holds = r.holds }

  pub any-there : (x n : ℕ) → any_block p x n ≡ true → BlockIn p x n
  unfolding any_block
  any-there x zero e = absurd (false≢true e)
  any-there x (suc n) e = first-or-later x n (any_block p (suc x) n) (p x) refl e (any-there (suc x) n)

  pub any_at : (x n y : ℕ) → x ≤ y → y < x + n → p y ≡ true → any_block p x n ≡ true
  unfolding any_block
  any_at x zero y h k e = absurd (omega arith)
  any_at x (suc n) y h k e = go (eqb x y) refl (λ l. any_at (suc x) n y l (omega arith) e)
    where
      go : (b : Bool) → eqb x y ≡ b → (x < y → any_block p (suc x) n ≡ true) → (p x || any_block p (suc x) n) ≡ true
      go true q f = sym (or_yes (p x) (any_block p (suc x) n) (ap p (eqb-true x y q) ∙ e))
      go false q f = or-second (p x) (any_block p (suc x) n) (f (omega (arith, eqb-false x y q)))

  -- the first n of k blocks have it not, and the last m decide
  pub any-skip : (n m k x z : ℕ) → x + n ≡ z → k ≡ n + m → ((y : ℕ) → x ≤ y → y < z → p y ≡ false) → any_block p x k ≡ any_block p z m
  unfolding any_block
  any-skip zero m k x z e f h = let a : x ≡ z = omega arith in let b : k ≡ m = omega arith in ap₂ (any_block p) a b
  any-skip (suc n) m zero x z e f h = absurd (omega arith)
  any-skip (suc n) m (suc k) x z e f h =
      sym (or_no _ _ _ (h x (omega arith) (omega arith))
      (sym (any-skip n m k (suc x) z (omega arith) (omega arith) (λ y u v. h y (omega arith) v))))

  pub any_none : (x n : ℕ) → ((y : ℕ) → x ≤ y → y < x + n → p y ≡ false) → any_block p x n ≡ false
  unfolding any_block
  any_none x n h = any-skip n 0 n x (x + n) refl (omega arith) h

  pub any-block : (from n : ℕ) → (any_block p from n ≡ true) ↔ BlockIn p from n
  any-block from n = (any-there from n, λ r. any_at from n r.block r.after r.short r.holds)
