-- One span, and two: what the code's differences say of the blocks.
use mathlib.Core.Path.{◌≡◌, refl, sym}
use Prim.Native.Nat.{ℕ, ◌+◌, ◌-◌, ◌≤◌, ◌<◌}
use native.Mathlib.Omega.{arith}
use mathlib.Core.Bool.{Bool, true, false}
use borrow.Author.Tests.{ltb-true, ltb-false, leb-true, lt-ltb, le-ltb, le-leb, lt-leb}
use lib.Dec.{ltb, leb}
use Rattle.base.proofs.Cases.{and_yes, and_no}
use Rattle.geometry.specs.declared.Span.{Span}
use Rattle.geometry.specs.Blocks.{covers, meets_of}
use Rattle.geometry.proofs.Ranges.{any_at, any_none, both}

module _ (s : Span) where
  pub inside : (x : ℕ) → s.start ≤ x → x < s.start + s.length → covers s x ≡ true
  inside x h k = sym (and_yes _ _ _ (le-leb _ _ h) (sym (lt-ltb _ _ k)))

  ahead : (x : ℕ) → x < s.start → covers s x ≡ false
  ahead x h = sym (and_no _ _ (lt-leb _ _ h))

  past : (x : ℕ) → s.start + s.length ≤ x → covers s x ≡ false
  past x h = sym (and_yes _ _ _ (le-leb s.start x (omega arith)) (sym (le-ltb _ _ h)))

  pub covered : (x : ℕ) → covers s x ≡ true → (s.start ≤ x) × (x < s.start + s.length)
  covered x e =
      let t : (leb s.start x ≡ true) × (ltb x (s.start + s.length) ≡ true) = both _ _ e in
      (leb-true _ _ t.0, ltb-true _ _ t.1)

-- two spans, by which of them starts first
module _ (s t : Span) where
  pub meets-empty : t.length ≡ 0 → false ≡ meets_of s t
  meets-empty e = sym (any_none (covers t) _ _ (λ y u v. go y (ltb y t.start) refl))
    where
      go : (y : ℕ) (b : Bool) → ltb y t.start ≡ b → covers t y ≡ false
      go y true q = ahead t y (ltb-true _ _ q)
      go y false q = past t y (omega (arith, ltb-false))

  pub meets-none : s.length ≡ 0 → false ≡ meets_of s t
  meets-none e = sym (any_none (covers t) _ _ (λ y u v. absurd (omega arith)))

  pub meets-ahead : s.start < t.start → (t.length ≡ 0 → ⊥) → ltb (t.start - s.start) s.length ≡ meets_of s t
  meets-ahead h k = go (ltb (t.start - s.start) s.length) refl
    where
      go : (b : Bool) → ltb (t.start - s.start) s.length ≡ b → b ≡ meets_of s t
      go true e = sym (any_at (covers t) _ _ t.start (omega arith) (omega (arith, ltb-true)) (inside t _ (omega arith) (omega (arith, k))))
      go false e = sym (any_none (covers t) _ _ (λ y u v. ahead t y (omega (arith, ltb-false))))

  pub meets-behind : t.start ≤ s.start → (s.length ≡ 0 → ⊥) → ltb (s.start - t.start) t.length ≡ meets_of s t
  meets-behind h k = go (ltb (s.start - t.start) t.length) refl
    where
      go : (b : Bool) → ltb (s.start - t.start) t.length ≡ b → b ≡ meets_of s t
      go true e = sym (any_at (covers t) _ _ s.start (omega arith) (omega (arith, k)) (inside t _ h (omega (arith, ltb-true))))
      go false e = sym (any_none (covers t) _ _ (λ y u v. past t y (omega (arith, ltb-false))))

pub ruleset meeting = (meets-empty, meets-none, meets-ahead, meets-behind)
