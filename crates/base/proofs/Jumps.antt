-- Laws of repeated ticks over any state: sums of ticks, bounds of the stops, and one jump in place of many quiet ticks.
use mathlib.Core.Path.{◌≡◌, refl, sym, ap, ◌∙◌}
use mathlib.Core.Bool.{Bool, false}
use Prim.Native.Nat.{ℕ, zero, suc, ◌+◌, ◌-◌, ◌<◌, ◌≤◌}
use native.Mathlib.Nat.{zero-add, suc-add, add_assoc}
use native.Mathlib.Omega.{arith}
use Rattle.base.specs.Lists.{one_if}
use Rattle.base.specs.Ticks.{ticks, stops}

module _ {S : Type 0} (tick : S → S) where
  pub ticks-add : (a b : ℕ) (s : S) → ticks tick (a + b) s ≡ ticks tick b (ticks tick a s)
  unfolding ticks
  ticks-add zero b s = rw zero-add
  ticks-add (suc a) b s = rw suc-add (ticks-add a b (tick s))

  -- the first of m ticks, as code counts it
  pub ticks-first : (m : ℕ) (s : S) → 0 < m → ticks tick m s ≡ ticks tick (m - 1) (tick s)
  unfolding ticks
  ticks-first zero s h = absurd (omega arith)
  ticks-first (suc m) s h = let e : m ≡ suc m - 1 = omega arith in ap (λ (k : ℕ). ticks tick k (tick s)) e

  -- a property that a tick keeps, ticks keep
  pub ticks-keep : (P : S → Type 0) → ((s : S) → P s → P (tick s)) → (n : ℕ) (s : S) → P s → P (ticks tick n s)
  unfolding ticks
  ticks-keep P keep zero s p = p
  ticks-keep P keep (suc n) s p = ticks-keep P keep n (tick s) (keep s p)

module _ {S : Type 0} (tick : S → S) (stop : S → Bool) where
  pub stops-add : (a b : ℕ) (s : S) → stops tick stop (a + b) s ≡ stops tick stop a s + stops tick stop b (ticks tick a s)
  unfolding ticks stops
  stops-add zero b s = rw (zero-add, zero-add)
  stops-add (suc a) b s = rw (suc-add, add_assoc) (ap (λ (n : ℕ). one_if (stop s) + n) (stops-add a b (tick s)))

  pub stops_first : (m : ℕ) (s : S) → 0 < m → stops tick stop m s ≡ one_if (stop s) + stops tick stop (m - 1) (tick s)
  unfolding stops
  stops_first zero s h = absurd (omega arith)
  stops_first (suc m) s h = let e : m ≡ suc m - 1 = omega arith in ap (λ (k : ℕ). one_if (stop s) + stops tick stop k (tick s)) e

  -- a number that each stop uses up bounds the stops
  pub stops-bound : (left : S → ℕ) → ((s : S) → one_if (stop s) + left (tick s) ≤ left s) → (n : ℕ) (s : S) → stops tick stop n s ≤ left s
  unfolding stops
  stops-bound left falls zero s = omega arith
  stops-bound left falls (suc n) s = omega (arith, falls s, stops-bound left falls n (tick s))

-- What a jump must meet to stand for quiet ticks. `Quiet k s` says that the next k ticks of s are quiet: none of them is a stop.
pub record Jumps {S : Type 0} (tick : S → S) (stop : S → Bool) (jump : ℕ → S → S) (Quiet : ℕ → S → Type 0) : Type 0 where
  -- a jump by none, and one tick of it more
  pub none : (s : S) → Quiet 0 s → jump 0 s ≡ s
  pub more : (k : ℕ) (s : S) → Quiet (suc k) s → jump k (jump 1 s) ≡ jump (suc k) s
  -- a quiet tick is no stop, is a jump by 1, and leaves the ticks after it quiet
  pub no_stop : (k : ℕ) (s : S) → Quiet (suc k) s → stop s ≡ false
  pub one : (k : ℕ) (s : S) → Quiet (suc k) s → tick s ≡ jump 1 s
  pub next : (k : ℕ) (s : S) → Quiet (suc k) s → Quiet k (jump 1 s)

module _ {S : Type 0} (tick : S → S) (stop : S → Bool) (jump : ℕ → S → S) (Quiet : ℕ → S → Type 0) (J : Jumps tick stop jump Quiet) where
  -- k quiet ticks are one jump by k
  pub quiet-ticks : (k : ℕ) (s : S) → Quiet k s → ticks tick k s ≡ jump k s
  unfolding ticks
  quiet-ticks zero s c = sym (J.none s c)
  quiet-ticks (suc k) s c = rw (J.one k s c) (quiet-ticks k (jump 1 s) (J.next k s c) ∙ J.more k s c)

  -- none of them is a stop
  pub quiet-stops : (k : ℕ) (s : S) → Quiet k s → stops tick stop k s ≡ 0
  unfolding stops
  quiet-stops zero s c = refl
  quiet-stops (suc k) s c = rw (J.no_stop k s c, J.one k s c) (zero-add _ ∙ quiet-stops k (jump 1 s) (J.next k s c))

  -- m ticks, of which the first k are quiet
  module _ (k m : ℕ) (s : S) (h : k ≤ m) (c : Quiet k s) where
    after-jump : ticks tick (m - k) (jump k s) ≡ ticks tick m s
    after-jump =
        let e : k + (m - k) ≡ m = omega arith in
        ap (ticks tick (m - k)) (sym (quiet-ticks k s c))
        ∙ sym (ticks-add tick k (m - k) s)
        ∙ ap (λ (n : ℕ). ticks tick n s) e

    stops-after-jump : stops tick stop (m - k) (jump k s) ≡ stops tick stop m s
    stops-after-jump =
        let e : k + (m - k) ≡ m = omega arith in
        ap (stops tick stop (m - k)) (sym (quiet-ticks k s c))
        ∙ sym (zero-add _)
        ∙ ap (λ (n : ℕ). n + stops tick stop (m - k) (ticks tick k s)) (sym (quiet-stops k s c))
        ∙ sym (stops-add tick stop k (m - k) s)
        ∙ ap (λ (n : ℕ). stops tick stop n s) e

  -- One turn of a loop with m ticks to go: a tick to t, and k quiet ticks after it to j. What is left to do then is what was left before.
  module _ (m k : ℕ) (s t j : S) (some : 0 < m) (few : k ≤ m - 1) (c : Quiet k t) (et : t ≡ tick s) (ej : j ≡ jump k t) where
    pub turn-ticks : ticks tick (m - 1 - k) j ≡ ticks tick m s
    turn-ticks = rw ej (after-jump k (m - 1) t few c) ∙ ap (ticks tick (m - 1)) et ∙ sym (ticks-first tick m s some)

    pub turn-stops : one_if (stop s) + stops tick stop (m - 1 - k) j ≡ stops tick stop m s
    turn-stops =
        rw ej (ap (λ (n : ℕ). one_if (stop s) + n) (stops-after-jump k (m - 1) t few c ∙ ap (stops tick stop (m - 1)) et))
        ∙ sym (stops_first tick stop m s some)
