-- A loop over ticks from stop to stop, over any state: a turn is one tick and the quiet ticks after it, and what is left to do is kept.
use mathlib.Core.Path.{◌≡◌, refl, sym, ap, ◌∙◌}
use mathlib.Core.Bool.{Bool, true, false, not, ◌&&◌}
use mathlib.Core.Logic.{◌⊎◌, ⊎_elim}
use Prim.Native.Nat.{ℕ, ◌+◌, ◌-◌, ◌<◌, ◌≤◌}
use native.Mathlib.Omega.{arith}
use lib.Dec.{ltb}
use borrow.Author.Tests.{lt-ltb}
use Rattle.base.specs.Lists.{one_if}
use Rattle.base.specs.Ticks.{ticks}
use Rattle.base.specs.Parts.{turns_left, Turns}
use Rattle.base.specs.Ticks.{stops as stops_in}
use Rattle.base.proofs.Lists.{one_if-le}
use Rattle.base.proofs.Jumps.{Jumps, turn-ticks, turn-stops}

and-not : (x y : Bool) → y ≡ true → (x && not y) ≡ false
and-not true y e = ap not e
and-not false y e = refl

none_left : (n : ℕ) (b : Bool) → n ≡ 0 → (ltb 0 n && b) ≡ false
none_left n b e = ap (λ (m : ℕ). ltb 0 m && b) e

-- of a tick that is a stop and one that is not, one uses a turn
one-turn : (x : Bool) → one_if x + one_if (true && not x) ≡ 1
one-turn true = refl
one-turn false = refl

-- ---- a turn

-- what a turn rests on: jumps over quiet ticks, stops that use up what runs, and jumps that start nothing
pub record Turnable {S : Type 0} (tick : S → S) (stop : S → Bool) (jump : ℕ → S → S) (running : S → ℕ) (Quiet : ℕ → S → Type 0) : Type 0 where
  pub jumps : Jumps tick stop jump Quiet
  pub falls : (s : S) → one_if (stop s) + running (tick s) ≤ running s
  pub starts_none : (k : ℕ) (s : S) → running (jump k s) ≤ running s

-- k ticks of s are quiet, m at most, and no more of them
pub record QuietMost {S : Type 0} (stop : S → Bool) (jump : ℕ → S → S) (Quiet : ℕ → S → Type 0) (m k : ℕ) (s : S) : Type 0 where
  pub few : k ≤ m
  pub quiet : Quiet k s
  pub most : (k ≡ m) ⊎ (stop (jump k s) ≡ true)

module _
    {S : Type 0}
    (tick : S → S)
    (stop : S → Bool)
    (jump : ℕ → S → S)
    (running : S → ℕ)
    (Quiet : ℕ → S → Type 0)
    (T : Turnable tick stop jump running Quiet)
  where
    -- m ticks to go: a tick to t, and k quiet ticks after it to j
    module _ (m k : ℕ) (s t j : S) (some : 0 < m) (et : t ≡ tick s) (q : QuietMost stop jump Quiet (m - 1) k t) (ej : j ≡ jump k t) where
      -- no turn that starts at no stop is left
      nothing_left : (ltb 0 (m - 1 - k) && not (stop j)) ≡ false
      nothing_left =
          ⊎_elim
          (λ e. none_left (m - 1 - k) (not (stop j)) (omega arith))
          (λ e. and-not (ltb 0 (m - 1 - k)) (stop j) (ap stop ej ∙ e))
          q.most

      turn-fewer : turns_left stop running (m - 1 - k) j < turns_left stop running m s
      unfolding turns_left
      turn-fewer =
          let a : running j ≤ running t = rw ej (T.starts_none k t) in
          let b : one_if (stop s) + running t ≤ running s = rw et (T.falls s) in
          rw (nothing_left, lt-ltb 0 m some) (omega (arith, one-turn (stop s), a, b))

      pub turned : (b : Bool) (one : ℕ) → b ≡ stop s → one ≡ one_if b → Turns tick stop running m s j (m - 1 - k) one
      turned b one eb eo =
          let e : one ≡ one_if (stop s) = eo ∙ ap one_if eb in
          record {
            fewer = turn-fewer;
            state = turn-ticks tick stop jump Quiet T.jumps m k s t j some q.few q.quiet et ej;
            counted = rw e (turn-stops tick stop jump Quiet T.jumps m k s t j some q.few q.quiet et ej);
            single = rw e (one_if-le (stop s));
            passes = omega arith;
          }

-- ---- the loop

module _ {S : Type 0} (tick : S → S) (stop : S → Bool) where
  -- what is left to do, with the stops so far, is the whole
  pub record Running (n : ℕ) (s₀ s : S) (left stops : ℕ) : Type 0 where
    pub state : ticks tick left s ≡ ticks tick n s₀
    pub counted : stops + stops_in tick stop left s ≡ stops_in tick stop n s₀
    pub bounded : stops + left ≤ n

  pub run-begin : (n : ℕ) (s : S) → Running n s s n 0
  run-begin n s = record { state = refl; counted = omega arith; bounded = omega arith }

  pub run-again : (running : S → ℕ) (n : ℕ) (s₀ s j : S) (left left' stops one : ℕ) → Running n s₀ s left stops
      → Turns tick stop running left s j left' one → Running n s₀ j left' (stops + one)
  run-again running n s₀ s j left left' stops one r u = record {
    state = u.state ∙ r.state;
    counted = omega (arith, u.counted, r.counted);
    bounded = omega (arith, u.single, u.passes, r.bounded);
  }

  -- the end: nothing is left
  module _ (n : ℕ) (s₀ s : S) (left stops : ℕ) (r : Running n s₀ s left stops) (h : left ≤ 0) where
    none : left ≡ 0
    none = omega arith

    over : stops + stops_in tick stop left s ≡ stops
    unfolding stops_in
    over = rw none (omega arith)

    done : s ≡ ticks tick left s
    unfolding ticks
    done = rw none

    pub run-state : s ≡ ticks tick n s₀
    run-state = done ∙ r.state

    pub run-stops : stops ≡ stops_in tick stop n s₀
    run-stops = sym over ∙ r.counted
