-- The sweep over the blocks of a transfer, from run to run: what is left of the transfer decides.
use mathlib.Core.Path.{◌≡◌, refl, sym, ap, ◌∙◌}
use Prim.Native.Nat.{ℕ, ◌+◌, ◌-◌, ◌≤◌, ◌<◌}
use native.Mathlib.Omega.{arith}
use mathlib.Core.Bool.{Bool, true, false}
use mathlib.Core.List.{List}
use lib.ListN.{length, get_or}
use Rattle.geometry.specs.declared.Span.{Span}
use Rattle.geometry.specs.declared.Run.{Run}
use Rattle.geometry.specs.Blocks.{any_block}
use Rattle.geometry.specs.Parts.{OneBand, closed_in}
use Rattle.geometry.proofs.Ranges.{any_at, any-skip}
use Rattle.base.proofs.Rows.{get_d_any}

pub record Swept (p : ℕ → Bool) (start count x left : ℕ) : Type 0 where
  pub end : x + left ≡ start + count
  pub same : any_block p x left ≡ any_block p start count

pub swept_start : (p : ℕ → Bool) (start count : ℕ) → Swept p start count start count
swept_start p start count = record { end = refl; same = refl }

pub swept_room : (p : ℕ → Bool) (start count x left n limit : ℕ) → Swept p start count x left → n ≤ left → start + count < limit → x + n < limit
swept_room p start count x left n limit t h k = omega (arith, t.end)

module _ (spans : List Span) (closed : List Bool) (start count x left : ℕ) (t : Swept (closed_in spans closed) start count x left) where
  pub swept_done : left ≤ 0 → false ≡ any_block (closed_in spans closed) start count
  unfolding any_block
  swept_done h =
      let e : left ≡ 0 = omega arith in
      sym (ap (any_block (closed_in spans closed) x) e) ∙ t.same

  module _ (r : Run) (z : Bool) (o : OneBand spans x left r) (few : length spans < 16) (w : length closed ≡ 16) where
    at : (y : ℕ) → x ≤ y → y < x + r.count → closed_in spans closed y ≡ get_or closed r.band z
    at y u v = ap (λ (k : ℕ). get_or closed k false) (o.same y u v) ∙ get_d_any closed r.band false z (omega (arith, o.small))

    pub swept_found : get_or closed r.band z ≡ true → true ≡ any_block (closed_in spans closed) start count
    swept_found q =
        sym
        (any_at (closed_in spans closed) x left x (omega arith) (omega (arith, o.some_left, o.most))
        (at x (omega arith) (omega (arith, o.some_left)) ∙ q))
        ∙ t.same

    pub swept_again : get_or closed r.band z ≡ false → Swept (closed_in spans closed) start count (x + r.count) (left - r.count)
    swept_again q = record {
      end = omega (arith, o.most, t.end);
      same =
          sym (any-skip (closed_in spans closed) r.count (left - r.count) left x (x + r.count) refl (omega (arith, o.most)) (λ y u v. at y u v ∙ q))
          ∙ t.same;
    }

pub ruleset sweeping = (swept_start, swept_room, swept_done, swept_found, swept_again)
