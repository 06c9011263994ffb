-- Laws of a drive's arrays: fresh, all elements changed, and one that the header counts changed.
use mathlib.Core.Path.{◌≡◌, refl, sym, ap, ◌∙◌, subst}
use Prim.Native.Nat.{ℕ, ◌<◌}
use native.Mathlib.Omega.{arith}
use mathlib.Core.List.{List, map}
use lib.ListN.{get_or, set, replicate, length-map, length-replicate, get_or-map}
use Rattle.base.specs.Rows.{modify}
use Rattle.base.proofs.Lists.{get_d-same}
use Rattle.base.proofs.Rows.{modify-set, length-modify, modify-other, modify-keeps}
use Rattle.reached.specs.Reached.{Table}

module _ {A : Type 0} where
  module _ (Good : A → Type 0) (fresh : A) where
    pub fresh-table : (count : ℕ) → Good fresh → Table Good fresh count (replicate 16 fresh)
    fresh-table count g = record {
      sixteen = length-replicate 16 fresh;
      unused = λ i h. get_d-same 16 i fresh;
      each = λ i. subst Good (sym (get_d-same 16 i fresh)) g;
    }

    module _ (f : A → A) (keeps : (x : A) → Good x → Good (f x)) (count : ℕ) (l : List A) (t : Table Good fresh count l) where
      -- all elements changed, where the fresh one stays
      pub map-table : f fresh ≡ fresh → Table Good fresh count (map f l)
      map-table e = record {
        sixteen = length-map l f ∙ t.sixteen;
        unused = λ i h. at i ∙ ap f (t.unused i h) ∙ e;
        each = λ i. subst Good (sym (at i)) (keeps (get_or l i fresh) (t.each i));
      }
        where
          at : (i : ℕ) → get_or (map f l) i fresh ≡ f (get_or l i fresh)
          at i = ap (λ (x : A). get_or (map f l) i x) (sym e) ∙ get_or-map f l i fresh

      pub modify-table : (i : ℕ) → i < count → Table Good fresh count (modify f i l)
      modify-table i h = record {
        sixteen = length-modify f i l ∙ t.sixteen;
        unused = λ j k. modify-other f fresh l i j (λ e. omega (arith, h, k, e)) ∙ t.unused j k;
        each = λ j. modify-keeps Good f keeps fresh l i j (t.each j);
      }

    -- one element stored
    pub set-table : (v : A) (count : ℕ) (l : List A) (i : ℕ) → Good v → i < count → i < 16 → Table Good fresh count l
        → Table Good fresh count (set l i v)
    set-table v count l i g h k t =
        subst (Table Good fresh count) (sym (modify-set (λ (x : A). v) l i fresh v refl (omega (arith, t.sixteen))))
        (modify-table (λ (x : A). v) (λ x q. g) count l t i h)
