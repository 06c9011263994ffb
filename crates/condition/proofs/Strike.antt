-- The run of a list and the run of what stays of it, for any machine.
use mathlib.Core.Path.{◌≡◌, refl}
use mathlib.Core.Bool.{Bool, true, false, cond}
use mathlib.Core.List.{List, [], ◌∷◌, ◌++◌}
use Rattle.condition.specs.Compared.{keep}
use Rattle.condition.specs.Corollaries.{All}

module _ {D E O : Type 0} (step : D → E → D) (out : D → E → List O) where
  abbrev pub runs : D → List E → D
  runs d [] = d
  runs d (x ∷ xs) = runs (step d x) xs

  abbrev pub outs : D → List E → List O
  outs d [] = []
  outs d (x ∷ xs) = out d x ++ outs (step d x) xs

  module _ (stay : E → Bool) (Fit : E → Type 0) (R : D → D → Type 0)
      (kept : (d e : D) (x : E) → stay x ≡ true → Fit x → R d e → R (step d x) (step e x))
      (struck : (d e : D) (x : E) → stay x ≡ false → R d e → R (step d x) e)
      (said : (d e : D) (x : E) → stay x ≡ true → Fit x → R d e → out d x ≡ out e x)
      (silent : (d : D) (x : E) → stay x ≡ false → out d x ≡ []) where
    pub strike : (xs : List E) (d e : D) → All Fit xs → R d e
        → R (runs d xs) (runs e (keep stay xs)) × (outs d xs ≡ outs e (keep stay xs))
    unfolding keep
    strike [] d e f r = (r, refl)
    strike (x ∷ xs) d e (w, f) r = go (stay x) refl (λ k q. strike xs (step d x) k f q)
      where
        go : (t : Bool) → stay x ≡ t
            → ((k : D) → R (step d x) k → R (runs (step d x) xs) (runs k (keep stay xs)) × (outs (step d x) xs ≡ outs k (keep stay xs)))
            → R (runs (step d x) xs) (runs e (cond t (x ∷ keep stay xs) (keep stay xs)))
            × (out d x ++ outs (step d x) xs ≡ outs e (cond t (x ∷ keep stay xs) (keep stay xs)))
        go true t ih = let i = ih (step e x) (kept d e x t w r) in (i.0, rw (said d e x t w r, i.1))
        go false t ih = let i = ih e (struck d e x t r) in (i.0, rw (silent d x t) i.1)
