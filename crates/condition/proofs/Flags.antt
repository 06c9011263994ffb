-- A flag that the elements of a list clear and mark, over any list; an element that does both marks it.
use mathlib.Core.Path.{◌≡◌, refl, ap}
use mathlib.Core.Logic.{◌⊎◌, inl, inr}
use mathlib.Core.Bool.{Bool, true, false, not, ◌&&◌, ◌||◌}
use mathlib.Core.List.{List, [], ◌∷◌, ◌++◌}
use Rattle.base.specs.Lists.{any}
use Rattle.base.proofs.Cases.{or-second, neither}

module _ {M : Type 0} (clear mark : M → Bool) where
  unfoldable pub flag_after : Bool → List M → Bool
  flag_after l [] = l
  flag_after l (m ∷ ms) = flag_after ((not (clear m) && l) || mark m) ms

  pub after-append : (l : Bool) (xs ys : List M) → flag_after l (xs ++ ys) ≡ flag_after (flag_after l xs) ys
  unfolding flag_after
  after-append l [] ys = refl
  after-append l (x ∷ xs) ys = after-append ((not (clear x) && l) || mark x) xs ys

  -- a flag that is up and never cleared stays up
  stays_up : (l : Bool) (ms : List M) → l ≡ true → any clear ms ≡ false → flag_after l ms ≡ true
  unfolding flag_after any
  stays_up l [] t n = t
  stays_up l (m ∷ ms) t n = let k = neither (clear m) (any clear ms) n in stays_up ((not (clear m) && l) || mark m) ms (rw (k.0, t)) k.1

  -- some moment marks it and no later one clears it
  unfoldable pub Last : List M → Type 0
  Last ms = (a : List M) × (m : M) × (c : List M) × (ms ≡ a ++ (m ∷ c)) × (mark m ≡ true) × (any clear c ≡ false)

  pub from_last : (l : Bool) (ms : List M) → Last ms → flag_after l ms ≡ true
  unfolding Last flag_after
  from_last l ms (a, m, c, e, t, n) =
      rw (e, after-append l a (m ∷ c)) (stays_up _ c (or-second (not (clear m) && flag_after l a) (mark m) t) n)

  -- a flag that is up at the end was up at the start and never cleared, or was marked and not cleared since
  pub to_last : (l : Bool) (ms : List M) → flag_after l ms ≡ true → ((l ≡ true) × (any clear ms ≡ false)) ⊎ Last ms
  unfolding Last flag_after any
  to_last l [] t = inl (t, refl)
  to_last l (m ∷ ms) t = go (to_last ((not (clear m) && l) || mark m) ms t)
    where
      now : (c l k : Bool) → ((not c && l) || k) ≡ true → any clear ms ≡ false → ((l ≡ true) × ((c || any clear ms) ≡ false)) ⊎ (k ≡ true)
      now true l k u n = inr u
      now false true k u n = inl (refl, n)
      now false false k u n = inr u

      up : any clear ms ≡ false → ((l ≡ true) × ((clear m || any clear ms) ≡ false)) ⊎ (mark m ≡ true)
          → ((l ≡ true) × ((clear m || any clear ms) ≡ false)) ⊎ Last (m ∷ ms)
      up n (inl u) = inl u
      up n (inr k) = inr ([], m, ms, refl, k, n)

      go : ((((not (clear m) && l) || mark m) ≡ true) × (any clear ms ≡ false)) ⊎ Last ms
          → ((l ≡ true) × ((clear m || any clear ms) ≡ false)) ⊎ Last (m ∷ ms)
      go (inl (u, n)) = up n (now (clear m) l (mark m) u n)
      go (inr (a, x, c, e, k, n)) = inr (m ∷ a, x, c, ap (λ (q : List M). m ∷ q) e, k, n)
