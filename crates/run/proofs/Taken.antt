-- Where a script reads to its end, the events that read one after the other from a place on are the first of its events.
use mathlib.Core.Path.{◌≡◌, refl, sym, ap, ◌∙◌}
use Prim.Native.Nat.{ℕ, zero, suc, ◌-◌, ◌≤◌}
use native.Mathlib.Omega.{arith}
use mathlib.Core.Bool.{Bool, true, false, cond}
use mathlib.Core.List.{List, [], ◌∷◌}
use lib.Dec.{ltb}
use lib.ListN.{length, take}
use borrow.Author.Tests.{ltb-false}
use Rattle.drive.specs.Events.{Event}
use Rattle.event_reader.specs.Fields.{Parsed, event, broken, event_at}
use Rattle.script.specs.Events.{Events, events, bad_from, before, and_then}
use Rattle.script.specs.Parts.{events_in, events_from}
use Rattle.event_reader.proofs.Progress.{event-within}
use Rattle.in_place.specs.FirstEvents.{then_more, first_events}

-- with at most so many events, as many as there are bytes at least
taken_in : (count k : ℕ) (s : List ℕ) (at : ℕ) (es : List Event) → length s - at ≤ k → events_in k s at ≡ events es → first_events count s at ≡ take count es
unfolding first_events events_in
taken_in zero k s at es h q = refl
taken_in (suc n) k s at es h q = go (λ j next fs. taken_in n j s next fs) k (event_at s at) refl h q
  where
    Shorter : Type 0
    Shorter = (j next : ℕ) (fs : List Event) → length s - next ≤ j → events_in j s next ≡ events fs → first_events n s next ≡ take n fs

    first : Shorter → (j : ℕ) (e : Event) (next : ℕ) → length s - next ≤ j → (o : Events) → events_in j s next ≡ o → before e o ≡ events es → e ∷ first_events n s next ≡ take (suc n) es
    first ih j e next h (events fs) p q = let w : es ≡ e ∷ fs = cc in rw w (ap (λ (l : List Event). e ∷ l) (ih j next fs h p))
    first ih j e next h (bad_from b) p q = let z : ◌≡◌ {A = ℕ} 0 1 = cc in absurd (omega arith)

    here : Shorter → (j x : ℕ) (e : Event) (y z next : ℕ) → event_at s at ≡ event x e y z next → length s - at ≤ suc j → (t : Bool) → ltb at (length s) ≡ t
        → cond t (before e (events_in j s next)) (events []) ≡ events es → e ∷ first_events n s next ≡ take (suc n) es
    here ih j x e y z next p h true t q = first ih j e next (let b = event-within s at x e y z next p in omega (arith, b.0, b.1, h)) (events_in j s next) refl q
    here ih j x e y z next p h false t q = absurd (let b = event-within s at x e y z next p in omega (arith, b.0, b.1, ltb-false at (length s) t))

    none : (t : Bool) → cond t (bad_from at) (events []) ≡ events es → [] ≡ take (suc n) es
    none true q = let z : ◌≡◌ {A = ℕ} 0 1 = cc in absurd (omega arith)
    none false q = let w : es ≡ [] = cc in rw w

    go : Shorter → (k : ℕ) (p : Parsed) → event_at s at ≡ p → length s - at ≤ k → events_in k s at ≡ events es → then_more p (λ next. first_events n s next) ≡ take (suc n) es
    go ih zero (event x e y z next) p h q = absurd (let b = event-within s at x e y z next p in omega (arith, b.0, b.1, h))
    go ih zero (broken x) p h q = let w : es ≡ [] = cc in rw w
    go ih (suc j) (event x e y z next) p h q = here ih j x e y z next p h (ltb at (length s)) refl (ap (λ (x : Parsed). cond (ltb at (length s)) (and_then at x (λ m. events_in j s m)) (events [])) (sym p) ∙ q)
    go ih (suc j) (broken x) p h q = none (ltb at (length s)) (ap (λ (x : Parsed). cond (ltb at (length s)) (and_then at x (λ m. events_in j s m)) (events [])) (sym p) ∙ q)

pub taken : (count : ℕ) (s : List ℕ) (at : ℕ) (es : List Event) → events_from s at ≡ events es → first_events count s at ≡ take count es
unfolding events_from
taken count s at es q = taken_in count (length s - at) s at es (omega arith) q
