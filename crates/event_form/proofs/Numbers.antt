-- The numbers of one event: how many by its kind, and which.
use mathlib.Core.Path.{◌≡◌, refl, sym, subst, ◌∙◌}
use Prim.Native.Nat.{ℕ, zero, suc, ◌-◌, ◌≤◌}
use native.Mathlib.Omega.{arith}
use mathlib.Core.Bool.{false}
use mathlib.Core.List.{List}
use lib.Dec.{eqb}
use lib.ListN.{length, get_or, take, replicate, length-append}
use lib.Seq.{take-append_seam}
use borrow.Author.Tests.{eq-eqb, ne_eqb}
use Rattle.base.proofs.Cases.{cond-true, cond-false}
use Rattle.drive.specs.Events.{Event, reading, elapse, reset, sensor_set, band_set, geometry, transfer}
use Rattle.event_form.specs.declared.EventNumbers.{EventNumbers}
use Rattle.event_form.specs.Form.{fields_of, tokens_of, with_tokens}
use Rattle.event_form.specs.Kinds.{is_kind}
use Rattle.event_form.specs.Parts.{width_of, count_of, Numbers, NumbersWith}

-- no event has a number of kind that is none of the seven
pub no-kind : (n : ℕ) → is_kind n ≡ false → width_of n ≡ 0
no-kind zero h = refl
no-kind (suc zero) h = let z : ◌≡◌ {A = ℕ} 0 1 = cc in absurd (omega arith)
no-kind (suc (suc zero)) h = let z : ◌≡◌ {A = ℕ} 0 1 = cc in absurd (omega arith)
no-kind (suc (suc (suc zero))) h = let z : ◌≡◌ {A = ℕ} 0 1 = cc in absurd (omega arith)
no-kind (suc (suc (suc (suc zero)))) h = let z : ◌≡◌ {A = ℕ} 0 1 = cc in absurd (omega arith)
no-kind (suc (suc (suc (suc (suc zero))))) h = let z : ◌≡◌ {A = ℕ} 0 1 = cc in absurd (omega arith)
no-kind (suc (suc (suc (suc (suc (suc zero)))))) h = let z : ◌≡◌ {A = ℕ} 0 1 = cc in absurd (omega arith)
no-kind (suc (suc (suc (suc (suc (suc (suc zero))))))) h = let z : ◌≡◌ {A = ℕ} 0 1 = cc in absurd (omega arith)
no-kind (suc (suc (suc (suc (suc (suc (suc (suc k)))))))) h = refl

-- the bytes of an expression: a band Set's last number, and none of another event

pub count-band : (fields : List ℕ) (kind count : ℕ) → kind ≡ get_or fields 0 0 → kind ≡ 5 → count ≡ get_or fields 8 0 → count ≡ count_of fields
count-band fields kind count e q h = cond-true (eqb (get_or fields 0 0) 5) _ _ _ (eq-eqb (get_or fields 0 0) 5 (sym e ∙ q)) h

pub count-other : (fields : List ℕ) (kind : ℕ) → kind ≡ get_or fields 0 0 → (kind ≡ 5 → ⊥) → 0 ≡ count_of fields
count-other fields kind e n = cond-false (eqb (get_or fields 0 0) 5) _ _ _ (ne_eqb (get_or fields 0 0) 5 (λ q. n (e ∙ q))) refl

-- what is told of the numbers of an event, said of its form

pub fields-most : (e : Event) → length (fields_of e) ≤ 10
fields-most (reading sensor value) = omega arith
fields-most (elapse n) = omega arith
fields-most (reset type) = omega arith
fields-most (sensor_set sensor c) = omega arith
fields-most (band_set band c tokens) = omega arith
fields-most (geometry band start blocks) = omega arith
fields-most (transfer direction start count) = omega arith

-- an event with its own bytes is itself
own-tokens : (e : Event) → with_tokens (tokens_of e) e ≡ e
own-tokens (reading sensor value) = refl
own-tokens (elapse n) = refl
own-tokens (reset type) = refl
own-tokens (sensor_set sensor c) = refl
own-tokens (band_set band c tokens) = refl
own-tokens (geometry band start blocks) = refl
own-tokens (transfer direction start count) = refl

pub own_numbers : (e : Event) (count : ℕ) (r : EventNumbers) → NumbersWith e count r → length (tokens_of e) ≡ count → Numbers e r
own_numbers e count r n l = subst (λ (x : Event). Numbers x r) (own-tokens e) (n (tokens_of e) l)

module _ (e : Event) (r : EventNumbers) (n : Numbers e r) where
  pub numbers-first : take r.width r.numbers ≡ fields_of e
  numbers-first = rw (n.numbers, n.width) (take-append_seam (fields_of e) (replicate (10 - length (fields_of e)) 0))

  pub numbers-within : r.width ≤ length r.numbers
  numbers-within = rw (n.numbers, n.width) (omega (arith, length-append (fields_of e) (replicate (10 - length (fields_of e)) 0)))
