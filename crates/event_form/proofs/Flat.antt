-- The flat form of a list of events reads back to it, and no other pair of slices does.
use mathlib.Core.Path.{◌≡◌, refl, sym, ap, subst, ◌∙◌}
use Prim.Native.Nat.{ℕ, zero, suc, ◌+◌, ◌≤◌}
use native.Mathlib.Omega.{arith}
use mathlib.Core.Bool.{cond, ◌&&◌}
use mathlib.Core.List.{List, [], ◌∷◌, ◌++◌}
use lib.Dec.{eqb, leb, ltb}
use lib.ListN.{length, get_or, drop, take-append-drop, length-append}
use lib.Seq.{take-append_seam, drop-append_seam, length-take-le, drop-cons}
use borrow.Author.Tests.{le-leb, leb-true, ltb-false, lt-ltb, le-ltb, eqb-true}
use Rattle.base.proofs.Cases.{cond-true, cond-false, cond_either, and_left, and_right}
use Rattle.drive.specs.Events.{Event, reading, elapse, reset, sensor_set, band_set, geometry, transfer}
use Rattle.event_form.specs.Form.{fields_of, tokens_of}
use Rattle.event_form.specs.Kinds.{event_by}
use Rattle.event_form.specs.Parts.{Next, next, none, next_in, Flat, flat, no_flat, before, and_then, ended, events_in, events_of}
use Rattle.event_form.specs.Flat.{FlatForm, all_fields, all_tokens}

-- numbers and bytes that are there are read
there : (width count : ℕ) (fields tokens : List ℕ) (x : Next) → width ≤ length fields → count ≤ length tokens
    → cond (leb width (length fields) && leb count (length tokens)) x none ≡ x
there width count fields tokens x h g = rw (le-leb width (length fields) h, le-leb count (length tokens) g)

-- an event that has no bytes
without-bytes : (width : ℕ) (e : Event) (f t : List ℕ) → width ≤ length (fields_of e ++ f)
    → cond (leb width (length (fields_of e ++ f)) && leb 0 (length t)) (next e f t) none ≡ next e f t
without-bytes width e f t h = there width 0 (fields_of e ++ f) t (next e f t) h (omega arith)

-- one event: its flat form in front of anything is read as it, and what is left is the rest
pub next-back : (e : Event) (f t : List ℕ) → next_in (fields_of e ++ f) (tokens_of e ++ t) ≡ next e f t
unfolding next_in event_by
next-back (reading sensor value) f t = without-bytes 3 (reading sensor value) f t (omega arith)
next-back (elapse n) f t = without-bytes 2 (elapse n) f t (omega arith)
next-back (reset type) f t = without-bytes 2 (reset type) f t (omega arith)
next-back (sensor_set sensor c) f t = without-bytes 10 (sensor_set sensor c) f t (omega arith)
next-back (band_set band c tokens) f t =
    there 9 (length tokens) (fields_of (band_set band c tokens) ++ f) (tokens ++ t) _ (omega arith) (omega (arith, length-append tokens t))
    ∙ rw (take-append_seam tokens t, drop-append_seam tokens t)
next-back (geometry band start blocks) f t = without-bytes 4 (geometry band start blocks) f t (omega arith)
next-back (transfer direction start count) f t = without-bytes 4 (transfer direction start count) f t (omega arith)

-- an event takes at least one number
pub event-takes : (e : Event) → 1 ≤ length (fields_of e)
event-takes (reading sensor value) = omega arith
event-takes (elapse n) = omega arith
event-takes (reset type) = omega arith
event-takes (sensor_set sensor c) = omega arith
event-takes (band_set band c tokens) = omega arith
event-takes (geometry band start blocks) = omega arith
event-takes (transfer direction start count) = omega arith

-- ---- what is read is the flat form of the event

-- what is read of a pair stands at its front, and the rest behind it
abbrev Split : (fields tokens : List ℕ) → Next → Type 0
Split fields tokens (next e f t) = (fields ≡ fields_of e ++ f) × (tokens ≡ tokens_of e ++ t)
Split fields tokens none = Unit

-- it is so where the numbers and the bytes are there; and where they are not, nothing is read
if-there : (width count : ℕ) (fields tokens : List ℕ) (x : Next) → (width ≤ length fields → count ≤ length tokens → Split fields tokens x)
    → Split fields tokens (cond (leb width (length fields) && leb count (length tokens)) x none)
if-there width count fields tokens x p =
    let a = leb width (length fields) in
    let b = leb count (length tokens) in
    cond_either (Split fields tokens) (a && b) x none
    (λ q. p (leb-true width (length fields) (and_left a b q)) (leb-true count (length tokens) (and_right a b q)))
    (λ q. tt)

-- n numbers from place i on, one by one, and the rest
abbrev onward : (n i : ℕ) → List ℕ → List ℕ
onward zero i l = drop i l
onward (suc n) i l = get_or l i 0 ∷ onward n (suc i) l

-- a list that is long enough is its first numbers and the rest
by_one : (n i : ℕ) (l : List ℕ) → n + i ≤ length l → drop i l ≡ onward n i l
by_one zero i l h = refl
by_one (suc n) i l h = drop-cons l i 0 (omega (arith, h)) ∙ ap {B = List ℕ} (λ r. get_or l i 0 ∷ r) (by_one n (suc i) l (omega (arith, h)))

-- the kind in front
kind-first : (kind n : ℕ) (l : List ℕ) → suc n ≤ length (kind ∷ l) → kind ∷ l ≡ kind ∷ onward n 0 l
kind-first kind n l h = ap {B = List ℕ} (λ r. kind ∷ r) (by_one n 0 l (omega (arith, h)))

-- each kind by itself; from 8 on there is none
split_by : (kind : ℕ) (l tokens : List ℕ) → Split (kind ∷ l) tokens (next_in (kind ∷ l) tokens)
unfolding next_in event_by
split_by zero l tokens = tt
split_by (suc zero) l tokens = if-there 3 0 (1 ∷ l) tokens _ (λ h g. (kind-first 1 2 l h, refl))
split_by (suc (suc zero)) l tokens = if-there 2 0 (2 ∷ l) tokens _ (λ h g. (kind-first 2 1 l h, refl))
split_by (suc (suc (suc zero))) l tokens = if-there 2 0 (3 ∷ l) tokens _ (λ h g. (kind-first 3 1 l h, refl))
split_by (suc (suc (suc (suc zero)))) l tokens = if-there 10 0 (4 ∷ l) tokens _ (λ h g. (kind-first 4 9 l h, refl))
split_by (suc (suc (suc (suc (suc zero))))) l tokens =
    let count = get_or l 7 0 in
    if-there 9 count (5 ∷ l) tokens _ (λ h g. (rw (length-take-le count tokens g) (kind-first 5 8 l h), sym (take-append-drop count tokens)))
split_by (suc (suc (suc (suc (suc (suc zero)))))) l tokens = if-there 4 0 (6 ∷ l) tokens _ (λ h g. (kind-first 6 3 l h, refl))
split_by (suc (suc (suc (suc (suc (suc (suc zero))))))) l tokens = if-there 4 0 (7 ∷ l) tokens _ (λ h g. (kind-first 7 3 l h, refl))
split_by (suc (suc (suc (suc (suc (suc (suc (suc n)))))))) l tokens = tt

-- and where no number is left nothing is read
split : (fields tokens : List ℕ) → Split fields tokens (next_in fields tokens)
unfolding next_in
split [] tokens = tt
split (kind ∷ l) tokens = split_by kind l tokens

-- nothing but an event's flat form in front of the rest is read as it
pub next-is : (fields tokens : List ℕ) (e : Event) (f t : List ℕ) → next_in fields tokens ≡ next e f t
    → (fields ≡ fields_of e ++ f) × (tokens ≡ tokens_of e ++ t)
next-is fields tokens e f t h = subst (Split fields tokens) h (split fields tokens)

-- fewer numbers are left than there were
fewer : (fields tokens : List ℕ) (e : Event) (f t : List ℕ) → next_in fields tokens ≡ next e f t → suc (length f) ≤ length fields
fewer fields tokens e f t h =
    let n : length fields ≡ length (fields_of e) + length f = ap length (next-is fields tokens e f t h).0 ∙ length-append (fields_of e) f in
    omega (arith, n, event-takes e)

-- ---- the events, without the count

-- where no number is left there is no event more
no-events : (k : ℕ) (fields tokens : List ℕ) → length fields ≤ 0 → events_in k fields tokens ≡ ended tokens
unfolding events_in
no-events zero fields tokens h = refl
no-events (suc k) fields tokens h = sym (cond-false (ltb 0 (length fields)) _ _ _ (le-ltb 0 (length fields) h) refl)

-- two ways to go on that agree on what is left
agree : (fields tokens : List ℕ) (p q : List ℕ → List ℕ → Flat)
    → ((f t : List ℕ) → suc (length f) ≤ length fields → p f t ≡ q f t) → and_then (next_in fields tokens) p ≡ and_then (next_in fields tokens) q
agree fields tokens p q same = go (next_in fields tokens) refl
  where
    go : (x : Next) → next_in fields tokens ≡ x → and_then x p ≡ and_then x q
    go none e = refl
    go (next x f t) e = ap (before x) (same f t (fewer fields tokens x f t e))

-- more count than needed changes nothing
pub same-events : (k l : ℕ) (fields tokens : List ℕ) → length fields ≤ k → length fields ≤ l → events_in k fields tokens ≡ events_in l fields tokens
unfolding events_in
same-events zero l fields tokens h g = sym (no-events l fields tokens h)
same-events (suc k) zero fields tokens h g = no-events (suc k) fields tokens g
same-events (suc k) (suc l) fields tokens h g =
    ap (λ (x : Flat). cond (ltb 0 (length fields)) x (ended tokens))
    (agree fields tokens (λ f t. events_in k f t) (λ f t. events_in l f t) (λ f t s. same-events k l f t (omega (arith, h, s)) (omega (arith, g, s))))

-- the clauses without the count
pub events-on : (fields tokens : List ℕ)
    → events_of fields tokens ≡ cond (ltb 0 (length fields)) (and_then (next_in fields tokens) (λ f t. events_of f t)) (ended tokens)
unfolding events_of events_in
events-on fields tokens =
    same-events (length fields) (suc (length fields)) fields tokens (omega arith) (omega arith)
    ∙ ap (λ (x : Flat). cond (ltb 0 (length fields)) x (ended tokens))
    (agree fields tokens (λ f t. events_in (length fields) f t) (λ f t. events_of f t)
    (λ f t s. same-events (length fields) (length f) f t (omega (arith, s)) (omega arith)))

-- ---- the list

-- an event in front of a list's flat form
one_more : (e : Event) (f t : List ℕ) → events_of (fields_of e ++ f) (tokens_of e ++ t) ≡ before e (events_of f t)
one_more e f t =
    let some : 1 ≤ length (fields_of e ++ f) = omega (arith, length-append (fields_of e) f, event-takes e) in
    events-on (fields_of e ++ f) (tokens_of e ++ t)
    ∙ sym (cond-true (ltb 0 (length (fields_of e ++ f))) _ _ _ (lt-ltb 0 (length (fields_of e ++ f)) some) refl)
    ∙ ap (λ (x : Next). and_then x (λ f t. events_of f t)) (next-back e f t)

-- the flat form of a list reads back to it
reads-back : (es : List Event) → events_of (all_fields es) (all_tokens es) ≡ flat es
unfolding all_fields all_tokens events_of events_in
reads-back [] = refl
reads-back (e ∷ es) = one_more e (all_fields es) (all_tokens es) ∙ ap (before e) (reads-back es)

-- a pair is the flat form of the list that it is read as
abbrev Whole : (fields tokens : List ℕ) → Flat → Type 0
Whole fields tokens (flat es) = (fields ≡ all_fields es) × (tokens ≡ all_tokens es)
Whole fields tokens no_flat = Unit

-- a slice of length 0 is empty
none_left : (l : List ℕ) → length l ≤ 0 → l ≡ []
none_left [] h = refl
none_left (x ∷ l) h = absurd (omega (arith, h))

-- no number left, and no byte: the list of no event
whole-ended : (fields tokens : List ℕ) → length fields ≤ 0 → Whole fields tokens (ended tokens)
unfolding all_fields all_tokens
whole-ended fields tokens h =
    cond_either (Whole fields tokens) (eqb (length tokens) 0) (flat []) no_flat
    (λ q. (none_left fields h, none_left tokens (omega (arith, eqb-true (length tokens) 0 q))))
    (λ q. tt)

-- an event's flat form in front of the flat form of the others
whole_before : (fields tokens : List ℕ) (e : Event) (f t : List ℕ) (o : Flat) → (fields ≡ fields_of e ++ f) × (tokens ≡ tokens_of e ++ t)
    → Whole f t o → Whole fields tokens (before e o)
unfolding all_fields all_tokens
whole_before fields tokens e f t no_flat s w = tt
whole_before fields tokens e f t (flat es) s w =
    (s.0 ∙ ap (λ (r : List ℕ). fields_of e ++ r) w.0, s.1 ∙ ap (λ (r : List ℕ). tokens_of e ++ r) w.1)

-- every pair that is read as a list, with count enough, is the list's flat form
whole : (k : ℕ) (fields tokens : List ℕ) → length fields ≤ k → Whole fields tokens (events_in k fields tokens)
unfolding events_in
whole zero fields tokens h = whole-ended fields tokens h
whole (suc k) fields tokens h =
    cond_either (Whole fields tokens) (ltb 0 (length fields)) (and_then (next_in fields tokens) (λ f t. events_in k f t)) (ended tokens)
    (λ q. go (λ f t s. whole k f t (omega (arith, h, s))) (next_in fields tokens) refl)
    (λ q. whole-ended fields tokens (ltb-false 0 (length fields) q))
  where
    go : ((f t : List ℕ) → suc (length f) ≤ length fields → Whole f t (events_in k f t)) → (x : Next) → next_in fields tokens ≡ x
        → Whole fields tokens (and_then x (λ f t. events_in k f t))
    go ih none e = tt
    go ih (next x f t) e = whole_before fields tokens x f t (events_in k f t) (next-is fields tokens x f t e) (ih f t (fewer fields tokens x f t e))

pub flat-form : FlatForm
unfolding events_of
flat-form = record {
  back = reads-back;
  no_other = λ fields tokens es h. subst (Whole fields tokens) h (whole (length fields) fields tokens (omega arith));
}
