-- A script has at most 32,766 events: its header takes three bytes at least, and each event two.
use mathlib.Core.Path.{◌≡◌, refl}
use Prim.Native.Nat.{ℕ, zero, suc, ◌+◌, ◌-◌, ◌*◌, ◌≤◌}
use native.Mathlib.Omega.{arith}
use mathlib.Core.Bool.{Bool, true, false, cond}
use mathlib.Core.List.{List, [], ◌∷◌}
use lib.Dec.{ltb}
use lib.ListN.{length}
use borrow.Author.Tests.{ltb-false}
use Rattle.base.proofs.Cases.{cond_both}
use Rattle.numbers.specs.Groups.{done, bad_script, Found, found, none, number_at}
use Rattle.drive.specs.State.{header_fits}
use Rattle.drive.specs.Events.{Event}
use Rattle.event_reader.specs.Fields.{Parsed, event, broken, event_at}
use Rattle.script.specs.Events.{Events, events, bad_from, before, and_then}
use Rattle.script.specs.Whole.{most_script_bytes, most_events, Header, header, no_header, field_header, header_from, header_at, accepted, bad, with_events, with_header, read_script}
use Rattle.script.specs.Parts.{events_in, events_from}
use Rattle.event_reader.proofs.Bounds.{NumberIn, number-at}
use Rattle.event_reader.proofs.Progress.{event-within}

-- the events from a place on: two bytes each
few-from : (k : ℕ) (s : List ℕ) (at : ℕ) (es : List Event) → at ≤ length s → events_in k s at ≡ events es → at + 2 * length es ≤ length s
unfolding events_in
few-from zero s at es l h = let e : es ≡ [] = cc in rw e (omega (arith, l))
few-from (suc k) s at es l h = go (λ n fs. few-from k s n fs) (ltb at (length s)) (event_at s at) refl h
  where
    first : ((n : ℕ) (fs : List Event) → n ≤ length s → events_in k s n ≡ events fs → n + 2 * length fs ≤ length s) → (x : ℕ) (e : Event) (y z n : ℕ) → event_at s at ≡ event x e y z n
        → (o : Events) → events_in k s n ≡ o → before e o ≡ events es → at + 2 * length es ≤ length s
    first ih x e y z n r (events fs) p q =
        let w : (e ∷ fs) ≡ es = cc in
        let b = event-within s at x e y z n r in
        rw (← w) (omega (arith, b.0, ih n fs b.1 p))
    first ih x e y z n r (bad_from w) p q = let z : ◌≡◌ {A = ℕ} 0 1 = cc in absurd (omega arith)

    go : ((n : ℕ) (fs : List Event) → n ≤ length s → events_in k s n ≡ events fs → n + 2 * length fs ≤ length s) → (t : Bool) (p : Parsed) → event_at s at ≡ p
        → cond t (and_then at p (λ n. events_in k s n)) (events []) ≡ events es → at + 2 * length es ≤ length s
    go ih true (event x e y z n) r q = first ih x e y z n r (events_in k s n) refl q
    go ih true (broken x) r q = let z : ◌≡◌ {A = ℕ} 0 1 = cc in absurd (omega arith)
    go ih false p r q = let e : es ≡ [] = cc in rw e (omega (arith, l))

-- a header: three numbers, within the script
header-within : (s : List ℕ) (o a b c n : ℕ) → header_at s ≡ header o a b c n → (3 ≤ n) × (n ≤ length s)
unfolding header_at header_from
header-within s o a b c n h = first (number_at s 0) (number-at s 0) h
  where
    told : (x y z m : ℕ) (t : Bool) → (3 ≤ m) × (m ≤ length s) → cond t (header done x y z m) (no_header bad_script 0) ≡ header o a b c n → (3 ≤ n) × (n ≤ length s)
    told x y z m true l q = let e : m ≡ n = cc in rw (← e) l
    told x y z m false l q = let w : ◌≡◌ {A = ℕ} 0 1 = cc in absurd (omega arith)

    third : (x y k : ℕ) → 2 ≤ k → (f : Found) → NumberIn (k + 1) (length s) f → field_header f (λ z m. cond (header_fits x y z) (header done x y z m) (no_header bad_script 0)) ≡ header o a b c n → (3 ≤ n) × (n ≤ length s)
    third x y k l (found w z m) i q = told x y z m (header_fits x y z) (omega (arith, l, i.0), i.1) q
    third x y k l (none v) i q = let w : ◌≡◌ {A = ℕ} 0 1 = cc in absurd (omega arith)

    second : (x k : ℕ) → 1 ≤ k → (f : Found) → NumberIn (k + 1) (length s) f
        → field_header f (λ y m. field_header (number_at s m) (λ z m. cond (header_fits x y z) (header done x y z m) (no_header bad_script 0))) ≡ header o a b c n → (3 ≤ n) × (n ≤ length s)
    second x k l (found w y m) i q = third x y m (omega (arith, l, i.0)) (number_at s m) (number-at s m) q
    second x k l (none v) i q = let w : ◌≡◌ {A = ℕ} 0 1 = cc in absurd (omega arith)

    first : (f : Found) → NumberIn 1 (length s) f
        → field_header f (λ x m. field_header (number_at s m) (λ y m. field_header (number_at s m) (λ z m. cond (header_fits x y z) (header done x y z m) (no_header bad_script 0)))) ≡ header o a b c n
        → (3 ≤ n) × (n ≤ length s)
    first (found w x m) i q = second x m i.0 (number_at s m) (number-at s m) q
    first (none v) i q = let w : ◌≡◌ {A = ℕ} 0 1 = cc in absurd (omega arith)

-- the place of a bad header is 0
abbrev pub AtStart : Header → Type 0
AtStart (header answer a b c n) = Unit {0}
AtStart (no_header answer place) = place ≡ 0

field-start : (f : Found) (k : ℕ → ℕ → Header) → ((v n : ℕ) → AtStart (k v n)) → AtStart (field_header f k)
field-start (found answer v n) k h = h v n
field-start (none answer) k h = refl

pub header-start : (s : List ℕ) → AtStart (header_at s)
unfolding header_at header_from
header-start s =
    field-start (number_at s 0) _ (λ a l. field-start (number_at s l) _ (λ b m. field-start (number_at s m) _ (λ c n.
    cond_both AtStart (header_fits a b c) (header done a b c n) (no_header bad_script 0) tt refl)))

pub few-events : (s : List ℕ) (capacity bands sensors : ℕ) (es : List Event) → read_script s ≡ accepted capacity bands sensors es → length es ≤ most_events
unfolding read_script events_from
few-events s capacity bands sensors es q = go (ltb most_script_bytes (length s)) refl (header_at s) refl q
  where
    all : (u a b c n : ℕ) → length s ≤ most_script_bytes → header_at s ≡ header u a b c n → (o : Events) → events_from s n ≡ o → with_events a b c o ≡ accepted capacity bands sensors es → length es ≤ most_events
    all u a b c n l h (events fs) p q =
        let e : fs ≡ es = cc in
        let w = header-within s u a b c n h in
        let m = few-from (length s - n) s n fs w.1 p in
        rw (← e) (omega (arith, l, w.0, m))
    all u a b c n l h (bad_from x) p q = let w : ◌≡◌ {A = ℕ} 0 1 = cc in absurd (omega arith)

    go : (t : Bool) → ltb most_script_bytes (length s) ≡ t → (h : Header) → header_at s ≡ h → cond t (bad 0) (with_header s h) ≡ accepted capacity bands sensors es → length es ≤ most_events
    go true l h p q = let w : ◌≡◌ {A = ℕ} 0 1 = cc in absurd (omega arith)
    go false l (header u a b c n) p q = let j = ltb-false most_script_bytes (length s) l in all u a b c n (omega (arith, j)) p (events_from s n) refl q
    go false l (no_header u v) p q = let w : ◌≡◌ {A = ℕ} 0 1 = cc in absurd (omega arith)
