-- A script as a whole: its header and its events have one form as bytes, and bytes one meaning.
use mathlib.Core.Path.{◌≡◌, refl, sym, ◌∙◌, subst}
use Prim.Native.Nat.{ℕ, zero, suc, ◌+◌, ◌-◌, ◌≤◌, ◌<◌}
use native.Mathlib.Omega.{arith}
use mathlib.Core.Bool.{true}
use mathlib.Core.List.{List, [], ◌∷◌}
use lib.Dec.{leb, ltb}
use lib.ListN.{length}
use borrow.Author.Tests.{ltb-false, lt-ltb, le-ltb, leb-true}
use Rattle.base.specs.Lists.{Bytes}
use Rattle.base.proofs.Cases.{cond_either, and_left, and_right}
use Rattle.numbers.specs.Groups.{done, bad_script, found, number_at}
use Rattle.drive.specs.State.{most_blocks, most_bands, most_sensors, header_fits}
use Rattle.drive.specs.Events.{Event}
use Rattle.event_reader.specs.Fields.{Parsed, event, broken, event_at}
use Rattle.event_reader.proofs.Progress.{event-within}
use Rattle.script.specs.Events.{Events, events, bad_from, before, and_then}
use Rattle.script.specs.Parts.{events_in, events_from}
use Rattle.script.specs.Whole.{most_script_bytes, Header, header, no_header, field_header, header_from, header_at, Script, accepted, bad, with_events, with_header, read_script}
use Rattle.script.proofs.Checking.{reads_on}
use Rattle.event_form.specs.Form.{numbers_bytes, event_bytes, holdable, Words}
use Rattle.script_form.specs.Written.{events_bytes, script_bytes, all_holdable, AllWords, Holds, ScriptForm}
use Rattle.script_form.proofs.Stands.{Stands, nothing, join, split, itself, only-itself, within, on-found, done-number, and_both, Reads, no_words, words-cons, numbers-stand, numbers-read}
use Rattle.script_form.proofs.Events.{event-stands, event-reads}

-- ---- the events

-- events that read from a place on stand there up to the script's end, and are some that a script can hold
abbrev Told : List ℕ → ℕ → Events → Type 0
Told s at (events es) = Stands s at (length s) (events_bytes es) × (all_holdable es ≡ true) × AllWords es
Told s at (bad_from place) = Unit {0}

-- no events, at the end
none_told : (s : List ℕ) (at : ℕ) → at ≤ length s → length s ≤ at → Told s at (events [])
unfolding events_bytes all_holdable
none_told s at l h = let e : at ≡ length s = omega (arith, l, h) in (subst (λ (n : ℕ). Stands s at n []) e (nothing s at), refl, tt)

-- an event in front of others
one_told : (s : List ℕ) → Bytes s → (at a : ℕ) (e : Event) (c d n : ℕ) → event_at s at ≡ event a e c d n → (o : Events) → Told s n o → Told s at (before e o)
unfolding events_bytes all_holdable
one_told s b at a e c d n q (events es) h =
    let x = event-stands s b at a e c d n q in
    (join s at n (length s) (event_bytes e) (events_bytes es) x.0 h.0, and_both (holdable e) (all_holdable es) x.1 h.1, (x.2, h.2))
one_told s b at a e c d n q (bad_from place) h = tt

-- so it is with the events from any place on
told_in : (k : ℕ) (s : List ℕ) → Bytes s → (at : ℕ) → at ≤ length s → length s - at ≤ k → Told s at (events_in k s at)
unfolding events_in
told_in zero s b at l h = none_told s at l (omega (arith, h))
told_in (suc k) s b at l h =
    cond_either (Told s at) (ltb at (length s)) (and_then at (event_at s at) (λ n. events_in k s n)) (events [])
    (λ t. on (event_at s at) refl (λ n. told_in k s b n)) (λ t. none_told s at l (ltb-false at (length s) t))
  where
    on : (p : Parsed) → event_at s at ≡ p → ((n : ℕ) → n ≤ length s → length s - n ≤ k → Told s n (events_in k s n))
        → Told s at (and_then at p (λ n. events_in k s n))
    on (event a e c d n) q more =
        let w = event-within s at a e c d n q in one_told s b at a e c d n q (events_in k s n) (more n w.1 (omega (arith, h, w.0, w.1)))
    on (broken a) q more = tt

-- and events that stand there read
events-read : (s : List ℕ) (at : ℕ) (es : List Event) → Stands s at (length s) (events_bytes es) → all_holdable es ≡ true → AllWords es
    → events_from s at ≡ events es
unfolding events_bytes all_holdable
events-read s at [] h k w = reads_on s at ∙ rw (le-ltb at (length s) (omega (arith, h.1)))
events-read s at (e ∷ es) h k w =
    let p = split s at (length s) (event_bytes e) (events_bytes es) h in
    let n = at + length (event_bytes e) in
    let l : n ≤ length s = omega (arith, p.1.1) in
    let r = event-reads s at n e p.0 l (and_left (holdable e) (all_holdable es) k) w.0 in
    let more = events-read s n es p.1 (and_right (holdable e) (all_holdable es) k) w.1 in
    let x = event-within s at done e r.0 r.1 n r.2 in
    let here : at < length s = omega (arith, x.0, x.1) in
    reads_on s at ∙ rw (lt-ltb at (length s) here, r.2, more)

-- ---- the header

-- a header that is read: three numbers from the start, in their ranges
abbrev Heads : List ℕ → Header → Type 0
Heads s (header a capacity bands sensors n) = Reads s 0 (capacity ∷ bands ∷ sensors ∷ []) n × (header_fits capacity bands sensors ≡ true)
Heads s (no_header a place) = Unit {0}

-- a field of the header, and the whole of it
on-header : (s : List ℕ) (at : ℕ) (k : ℕ → ℕ → Header) → ((v n : ℕ) → number_at s at ≡ found done v n → Heads s (k v n)) → Heads s (field_header (number_at s at) k)
on-header s at k go = on-found (Heads s) (λ a. no_header a 0) (λ a. tt) (number_at s at) k (λ a v n h. go v n (done-number s at a v n h))

header-heads : (s : List ℕ) → Heads s (header_at s)
unfolding header_at header_from
header-heads s =
    on-header s 0 _ (λ u a p. on-header s a _ (λ v b q. on-header s b _ (λ w c r.
    cond_either (Heads s) (header_fits u v w) (header done u v w c) (no_header bad_script 0) (λ t. ((a, p, (b, q, (c, r, refl))), t)) (λ t. tt))))

-- three numbers in their ranges are a header
header-reads : (s : List ℕ) (capacity bands sensors n : ℕ) → Reads s 0 (capacity ∷ bands ∷ sensors ∷ []) n → header_fits capacity bands sensors ≡ true
    → header_at s ≡ header done capacity bands sensors n
unfolding header_at header_from
header-reads s capacity bands sensors n r f = rw (r.1, r.2.1, r.2.2.1, f, r.2.2.2)

-- they are below 2^64
header-words : (capacity bands sensors : ℕ) → header_fits capacity bands sensors ≡ true → Words (capacity ∷ bands ∷ sensors ∷ [])
unfolding header_fits
header-words capacity bands sensors f =
    let a = and_right (leb 1 capacity) _ f in
    let c = and_right (leb 1 bands) _ (and_right (leb capacity most_blocks) _ a) in
    let x = leb-true capacity most_blocks (and_left (leb capacity most_blocks) _ a) in
    let y = leb-true bands most_bands (and_left (leb bands most_bands) _ c) in
    let z = leb-true sensors most_sensors (and_right (leb bands most_bands) _ c) in
    words-cons capacity (bands ∷ sensors ∷ []) (omega (arith, x))
    (words-cons bands (sensors ∷ []) (omega (arith, y)) (words-cons sensors [] (omega (arith, z)) no_words))

-- ---- the script

-- an accepted script is the bytes of its header and its events, and they are some that a script can hold
abbrev Whole : List ℕ → Script → Type 0
Whole s (accepted capacity bands sensors es) = (script_bytes capacity bands sensors es ≡ s) × Holds capacity bands sensors es
Whole s (bad place) = Unit {0}

-- a header and events that stand after it
with-events : (s : List ℕ) → Bytes s → length s ≤ most_script_bytes → (capacity bands sensors n : ℕ) → Heads s (header done capacity bands sensors n)
    → (o : Events) → Told s n o → Whole s (with_events capacity bands sensors o)
unfolding script_bytes
with-events s b l capacity bands sensors n f (events es) h =
    let ns = capacity ∷ bands ∷ sensors ∷ [] in
    let x = numbers-stand s b 0 n ns f.0 in
    let e = only-itself s (script_bytes capacity bands sensors es) (join s 0 n (length s) (numbers_bytes ns) (events_bytes es) x.0 h.0) in
    (sym e, record { header = f.1; events = h.1; numbers = h.2; short = subst (λ (o : List ℕ). length o ≤ most_script_bytes) e l })
with-events s b l capacity bands sensors n f (bad_from place) h = tt

-- so it is with every string of bytes
script-whole : (s : List ℕ) → Bytes s → Whole s (read_script s)
unfolding read_script events_from
script-whole s b =
    cond_either (Whole s) (ltb most_script_bytes (length s)) (bad 0) (with_header s (header_at s)) (λ t. tt)
    (λ t. on (ltb-false most_script_bytes (length s) t) (header_at s) (header-heads s))
  where
    on : length s ≤ most_script_bytes → (h : Header) → Heads s h → Whole s (with_header s h)
    on l (header a u v w n) f =
        let ns = u ∷ v ∷ w ∷ [] in
        let here = within s n (numbers_bytes ns) (numbers-stand s b 0 n ns f.0).0 in
        with-events s b l u v w n f (events_from s n) (told_in (length s - n) s b n here (omega arith))
    on l (no_header a place) f = tt

accepted-whole : (s : List ℕ) (capacity bands sensors : ℕ) (es : List Event) → Bytes s → read_script s ≡ accepted capacity bands sensors es
    → Whole s (accepted capacity bands sensors es)
accepted-whole s capacity bands sensors es b q = subst (Whole s) q (script-whole s b)

-- the bytes of a header and events that a script can hold read to them
script-reads : (s : List ℕ) (capacity bands sensors : ℕ) (es : List Event) → Holds capacity bands sensors es → script_bytes capacity bands sensors es ≡ s
    → read_script s ≡ accepted capacity bands sensors es
unfolding read_script script_bytes
script-reads s capacity bands sensors es h e =
    let ns = capacity ∷ bands ∷ sensors ∷ [] in
    let p = split s 0 (length s) (numbers_bytes ns) (events_bytes es) (subst (Stands s 0 (length s)) (sym e) (itself s)) in
    let n = 0 + length (numbers_bytes ns) in
    let r = header-reads s capacity bands sensors n (numbers-read s 0 n ns p.0 (header-words capacity bands sensors h.header)) h.header in
    let short = subst (λ (o : List ℕ). length o ≤ most_script_bytes) e h.short in
    rw (le-ltb most_script_bytes (length s) short, r, events-read s n es p.1 h.events h.numbers)

pub script-form : ScriptForm
script-form = record {
  read_back = λ c b n es h. script-reads (script_bytes c b n es) c b n es h refl;
  written-again = λ s c b n es k q. (accepted-whole s c b n es k q).0;
  held = λ s c b n es k q. (accepted-whole s c b n es k q).1;
  one_form = λ s t k l c b n es p q. sym (accepted-whole s c b n es k p).0 ∙ (accepted-whole t c b n es l q).0;
}
