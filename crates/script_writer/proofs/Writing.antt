-- The loop over the events of the flat form.
use mathlib.Core.Path.{◌≡◌, refl, sym, ap, ◌∙◌, subst}
use Prim.Native.Nat.{ℕ, ◌+◌, ◌-◌, ◌≤◌, ◌<◌}
use native.Mathlib.Nat.{add_assoc, add-zero}
use native.Mathlib.Omega.{arith}
use mathlib.Core.Bool.{Bool, true, false, not, cond, ◌&&◌}
use mathlib.Core.List.{List, [], ◌∷◌, ◌++◌, append_assoc, append-nil}
use lib.Dec.{eqb, leb}
use lib.ListN.{length, take, drop, length-append, length-drop}
use lib.Seq.{drop-append_seam, take_all}
use borrow.Author.Tests.{lt-ltb, lt-leb, eqb-true, eqb-false, not-true, not-false}
use Rattle.std.specs.Bool.{then_some}
use Rattle.std.specs.Prelude.{Option, Some, None}
use Rattle.base.specs.Spliced.{spliced}
use Rattle.base.proofs.Cases.{and_no, and-false}
use Rattle.base.proofs.Spliced.{splice-none, splice-twice}
use Rattle.drive.specs.Events.{Event}
use Rattle.event_form.specs.Form.{event_bytes, holdable, fields_of, tokens_of}
use Rattle.event_form.specs.Parts.{Next, next, none, next_in, Flat, flat, no_flat, ended, and_then, events_of}
use Rattle.event_form.specs.Parts.{before as in-front}
use Rattle.event_form.proofs.Flat.{next-is, event-takes, events-on}
use Rattle.script.specs.Whole.{most_script_bytes}
use Rattle.script_form.specs.Written.{events_bytes, all_holdable}
use Rattle.script_writer.specs.declared.EventPut.{EventPut}
use Rattle.script_writer.specs.Parts.{PutAt, PutsEvent, PutsEvents}

-- events in front of those that are left
abbrev after : List Event → Flat → Flat
after [] o = o
after (e ∷ es) o = in-front e (after es o)

after_one : (es : List Event) (e : Event) (o : Flat) → after es (in-front e o) ≡ after (es ++ e ∷ []) o
after_one [] e o = refl
after_one (x ∷ es) e o = ap (in-front x) (after_one es e o)

after_none : (es : List Event) → after es (flat []) ≡ flat es
after_none [] = refl
after_none (e ∷ es) = rw (after_none es)

-- what is left is a list of events where the whole is
after-flat : (es : List Event) (o : Flat) (all : List Event) → after es o ≡ flat all → (left : List Event) × (o ≡ flat left) × (all ≡ es ++ left)
after-flat [] o all h = (all, h, refl)
after-flat (e ∷ es) o all h = go (λ fs q. after-flat es o fs q) (after es o) refl h
  where
    go : ((fs : List Event) → after es o ≡ flat fs → (left : List Event) × (o ≡ flat left) × (fs ≡ es ++ left)) → (r : Flat) → after es o ≡ r → in-front e r ≡ flat all → (left : List Event) × (o ≡ flat left) × (all ≡ (e ∷ es) ++ left)
    go ih (flat fs) q k =
        let w : (e ∷ fs) ≡ all = cc in
        let i = ih fs q in
        (i.0, i.1, sym w ∙ ap (λ (l : List Event). e ∷ l) i.2)
    go ih no_flat q k = let z : ◌≡◌ {A = ℕ} 0 1 = cc in absurd (omega arith)

-- all events of two lists

hold-append : (xs ys : List Event) → all_holdable (xs ++ ys) ≡ (all_holdable xs && all_holdable ys)
unfolding all_holdable
hold-append [] ys = refl
hold-append (e ∷ xs) ys = rw (hold-append xs ys) (and_assoc (holdable e) (all_holdable xs) (all_holdable ys))
  where
    and_assoc : (x y z : Bool) → (x && (y && z)) ≡ ((x && y) && z)
    and_assoc true y z = refl
    and_assoc false y z = refl

bytes-append : (xs ys : List Event) → events_bytes (xs ++ ys) ≡ events_bytes xs ++ events_bytes ys
unfolding events_bytes
bytes-append [] ys = refl
bytes-append (e ∷ xs) ys = rw (bytes-append xs ys, append_assoc (event_bytes e) (events_bytes xs) (events_bytes ys))

one-bytes : (es : List Event) (e : Event) → events_bytes (es ++ e ∷ []) ≡ events_bytes es ++ event_bytes e
unfolding events_bytes
one-bytes es e = rw (bytes-append es (e ∷ []), append-nil (event_bytes e))

one_holds : (es : List Event) (e : Event) → all_holdable es ≡ true → holdable e ≡ true → all_holdable (es ++ e ∷ []) ≡ true
unfolding all_holdable
one_holds es e h k = rw (hold-append es (e ∷ []), h, k)

-- the part of a slice from a place on
part-is : (l : List ℕ) (i : ℕ) → take (length l - i) (drop i l) ≡ drop i l
part-is l i = take_all (length l - i) (drop i l) (omega (arith, length-drop i l))

-- ---- some events are put, up to the place `at`; numbers and tokens are left

pub record Writing (fields₀ tokens₀ before : List ℕ) (start : ℕ) (bytes : List ℕ) (at : ℕ) (fields tokens : List ℕ) : Type 0 where
  pub es : List Event
  pub given : events_of fields₀ tokens₀ ≡ after es (events_of fields tokens)
  pub hold : all_holdable es ≡ true
  pub place_is : at ≡ start + length (events_bytes es)
  pub short : at ≤ most_script_bytes
  pub holds : bytes ≡ spliced before start (events_bytes es)
  pub long : length bytes ≡ length before

pub write-begin : (fields tokens before : List ℕ) (start : ℕ) → start ≤ most_script_bytes → Writing fields tokens before start before start fields tokens
unfolding events_bytes all_holdable
write-begin fields tokens before start h = record {
  es = [];
  given = refl;
  hold = refl;
  place_is = sym (add-zero start);
  short = h;
  holds = splice-none before start;
  long = refl;
}

-- no list of events that a script can hold is the whole
abbrev pub CannotHold : (fields₀ tokens₀ : List ℕ) (start : ℕ) → Type 0
CannotHold fields₀ tokens₀ start =
    (all : List Event) → events_of fields₀ tokens₀ ≡ flat all → (all_holdable all && leb (start + length (events_bytes all)) most_script_bytes) ≡ false

module _ (fields₀ tokens₀ before : List ℕ) (start : ℕ) (bytes : List ℕ) (at : ℕ) (fields tokens : List ℕ) (s : Writing fields₀ tokens₀ before start bytes at fields tokens) where
  pub write-room : length before ≡ 66660 → at + 1124 ≤ length bytes
  write-room h = omega (arith, s.short, s.long)

  -- an event is left
  one_more : 0 < length fields → events_of fields tokens ≡ and_then (next_in fields tokens) (λ f t. events_of f t)
  one_more h = events-on fields tokens ∙ rw (lt-ltb 0 (length fields) h)

  -- where the whole is a list of events, so is what is left, and it begins with that event
  begins : 0 < length fields → (all : List Event) → events_of fields₀ tokens₀ ≡ flat all
      → (e : Event) × (f : List ℕ) × (t : List ℕ) × (left : List Event) × (next_in fields tokens ≡ next e f t) × (all ≡ s.es ++ e ∷ left)
  begins h all q =
      let r = after-flat s.es (events_of fields tokens) all (sym s.given ∙ q) in
      go (next_in fields tokens) refl r.0 (sym (one_more h) ∙ r.1) r.2
    where
      both : (e : Event) (f t : List ℕ) → next_in fields tokens ≡ next e f t → (left : List Event) → (o : Flat) → in-front e o ≡ flat left
          → all ≡ s.es ++ left
          → (e : Event) × (f : List ℕ) × (t : List ℕ) × (left : List Event) × (next_in fields tokens ≡ next e f t) × (all ≡ s.es ++ e ∷ left)
      both e f t p left (flat fs) k w = let y : (e ∷ fs) ≡ left = cc in (e, f, t, fs, p, rw y w)
      both e f t p left no_flat k w = let z : ◌≡◌ {A = ℕ} 0 1 = cc in absurd (omega arith)

      go : (n : Next) → next_in fields tokens ≡ n → (left : List Event) → and_then n (λ f t. events_of f t) ≡ flat left
          → all ≡ s.es ++ left
          → (e : Event) × (f : List ℕ) × (t : List ℕ) × (left : List Event) × (next_in fields tokens ≡ next e f t) × (all ≡ s.es ++ e ∷ left)
      go (next e f t) p left k w = both e f t p left (events_of f t) k w
      go none p left k w = let z : ◌≡◌ {A = ℕ} 0 1 = cc in absurd (omega arith)

  some-left : (b : Bool) → b ≡ eqb (length fields) 0 → not b ≡ true → 0 < length fields
  some-left b e q = let n : eqb (length fields) 0 ≡ false = sym e ∙ not-true b q in omega (arith, eqb-false (length fields) 0 n)

  bad : (r : Option EventPut) (put : List ℕ) → 0 < length fields → PutsEvent fields tokens bytes at r put → r ≡ None → CannotHold fields₀ tokens₀ start
  unfolding all_holdable
  bad r put h p q all w =
      let b = begins h all w in
      let k : holdable b.0 ≡ false = subst (λ (x : Option EventPut). PutsEvent fields tokens bytes at x put) q p b.0 b.1 b.2 b.4 in
      let f : all_holdable all ≡ false = ap all_holdable b.5 ∙ rw (hold-append s.es (b.0 ∷ b.3), s.hold, k) in
      sym (and_no (all_holdable all) (leb (start + length (events_bytes all)) most_script_bytes) f)

  pub write-bad : (b : Bool) → b ≡ eqb (length fields) 0 → not b ≡ true → (r : Option EventPut) (put : List ℕ) → PutsEvent fields tokens bytes at r put → r ≡ None
      → (o : Option ℕ) → o ≡ None → PutsEvents (events_of fields₀ tokens₀) before start o put
  write-bad b e n r put p q o k =
      subst (λ (x : Option ℕ). PutsEvents (events_of fields₀ tokens₀) before start x put) (sym k) (bad r put (some-left b e n) p q)

  -- an event was put
  module _ (place width count : ℕ) (put : List ℕ) (told : PutAt fields tokens bytes at place width count put) where
    split : (fields ≡ fields_of told.e ++ told.f) × (tokens ≡ tokens_of told.e ++ told.t)
    split = next-is fields tokens told.e told.f told.t told.given

    width-takes : 1 ≤ width
    width-takes = omega (arith, told.width_is, event-takes told.e)

    width-within : width ≤ length fields
    width-within = omega (arith, told.width_is, ap length split.0, length-append (fields_of told.e) told.f)

    count-within : count ≤ length tokens
    count-within = omega (arith, told.count-is, ap length split.1, length-append (tokens_of told.e) told.t)

    left-fields : take (length fields - width) (drop width fields) ≡ told.f
    left-fields = part-is fields width ∙ rw (told.width_is, split.0) (drop-append_seam (fields_of told.e) told.f)

    left-tokens : take (length tokens - count) (drop count tokens) ≡ told.t
    left-tokens = part-is tokens count ∙ rw (told.count-is, split.1) (drop-append_seam (tokens_of told.e) told.t)

    less : length (take (length fields - width) (drop width fields)) < length fields
    less = rw (part-is fields width) (omega (arith, length-drop width fields, width-takes, width-within))

    again : 0 < length fields → place ≤ most_script_bytes → length put ≡ length bytes → length before ≡ 66660 → start ≤ most_script_bytes
        → Writing fields₀ tokens₀ before start put place (take (length fields - width) (drop width fields)) (take (length tokens - count) (drop count tokens))
    again h l k b m = record {
      es = s.es ++ told.e ∷ [];
      given = s.given ∙ rw (one_more h, told.given, left-fields, left-tokens) (after_one s.es told.e (events_of told.f told.t));
      hold = one_holds s.es told.e s.hold told.holds;
      place_is = rw (told.place_is, s.place_is, one-bytes s.es told.e, length-append (events_bytes s.es) (event_bytes told.e), add_assoc);
      short = l;
      holds =
          rw (told.bytes, s.holds, s.place_is, one-bytes s.es told.e)
          (splice-twice before start (events_bytes s.es) (event_bytes told.e) (omega (arith, b, m)));
      long = k ∙ s.long;
    }

    long-script : 0 < length fields → most_script_bytes < place → CannotHold fields₀ tokens₀ start
    unfolding events_bytes
    long-script h l all w =
        let b = begins h all w in
        let y : next told.e told.f told.t ≡ next b.0 b.1 b.2 = sym told.given ∙ b.4 in
        let e : told.e ≡ b.0 = cc in
        let m : length (events_bytes all) ≡ length (events_bytes s.es) + (length (event_bytes b.0) + length (events_bytes b.3)) =
        ap (λ (x : List Event). length (events_bytes x)) b.5
        ∙ rw (bytes-append s.es (b.0 ∷ b.3), length-append (events_bytes s.es) (event_bytes b.0 ++ events_bytes b.3), length-append (event_bytes b.0) (events_bytes b.3)) in
        let n : place ≡ at + length (event_bytes b.0) = told.place_is ∙ ap (λ (x : Event). at + length (event_bytes x)) e in
        let f : leb (start + length (events_bytes all)) most_script_bytes ≡ false =
        lt-leb (start + length (events_bytes all)) most_script_bytes (omega (arith, l, m, n, s.place_is)) in
        rw f (and-false (all_holdable all))

  module _ (r : Option EventPut) (p : EventPut) (put : List ℕ) (g : PutsEvent fields tokens bytes at r put) (q : r ≡ Some p) where
    told : PutAt fields tokens bytes at p.place p.width p.count put
    told = subst (λ (x : Option EventPut). PutsEvent fields tokens bytes at x put) q g

    pub width_fits : p.width ≤ length fields
    width_fits = width-within p.place p.width p.count put told

    pub count_fits : p.count ≤ length tokens
    count_fits = count-within p.place p.width p.count put told

    pub write-less : length (take (length fields - p.width) (drop p.width fields)) < length fields
    write-less = less p.place p.width p.count put told

    module _ (b : Bool) (e : b ≡ eqb (length fields) 0) (n : not b ≡ true) where
      pub write_again : p.place ≤ most_script_bytes → length put ≡ length bytes → length before ≡ 66660 → start ≤ most_script_bytes
          → Writing fields₀ tokens₀ before start put p.place (take (length fields - p.width) (drop p.width fields)) (take (length tokens - p.count) (drop p.count tokens))
      write_again = again p.place p.width p.count put told (some-left b e n)

      pub write-long : most_script_bytes < p.place → CannotHold fields₀ tokens₀ start
      write-long = long-script p.place p.width p.count put told (some-left b e n)

  -- no number is left
  module _ (b : Bool) (y : b ≡ eqb (length fields) 0) (n : not b ≡ false) where
    at-end : events_of fields tokens ≡ ended tokens
    at-end = let h : length fields ≡ 0 = eqb-true (length fields) 0 (sym y ∙ not-false b n) in events-on fields tokens ∙ rw h

    end-by : (t : Bool) → eqb (length tokens) 0 ≡ t → PutsEvents (events_of fields₀ tokens₀) before start (cond t (Some at) None) bytes
    end-by true q = record {
      es = s.es;
      is = s.given ∙ rw (at-end, q) (after_none s.es);
      hold = s.hold;
      place_is = s.place_is;
      short = s.short;
      bytes = s.holds;
    }
    end-by false q = λ all w.
        let r = after-flat s.es (events_of fields tokens) all (sym s.given ∙ w) in
        let k : no_flat ≡ flat r.0 = sym (at-end ∙ rw q) ∙ r.1 in
        let z : ◌≡◌ {A = ℕ} 0 1 = cc in
        absurd (omega arith)

    pub write-end : (t : Bool) (r : Option ℕ) → t ≡ eqb (length tokens) 0 → r ≡ then_some t at → PutsEvents (events_of fields₀ tokens₀) before start r bytes
    write-end true r e q = subst (λ (x : Option ℕ). PutsEvents (events_of fields₀ tokens₀) before start x bytes) (sym q) (end-by true (sym e))
    write-end false r e q = subst (λ (x : Option ℕ). PutsEvents (events_of fields₀ tokens₀) before start x bytes) (sym q) (end-by false (sym e))
