-- A script's run as a whole: which events are run, and what is refused.
use mathlib.Core.Path.{◌≡◌, refl, sym, ap, ap₂, ◌∙◌}
use mathlib.Core.Logic.{◌⊎◌, inl, inr}
use Prim.Native.Nat.{ℕ, ◌≤◌, ◌<◌}
use native.Mathlib.Omega.{arith}
use mathlib.Core.Bool.{Bool, true, false, cond}
use mathlib.Core.List.{List}
use lib.Dec.{ltb}
use lib.ListN.{length, take}
use lib.Seq.{length-take-le, take_all}
use borrow.Author.Tests.{le-leb, lt-leb, ltb-true, ltb-false}
use Rattle.base.specs.Spliced.{over}
use Rattle.std.specs.Prelude.{Option, Some, None, Result, Ok, Err}
use Rattle.drive.specs.declared.Drive.{Drive}
use Rattle.drive.specs.declared.Header as D
use Rattle.drive.specs.State.{header_fits, fresh_drive, fresh_of}
use Rattle.drive.specs.Events.{Event, run_of, answers_of, stops_in}
use Rattle.numbers.specs.Groups.{done, bad_script, Found, found, none, number_at}
use Rattle.script.specs.declared.BadScript.{BadScript}
use Rattle.script.specs.declared.ScriptError.{ScriptError}
use Rattle.script.specs.declared.ScriptError.TheVariants as E
use Rattle.script.specs.Events.{Events, events, bad_from}
use Rattle.script.specs.Whole.{most_script_bytes, Header, header, no_header, field_header, header_from, header_in, header_at, Script, accepted, bad, with_events, with_header, read_script, reads, bad_at, checked_in, check_script, check_of}
use Rattle.script.specs.Parts.{events_from}
use Rattle.in_place.specs.FirstEvents.{first_events, after, events_run, first_events_run}
use Rattle.run.specs.Outcome.{RunOutcome, refused_run, run_events, run_script}
use Rattle.run.specs.Parts.{fewer_of, FirstRun}
use Rattle.run.proofs.Taken.{taken}

-- ---- how many events

-- asking for more than there are is asking for all
fewer-taken : {A : Type 0} (most : ℕ) (l : List A) → (fewer_of (length l) most ≤ length l) × (take (fewer_of (length l) most) l ≡ take most l)
fewer-taken most l = go (ltb most (length l)) refl
  where
    go : (t : Bool) → ltb most (length l) ≡ t → (cond t most (length l) ≤ length l) × (take (cond t most (length l)) l ≡ take most l)
    go true p = let h = ltb-true most (length l) p in (omega (arith, h), refl)
    go false p = let h = ltb-false most (length l) p in (omega arith, take_all (length l) l (omega arith) ∙ sym (take_all most l (omega (arith, h))))

-- ---- the header of a script that reads to its end

pub record Accepted (s : List ℕ) (capacity bands sensors : ℕ) (es : List Event) : Type 0 where
  pub next : ℕ
  pub answer : ℕ
  pub head : header_at s ≡ header answer capacity bands sensors next
  pub fits : header_fits capacity bands sensors ≡ true
  pub after : events_from s next ≡ events es

-- a header that is told is in range
head-fits : (s : List ℕ) (o a b c n : ℕ) → header_at s ≡ header o a b c n → header_fits a b c ≡ true
unfolding header_at header_from
head-fits s o a b c n h = first (number_at s 0) h
  where
    told : (x y z m : ℕ) (t : Bool) → header_fits x y z ≡ t → cond t (header done x y z m) (no_header bad_script 0) ≡ header o a b c n → header_fits a b c ≡ true
    told x y z m true p q = let e : x ≡ a = cc in let f : y ≡ b = cc in let g : z ≡ c = cc in rw (← e, ← f, ← g) p
    told x y z m false p q = let w : ◌≡◌ {A = ℕ} 0 1 = cc in absurd (omega arith)

    third : (x y : ℕ) (f : Found) → field_header f (λ z m. cond (header_fits x y z) (header done x y z m) (no_header bad_script 0)) ≡ header o a b c n → header_fits a b c ≡ true
    third x y (found u z m) q = told x y z m (header_fits x y z) refl q
    third x y (none u) q = let w : ◌≡◌ {A = ℕ} 0 1 = cc in absurd (omega arith)

    second : (x : ℕ) (f : Found) → field_header f (λ y m. field_header (number_at s m) (λ z m. cond (header_fits x y z) (header done x y z m) (no_header bad_script 0))) ≡ header o a b c n → header_fits a b c ≡ true
    second x (found u y m) q = third x y (number_at s m) q
    second x (none u) q = let w : ◌≡◌ {A = ℕ} 0 1 = cc in absurd (omega arith)

    first : (f : Found) → field_header f (λ x m. field_header (number_at s m) (λ y m. field_header (number_at s m) (λ z m. cond (header_fits x y z) (header done x y z m) (no_header bad_script 0)))) ≡ header o a b c n → header_fits a b c ≡ true
    first (found u x m) q = second x (number_at s m) q
    first (none u) q = let w : ◌≡◌ {A = ℕ} 0 1 = cc in absurd (omega arith)

pub accepted-is : (s : List ℕ) (capacity bands sensors : ℕ) (es : List Event) → read_script s ≡ accepted capacity bands sensors es → Accepted s capacity bands sensors es
unfolding read_script
accepted-is s capacity bands sensors es q = go (ltb most_script_bytes (length s)) (header_at s) refl q
  where
    all : (u a b c n : ℕ) → header_at s ≡ header u a b c n → (o : Events) → events_from s n ≡ o → with_events a b c o ≡ accepted capacity bands sensors es → Accepted s capacity bands sensors es
    all u a b c n h (events fs) p q =
        let ea : a ≡ capacity = cc in
        let eb : b ≡ bands = cc in
        let ec : c ≡ sensors = cc in
        let ef : fs ≡ es = cc in
        let k : header_at s ≡ header u capacity bands sensors n = rw (← ea, ← eb, ← ec) h in
        record { next = n; answer = u; head = k; fits = head-fits s u capacity bands sensors n k; after = p ∙ ap events ef }
    all u a b c n h (bad_from x) p q = let w : ◌≡◌ {A = ℕ} 0 1 = cc in absurd (omega arith)

    go : (t : Bool) (h : Header) → header_at s ≡ h → cond t (bad 0) (with_header s h) ≡ accepted capacity bands sensors es → Accepted s capacity bands sensors es
    go true h p q = let w : ◌≡◌ {A = ℕ} 0 1 = cc in absurd (omega arith)
    go false (header u a b c n) p q = all u a b c n p (events_from s n) refl q
    go false (no_header u v) p q = let w : ◌≡◌ {A = ℕ} 0 1 = cc in absurd (omega arith)

-- ---- the arms of a run

module _ (s : List ℕ) (most : ℕ) (answers stops : List ℕ) where
  -- a bad script
  pub bad_first : (b : BadScript) (error : ScriptError) (r : Result (ℕ × Drive) ScriptError) → r ≡ Err error → error ≡ E.Bad b.place → checked_in (Err b) ≡ check_of s
      → FirstRun s most answers stops r answers stops
  unfolding check_of
  bad_first b error r w q h = rw (w, q) (go (read_script s) h)
    where
      go : (o : Script) → bad_at bad_script b.place ≡ check_script o → refused_run bad_script b.place answers stops ≡ run_script o most answers stops
      go (bad x) h = let w : b.place ≡ x = cc in rw w
      go (accepted a b c es) h = let w : ◌≡◌ {A = ℕ} 0 1 = cc in absurd (omega arith)

  -- a script that reads to its end
  module _ (all count : ℕ) (e : checked_in (Ok all) ≡ check_of s) (c : count ≡ fewer_of all most) where
    of-events : (x : RunOutcome) → ((capacity bands sensors : ℕ) (es : List Event) → read_script s ≡ accepted capacity bands sensors es → count ≤ length es
        → x ≡ run_events (fresh_drive capacity bands sensors) (take count es) answers stops) → x ≡ run_script (read_script s) most answers stops
    unfolding check_of
    of-events x p = go (read_script s) refl e
      where
        go : (o : Script) → read_script s ≡ o → reads done all ≡ check_script o → x ≡ run_script o most answers stops
        go (bad y) i h = let w : ◌≡◌ {A = ℕ} 0 1 = cc in absurd (omega arith)
        go (accepted a b n es) i h =
            let w : all ≡ length es = cc in
            let f = fewer-taken most es in
            let m : count ≡ fewer_of (length es) most = rw (c, w) in
            p a b n es i (omega (arith, m, f.0)) ∙ ap (λ (l : List Event). run_events (fresh_drive a b n) l answers stops) (ap (λ (j : ℕ). take j es) m ∙ f.1)

    pub short_buffers : (length answers < count) ⊎ ((count ≤ length answers) × (length stops < count)) → FirstRun s most answers stops (Err E.ShortBuffer) answers stops
    short_buffers (inl h) = of-events _ (λ capacity bands sensors es q k. rw (length-take-le count es k, lt-leb count (length answers) h))
    short_buffers (inr h) =
        let h₀ = h.0 in
        let h₁ = h.1 in
        of-events _ (λ capacity bands sensors es q k. rw (length-take-le count es k, le-leb count (length answers) h₀, lt-leb count (length stops) h₁))

    pub headless : (t : List ℕ) (p next : ℕ) (h : Option D.Header) (r : Result (ℕ × Drive) ScriptError) → header_in h next ≡ header_from t p → h ≡ None → t ≡ s → p ≡ 0
        → FirstRun s most answers stops r answers stops
    unfolding header_at
    headless t p next w r g e et ep = let h : header_in None next ≡ header_from s 0 = ap (λ (x : Option D.Header). header_in x next) (sym e) ∙ g ∙ ap₂ header_from et ep in of-events _ (λ capacity bands sensors es q k.
        let a = accepted-is s capacity bands sensors es q in
        let n : no_header 10 0 ≡ header a.answer capacity bands sensors a.next = h ∙ a.head in
        let z : ◌≡◌ {A = ℕ} 0 1 = cc in
        absurd (omega arith))

    pub ran_first : (h : D.Header) (script : List ℕ) (at : ℕ) (t : List ℕ) (p : ℕ) (drive : Drive) (answers' stops' : List ℕ) → count ≤ length answers → count ≤ length stops → header_in (Some h) at ≡ header_from t p → script ≡ t → t ≡ s → p ≡ 0
        → after drive answers' stops' ≡ first_events_run script at count (fresh_of h.capacity h.bands h.sensors) answers stops
        → FirstRun s most answers stops (Ok (count, drive)) answers' stops'
    unfolding header_at
    ran_first h script at t p drive answers' stops' i j w est et ep g = of-events _ (λ capacity bands sensors es' q k.
        let a = accepted-is s capacity bands sensors es' q in
        let m : header 0 h.capacity h.bands h.sensors at ≡ header a.answer capacity bands sensors a.next = w ∙ ap₂ header_from et ep ∙ a.head in
        let ex : h.capacity ≡ capacity = cc in
        let ey : h.bands ≡ bands = cc in
        let ez : h.sensors ≡ sensors = cc in
        let en : a.next ≡ at = cc in
        let d : fresh_of h.capacity h.bands h.sensors ≡ fresh_drive capacity bands sensors = rw (ex, ey, ez, a.fits) in
        let f : first_events count script at ≡ take count es' = ap (λ (l : List ℕ). first_events count l at) (est ∙ et) ∙ taken count s at es' (ap (λ (n : ℕ). events_from s n) (sym en) ∙ a.after) in
        let v : after drive answers' stops' ≡ events_run (fresh_drive capacity bands sensors) (take count es') answers stops = g ∙ rw (le-leb count (length answers) i, le-leb count (length stops) j, d, f) in
        let n = length-take-le count es' k in
        let vd : drive ≡ run_of (fresh_drive capacity bands sensors) (take count es') = cc in
        let va : answers' ≡ over (answers_of (fresh_drive capacity bands sensors) (take count es')) answers = cc in
        let vs : stops' ≡ over (stops_in (fresh_drive capacity bands sensors) (take count es')) stops = cc in
        rw (n, le-leb count (length answers) i, le-leb count (length stops) j, vd, va, vs))
