-- The loop over the events of a script: the events run so far and what they left, and the next one.
use mathlib.Core.Path.{◌≡◌, refl, sym, ap, ◌∙◌, subst}
use Prim.Native.Nat.{ℕ, zero, suc, ◌+◌, ◌-◌, ◌≤◌, ◌<◌}
use native.Mathlib.Omega.{arith}
use mathlib.Core.Bool.{Bool, true, false, cond, true≢false}
use mathlib.Core.List.{List, [], ◌∷◌, ◌++◌, append-nil}
use lib.ListN.{length, set, replicate, length-append}
use borrow.Author.Tests.{le-leb, lt-leb}
use Rattle.std.specs.Prelude.{Option, Some, None, Result, Ok}
use Rattle.base.specs.Lists.{any}
use Rattle.base.specs.Spliced.{over}
use Rattle.answer.specs.declared.Refusal.{Refusal}
use Rattle.answer.specs.Numbers.{answer_number}
use Rattle.sensor.specs.Single.{runs}
use Rattle.base.proofs.Lists.{few-counted}
use Rattle.band.specs.declared.Row.{Row}
use Rattle.band.specs.Rows.{fresh_row}
use Rattle.band.specs.Parts.{is_lockable}
use Rattle.bands.proofs.Steady.{settle-steady}
use Rattle.drive.specs.declared.Drive.{Drive}
use Rattle.drive.specs.declared.Fresh.{Fresh}
use Rattle.drive.specs.declared.Event.{Event as Told}
use Rattle.drive.specs.State.{header_fits, fresh_drive, with_rows, Freshens, fresh_of, settle_of}
use Rattle.drive.specs.State.{tick_of, stop_next}
use Rattle.drive.specs.Events.{Event, Shape, ticking, resetting, setting, sensing, placing, looking, shape_of, if_ticking, event_in, answer_of, stops_of, step_of, run_of, along, answers_of, stops_in}
use Rattle.elapse.proofs.Calm.{stops-few}
use Rattle.base.specs.Ticks.{stops as ticked_stops}
use Rattle.base.proofs.Cases.{cond_both}
use lib.Dec.{eqb}
use Rattle.drive.proofs.Keeping.{along-length}
use Rattle.event_reader.specs.Fields.{Parsed, event, broken, event_at, Reads}
use Rattle.in_place.specs.declared.Run.{Run}
use Rattle.in_place.specs.FirstEvents.{then_more, first_events, after, events_run, first_events_run}
use Rattle.in_place.specs.Parts.{SettledSixteen, Kept, Runs, ended_in}

-- ---- the lists

along_one : (f : Drive → Event → ℕ) (d : Drive) (es : List Event) (e : Event) → along f d (es ++ (e ∷ [])) ≡ along f d es ++ (f (run_of d es) e ∷ [])
unfolding along run_of
along_one f d [] e = refl
along_one f d (x ∷ es) e = ap (λ l. f d x ∷ l) (along_one f (step_of d x) es e)

run-one : (d : Drive) (es : List Event) (e : Event) → run_of d (es ++ (e ∷ [])) ≡ step_of (run_of d es) e
unfolding run_of
run-one d [] e = refl
run-one d (x ∷ es) e = run-one (step_of d x) es e

-- the next byte over a lent buffer
set-over : (bytes lent : List ℕ) (v : ℕ) → length bytes < length lent → set (over bytes lent) (length bytes) v ≡ over (bytes ++ (v ∷ [])) lent
set-over [] [] v h = absurd (omega (arith, h))
set-over [] (x ∷ lent) v h = refl
set-over (b ∷ bytes) [] v h = absurd (omega (arith, h))
set-over (b ∷ bytes) (x ∷ lent) v h = ap (λ l. b ∷ l) (set-over bytes lent v (omega (arith, h)))

set-along : (f : Drive → Event → ℕ) (d : Drive) (es : List Event) (e : Event) (lent bytes : List ℕ) (i v : ℕ) → length es ≡ i → i < length lent
    → bytes ≡ over (along f d es) lent → v ≡ f (run_of d es) e → set bytes i v ≡ over (along f d (es ++ (e ∷ []))) lent
set-along f d es e lent bytes i v l h b w =
    let n : length (along f d es) ≡ i = along-length f d es ∙ l in
    rw (b, w, ← n) (set-over (along f d es) lent (f (run_of d es) e) (rw n h)) ∙ ap (λ (x : List ℕ). over x lent) (sym (along_one f d es e))

one_more : (done rest : List Event) (e : Event) → (done ++ (e ∷ [])) ++ rest ≡ done ++ (e ∷ rest)
one_more [] rest e = refl
one_more (x ∷ done) rest e = ap (λ l. x ∷ l) (one_more done rest e)

-- ---- the next event of a script

-- the event that reads is the first of those that are left, and where none reads none is left
first-reads : (n : ℕ) (s : List ℕ) (at : ℕ) (p : Parsed) (ev : Told) (next : ℕ) → event_at s at ≡ p → Reads s p at (Some ev) next
    → first_events (suc n) s at ≡ event_in ev ∷ first_events n s next
unfolding first_events
first-reads n s at (event answer e start count x) ev next w r =
    ap (λ (p : Parsed). then_more p (λ next. first_events n s next)) w ∙ ap (λ (i : ℕ). e ∷ first_events n s i) (sym r.3) ∙ ap (λ (y : Event). y ∷ first_events n s next) (sym r.1)
first-reads n s at (broken answer) ev next w r = absurd r

first-broken : (n : ℕ) (s : List ℕ) (at : ℕ) (p : Parsed) (next : ℕ) → event_at s at ≡ p → Reads s p at None next → first_events n s at ≡ []
unfolding first_events
first-broken zero s at p next w r = refl
first-broken (suc n) s at (event answer e start count x) next w r = absurd r
first-broken (suc n) s at (broken answer) next w r = ap (λ (p : Parsed). then_more p (λ next. first_events n s next)) w

first-none : (n : ℕ) (s : List ℕ) (at : ℕ) → n ≡ 0 → first_events n s at ≡ []
unfolding first_events
first-none n s at e = ap (λ (m : ℕ). first_events m s at) e

-- ---- the loop's invariant: the events run so far and what they left, and those that are left

pub record RunSoFar (s : List ℕ) (start count : ℕ) (fresh : Drive) (answers₀ stops₀ : List ℕ) (r : Run) (answers stops : List ℕ) (left : List ℕ) (at i : ℕ) : Type 0 where
  pub script : left ≡ s
  pub done : List Event
  pub far : length done ≡ i
  pub whole : done ++ first_events (count - i) s at ≡ first_events count s start
  pub ran : after r.drive answers stops ≡ events_run fresh done answers₀ stops₀
  pub kept : Kept r

module _ (s : List ℕ) (start count : ℕ) (fresh : Drive) (answers₀ stops₀ : List ℕ) where
  pub run_begin : SettledSixteen fresh → RunSoFar s start count fresh answers₀ stops₀ (record { drive = fresh; any_lockable = true }) answers₀ stops₀ s start 0
  unfolding along run_of
  run_begin k = record {
    script = refl;
    done = [];
    far = refl;
    whole = ap (λ (n : ℕ). first_events n s start) (omega arith);
    ran = refl;
    kept = record { drive = k; flag = λ e. absurd (true≢false e) };
  }

  module _ (r : Run) (answers stops left : List ℕ) (at i : ℕ) (g : RunSoFar s start count fresh answers₀ stops₀ r answers stops left at i) where
    -- no event is left: what is there is what all of them leave
    run_end : first_events (count - i) s at ≡ [] → after r.drive answers stops ≡ events_run fresh (first_events count s start) answers₀ stops₀
    run_end e =
        let t : first_events count s start ≡ g.done = sym g.whole ∙ ap (λ (l : List Event). g.done ++ l) e ∙ append-nil g.done in
        g.ran ∙ ap (λ (es : List Event). events_run fresh es answers₀ stops₀) (sym t)

    pub run_done : count ≤ i → after r.drive answers stops ≡ events_run fresh (first_events count s start) answers₀ stops₀
    run_done h = run_end (first-none (count - i) s at (omega (arith, h)))

    pub run_broken : (res : Option Told) (next : ℕ) → Reads left (event_at left at) at res next → res ≡ None → after r.drive answers stops ≡ events_run fresh (first_events count s start) answers₀ stops₀
    run_broken res next w e =
        let v : Reads left (event_at left at) at None next = subst (λ (x : Option Told). Reads left (event_at left at) at x next) e w in
        run_end (first-broken (count - i) s at (event_at s at) next refl (subst (λ (l : List ℕ). Reads l (event_at l at) at None next) g.script v))

    -- the next event run, and its two bytes written
    pub run_again : (ev : Told) (next : ℕ) (res : Result ℕ Refusal) (now : Run) (script : List ℕ) (a z : ℕ) → i < count → (count ≤ length answers₀) × (count ≤ length stops₀)
        → Reads left (event_at left at) at (Some ev) next → script ≡ left → Runs r (event_in ev) res now → a ≡ answer_number res → z ≡ ended_in res
        → RunSoFar s start count fresh answers₀ stops₀ now (set answers i a) (set stops i z) script next (i + 1)
    run_again ev next res now script a z h long w es v ea ez = record {
      script = es ∙ g.script;
      done = g.done ++ (e ∷ []);
      far = length-append g.done (e ∷ []) ∙ ap (λ (m : ℕ). m + 1) g.far;
      whole = one_more g.done (first_events (count - (i + 1)) s next) e ∙ ap (λ (l : List Event). g.done ++ l) (sym rest) ∙ g.whole;
      ran = rw (drive-is, answers-are, stops-are);
      kept = v.kept;
    }
      where
        e : Event
        e = event_in ev

        was : after r.drive answers stops ≡ events_run fresh g.done answers₀ stops₀
        was = g.ran

        same : r.drive ≡ run_of fresh g.done
        same = cc

        drive-is : now.drive ≡ run_of fresh (g.done ++ (e ∷ []))
        drive-is = v.drive ∙ ap (λ (y : Drive). step_of y e) same ∙ sym (run-one fresh g.done e)

        answers-are : set answers i a ≡ over (answers_of fresh (g.done ++ (e ∷ []))) answers₀
        answers-are = set-along answer_of fresh g.done e answers₀ answers i a g.far (omega (arith, h, long.0)) (cc) (ea ∙ v.answer ∙ ap (λ (y : Drive). answer_of y e) same)

        stops-are : set stops i z ≡ over (stops_in fresh (g.done ++ (e ∷ []))) stops₀
        stops-are = set-along stops_of fresh g.done e stops₀ stops i z g.far (omega (arith, h, long.1)) (cc) (ez ∙ v.stops ∙ ap (λ (y : Drive). stops_of y e) same)

        rest : first_events (count - i) s at ≡ e ∷ first_events (count - (i + 1)) s next
        rest =
            ap (λ (m : ℕ). first_events m s at) (omega (arith, h))
            ∙ first-reads (count - (i + 1)) s at (event_at s at) ev next refl (subst (λ (l : List ℕ). Reads l (event_at l at) at (Some ev) next) g.script w)

    -- an event's stops fit a byte: "at most the number of timers running at its start", and a drive has sixteen
    pub stops_fit : (e : Event) (z : ℕ) (now : Run) → Runs r e (Ok z) now → z ≤ 16
    unfolding stops_of
    stops_fit e z now v =
        subst (λ (m : ℕ). m ≤ 16) (sym v.stops) (cond_both (λ m. m ≤ 16) (eqb (answer_of r.drive e) 0) _ _ (ticked (shape_of e)) (omega arith))
      where
        ticked : (x : Shape) → if_ticking x (λ n. ticked_stops tick_of stop_next n r.drive) 0 ≤ 16
        ticked (ticking n) = omega (arith, stops-few n r.drive, few-counted runs r.drive.sensors, g.kept.drive.sensors)
        ticked (resetting t) = omega arith
        ticked (setting b c bytes) = omega arith
        ticked (sensing s x) = omega arith
        ticked (placing b start n) = omega arith
        ticked (looking w start n) = omega arith

-- ---- from the fresh drive

fresh-steady : any is_lockable (replicate 16 fresh_row) ≡ false
unfolding any fresh_row
fresh-steady = refl

fresh-drive-sixteen : (capacity bands sensors : ℕ) → SettledSixteen (fresh_drive capacity bands sensors)
unfolding fresh_drive settle_of
fresh-drive-sixteen capacity bands sensors = record {
  rows = refl;
  sensors = refl;
  settled = ap (λ (rows : List Row). with_rows rows (fresh_drive capacity bands sensors)) (settle-steady _ (replicate 16 fresh_row) fresh-steady);
}

module _ (capacity bands sensors : ℕ) (f : Fresh) (p : Freshens capacity bands sensors f) where
  pub fresh_sixteen : SettledSixteen f.drive
  fresh_sixteen = subst SettledSixteen (sym p.drive) (go (header_fits capacity bands sensors))
    where
      go : (b : Bool) → SettledSixteen (cond b (fresh_drive capacity bands sensors) (fresh_drive 1 1 0))
      go true = fresh-drive-sixteen capacity bands sensors
      go false = fresh-drive-sixteen 1 1 0

  module _ (s : List ℕ) (start count : ℕ) (answers stops : List ℕ) where
    pub short_answers : length answers < count → after f.drive answers stops ≡ first_events_run s start count (fresh_of capacity bands sensors) answers stops
    short_answers h = ap (λ (d : Drive). after d answers stops) p.drive ∙ rw (lt-leb count (length answers) h)

    pub short_stops : count ≤ length answers → length stops < count → after f.drive answers stops ≡ first_events_run s start count (fresh_of capacity bands sensors) answers stops
    short_stops g h = ap (λ (d : Drive). after d answers stops) p.drive ∙ rw (le-leb count (length answers) g, lt-leb count (length stops) h)

    pub long_enough : (d : Drive) (answers' stops' : List ℕ) → count ≤ length answers → count ≤ length stops → after d answers' stops' ≡ events_run f.drive (first_events count s start) answers stops
        → after d answers' stops' ≡ first_events_run s start count (fresh_of capacity bands sensors) answers stops
    long_enough d answers' stops' g h e =
        e ∙ ap (λ (x : Drive). events_run x (first_events count s start) answers stops) p.drive ∙ rw (le-leb count (length answers) g, le-leb count (length stops) h)
