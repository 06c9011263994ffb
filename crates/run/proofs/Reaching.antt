-- Every drive that a run hands back is reached: the tokens of a script's events are bytes, since they are bytes of the script.
use mathlib.Core.Path.{◌≡◌, refl, sym, subst}
use Prim.Native.Nat.{ℕ, zero, suc, ◌-◌, ◌≤◌}
use native.Mathlib.Omega.{arith}
use mathlib.Core.Bool.{Bool, true, false, cond, ◌&&◌}
use mathlib.Core.List.{List, [], ◌∷◌}
use lib.Dec.{leb, ltb}
use lib.ListN.{length, take, get_or, length-take}
use mir.Syntax.{w8}
use mir.Val.{Fits}
use Rattle.std.specs.Prelude.{Result, Ok, Err}
use Rattle.script.specs.declared.ScriptError.{ScriptError}
use Rattle.drive.specs.declared.Drive.{Drive}
use Rattle.base.proofs.Cases.{cond_both}
use Rattle.base.specs.Lists.{Bytes}
use Rattle.base.proofs.Bytes.{bytes_drop, bytes_take}
use Rattle.drive.specs.State.{header_fits, fresh_drive}
use Rattle.drive.specs.Events.{Event}
use Rattle.reached.specs.Reached.{Reached, AllFields}
use Rattle.reached.proofs.Reaching.{fresh-reached, run-reached}
use Rattle.event_reader.specs.Fields.{Parsed, event, broken, tokens_at, event_at}
use Rattle.event_reader.proofs.Progress.{event-tokens}
use Rattle.script.specs.Events.{Events, events, bad_from, before, and_then}
use Rattle.script.specs.Parts.{events_in, events_from}
use Rattle.script.specs.Whole.{most_events, Script, accepted, bad, read_script}
use Rattle.script.proofs.Few.{few-events}
use Rattle.run.specs.declared.Ran.{Ran}
use Rattle.run.specs.Reached.{RunReaches}
use Rattle.run.specs.Outcome.{RunOutcome, outcome, outcome_by, outcome_in, run_events, run_script}
use Rattle.run.proofs.Whole.{accepted-is}

-- ---- the tokens are bytes

tokens-bytes : (s : List ℕ) (start count : ℕ) → Bytes s → Bytes (tokens_at s start count)
tokens-bytes s start count b =
    cond_both Bytes (leb start (length s)) _ [] (cond_both Bytes (leb count (length s - start)) _ [] (bytes_take count _ (bytes_drop s start b)) (λ i. omega arith))
    (λ i. omega arith)

events-fields : (k : ℕ) (s : List ℕ) (at : ℕ) (es : List Event) → Bytes s → events_in k s at ≡ events es → AllFields es
unfolding events_in
events-fields zero s at es b h = let e : es ≡ [] = cc in rw e tt
events-fields (suc k) s at es b h = go (λ n fs. events-fields k s n fs b) (ltb at (length s)) (event_at s at) refl h
  where
    first : ((n : ℕ) (fs : List Event) → events_in k s n ≡ events fs → AllFields fs) → (x : ℕ) (e : Event) (y z n : ℕ) → event_at s at ≡ event x e y z n
        → (o : Events) → events_in k s n ≡ o → before e o ≡ events es → AllFields es
    first ih x e y z n r (events fs) p q =
        let w : (e ∷ fs) ≡ es = cc in
        subst AllFields w (subst Bytes (sym (event-tokens s at x e y z n r)) (tokens-bytes s y z b), ih n fs p)
    first ih x e y z n r (bad_from w) p q = let z : ◌≡◌ {A = ℕ} 0 1 = cc in absurd (omega arith)

    go : ((n : ℕ) (fs : List Event) → events_in k s n ≡ events fs → AllFields fs) → (t : Bool) (p : Parsed) → event_at s at ≡ p
        → cond t (and_then at p (λ n. events_in k s n)) (events []) ≡ events es → AllFields es
    go ih true (event x e y z n) r q = first ih x e y z n r (events_in k s n) refl q
    go ih true (broken x) r q = let z : ◌≡◌ {A = ℕ} 0 1 = cc in absurd (omega arith)
    go ih false p r q = let e : es ≡ [] = cc in rw e tt

fields-take : (n : ℕ) (es : List Event) → AllFields es → AllFields (take n es)
fields-take zero es f = tt
fields-take (suc n) [] f = tt
fields-take (suc n) (e ∷ es) f = (f.0, fields-take n es f.1)

-- ---- what a run hands back

abbrev ReachedIn : RunOutcome → Type 0
ReachedIn (outcome answer place count drive answers stops) = Reached drive × (count ≤ most_events)

-- a refused run hands back the drive of a refused header
refused : Reached (fresh_drive 1 1 0)
unfolding header_fits
refused = fresh-reached 1 1 0 refl

events-reached : (capacity bands sensors : ℕ) (es : List Event) (answers stops : List ℕ) → header_fits capacity bands sensors ≡ true → AllFields es
    → length es ≤ most_events
    → ReachedIn (run_events (fresh_drive capacity bands sensors) es answers stops)
events-reached capacity bands sensors es answers stops h f l =
    cond_both ReachedIn (leb (length es) (length answers) && leb (length es) (length stops)) _ _ (run-reached capacity bands sensors es h f, l) (refused, omega arith)

script-reached : (s : List ℕ) (most : ℕ) (answers stops : List ℕ) → Bytes s → ReachedIn (run_script (read_script s) most answers stops)
unfolding events_from
script-reached s most answers stops b = go (read_script s) refl
  where
    go : (o : Script) → read_script s ≡ o → ReachedIn (run_script o most answers stops)
    go (bad place) q = (refused, omega arith)
    go (accepted capacity bands sensors es) q =
        let a = accepted-is s capacity bands sensors es q in
        events-reached capacity bands sensors (take most es) answers stops a.fits
        (fields-take most es (events-fields (length s - a.next) s a.next es b a.after))
        (omega (arith, length-take most es, few-events s capacity bands sensors es q))

-- ---- the run itself

reached-in : (events : Result ℕ ScriptError) (drive : Drive) (answers stops : List ℕ) → ReachedIn (outcome_by events drive answers stops) → RunReaches (record { events = events; drive = drive })
reached-in (Ok count) drive answers stops h = record { drive = h.0; few = h.1 }
reached-in (Err error) drive answers stops h = record { drive = h.0; few = tt }

pub all_reached : (s : List ℕ) (most : ℕ) (answers stops : List ℕ) (r : Ran) (answers' stops' : List ℕ) → outcome_in r answers' stops' ≡ run_script (read_script s) most answers stops
    → ((i : ℕ) → Fits w8 (get_or s i 0)) → RunReaches r
all_reached s most answers stops r answers' stops' e b =
    reached-in r.events r.drive answers' stops' (subst ReachedIn (sym e) (script-reached s most answers stops (λ i. omega (arith, b i))))
