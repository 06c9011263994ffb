-- The listing of a script from its run.
use mathlib.Core.Path.{◌≡◌, refl, sym, ap, ◌∙◌, subst}
use Prim.Native.Nat.{ℕ, zero, suc, ◌≤◌, ◌<◌}
use native.Mathlib.Omega.{arith}
use mathlib.Core.List.{List, [], ◌∷◌, ◌++◌}
use lib.ListN.{length, get_or, take, drop, length-append}
use lib.Seq.{take_at}
use Rattle.base.specs.Spliced.{over}
use Rattle.std.specs.Prelude.{Result, Ok, Err, IsOk, IfOk}
use Rattle.answer.specs.declared.Refusal.{Refusal}
use Rattle.answer.specs.Numbers.{number_of}
use Rattle.answer.proofs.Injective.{refusal_number}
use Rattle.output.specs.Filling.{told, told_in, filled_by}
use Rattle.output.proofs.Filled.{filled-whole, filled-room}
use Rattle.drive.specs.State.{fresh_drive}
use Rattle.drive.specs.Events.{Event, answer_of, stops_of, run_of, answers_of, stops_in}
use Rattle.drive.proofs.Keeping.{run-header, along-length}
use Rattle.drive.specs.declared.Drive.{Drive}
use Rattle.script.specs.declared.ScriptError.{ScriptError}
use Rattle.script.specs.declared.ScriptError.TheVariants as E
use Rattle.script.specs.Whole.{most_script_bytes, most_events, Script, accepted, bad, read_script}
use Rattle.run.specs.declared.Ran.{Ran}
use Rattle.run.specs.Outcome.{RunOutcome, outcome, outcome_by, outcome_in, run_script}
use Rattle.reached.proofs.Reaching.{fresh-reached}
use Rattle.run.proofs.Whole.{accepted-is}
use Rattle.run.proofs.Leaving.{whole}
use Rattle.report.specs.Lines.{lines, event_lines, drive_lines, bad_line}
use Rattle.report.specs.Listing.{most_listed, listing}
use Rattle.report.specs.Parts.{Puts, Room, run_lines, Sized}
use Rattle.report.proofs.Short.{never-short}

lines_same : (f g : ℕ → List ℕ) (n : ℕ) → ((i : ℕ) → i < n → f i ≡ g i) → lines f n ≡ lines g n
unfolding lines
lines_same f g zero h = refl
lines_same f g (suc n) h = rw (lines_same f g n (λ i k. h i (omega (arith, k))), h n (omega arith))

get_d_over : (bytes lent : List ℕ) (i : ℕ) → i < length bytes → get_or (over bytes lent) i 0 ≡ get_or bytes i 0
get_d_over bytes lent i h = front bytes (drop (length bytes) lent) i h
  where
    front : (a b : List ℕ) (i : ℕ) → i < length a → get_or (a ++ b) i 0 ≡ get_or a i 0
    front [] b i h = absurd (omega (arith, h))
    front (x ∷ a) b zero h = refl
    front (x ∷ a) b (suc i) h = front a b i (omega (arith, h))

-- of a run's outcome, whatever it answers
record SizedBy (count : ℕ) (drive : Drive) (answers stops : List ℕ) : Type 0 where
  few-bands : drive.band_count ≤ 16
  few-sensors : drive.sensor_count ≤ 16
  long : count ≤ length answers
  wide : count ≤ length stops

abbrev SizedIn : RunOutcome → Type 0
SizedIn (outcome answer place count drive answers stops) = SizedBy count drive answers stops

sized-in : (events : Result ℕ ScriptError) (drive : Drive) (answers stops : List ℕ) → SizedIn (outcome_by events drive answers stops)
    → Sized (record { events = events; drive = drive }) answers stops
sized-in (Ok count) drive answers stops h = record { few-bands = h.few-bands; few-sensors = h.few-sensors; long = h.long; wide = h.wide }
sized-in (Err error) drive answers stops h = record { few-bands = h.few-bands; few-sensors = h.few-sensors; long = tt; wide = tt }

module _ (s answers stops : List ℕ) (long : most_events ≤ length answers) (wide : most_events ≤ length stops) where
  module _ (capacity bands sensors : ℕ) (es : List Event) (q : read_script s ≡ accepted capacity bands sensors es) where
    accepted-lines : run_lines (run_script (accepted capacity bands sensors es) most_script_bytes answers stops) ≡ listing (accepted capacity bands sensors es)
    unfolding listing
    accepted-lines =
        let fresh = fresh_drive capacity bands sensors in
        let h = run-header capacity bands sensors es in
        let e : event_lines (over (answers_of fresh es) answers) (over (stops_in fresh es) stops) (length es) ≡ event_lines (answers_of fresh es) (stops_in fresh es) (length es) =
        lines_same _ _ (length es) (λ i k. rw (
          get_d_over (answers_of fresh es) answers i (omega (arith, k, along-length answer_of fresh es)),
          get_d_over (stops_in fresh es) stops i (omega (arith, k, along-length stops_of fresh es)),
        )) in
        let d = run_of fresh es in
        let g : drive_lines d.band_count d.sensor_count d ≡ drive_lines bands sensors d =
        ap (λ (n : ℕ). drive_lines n d.sensor_count d) h.1 ∙ ap (λ (n : ℕ). drive_lines bands n d) h.2 in
        ap run_lines (whole s answers stops long wide capacity bands sensors es q) ∙ (λ i. e i ++ g i)

    accepted-sized : SizedIn (run_script (accepted capacity bands sensors es) most_script_bytes answers stops)
    unfolding fresh_drive
    accepted-sized =
        let fresh = fresh_drive capacity bands sensors in
        let h = run-header capacity bands sensors es in
        let r = (fresh-reached capacity bands sensors (accepted-is s capacity bands sensors es q).fits).shaped.header in
        subst SizedIn (sym (whole s answers stops long wide capacity bands sensors es q)) (record {
          few-bands = omega (arith, h.1, r.few-bands);
          few-sensors = omega (arith, h.2, r.few-sensors);
          long = omega (arith, length-append (answers_of fresh es) (drop (length (answers_of fresh es)) answers), along-length answer_of fresh es);
          wide = omega (arith, length-append (stops_in fresh es) (drop (length (stops_in fresh es)) stops), along-length stops_of fresh es);
        })

  script-lines : run_lines (run_script (read_script s) most_script_bytes answers stops) ≡ listing (read_script s)
  unfolding listing
  script-lines = go (read_script s) refl
    where
      go : (o : Script) → read_script s ≡ o → run_lines (run_script o most_script_bytes answers stops) ≡ listing o
      go (accepted capacity bands sensors es) q = accepted-lines capacity bands sensors es q
      go (bad place) q = refl

  script-sized : SizedIn (run_script (read_script s) most_script_bytes answers stops)
  unfolding fresh_drive
  script-sized = go (read_script s) refl
    where
      go : (o : Script) → read_script s ≡ o → SizedIn (run_script o most_script_bytes answers stops)
      go (accepted capacity bands sensors es) q = accepted-sized capacity bands sensors es q
      go (bad place) q = record { few-bands = omega arith; few-sensors = omega arith; long = omega arith; wide = omega arith }

  module _ (r : Ran) (answers' stops' : List ℕ) (e : outcome_in r answers' stops' ≡ run_script (read_script s) most_script_bytes answers stops) where
    pub ran_sized : Sized r answers' stops'
    ran_sized = sized-in r.events r.drive answers' stops' (subst SizedIn (sym e) script-sized)

    ran-lines : run_lines (outcome_in r answers' stops') ≡ listing (read_script s)
    ran-lines = ap run_lines e ∙ script-lines

    pub ran_short : length (run_lines (outcome_in r answers' stops')) ≤ most_listed
    ran_short = omega (arith, never-short s, ap length ran-lines)

    pub ran_room : (out : List ℕ) → most_listed ≤ length out → Room (run_lines (outcome_in r answers' stops')) out
    ran_room out enough = omega (arith, enough, ran_short)

    pub ran_listed : (lent after : List ℕ) (t : Result ℕ Refusal) → told_in t after ≡ filled_by (run_lines (outcome_in r answers' stops')) lent → told_in t after ≡ filled_by (listing (read_script s)) lent
    ran_listed lent after t h = h ∙ ap (λ (bytes : List ℕ). filled_by bytes lent) ran-lines

    -- written straight into an output that is long enough
    pub straight_listed : (out after : List ℕ) (n : ℕ) → most_listed ≤ length out → Puts (run_lines (outcome_in r answers' stops')) out n after
        → told 0 n after ≡ filled_by (listing (read_script s)) out
    straight_listed out after n enough p =
        let b : List ℕ = run_lines (outcome_in r answers' stops') in
        ap (λ (m : ℕ). told 0 m after) p.count-is ∙ filled-whole b out after (ran_room out enough) p.output ∙ ap (λ (bytes : List ℕ). filled_by bytes out) ran-lines

-- an output of 426,486 bytes is never too short
pub long_enough : (s lent after : List ℕ) (t : Result ℕ Refusal) → told_in t after ≡ filled_by (listing (read_script s)) lent → most_listed ≤ length lent → IsOk t
long_enough s lent after (Ok count) h k = refl
long_enough s lent after (Err refusal) h k =
    absurd (omega (arith, refusal_number refusal, filled-room (listing (read_script s)) lent (number_of refusal) 0 after h (omega (arith, k, never-short s))))

-- what was put on a page is its first bytes
pub page_listed : (bytes page after lent out : List ℕ) (n : ℕ) (t : Result ℕ Refusal) → Puts bytes page n after → told_in t out ≡ filled_by (take n after) lent → told_in t out ≡ filled_by bytes lent
page_listed bytes page after lent out n t p h =
    h ∙ ap (λ (l : List ℕ). filled_by l lent) (ap (take n) p.output ∙ take_at bytes (drop (length bytes) page) n (sym p.count-is))

-- ---- the lines of a run, by what it comes to

module _ (r : Ran) (answers stops : List ℕ) where
  pub lines_done : (count : ℕ) → r.events ≡ Ok count
      → run_lines (outcome_in r answers stops) ≡ event_lines answers stops count ++ drive_lines r.drive.band_count r.drive.sensor_count r.drive
  lines_done count e = ap (λ (x : Result ℕ ScriptError). run_lines (outcome_by x r.drive answers stops)) e

  pub lines_bad : (place : ℕ) → r.events ≡ Err (E.Bad place) → run_lines (outcome_in r answers stops) ≡ bad_line place
  lines_bad place e = ap (λ (x : Result ℕ ScriptError). run_lines (outcome_by x r.drive answers stops)) e

  pub lines_short : r.events ≡ Err E.ShortBuffer → run_lines (outcome_in r answers stops) ≡ drive_lines r.drive.band_count r.drive.sensor_count r.drive
  unfolding lines
  lines_short e = ap (λ (x : Result ℕ ScriptError). run_lines (outcome_by x r.drive answers stops)) e

  pub sized_done : (count : ℕ) → r.events ≡ Ok count → Sized r answers stops → (count ≤ length answers) × (count ≤ length stops)
  sized_done count e h =
      let a : IfOk r.events (λ n. n ≤ length answers) = h.long in
      let b : IfOk r.events (λ n. n ≤ length stops) = h.wide in
      (subst (λ (x : Result ℕ ScriptError). IfOk x (λ n. n ≤ length answers)) e a, subst (λ (x : Result ℕ ScriptError). IfOk x (λ n. n ≤ length stops)) e b)
