-- A script that is run whole, and the drive that it leaves.
use mathlib.Core.Path.{◌≡◌, refl, sym, ap, ◌∙◌}
use Prim.Native.Nat.{ℕ, ◌≤◌}
use native.Mathlib.Omega.{arith}
use mathlib.Core.List.{List}
use lib.ListN.{length}
use lib.Seq.{take_all}
use borrow.Author.Tests.{le-leb}
use Rattle.base.specs.Spliced.{over}
use Rattle.std.specs.Prelude.{Result, Ok, Err}
use Rattle.script.specs.declared.BadScript.{BadScript}
use Rattle.script.specs.declared.ScriptError.{ScriptError}
use Rattle.script.specs.declared.ScriptError.TheVariants as E
use Rattle.script.specs.Errors.{error_number, error_place}
use Rattle.drive.specs.State.{fresh_drive}
use Rattle.drive.specs.Events.{Event, run_of, answers_of, stops_in}
use Rattle.script.specs.Whole.{most_script_bytes, most_events, Script, accepted, bad, read_script}
use Rattle.script.proofs.Few.{few-events}
use Rattle.run.specs.declared.Ran.{Ran}
use Rattle.run.specs.declared.Unrun.{Unrun}
use Rattle.run.specs.Outcome.{RunOutcome, outcome, outcome_by, outcome_in, run_events, run_script}
use Rattle.run.specs.Left.{LeftOutcome, leaves, left_in, left_by}

-- what a run leaves: its answer, its place and its drive
abbrev left_of : RunOutcome → LeftOutcome
left_of (outcome answer place count drive answers stops) = leaves answer place drive

-- with a bad script no other drive is handed over than that of a refused header, so the place alone says what is left
pub left_by_place : (u : Unrun) (o : Script) → left_in (Err u) ≡ left_by o → leaves 10 u.place (fresh_drive 1 1 0) ≡ left_by o
left_by_place u (accepted capacity bands sensors es) h = let n : ◌≡◌ {A = ℕ} 10 0 = cc in absurd (omega (arith, n))
left_by_place u (bad place) h = let z : u.place ≡ place = cc in rw z

module _ (s answers stops : List ℕ) (long : most_events ≤ length answers) (wide : most_events ≤ length stops) where
  -- a script that reads to its end is run whole
  pub whole : (capacity bands sensors : ℕ) (es : List Event) → read_script s ≡ accepted capacity bands sensors es
      → run_script (accepted capacity bands sensors es) most_script_bytes answers stops
      ≡ outcome 0 0 (length es) (run_of (fresh_drive capacity bands sensors) es) (over (answers_of (fresh_drive capacity bands sensors) es) answers)
      (over (stops_in (fresh_drive capacity bands sensors) es) stops)
  whole capacity bands sensors es q =
      let few = few-events s capacity bands sensors es q in
      ap (λ (l : List Event). run_events (fresh_drive capacity bands sensors) l answers stops) (take_all most_script_bytes es (omega (arith, few)))
      ∙ rw (le-leb (length es) (length answers) (omega (arith, few, long)), le-leb (length es) (length stops) (omega (arith, few, wide)))

  run-left : left_of (run_script (read_script s) most_script_bytes answers stops) ≡ left_by (read_script s)
  run-left = go (read_script s) refl
    where
      go : (o : Script) → read_script s ≡ o → left_of (run_script o most_script_bytes answers stops) ≡ left_by o
      go (accepted capacity bands sensors es) q = ap left_of (whole capacity bands sensors es q)
      go (bad place) q = refl

  pub left_ok : (r : Ran) (count : ℕ) (answers' stops' : List ℕ) → r.events ≡ Ok count → outcome_in r answers' stops' ≡ run_script (read_script s) most_script_bytes answers stops
      → left_in (Ok r.drive) ≡ left_by (read_script s)
  left_ok r count answers' stops' e w = ap (λ (x : Result ℕ ScriptError). left_of (outcome_by x r.drive answers' stops')) (sym e) ∙ ap left_of w ∙ run-left

  -- it is refused only where it is bad: the buffers are long enough
  pub left_unrun : (r : Ran) (error : ScriptError) (u : Unrun) (answers' stops' : List ℕ) → r.events ≡ Err error → outcome_in r answers' stops' ≡ run_script (read_script s) most_script_bytes answers stops
      → u.place ≡ error_place error → u.drive ≡ r.drive → left_in (Err u) ≡ left_by (read_script s)
  left_unrun r error u answers' stops' f w e d = go (read_script s) refl (ap (λ (x : Result ℕ ScriptError). outcome_by x r.drive answers' stops') (sym f) ∙ w)
    where
      go : (o : Script) → read_script s ≡ o → outcome_by (Err error) r.drive answers' stops' ≡ run_script o most_script_bytes answers stops → left_in (Err u) ≡ left_by o
      go (accepted capacity bands sensors es) q h =
          let z : error_number error ≡ 0 = let k = h ∙ whole capacity bands sensors es q in cc in
          absurd (some error z)
        where
          some : (x : ScriptError) → error_number x ≡ 0 → ⊥
          some (E.Bad place) y = omega (arith, y)
          some E.ShortBuffer y = omega (arith, y)
      go (bad place) q h = let z : error_place error ≡ place = cc in let x : r.drive ≡ fresh_drive 1 1 0 = cc in rw (e, z, d, x)

  -- the same of the place alone
  pub left_bad : (r : Ran) (error : ScriptError) (b : BadScript) (answers' stops' : List ℕ) → r.events ≡ Err error → outcome_in r answers' stops' ≡ run_script (read_script s) most_script_bytes answers stops
      → b.place ≡ error_place error → leaves 10 b.place (fresh_drive 1 1 0) ≡ left_by (read_script s)
  left_bad r error b answers' stops' f w e =
      let u : Unrun = record { place = b.place; drive = r.drive } in
      left_by_place u (read_script s) (left_unrun r error u answers' stops' f w e refl)
