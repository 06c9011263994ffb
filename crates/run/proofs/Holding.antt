-- Condition 3 of a run, from what the run hands back.
use mathlib.Core.Path.{◌≡◌, refl, sym, ap, ◌∙◌, subst}
use Prim.Native.Nat.{ℕ}
use native.Mathlib.Omega.{arith}
use mathlib.Core.Logic.{◌↔◌}
use mathlib.Core.Bool.{Bool, true, false, cond, ◌&&◌, true≢false}
use mathlib.Core.List.{List, [], ◌∷◌, ◌++◌}
use lib.Dec.{leb}
use lib.ListN.{length}
use lib.Seq.{take_all}
use Rattle.base.specs.Spliced.{over}
use Rattle.std.specs.Prelude.{Result, Ok, Err, IsOk}
use Rattle.band.specs.Rows.{locked_on}
use Rattle.drive.specs.declared.Drive.{Drive}
use Rattle.drive.specs.State.{fresh_drive, row_at, value_at}
use Rattle.drive.specs.Events.{Event, answer_of, step_of, run_of, along, answers_of, stops_in}
use Rattle.condition.specs.History.{own_set, moments, LockedByHistory}
use Rattle.condition.specs.Compared.{answers_to}
use Rattle.condition.proofs.Condition.{condition-3}
use Rattle.script.specs.declared.ScriptError.{ScriptError}
use Rattle.script.specs.Whole.{most_script_bytes, Script, read_script}
use Rattle.script.proofs.Few.{few-events}
use Rattle.run.specs.declared.Ran.{Ran}
use Rattle.run.specs.Outcome.{outcome, outcome_by, outcome_in, refused_run, run_events, run_script}
use Rattle.run.specs.Condition3.{own_answers, RanWhole, Condition3OfRun, RunWhole, Condition3OfTwo}
use Rattle.run.proofs.Whole.{accepted-is}

-- the answers written to a band's Sets are the answers to its Sets
own-written : (band : ℕ) (d : Drive) (es : List Event) (rest : List ℕ) → own_answers band es (along answer_of d es ++ rest) ≡ answers_to band d es
unfolding own_answers along answers_to
own-written band d [] rest = refl
own-written band d (e ∷ es) rest = ap (λ l. cond (own_set band (λ c tokens. true) e) (answer_of d e ∷ l) l) (own-written band (step_of d e) es rest) ∙ front (own_set band (λ c tokens. true) e) (answer_of d e) (answers_to band (step_of d e) es)
  where
    front : (t : Bool) (x : ℕ) (l : List ℕ) → cond t (x ∷ l) l ≡ cond t (x ∷ []) [] ++ l
    front true x l = refl
    front false x l = refl

-- a run that is done is not refused for a short buffer
done-runs : (events : Result ℕ ScriptError) (drive : Drive) (answers stops : List ℕ) → IsOk events → {answers' stops' : List ℕ} → outcome_by events drive answers stops ≡ refused_run 11 0 answers' stops' → ⊥
done-runs (Ok count) drive answers stops k h = let z : ◌≡◌ {A = ℕ} 0 11 = cc in omega (arith, z)
done-runs (Err error) drive answers stops k h = absurd (true≢false (sym k))

-- a whole run's drive and the answers that it wrote
pub record Ended (r : Ran) (answers answers' : List ℕ) (fresh : Drive) (es : List Event) : Type 0 where
  pub drive-is : r.drive ≡ run_of fresh es
  pub answers-are : answers' ≡ over (answers_of fresh es) answers

same-drive : (events : Result ℕ ScriptError) (drive : Drive) (answers stops : List ℕ) (answer place count : ℕ) (drive' : Drive) (answers' stops' : List ℕ)
    → outcome_by events drive answers stops ≡ outcome answer place count drive' answers' stops' → (drive ≡ drive') × (answers ≡ answers')
same-drive (Ok n) drive answers stops answer place count drive' answers' stops' h = (cc, cc)
same-drive (Err e) drive answers stops answer place count drive' answers' stops' h = (cc, cc)

module _ (s : List ℕ) (most : ℕ) (answers stops : List ℕ) (r : Ran) (answers' stops' : List ℕ)
    (o : outcome_in r answers' stops' ≡ run_script (read_script s) most answers stops) where
  pub ended : (capacity bands sensors : ℕ) (es : List Event) → RanWhole s most r capacity bands sensors es → Ended r answers answers' (fresh_drive capacity bands sensors) es
  ended capacity bands sensors es w = go (leb (length es) (length answers) && leb (length es) (length stops)) whole
    where
      fresh : Drive
      fresh = fresh_drive capacity bands sensors

      whole : outcome_in r answers' stops' ≡ run_events (fresh_drive capacity bands sensors) es answers stops
      whole = o ∙ ap (λ (x : Script). run_script x most answers stops) w.reads ∙ ap (λ (l : List Event). run_events (fresh_drive capacity bands sensors) l answers stops) (take_all most es w.all)

      go : (t : Bool) → outcome_in r answers' stops' ≡ cond t (outcome 0 0 (length es) (run_of (fresh_drive capacity bands sensors) es) (over (answers_of (fresh_drive capacity bands sensors) es) answers) (over (stops_in (fresh_drive capacity bands sensors) es) stops)) (refused_run 11 0 answers stops)
          → Ended r answers answers' (fresh_drive capacity bands sensors) es
      go true h = let q = same-drive r.events r.drive answers' stops' _ _ _ _ _ _ h in record { drive-is = q.0; answers-are = q.1 }
      go false h = absurd (done-runs r.events r.drive answers' stops' w.done h)

  pub own-are : (band capacity bands sensors : ℕ) (es : List Event) → RanWhole s most r capacity bands sensors es → own_answers band es answers' ≡ answers_to band (fresh_drive capacity bands sensors) es
  own-are band capacity bands sensors es w =
      ap (own_answers band es) (ended capacity bands sensors es w).answers-are ∙ own-written band (fresh_drive capacity bands sensors) es _

  pub holds : Condition3OfRun s most r answers'
  holds = record {
    isolation = λ t capacity bands sensors es capacity' bands' sensors' fs w q h band b c.
        let d = (ended capacity bands sensors es w).drive-is in
        let f = (accepted-is s capacity bands sensors es w.reads).fits in
        let same = condition-3.isolation capacity bands sensors f band b es fs c in
        let fresh : fresh_drive capacity bands sensors ≡ fresh_drive capacity' bands' sensors' = rw (h.0, h.1, h.2) in
        record {
          row = ap (λ (x : Drive). row_at x band) d ∙ same.row ∙ ap (λ (x : Drive). row_at (run_of x fs) band) fresh;
          value = ap (λ (x : Drive). value_at x band) d ∙ same.value ∙ ap (λ (x : Drive). value_at (run_of x fs) band) fresh;
          own = own-are band capacity bands sensors es w ∙ same.answers ∙ ap (λ (x : Drive). answers_to band x fs) fresh;
        };
    history = λ capacity bands sensors es w band b side.
        let d = (ended capacity bands sensors es w).drive-is in
        let f = (accepted-is s capacity bands sensors es w.reads).fits in
        subst (λ (x : Drive). (locked_on side (row_at x band) ≡ true) ↔ LockedByHistory side band (moments (fresh_drive capacity bands sensors) es)) (sym d) (condition-3.history capacity bands sensors f band b side es);
  }

-- ---- two runs

-- a script has at most 32,766 events
whole : (s : List ℕ) (r : Ran) (capacity bands sensors : ℕ) (es : List Event) → RunWhole s r capacity bands sensors es → RanWhole s most_script_bytes r capacity bands sensors es
whole s r capacity bands sensors es w =
    record { reads = w.reads; all = omega (arith, few-events s capacity bands sensors es w.reads); done = w.done }

pub two-hold : (s t : List ℕ) (answers stops answers2 stops2 : List ℕ) (r q : Ran) (answers' stops' answers2' stops2' : List ℕ)
    → outcome_in r answers' stops' ≡ run_script (read_script s) most_script_bytes answers stops → outcome_in q answers2' stops2' ≡ run_script (read_script t) most_script_bytes answers2 stops2
    → Condition3OfTwo s t (record { first = r; second = q }) answers' answers2'
two-hold s t answers stops answers2 stops2 r q answers' stops' answers2' stops2' o p = record {
  isolation = λ capacity bands sensors es capacity' bands' sensors' fs w v h band b c.
      let x = (holds s most_script_bytes answers stops r answers' stops' o).isolation t capacity bands sensors es capacity' bands' sensors' fs (whole s r capacity bands sensors es w) v.reads h band b c in
      let y = whole t q capacity' bands' sensors' fs v in
      let d = (ended t most_script_bytes answers2 stops2 q answers2' stops2' p capacity' bands' sensors' fs y).drive-is in
      record {
        row = x.row ∙ sym (ap (λ (z : Drive). row_at z band) d);
        value = x.value ∙ sym (ap (λ (z : Drive). value_at z band) d);
        own = x.own ∙ sym (own-are t most_script_bytes answers2 stops2 q answers2' stops2' p band capacity' bands' sensors' fs y);
      };
  first-history = λ capacity bands sensors es w.
      (holds s most_script_bytes answers stops r answers' stops' o).history capacity bands sensors es (whole s r capacity bands sensors es w);
  second-history = λ capacity bands sensors es w.
      (holds t most_script_bytes answers2 stops2 q answers2' stops2' p).history capacity bands sensors es (whole t q capacity bands sensors es w);
}
