-- Condition 3, first claim: equal compared lists leave the band alike.
use Prim.Native.Nat.{ℕ}
use mathlib.Core.Path.{◌≡◌, refl, sym, ap, ◌∙◌}
use mathlib.Core.Bool.{Bool, true, false, false≢true, ◌&&◌}
use mathlib.Core.List.{List, [], ◌∷◌, ◌++◌}
use lib.Dec.{eqb}
use borrow.Author.Tests.{eqb-true, eq-eqb}
use Rattle.base.specs.Lists.{any}
use Rattle.base.proofs.Cases.{and_no, or_yes, or-second}
use Rattle.base.proofs.Lists.{get_d-same}
use Rattle.evaluator.specs.Value.{mentions}
use Rattle.band_columns.specs.declared.BandColumns.{BandColumns}
use Rattle.band.specs.Rows.{fresh_row}
use Rattle.band.proofs.Settling.{fresh-settles}
use Rattle.drive.specs.declared.Drive.{Drive}
use Rattle.drive.specs.State.{fresh_drive, row_at}
use Rattle.drive.specs.Events.{Event, Shape, ticking, resetting, setting, sensing, placing, looking, shape_of, if_setting, step_of, run_of}
use Rattle.condition.specs.History.{own_set}
use Rattle.condition.specs.Compared.{stays_by, refers_in, named_in, stays, only, compared, answer_to, answers_to}
use Rattle.condition.specs.Condition.{SameBand}
use Rattle.condition.specs.Corollaries.{All}
use Rattle.condition.proofs.Strike.{runs, outs, strike}
use Rattle.condition.proofs.Agree.{Settled, Agree, Fit, band-value, answer-same, step_kept, step-struck}

module _ (band : ℕ) where
  run-runs : (d : Drive) (es : List Event) → run_of d es ≡ runs step_of (answer_to band) d es
  unfolding run_of
  run-runs d [] = refl
  run-runs d (x ∷ es) = run-runs (step_of d x) es

  answers-outs : (d : Drive) (es : List Event) → answers_to band d es ≡ outs step_of (answer_to band) d es
  unfolding answers_to
  answers-outs d [] = refl
  answers-outs d (x ∷ es) = ap (λ (l : List ℕ). answer_to band d x ++ l) (answers-outs (step_of d x) es)

  -- each event refers only to what the band names in the list
  all_fit : (N : ℕ → Bool) (es : List Event) → ((r : ℕ) → named_in band es r ≡ true → N r ≡ true) → All (Fit (only band) N) es
  unfolding named_in any
  all_fit N [] w = tt
  all_fit N (x ∷ es) w = (
    λ b t r u. w r (sym (or_yes (own_set band (refers_in r) x) (named_in band es r) (rw (eqb-true b band t) at u))),
    all_fit N es (λ r t. w r (or-second (own_set band (refers_in r) x) (named_in band es r) t)),
  )

  said : (N : ℕ → Bool) (d e : Drive) (x : Event) → stays (only band) N x ≡ true → Fit (only band) N x → Agree (only band) N d e
      → answer_to band d x ≡ answer_to band e x
  said N d e x t w p = rw (answer-same (only band) N x t w p.same)

  -- an event that is struck is no Set of the band
  pub no-own-set : (N : ℕ → Bool) (passes : BandColumns → List ℕ → Bool) (x : Event) → stays (only band) N x ≡ false
      → own_set band passes x ≡ false
  unfolding stays
  no-own-set N passes x t = go (shape_of x) t
    where
      go : (y : Shape) → stays_by (only band) N y ≡ false → if_setting y (λ b c bytes. eqb b band && passes c bytes) false ≡ false
      go (ticking n) t = refl
      go (resetting n) t = refl
      go (setting b c bytes) t = sym (and_no (eqb b band) (passes c bytes) t)
      go (sensing s y) t = refl
      go (placing b start n) t = refl
      go (looking w start n) t = refl

  silent : (N : ℕ → Bool) (d : Drive) (x : Event) → stays (only band) N x ≡ false → answer_to band d x ≡ []
  silent N d x t = rw (no-own-set N (λ c bytes. true) x t)

module _ (capacity bands sensors band : ℕ) where
  pub fresh_at : row_at (fresh_drive capacity bands sensors) band ≡ fresh_row
  unfolding fresh_drive
  fresh_at = get_d-same 16 band fresh_row

  pub fresh-settled : Settled band (fresh_drive capacity bands sensors)
  fresh-settled = rw fresh_at (fresh-settles _)

  fresh-agree : (N : ℕ → Bool) → Agree (only band) N (fresh_drive capacity bands sensors) (fresh_drive capacity bands sensors)
  unfolding fresh_row mentions any
  fresh-agree N = record {
    same = record {
      band_count = refl;
      sensor_count = refl;
      rows_long = refl;
      sensors_long = refl;
      band = λ b t. refl;
      sensor = λ s t. refl;
      within = λ b t r u. absurd (false≢true (rw (eqb-true b band t, fresh_at) at u));
    };
    settled = λ b t. rw (eqb-true b band t) fresh-settled;
  }

  -- a list and its own compared list
  pub kept-alone : (es : List Event) → SameBand band (fresh_drive capacity bands sensors) es (compared band es)
  unfolding compared
  kept-alone es =
      let N = named_in band es in
      let d = fresh_drive capacity bands sensors in
      let r =
      strike step_of (answer_to band) (stays (only band) N) (Fit (only band) N) (Agree (only band) N)
      (λ d e x t w p. step_kept (only band) N x t w p)
      (λ d e x t p. step-struck (only band) N x t p)
      (said band N) (silent band N) es d d
      (all_fit band N es (λ s t. t))
      (fresh-agree N) in
      record {
        row = simp (run-runs band) (r.0.same.band band (eq-eqb band band refl));
        value = simp (run-runs band) (band-value (only band) N r.0.same band (eq-eqb band band refl));
        answers = simp answers-outs r.1;
      }

  pub isolation : (es fs : List Event) → compared band es ≡ compared band fs → SameBand band (fresh_drive capacity bands sensors) es fs
  isolation es fs e =
      let p = kept-alone es in
      let q : SameBand band (fresh_drive capacity bands sensors) fs (compared band es) = rw e (kept-alone fs) in
      record { row = p.row ∙ sym q.row; value = p.value ∙ sym q.value; answers = p.answers ∙ sym q.answers }
