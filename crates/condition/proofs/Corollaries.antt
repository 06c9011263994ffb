-- What follows of condition 3 for one struck event, and for a list in which nothing but time and resets can reach the band.
use Prim.Native.Nat.{ℕ, zero, suc}
use mathlib.Core.Path.{◌≡◌, refl, sym, ap, ◌∙◌, fun_ext}
use mathlib.Core.Bool.{Bool, true, false, cond, ◌||◌, false≢true}
use mathlib.Core.List.{List, [], ◌∷◌, ◌++◌}
use lib.Dec.{eqb}
use borrow.Author.Tests.{eq-eqb}
use Rattle.base.specs.Columns.{named}
use Rattle.base.specs.Lists.{any}
use Rattle.base.specs.Ticks.{ticks}
use Rattle.base.proofs.Cases.{and_yes, or_yes, or-second}
use Rattle.expression.specs.declared.Element.{Element}
use Rattle.evaluator.specs.Value.{mentions}
use Rattle.token_reader.specs.Read.{read_tokens, elements}
use Rattle.band_columns.specs.declared.BandColumns.{BandColumns}
use Rattle.evaluator.specs.declared.Evaluation.TheVariants.{False}
use Rattle.evaluator.proofs.Mentions.{value-empty}
use Rattle.band.specs.Rows.{fresh_row, value_in, settle_row, reset_row}
use Rattle.band.proofs.Settling.{fresh-settles, fresh-reset}
use Rattle.drive.specs.declared.Drive.{Drive}
use Rattle.drive.specs.State.{fresh_drive, conditions_of, row_at, value_at, settle_of, fall_of, tick_of}
use Rattle.drive.specs.Events.{Event, band_set, Shape, ticking, resetting, setting, sensing, placing, looking, shape_of, act_by, act_of, step_of, run_of}
use Rattle.drive.proofs.Settling.{settle-at}
use Rattle.condition.specs.History.{granted, own_set}
use Rattle.condition.specs.Compared.{stays_by, mentioned_in, refers_in, named_in, stays, keep, only, compared}
use Rattle.condition.specs.Condition.{SameBand}
use Rattle.condition.specs.Corollaries.{All, IsTime, Corollaries}
use Rattle.condition.proofs.Agree.{reset-at}
use Rattle.condition.proofs.Isolation.{no-own-set, fresh_at, kept-alone, isolation}

-- ---- one event struck

module _ {A : Type 0} (p : A → Bool) (x : A) (e : p x ≡ false) where
  any-without : (l m : List A) → any p (l ++ (x ∷ m)) ≡ any p (l ++ m)
  unfolding any
  any-without [] m = rw e
  any-without (y ∷ l) m = ap (λ (t : Bool). p y || t) (any-without l m)

  keep-without : (l m : List A) → keep p (l ++ (x ∷ m)) ≡ keep p (l ++ m)
  unfolding keep
  keep-without [] m = rw e
  keep-without (y ∷ l) m = ap (λ (t : List A). cond (p y) (y ∷ t) t) (keep-without l m)

compared-without : (band : ℕ) (x : Event) (es fs : List Event) → stays (only band) (named_in band (es ++ (x ∷ fs))) x ≡ false
    → compared band (es ++ (x ∷ fs)) ≡ compared band (es ++ fs)
unfolding compared named_in
compared-without band x es fs t =
    keep-without (stays (only band) (named_in band (es ++ (x ∷ fs)))) x t es fs
    ∙ ap (λ (N : ℕ → Bool). keep (stays (only band) N) (es ++ fs))
    (fun_ext (λ r. any-without (own_set band (refers_in r)) x (no-own-set band (named_in band (es ++ (x ∷ fs))) (refers_in r) x t) es fs))

struck-never-moves : (capacity bands sensors band : ℕ) (x : Event) (es fs : List Event)
    → stays (only band) (named_in band (es ++ (x ∷ fs))) x ≡ false
    → SameBand band (fresh_drive capacity bands sensors) (es ++ (x ∷ fs)) (es ++ fs)
struck-never-moves capacity bands sensors band x es fs t =
    isolation capacity bands sensors band (es ++ (x ∷ fs)) (es ++ fs) (compared-without band x es fs t)

-- ---- what a Set names

any-holds : {A : Type 0} (p : A → Bool) (x : A) (l m : List A) → p x ≡ true → any p (l ++ (x ∷ m)) ≡ true
unfolding any
any-holds p x [] m e = sym (or_yes (p x) (any p m) e)
any-holds p x (y ∷ l) m e = or-second (p y) (any p (l ++ (x ∷ m))) (any-holds p x l m e)

named-anyway : (band row : ℕ) (c : BandColumns) (bytes : List ℕ) (list : List Element) (es fs : List Event) → named 32 c.mask ≡ true
    → read_tokens bytes ≡ elements list → mentions row list ≡ true → named_in band (es ++ (band_set band c bytes ∷ fs)) row ≡ true
unfolding named_in refers_in
named-anyway band row c bytes list es fs n r m =
    any-holds (own_set band (refers_in row)) (band_set band c bytes) es fs
    (sym
    (and_yes (eqb band band) (refers_in row c bytes) true (eq-eqb band band refl)
    (and_yes (named 32 c.mask) (mentioned_in row (read_tokens bytes)) true n (sym (ap (mentioned_in row) r ∙ m)))))

-- ---- nothing but time and resets

module _ (band : ℕ) where
  settle-fresh : (d : Drive) → row_at d band ≡ fresh_row → row_at (settle_of d) band ≡ fresh_row
  settle-fresh d e = settle-at d band ∙ ap (settle_row (conditions_of d)) e ∙ fresh-settles (conditions_of d)

  ticks-fresh : (n : ℕ) (d : Drive) → row_at d band ≡ fresh_row → row_at (ticks tick_of n d) band ≡ fresh_row
  unfolding ticks tick_of
  ticks-fresh zero d e = e
  ticks-fresh (suc n) d e = ticks-fresh n (tick_of d) (settle-fresh (fall_of d) e)

  act-fresh : (d : Drive) (x : Event) → IsTime x → row_at d band ≡ fresh_row → row_at (act_of d x) band ≡ fresh_row
  unfolding act_of stays
  act-fresh d x t e = go (shape_of x) t
    where
      go : (y : Shape) → stays_by (λ b. false) (λ s. false) y ≡ true → row_at (act_by d y) band ≡ fresh_row
      go (ticking n) t = ticks-fresh n d e
      go (resetting n) t = reset-at n d band ∙ ap (reset_row n) e ∙ fresh-reset n
      go (setting b c bytes) t = absurd (false≢true t)
      go (sensing s y) t = absurd (false≢true t)
      go (placing b start n) t = absurd (false≢true t)
      go (looking w start n) t = absurd (false≢true t)

  step-fresh : (d : Drive) (x : Event) → IsTime x → row_at d band ≡ fresh_row → row_at (step_of d x) band ≡ fresh_row
  unfolding step_of
  step-fresh d x t e = go (granted d x)
    where
      go : (g : Bool) → row_at (cond g (settle_of (act_of d x)) d) band ≡ fresh_row
      go true = settle-fresh (act_of d x) (act-fresh d x t e)
      go false = e

  run-fresh : (es : List Event) (d : Drive) → All IsTime es → row_at d band ≡ fresh_row → row_at (run_of d es) band ≡ fresh_row
  unfolding run_of
  run-fresh [] d a e = e
  run-fresh (x ∷ es) d (t, a) e = run-fresh es (step_of d x) a (step-fresh d x t e)

module _ (capacity bands sensors band : ℕ) (es : List Event) (a : All IsTime (compared band es)) where
  abbrev after : Drive
  after = run_of (fresh_drive capacity bands sensors) es

  only-time-row : row_at after band ≡ fresh_row
  only-time-row =
      (kept-alone capacity bands sensors band es).row
      ∙ run-fresh band (compared band es) (fresh_drive capacity bands sensors) a (fresh_at capacity bands sensors band)

  only-time-value : value_at after band ≡ False
  unfolding fresh_row
  only-time-value = ap (value_in (conditions_of after)) only-time-row ∙ value-empty (conditions_of after)

pub corollaries : Corollaries
corollaries = record {
  kept-alone = kept-alone;
  struck-never-moves = struck-never-moves;
  named-anyway = named-anyway;
  only-time-row = only-time-row;
  only-time-value = only-time-value;
}
