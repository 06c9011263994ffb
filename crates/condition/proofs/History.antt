-- Condition 3, second claim: the history rule.
use Prim.Native.Nat.{ℕ, zero, suc, ◌<◌}
use mathlib.Core.Path.{◌≡◌, refl, sym, ap, ◌∙◌}
use mathlib.Core.Logic.{◌↔◌, ◌⊎◌, inl, inr}
use mathlib.Core.Bool.{Bool, true, false, not, cond, ◌&&◌, ◌||◌, false≢true, or-false, or-true, and-true, or_assoc}
use mathlib.Core.List.{List, [], ◌∷◌}
use native.Mathlib.Omega.{arith}
use lib.Dec.{eqb, ltb}
use lib.ListN.{length, get_or}
use borrow.Author.Tests.{eqb-true, eqb-false, leb-true, not-false}
use Rattle.base.specs.Lists.{any}
use Rattle.base.specs.Columns.{within}
use Rattle.base.specs.Rows.{modify}
use Rattle.base.specs.Ticks.{ticks}
use Rattle.base.proofs.Cases.{neither}
use Rattle.base.proofs.Refusals.{applies_at}
use Rattle.base.proofs.Rows.{modify-same, modify-other}
use Rattle.token_reader.specs.Read.{most_token_bytes}
use Rattle.evaluator.specs.Value.{is_true}
use Rattle.band.specs.declared.Side.{Side}
use Rattle.band.specs.declared.Side.TheVariants.{Read, Write}
use Rattle.band.specs.declared.Row.{Row}
use Rattle.band_columns.specs.declared.BandColumns.{BandColumns}
use Rattle.band.specs.Rows.{fresh_row, enabled_on, locked_on, lock_under, settle_row, in_set, reset_row}
use Rattle.band_columns.specs.Sets.{columns_fit, formed_row, locked_named, locked_value, names_locked}
use Rattle.band_columns.proofs.Fits.{locked-within}
use Rattle.drive.specs.declared.Drive.{Drive}
use Rattle.drive.specs.State.{fresh_drive, conditions_of, row_at, value_at, settle_of, fall_of, tick_of}
use Rattle.drive.specs.Events.{Shape, ticking, resetting, setting, sensing, placing, looking, shape_of, if_ticking, if_resetting, if_setting}
use Rattle.drive.specs.Events.{Event, formed_from, refusals_by, answer_of, act_by, act_of, step_of, run_of}
use Rattle.drive.proofs.Answers.{granted-free}
use Rattle.drive.proofs.Keeping.{step_keeps}
use Rattle.drive.proofs.Settling.{settle-at}
use Rattle.condition.specs.History.{
  Moment,
  ended,
  granted,
  length_of,
  tick_moments,
  moments,
  unlocks,
  locks,
  LockedByHistory,
}
use Rattle.condition.proofs.Flags.{flag_after, after-append, Last, from_last, to_last}
use Rattle.condition.proofs.Agree.{Settled, reset-at, step-settled}
use Rattle.condition.proofs.Isolation.{fresh_at, fresh-settled}

-- ---- the side's Locked column along the moments

module _ (side : Side) (band : ℕ) where
  flag : Drive → Bool
  flag d = locked_on side (row_at d band)

  holds : Drive → Bool
  holds d = enabled_on side (row_at d band) && is_true (value_at d band)

  along : Bool → List Moment → Bool
  along l ms = flag_after (unlocks side band) (locks side band) l ms

  lock-column : (s : Side) (v : Bool) (x : Row) → locked_on s (lock_under v x) ≡ (locked_on s x || (enabled_on s x && v))
  lock-column Read v x = refl
  lock-column Write v x = refl

  lock-enabled : (s : Side) (v : Bool) (x : Row) → enabled_on s (lock_under v x) ≡ enabled_on s x
  lock-enabled Read v x = refl
  lock-enabled Write v x = refl

  -- settling marks it where the side is enabled and the expression TRUE
  settled-flag : (d : Drive) → flag (settle_of d) ≡ (flag d || holds (settle_of d))
  unfolding flag holds settle_of settle_row conditions_of
  settled-flag d = rw (settle-at d band, lock-enabled side (is_true (value_at d band)) (row_at d band)) (lock-column side (is_true (value_at d band)) (row_at d band))

  settled-already : (d : Drive) → Settled band d → (flag d || holds d) ≡ flag d
  unfolding flag holds settle_row
  settled-already d z = sym (lock-column side (is_true (value_at d band)) (row_at d band)) ∙ ap (locked_on side) z

  ticks-flag : (n : ℕ) (d : Drive) → along (flag d) (tick_moments n d) ≡ flag (ticks tick_of n d)
  unfolding along flag_after tick_moments ticks unlocks locks tick_of flag holds
  ticks-flag zero d = refl
  ticks-flag (suc n) d = ap (λ (l : Bool). along l (tick_moments n (tick_of d))) (sym (settled-flag (fall_of d))) ∙ ticks-flag n (tick_of d)

  -- ---- the end of an event

  abbrev names_by : ℕ → Shape → Bool
  names_by v y = if_setting y (λ b c bytes. eqb b band && names_locked side v c) false

  abbrev resets_by : Drive → Shape → Bool
  resets_by d y = if_resetting y (λ t. in_set (row_at d band).lock_on_reset t && enabled_on side (row_at d band)) false

  names_to : ℕ → Event → Bool
  names_to v x = names_by v (shape_of x)

  resets : Drive → Event → Bool
  resets d x = resets_by d (shape_of x)

  -- a column that a Set names 0 or 1, or does not name
  column : (g : Bool) (v : ℕ) (old : Bool) → within 1 g v ≡ true
      → cond g (eqb v 1) old ≡ ((not (g && eqb v 0) && old) || ((g && eqb v 1) || false))
  column false v old t = sym (or-false old)
  column true zero old t = refl
  column true (suc zero) old t = sym (or-true old)
  column true (suc (suc n)) old t = absurd (omega (arith, leb-true (suc (suc n)) 1 t))

  -- an event of which nothing is refused
  abbrev Free : Drive → Shape → Type 0
  Free d y = (i : ℕ) → applies_at (refusals_by d y) i ≡ false

  -- a granted Set names a Locked as 0 or 1
  granted-fits : (d : Drive) (c : BandColumns) (bytes : List ℕ) (b : ℕ) → Free d (setting b c bytes)
      → within 1 (locked_named side c) (locked_value side c) ≡ true
  granted-fits d c bytes b q =
      locked-within side c (not-false (columns_fit c) (neither (not (columns_fit c)) (ltb most_token_bytes (length bytes)) (q 1)).0)

  formed-column : (s : Side) (c : BandColumns) (bytes : List ℕ) (x : Row)
      → locked_on s (formed_from c bytes x) ≡ cond (locked_named s c) (eqb (locked_value s c) 1) (locked_on s x)
  unfolding formed_row
  formed-column Read c bytes x = refl
  formed-column Write c bytes x = refl

  set-flag : (d : Drive) (b : ℕ) (c : BandColumns) (bytes : List ℕ) → band < length d.rows → Free d (setting b c bytes)
      → flag (act_by d (setting b c bytes)) ≡ ((not (names_by 0 (setting b c bytes)) && flag d) || (names_by 1 (setting b c bytes) || false))
  unfolding flag
  set-flag d b c bytes h g = go (eqb b band) refl
    where
      go : (t : Bool) → eqb b band ≡ t
          → locked_on side (get_or (modify (formed_from c bytes) b d.rows) band fresh_row)
          ≡ ((not (t && names_locked side 0 c) && flag d) || ((t && names_locked side 1 c) || false))
      go true e =
          rw (eqb-true b band e, modify-same (formed_from c bytes) fresh_row d.rows band h, formed-column side c bytes (row_at d band))
          (column (locked_named side c) (locked_value side c) (flag d) (granted-fits d c bytes b g))
      go false e =
          rw (modify-other (formed_from c bytes) fresh_row d.rows b band (λ q. eqb-false b band e (sym q))) (sym (or-false _))

  reset-column : (s : Side) (t : ℕ) (x : Row) → locked_on s (reset_row t x) ≡ (locked_on s x || (in_set x.lock_on_reset t && enabled_on s x))
  unfolding reset_row
  reset-column s t x = go (in_set x.lock_on_reset t)
    where
      go : (i : Bool) → locked_on s (cond i (lock_under true x) x) ≡ (locked_on s x || (i && enabled_on s x))
      go true = lock-column s true x ∙ ap (λ (q : Bool). locked_on s x || q) (and-true (enabled_on s x))
      go false = sym (or-false _)

  shape-flag : (d : Drive) (y : Shape) → band < length d.rows → Free d y
      → flag (act_by d y) ≡ ((not (names_by 0 y) && flag (ticks tick_of (if_ticking y (λ n. n) 0) d)) || (names_by 1 y || resets_by d y))
  unfolding ticks flag
  shape-flag d (ticking n) h q = sym (or-false _)
  shape-flag d (resetting t) h q = rw (reset-at t d band) (reset-column side t (row_at d band))
  shape-flag d (setting b c bytes) h q = set-flag d b c bytes h q
  shape-flag d (sensing s x) h q = sym (or-false _)
  shape-flag d (placing b start n) h q = sym (or-false _)
  shape-flag d (looking w start n) h q = sym (or-false _)

  act-flag : (d : Drive) (x : Event) → band < length d.rows → granted d x ≡ true
      → flag (act_of d x) ≡ ((not (names_to 0 x) && flag (ticks tick_of (length_of x) d)) || (names_to 1 x || resets d x))
  unfolding act_of names_to resets
  act-flag d x h g = shape-flag d (shape_of x) h (granted-free d x (eqb-true (answer_of d x) 0 g))

  -- the moment at which an event ends, from the drive that its ticks leave
  end-flag : (d : Drive) (x : Event) → band < length d.rows → Settled band d
      → ((not (granted d x && names_to 0 x) && flag (cond (granted d x) (ticks tick_of (length_of x) d) d))
      || ((granted d x && names_to 1 x) || ((granted d x && resets d x) || holds (step_of d x)))) ≡ flag (step_of d x)
  unfolding step_of
  end-flag d x h z = go (granted d x) refl
    where
      go : (g : Bool) → granted d x ≡ g
          → ((not (g && names_to 0 x) && flag (cond g (ticks tick_of (length_of x) d) d))
          || ((g && names_to 1 x) || ((g && resets d x) || holds (cond g (settle_of (act_of d x)) d)))) ≡ flag (cond g (settle_of (act_of d x)) d)
      go true e =
          let l = not (names_to 0 x) && flag (ticks tick_of (length_of x) d) in
          let after = holds (settle_of (act_of d x)) in
          ap (λ (q : Bool). l || q) (sym (or_assoc (names_to 1 x) (resets d x) after))
          ∙ sym (or_assoc l (names_to 1 x || resets d x) after)
          ∙ ap (λ (q : Bool). q || after) (sym (act-flag d x h e))
          ∙ sym (settled-flag (act_of d x))
      go false e = settled-already d z

  events-flag : (d : Drive) (x : Event) → along (flag d) (cond (granted d x) (tick_moments (length_of x) d) []) ≡ flag (cond (granted d x) (ticks tick_of (length_of x) d) d)
  unfolding along flag_after
  events-flag d x = go (granted d x)
    where
      go : (g : Bool) → along (flag d) (cond g (tick_moments (length_of x) d) []) ≡ flag (cond g (ticks tick_of (length_of x) d) d)
      go true = ticks-flag (length_of x) d
      go false = refl

  run-flag : (es : List Event) (d : Drive) → band < length d.rows → Settled band d → along (flag d) (moments d es) ≡ flag (run_of d es)
  unfolding along flag_after moments run_of unlocks locks names_to resets holds
  run-flag [] d h z = refl
  run-flag (x ∷ es) d h z =
      after-append (unlocks side band) (locks side band) (flag d) (cond (granted d x) (tick_moments (length_of x) d) []) _
      ∙ ap (λ (l : Bool). along l (record { cause = ended x; before = d; after = step_of d x } ∷ moments (step_of d x) es)) (events-flag d x)
      ∙ ap (λ (l : Bool). along l (moments (step_of d x) es)) (end-flag d x h z)
      ∙ run-flag es (step_of d x) (rw (step_keeps d x).rows h) (step-settled band d x z)

-- ---- the rule

module _ (capacity bands sensors band : ℕ) (present : band < 16) (side : Side) where
  fresh-flag : flag side band (fresh_drive capacity bands sensors) ≡ false
  unfolding flag fresh_row
  fresh-flag = ap (locked_on side) (fresh_at capacity bands sensors band) ∙ go side
    where
      go : (s : Side) → locked_on s fresh_row ≡ false
      go Read = refl
      go Write = refl

  fresh-present : band < length (fresh_drive capacity bands sensors).rows
  unfolding fresh_drive
  fresh-present = present

  pub history : (es : List Event) → (locked_on side (row_at (run_of (fresh_drive capacity bands sensors) es) band) ≡ true)
      ↔ LockedByHistory side band (moments (fresh_drive capacity bands sensors) es)
  unfolding flag along Last
  history es = (λ t. there (to_last clear mark start ms (same ∙ t)), λ q. sym same ∙ back q)
    where
      clear : Moment → Bool
      clear m = unlocks side band m

      mark : Moment → Bool
      mark m = locks side band m

      start : Bool
      start = flag side band (fresh_drive capacity bands sensors)

      ms : List Moment
      ms = moments (fresh_drive capacity bands sensors) es

      same : flag_after clear mark start ms ≡ flag side band (run_of (fresh_drive capacity bands sensors) es)
      same = run-flag side band es (fresh_drive capacity bands sensors) fresh-present (fresh-settled capacity bands sensors band)

      there : ((start ≡ true) × (any clear ms ≡ false)) ⊎ Last clear mark ms → LockedByHistory side band ms
      there (inl (u, n)) = absurd (false≢true (sym fresh-flag ∙ u))
      there (inr (a, m, c, e, k, n)) = record { earlier = a; moment = m; later = c; order = e; locking = k; last = n }

      back : LockedByHistory side band ms → flag_after clear mark start ms ≡ true
      back q = from_last clear mark start ms (q.earlier, q.moment, q.later, q.order, q.locking, q.last)
