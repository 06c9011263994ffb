-- Sets that are refused as malformed: the record `AtTheDoor`.
use Prim.Native.Nat.{ℕ, ◌≤◌}
use mathlib.Core.Path.{◌≡◌, refl, sym, ap, ap₂, ◌∙◌}
use mathlib.Core.Bool.{Bool, true, false, not, cond, ◌&&◌, ◌||◌, false≢true}
use mathlib.Core.List.{List, [], ◌∷◌}
use mathlib.Core.Logic.{◌⊎◌, inl, inr, ⊎_elim}
use native.Mathlib.Omega.{arith}
use lib.Dec.{eqb, ltb}
use lib.ListN.{length}
use borrow.Author.Tests.{ne_eqb, eqb-true, eqb-false}
use Rattle.base.specs.Columns.{named}
use Rattle.base.specs.Lists.{any}
use Rattle.base.specs.Refusals.{TableRow, when, first_of, applying, order_of}
use Rattle.base.proofs.Refusals.{own-place}
use Rattle.base.specs.Rows.{is_row}
use Rattle.base.proofs.Cases.{and_left, and_right}
use Rattle.sensor_set.specs.declared.SensorEvent.TheVariants as S
use Rattle.token_reader.specs.Read.{most_token_bytes, TokenOutcome, read_tokens, elements, expression_in}
use Rattle.expression.specs.Elements.{elements_in}
use Rattle.evaluator.specs.Value.{condition_at, value_of}
use Rattle.evaluator.specs.Formed.{malformed}
use Rattle.evaluator.proofs.Formed.{well-formed}
use Rattle.band.specs.declared.Side.TheVariants.{Read, Write}
use Rattle.band.specs.declared.Row.{Row}
use Rattle.band.specs.Rows.{enabled_on, with_locked, lock_under, settle_row}
use Rattle.band_columns.specs.declared.BandColumns.{BandColumns}
use Rattle.band_columns.specs.Sets.{columns_fit, formed_row, names_locked}
use Rattle.drive.specs.declared.Drive.{Drive}
use Rattle.drive.specs.State.{conditions_of, row_at}
use Rattle.drive.specs.Events.{Shape, ticking, resetting, setting, sensing, placing, looking, shape_of, if_setting}
use Rattle.drive.specs.Events.{Event, band_set, tokens_answer, malformed_in, formed_from, held_under, row_refusals_if, refusals_by, refusals, answer_of, step_of}
use Rattle.drive.proofs.Answers.{lowest-given, answer-below, band-answered, refused-stays}
use Rattle.reached.specs.Door.{AtTheDoor}

or-false : (a : Bool) → (a || false) ≡ a
or-false true = refl
or-false false = refl

-- 13 applies to an event that is a Set with such an expression, and to no other
applies-13 : (d : Drive) (x : Shape) → applying 13 (refusals_by d x) ≡ if_setting x (λ band c bytes. malformed_in c bytes) false
unfolding applying any
applies-13 d (ticking n) = refl
applies-13 d (resetting t) = refl
applies-13 d (setting b c bytes) = or-false (malformed_in c bytes)
applies-13 d (sensing s (S.Reading v)) = refl
applies-13 d (sensing s (S.Set c)) = refl
applies-13 d (placing b start n) = refl
applies-13 d (looking w start n) = refl

only-malformed : (d : Drive) (e : Event) → answer_of d e ≡ 13 → if_setting (shape_of e) (λ band c bytes. malformed_in c bytes) false ≡ true
only-malformed d e h =
    sym (applies-13 d (shape_of e))
    ∙ ap (λ (n : ℕ). applying n (refusals d e)) (sym h)
    ∙ (lowest-given d e).given (omega (arith, h))

module _ (d : Drive) (band : ℕ) (c : BandColumns) (bytes : List ℕ) where
  refused : malformed_in c bytes ≡ true → (1 ≤ answer_of d (band_set band c bytes)) × (order_of (answer_of d (band_set band c bytes)) ≤ order_of 13)
  refused h = (lowest-given d (band_set band c bytes)).lowest 13 (applies-13 d (setting band c bytes) ∙ h)

  kept : malformed_in c bytes ≡ true → step_of d (band_set band c bytes) ≡ d
  kept h =
      sym (refused-stays d (band_set band c bytes) _ refl (ne_eqb (answer_of d (band_set band c bytes)) 0 (λ q. omega (arith, q, (refused h).0)))).0

  unnamed : named 32 c.mask ≡ false → answer_of d (band_set band c bytes) ≡ 13 → ⊥
  unnamed n h =
      false≢true
      (sym (ap (λ (b : Bool). b && malformed (elements_in (expression_in (read_tokens bytes)))) n) ∙ only-malformed d (band_set band c bytes) h)

  emptied : read_tokens bytes ≡ elements [] → answer_of d (band_set band c bytes) ≡ 13 → ⊥
  emptied n h =
      false≢true
      (sym (ap (λ (o : TokenOutcome). named 32 c.mask && malformed (elements_in (expression_in o))) n ∙ none (named 32 c.mask))
      ∙ only-malformed d (band_set band c bytes) h)
    where
      none : (b : Bool) → (b && false) ≡ false
      none true = refl
      none false = refl

-- ---- a row that has a malformed expression

-- an enabled side and what does not lock it
no-lock : (locked enabled : Bool) → (locked || (enabled && false)) ≡ locked
no-lock true enabled = refl
no-lock false true = refl
no-lock false false = refl

settles-open : (conditions : List Bool) (row : Row) → malformed (elements_in row.expression) ≡ true → settle_row conditions row ≡ row
unfolding settle_row value_of
settles-open conditions row h =
    ap (λ (v : Bool). lock_under v row) (well-formed.never_true (condition_at conditions) (elements_in row.expression) h)
    ∙ ap₂ (λ (a b : Bool). with_locked a b row)
    (no-lock row.read_locked row.read_lock_enabled)
    (no-lock row.write_locked row.write_lock_enabled)

never-held : (conditions : List Bool) (c : BandColumns) (new : Row) → malformed (elements_in new.expression) ≡ true → held_under conditions c new ≡ false
unfolding value_of
never-held conditions c new h =
    ap (λ (v : Bool). (names_locked Read 0 c && (enabled_on Read new && v)) || (names_locked Write 0 c && (enabled_on Write new && v)))
    (well-formed.never_true (condition_at conditions) (elements_in new.expression) h)
    ∙ go (names_locked Read 0 c) (enabled_on Read new) (names_locked Write 0 c) (enabled_on Write new)
  where
    one : (a b : Bool) → (a && (b && false)) ≡ false
    one true true = refl
    one true false = refl
    one false b = refl

    go : (a b x y : Bool) → ((a && (b && false)) || (x && (y && false))) ≡ false
    go a b x y = ap₂ ◌||◌ (one a b) (one x y)

-- the new row of such a Set has the expression that the Set names
not-both : (conditions : List Bool) (c : BandColumns) (bytes : List ℕ) (row : Row) → malformed_in c bytes ≡ true
    → held_under conditions c (formed_from c bytes row) ≡ false
unfolding formed_row
not-both conditions c bytes row h =
    let x = expression_in (read_tokens bytes) in
    never-held conditions c (formed_from c bytes row)
    (ap (λ (b : Bool). malformed (elements_in (cond b x row.expression))) (and_left (named 32 c.mask) _ h)
    ∙ and_right (named 32 c.mask) _ h)

-- ---- the lowest number

-- what applies is the first of the list, or applies in the rest
either : (n k : ℕ) (a : Bool) (l : List TableRow) → applying n (when k a ∷ l) ≡ true → ((k ≡ n) × (a ≡ true)) ⊎ (applying n l ≡ true)
unfolding applying any
either n k a l = go (eqb k n) refl a
  where
    go : (b : Bool) → eqb k n ≡ b → (a : Bool) → ((b && a) || applying n l) ≡ true → ((k ≡ n) × (a ≡ true)) ⊎ (applying n l ≡ true)
    go true q true h = inl (eqb-true k n q, refl)
    go true q false h = inr h
    go false q a h = inr h

none : (n : ℕ) → applying n [] ≡ true → ⊥
unfolding applying any
none n h = false≢true h

-- a number that applies to a Set whose expression is malformed is at most 4 or 13
beside : (d : Drive) (b : ℕ) (c : BandColumns) (bytes : List ℕ) → malformed_in c bytes ≡ true → (n : ℕ)
    → applying n (refusals_by d (setting b c bytes)) ≡ true → (n ≤ 4) ⊎ (13 ≤ n)
beside d b c bytes h n p =
    ⊎_elim (λ q. inl (omega (arith, q.0)))
    (λ p. ⊎_elim (λ q. inl (omega (arith, q.0)))
    (λ p. ⊎_elim (λ q. inl (omega (arith, q.0)))
    (λ p. ⊎_elim (λ q. inl (omega (arith, q.0)))
    (λ p. ⊎_elim (λ q. inr (omega (arith, q.0)))
    (λ p. ⊎_elim (λ q. absurd (false≢true (sym (not-both (conditions_of d) c bytes (row_at d b) h) ∙ q.1))) (λ p. absurd (none n p)) (either n 8 _ _ p))
    (either n 13 _ _ p))
    (either n 4 _ _ p))
    (either n 3 _ _ p))
    (either n 2 _ _ p))
    (either n 1 _ _ p)

lowest-number : (d : Drive) (e : Event) (n : ℕ) → applying n (refusals d e) ≡ true → answer_of d e ≤ n
lowest-number d e n p = go (eqb (answer_of d e) 13) refl (eqb n 13) refl
  where
    low : order_of (answer_of d e) ≤ order_of n
    low = ((lowest-given d e).lowest n p).1

    -- where 13 is given
    given : (x : Shape) → if_setting x (λ band c bytes. malformed_in c bytes) false ≡ true → applying n (refusals_by d x) ≡ true → (n ≤ 4) ⊎ (13 ≤ n)
    given (ticking k) h q = absurd (false≢true h)
    given (resetting t) h q = absurd (false≢true h)
    given (setting b c bytes) h q = beside d b c bytes h n q
    given (sensing s x) h q = absurd (false≢true h)
    given (placing b start k) h q = absurd (false≢true h)
    given (looking w start k) h q = absurd (false≢true h)

    go : (a : Bool) → eqb (answer_of d e) 13 ≡ a → (b : Bool) → eqb n 13 ≡ b → answer_of d e ≤ n
    go a q true r = omega (arith, eqb-true n 13 r, answer-below d e)
    go true q false r =
        let is : answer_of d e ≡ 13 = eqb-true (answer_of d e) 13 q in
        ⊎_elim (λ k. absurd (omega (arith, k, low, ap order_of is, own-place n (eqb-false n 13 r)))) (λ k. omega (arith, k, is))
        (given (shape_of e) (only-malformed d e is) p)
    go false q false r = omega (arith, low, own-place (answer_of d e) (eqb-false (answer_of d e) 13 q), own-place n (eqb-false n 13 r))

-- ---- 13 whatever the drive

-- once the band is there, the answer is the rest of the list, in which only whether the Set is held looks at the drive
abbrev held_of : Drive → ℕ → BandColumns → List ℕ → Bool
held_of d band c bytes = held_under (conditions_of d) c (formed_from c bytes (row_at d band))

there : (d : Drive) (band : ℕ) (c : BandColumns) (bytes : List ℕ) → is_row d.band_count band ≡ true
    → first_of (row_refusals_if c bytes (held_of d band c bytes)) ≡ answer_of d (band_set band c bytes)
there d band c bytes h = band-answered d band c bytes (not (is_row d.band_count band)) refl (ap not h)

abbrev first_by : (a b x y held : Bool) → ℕ
first_by a b x y held = cond a 2 (cond b 3 (cond x 4 (cond y 13 (cond held 8 0))))

held-apart : (a b x y h k : Bool) → first_by a b x y h ≡ 13 → first_by a b x y k ≡ 13
held-apart true b x y h k q = q
held-apart false true x y h k q = q
held-apart false false true y h k q = q
held-apart false false false true h k q = refl
held-apart false false false false true k q = absurd (omega (arith, q))
held-apart false false false false false k q = absurd (omega (arith, q))

whatever : (d e : Drive) (band : ℕ) (c : BandColumns) (bytes : List ℕ) → is_row d.band_count band ≡ true → is_row e.band_count band ≡ true
    → answer_of d (band_set band c bytes) ≡ 13 → answer_of e (band_set band c bytes) ≡ 13
whatever d e band c bytes h k q =
    sym (there e band c bytes k)
    ∙ held-apart (not (columns_fit c) || ltb most_token_bytes (length bytes)) (eqb (tokens_answer c bytes) 3) (eqb (tokens_answer c bytes) 4)
    (malformed_in c bytes) (held_of d band c bytes) (held_of e band c bytes) (there d band c bytes h ∙ q)

pub at-the-door : AtTheDoor
at-the-door = record {
  refused = refused;
  kept = kept;
  only-malformed = only-malformed;
  unnamed = unnamed;
  emptied = emptied;
  settles-open = settles-open;
  never-held = never-held;
  not-both = not-both;
  lowest-number = lowest-number;
  whatever = whatever;
}
