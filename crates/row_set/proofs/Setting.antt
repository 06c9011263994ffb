-- What the arms of a Set of one row come to, over the values that their calls hand back.
use mathlib.Core.Path.{◌≡◌, refl, sym, ap, ap₂, ◌∙◌}
use Prim.Native.Nat.{ℕ}
use native.Mathlib.Omega.{arith}
use mathlib.Core.Bool.{Bool, true, false, not, cond, ◌&&◌, ◌||◌, false≢true}
use mathlib.Core.List.{List, []}
use mathlib.Core.Logic.{inl, ⊎_elim}
use lib.Dec.{eqb, ltb}
use lib.ListN.{length}
use borrow.Author.Tests.{eq-eqb, ne_eqb, ltb-false}
use Rattle.std.specs.Prelude.{Result, Ok, Err}
use Rattle.base.specs.Columns.{named}
use Rattle.base.proofs.Cases.{cond-true, cond-false, neither}
use Rattle.answer.specs.declared.Refusal.{Refusal}
use Rattle.answer.proofs.Injective.{refusal_number}
use Rattle.expression.specs.declared.Expression.{Expression}
use Rattle.expression.specs.Elements.{elements_in, expression_of}
use Rattle.evaluator.specs.declared.Evaluation.{Evaluation}
use Rattle.evaluator.specs.Value.{condition_at, value_of}
use Rattle.evaluator.specs.Formed.{malformed, is_malformed}
use Rattle.evaluator.proofs.Formed.{judged}
use Rattle.token_reader.specs.Read.{TokenOutcome, elements, refusal, most_token_bytes, read_tokens, expression_in, answer_in, Tells, Reads}
use Rattle.token_reader.proofs.Numbers.{DoneOrBroken, read-numbers}
use Rattle.band.specs.declared.Row.{Row}
use Rattle.band_columns.specs.declared.BandColumns.{BandColumns}
use Rattle.band.specs.Rows.{value_in}
use Rattle.band_columns.specs.Sets.{formed_row, held_by, columns_fit}
use Rattle.drive.specs.Events.{tokens_answer, formed_from, malformed_in, held_under}
use Rattle.row_set.specs.Forming.{row_answer, Gives, SetsRow}
use Rattle.row_set.specs.Parts.{expression_for, TokensFor, form_answer, Forms}

-- ---- the bytes of a Set

-- what the token reader tells, by its answer and its expression
told : (o : TokenOutcome) (r : Result Expression Refusal) → Tells o r → Gives (answer_in o) (expression_in o) r
told (elements es) (Ok x) h = (refl, h)
told (elements es) (Err e) h = absurd h
told (refusal n) (Ok x) h = absurd h
told (refusal n) (Err e) h = h

where-named : {A : Type 0} (b : Bool) (n : ℕ) (x y : A) (r : Result A Refusal) → b ≡ true → Gives n x r → Gives (cond b n 0) (cond b x y) r
where-named true n x y r e g = g
where-named false n x y r e g = absurd (false≢true e)

pub tokens_read : (c : BandColumns) (bytes : List ℕ) (r : Result Expression Refusal) (t : Bool) → t ≡ named 32 c.mask → t ≡ true → Reads bytes r → TokensFor c bytes r
tokens_read c bytes r t p e h = where-named (named 32 c.mask) _ _ _ r (sym p ∙ e) (told (read_tokens bytes) r h)

pub tokens_unread : (c : BandColumns) (bytes : List ℕ) (x : Expression) (t : Bool) → t ≡ named 32 c.mask → t ≡ false → x ≡ expression_of []
    → TokensFor c bytes (Ok x)
tokens_unread c bytes x t p e h =
    (sym (cond-false (named 32 c.mask) (answer_in (read_tokens bytes)) 0 0 (sym p ∙ e) refl), cond-false (named 32 c.mask) _ _ _ (sym p ∙ e) h)

-- ---- the row that is formed

-- the new row's value is malformed where the Set names a malformed expression, whatever the conditions
formed-malformed : (cs : List Bool) (c : BandColumns) (x : Expression) (row : Row)
    → (named 32 c.mask && is_malformed (value_in cs (formed_row c x row))) ≡ (named 32 c.mask && malformed (elements_in x))
unfolding formed_row value_of
formed-malformed cs c x row = go (named 32 c.mask)
  where
    go : (b : Bool) → (b && is_malformed (value_of cs (elements_in (cond b x row.expression)))) ≡ (b && malformed (elements_in x))
    go true = judged (condition_at cs) (elements_in x)
    go false = refl

module _ (cs : List Bool) (c : BandColumns) (x : Expression) (row new : Row) (v : Evaluation) (m : Bool) (en : new ≡ formed_row c x row)
    (ev : v ≡ value_in cs new) (em : m ≡ (named 32 c.mask && is_malformed v)) where
  broken-is : m ≡ (named 32 c.mask && malformed (elements_in x))
  broken-is =
      em
      ∙ ap (λ (w : Evaluation). named 32 c.mask && is_malformed w) (ev ∙ ap (value_in cs) en)
      ∙ formed-malformed cs c x row

  pub row_malformed : m ≡ true → 13 ≡ form_answer cs c x row
  row_malformed e = cond-true (named 32 c.mask && malformed (elements_in x)) 13 _ _ (sym broken-is ∙ e) refl

  module _ (t : Bool) (et : t ≡ held_by c new v) (e : m ≡ false) where
    rest : cond t 8 0 ≡ form_answer cs c x row
    rest =
        ap (λ (b : Bool). cond b 8 0) (et ∙ ap (held_by c new) ev ∙ ap (held_under cs c) en)
        ∙ cond-false (named 32 c.mask && malformed (elements_in x)) 13 _ _ (sym broken-is ∙ e) refl

    pub row_held : t ≡ true → 8 ≡ form_answer cs c x row
    row_held q = ap (λ (b : Bool). cond b 8 0) (sym q) ∙ rest

    pub row_formed : t ≡ false → Forms cs c x row (Ok new)
    row_formed q = (sym (ap (λ (b : Bool). cond b 8 0) (sym q) ∙ rest), en)

pub ruleset forming = (row_malformed, row_held, row_formed)

-- the expression that is formed, where the Set names one and where it does not
formed-from : (c : BandColumns) (bytes : List ℕ) (row : Row) → formed_row c (expression_for c bytes) row ≡ formed_from c bytes row
unfolding formed_row
formed-from c bytes row =
    let y : Expression = expression_in (read_tokens bytes) in
    ap (λ (k : Expression). record {
      read_lock_enabled = (formed_row c y row).read_lock_enabled;
      write_lock_enabled = (formed_row c y row).write_lock_enabled;
      read_locked = (formed_row c y row).read_locked;
      write_locked = (formed_row c y row).write_locked;
      lock_on_reset = (formed_row c y row).lock_on_reset;
      expression = k;
    })
    (twice (named 32 c.mask) y (expression_of []) row.expression)
  where
    twice : (b : Bool) (a o f : Expression) → cond b (cond b a o) f ≡ cond b a f
    twice true a o f = refl
    twice false a o f = refl

-- ---- the whole

-- either arm of a test has one of three numbers
known : (b : Bool) (n : ℕ) → DoneOrBroken n → DoneOrBroken (cond b n 0)
known true n k = k
known false n k = inl refl

module _ (cs : List Bool) (c : BandColumns) (bytes : List ℕ) (row : Row) (u : Bool) (pu : u ≡ (not (columns_fit c) || ltb most_token_bytes (length bytes))) where
  pub set_unfit : u ≡ true → 2 ≡ row_answer cs c bytes row
  unfolding row_answer
  set_unfit eu = cond-true (not (columns_fit c) || ltb most_token_bytes (length bytes)) 2 _ _ (sym pu ∙ eu) refl

  module _ (eu : u ≡ false) where
    k : ℕ
    k = tokens_answer c bytes

    -- the answer, once the bytes read
    end : ℕ
    end = cond (malformed_in c bytes) 13 (cond (held_under cs c (formed_from c bytes row)) 8 0)

    -- the answer, once the fields fit
    left : cond (eqb k 3) 3 (cond (eqb k 4) 4 end) ≡ row_answer cs c bytes row
    unfolding row_answer k end
    left = cond-false (not (columns_fit c) || ltb most_token_bytes (length bytes)) 2 _ _ (sym pu ∙ eu) refl

    numbers : DoneOrBroken k
    unfolding k
    numbers =
        known (named 32 c.mask) (answer_in (read_tokens bytes))
        (read-numbers bytes (ltb-false most_token_bytes (length bytes) (neither (not (columns_fit c)) (ltb most_token_bytes (length bytes)) (sym pu ∙ eu)).1))

    broken : DoneOrBroken k → (k ≡ 0 → ⊥) → k ≡ cond (eqb k 3) 3 (cond (eqb k 4) 4 end)
    broken n z =
        ⊎_elim (λ q. absurd (z q))
        (λ s. ⊎_elim
        (λ q. q ∙ cond-true (eqb k 3) 3 _ _ (eq-eqb k 3 q) refl)
        (λ q. q ∙ cond-false (eqb k 3) 3 _ _ (ne_eqb k 3 (omega arith)) (cond-true (eqb k 4) 4 _ _ (eq-eqb k 4 q) refl))
        s)
        n

    pub set_unread : (e : Refusal) → TokensFor c bytes (Err e) → SetsRow cs c bytes row (Err e)
    unfolding k
    set_unread e h = h ∙ broken numbers (λ z. omega (arith, refusal_number e, h ∙ z)) ∙ left

    whole : k ≡ 0 → end ≡ row_answer cs c bytes row
    whole z =
        cond-false (eqb k 3) 3 _ _ (ne_eqb k 3 (omega arith)) (cond-false (eqb k 4) 4 _ _ (ne_eqb k 4 (omega arith)) refl) ∙ left

    -- the expression that is judged is the one that the bytes read to
    judged-by : (named 32 c.mask && malformed (elements_in (expression_for c bytes))) ≡ malformed_in c bytes
    judged-by = once (named 32 c.mask) (expression_in (read_tokens bytes)) (expression_of [])
      where
        once : (b : Bool) (x y : Expression) → (b && malformed (elements_in (cond b x y))) ≡ (b && malformed (elements_in x))
        once true x y = refl
        once false x y = refl

    end-is : k ≡ 0 → form_answer cs c (expression_for c bytes) row ≡ row_answer cs c bytes row
    unfolding end
    end-is z = ap₂ (λ (a b : Bool). cond a 13 (cond b 8 0)) judged-by (ap (held_under cs c) (formed-from c bytes row)) ∙ whole z

    given : (n m : ℕ) (a b : Row) (q : Result Row Refusal) → n ≡ m → a ≡ b → Gives n a q → Gives m b q
    given n m a b (Ok new) p w g = (sym p ∙ g.0, g.1 ∙ w)
    given n m a b (Err e) p w g = g ∙ p

    pub set_formed : (x : Expression) (q : Result Row Refusal) → TokensFor c bytes (Ok x) → Forms cs c x row q → SetsRow cs c bytes row q
    unfolding k
    set_formed x q h s =
        given _ _ _ _ q (ap (λ (y : Expression). form_answer cs c y row) h.1 ∙ end-is h.0)
        (ap (λ (y : Expression). formed_row c y row) h.1 ∙ formed-from c bytes row)
        s

pub ruleset setting = (set_unfit, set_unread, set_formed)
