-- The starred cases of document 01.
use Prim.Native.Nat.{ℕ}
use mathlib.Core.Path.{◌≡◌, refl, sym, ap, ◌∙◌}
use native.Mathlib.Omega.{arith}
use mathlib.Core.Bool.{Bool, true, false, not, cond}
use mathlib.Core.List.{List, [], ◌∷◌}
use lib.Dec.{eqb}
use lib.ListN.{length}
use Rattle.base.specs.Rows.{is_row}
use Rattle.sensor.proofs.Worked.{below_both, at_both, at_off, above-off, two-old, three-new}
use Rattle.evaluator.specs.declared.Evaluation.TheVariants.{True}
use Rattle.evaluator.specs.Value.{left, evaluate, value_of}
use Rattle.evaluator.specs.Formed.{count_from}
use Rattle.evaluator.proofs.Mentions.{absent}
use Rattle.token_reader.specs.Format.{body_of}
use Rattle.drive.specs.declared.Drive.{Drive}
use Rattle.drive.specs.Events.{band_set, answer_of, step_of}
use Rattle.drive.proofs.Answers.{refused-stays}
use Rattle.drive.proofs.Rules.{drive-rules}
use Rattle.reached.specs.Starred.{row, NOT, and_tokens, expression_alone, Starred}

not-99 : (conditions : List Bool) → length conditions ≡ 16 → value_of conditions (row 99 ∷ NOT ∷ []) ≡ True
unfolding value_of evaluate
not-99 conditions e = ap (λ (b : Bool). left (not b)) (sym (absent conditions 99 (omega (arith, e))))

-- AND alone: 1 or 13, so the drive stays
and-answered : (d : Drive) (band : ℕ) → answer_of d (band_set band expression_alone and_tokens) ≡ cond (not (is_row d.band_count band)) 1 13
unfolding drive-rules count_from
and-answered d band = refl

and-refused : (d : Drive) (band : ℕ) → is_row d.band_count band ≡ true → answer_of d (band_set band expression_alone and_tokens) ≡ 13
and-refused d band h = and-answered d band ∙ ap (λ (b : Bool). cond (not b) 1 13) h

and_kept : (d : Drive) (band : ℕ) → step_of d (band_set band expression_alone and_tokens) ≡ d
and_kept d band = sym (refused-stays d (band_set band expression_alone and_tokens) _ (sym (and-answered d band)) (go (is_row d.band_count band))).0
  where
    go : (b : Bool) → eqb (cond (not b) 1 13) 0 ≡ false
    go true = refl
    go false = refl

-- The cases with numbers in them compute: through the bytes of tokens, the value of an expression, and the rules of the drive.
pub starred : Starred
unfolding body_of value_of evaluate drive-rules
starred = record {
  takes-74 = refl;
  empty-reads = refl;
  empty-false = λ conditions. refl;
  and-reads = refl;
  and-malformed = λ conditions. refl;
  and-refused = and-refused;
  and_kept = and_kept;
  not-99 = not-99;
  below_both = below_both;
  at_both = at_both;
  at_off = at_off;
  above-off = above-off;
  two-old = two-old;
  three-new = three-new;
  elapse-2 = refl;
  elapse-3 = refl;
  first-timer = refl;
  second-timer = refl;
  one-stop = refl;
  place-at-end = refl;
  place-past-end = refl;
  read-at-end = refl;
  read-past-end = refl;
  write-at-end = refl;
  write-past-end = refl;
}
