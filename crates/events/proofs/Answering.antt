-- What an event replies, from its answer: a refusal leaves the drive, and an event that is done settles it.
use mathlib.Core.Path.{◌≡◌, refl, sym, ap, ◌∙◌, subst}
use Prim.Native.Nat.{ℕ}
use native.Mathlib.Omega.{arith}
use mathlib.Core.Bool.{true, false}
use lib.Dec.{eqb}
use borrow.Author.Tests.{ne_eqb}
use Rattle.std.specs.Prelude.{Result, Ok, Err}
use Rattle.base.specs.Refusals.{LowestOf}
use Rattle.base.proofs.Cases.{cond-true, cond-false}
use Rattle.answer.specs.declared.Refusal.{Refusal}
use Rattle.answer.specs.Numbers.{number_of}
use Rattle.answer.proofs.Injective.{refusal_number}
use Rattle.drive.specs.declared.Drive.{Drive}
use Rattle.drive.specs.State.{settle_of}
use Rattle.drive.specs.Events.{Event, refusals, answer_of, act_of, step_of, elapsed_stops, stops_of, Replies}
use Rattle.drive.proofs.Answers.{lowest-given}

module _ (d : Drive) (e : Event) where
  -- a refusal by its number
  pub refuses : (k : Refusal) (r : Result ℕ Refusal) (x : Drive) → r ≡ Err k → number_of k ≡ answer_of d e → x ≡ d → Replies d e r x
  unfolding step_of stops_of
  refuses k r x w p q =
      let f : eqb (answer_of d e) 0 ≡ false = ne_eqb (answer_of d e) 0 (λ z. omega (arith, refusal_number k, p, z)) in
      subst (λ (y : Result ℕ Refusal). Replies d e y x) (sym w) (record {
        answer = p;
        stops = tt;
        drive = q ∙ cond-false (eqb (answer_of d e) 0) _ _ _ f refl;
        lowest = subst (LowestOf (refusals d e)) (sym p) (lowest-given d e);
      })

  -- an event that is done, by its stops and what it did
  pub grants : (x y : Drive) (n : ℕ) → 0 ≡ answer_of d e → n ≡ elapsed_stops d e → x ≡ settle_of y → y ≡ act_of d e → Replies d e (Ok n) x
  unfolding step_of stops_of
  grants x y n p s w a =
      let f : eqb (answer_of d e) 0 ≡ true = ap (λ (k : ℕ). eqb k 0) (sym p) in
      record {
        answer = p;
        stops = cond-true (eqb (answer_of d e) 0) _ _ _ f s;
        drive = cond-true (eqb (answer_of d e) 0) _ _ _ f (w ∙ ap settle_of a);
        lowest = subst (LowestOf (refusals d e)) (sym p) (lowest-given d e);
      }
