-- The walk over the elements: what an operator on two values does to the stack, and what a turn and the end come to.
use Rattle.std.proofs.Common.{◌≡◌, ℕ, ◌+◌, ◌<◌, ◌≤◌, Bool, true, false, List, [], ◌∷◌, ◌++◌, length, get_or, drop, refl, sym, ap, ◌∙◌, arith, add-one, drop-cons, reverse}
use Rattle.std.proofs.lemmas.List.{reverse-append}
use Rattle.std.specs.Prelude.{Option, Some, None, is_some, not}
use Rattle.std.proofs.Math.Option as maybe
use lib.ListN.{drop_of_length-le}
use Rattle.arrayvec.specs.ArrayVec.{ArrayVec, array_vec_len}
use Rattle.expression.specs.declared.Element.{Element}
use Rattle.evaluator.specs.declared.Evaluation.{Evaluation}
use Rattle.evaluator.specs.declared.Evaluation.TheVariants.{False, Malformed}
use Rattle.evaluator.specs.Value.{condition_at, put_element, end_of, evaluate, value_by, value_of}
use Rattle.evaluator.specs.Parts.{stack_in, Does, DoesTwo}

-- a value put on what is left
put_on : (stack rest : ArrayVec Bool) (v : Bool) → stack.items ≡ rest.items ++ v ∷ [] → stack_in stack ≡ v ∷ stack_in rest
put_on stack rest v e = ap reverse e ∙ reverse-append rest.items (v ∷ [])

pub two-taken : {A : Type 0} (gives : Bool → Bool → Bool → Type 0) (old one none last : ArrayVec Bool) (a b v : Bool) (done : A)
    → old.items ≡ one.items ++ b ∷ [] → one.items ≡ none.items ++ a ∷ [] → last.items ≡ none.items ++ v ∷ [] → gives a b v
    → DoesTwo gives (stack_in old) (Some done) (stack_in last)
two-taken gives old one none last a b v done e f g h =
    (stack_in none, a, b, v, put_on old one b e ∙ ap (λ (s : List Bool). b ∷ s) (put_on one none a f), h, put_on last none v g)

-- what is left to run, from the stack as it is, gives the value of the whole
pub record Ran (cs : List Bool) (es : List Element) (i : ℕ) (stack : ArrayVec Bool) : Type 0 where
  pub few : array_vec_len stack ≤ i
  pub same : evaluate (condition_at cs) (drop i es) (maybe.some (stack_in stack)) ≡ value_of cs es

never_well : (f : ℕ → Bool) (es : List Element) → evaluate f es maybe.none ≡ Malformed
unfolding evaluate
never_well f [] = refl
never_well f (e ∷ es) = never_well f es

module _ (cs : List Bool) (es : List Element) where
  pub ran_begin : (stack : ArrayVec Bool) → (length es ≡ 0 → ⊥) → stack.items ≡ [] → Ran cs es 0 stack
  unfolding value_of
  ran_begin stack h e = record { few = rw e (omega arith); same = rw e (go es h) }
    where
      go : (xs : List Element) → (length xs ≡ 0 → ⊥) → evaluate (condition_at cs) xs (maybe.some []) ≡ value_by (condition_at cs) xs
      go [] k = absurd (k refl)
      go (x ∷ xs) k = refl

  module _ (i : ℕ) (stack next : ArrayVec Bool) (d : Element) (r : Ran cs es i stack) (l : i < length es) where
    turn : evaluate (condition_at cs) (drop (i + 1) es) (put_element (condition_at cs) (get_or es i d).part (stack_in stack)) ≡ value_of cs es
    unfolding evaluate
    turn = rw add-one (rw (drop-cons es i d l) at r.same)

    pub ran_again : {A : Type 0} (t : Bool) (answer : Option A) → is_some answer ≡ not t → t ≡ false
        → Does (put_element (condition_at cs) (get_or es i d).part) (stack_in stack) answer (stack_in next)
        → array_vec_len next ≤ array_vec_len stack + 1 → Ran cs es (i + 1) next
    ran_again t (Some done) p q e f = record { few = omega (arith, r.few); same = rw e at turn }
    ran_again t None p q e f = cc

    pub ran_broken : {A : Type 0} (t : Bool) (answer : Option A) → is_some answer ≡ not t → t ≡ true
        → Does (put_element (condition_at cs) (get_or es i d).part) (stack_in stack) answer (stack_in next) → Malformed ≡ value_of cs es
    ran_broken t (Some done) p q e = cc
    ran_broken t None p q e = sym (never_well (condition_at cs) (drop (i + 1) es)) ∙ rw e at turn

  pub ran_done : (i : ℕ) (stack : ArrayVec Bool) (v : Evaluation) → Ran cs es i stack → length es ≤ i → v ≡ end_of (maybe.some (stack_in stack))
      → v ≡ value_of cs es
  unfolding evaluate
  ran_done i stack v r l e = e ∙ rw (drop_of_length-le es {i = i} l) at r.same

pub none_valued : (cs : List Bool) (es : List Element) → length es ≡ 0 → False ≡ value_of cs es
unfolding value_of
none_valued cs [] h = refl
none_valued cs (e ∷ es) h = absurd (omega arith)
