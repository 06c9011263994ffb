-- Document 01, 'Value of an expression' (002, 3.2.4), as document 02, #104 amends it: "Evaluation says TRUE, FALSE or malformed, and its users take
-- the three."
use Rattle.std.specs.Prelude.{ℕ, Bool, true, false, not, cond, ◌&&◌, ◌||◌, List, [], ◌∷◌, eqb, get_or}
use Rattle.std.proofs.Math.Option.{Option, none, some}
use Rattle.base.specs.Lists.{any}
use Rattle.expression.specs.declared.Part.{Part}
use Rattle.expression.specs.declared.Part.TheVariants.{Reference, Operator}
use Rattle.expression.specs.declared.Element.{Element}
use Rattle.evaluator.specs.declared.Evaluation.{Evaluation}
use Rattle.evaluator.specs.declared.Evaluation.TheVariants.{True, False, Malformed}

-- "A reference puts the row's condition on the stack, FALSE if that row is absent.": of a condition for each row
abbrev pub condition_at : List Bool → ℕ → Bool
condition_at conditions row = get_or conditions row false

-- "AND and OR take two, NOT takes one, each puts one.": none where the operator runs short. The head of the stack is the last value put.
abbrev pub on_two : (Bool → Bool → Bool) → List Bool → Option (List Bool)
on_two f [] = none
on_two f (a ∷ []) = none
on_two f (a ∷ b ∷ stack) = some (f b a ∷ stack)

abbrev pub on_one : (Bool → Bool) → List Bool → Option (List Bool)
on_one f [] = none
on_one f (a ∷ stack) = some (f a ∷ stack)

-- "00 AND, 01 OR or 02 NOT"; no other code is an operator
abbrev pub operator_of : ℕ → List Bool → Option (List Bool)
operator_of code stack = cond (eqb code 0) (on_two ◌&&◌ stack) (cond (eqb code 1) (on_two ◌||◌ stack) (cond (eqb code 2) (on_one not stack) none))

-- one element on the stack; f is what a reference to a row puts
abbrev pub put_element : (ℕ → Bool) → Part → List Bool → Option (List Bool)
put_element f (Reference row) stack = some (f row ∷ stack)
put_element f (Operator code) stack = operator_of code stack

-- once malformed, always malformed
abbrev pub on_stack : {A : Type 0} → (A → Option A) → Option A → Option A
on_stack f none = none
on_stack f (some stack) = f stack

-- a value that is left
abbrev pub left : Bool → Evaluation
left true = True
left false = False

-- "Well formed: no operator runs short and exactly one value is left.": that value; else malformed
abbrev pub end_of : Option (List Bool) → Evaluation
end_of none = Malformed
end_of (some []) = Malformed
end_of (some (v ∷ [])) = left v
end_of (some (v ∷ w ∷ stack)) = Malformed

-- "Postfix.": the walk
unfoldable pub evaluate : (ℕ → Bool) → List Element → Option (List Bool) → Evaluation
evaluate f [] stack = end_of stack
evaluate f (e ∷ es) stack = evaluate f es (on_stack (put_element f e.part) stack)

-- TRUE, FALSE or malformed. "Empty .. has the value FALSE" and is not malformed: #104 speaks of "a malformed, non-empty expression".
abbrev pub value_by : (ℕ → Bool) → List Element → Evaluation
value_by f [] = False
value_by f (e ∷ es) = evaluate f (e ∷ es) (some [])

-- under the sensors' conditions
unfoldable pub value_of : List Bool → List Element → Evaluation
value_of conditions es = value_by (condition_at conditions) es

-- What locks, what holds a Set and what is listed as 1: TRUE, and neither FALSE nor malformed. Document 01's "malformed .. has the value FALSE" is
-- left for a row that has such a list, which no script can store.
abbrev pub is_true : Evaluation → Bool
is_true True = true
is_true False = false
is_true Malformed = false

-- "refers to that sensor's row": a part, and a list of elements
abbrev pub refers_to : ℕ → Part → Bool
refers_to row (Reference r) = eqb r row
refers_to row (Operator c) = false

unfoldable pub mentions : ℕ → List Element → Bool
mentions row es = any (λ e. refers_to row e.part) es
