-- The elements of an expression, as a list and as the array of 32 that a row holds.
use Rattle.std.specs.Prelude.{ℕ, ◌-◌, ◌<◌, ◌≤◌, List, [], ◌∷◌, ◌++◌, length, take, replicate}
use Rattle.expression.specs.declared.Part.{Part}
use Rattle.expression.specs.declared.Part.TheVariants.{Reference, Operator}
use Rattle.expression.specs.declared.Element.{Element}
use Rattle.expression.specs.declared.Expression.{Expression}

-- "0 to 32 elements"
abbrev pub most_elements : ℕ
most_elements = 32

abbrev pub element : Part → Element
element p = record { part = p }

-- what stands in the cells past the count
abbrev pub blank : Element
blank = element (Operator 0)

-- "its expression is the stored list of elements"
abbrev pub elements_in : Expression → List Element
elements_in x = take x.count x.elements

-- a list of at most so many elements as it is stored
abbrev pub expression_of : List Element → Expression
expression_of es = record { elements = es ++ replicate (most_elements - length es) blank; count = length es }

-- "four row bytes", "one byte 00 AND, 01 OR or 02 NOT": what the token form can hold
abbrev pub PartFits : Part → Type 0
PartFits (Reference row) = row < 4294967296
PartFits (Operator code) = code ≤ 2

abbrev pub AllFit : List Element → Type 0
AllFit [] = Unit {0}
AllFit (e ∷ es) = PartFits e.part × AllFit es
