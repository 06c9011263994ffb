-- Document 01, 'Expressions as tokens' (002, table 7; 003): the bytes of a list of elements, one element in them, and the end of the list.
use Rattle.std.specs.Prelude.{ℕ, ◌+◌, ◌*◌, ◌/◌, ◌%◌, Bool, true, false, cond, ◌&&◌, List, [], ◌∷◌, ◌++◌, Option, Some, None, eqb, leb, length, get_or}
use Rattle.expression.specs.declared.Part.{Part}
use Rattle.expression.specs.declared.Part.TheVariants.{Reference, Operator}
use Rattle.expression.specs.declared.Element.{Element}

-- "A reference is F2 A4 00 00 0C 0E A4, four row bytes high first, F3 (12 bytes)."
abbrev pub reference_prefix : List ℕ
reference_prefix = 0xF2 ∷ 0xA4 ∷ 0x00 ∷ 0x00 ∷ 0x0C ∷ 0x0E ∷ 0xA4 ∷ []

-- "An operator is F2 A4 00 00 04 0E, one byte 00 AND, 01 OR or 02 NOT, F3 (8 bytes)."
abbrev pub operator_prefix : List ℕ
operator_prefix = 0xF2 ∷ 0xA4 ∷ 0x00 ∷ 0x00 ∷ 0x04 ∷ 0x0E ∷ []

abbrev pub width_of : Part → ℕ
width_of (Reference row) = 12
width_of (Operator code) = 8

-- the bytes of an element
abbrev pub part_bytes : Part → List ℕ
part_bytes (Reference row) = reference_prefix ++ row / 16777216 ∷ row / 65536 % 256 ∷ row / 256 % 256 ∷ row % 256 ∷ 0xF3 ∷ []
part_bytes (Operator code) = operator_prefix ++ code ∷ 0xF3 ∷ []

-- the elements, "then F1"
unfoldable pub body_of : List Element → List ℕ
body_of [] = 0xF1 ∷ []
body_of (e ∷ es) = part_bytes e.part ++ body_of es

-- "F0, then the elements, then F1, then no more bytes."
abbrev pub bytes_of : List Element → List ℕ
bytes_of es = 0xF0 ∷ body_of es

-- "high first"
abbrev pub four_bytes : ℕ → ℕ → ℕ → ℕ → ℕ
four_bytes a b c d = a * 16777216 + b * 65536 + c * 256 + d

-- the bytes begin with the prefix
unfoldable pub starts_with : List ℕ → List ℕ → Bool
starts_with [] bytes = true
starts_with (p ∷ prefix) [] = false
starts_with (p ∷ prefix) (b ∷ bytes) = eqb b p && starts_with prefix bytes

-- the rest of a reference and of an operator. A byte past the end is read as 0, so an F3 in its place says that no byte is missing.
abbrev pub reference_in : List ℕ → Option Part
reference_in bytes =
    cond (eqb (get_or bytes 11 0) 0xF3)
    (Some (Reference (four_bytes (get_or bytes 7 0) (get_or bytes 8 0) (get_or bytes 9 0) (get_or bytes 10 0))))
    None

abbrev pub operator_in : List ℕ → Option Part
operator_in bytes = cond (eqb (get_or bytes 7 0) 0xF3) (cond (leb (get_or bytes 6 0) 2) (Some (Operator (get_or bytes 6 0))) None) None

-- the element that begins the bytes. "No other atom form is read."
unfoldable pub part_in : List ℕ → Option Part
part_in bytes = cond (starts_with reference_prefix bytes) (reference_in bytes) (cond (starts_with operator_prefix bytes) (operator_in bytes) None)

-- "then F1, then no more bytes"
unfoldable pub is_end : List ℕ → Bool
is_end bytes = eqb (length bytes) 1 && eqb (get_or bytes 0 0) 0xF1
