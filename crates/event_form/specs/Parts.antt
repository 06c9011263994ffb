-- How the events of a pair of slices are counted out (`FlatForm` in Flat.antt says which list they are), and the numbers of one event.
use Rattle.std.specs.Prelude.{◌≡◌, ℕ, zero, suc, ◌-◌, cond, ◌&&◌, List, [], ◌∷◌, ◌++◌, eqb, leb, ltb, length, get_or, take, drop, replicate}
use Rattle.drive.specs.Events.{Event}
use Rattle.event_form.specs.declared.EventNumbers.{EventNumbers}
use Rattle.event_form.specs.Form.{fields_of, with_tokens}
use Rattle.event_form.specs.Kinds.{event_by}

-- the numbers of an event by its kind, which is one of them; 0 where there is no such kind
abbrev pub width_of : ℕ → ℕ
width_of kind = get_or (0 ∷ 3 ∷ 2 ∷ 2 ∷ 10 ∷ 9 ∷ 4 ∷ 4 ∷ []) kind 0

-- the bytes of the expression: a band Set's last number
abbrev pub count_of : List ℕ → ℕ
count_of fields = cond (eqb (get_or fields 0 0) 5) (get_or fields 8 0) 0

-- the event that a pair begins with, and what is left of both slices; or none, where the pair is cut or the kind unknown
pub data Next : Type 0 where
  next : (e : Event) (fields tokens : List ℕ) → Next
  none : Next

unfoldable pub next_in : List ℕ → List ℕ → Next
next_in fields tokens =
    let kind = get_or fields 0 0 in
    let width = width_of kind in
    let count = count_of fields in
    cond (leb 1 width && (leb width (length fields) && leb count (length tokens)))
    (next (event_by kind (drop 1 fields) (take count tokens)) (drop width fields) (drop count tokens))
    none

-- the list of events that a pair of slices is, if any
pub data Flat : Type 0 where
  flat : List Event → Flat
  no_flat : Flat

abbrev pub before : Event → Flat → Flat
before e (flat es) = flat (e ∷ es)
before e no_flat = no_flat

abbrev pub and_then : Next → (List ℕ → List ℕ → Flat) → Flat
and_then (next e fields tokens) follow = before e (follow fields tokens)
and_then none follow = no_flat

-- no number is left: nor may a byte be
abbrev pub ended : List ℕ → Flat
ended tokens = cond (eqb (length tokens) 0) (flat []) no_flat

-- an event takes at least one number, so there are no more of them than numbers
unfoldable pub events_in : ℕ → List ℕ → List ℕ → Flat
events_in zero fields tokens = ended tokens
events_in (suc k) fields tokens = cond (ltb 0 (length fields)) (and_then (next_in fields tokens) (λ f t. events_in k f t)) (ended tokens)

unfoldable pub events_of : List ℕ → List ℕ → Flat
events_of fields tokens = events_in (length fields) fields tokens

-- what is told of the numbers of an event: so many from the start, and 0 after them
pub record Numbers (e : Event) (r : EventNumbers) : Type 0 where
  pub width : r.width ≡ length (fields_of e)
  pub numbers : r.numbers ≡ fields_of e ++ replicate (10 - length (fields_of e)) 0

-- and of those of an event whose expression has so many bytes, whatever they are
abbrev pub NumbersWith : Event → ℕ → EventNumbers → Type 0
NumbersWith e count r = (tokens : List ℕ) → length tokens ≡ count → Numbers (with_tokens tokens e) r
