-- How much room the flat form of a script takes at most.
use mathlib.Core.Path.{◌≡◌}
use Prim.Native.Nat.{ℕ, ◌+◌, ◌*◌, ◌/◌, ◌%◌, ◌≤◌}
use native.Mathlib.Omega.{arith}
use mathlib.Core.Bool.{false}
use mathlib.Core.List.{List, [], ◌∷◌, ◌++◌}
use lib.Dec.{ltb}
use lib.ListN.{length, length-append}
use borrow.Author.Tests.{le-ltb}
use Rattle.base.proofs.Cases.{cond_both}
use Rattle.numbers.specs.Groups.{groups_of, number_bytes}
use Rattle.drive.specs.Events.{Event, reading, elapse, reset, sensor_set, band_set, geometry, transfer}
use Rattle.event_form.specs.Form.{form_of, numbers_bytes, values_bytes, event_bytes, fields_of, tokens_of}
use Rattle.event_form.specs.Flat.{all_fields, all_tokens}
use Rattle.script_form.specs.Written.{events_bytes, script_bytes}
use Rattle.script_form.proofs.Whole.{script-form}
use Rattle.script_reader.specs.Read.{NeverShort}

-- a number takes at least one byte
number-some : (v : ℕ) → 1 ≤ length (number_bytes v)
unfolding groups_of
number-some v = cond_both (λ (l : List ℕ). 1 ≤ length l) (ltb v 128) (v ∷ []) ((v % 128 + 128) ∷ groups_of 9 (v / 128)) (omega arith) (omega arith)

numbers-some : (numbers : List ℕ) → length numbers ≤ length (numbers_bytes numbers)
unfolding numbers_bytes
numbers-some [] = omega arith
numbers-some (v ∷ numbers) = omega (arith, number-some v, numbers-some numbers, length-append (number_bytes v) (numbers_bytes numbers))

-- of the fields that every script has there is a byte for each; the values of a Set may take none
fixed-few : (e : Event) → 3 * length (fields_of e) ≤ 10 * length (form_of e).numbers
fixed-few (reading sensor value) = omega arith
fixed-few (elapse n) = omega arith
fixed-few (reset type) = omega arith
fixed-few (sensor_set sensor c) = omega arith
fixed-few (band_set band c tokens) = omega arith
fixed-few (geometry band start blocks) = omega arith
fixed-few (transfer direction start count) = omega arith

event-room : (e : Event) → (3 * length (fields_of e) ≤ 10 * length (event_bytes e)) × (length (tokens_of e) ≤ length (event_bytes e))
unfolding event_bytes
event-room e =
    let n : List ℕ = numbers_bytes (form_of e).numbers in
    let v : List ℕ = values_bytes (form_of e).mask (form_of e).values in
    let a = length-append n (v ++ tokens_of e) in
    let b = length-append v (tokens_of e) in
    (omega (arith, a, b, fixed-few e, numbers-some (form_of e).numbers), omega (arith, a, b))

events-room : (es : List Event) → (3 * length (all_fields es) ≤ 10 * length (events_bytes es)) × (length (all_tokens es) ≤ length (events_bytes es))
unfolding all_fields all_tokens events_bytes
events-room [] = (omega arith, omega arith)
events-room (e ∷ es) =
    let a = length-append (fields_of e) (all_fields es) in
    let b = length-append (tokens_of e) (all_tokens es) in
    let c = length-append (event_bytes e) (events_bytes es) in
    let r = event-room e in
    let s = events-room es in
    (omega (arith, a, c, r.0, s.0), omega (arith, b, c, r.1, s.1))

-- after a header of three bytes at least
script-room : (capacity bands sensors : ℕ) (es : List Event) → 3 + length (events_bytes es) ≤ length (script_bytes capacity bands sensors es)
unfolding script_bytes
script-room capacity bands sensors es =
    let h : List ℕ = capacity ∷ bands ∷ sensors ∷ [] in
    omega (arith, length-append (numbers_bytes h) (events_bytes es), numbers-some h)

pub never-short : NeverShort
never-short script capacity bands sensors es k q fields tokens a b =
    let h = script-form.held script capacity bands sensors es k q in
    let r = events-room es in
    let s = script-room capacity bands sensors es in
    let f : ltb (length fields) (length (all_fields es)) ≡ false = le-ltb (length fields) (length (all_fields es)) (omega (arith, a, h.short, r.0, s)) in
    let t : ltb (length tokens) (length (all_tokens es)) ≡ false = le-ltb (length tokens) (length (all_tokens es)) (omega (arith, b, h.short, r.1, s)) in
    rw (f, t)
