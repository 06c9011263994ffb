-- One event, and all events: what the writer's mask over all numbers of an event comes to, and the loop over the flat form.
use mathlib.Core.Path.{◌≡◌, refl, sym, ap, subst, ◌∙◌}
use mathlib.Core.Logic.{inl, inr}
use Prim.Native.Nat.{ℕ, zero, suc, ◌+◌, ◌-◌, ◌*◌, ◌/◌, ◌%◌, ◌≤◌, ◌<◌}
use native.Mathlib.Nat.{add_assoc}
use native.Mathlib.Omega.{arith}
use mathlib.Core.Bool.{Bool, true, false, not, cond, ◌&&◌, ◌||◌}
use mathlib.Core.List.{List, [], ◌∷◌, ◌++◌, append_assoc, append-nil}
use lib.Dec.{eqb, leb, ltb}
use lib.ListN.{length, get_or, take, drop, length-append}
use lib.Seq.{take-append_seam, length-take-le}
use mir.Syntax.{w64}
use mir.Val.{Fits}
use borrow.Author.Tests.{lt-ltb, le-leb, lt-leb, ltb-false, eqb-true, eq-eqb, not-true, not-false}
use denote.Bor.{Bor}
use Rattle.std.specs.Prelude.{Option, Some, None, Result, Ok, Err}
use Rattle.std.specs.Result.{result_ok}
use Rattle.std.specs.Slice.{IsGetRangeResult}
use Rattle.answer.specs.declared.Refusal.{Refusal}
use Rattle.base.specs.Columns.{named}
use Rattle.base.specs.Spliced.{spliced}
use Rattle.base.proofs.Cases.{and_right, and_no, and-false}
use Rattle.output.specs.Filling.{spliced_within}
use Rattle.output.proofs.Filled.{put-fits}
use Rattle.base.proofs.Spliced.{splice-twice}
use Rattle.numbers.specs.Groups.{number_bytes}
use Rattle.drive.specs.Events.{Event, reading, elapse, reset, sensor_set, band_set, geometry, transfer}
use Rattle.event_form.specs.Form.{form_of, numbers_bytes, values_bytes, values_fit, event_bytes, holdable, fields_of, tokens_of}
use Rattle.event_form.specs.Kinds.{kind_number, FindsKind, is_kind, event_by}
use Rattle.event_form.specs.declared.EventKind.{EventKind}
use Rattle.event_form.specs.declared.EventKind.TheVariants as K
use Rattle.script_writer.specs.declared.EventPut.{EventPut}
use Rattle.event_form.proofs.Numbers.{no-kind}
use Rattle.event_form.specs.Parts.{width_of, count_of, next, next_in, before}
use Rattle.event_form.proofs.Flat.{next-is, event-takes}
use Rattle.sensor_set.specs.Columns.{sensor_masks}
use Rattle.token_reader.specs.Read.{most_token_bytes}
use Rattle.script_writer.specs.Parts.{value_bytes, set_mask, mask_over, PutAt, PutsEvent}
use Rattle.script_writer.proofs.Values.{value-most}

-- ---- the mask over all numbers of an event

-- by the kind that is the first of them
abbrev whole_mask : List ℕ → ℕ
whole_mask numbers = mask_over (get_or numbers 0 0) numbers

odd-named : (x : ℕ) → x % 2 ≡ 1 → named 1 x ≡ true
odd-named x h = eq-eqb (x / 1 % 2) 1 (omega (arith, h))

-- three numbers in front of those of a mask: kind, row and mask of a Set
three-first : (m a b c : ℕ) (values : List ℕ) → values_bytes (7 + 8 * m) (a ∷ b ∷ c ∷ values) ≡ numbers_bytes (a ∷ b ∷ c ∷ []) ++ values_bytes m values
unfolding values_bytes numbers_bytes
three-first m a b c values =
    let p : named 1 (7 + 8 * m) ≡ true = odd-named (7 + 8 * m) (omega arith) in
    let q : named 1 ((7 + 8 * m) / 2) ≡ true = odd-named ((7 + 8 * m) / 2) (omega arith) in
    let r : named 1 ((7 + 8 * m) / 2 / 2) ≡ true = odd-named ((7 + 8 * m) / 2 / 2) (omega arith) in
    let z : (7 + 8 * m) / 2 / 2 / 2 ≡ m = omega arith in
    rw (p, q, r, z, append-nil (number_bytes c), append_assoc (number_bytes a) (number_bytes b ++ number_bytes c) (values_bytes m values), append_assoc (number_bytes b) (number_bytes c) (values_bytes m values))

three-fit : (m a b c : ℕ) (values : List ℕ) → values_fit (7 + 8 * m) (a ∷ b ∷ c ∷ values) ≡ values_fit m values
unfolding values_fit
three-fit m a b c values =
    let p : named 1 (7 + 8 * m) ≡ true = odd-named (7 + 8 * m) (omega arith) in
    let q : named 1 ((7 + 8 * m) / 2) ≡ true = odd-named ((7 + 8 * m) / 2) (omega arith) in
    let r : named 1 ((7 + 8 * m) / 2 / 2) ≡ true = odd-named ((7 + 8 * m) / 2 / 2) (omega arith) in
    let z : (7 + 8 * m) / 2 / 2 / 2 ≡ m = omega arith in
    rw (p, q, r, z)

-- a mask whose values fit has no bit more than there are values
abbrev masks : List ℕ → ℕ
masks [] = 1
masks (v ∷ values) = 2 * masks values

mask_low : (m : ℕ) (values : List ℕ) → values_fit m values ≡ true → m < masks values
unfolding values_fit
mask_low m [] h = let e : m ≡ 0 = eqb-true m 0 h in omega arith
mask_low m (v ∷ values) h = let l = mask_low (m / 2) values (and_right (named 1 m || eqb v 0) (values_fit (m / 2) values) h) in omega (arith, l)

-- a Set's numbers under the mask over them all

module _ (k b m : ℕ) (values : List ℕ) (n : eqb k 0 ≡ false) (few : masks values ≤ 128) where
  set-fit : values_fit (set_mask m) (k ∷ b ∷ m ∷ values) ≡ values_fit m values
  unfolding values_fit
  set-fit = go (ltb m sensor_masks) refl (values_fit m values) refl
    where
      go : (t : Bool) → ltb m sensor_masks ≡ t → (u : Bool) → values_fit m values ≡ u
          → values_fit (cond t (7 + 8 * m) 0) (k ∷ b ∷ m ∷ values) ≡ u
      go true p u q = three-fit m k b m values ∙ q
      go false p false q = rw n
      go false p true q = let h = ltb-false m sensor_masks p in absurd (omega (arith, h, few, mask_low m values q))

  set-bytes : values_fit (set_mask m) (k ∷ b ∷ m ∷ values) ≡ true
      → values_bytes (set_mask m) (k ∷ b ∷ m ∷ values) ≡ numbers_bytes (k ∷ b ∷ m ∷ []) ++ values_bytes m values
  set-bytes h =
      let l : m < sensor_masks = omega (arith, few, mask_low m values (sym set-fit ∙ h)) in
      rw (lt-ltb m sensor_masks l) (three-first m k b m values)

-- every event's numbers, under the mask over them all

over-fit : (e : Event) → values_fit (whole_mask (fields_of e)) (fields_of e) ≡ values_fit (form_of e).mask (form_of e).values
unfolding values_fit
over-fit (reading sensor value) = refl
over-fit (elapse n) = refl
over-fit (reset type) = refl
over-fit (sensor_set sensor c) = set-fit 4 sensor c.mask (form_of (sensor_set sensor c)).values refl (omega arith)
over-fit (band_set band c tokens) = set-fit 5 band c.mask (form_of (band_set band c tokens)).values refl (omega arith)
over-fit (geometry band start blocks) = refl
over-fit (transfer direction start count) = refl

abbrev named-of : Event → List ℕ
named-of e = numbers_bytes (form_of e).numbers ++ values_bytes (form_of e).mask (form_of e).values

over-bytes : (e : Event) → values_fit (whole_mask (fields_of e)) (fields_of e) ≡ true → values_bytes (whole_mask (fields_of e)) (fields_of e) ≡ named-of e
unfolding values_bytes numbers_bytes
over-bytes (reading sensor value) h = sym (append-nil (numbers_bytes (1 ∷ sensor ∷ value ∷ [])))
over-bytes (elapse n) h = sym (append-nil (numbers_bytes (2 ∷ n ∷ [])))
over-bytes (reset type) h = sym (append-nil (numbers_bytes (3 ∷ type ∷ [])))
over-bytes (sensor_set sensor c) h = set-bytes 4 sensor c.mask (form_of (sensor_set sensor c)).values refl (omega arith) h
over-bytes (band_set band c tokens) h = set-bytes 5 band c.mask (form_of (band_set band c tokens)).values refl (omega arith) h
over-bytes (geometry band start blocks) h = sym (append-nil (numbers_bytes (6 ∷ band ∷ start ∷ blocks ∷ [])))
over-bytes (transfer direction start count) h = sym (append-nil (numbers_bytes (7 ∷ direction ∷ start ∷ count ∷ [])))

-- with the tokens these are the event's bytes
event-over : (e : Event) → values_fit (whole_mask (fields_of e)) (fields_of e) ≡ true → values_bytes (whole_mask (fields_of e)) (fields_of e) ++ tokens_of e ≡ event_bytes e
unfolding event_bytes
event-over e h = rw (over-bytes e h) (append_assoc (numbers_bytes (form_of e).numbers) (values_bytes (form_of e).mask (form_of e).values) (tokens_of e))

-- and a script can hold it where they fit and the tokens are not too many
event-holds : (e : Event) → holdable e ≡ (values_fit (whole_mask (fields_of e)) (fields_of e) && leb (length (tokens_of e)) most_token_bytes)
unfolding holdable
event-holds e = rw (over-fit e)

-- how many numbers and tokens

first_is : (e : Event) (f : List ℕ) → get_or (fields_of e ++ f) 0 0 ≡ get_or (fields_of e) 0 0
first_is (reading sensor value) f = refl
first_is (elapse n) f = refl
first_is (reset type) f = refl
first_is (sensor_set sensor c) f = refl
first_is (band_set band c tokens) f = refl
first_is (geometry band start blocks) f = refl
first_is (transfer direction start count) f = refl

width_is : (e : Event) (f : List ℕ) → width_of (get_or (fields_of e ++ f) 0 0) ≡ length (fields_of e)
width_is (reading sensor value) f = refl
width_is (elapse n) f = refl
width_is (reset type) f = refl
width_is (sensor_set sensor c) f = refl
width_is (band_set band c tokens) f = refl
width_is (geometry band start blocks) f = refl
width_is (transfer direction start count) f = refl

count-is : (e : Event) (f : List ℕ) → count_of (fields_of e ++ f) ≡ length (tokens_of e)
count-is (reading sensor value) f = refl
count-is (elapse n) f = refl
count-is (reset type) f = refl
count-is (sensor_set sensor c) f = refl
count-is (band_set band c tokens) f = refl
count-is (geometry band start blocks) f = refl
count-is (transfer direction start count) f = refl

width-most : (kind : ℕ) → width_of kind ≤ 10
width-most zero = omega arith
width-most (suc zero) = omega arith
width-most (suc (suc zero)) = omega arith
width-most (suc (suc (suc zero))) = omega arith
width-most (suc (suc (suc (suc zero)))) = omega arith
width-most (suc (suc (suc (suc (suc zero))))) = omega arith
width-most (suc (suc (suc (suc (suc (suc zero)))))) = omega arith
width-most (suc (suc (suc (suc (suc (suc (suc zero))))))) = omega arith
width-most (suc (suc (suc (suc (suc (suc (suc (suc k)))))))) = omega arith

pub values-most : (mask : ℕ) (values : List ℕ) → length (values_bytes mask values) ≤ 10 * length values
unfolding values_bytes
values-most mask [] = omega arith
values-most mask (v ∷ values) =
    rw (length-append (value_bytes mask v) (values_bytes (mask / 2) values)) (omega (arith, value-most mask v, values-most (mask / 2) values))

-- ---- one event

-- the pair begins with an event, whose numbers and tokens stand in front
module _ (fields tokens : List ℕ) (e : Event) (f t : List ℕ) (q : next_in fields tokens ≡ next e f t) where
  first-fields : fields ≡ fields_of e ++ f
  first-fields = (next-is fields tokens e f t q).0

  first-tokens : tokens ≡ tokens_of e ++ t
  first-tokens = (next-is fields tokens e f t q).1

  first_kind : get_or fields 0 0 ≡ get_or (fields_of e) 0 0
  first_kind = rw first-fields (first_is e f)

  first_width : width_of (get_or fields 0 0) ≡ length (fields_of e)
  first_width = rw first-fields (width_is e f)

  first_count : count_of fields ≡ length (tokens_of e)
  first_count = rw first-fields (count-is e f)

  first-numbers : (width : ℕ) → width ≡ width_of (get_or fields 0 0) → take width fields ≡ fields_of e
  first-numbers width w = rw (w, first_width, first-fields) (take-append_seam (fields_of e) f)

  first-bytes : (count : ℕ) → count ≡ count_of fields → take count tokens ≡ tokens_of e
  first-bytes count c = rw (c, first_count, first-tokens) (take-append_seam (tokens_of e) t)

  fields-long : length (fields_of e) ≤ length fields
  fields-long = rw first-fields (omega (arith, length-append (fields_of e) f))

  tokens-long : length (tokens_of e) ≤ length tokens
  tokens-long = rw first-tokens (omega (arith, length-append (tokens_of e) t))

-- there is room for every event
end-room : (fields before : List ℕ) (kind width mask size at end : ℕ) → width ≡ width_of kind → at + 1124 ≤ length before → width ≤ length fields
    → end ≡ at + length (values_bytes mask (take width fields)) → size ≤ most_token_bytes → end + size ≤ length before
end-room fields before kind width mask size at end w room g p h =
    omega (arith, room, p, h, values-most mask (take width fields), length-take-le width fields g, w, width-most kind)

end_fits : (fields before : List ℕ) (kind width mask size at end : ℕ) → width ≡ width_of kind → at + 1124 ≤ length before → width ≤ length fields
    → end ≡ at + length (values_bytes mask (take width fields)) → size ≤ most_token_bytes → Fits w64 (length before) → Fits w64 (end + size)
end_fits fields before kind width mask size at end w room g p h b = omega (arith, b, end-room fields before kind width mask size at end w room g p h)

-- there is one where the three tests hold
first-there : (fields tokens : List ℕ) → (width_of (get_or fields 0 0) ≡ 0 → ⊥) → width_of (get_or fields 0 0) ≤ length fields → count_of fields ≤ length tokens
    → (e : Event) × (f : List ℕ) × (t : List ℕ) × (next_in fields tokens ≡ next e f t)
unfolding next_in
first-there fields tokens n w c =
    let p : leb 1 (width_of (get_or fields 0 0)) ≡ true = le-leb 1 (width_of (get_or fields 0 0)) (omega (arith, n)) in
    let q : leb (width_of (get_or fields 0 0)) (length fields) ≡ true = le-leb (width_of (get_or fields 0 0)) (length fields) w in
    let r : leb (count_of fields) (length tokens) ≡ true = le-leb (count_of fields) (length tokens) c in (
      event_by (get_or fields 0 0) (drop 1 fields) (take (count_of fields) tokens),
      drop (width_of (get_or fields 0 0)) fields,
      drop (count_of fields) tokens,
      rw (p, q, r),
    )

unknown : (fields tokens : List ℕ) → is_kind (get_or fields 0 0) ≡ false → (e : Event) (f t : List ℕ) → next_in fields tokens ≡ next e f t → holdable e ≡ false
unknown fields tokens n e f t q = absurd (omega (arith, no-kind (get_or fields 0 0) n, first_width fields tokens e f t q, event-takes e))

module _ (fields tokens : List ℕ) (kind width : ℕ) (k : kind ≡ get_or fields 0 0) (w : width ≡ width_of kind) where
  width-here : width ≡ width_of (get_or fields 0 0)
  width-here = w ∙ ap width_of k

  cells-room : (at : ℕ) (before : List ℕ) → at + 1124 ≤ length before → width ≤ length fields → at + 10 * length (take width fields) ≤ length before
  cells-room at before room h = rw (length-take-le width fields h) (omega (arith, room, w, width-most kind))

  cut : length fields < width → (e : Event) (f t : List ℕ) → next_in fields tokens ≡ next e f t → holdable e ≡ false
  cut h e f t q = absurd (omega (arith, h, width-here, first_width fields tokens e f t q, fields-long fields tokens e f t q))

  module _ (size : ℕ) (c : size ≡ count_of fields) where
    long : most_token_bytes < size → (e : Event) (f t : List ℕ) → next_in fields tokens ≡ next e f t → holdable e ≡ false
    long h e f t q =
        let l : leb (length (tokens_of e)) most_token_bytes ≡ false = lt-leb (length (tokens_of e)) most_token_bytes (omega (arith, h, c, first_count fields tokens e f t q)) in
        event-holds e ∙ rw l (and-false (values_fit (whole_mask (fields_of e)) (fields_of e)))

    few : length tokens < size → (e : Event) (f t : List ℕ) → next_in fields tokens ≡ next e f t → holdable e ≡ false
    few h e f t q = absurd (omega (arith, h, c, first_count fields tokens e f t q, tokens-long fields tokens e f t q))

  module _ (mask : ℕ) (m : mask ≡ mask_over kind (take width fields)) (fit : Bool) (b : fit ≡ values_fit mask (take width fields)) where
    mask-here : (e : Event) (f t : List ℕ) → next_in fields tokens ≡ next e f t → mask ≡ whole_mask (fields_of e)
    mask-here e f t q =
        m ∙ ap (λ (x : ℕ). mask_over x (take width fields)) (k ∙ first_kind fields tokens e f t q)
        ∙ ap (mask_over (get_or (fields_of e) 0 0)) (first-numbers fields tokens e f t q width width-here)

    fit-here : (e : Event) (f t : List ℕ) → next_in fields tokens ≡ next e f t → fit ≡ values_fit (whole_mask (fields_of e)) (fields_of e)
    fit-here e f t q =
        b ∙ ap (λ (x : ℕ). values_fit x (take width fields)) (mask-here e f t q)
        ∙ ap (values_fit (whole_mask (fields_of e))) (first-numbers fields tokens e f t q width width-here)

    unfit : not fit ≡ true → (e : Event) (f t : List ℕ) → next_in fields tokens ≡ next e f t → holdable e ≡ false
    unfit h e f t q = event-holds e ∙ sym (and_no _ _ (sym (fit-here e f t q) ∙ not-true fit h))

    module _ (size : ℕ) (c : size ≡ count_of fields) (at : ℕ) (before : List ℕ) (room : at + 1124 ≤ length before) (g : width ≤ length fields)
        (end : ℕ) (p : end ≡ at + length (values_bytes mask (take width fields))) where
      put-here : (middle after : List ℕ) → (width ≡ 0 → ⊥) → size ≤ most_token_bytes → size ≤ length tokens → not fit ≡ false
          → middle ≡ spliced before at (values_bytes mask (take width fields)) → length middle ≡ length before
          → after ≡ spliced_within middle end (take size tokens) → PutAt fields tokens before at (end + size) width size after
      put-here middle after n h l y mid long aft =
          let there = first-there fields tokens (λ z. n (width-here ∙ z)) (omega (arith, g, width-here)) (omega (arith, l, c)) in
          let e = there.0 in
          let q = there.3 in
          let nums = first-numbers fields tokens e there.1 there.2 q width width-here in
          let toks = first-bytes fields tokens e there.1 there.2 q size c in
          let fits : values_fit (whole_mask (fields_of e)) (fields_of e) ≡ true = sym (fit-here e there.1 there.2 q) ∙ not-false fit y in
          let bs : values_bytes mask (take width fields) ++ take size tokens ≡ event_bytes e =
          rw (mask-here e there.1 there.2 q, nums, toks) (event-over e fits) in
          let few : leb (length (tokens_of e)) most_token_bytes ≡ true = le-leb (length (tokens_of e)) most_token_bytes (omega (arith, h, c, first_count fields tokens e there.1 there.2 q)) in
          let tl : length (take size tokens) ≡ size = length-take-le size tokens l in
          let last : after ≡ spliced middle end (take size tokens) =
          put-fits middle end (take size tokens) after (omega (arith, tl, end-room fields before kind width mask size at end w room g p h, long)) aft in
          record {
            e = e;
            f = there.1;
            t = there.2;
            given = q;
            holds = event-holds e ∙ rw (fits, few);
            place_is = rw (p, ← bs, length-append, tl, add_assoc);
            width_is = width-here ∙ first_width fields tokens e there.1 there.2 q;
            count-is = c ∙ first_count fields tokens e there.1 there.2 q;
            bytes = rw (last, mid, p, ← bs) (splice-twice before at (values_bytes mask (take width fields)) (take size tokens) (omega (arith, room)));
          }

-- ---- what the code comes to, of which the kind is looked up and both parts are got

-- a part of a slice that is got
part_none : (l : List ℕ) (n : ℕ) (r : Option (Bor (List ℕ))) → IsGetRangeResult l 0 n r → r ≡ None → length l < n
part_none l n r g q = go (subst (IsGetRangeResult l 0 n) q g)
  where
    go : IsGetRangeResult l 0 n None → length l < n
    go (inl h, m) = absurd (omega (arith, h))
    go (inr h, m) = h

part-some : (l : List ℕ) (n : ℕ) (r : Option (Bor (List ℕ))) (p : Bor (List ℕ)) → IsGetRangeResult l 0 n r → r ≡ Some p → (n ≤ length l) × (p.now ≡ take n l)
part-some l n r p g q = let h = subst (IsGetRangeResult l 0 n) q g in let e : n - 0 ≡ n = omega arith in (h.0.1, h.0.2 ∙ ap (λ (k : ℕ). take k l) e)

width-some : (kind : EventKind) → width_of (kind_number kind) ≡ 0 → ⊥
width-some K.Reading h = omega (arith, h)
width-some K.Elapse h = omega (arith, h)
width-some K.Reset h = omega (arith, h)
width-some K.SensorSet h = omega (arith, h)
width-some K.BandSet h = omega (arith, h)
width-some K.Geometry h = omega (arith, h)
width-some K.Transfer h = omega (arith, h)

module _ (fields tokens before : List ℕ) (at n : ℕ) (look : Result EventKind Refusal) (a : n ≡ get_or fields 0 0) (found : FindsKind n look) where
  none-put : (r : Option EventPut) (after : List ℕ) → ((e : Event) (f t : List ℕ) → next_in fields tokens ≡ next e f t → holdable e ≡ false) → r ≡ None
      → PutsEvent fields tokens before at r after
  none-put r after h q = subst (λ (x : Option EventPut). PutsEvent fields tokens before at x after) (sym q) h

  pub put-unknown : (r : Option EventPut) (after : List ℕ) → result_ok look ≡ None → r ≡ None → PutsEvent fields tokens before at r after
  put-unknown r after q z = none-put r after (unknown fields tokens (sym (ap is_kind a) ∙ go look found q)) z
    where
      go : (l : Result EventKind Refusal) → FindsKind n l → result_ok l ≡ None → is_kind n ≡ false
      go (Ok kind) f e = let y : ◌≡◌ {A = ℕ} 0 1 = cc in absurd (omega (arith, y))
      go (Err refusal) f e = f.0

  module _ (kind : EventKind) (q : result_ok look ≡ Some kind) (width : ℕ) (w : width ≡ width_of (kind_number kind)) where
    kind-here : kind_number kind ≡ get_or fields 0 0
    kind-here = go look found q ∙ a
      where
        go : (l : Result EventKind Refusal) → FindsKind n l → result_ok l ≡ Some kind → kind_number kind ≡ n
        go (Ok k) f e = let y : k ≡ kind = cc in ap kind_number (sym y) ∙ f
        go (Err refusal) f e = let y : ◌≡◌ {A = ℕ} 0 1 = cc in absurd (omega (arith, y))

    module _ (get : Option (Bor (List ℕ))) (g : IsGetRangeResult fields 0 width get) where
      pub put-cut : (r : Option EventPut) (after : List ℕ) → get ≡ None → r ≡ None → PutsEvent fields tokens before at r after
      put-cut r after z y = none-put r after (cut fields tokens (kind_number kind) width kind-here w (part_none fields width get g z)) y

      module _ (numbers : Bor (List ℕ)) (is : get ≡ Some numbers) where
        there : (width ≤ length fields) × (numbers.now ≡ take width fields)
        there = part-some fields width get numbers g is

        pub put-room : at + 1124 ≤ length before → at + 10 * length numbers.now ≤ length before
        put-room room = rw there.1 (cells-room fields tokens (kind_number kind) width kind-here w at before room there.0)

        module _ (mask : ℕ) (m : mask ≡ mask_over (kind_number kind) numbers.now) (fit : Bool) (b : fit ≡ values_fit mask numbers.now) where
          m-here : mask ≡ mask_over (kind_number kind) (take width fields)
          m-here = m ∙ ap (mask_over (kind_number kind)) there.1

          b-here : fit ≡ values_fit mask (take width fields)
          b-here = b ∙ ap (values_fit mask) there.1

          pub put-unfit : not fit ≡ true → (e : Event) (f t : List ℕ) → next_in fields tokens ≡ next e f t → holdable e ≡ false
          put-unfit h = unfit fields tokens (kind_number kind) width kind-here w mask m-here fit b-here h

          module _ (size : ℕ) (c : size ≡ count_of fields) where
            pub put-long : most_token_bytes < size → (e : Event) (f t : List ℕ) → next_in fields tokens ≡ next e f t → holdable e ≡ false
            put-long h = long fields tokens (kind_number kind) width kind-here w size c h

            module _ (short : size ≤ most_token_bytes) (get' : Option (Bor (List ℕ))) (k : IsGetRangeResult tokens 0 size get') where
              pub put-few : (r : Option EventPut) (after : List ℕ) → get' ≡ None → r ≡ None → PutsEvent fields tokens before at r after
              put-few r after z y = none-put r after (few fields tokens (kind_number kind) width kind-here w size c (part_none tokens size get' k z)) y

              module _ (expression : Bor (List ℕ)) (text-is : get' ≡ Some expression) (end : ℕ) (p : end ≡ at + length (values_bytes mask numbers.now)) where
                text : (size ≤ length tokens) × (expression.now ≡ take size tokens)
                text = part-some tokens size get' expression k text-is

                p-here : end ≡ at + length (values_bytes mask (take width fields))
                p-here = p ∙ ap (λ (l : List ℕ). at + length (values_bytes mask l)) there.1

                pub put-fits-word : at + 1124 ≤ length before → Fits w64 (length before) → Fits w64 (end + size)
                put-fits-word room h = end_fits fields before (kind_number kind) width mask size at end w room there.0 p-here short h

                pub put_is : (middle after : List ℕ) → at + 1124 ≤ length before → not fit ≡ false → middle ≡ spliced before at (values_bytes mask numbers.now)
                    → length middle ≡ length before → after ≡ spliced_within middle end expression.now → PutAt fields tokens before at (end + size) width size after
                put_is middle after room y mid l aft =
                    put-here fields tokens (kind_number kind) width kind-here w mask m-here fit b-here size c at before room there.0 end p-here middle after
                    (λ z. width-some kind (sym w ∙ z)) short text.0 y (mid ∙ ap (λ (v : List ℕ). spliced before at (values_bytes mask v)) there.1) l
                    (aft ∙ ap (spliced_within middle end) text.1)
