-- An event at a place of a script: the bytes that read to it are its own, and they read to it.
use mathlib.Core.Path.{◌≡◌, refl, sym, ap, ◌∙◌, subst}
use Prim.Native.Nat.{ℕ, zero, suc, ◌+◌, ◌-◌, ◌/◌, ◌%◌, ◌≤◌, ◌<◌}
use native.Mathlib.Omega.{arith}
use mathlib.Core.Bool.{Bool, true, false, cond}
use mathlib.Core.List.{List, [], ◌∷◌, ◌++◌}
use lib.Dec.{eqb, leb, ltb}
use lib.ListN.{length, take, drop, length-drop, take-append-drop}
use lib.Seq.{drop-drop, length-take-le, take-append_seam}
use borrow.Author.Tests.{leb-true, le-leb, ltb-true, lt-ltb, eqb-true}
use Rattle.base.specs.Lists.{Bytes}
use Rattle.base.specs.Columns.{named}
use Rattle.base.proofs.Cases.{cond-true, cond_either, and_left, and_right}
use Rattle.numbers.specs.Groups.{done, bad_script, Found, found, none, onward, number_at}
use Rattle.sensor_set.specs.Columns.{sensor_masks}
use Rattle.token_reader.specs.Read.{most_token_bytes}
use Rattle.band_columns.specs.Sets.{band_masks}
use Rattle.drive.specs.Events.{Event, reading, elapse, reset, sensor_set, band_set, geometry, transfer}
use Rattle.event_reader.specs.Fields.{
  Parsed,
  event,
  broken,
  field,
  Five,
  five,
  no_five,
  fields,
  Follow,
  column_at,
  first_columns_at,
  Stretch,
  stretch,
  cut,
  stretch_at,
  expression_at,
  field_tokens,
  tokens_at,
  reading_at,
  elapse_at,
  reset_at,
  sensor_set_at,
  band_set_at,
  geometry_at,
  transfer_at,
  KindAt,
  kinds,
  among,
  event_at,
}
use Rattle.event_reader.proofs.Bounds.{NumberIn, number-here}
use Rattle.event_form.specs.Form.{Form, plain, form_of, numbers_bytes, values_bytes, values_fit, event_bytes, holdable, fields_of, Words}
use Rattle.script_form.proofs.Stands.{
  Stands,
  nothing,
  join,
  split,
  on-found,
  done-number,
  done-column,
  and_both,
  Reads,
  numbers-stand,
  numbers-read,
  Values,
  values-stand,
  values-read,
}

-- three numbers, and what they and the place after them go on to
abbrev three_at : List ℕ → ℕ → (ℕ → ℕ → ℕ → ℕ → Parsed) → Parsed
three_at s at follow =
    field (number_at s at) (λ a at. field (number_at s at) (λ b at. field (number_at s at) (λ c at. follow a b c at)))

-- the part of the script that holds an expression's bytes
tokens-part : (s : List ℕ) (start count : ℕ) → start ≤ length s → count ≤ length s - start
    → take (start + count - start) (drop start s) ≡ tokens_at s start count
tokens-part s start count h k =
    let e : start + count - start ≡ count = omega arith in
    ap (λ (n : ℕ). take n (drop start s)) e
    ∙ cond-true (leb start (length s)) _ _ _ (le-leb start (length s) h) (cond-true (leb count (length s - start)) _ _ _ (le-leb count (length s - start) k) refl)

-- ---- a form at a place

-- the numbers, the values that the mask names and the tokens of a form read one after the other, up to the place n
record Laid (s : List ℕ) (at n : ℕ) (f : Form) : Type 0 where
  pub middle : ℕ
  pub before : ℕ
  pub numbers : Reads s at f.numbers middle
  pub values : Values s middle f.mask f.values before
  pub tokens : Stands s before n f.tokens
  pub few : length f.tokens ≤ most_token_bytes

-- numbers below 2^64 one after the other, and each part of them
words-join : (l k : List ℕ) → Words l → Words k → Words (l ++ k)
words-join [] k a b i = b i
words-join (x ∷ l) k a b zero = a 0
words-join (x ∷ l) k a b (suc i) = words-join l k (λ j. a (suc j)) b i

words_left : (l k : List ℕ) → Words (l ++ k) → Words l
words_left [] k a i = omega arith
words_left (x ∷ l) k a zero = a 0
words_left (x ∷ l) k a (suc i) = words_left l k (λ j. a (suc j)) i

words_right : (l k : List ℕ) → Words (l ++ k) → Words k
words_right [] k a i = a i
words_right (x ∷ l) k a i = words_right l k (λ j. a (suc j)) i

-- what is laid at a place is the form's bytes, and a form that a script can hold
laid-stands : (s : List ℕ) → Bytes s → (at n : ℕ) (e : Event) → Laid s at n (form_of e)
    → Stands s at n (event_bytes e) × (holdable e ≡ true) × Words (fields_of e)
unfolding event_bytes holdable
laid-stands s b at n e h =
    let f = form_of e in
    let x = numbers-stand s b at h.middle f.numbers h.numbers in
    let y = values-stand s b h.middle f.mask h.before f.values h.values in
    let rest = join s h.middle h.before n (values_bytes f.mask f.values) f.tokens y.0 h.tokens in (
      join s at h.middle n (numbers_bytes f.numbers) (values_bytes f.mask f.values ++ f.tokens) x.0 rest,
      and_both (values_fit f.mask f.values) (leb (length f.tokens) most_token_bytes) y.1 (le-leb (length f.tokens) most_token_bytes h.few),
      words-join f.numbers f.values x.1 y.2,
    )

-- and the bytes of such a form are laid where they stand
stands-laid : (s : List ℕ) (at n : ℕ) (e : Event) → Stands s at n (event_bytes e) → holdable e ≡ true → Words (fields_of e) → Laid s at n (form_of e)
unfolding event_bytes holdable
stands-laid s at n e h k w =
    let f = form_of e in
    let ns = numbers_bytes f.numbers in
    let vs = values_bytes f.mask f.values in
    let p = split s at n ns (vs ++ f.tokens) h in
    let m = at + length ns in
    let q = split s m n vs f.tokens p.1 in
    record {
      middle = m;
      before = m + length vs;
      numbers = numbers-read s at m f.numbers p.0 (words_left f.numbers f.values w);
      values = values-read s m f.mask (m + length vs) f.values q.0
          (and_left (values_fit f.mask f.values) (leb (length f.tokens) most_token_bytes) k) (words_right f.numbers f.values w);
      tokens = q.1;
      few = leb-true (length f.tokens) most_token_bytes (and_right (values_fit f.mask f.values) (leb (length f.tokens) most_token_bytes) k);
    }

-- ---- columns and tokens

-- the column of a bit is that of bit 1 of the mask shifted to it
shifted : (s : List ℕ) (at mask bit m : ℕ) → mask / bit % 2 ≡ m / 1 % 2 → column_at s at mask bit ≡ column_at s at m 1
shifted s at mask bit m e = ap (λ (x : ℕ). cond (eqb x 1) (number_at s at) (found done 0 at)) e

-- a column that is found, as a value of the shifted mask
on-column : {A : Type 0} (P : A → Type 0) (refuse : ℕ → A) → ((a : ℕ) → P (refuse a)) → (s : List ℕ) (at mask bit m : ℕ)
    → mask / bit % 2 ≡ m / 1 % 2 → (k : ℕ → ℕ → A) → ((v n : ℕ) → column_at s at m 1 ≡ found done v n → P (k v n))
    → P (onward refuse (column_at s at mask bit) k)
on-column P refuse z s at mask bit m e k go =
    on-found P refuse z (column_at s at mask bit) k (λ a v n h. go v n (sym (shifted s at mask bit m e) ∙ done-column s at mask bit a v n h))

-- five values in front of others
abbrev Before : List ℕ → ℕ → ℕ → Five → Type 0
Before s at mask (five a u v w x y n) =
    (rest : List ℕ) (m : ℕ) → Values s n (mask / 2 / 2 / 2 / 2 / 2) rest m → Values s at mask (u ∷ v ∷ w ∷ x ∷ y ∷ rest) m
Before s at mask (no_five a) = Unit {0}

-- the columns of bits 1 to 16 are such
five-values : (s : List ℕ) (at mask : ℕ) → Before s at mask (first_columns_at s at mask)
unfolding first_columns_at
five-values s at mask =
    let column = on-column (Before s at mask) no_five (λ a. tt) s in
    column at mask 1 mask (omega arith) _ (λ u a p. column a mask 2 (mask / 2) (omega arith) _ (λ v b q.
    column b mask 4 (mask / 2 / 2) (omega arith) _ (λ w c r. column c mask 8 (mask / 2 / 2 / 2) (omega arith) _ (λ x d t.
    column d mask 16 (mask / 2 / 2 / 2 / 2) (omega arith) _ (λ y e o. λ rest m h. (a, p, (b, q, (c, r, (d, t, (e, o, h))))))))))

-- a part of the script, as an expression's bytes
taken : (s : List ℕ) (start count : ℕ) → start ≤ length s → count ≤ length s - start → tokens_at s start count ≡ take count (drop start s)
taken s start count h k =
    let e : start + count - start ≡ count = omega arith in
    sym (tokens-part s start count h k) ∙ ap (λ (n : ℕ). take n (drop start s)) e

-- it stands where it was taken from
part-stands : (s : List ℕ) (start count : ℕ) → start ≤ length s → count ≤ length s - start
    → Stands s start (start + count) (tokens_at s start count) × (length (tokens_at s start count) ≡ count)
part-stands s start count h k =
    let t = taken s start count h k in
    let long = ap length t ∙ length-take-le count (drop start s) (omega (arith, k, length-drop start s)) in
    let e =
    ap (λ (l : List ℕ). l ++ drop (start + count) s) t
    ∙ ap (λ (l : List ℕ). take count (drop start s) ++ l) (sym (drop-drop count start s)) ∙ take-append-drop count (drop start s) in
    ((sym e, omega (arith, long)), long)

-- ---- what reads is laid

module _ (s : List ℕ) (start : ℕ) where
  -- an event that is read is laid from the place at which it starts
  abbrev Written : Parsed → Type 0
  Written (event a e b c n) = Laid s start n (form_of e)
  Written (broken a) = Unit {0}

  -- a field that is a number, and five columns
  on-number : (at : ℕ) (k : ℕ → ℕ → Parsed) → ((v n : ℕ) → number_at s at ≡ found done v n → Written (k v n)) → Written (field (number_at s at) k)
  on-number at k go = on-found Written broken (λ a. tt) (number_at s at) k (λ a v n h. go v n (done-number s at a v n h))

  on-five : (at mask : ℕ) (k : Follow) → ((u v w x y n : ℕ) → Before s at mask (five done u v w x y n) → Written (k u v w x y n))
      → Written (fields (first_columns_at s at mask) k)
  on-five at mask k go = on (first_columns_at s at mask) (five-values s at mask)
    where
      on : (f : Five) → Before s at mask f → Written (fields f k)
      on (five a u v w x y n) h = go u v w x y n h
      on (no_five a) h = tt

  -- a row and a mask without unknown bits
  on-set : (at most : ℕ) (k : ℕ → ℕ → ℕ → Parsed)
      → ((row mask a n : ℕ) → number_at s at ≡ found done row a → number_at s a ≡ found done mask n → mask < most → Written (k row mask n))
      → Written (field (number_at s at) (λ row at. field (number_at s at) (λ mask at. cond (ltb mask most) (k row mask at) (broken bad_script))))
  on-set at most k go =
      on-number at _ (λ row a p. on-number a _ (λ mask n q.
      cond_either Written (ltb mask most) (k row mask n) (broken bad_script) (λ t. go row mask a n p q (ltb-true mask most t)) (λ t. tt)))

  -- an expression: its byte length is the value of bit 32, and its bytes follow
  abbrev Follows : ℕ → Bool → (List ℕ → ℕ → ℕ → ℕ → Parsed) → Type 0
  Follows at t k =
      (tokens : List ℕ) (b c n m : ℕ) → cond t (number_at s at) (found done 0 at) ≡ found done (length tokens) m → Stands s m n tokens
      → length tokens ≤ most_token_bytes → Written (k tokens b c n)

  on-tokens : (at mask : ℕ) (k : List ℕ → ℕ → ℕ → ℕ → Parsed) → Follows at (named 32 mask) k → Written (field_tokens s (expression_at s at mask) k)
  on-tokens at mask k go = on (named 32 mask) go
    where
      sized : Follows at true k → (f : Found) → number_at s at ≡ f → NumberIn at (length s) f → Written (field_tokens s (stretch_at s f) k)
      sized go (found a size m) q i =
          let P : Stretch → Type 0 = λ x. Written (field_tokens s x k) in
          cond_either P (leb size most_token_bytes) _ (cut bad_script) (λ e.
          cond_either P (leb size (length s - m)) (stretch done m size (m + size)) (cut bad_script) (λ d.
          let r = part-stands s m size i.1 (leb-true size (length s - m) d) in
          go (tokens_at s m size) m size (m + size) m (done-number s at a size m q ∙ ap (λ (x : ℕ). found done x m) (sym r.1)) r.0
          (omega (arith, r.1, leb-true size most_token_bytes e))) (λ d. tt)) (λ e. tt)
      sized go (none a) q i = tt

      on : (t : Bool) → Follows at t k → Written (field_tokens s (cond t (stretch_at s (number_at s at)) (stretch done 0 0 at)) k)
      on true go = sized go (number_at s at) refl (number-here s at)
      on false go = rw (taken s 0 0 (omega arith) (omega arith)) (go [] 0 0 at at refl (nothing s at) (omega arith))

  -- ---- the seven kinds: the kind's number stands at the start, and its fields after it

  abbrev Kind : ℕ → ℕ → Type 0
  Kind kind at = number_at s start ≡ found done kind at

  -- numbers alone, up to the place at which they end
  last : (n : ℕ) (numbers : List ℕ) → Reads s start numbers n → Laid s start n (plain numbers)
  last n numbers h = record {
    middle = n;
    before = n;
    numbers = h;
    values = (refl, refl);
    tokens = nothing s n;
    few = omega arith;
  }

  -- 1 reading, 2 elapse, 3 reset
  from-reading : (at : ℕ) → Kind 1 at → Written (reading_at s at)
  unfolding reading_at
  from-reading at o = on-number at _ (λ v a p. on-number a _ (λ w b q. last b (1 ∷ v ∷ w ∷ []) (at, o, (a, p, (b, q, refl)))))

  from-elapse : (at : ℕ) → Kind 2 at → Written (elapse_at s at)
  unfolding elapse_at
  from-elapse at o = on-number at _ (λ v a p. last a (2 ∷ v ∷ []) (at, o, (a, p, refl)))

  from-reset : (at : ℕ) → Kind 3 at → Written (reset_at s at)
  unfolding reset_at
  from-reset at o = on-number at _ (λ v a p. last a (3 ∷ v ∷ []) (at, o, (a, p, refl)))

  -- 4 sensor Set: its last two columns are those of bits 32 and 64
  from-sensor-set : (at : ℕ) → Kind 4 at → Written (sensor_set_at s at)
  unfolding sensor_set_at
  from-sensor-set at o =
      let column = on-column Written broken (λ a. tt) s in
      on-set at sensor_masks _ (λ row mask a n p q l. on-five n mask _ (λ _ _ _ _ _ m five.
      column m mask 32 (mask / 2 / 2 / 2 / 2 / 2) (omega arith) _ (λ v i f.
      column i mask 64 (mask / 2 / 2 / 2 / 2 / 2 / 2) (omega arith) _ (λ w j g. record {
        middle = n;
        before = j;
        numbers = (at, o, (a, p, (n, q, refl)));
        values = five (v ∷ w ∷ []) j (i, f, (j, g, (refl, omega (arith, l))));
        tokens = nothing s j;
        few = omega arith;
      }))))

  -- 5 band Set: its last value is the byte length
  from-band-set : (at : ℕ) → Kind 5 at → Written (band_set_at s at)
  unfolding band_set_at
  from-band-set at o =
      on-set at band_masks _ (λ row mask a n p q l. on-five n mask _ (λ _ _ _ _ _ m five. on-tokens m mask _ (λ tokens _ _ j i f h few. record {
        middle = n;
        before = i;
        numbers = (at, o, (a, p, (n, q, refl)));
        values = five (length tokens ∷ []) i (i, sym (shifted s m mask 32 (mask / 2 / 2 / 2 / 2 / 2) (omega arith)) ∙ f, (refl, omega (arith, l)));
        tokens = h;
        few = few;
      })))

  -- 6 geometry, 7 transfer: three numbers
  from-three : (at kind : ℕ) (e : ℕ → ℕ → ℕ → Event) → ((u v w : ℕ) → plain (kind ∷ u ∷ v ∷ w ∷ []) ≡ form_of (e u v w)) → Kind kind at
      → Written (three_at s at (λ u v w n. event done (e u v w) 0 0 n))
  from-three at kind e f o =
      on-number at _ (λ u a p. on-number a _ (λ v b q. on-number b _ (λ w c r.
      subst (Laid s start c) (f u v w) (last c (kind ∷ u ∷ v ∷ w ∷ []) (at, o, (a, p, (b, q, (c, r, refl))))))))

  from-geometry : (at : ℕ) → Kind 6 at → Written (geometry_at s at)
  unfolding geometry_at
  from-geometry at = from-three at 6 geometry (λ u v w. refl)

  from-transfer : (at : ℕ) → Kind 7 at → Written (transfer_at s at)
  unfolding transfer_at
  from-transfer at = from-three at 7 transfer (λ u v w. refl)

  -- each kind's fields are laid after its number, and so are those of the kind that has a number
  abbrev Each : ℕ → List KindAt → Type 0
  Each at [] = Unit {0}
  Each at (k ∷ l) = (Kind k.number at → Written (k.fields s at)) × Each at l

  among-written : (l : List KindAt) (kind at : ℕ) → Kind kind at → Each at l → Written (among l kind s at)
  among-written [] kind at o h = tt
  among-written (k ∷ l) kind at o h =
      cond_either Written (eqb kind k.number) (k.fields s at) (among l kind s at)
      (λ t. h.0 (o ∙ ap (λ (x : ℕ). found done x at) (eqb-true kind k.number t))) (λ t. among-written l kind at o h.1)

  each-kind : (at : ℕ) → Each at kinds
  each-kind at =
      (from-reading at, (from-elapse at, (from-reset at, (from-sensor-set at, (from-band-set at, (from-geometry at, (from-transfer at, tt)))))))

  event-written : Written (event_at s start)
  unfolding event_at
  event-written = on-number start _ (λ kind at o. among-written kinds kind at o (each-kind at))

-- an event that is read stands there as its bytes, and is one that a script can hold
pub event-stands : (s : List ℕ) → Bytes s → (at a : ℕ) (e : Event) (b c n : ℕ) → event_at s at ≡ event a e b c n
    → Stands s at n (event_bytes e) × (holdable e ≡ true) × Words (fields_of e)
event-stands s h at a e b c n q = laid-stands s h at n e (subst (Written s at) q (event-written s at))

-- ---- what is laid reads

-- numbers alone end at the form's end
plain-reads : (s : List ℕ) (at n : ℕ) (numbers : List ℕ) → Laid s at n (plain numbers) → Reads s at numbers n
plain-reads s at n numbers h = let e : h.middle ≡ n = omega (arith, h.values.0, h.tokens.1) in subst (Reads s at numbers) e h.numbers

-- five values in front of others
five-read : (s : List ℕ) (at mask u v w x y : ℕ) (rest : List ℕ) (n : ℕ) → Values s at mask (u ∷ v ∷ w ∷ x ∷ y ∷ rest) n
    → (m : ℕ) × (first_columns_at s at mask ≡ five done u v w x y m) × Values s m (mask / 2 / 2 / 2 / 2 / 2) rest n
unfolding first_columns_at
five-read s at mask u v w x y rest n h =
    let i = h.2 in
    let j = i.2 in
    let k = j.2 in
    let l = k.2 in
    let b = shifted s h.0 mask 2 (mask / 2) (omega arith) ∙ i.1 in
    let c = shifted s i.0 mask 4 (mask / 2 / 2) (omega arith) ∙ j.1 in
    let d = shifted s j.0 mask 8 (mask / 2 / 2 / 2) (omega arith) ∙ k.1 in
    let e = shifted s k.0 mask 16 (mask / 2 / 2 / 2 / 2) (omega arith) ∙ l.1 in
    (l.0, rw (h.1, b, c, d, e), l.2)

-- an expression's bytes after their number
tokens-read : (s : List ℕ) (at mask m n : ℕ) (tokens : List ℕ) → column_at s at mask 32 ≡ found done (length tokens) m → Stands s m n tokens
    → length tokens ≤ most_token_bytes → n ≤ length s → (b : ℕ) × (c : ℕ) × (expression_at s at mask ≡ stretch done b c n) × (tokens_at s b c ≡ tokens)
tokens-read s at mask m n tokens q h few l = on (named 32 mask) q
  where
    on : (t : Bool) → cond t (number_at s at) (found done 0 at) ≡ found done (length tokens) m
        → (b : ℕ) × (c : ℕ) × (cond t (stretch_at s (number_at s at)) (stretch done 0 0 at) ≡ stretch done b c n) × (tokens_at s b c ≡ tokens)
    on true q =
        let size = length tokens in
        let e : m + size ≡ n = omega (arith, h.1) in
        let here : m ≤ length s = omega (arith, h.1, l) in
        let fits : size ≤ length s - m = omega (arith, h.1, l) in (
          m,
          size,
          rw (q, le-leb size most_token_bytes few, le-leb size (length s - m) fits, e),
          taken s m size here fits ∙ ap (take size) h.0 ∙ take-append_seam tokens (drop n s),
        )
    on false q =
        let z : 0 ≡ length tokens = cc in
        let p : at ≡ m = cc in
        let e : at ≡ n = omega (arith, h.1, p, z) in
        (0, 0, ap (stretch done 0 0) e, taken s 0 0 (omega arith) (omega arith) ∙ empty tokens z)
      where
        empty : (l : List ℕ) → 0 ≡ length l → [] ≡ l
        empty [] e = refl
        empty (x ∷ l) e = absurd (omega (arith, e))

-- an event that is laid up to a place within the script reads there
laid-reads : (s : List ℕ) (at n : ℕ) (e : Event) → Laid s at n (form_of e) → n ≤ length s → (b : ℕ) × (c : ℕ) × (event_at s at ≡ event done e b c n)
unfolding event_at reading_at elapse_at reset_at sensor_set_at band_set_at geometry_at transfer_at
laid-reads s at n (reading v w) h l = let r = plain-reads s at n (1 ∷ v ∷ w ∷ []) h in (0, 0, rw (r.1, r.2.1, r.2.2.1, r.2.2.2))
laid-reads s at n (elapse v) h l = let r = plain-reads s at n (2 ∷ v ∷ []) h in (0, 0, rw (r.1, r.2.1, r.2.2))
laid-reads s at n (reset v) h l = let r = plain-reads s at n (3 ∷ v ∷ []) h in (0, 0, rw (r.1, r.2.1, r.2.2))
laid-reads s at n (sensor_set row c) h l =
    let r = h.numbers in
    let p = r.2.2.2 in
    let mask = c.mask in
    let f = five-read s h.middle mask _ _ _ _ _ (c.off_fraction ∷ c.off_timeout ∷ []) h.before h.values in
    let x = f.2 in
    let y = x.2 in
    let known : ltb mask sensor_masks ≡ true = lt-ltb mask sensor_masks (omega (arith, y.2.1)) in
    let u = shifted s f.0 mask 32 (mask / 2 / 2 / 2 / 2 / 2) (omega arith) ∙ x.1 in
    let v = shifted s x.0 mask 64 (mask / 2 / 2 / 2 / 2 / 2 / 2) (omega arith) ∙ y.1 in
    let z : y.0 ≡ n = omega (arith, y.2.0, h.tokens.1) in
    (0, 0, rw (r.1, r.2.1, r.2.2.1, known, p, f.1, u, v, z))
laid-reads s at n (band_set row c tokens) h l =
    let r = h.numbers in
    let p = r.2.2.2 in
    let mask = c.mask in
    let f = five-read s h.middle mask _ _ _ _ _ (length tokens ∷ []) h.before h.values in
    let x = f.2 in
    let known : ltb mask band_masks ≡ true = lt-ltb mask band_masks (omega (arith, x.2.1)) in
    let u : column_at s f.0 mask 32 ≡ found done (length tokens) h.before =
    shifted s f.0 mask 32 (mask / 2 / 2 / 2 / 2 / 2) (omega arith) ∙ x.1 ∙ ap (found done (length tokens)) x.2.0 in
    let y = tokens-read s f.0 mask h.before n tokens u h.tokens h.few l in
    (y.0, y.1, rw (r.1, r.2.1, r.2.2.1, known, p, f.1, y.2, y.3))
laid-reads s at n (geometry u v w) h l =
    let r = plain-reads s at n (6 ∷ u ∷ v ∷ w ∷ []) h in (0, 0, rw (r.1, r.2.1, r.2.2.1, r.2.2.2.1, r.2.2.2.2))
laid-reads s at n (transfer u v w) h l =
    let r = plain-reads s at n (7 ∷ u ∷ v ∷ w ∷ []) h in (0, 0, rw (r.1, r.2.1, r.2.2.1, r.2.2.2.1, r.2.2.2.2))

-- the bytes of an event that a script can hold read to it
pub event-reads : (s : List ℕ) (at n : ℕ) (e : Event) → Stands s at n (event_bytes e) → n ≤ length s → holdable e ≡ true → Words (fields_of e)
    → (b : ℕ) × (c : ℕ) × (event_at s at ≡ event done e b c n)
event-reads s at n e h l k w = laid-reads s at n e (stands-laid s at n e h k w) l
