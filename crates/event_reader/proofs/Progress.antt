-- An event ends at least two bytes after the place at which it starts, and within the script; its tokens are the bytes that it says.
use mathlib.Core.Path.{◌≡◌, refl, sym, ap, subst, ◌∙◌}
use Prim.Native.Nat.{ℕ, ◌+◌, ◌-◌, ◌≤◌, ◌<◌}
use native.Mathlib.Omega.{arith}
use mathlib.Core.List.{List, [], ◌∷◌}
use mathlib.Core.Bool.{Bool, true, false, cond, true≢false}
use lib.Dec.{eqb, leb, ltb}
use lib.ListN.{length, take, drop, length-drop}
use lib.Seq.{length-take-le}
use borrow.Author.Tests.{leb-true, le-leb}
use Rattle.base.specs.Columns.{named}
use Rattle.base.proofs.Cases.{cond_both, cond-true}
use Rattle.numbers.specs.Groups.{done, bad_script, Found, found, none, number_at}
use Rattle.sensor_set.specs.Columns.{sensor_masks}
use Rattle.token_reader.specs.Read.{most_token_bytes}
use Rattle.band_columns.specs.Sets.{band_masks}
use Rattle.drive.specs.Events.{Event, reading, elapse, reset, geometry, transfer}
use Rattle.event_reader.specs.Fields.{
  Parsed,
  event,
  broken,
  plain,
  field,
  Five,
  five,
  no_five,
  field_five,
  fields,
  column_at,
  Follow,
  first_columns_at,
  Stretch,
  stretch,
  cut,
  stretch_at,
  expression_at,
  field_tokens,
  tokens_at,
  reading_at,
  elapse_at,
  reset_at,
  sensor_set_at,
  band_set_at,
  geometry_at,
  transfer_at,
  KindAt,
  kinds,
  among,
  of_kind,
  event_at,
  carried,
  Reads,
}
use Rattle.std.specs.Prelude.{Option, Some, None, is_some}
use Rattle.drive.specs.declared.Event.{Event as LentEvent}
use Rattle.event_reader.specs.Parts.{brief, brief_in}
use Rattle.event_reader.proofs.Bounds.{NumberIn, number-at, number-here}

-- ---- what was found ends between a place and the script's end

abbrev StretchIn : List ℕ → ℕ → Stretch → Type 0
StretchIn s a (stretch answer start count n) = (a ≤ n) × (n ≤ length s) × (length (tokens_at s start count) ≡ count)
StretchIn s a (cut answer) = Unit {0}

abbrev FiveIn : List ℕ → ℕ → Five → Type 0
FiveIn s a (five answer first second third fourth fifth n) = (a ≤ n) × (n ≤ length s)
FiveIn s a (no_five answer) = Unit {0}

-- the tokens of a band Set, and none of the other events
abbrev pub tokens_of : Event → List ℕ
tokens_of e = carried e

abbrev EventIn : List ℕ → ℕ → Parsed → Type 0
EventIn s a (event answer e start count n) = (a ≤ n) × (n ≤ length s) × (tokens_of e ≡ tokens_at s start count) × (length (tokens_at s start count) ≡ count)
EventIn s a (broken answer) = Unit {0}

event-later : (s : List ℕ) (a b : ℕ) (p : Parsed) → a ≤ b → EventIn s b p → EventIn s a p
event-later s a b (event answer e start count n) h k = (omega (arith, h, k.0), k.1, k.2, k.3)
event-later s a b (broken answer) h k = tt

five-later : (s : List ℕ) (a b : ℕ) (p : Five) → a ≤ b → FiveIn s b p → FiveIn s a p
five-later s a b (five answer u v w x y n) h k = (omega (arith, h, k.0), k.1)
five-later s a b (no_five answer) h k = tt

column-at : (s : List ℕ) (at mask bit : ℕ) → at ≤ length s → NumberIn at (length s) (column_at s at mask bit)
column-at s at mask bit h = cond_both (NumberIn at (length s)) (named bit mask) (number_at s at) (found done 0 at) (number-here s at) (omega arith, h)

-- fields one after the other

on-field : (s : List ℕ) (a : ℕ) (f : Found) (k : ℕ → ℕ → Parsed) → NumberIn a (length s) f → ((v n : ℕ) → n ≤ length s → EventIn s n (k v n))
    → EventIn s a (field f k)
on-field s a (found answer v n) k h c = event-later s a n (k v n) h.0 (c v n h.1)
on-field s a (none answer) k h c = tt

-- no bytes
no-tokens : (s : List ℕ) → [] ≡ tokens_at s 0 0
no-tokens s = cond-true (leb 0 (length s)) _ _ _ (le-leb 0 (length s) (omega arith)) (cond-true (leb 0 (length s - 0)) _ _ _ (le-leb 0 (length s - 0) (omega arith)) refl)

-- as many bytes as the event says
tokens-long : (s : List ℕ) (start count : ℕ) → start ≤ length s → count ≤ length s - start → length (tokens_at s start count) ≡ count
tokens-long s start count h k =
    let e : tokens_at s start count ≡ take count (drop start s) =
    sym (cond-true (leb start (length s)) _ _ _ (le-leb start (length s) h) (cond-true (leb count (length s - start)) _ _ _ (le-leb count (length s - start) k) refl)) in
    rw e (length-take-le count (drop start s) (omega (arith, k, length-drop start s)))

stretch-at : (s : List ℕ) (at : ℕ) (f : Found) → NumberIn at (length s) f → StretchIn s at (stretch_at s f)
stretch-at s at (found answer size n) h =
    cond_both (StretchIn s at) (leb size most_token_bytes) _ (cut bad_script) (go (leb size (length s - n)) refl) tt
  where
    go : (t : Bool) → leb size (length s - n) ≡ t → StretchIn s at (cond t (stretch done n size (n + size)) (cut bad_script))
    go true p = let l = leb-true size (length s - n) p in (omega (arith, h.0), omega (arith, h.1, l), tokens-long s n size h.1 l)
    go false p = tt
stretch-at s at (none answer) h = tt

expression-at : (s : List ℕ) (at mask : ℕ) → at ≤ length s → StretchIn s at (expression_at s at mask)
expression-at s at mask h =
    cond_both (StretchIn s at) (named 32 mask) (stretch_at s (number_at s at)) (stretch done 0 0 at) (stretch-at s at (number_at s at) (number-here s at)) (omega arith, h, ap length (sym (no-tokens s)))

on-tokens : (s : List ℕ) (a : ℕ) (f : Stretch) (k : List ℕ → ℕ → ℕ → ℕ → Parsed) → StretchIn s a f
    → ((start count n : ℕ) → n ≤ length s → length (tokens_at s start count) ≡ count → EventIn s n (k (tokens_at s start count) start count n)) → EventIn s a (field_tokens s f k)
on-tokens s a (stretch answer start count n) k h c = event-later s a n (k (tokens_at s start count) start count n) h.0 (c start count n h.1 h.2)
on-tokens s a (cut answer) k h c = tt

-- the first field is a number; so may the next be, or a column
on-first : (s : List ℕ) (at : ℕ) (k : ℕ → ℕ → Parsed) → ((v n : ℕ) → n ≤ length s → EventIn s n (k v n)) → EventIn s (at + 1) (field (number_at s at) k)
on-first s at k c = on-field s (at + 1) (number_at s at) k (number-at s at) c

on-number : (s : List ℕ) (at : ℕ) (k : ℕ → ℕ → Parsed) → ((v n : ℕ) → n ≤ length s → EventIn s n (k v n)) → EventIn s at (field (number_at s at) k)
on-number s at k c = on-field s at (number_at s at) k (number-here s at) c

on-column : (s : List ℕ) (at mask bit : ℕ) → at ≤ length s → (k : ℕ → ℕ → Parsed) → ((v n : ℕ) → n ≤ length s → EventIn s n (k v n))
    → EventIn s at (field (column_at s at mask bit) k)
on-column s at mask bit h k c = on-field s at (column_at s at mask bit) k (column-at s at mask bit h) c

-- ---- the seven kinds

-- the last field of an event that has no expression
last : (s : List ℕ) (n : ℕ) → n ≤ length s → (e : Event) → tokens_of e ≡ [] → EventIn s n (plain e n)
last s n h e q = (omega arith, h, q ∙ no-tokens s, ap length (sym (no-tokens s)))

from-reading : (s : List ℕ) (at : ℕ) → EventIn s (at + 1) (reading_at s at)
unfolding reading_at
from-reading s at = on-first s at _ (λ v n h. on-number s n _ (λ w m k. last s m k (reading v w) refl))

from-elapse : (s : List ℕ) (at : ℕ) → EventIn s (at + 1) (elapse_at s at)
unfolding elapse_at
from-elapse s at = on-first s at _ (λ v n h. last s n h (elapse v) refl)

from-reset : (s : List ℕ) (at : ℕ) → EventIn s (at + 1) (reset_at s at)
unfolding reset_at
from-reset s at = on-first s at _ (λ v n h. last s n h (reset v) refl)

-- three numbers, and what they and the place after them go on to
abbrev three_at : List ℕ → ℕ → (ℕ → ℕ → ℕ → ℕ → Parsed) → Parsed
three_at s at follow =
    field (number_at s at) (λ a at. field (number_at s at) (λ b at. field (number_at s at) (λ c at. follow a b c at)))

from-three : (s : List ℕ) (at : ℕ) (e : ℕ → ℕ → ℕ → Event) → ((a b c : ℕ) → tokens_of (e a b c) ≡ [])
    → EventIn s (at + 1) (three_at s at (λ a b c n. plain (e a b c) n))
from-three s at e q = on-first s at _ (λ v n h. on-number s n _ (λ w m k. on-number s m _ (λ x l j. last s l j (e v w x) (q v w x))))

from-geometry : (s : List ℕ) (at : ℕ) → EventIn s (at + 1) (geometry_at s at)
unfolding geometry_at
from-geometry s at = from-three s at geometry (λ a b c. refl)

from-transfer : (s : List ℕ) (at : ℕ) → EventIn s (at + 1) (transfer_at s at)
unfolding transfer_at
from-transfer s at = from-three s at transfer (λ a b c. refl)

-- the columns of bits 1 to 16
next-column : (s : List ℕ) (at mask bit : ℕ) → at ≤ length s → (k : ℕ → ℕ → Five) → ((v n : ℕ) → n ≤ length s → FiveIn s n (k v n))
    → FiveIn s at (field_five (column_at s at mask bit) k)
next-column s at mask bit h k c = go (column_at s at mask bit) (column-at s at mask bit h)
  where
    go : (f : Found) → NumberIn at (length s) f → FiveIn s at (field_five f k)
    go (found answer v n) l = five-later s at n (k v n) l.0 (c v n l.1)
    go (none answer) l = tt

five-in : (s : List ℕ) (at mask : ℕ) → at ≤ length s → FiveIn s at (first_columns_at s at mask)
unfolding first_columns_at
five-in s at mask h =
    next-column s at mask 1 h _ (λ a b hb. next-column s b mask 2 hb _ (λ c d hd. next-column s d mask 4 hd _ (λ e f hf. next-column s f mask 8 hf _ (λ i j hj.
    next-column s j mask 16 hj _ (λ l n hn. (omega arith, hn))))))

on-five : (s : List ℕ) (at : ℕ) (f : Five) → FiveIn s at f → (k : Follow) → ((a b c d e n : ℕ) → n ≤ length s → EventIn s n (k a b c d e n))
    → EventIn s at (fields f k)
on-five s at (five answer a b c d e n) h k g = event-later s at n (k a b c d e n) h.0 (g a b c d e n h.1)
on-five s at (no_five answer) h k g = tt

-- a row and its mask, and what follows where no bit of the mask is unknown
on-set : (s : List ℕ) (at most : ℕ) (k : ℕ → ℕ → ℕ → Parsed) → ((row mask n : ℕ) → n ≤ length s → EventIn s n (k row mask n))
    → EventIn s (at + 1) (field (number_at s at) (λ row at. field (number_at s at) (λ mask at. cond (ltb mask most) (k row mask at) (broken bad_script))))
on-set s at most k c =
    on-first s at _ (λ row a ha. on-number s a _ (λ mask b hb. cond_both (EventIn s b) (ltb mask most) (k row mask b) (broken bad_script) (c row mask b hb) tt))

from-sensor-set : (s : List ℕ) (at : ℕ) → EventIn s (at + 1) (sensor_set_at s at)
unfolding sensor_set_at
from-sensor-set s at =
    on-set s at sensor_masks _ (λ _ m b hb. on-five s b (first_columns_at s b m) (five-in s b m hb) _ (λ _ _ _ _ _ g hg.
    on-column s g m 32 hg _ (λ _ h hh. on-column s h m 64 hh _ (λ _ i hi. (omega arith, hi, no-tokens s, ap length (sym (no-tokens s)))))))

from-band-set : (s : List ℕ) (at : ℕ) → EventIn s (at + 1) (band_set_at s at)
unfolding band_set_at
from-band-set s at =
    on-set s at band_masks _ (λ _ m b hb. on-five s b (first_columns_at s b m) (five-in s b m hb) _ (λ _ _ _ _ _ g hg.
    on-tokens s g (expression_at s g m) _ (expression-at s g m hg) (λ start count h hh l. (omega arith, hh, refl, l))))

-- the fields of each kind, and so those of the kind that has a number
abbrev AllIn : List ℕ → ℕ → List KindAt → Type 0
AllIn s at [] = Unit {0}
AllIn s at (k ∷ l) = EventIn s (at + 1) (k.fields s at) × AllIn s at l

among_in : (l : List KindAt) (n : ℕ) (s : List ℕ) (at : ℕ) → AllIn s at l → EventIn s (at + 1) (among l n s at)
among_in [] n s at h = tt
among_in (k ∷ l) n s at h =
    cond_both (EventIn s (at + 1)) (eqb n k.number) (k.fields s at) (among l n s at) h.0 (among_in l n s at h.1)

of-kind : (kind : ℕ) (s : List ℕ) (at : ℕ) → EventIn s (at + 1) (of_kind kind s at)
of-kind kind s at = among_in kinds kind s at
    (from-reading s at, (from-elapse s at, (from-reset s at, (from-sensor-set s at, (from-band-set s at, (from-geometry s at, (from-transfer s at, tt)))))))

-- the kind and a field: two bytes at least, and within the script
event-from : (s : List ℕ) (at : ℕ) → EventIn s (at + 2) (event_at s at)
unfolding event_at
event-from s at = go (number_at s at) (number-at s at)
  where
    go : (f : Found) → NumberIn (at + 1) (length s) f → EventIn s (at + 2) (field f (λ kind at. of_kind kind s at))
    go (found answer kind n) h = event-later s (at + 2) (n + 1) (of_kind kind s n) (omega (arith, h.0)) (of-kind kind s n)
    go (none answer) h = tt

pub event-within : (s : List ℕ) (at answer : ℕ) (e : Event) (start count n : ℕ) → event_at s at ≡ event answer e start count n → (at + 2 ≤ n) × (n ≤ length s)
event-within s at answer e start count n q = let h = subst (EventIn s (at + 2)) q (event-from s at) in (h.0, h.1)

pub event-past : (s : List ℕ) (at answer : ℕ) (e : Event) (start count n : ℕ) → event_at s at ≡ event answer e start count n → at < n
event-past s at answer e start count n q = omega (arith, (event-within s at answer e start count n q).0)

-- its tokens are bytes of the script
pub event-tokens : (s : List ℕ) (at answer : ℕ) (e : Event) (start count n : ℕ) → event_at s at ≡ event answer e start count n
    → tokens_of e ≡ tokens_at s start count
event-tokens s at answer e start count n q = (subst (EventIn s (at + 2)) q (event-from s at)).2

-- and as many as it says
pub event-count : (s : List ℕ) (at answer : ℕ) (e : Event) (start count n : ℕ) → event_at s at ≡ event answer e start count n
    → length (tokens_at s start count) ≡ count
event-count s at answer e start count n q = (subst (EventIn s (at + 2)) q (event-from s at)).3

-- ---- the whole, of an event and where the reader stands after it

pub reads_some : (s : List ℕ) (at was n : ℕ) (ev : LentEvent) → brief_in (Some ev) n ≡ brief (event_at s at) → Reads s (event_at s at) was (Some ev) n
reads_some s at was n ev h = go (event_at s at) refl h
  where
    go : (p : Parsed) → event_at s at ≡ p → brief_in (Some ev) n ≡ brief p → Reads s p was (Some ev) n
    go (event answer e start count next) q h = (cc, cc, event-tokens s at answer e start count next q, cc)
    go (broken answer) q h = let z : ◌≡◌ {A = ℕ} 0 1 = cc in absurd (omega (arith, z))

-- an event where some stands there
pub reads_told : (s : List ℕ) (at was n : ℕ) (r : Option LentEvent) → is_some r ≡ true → brief_in r n ≡ brief (event_at s at) → Reads s (event_at s at) was r n
reads_told s at was n (Some ev) o h = reads_some s at was n ev h
reads_told s at was n None o h = absurd (true≢false (sym o))
