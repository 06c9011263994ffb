-- The whole script: header and events, the answers, and what the bytes written read to.
use mathlib.Core.Path.{◌≡◌, refl, sym, ap, ◌∙◌, subst}
use Prim.Native.Nat.{ℕ, zero, suc, ◌+◌, ◌≤◌}
use native.Mathlib.Nat.{zero-add}
use native.Mathlib.Omega.{arith}
use mathlib.Core.Bool.{Bool, true, false, not, cond, ◌&&◌}
use mathlib.Core.List.{List, [], ◌∷◌, ◌++◌}
use lib.Dec.{leb}
use lib.ListN.{length, get_or, take, drop, length-append}
use lib.Seq.{take_at}
use mir.Syntax.{w64}
use mir.Val.{Fits}
use borrow.Author.Tests.{le-leb, leb-true, not-true, not-false}
use Rattle.std.specs.Prelude.{Option, Some, None, Result, Ok, Err}
use Rattle.base.specs.Spliced.{spliced}
use Rattle.base.proofs.Refusals.{rising-lowest}
use Rattle.base.proofs.Cases.{and_left, and_right}
use Rattle.base.proofs.Spliced.{splice-twice}
use Rattle.answer.specs.declared.Refusal.{Refusal}
use Rattle.output.specs.Filling.{told, told_in, told_by, fill_answer, filled_by}
use Rattle.output.proofs.Filled.{filled-bytes}
use Rattle.drive.specs.State.{header_fits}
use Rattle.drive.specs.Events.{Event}
use Rattle.event_form.specs.Form.{numbers_bytes, values_bytes, fields_of, Words}
use Rattle.event_form.specs.Parts.{Flat, flat, no_flat, events_of}
use Rattle.event_form.specs.Flat.{all_fields}
use Rattle.event_form.proofs.Flat.{flat-form}
use Rattle.script.specs.Whole.{most_script_bytes, read_script}
use Rattle.script_form.specs.Written.{events_bytes, script_bytes, all_holdable, AllWords}
use Rattle.script_form.proofs.Whole.{script-form}
use Rattle.script_writer.specs.Write.{writable, write_answer, write_refusals, script_told, LowestWritten, ReadsTo, ReadsBack}
use Rattle.script_writer.specs.Parts.{AllPut, PutsEvents}
use Rattle.script_writer.proofs.Events.{values-most}

-- the header's numbers, all of them named
header-bytes : (a b c : ℕ) → values_bytes 7 (a ∷ b ∷ c ∷ []) ≡ numbers_bytes (a ∷ b ∷ c ∷ [])
unfolding values_bytes numbers_bytes
header-bytes a b c = refl

-- where the header ends, there is room for the rest
pub header-short : (a b c start : ℕ) → start ≡ 0 + length (values_bytes 7 (a ∷ b ∷ c ∷ [])) → start ≤ most_script_bytes
header-short a b c start e = omega (arith, e, values-most 7 (a ∷ b ∷ c ∷ []))

all-put : (f : Flat) (before : List ℕ) (start : ℕ) (p : Option ℕ) (after : List ℕ) (count : ℕ) → PutsEvents f before start p after → p ≡ Some count
    → AllPut f before start count after
all-put f before start p after count put q = subst (λ (x : Option ℕ). PutsEvents f before start x after) q put

-- the place after the events is within the bytes
pub count-within : (f : Flat) (before : List ℕ) (start : ℕ) (p : Option ℕ) (after : List ℕ) (count : ℕ) → PutsEvents f before start p after → p ≡ Some count
    → length after ≡ 66660 → count ≤ length after
count-within f before start p after count put q l = omega (arith, (all-put f before start p after count put q).short, l)

-- the numbers of each event are among all of them

words_left : (a b : List ℕ) → Words (a ++ b) → Words a
words_left [] b h i = omega arith
words_left (v ∷ a) b h zero = h 0
words_left (v ∷ a) b h (suc i) = words_left a b (λ j. h (suc j)) i

words_right : (a b : List ℕ) → Words (a ++ b) → Words b
words_right [] b h i = h i
words_right (v ∷ a) b h i = words_right a b (λ j. h (suc j)) i

words : (es : List Event) → Words (all_fields es) → AllWords es
unfolding all_fields
words [] h = tt
words (e ∷ es) h = (words_left (fields_of e) (all_fields es) h, words es (words_right (fields_of e) (all_fields es) h))

-- what can be written fills its output as every writer's bytes do
pub able-told : (capacity bands sensors : ℕ) (es : List Event) (out : List ℕ) → writable capacity bands sensors (flat es) ≡ true
    → filled_by (script_bytes capacity bands sensors es) out ≡ script_told capacity bands sensors (flat es) out
unfolding write_answer fill_answer
able-told capacity bands sensors es out h = rw h

module _ (capacity bands sensors : ℕ) (f : Flat) where
  -- ---- 2

  told-2 : (out : List ℕ) → writable capacity bands sensors f ≡ false → told 2 0 out ≡ script_told capacity bands sensors f out
  unfolding write_answer
  told-2 out h = rw h

  pub header_refused : (t : Bool) (out : List ℕ) → t ≡ header_fits capacity bands sensors → not t ≡ true → told 2 0 out ≡ script_told capacity bands sensors f out
  header_refused t out e q = told-2 out (go f)
    where
      go : (g : Flat) → writable capacity bands sensors g ≡ false
      go (flat es) = let h : header_fits capacity bands sensors ≡ false = sym e ∙ not-true t q in rw h
      go no_flat = refl

  -- where the header ends, which is where the events are put
  abbrev Start : ℕ → Type 0
  Start start = start ≡ 0 + length (values_bytes 7 (capacity ∷ bands ∷ sensors ∷ []))

  -- the length of the whole
  total : (start : ℕ) → Start start → (es : List Event) → start + length (events_bytes es) ≡ length (script_bytes capacity bands sensors es)
  unfolding script_bytes
  total start e es = rw (e, zero-add, header-bytes capacity bands sensors, length-append)

  module _ (t : Bool) (h : t ≡ header_fits capacity bands sensors) (y : not t ≡ false) (start : ℕ) (s : Start start) where
    fits : header_fits capacity bands sensors ≡ true
    fits = sym h ∙ not-false t y

    pub events-refused : (p : Option ℕ) (before after : List ℕ) (out : List ℕ) → PutsEvents f before start p after → p ≡ None
        → told 2 0 out ≡ script_told capacity bands sensors f out
    events-refused p before after out put q =
        told-2 out (go f (subst (λ (x : Option ℕ). PutsEvents f before start x after) q put))
      where
        go : (g : Flat) → ((es : List Event) → g ≡ flat es → (all_holdable es && leb (start + length (events_bytes es)) most_script_bytes) ≡ false)
            → writable capacity bands sensors g ≡ false
        go (flat es) k = rw (fits, ← total start s es) (k es refl)
        go no_flat k = refl

    -- ---- 0 and 11

    module _ (blank header bytes : List ℕ) (count : ℕ) (all : AllPut f header start count bytes)
        (first : header ≡ spliced blank 0 (values_bytes 7 (capacity ∷ bands ∷ sensors ∷ []))) where
      -- so many bytes from the start are the script
      script-is : take count bytes ≡ script_bytes capacity bands sensors all.es
      unfolding script_bytes
      script-is =
          let w : List ℕ = values_bytes 7 (capacity ∷ bands ∷ sensors ∷ []) in
          let x : List ℕ = events_bytes all.es in
          let z : spliced (spliced blank 0 w) (0 + length w) x ≡ spliced blank 0 (w ++ x) = splice-twice blank 0 w x (omega arith) in
          let b : bytes ≡ (w ++ x) ++ drop (0 + length (w ++ x)) blank =
          all.bytes ∙ ap (λ (h : List ℕ). spliced h start x) first ∙ ap (λ (n : ℕ). spliced (spliced blank 0 w) n x) s ∙ z in
          let n : length (w ++ x) ≡ count = omega (arith, all.place_is, s, length-append w x) in
          ap (take count) b ∙ take_at (w ++ x) (drop (0 + length (w ++ x)) blank) count n ∙ ap (λ (l : List ℕ). l ++ x) (header-bytes capacity bands sensors)

      able : writable capacity bands sensors (flat all.es) ≡ true
      able =
          let l : leb (length (script_bytes capacity bands sensors all.es)) most_script_bytes ≡ true =
          le-leb (length (script_bytes capacity bands sensors all.es)) most_script_bytes (omega (arith, all.short, all.place_is, total start s all.es)) in
          rw (fits, all.hold, l)

      all_told : (r : Result ℕ Refusal) (out after : List ℕ) → told_in r after ≡ filled_by (take count bytes) out → told_in r after ≡ script_told capacity bands sensors f out
      all_told r out after e =
          e ∙ ap (λ (b : List ℕ). filled_by b out) script-is ∙ able-told capacity bands sensors all.es out able
          ∙ sym (ap (λ (x : Flat). script_told capacity bands sensors x out) all.is)

    module _ (p : Option ℕ) (blank header bytes : List ℕ) (count : ℕ) (put : PutsEvents f header start p bytes) (q : p ≡ Some count)
        (first : header ≡ spliced blank 0 (values_bytes 7 (capacity ∷ bands ∷ sensors ∷ []))) (r : Result ℕ Refusal) (out after : List ℕ)
        (e : told_in r after ≡ filled_by (take count bytes) out) where
      pub script-told : told_in r after ≡ script_told capacity bands sensors f out
      script-told = all_told blank header bytes count (all-put f header start p bytes count put q) first r out after e

-- ---- what a writing that is done says, from the writer's equation alone

module _ (capacity bands sensors count : ℕ) (out after : List ℕ) where
  -- 2 is not 0
  not-2 : {P : Type 0} → told_in (Ok count) after ≡ told 2 0 out → P
  not-2 e = let n : ◌≡◌ {A = ℕ} 0 2 = cc in absurd (omega (arith, n))

  reads-to : (es : List Event) → AllWords es → told_in (Ok count) after ≡ script_told capacity bands sensors (flat es) out
      → ReadsTo capacity bands sensors (flat es) (take count after)
  unfolding write_answer fill_answer
  reads-to es k e = go (writable capacity bands sensors (flat es)) refl e
    where
      go : (u : Bool) → writable capacity bands sensors (flat es) ≡ u
          → told_in (Ok count) after ≡ told_by (cond (not u) 2 (fill_answer (script_bytes capacity bands sensors es) (length out))) (script_bytes capacity bands sensors es) out
          → ReadsTo capacity bands sensors (flat es) (take count after)
      go false q h = not-2 h
      go true q h =
          let b = filled-bytes (script_bytes capacity bands sensors es) out 0 count after h refl in
          let m : (all_holdable es && leb (length (script_bytes capacity bands sensors es)) most_script_bytes) ≡ true =
          and_right (header_fits capacity bands sensors) _ q in
          record {
            events = es;
            given = refl;
            read =
                ap read_script b.1
                ∙ script-form.read_back capacity bands sensors es (record {
                  header = and_left (header_fits capacity bands sensors) _ q;
                  events = and_left (all_holdable es) _ m;
                  numbers = k;
                  short = leb-true (length (script_bytes capacity bands sensors es)) most_script_bytes (and_right (all_holdable es) _ m);
                });
          }

  done-back : (fields tokens : List ℕ) → ((i : ℕ) → Fits w64 (get_or fields i 0))
      → told_in (Ok count) after ≡ script_told capacity bands sensors (events_of fields tokens) out
      → ReadsTo capacity bands sensors (events_of fields tokens) (take count after)
  unfolding write_answer
  done-back fields tokens k e = go (events_of fields tokens) refl e
    where
      go : (f : Flat) → events_of fields tokens ≡ f → told_in (Ok count) after ≡ script_told capacity bands sensors f out
          → ReadsTo capacity bands sensors f (take count after)
      go no_flat q h = not-2 h
      go (flat es) q h =
          let n : fields ≡ all_fields es = (flat-form.no_other fields tokens es q).0 in
          reads-to es (words es (subst Words n (λ i. omega (arith, k i)))) h

pub told_back : (capacity bands sensors : ℕ) (fields tokens : List ℕ) (r : Result ℕ Refusal) (out after : List ℕ) → ((i : ℕ) → Fits w64 (get_or fields i 0))
    → told_in r after ≡ script_told capacity bands sensors (events_of fields tokens) out → ReadsBack capacity bands sensors (events_of fields tokens) r after
told_back capacity bands sensors fields tokens (Ok count) out after k e = done-back capacity bands sensors count out after fields tokens k e
told_back capacity bands sensors fields tokens (Err refusal) out after k e = tt

-- ---- 2 before 11

pub lowest-written : LowestWritten
unfolding write_answer
lowest-written capacity bands sensors f room = rising-lowest 1 (write_refusals capacity bands sensors f room) (omega arith) refl
