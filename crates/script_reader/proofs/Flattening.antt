-- The loop over the events of a script, whose flat form grows in both slices.
use mathlib.Core.Path.{◌≡◌, refl, sym, ap, subst, ◌∙◌}
use Prim.Native.Nat.{ℕ, ◌+◌, ◌-◌, ◌*◌, ◌≤◌, ◌<◌}
use native.Mathlib.Omega.{arith}
use mathlib.Core.List.{List, [], ◌∷◌, ◌++◌, append_assoc, append-nil}
use lib.Dec.{leb}
use lib.ListN.{length, take, drop, length-append, length-drop, length-take}
use mir.Syntax.{w64}
use mir.Val.{Fits}
use borrow.Author.Tests.{lt-ltb, le-ltb}
use denote.Bor.{Bor}
use Rattle.std.specs.Prelude.{Option, Some, None, Result, Err}
use Rattle.base.specs.Spliced.{spliced}
use Rattle.base.proofs.Cases.{cond_both}
use Rattle.base.proofs.Spliced.{splice-none, splice-twice}
use Rattle.output.specs.Filling.{spliced_within}
use Rattle.output.proofs.Filled.{put-fits}
use Rattle.drive.specs.declared.Event.{Event as LentEvent}
use Rattle.drive.specs.Events.{Event, event_in, reading, elapse, reset, sensor_set, band_set, geometry, transfer}
use Rattle.reader.specs.declared.Reader.{Reader}
use Rattle.event_reader.specs.Fields.{Parsed, event, broken, tokens_at, event_at, Reads}
use Rattle.event_reader.proofs.Progress.{event-past, event-tokens}
use Rattle.event_reader.proofs.Progress.{tokens_of as expression-of}
use Rattle.event_form.specs.declared.EventNumbers.{EventNumbers}
use Rattle.event_form.specs.Form.{fields_of, tokens_of}
use Rattle.event_form.specs.Parts.{Numbers}
use Rattle.event_form.specs.Flat.{all_fields, all_tokens}
use Rattle.event_form.proofs.Numbers.{fields-most, numbers-first}
use Rattle.script.specs.Events.{Events, events, bad_from, before, and_then}
use Rattle.script.specs.Parts.{events_from}
use Rattle.script.proofs.Checking.{reads_on}
use Rattle.script.specs.declared.BadScript.{BadScript}
use Rattle.script_reader.specs.declared.FlatLength.{FlatLength}
use Rattle.script_reader.specs.Parts.{AllTold, Flattens}

-- events in front of those that are left

abbrev after : List Event → Events → Events
after [] o = o
after (e ∷ es) o = before e (after es o)

after_one : (es : List Event) (e : Event) (o : Events) → after es (before e o) ≡ after (es ++ e ∷ []) o
after_one [] e o = refl
after_one (x ∷ es) e o = ap (before x) (after_one es e o)

after_none : (es : List Event) → after es (events []) ≡ events es
after_none [] = refl
after_none (e ∷ es) = rw (after_none es)

after-bad : (es : List Event) (place : ℕ) → after es (bad_from place) ≡ bad_from place
after-bad [] place = refl
after-bad (e ∷ es) place = rw (after-bad es place)

-- the flat form with one event more

fields-one : (es : List Event) (e : Event) → all_fields (es ++ e ∷ []) ≡ all_fields es ++ fields_of e
unfolding all_fields
fields-one [] e = append-nil (fields_of e)
fields-one (x ∷ es) e = rw (fields-one es e, append_assoc (fields_of x) (all_fields es) (fields_of e))

tokens-one : (es : List Event) (e : Event) → all_tokens (es ++ e ∷ []) ≡ all_tokens es ++ tokens_of e
unfolding all_tokens
tokens-one [] e = append-nil (tokens_of e)
tokens-one (x ∷ es) e = rw (tokens-one es e, append_assoc (tokens_of x) (all_tokens es) (tokens_of e))

-- the bytes of an event's expression, and none of the other events
form-tokens : (e : Event) → tokens_of e ≡ expression-of e
form-tokens (reading sensor value) = refl
form-tokens (elapse n) = refl
form-tokens (reset type) = refl
form-tokens (sensor_set sensor c) = refl
form-tokens (band_set band c tokens) = refl
form-tokens (geometry band start blocks) = refl
form-tokens (transfer direction start count) = refl

-- an expression's bytes are no more than the script's
tokens-within : (s : List ℕ) (start count : ℕ) → length (tokens_at s start count) ≤ length s
tokens-within s start count =
    cond_both (λ (l : List ℕ). length l ≤ length s) (leb start (length s)) _ []
    (cond_both (λ (l : List ℕ). length l ≤ length s) (leb count (length s - start)) (take count (drop start s)) []
    (omega (arith, length-take count (drop start s), length-drop start s)) (omega arith)) (omega arith)

-- a slice that holds what came before where that fits, with more after it where that fits too
grown : (lent slice next part more : List ℕ) (n : ℕ) → n ≡ length part → (n ≤ length lent → slice ≡ spliced lent 0 part) → length slice ≡ length lent
    → next ≡ spliced_within slice n more → n + length more ≤ length lent → next ≡ spliced lent 0 (part ++ more)
grown lent slice next part more n p held long q room =
    let a : next ≡ spliced slice n more = put-fits slice n more next (omega (arith, room, long)) q in
    let b : slice ≡ spliced lent 0 part = held (omega (arith, room)) in
    let m : n ≡ 0 + length part = omega (arith, p) in
    a ∙ ap (λ (l : List ℕ). spliced l n more) b ∙ ap (λ (k : ℕ). spliced (spliced lent 0 part) k more) m ∙ splice-twice lent 0 part more (omega arith)

-- ---- some events are told: the reader stood at its first place, and stands here

pub record Flattening (first here : Reader) (fields₀ tokens₀ fields tokens : List ℕ) (count : FlatLength) : Type 0 where
  pub script : here.script ≡ first.script
  pub es : List Event
  pub given : events_from first.script.now first.at ≡ after es (events_from first.script.now here.at)
  pub field-count : count.fields ≡ length (all_fields es)
  pub token-count : count.tokens ≡ length (all_tokens es)
  pub fields-are : count.fields ≤ length fields₀ → fields ≡ spliced fields₀ 0 (all_fields es)
  pub tokens-are : count.tokens ≤ length tokens₀ → tokens ≡ spliced tokens₀ 0 (all_tokens es)
  pub fields-long : length fields ≡ length fields₀
  pub tokens-long : length tokens ≡ length tokens₀
  pub few-fields : count.fields ≤ 10 * here.at
  pub few-tokens : count.tokens ≤ 65536 * here.at

pub flat-begin : (first : Reader) (fields tokens : List ℕ) → Flattening first first fields tokens fields tokens (record { fields = 0; tokens = 0 })
unfolding all_fields all_tokens
flat-begin first fields tokens = record {
  script = refl;
  es = [];
  given = refl;
  field-count = refl;
  token-count = refl;
  fields-are = λ h. splice-none fields 0;
  tokens-are = λ h. splice-none tokens 0;
  fields-long = refl;
  tokens-long = refl;
  few-fields = omega arith;
  few-tokens = omega arith;
}

-- the event at a place within the script
one-event : (s : List ℕ) (at : ℕ) → at < length s → events_from s at ≡ and_then at (event_at s at) (λ n. events_from s n)
one-event s at h = reads_on s at ∙ rw (lt-ltb at (length s) h)

module _ (first here : Reader) (fields₀ tokens₀ fields tokens : List ℕ) (count : FlatLength)
    (i : Flattening first here fields₀ tokens₀ fields tokens count) where
  abbrev s : List ℕ
  s = first.script.now

  same-length : length here.script.now ≡ length s
  same-length = ap (λ (x : Bor (List ℕ)). length x.now) i.script

  pub flat-done : length here.script.now ≤ here.at → AllTold (events_from s first.at) count.fields count.tokens fields₀ tokens₀ fields tokens
  flat-done h =
      let l : length s ≤ here.at = omega (arith, h, same-length) in
      record {
        es = i.es;
        is = i.given ∙ ap (after i.es) (reads_on s here.at ∙ rw (le-ltb here.at (length s) l)) ∙ after_none i.es;
        field-count = i.field-count;
        token-count = i.token-count;
        fields-are = i.fields-are;
        tokens-are = i.tokens-are;
      }

  module _ (h : here.at < length here.script.now) (r : Option LentEvent) (next : Reader)
      (w : Reads here.script.now (event_at here.script.now here.at) here.at r next.at) where
    within : here.at < length s
    within = omega (arith, h, same-length)

    -- what was read, of the first reader's script
    read : Reads s (event_at s here.at) here.at r next.at
    read = subst (λ (x : Bor (List ℕ)). Reads x.now (event_at x.now here.at) here.at r next.at) i.script w

    bad : r ≡ None → events_from s first.at ≡ bad_from here.at
    bad q = go (event_at s here.at) refl (subst (λ (x : Option LentEvent). Reads s (event_at s here.at) here.at x next.at) q read)
      where
        go : (p : Parsed) → event_at s here.at ≡ p → Reads s p here.at None next.at → events_from s first.at ≡ bad_from here.at
        go (event a x b c m) u t = absurd t
        go (broken a) u t = i.given ∙ ap (after i.es) (one-event s here.at within ∙ rw u) ∙ after-bad i.es here.at

    pub flat-bad : r ≡ None → (o : Result FlatLength BadScript) → o ≡ Err (record { place = here.at }) → (fields' tokens' : List ℕ)
        → Flattens (events_from s first.at) o fields₀ tokens₀ fields' tokens'
    flat-bad q o z fields' tokens' =
        subst (λ (x : Result FlatLength BadScript). Flattens (events_from s first.at) x fields₀ tokens₀ fields' tokens') (sym z) (bad q)

    module _ (e : LentEvent) (q : r ≡ Some e) (k : next.script ≡ here.script) where
      -- it is an event, which ends past the place at which it starts, and whose bytes are no more than the script's
      is-event : (events_from s first.at ≡ after (i.es ++ event_in e ∷ []) (events_from s next.at)) × (here.at < next.at) × (length (tokens_of (event_in e)) ≤ length s)
      is-event = go (event_at s here.at) refl (subst (λ (x : Option LentEvent). Reads s (event_at s here.at) here.at x next.at) q read)
        where
          go : (p : Parsed) → event_at s here.at ≡ p → Reads s p here.at (Some e) next.at
              → (events_from s first.at ≡ after (i.es ++ event_in e ∷ []) (events_from s next.at)) × (here.at < next.at) × (length (tokens_of (event_in e)) ≤ length s)
          go (event a x b c m) u t =
              let v : events_from s here.at ≡ before x (events_from s m) = one-event s here.at within ∙ ap (λ (y : Parsed). and_then here.at y (λ n. events_from s n)) u in
              let z : tokens_of x ≡ tokens_at s b c = form-tokens x ∙ event-tokens s here.at a x b c m u in (
                i.given ∙ ap (after i.es) (v ∙ ap (λ (n : ℕ). before x (events_from s n)) (sym t.3)) ∙ after_one i.es x (events_from s next.at)
                    ∙ ap (λ (y : Event). after (i.es ++ y ∷ []) (events_from s next.at)) (sym t.1),
                omega (arith, t.3, event-past s here.at a x b c m u),
                rw (t.1, z) (tokens-within s b c),
              )
          go (broken a) u t = absurd t

      pub flat-less : length next.script.now - next.at < length here.script.now - here.at
      flat-less = omega (arith, is-event.1, h, ap (λ (x : Bor (List ℕ)). length x.now) k)

      module _ (told : EventNumbers) (m : Numbers (event_in e) told) (part : Bor (List ℕ)) (g : part.now ≡ tokens_of (event_in e)) (short : length first.script.now ≤ 65536) where
        part-length : length part.now ≤ 65536
        part-length = omega (arith, ap length g, is-event.2, short)

        pub fields_fit : Fits w64 (count.fields + told.width)
        fields_fit = omega (arith, i.few-fields, m.width, fields-most (event_in e), within, short)

        pub tokens-fit : Fits w64 (count.tokens + length part.now)
        tokens-fit = omega (arith, i.few-tokens, part-length, within, short)

        pub flat-again : (fields' tokens' : List ℕ) → fields' ≡ spliced_within fields count.fields (take told.width told.numbers) → length fields' ≡ length fields
            → tokens' ≡ spliced_within tokens count.tokens part.now → length tokens' ≡ length tokens
            → Flattening first next fields₀ tokens₀ fields' tokens' (record { fields = count.fields + told.width; tokens = count.tokens + length part.now })
        flat-again fields' tokens' f x t l =
            let y : Event = event_in e in
            let a : fields' ≡ spliced_within fields count.fields (fields_of y) = f ∙ ap (spliced_within fields count.fields) (numbers-first y told m) in
            let b : tokens' ≡ spliced_within tokens count.tokens (tokens_of y) = t ∙ ap (spliced_within tokens count.tokens) g in
            let c : length part.now ≡ length (tokens_of y) = ap length g in
            record {
              script = k ∙ i.script;
              es = i.es ++ y ∷ [];
              given = is-event.0;
              field-count = ap (λ (n : ℕ). n + told.width) i.field-count ∙ ap (λ (n : ℕ). length (all_fields i.es) + n) m.width
                  ∙ sym (ap length (fields-one i.es y) ∙ length-append (all_fields i.es) (fields_of y));
              token-count = ap (λ (n : ℕ). n + length part.now) i.token-count ∙ ap (λ (n : ℕ). length (all_tokens i.es) + n) c
                  ∙ sym (ap length (tokens-one i.es y) ∙ length-append (all_tokens i.es) (tokens_of y));
              fields-are = λ room. grown fields₀ fields fields' (all_fields i.es) (fields_of y) count.fields i.field-count i.fields-are i.fields-long a (omega (arith, room, m.width))
                  ∙ ap (spliced fields₀ 0) (sym (fields-one i.es y));
              tokens-are = λ room. grown tokens₀ tokens tokens' (all_tokens i.es) (tokens_of y) count.tokens i.token-count i.tokens-are i.tokens-long b (omega (arith, room, c))
                  ∙ ap (spliced tokens₀ 0) (sym (tokens-one i.es y));
              fields-long = x ∙ i.fields-long;
              tokens-long = l ∙ i.tokens-long;
              few-fields = omega (arith, i.few-fields, m.width, fields-most y, is-event.1);
              few-tokens = omega (arith, i.few-tokens, part-length, is-event.1);
            }
