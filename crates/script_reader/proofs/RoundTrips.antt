-- The two functions, one called after the other.
use mathlib.Core.Path.{◌≡◌, refl, sym, ap, ◌∙◌}
use Prim.Native.Nat.{ℕ, ◌≤◌}
use native.Mathlib.Omega.{arith}
use mathlib.Core.Bool.{true, false}
use mathlib.Core.List.{List}
use lib.Dec.{leb, ltb}
use lib.ListN.{length, take}
use borrow.Author.Tests.{le-ltb, le-leb}
use Rattle.std.specs.Prelude.{Result, Ok, Err}
use Rattle.base.specs.Spliced.{over}
use Rattle.base.proofs.Cases.{cond-false}
use Rattle.answer.specs.declared.Refusal.{Refusal}
use Rattle.answer.specs.Numbers.{number_of}
use Rattle.answer.proofs.Injective.{refusal_number}
use Rattle.output.specs.Filling.{told_in, filled_by}
use Rattle.output.proofs.Filled.{filled-bytes, filled-room}
use Rattle.numbers.specs.Groups.{done}
use Rattle.drive.specs.Events.{Event}
use Rattle.event_form.specs.Parts.{Flat, flat, events_of}
use Rattle.event_form.specs.Flat.{all_fields, all_tokens}
use Rattle.event_form.proofs.Flat.{flat-form}
use Rattle.script.specs.Whole.{most_script_bytes, Script, accepted, read_script}
use Rattle.script_form.specs.Written.{script_bytes, Holds}
use Rattle.script_form.proofs.Whole.{script-form}
use Rattle.script_writer.specs.Write.{writable, script_told}
use Rattle.script_writer.proofs.Whole.{told_back, able-told}
use Rattle.script.specs.declared.ScriptError.{ScriptError}
use Rattle.script.specs.declared.ScriptError.TheVariants as E
use Rattle.script.specs.Errors.{error_number}
use Rattle.script_reader.specs.declared.FlatScript.{FlatScript}
use Rattle.script_reader.specs.Read.{read_to, read_in, too_short, flat_told}
use Rattle.script_reader.specs.RoundTrips.{HandsBack, ComesOut, ScriptRoundTrips}
use Rattle.script_reader.proofs.Whole.{HandsOver, hands-over, form_of, header_of}

-- slices that are long enough
long-enough : (capacity bands sensors : ℕ) (es : List Event) (fields tokens lent_fields lent_tokens : List ℕ) → fields ≡ all_fields es → tokens ≡ all_tokens es
    → length fields ≤ length lent_fields → length tokens ≤ length lent_tokens
    → flat_told (accepted capacity bands sensors es) lent_fields lent_tokens
    ≡ read_to done 0 capacity bands sensors (length (all_fields es)) (length (all_tokens es)) (over (all_fields es) lent_fields) (over (all_tokens es) lent_tokens)
long-enough capacity bands sensors es fields tokens lent_fields lent_tokens f t a b =
    let u : ltb (length lent_fields) (length (all_fields es)) ≡ false = le-ltb (length lent_fields) (length (all_fields es)) (omega (arith, a, ap length f)) in
    let v : ltb (length lent_tokens) (length (all_tokens es)) ≡ false = le-ltb (length lent_tokens) (length (all_tokens es)) (omega (arith, b, ap length t)) in
    let o : too_short es lent_fields lent_tokens ≡ false = rw (u, v) in
    sym (cond-false (too_short es lent_fields lent_tokens) _ _ _ o refl)

-- a reading that is not done has another number
failed : (error : ScriptError) (answer : ℕ) → error_number error ≡ answer → answer ≡ 0 → {P : Type 0} → P
failed (E.Bad place) answer e z = absurd (omega (arith, e, z))
failed E.ShortBuffer answer e z = absurd (omega (arith, e, z))

-- the reader, on a script that reads to this header and these events
hands-back : (capacity bands sensors : ℕ) (es : List Event) (x : Script) (fields tokens lent_fields lent_tokens fields' tokens' : List ℕ) (r : Result FlatScript ScriptError)
    → x ≡ accepted capacity bands sensors es → fields ≡ all_fields es → tokens ≡ all_tokens es → length fields ≤ length lent_fields
    → length tokens ≤ length lent_tokens → read_in r fields' tokens' ≡ flat_told x lent_fields lent_tokens
    → HandsBack capacity bands sensors fields tokens r fields' tokens'
hands-back capacity bands sensors es x fields tokens lent_fields lent_tokens fields' tokens' (Err error) q f t a b e =
    let g : read_in (Err error) fields' tokens' ≡ read_to done 0 capacity bands sensors (length (all_fields es)) (length (all_tokens es)) (over (all_fields es) lent_fields) (over (all_tokens es) lent_tokens) =
    e ∙ ap (λ (y : Script). flat_told y lent_fields lent_tokens) q ∙ long-enough capacity bands sensors es fields tokens lent_fields lent_tokens f t a b in
    let z : error_number error ≡ done = cc in
    failed error done z refl
hands-back capacity bands sensors es x fields tokens lent_fields lent_tokens fields' tokens' (Ok s) q f t a b e =
    let h = hands-over x s lent_fields lent_tokens fields' tokens' e in
    let o = h.5 in
    let y : accepted h.0 h.1 h.2 h.3 ≡ accepted capacity bands sensors es = sym h.4 ∙ q in
    let i : h.0 ≡ capacity = cc in
    let j : h.1 ≡ bands = cc in
    let k : h.2 ≡ sensors = cc in
    let l : h.3 ≡ es = cc in
    record {
      flat = s;
      done = refl;
      capacity-is = o.capacity-is ∙ i;
      bands-is = o.bands-is ∙ j;
      sensors-is = o.sensors-is ∙ k;
      fields-are = o.fields-are ∙ ap all_fields l ∙ sym f;
      tokens-are = o.tokens-are ∙ ap all_tokens l ∙ sym t;
    }

-- the writer, on a header and events that a script can hold
comes-out : (capacity bands sensors : ℕ) (es : List Event) (script : List ℕ) (f : Flat) (out after : List ℕ) (w : Result ℕ Refusal) → Holds capacity bands sensors es
    → script_bytes capacity bands sensors es ≡ script → f ≡ flat es → length script ≤ length out → told_in w after ≡ script_told capacity bands sensors f out
    → ComesOut script w after
comes-out capacity bands sensors es script f out after w h s q room e = go w refl
  where
    able : writable capacity bands sensors (flat es) ≡ true
    able =
        let l : leb (length (script_bytes capacity bands sensors es)) most_script_bytes ≡ true =
        le-leb (length (script_bytes capacity bands sensors es)) most_script_bytes h.short in
        rw (h.header, h.events, l)

    filled : told_in w after ≡ filled_by script out
    filled =
        e ∙ ap (λ (x : Flat). script_told capacity bands sensors x out) q ∙ sym (able-told capacity bands sensors es out able) ∙ ap (λ (x : List ℕ). filled_by x out) s

    go : (x : Result ℕ Refusal) → w ≡ x → ComesOut script w after
    go (Ok count) y =
        let r = filled-bytes script out 0 count after (ap (λ (x : Result ℕ Refusal). told_in x after) (sym y) ∙ filled) refl in
        record { done = y ∙ ap Ok r.0; same = ap (λ (n : ℕ). take n after) (sym r.0) ∙ r.1 }
    go (Err refusal) y =
        let z : number_of refusal ≡ 0 =
        filled-room script out (number_of refusal) 0 after (ap (λ (x : Result ℕ Refusal). told_in x after) (sym y) ∙ filled) room in
        absurd (omega (arith, z, refusal_number refusal))

-- the header that is handed over is the script's
held-so : (r : FlatScript) (fields' tokens' : List ℕ) (capacity bands sensors : ℕ) (es : List Event) → HandsOver r fields' tokens' capacity bands sensors es
    → Holds capacity bands sensors es → Holds r.header.capacity r.header.bands r.header.sensors es
held-so r fields' tokens' capacity bands sensors es o h = rw (o.capacity-is, o.bands-is, o.sensors-is) h

pub script-round-trips : ScriptRoundTrips
script-round-trips = record {
  write-then-read = λ capacity bands sensors fields tokens out after count k e lent_fields lent_tokens fields' tokens' r a b g.
      let t = told_back capacity bands sensors fields tokens (Ok count) out after (λ i. omega (arith, k i)) e in
      let n = flat-form.no_other fields tokens t.events t.given in
      hands-back capacity bands sensors t.events (read_script (take count after)) fields tokens lent_fields lent_tokens fields' tokens' r t.read n.0 n.1 a b g;
  read-then-write = λ script lent_fields lent_tokens fields' tokens' r k e out after w room g.
      let h = hands-over (read_script script) r lent_fields lent_tokens fields' tokens' e in
      let o = h.5 in
      let s = header_of r fields' tokens' h.0 h.1 h.2 h.3 o in
      comes-out r.header.capacity r.header.bands r.header.sensors h.3 script
      (events_of (take r.fields fields') (take r.tokens tokens')) out after w
      (held-so r fields' tokens' h.0 h.1 h.2 h.3 o (script-form.held script h.0 h.1 h.2 h.3 k h.4))
      (s ∙ script-form.written-again script h.0 h.1 h.2 h.3 k h.4)
      (form_of r fields' tokens' h.0 h.1 h.2 h.3 o) room g;
}
