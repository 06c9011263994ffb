-- A whole script: the ways in which reading it ends, and that it comes out again.
use mathlib.Core.Path.{◌≡◌, refl, sym, ap, ◌∙◌, subst}
use Prim.Native.Nat.{ℕ, ◌≤◌, ◌<◌}
use native.Mathlib.Omega.{arith}
use mathlib.Core.Bool.{Bool, true, false, not, cond, ◌&&◌}
use mathlib.Core.List.{List}
use lib.Dec.{leb, ltb}
use lib.ListN.{length, get_or, take, drop}
use lib.Seq.{take-append_seam}
use mir.Syntax.{w8}
use mir.Val.{Fits}
use borrow.Author.Tests.{lt-ltb, le-ltb, leb-true, leb-false, not-true, not-false}
use denote.Bor.{Bor}
use Rattle.std.specs.Prelude.{Option, Some, None, Result, Ok, Err}
use Rattle.base.specs.Lists.{Bytes}
use Rattle.base.specs.Spliced.{spliced, over}
use Rattle.base.proofs.Cases.{cond-true, cond-false, or-second, and_left, and_right}
use Rattle.base.proofs.Spliced.{spliced-over}
use Rattle.numbers.specs.Groups.{done, bad_script}
use Rattle.drive.specs.Events.{Event}
use Rattle.event_form.specs.Parts.{flat, events_of}
use Rattle.event_form.specs.Flat.{all_fields, all_tokens}
use Rattle.event_form.proofs.Flat.{flat-form}
use Rattle.drive.specs.declared.Header.{Header as LentHeader}
use Rattle.reader.specs.declared.Reader.{Reader}
use Rattle.script.specs.declared.BadScript.{BadScript}
use Rattle.script.specs.declared.ScriptError.{ScriptError}
use Rattle.script.specs.declared.ScriptError.TheVariants as E
use Rattle.script.specs.Events.{events, bad_from}
use Rattle.script.specs.Parts.{events_from}
use Rattle.script.specs.Whole.{most_script_bytes, header_in, header_from, header_at, Script, accepted, bad, with_events, with_header, read_script}
use Rattle.script_form.specs.Written.{script_bytes}
use Rattle.script_form.proofs.Whole.{script-form}
use Rattle.script_reader.specs.declared.FlatScript.{FlatScript}
use Rattle.script_reader.specs.declared.FlatLength.{FlatLength}
use Rattle.script_reader.specs.Read.{read_to, read_in, refused_read, too_short, flat_told, WrittenAgain}
use Rattle.script_reader.specs.Parts.{AllTold, Flattens, Measures}

-- what is told of a bad script
pub bad-told : (s fields tokens : List ℕ) (place : ℕ) → read_script s ≡ bad place → refused_read 10 place fields tokens ≡ flat_told (read_script s) fields tokens
bad-told s fields tokens place e = sym (ap (λ (x : Script). flat_told x fields tokens) e)

pub error-told : (s fields tokens : List ℕ) (r : Result FlatScript ScriptError) (place : ℕ) → r ≡ Err (E.Bad place) → read_script s ≡ bad place
    → read_in r fields tokens ≡ flat_told (read_script s) fields tokens
error-told s fields tokens r place q e = ap (λ (x : Result FlatScript ScriptError). read_in x fields tokens) q ∙ bad-told s fields tokens place e

pub script-overlong : (s : List ℕ) → most_script_bytes < length s → read_script s ≡ bad 0
unfolding read_script
script-overlong s h = sym (cond-true (ltb most_script_bytes (length s)) _ _ _ (lt-ltb most_script_bytes (length s) h) refl)

-- what is handed over, by what it comes to
handed : (header : LentHeader) (n k : ℕ) (fields tokens : List ℕ) (n' k' : ℕ) (fields' tokens' : List ℕ) → n ≡ n' → k ≡ k' → fields ≡ fields' → tokens ≡ tokens'
    → read_in (Ok (record { header = header; fields = n; tokens = k })) fields tokens
    ≡ read_to done 0 header.capacity header.bands header.sensors n' k' fields' tokens'
handed header n k fields tokens n' k' fields' tokens' a b c d = rw (a, b, c, d)

module _ (script : Bor (List ℕ)) (h : length script.now ≤ most_script_bytes) (first here : Reader) (v : (first.script ≡ script) × (first.at ≡ 0))
    (x : Option LentHeader) (e : header_in x here.at ≡ header_from first.script.now first.at) where
  abbrev s : List ℕ
  s = script.now

  is-header : header_in x here.at ≡ header_at s
  unfolding header_at
  is-header = e ∙ ap (λ (y : Bor (List ℕ)). header_from y.now first.at) v.0 ∙ ap (header_from s) v.1

  with-header : read_script s ≡ with_header s (header_in x here.at)
  unfolding read_script
  with-header = sym (cond-false (ltb most_script_bytes (length s)) _ _ _ (le-ltb most_script_bytes (length s) h) (ap (with_header s) is-header))

  pub script-headless : x ≡ None → read_script s ≡ bad 0
  script-headless q = with-header ∙ ap (λ (y : Option LentHeader). with_header s (header_in y here.at)) q

  module _ (header : LentHeader) (q : x ≡ Some header) (k : here.script ≡ first.script) where
    same-script : here.script ≡ script
    same-script = k ∙ v.0

    pub few-bytes : length here.script.now ≤ 65536
    few-bytes = omega (arith, h, ap (λ (y : Bor (List ℕ)). length y.now) same-script)

    script-is : read_script s ≡ with_events header.capacity header.bands header.sensors (events_from here.script.now here.at)
    script-is =
        with-header ∙ ap (λ (y : Option LentHeader). with_header s (header_in y here.at)) q
        ∙ ap (λ (y : Bor (List ℕ)). with_events header.capacity header.bands header.sensors (events_from y.now here.at)) (sym same-script)

    module _ (m : Result FlatLength BadScript) (p : Measures (events_from here.script.now here.at) m) where
      pub script-broken : (b : BadScript) → m ≡ Err b → read_script s ≡ bad b.place
      script-broken b w =
          let u : events_from here.script.now here.at ≡ bad_from b.place = subst (λ (y : Result FlatLength BadScript). Flattens (events_from here.script.now here.at) y p.0 p.1 p.2 p.3) w p.4 in
          script-is ∙ ap (with_events header.capacity header.bands header.sensors) u

      module _ (l : FlatLength) (w : m ≡ Ok l) where
        told : AllTold (events_from here.script.now here.at) l.fields l.tokens p.0 p.1 p.2 p.3
        told = subst (λ (y : Result FlatLength BadScript). Flattens (events_from here.script.now here.at) y p.0 p.1 p.2 p.3) w p.4

        is-accepted : read_script s ≡ accepted header.capacity header.bands header.sensors told.es
        is-accepted = script-is ∙ ap (with_events header.capacity header.bands header.sensors) told.is

        short-told : (fields tokens : List ℕ) → too_short told.es fields tokens ≡ true → refused_read 11 0 fields tokens ≡ flat_told (read_script s) fields tokens
        short-told fields tokens t =
            cond-true (too_short told.es fields tokens) _ _ _ t refl ∙ sym (ap (λ (y : Script). flat_told y fields tokens) is-accepted)

        module _ (fields tokens : List ℕ) (t : Bool) (f : t ≡ (leb l.fields (length fields) && leb l.tokens (length tokens))) where
          pub slices-short : not t ≡ true → refused_read 11 0 fields tokens ≡ flat_told (read_script s) fields tokens
          slices-short n = go (leb l.fields (length fields)) refl (leb l.tokens (length tokens)) refl (sym f ∙ not-true t n)
            where
              go : (x : Bool) → leb l.fields (length fields) ≡ x → (y : Bool) → leb l.tokens (length tokens) ≡ y → (x && y) ≡ false
                  → refused_read 11 0 fields tokens ≡ flat_told (read_script s) fields tokens
              go false p y q e =
                  let a : ltb (length fields) (length (all_fields told.es)) ≡ true = lt-ltb (length fields) (length (all_fields told.es)) (omega (arith, leb-false l.fields (length fields) p, told.field-count)) in
                  short-told fields tokens (rw a)
              go true p false q e =
                  let a : ltb (length tokens) (length (all_tokens told.es)) ≡ true = lt-ltb (length tokens) (length (all_tokens told.es)) (omega (arith, leb-false l.tokens (length tokens) q, told.token-count)) in
                  short-told fields tokens (or-second (ltb (length fields) (length (all_fields told.es))) _ a)
              go true p true q e = let n : ◌≡◌ {A = ℕ} 0 1 = cc in absurd (omega (arith, n))

          pub slices-long : not t ≡ false → (l.fields ≤ length fields) × (l.tokens ≤ length tokens)
          slices-long n =
              let b = sym f ∙ not-false t n in
              (leb-true l.fields (length fields) (and_left _ (leb l.tokens (length tokens)) b), leb-true l.tokens (length tokens) (and_right (leb l.fields (length fields)) _ b))

        module _ (fields tokens fields' tokens' : List ℕ) (again : Result FlatLength BadScript)
            (g : Flattens (events_from here.script.now here.at) again fields tokens fields' tokens') where
          -- the second time the events are told as the first
          told-twice : (b : BadScript) → again ≡ Err b → {P : Type 0} → P
          told-twice b z =
              let u : events_from here.script.now here.at ≡ bad_from b.place = subst (λ (y : Result FlatLength BadScript). Flattens (events_from here.script.now here.at) y fields tokens fields' tokens') z g in
              let y : events told.es ≡ bad_from b.place = sym told.is ∙ u in
              let n : ◌≡◌ {A = ℕ} 0 1 = cc in
              absurd (omega arith)

          all_told : (l' : FlatLength) → again ≡ Ok l' → l.fields ≤ length fields → l.tokens ≤ length tokens
              → read_in (Ok (record { header = header; fields = l.fields; tokens = l.tokens })) fields' tokens' ≡ flat_told (read_script s) fields tokens
          all_told l' z a b =
              let g' : AllTold (events_from here.script.now here.at) l'.fields l'.tokens fields tokens fields' tokens' =
              subst (λ (y : Result FlatLength BadScript). Flattens (events_from here.script.now here.at) y fields tokens fields' tokens') z g in
              let y : events g'.es ≡ events told.es = sym g'.is ∙ told.is in
              let e : g'.es ≡ told.es = cc in
              let n-is : l'.fields ≡ l.fields = g'.field-count ∙ ap (λ (x : List Event). length (all_fields x)) e ∙ sym told.field-count in
              let k-is : l'.tokens ≡ l.tokens = g'.token-count ∙ ap (λ (x : List Event). length (all_tokens x)) e ∙ sym told.token-count in
              let f : fields' ≡ over (all_fields told.es) fields =
              spliced-over fields (all_fields told.es) fields' (g'.fields-are (omega (arith, n-is, a)) ∙ ap (λ (x : List Event). spliced fields 0 (all_fields x)) e) in
              let t : tokens' ≡ over (all_tokens told.es) tokens =
              spliced-over tokens (all_tokens told.es) tokens' (g'.tokens-are (omega (arith, k-is, b)) ∙ ap (λ (x : List Event). spliced tokens 0 (all_tokens x)) e) in
              let u : ltb (length fields) (length (all_fields told.es)) ≡ false = le-ltb (length fields) (length (all_fields told.es)) (omega (arith, a, told.field-count)) in
              let w : ltb (length tokens) (length (all_tokens told.es)) ≡ false = le-ltb (length tokens) (length (all_tokens told.es)) (omega (arith, b, told.token-count)) in
              let o : too_short told.es fields tokens ≡ false = rw (u, w) in
              handed header l.fields l.tokens fields' tokens' _ _ _ _ told.field-count told.token-count f t
              ∙ cond-false (too_short told.es fields tokens) _ _ _ o refl ∙ sym (ap (λ (y : Script). flat_told y fields tokens) is-accepted)

          pub done-told : (t : Bool) → t ≡ (leb l.fields (length fields) && leb l.tokens (length tokens)) → not t ≡ false → (l' : FlatLength) → again ≡ Ok l'
              → read_in (Ok (record { header = header; fields = l.fields; tokens = l.tokens })) fields' tokens' ≡ flat_told (read_script s) fields tokens
          done-told t f n l' z = let r = slices-long fields tokens t f n in all_told l' z r.0 r.1

-- ---- what a reading that is done says, from the reader's equation alone

-- the slices start with the flat form, and the header is the script's
pub record HandsOver (r : FlatScript) (fields' tokens' : List ℕ) (capacity bands sensors : ℕ) (es : List Event) : Type 0 where
  pub capacity-is : r.header.capacity ≡ capacity
  pub bands-is : r.header.bands ≡ bands
  pub sensors-is : r.header.sensors ≡ sensors
  pub fields-are : take r.fields fields' ≡ all_fields es
  pub tokens-are : take r.tokens tokens' ≡ all_tokens es

module _ (r : FlatScript) (fields' tokens' : List ℕ) (capacity bands sensors : ℕ) (es : List Event) (o : HandsOver r fields' tokens' capacity bands sensors es) where
  pub form_of : events_of (take r.fields fields') (take r.tokens tokens') ≡ flat es
  form_of = ap (λ (l : List ℕ). events_of l (take r.tokens tokens')) o.fields-are ∙ ap (events_of (all_fields es)) o.tokens-are ∙ flat-form.back es

  pub header_of : script_bytes r.header.capacity r.header.bands r.header.sensors es ≡ script_bytes capacity bands sensors es
  header_of =
      ap (λ (n : ℕ). script_bytes n r.header.bands r.header.sensors es) o.capacity-is
      ∙ ap (λ (n : ℕ). script_bytes capacity n r.header.sensors es) o.bands-is
      ∙ ap (λ (n : ℕ). script_bytes capacity bands n es) o.sensors-is

pub hands-over : (x : Script) (r : FlatScript) (fields tokens fields' tokens' : List ℕ) → read_in (Ok r) fields' tokens' ≡ flat_told x fields tokens
    → (capacity : ℕ) × (bands : ℕ) × (sensors : ℕ) × (es : List Event) × (x ≡ accepted capacity bands sensors es) × HandsOver r fields' tokens' capacity bands sensors es
hands-over (bad place) r fields tokens fields' tokens' e = let n : ◌≡◌ {A = ℕ} 0 bad_script = cc in absurd (omega (arith, n))
hands-over (accepted capacity bands sensors es) r fields tokens fields' tokens' e = go (too_short es fields tokens) e
  where
    go : (u : Bool)
        → read_in (Ok r) fields' tokens'
        ≡ cond u (refused_read 11 0 fields tokens)
        (read_to done 0 capacity bands sensors (length (all_fields es)) (length (all_tokens es)) (over (all_fields es) fields) (over (all_tokens es) tokens))
        → (a : ℕ) × (b : ℕ) × (c : ℕ) × (fs : List Event) × (accepted capacity bands sensors es ≡ accepted a b c fs) × HandsOver r fields' tokens' a b c fs
    go true q = let n : ◌≡◌ {A = ℕ} 0 11 = cc in absurd (omega (arith, n))
    go false q =
        let n : r.fields ≡ length (all_fields es) = cc in
        let k : r.tokens ≡ length (all_tokens es) = cc in
        let f : fields' ≡ over (all_fields es) fields = cc in
        let t : tokens' ≡ over (all_tokens es) tokens = cc in (
          capacity,
          bands,
          sensors,
          es,
          refl,
          record {
            capacity-is = cc;
            bands-is = cc;
            sensors-is = cc;
            fields-are = rw (n, f) (take-append_seam (all_fields es) (drop (length (all_fields es)) fields));
            tokens-are = rw (k, t) (take-append_seam (all_tokens es) (drop (length (all_tokens es)) tokens));
          },
        )

pub told-again : (s : List ℕ) (r : Result FlatScript ScriptError) (fields tokens fields' tokens' : List ℕ) → ((i : ℕ) → Fits w8 (get_or s i 0))
    → read_in r fields' tokens' ≡ flat_told (read_script s) fields tokens → WrittenAgain s r fields' tokens'
told-again s (Err error) fields tokens fields' tokens' k e = tt
told-again s (Ok r) fields tokens fields' tokens' k e =
    let h = hands-over (read_script s) r fields tokens fields' tokens' e in
    let o = h.5 in
    let b : Bytes s = λ i. omega (arith, k i) in
    record {
      events = h.3;
      form = form_of r fields' tokens' h.0 h.1 h.2 h.3 o;
      again = header_of r fields' tokens' h.0 h.1 h.2 h.3 o ∙ script-form.written-again s h.0 h.1 h.2 h.3 b h.4;
    }
