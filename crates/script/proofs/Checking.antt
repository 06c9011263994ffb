-- The loop that reads events to the script's end, and the header before it.
use mathlib.Core.Path.{◌≡◌, refl, sym, ap, subst, ◌∙◌}
use Prim.Native.Nat.{ℕ, zero, suc, ◌+◌, ◌-◌, ◌≤◌, ◌<◌}
use native.Mathlib.Omega.{arith}
use mathlib.Core.Bool.{Bool, true, false, cond}
use mathlib.Core.List.{List, []}
use lib.Dec.{ltb}
use lib.ListN.{length}
use borrow.Author.Tests.{lt-ltb, le-ltb, ltb-true, ltb-false}
use Rattle.std.specs.Prelude.{Option, Some, None, Result}
use denote.Bor.{Bor}
use Rattle.base.proofs.Cases.{cond-true, cond-false}
use Rattle.numbers.specs.Groups.{done, bad_script}
use Rattle.drive.specs.Events.{Event}
use Rattle.drive.specs.declared.Event.{Event as LentEvent}
use Rattle.drive.specs.declared.Header.{Header as LentHeader}
use Rattle.reader.specs.declared.Reader.{Reader}
use Rattle.event_reader.specs.Fields.{Parsed, event, broken, event_at, Reads}
use Rattle.script.specs.declared.BadScript.{BadScript}
use Rattle.script.specs.Events.{Events, events, bad_from, before, and_then}
use Rattle.script.specs.Whole.{most_script_bytes, header_in, header_from, header_at, with_events, with_header, read_script, Check, reads, bad_at, checked_in, check_events, check_from, check_script, check_of, ReadsOn}
use Rattle.script.specs.Parts.{events_in, events_from}
use Rattle.event_reader.proofs.Progress.{event-past}

-- ---- the events

-- so many events more
abbrev plus : ℕ → Check → Check
plus n (reads a m) = reads a (n + m)
plus n (bad_at a p) = bad_at a p

plus_none : (c : Check) → c ≡ plus 0 c
plus_none (reads a m) = let e : m ≡ 0 + m = omega arith in ap (reads a) e
plus_none (bad_at a p) = refl

-- an event in front
plus_one : (n : ℕ) (e : Event) (o : Events) → plus n (check_events (before e o)) ≡ plus (n + 1) (check_events o)
plus_one n e (events es) = let q : n + suc (length es) ≡ n + 1 + length es = omega arith in ap (reads done) q
plus_one n e (bad_from p) = refl

-- what is still to be checked decides, with the events counted so far: the reader stood at its first place, and stands here
pub record Checking (first here : Reader) (count : ℕ) : Type 0 where
  pub script : here.script ≡ first.script
  pub left : ℕ
  pub enough : length first.script.now - here.at ≤ left
  pub few : count ≤ here.at
  pub same : check_from first.script.now first.at ≡ plus count (check_events (events_in left first.script.now here.at))

pub check-begin : (first : Reader) → Checking first first 0
unfolding check_from events_from
check-begin first = record {
  script = refl;
  left = length first.script.now - first.at;
  enough = omega arith;
  few = omega arith;
  same = plus_none (check_events (events_in (length first.script.now - first.at) first.script.now first.at));
}

-- an event at a place within the script
one-event : (k : ℕ) (s : List ℕ) (at : ℕ) → at < length s → events_in (suc k) s at ≡ and_then at (event_at s at) (λ n. events_in k s n)
unfolding events_in
one-event k s at h = sym (cond-true (ltb at (length s)) _ _ _ (lt-ltb at (length s) h) refl)

module _ (first here : Reader) (count : ℕ) (i : Checking first here count) (h : here.at < length here.script.now) where
  abbrev s : List ℕ
  s = first.script.now

  within : here.at < length s
  within = omega (arith, h, ap (λ (x : Bor (List ℕ)). length x.now) i.script)

  more : check_from s first.at ≡ plus count (check_events (and_then here.at (event_at s here.at) (λ n. events_in (i.left - 1) s n)))
  more =
      let e : i.left ≡ suc (i.left - 1) = omega (arith, i.enough, within) in
      i.same ∙ ap (λ (k : ℕ). plus count (check_events (events_in k s here.at))) e ∙ ap (λ (o : Events). plus count (check_events o)) (one-event (i.left - 1) s here.at within)

  -- what was read, of the first reader's script
  read : (r : Option LentEvent) (n : ℕ) → Reads here.script.now (event_at here.script.now here.at) here.at r n → Reads s (event_at s here.at) here.at r n
  read r n w = subst (λ (x : Bor (List ℕ)). Reads x.now (event_at x.now here.at) here.at r n) i.script w

  again : (next : Reader) (r : Option LentEvent) (e : LentEvent) → next.script ≡ here.script
      → Reads here.script.now (event_at here.script.now here.at) here.at r next.at → r ≡ Some e
      → Checking first next (count + 1) × (length next.script.now - next.at < length here.script.now - here.at)
  again next r e k w q = go (event_at s here.at) refl (subst (λ (x : Option LentEvent). Reads s (event_at s here.at) here.at x next.at) q (read r next.at w))
    where
      go : (p : Parsed) → event_at s here.at ≡ p → Reads s p here.at (Some e) next.at
          → Checking first next (count + 1) × (length next.script.now - next.at < length here.script.now - here.at)
      go (event a x b c m) u t =
          let past : here.at < next.at = omega (arith, t.3, event-past s here.at a x b c m u) in (
            record {
              script = k ∙ i.script;
              left = i.left - 1;
              enough = omega (arith, i.enough, past);
              few = omega (arith, i.few, past);
              same = more ∙ ap (λ (y : Parsed). plus count (check_events (and_then here.at y (λ m. events_in (i.left - 1) s m)))) u
                  ∙ plus_one count x (events_in (i.left - 1) s m) ∙ ap (λ (m : ℕ). plus (count + 1) (check_events (events_in (i.left - 1) s m))) (sym t.3);
            },
            omega (arith, past, h, ap (λ (x : Bor (List ℕ)). length x.now) k),
          )
      go (broken a) u t = absurd t

  module _ (next : Reader) (r : Option LentEvent) (e : LentEvent) (k : next.script ≡ here.script)
      (w : Reads here.script.now (event_at here.script.now here.at) here.at r next.at) (q : r ≡ Some e) where
    pub check-again : Checking first next (count + 1)
    check-again = (again next r e k w q).0

    pub check-less : length next.script.now - next.at < length here.script.now - here.at
    check-less = (again next r e k w q).1

  pub check-broken : (r : Option LentEvent) (n : ℕ) → Reads here.script.now (event_at here.script.now here.at) here.at r n → r ≡ None
      → bad_at bad_script here.at ≡ check_from s first.at
  check-broken r n w q = go (event_at s here.at) refl (subst (λ (x : Option LentEvent). Reads s (event_at s here.at) here.at x n) q (read r n w))
    where
      go : (p : Parsed) → event_at s here.at ≡ p → Reads s p here.at None n → bad_at bad_script here.at ≡ check_from s first.at
      go (event a x b c m) u t = absurd t
      go (broken a) u t =
          sym (more ∙ ap (λ (x : Parsed). plus count (check_events (and_then here.at x (λ m. events_in (i.left - 1) s m)))) u)

no-events : (k : ℕ) (s : List ℕ) (at : ℕ) → length s ≤ at → events_in k s at ≡ events []
unfolding events_in
no-events zero s at h = refl
no-events (suc k) s at h = sym (cond-false (ltb at (length s)) _ _ _ (le-ltb at (length s) h) refl)

pub check_done : (first here : Reader) (count : ℕ) → Checking first here count → length here.script.now ≤ here.at → reads done count ≡ check_from first.script.now first.at
check_done first here count i h =
    let e : count + 0 ≡ count = omega arith in
    let l : length first.script.now ≤ here.at = omega (arith, h, ap (λ (x : Bor (List ℕ)). length x.now) i.script) in
    sym (i.same ∙ ap (λ (o : Events). plus count (check_events o)) (no-events i.left first.script.now here.at l) ∙ ap (reads done) e)

-- ---- the whole

pub check-overlong : (s : List ℕ) → most_script_bytes < length s → bad_at bad_script 0 ≡ check_of s
unfolding check_of read_script
check-overlong s h = ap check_script (cond-true (ltb most_script_bytes (length s)) _ _ _ (lt-ltb most_script_bytes (length s) h) refl)

module _ (script : Bor (List ℕ)) (h : length script.now ≤ most_script_bytes) (first here : Reader) (a : (first.script ≡ script) × (first.at ≡ 0))
    (r : Option LentHeader) (e : header_in r here.at ≡ header_from first.script.now first.at) where
  abbrev whole : List ℕ
  whole = script.now

  is-header : header_in r here.at ≡ header_at whole
  unfolding header_at
  is-header = e ∙ ap (λ (x : Bor (List ℕ)). header_from x.now first.at) a.0 ∙ ap (header_from whole) a.1

  with-header : check_script (with_header whole (header_in r here.at)) ≡ check_of whole
  unfolding check_of read_script
  with-header = ap check_script (cond-false (ltb most_script_bytes (length whole)) _ _ _ (le-ltb most_script_bytes (length whole) h) (ap (with_header whole) is-header))

  pub check-no-header : r ≡ None → bad_at bad_script 0 ≡ check_of whole
  check-no-header q = sym (ap (λ (x : Option LentHeader). check_script (with_header whole (header_in x here.at))) q) ∙ with-header

  pub check-events : (x : LentHeader) (k : Result ℕ BadScript) → r ≡ Some x → here.script ≡ first.script → checked_in k ≡ check_from here.script.now here.at
      → checked_in k ≡ check_of whole
  unfolding check_from
  check-events x k q t w =
      w ∙ ap (λ (y : Bor (List ℕ)). check_from y.now here.at) (t ∙ a.0) ∙ told (events_from whole here.at)
      ∙ sym (ap (λ (y : Option LentHeader). check_script (with_header whole (header_in y here.at))) q) ∙ with-header
    where
      told : (o : Events) → check_events o ≡ check_script (with_events x.capacity x.bands x.sensors o)
      told (events es) = refl
      told (bad_from p) = refl

-- ---- the events from a place on, with no count of the bytes that are left

same-events : (k l : ℕ) (s : List ℕ) (at : ℕ) → length s - at ≤ k → length s - at ≤ l → events_in k s at ≡ events_in l s at
unfolding events_in
same-events zero l s at h g = sym (no-events l s at (omega (arith, h)))
same-events (suc k) zero s at h g = no-events (suc k) s at (omega (arith, g))
same-events (suc k) (suc l) s at h g = go (ltb at (length s)) refl (event_at s at) refl (λ n p. same-events k l s n (omega (arith, h, p)) (omega (arith, g, p)))
  where
    go : (t : Bool) → ltb at (length s) ≡ t → (p : Parsed) → event_at s at ≡ p → ((n : ℕ) → (at < n) × (at < length s) → events_in k s n ≡ events_in l s n)
        → cond t (and_then at p (λ n. events_in k s n)) (events []) ≡ cond t (and_then at p (λ n. events_in l s n)) (events [])
    go false q p e more = refl
    go true q (broken a) e more = refl
    go true q (event a x b c n) e more = ap (before x) (more n (event-past s at a x b c n e, ltb-true at (length s) q))

pub reads_on : ReadsOn
unfolding events_from
reads_on s at = go (ltb at (length s)) refl
  where
    go : (t : Bool) → ltb at (length s) ≡ t → events_from s at ≡ cond t (and_then at (event_at s at) (λ n. events_from s n)) (events [])
    go false q = no-events (length s - at) s at (ltb-false at (length s) q)
    go true q =
        let h = ltb-true at (length s) q in
        let e : length s - at ≡ suc (length s - at - 1) = omega (arith, h) in
        ap (λ (k : ℕ). events_in k s at) e ∙ one-event (length s - at - 1) s at h ∙ after (event_at s at) refl
      where
        after : (p : Parsed) → event_at s at ≡ p → and_then at p (λ n. events_in (length s - at - 1) s n) ≡ and_then at p (λ n. events_from s n)
        after (broken a) e = refl
        after (event a x b c n) e =
            let h = ltb-true at (length s) q in
            ap (before x) (same-events (length s - at - 1) (length s - n) s n (omega (arith, h, event-past s at a x b c n e)) (omega arith))
