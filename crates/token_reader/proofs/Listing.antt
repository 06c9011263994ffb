-- The loop that reads a list: what it knows with some elements read and the rest before it, and a law for each way out of a turn.
use mathlib.Core.Path.{◌≡◌, refl, sym, ap, ◌∙◌}
use Prim.Native.Nat.{ℕ, zero, suc, ◌+◌, ◌-◌, ◌≤◌, ◌<◌}
use native.Mathlib.Omega.{arith}
use mathlib.Core.Bool.{Bool, true, false}
use mathlib.Core.List.{List, [], ◌∷◌, ◌++◌, append_assoc, append-nil}
use lib.Dec.{eqb}
use lib.ListN.{length, get_or, take, drop, set, replicate, length-append, length-drop}
use lib.Seq.{set_at, take_all}
use borrow.Author.Tests.{lt-ltb, le-ltb}
use Rattle.std.specs.Prelude.{Option, Some, None, Result, Ok, Err, nat_eq, slice_set}
use Rattle.answer.specs.declared.Refusal.{Refusal}
use Rattle.answer.specs.declared.Refusal.TheVariants.{OutOfRange, NotTokens, TooLong}
use Rattle.answer.specs.Numbers.{number_of}
use Rattle.expression.specs.declared.Part.{Part}
use Rattle.expression.specs.declared.Element.{Element}
use Rattle.expression.specs.declared.Expression.{Expression}
use Rattle.expression.specs.Elements.{element, blank}
use Rattle.token_reader.proofs.Prefix.{first_is}
use Rattle.token_reader.specs.Format.{part_in, width_of, is_end}
use Rattle.token_reader.specs.Read.{most_token_bytes, TokenOutcome, elements, refusal, followed, read_elements, read_list, read_tokens, Tells}
use Rattle.std.specs.List.{starts_with}

-- the elements es, and then what an outcome has
abbrev after : List Element → TokenOutcome → TokenOutcome
after es o = followed (elements es) o

after_none : (o : TokenOutcome) → o ≡ after [] o
after_none (elements fs) = refl
after_none (refusal n) = refl

after_one : (es : List Element) (e : Element) (o : TokenOutcome) → after es (after (e ∷ []) o) ≡ after (es ++ e ∷ []) o
after_one es e (elements fs) = rw (append_assoc es (e ∷ []) fs)
after_one es e (refusal n) = refl

-- `read_elements` by what stands first

ends : (room : ℕ) (bytes : List ℕ) → is_end bytes ≡ true → read_elements room bytes ≡ elements []
unfolding read_elements
ends zero bytes h = rw h
ends (suc room) bytes h = rw h

module _ (room : ℕ) (bytes : List ℕ) (f : is_end bytes ≡ false) where
  goes_on : (p : Part) → part_in bytes ≡ Some p → read_elements (suc room) bytes ≡ after (element p ∷ []) (read_elements room (drop (width_of p) bytes))
  unfolding read_elements
  goes_on p h = rw (f, h)

  breaks : part_in bytes ≡ None → read_elements (suc room) bytes ≡ refusal 3
  unfolding read_elements
  breaks h = rw (f, h)

module _ (bytes : List ℕ) (f : is_end bytes ≡ false) where
  another : eqb (get_or bytes 0 0) 0xF2 ≡ true → read_elements 0 bytes ≡ refusal 4
  unfolding read_elements
  another h = rw (f, h)

  no_other : eqb (get_or bytes 0 0) 0xF2 ≡ false → read_elements 0 bytes ≡ refusal 3
  unfolding read_elements
  no_other h = rw (f, h)

-- The loop: es are the elements so far, which the first cells of x hold, and the bytes read to es and then to what the rest reads to.
pub record Reading (bytes : List ℕ) (x : Expression) (rest : List ℕ) : Type 0 where
  pub es : List Element
  pub held : x.elements ≡ es ++ replicate (32 - x.count) blank
  pub counted : length es ≡ x.count
  pub most : x.count ≤ 32
  pub reads : read_elements 32 bytes ≡ after es (read_elements (32 - x.count) rest)

pub reading_begin : (bytes : List ℕ) (x : Expression) → x ≡ record { elements = replicate 32 blank; count = 0 } → Reading bytes x bytes
reading_begin bytes x e = record {
  es = [];
  held = rw e;
  counted = rw e;
  most = rw e (omega arith);
  reads = rw e (after_none (read_elements 32 bytes));
}

module _ (bytes : List ℕ) (x : Expression) (rest : List ℕ) (r : Reading bytes x rest) where
  pub reading_done : (end : Bool) → end ≡ is_end rest → end ≡ true → Tells (read_elements 32 bytes) (Ok x)
  reading_done end e h =
      let ended = ends (32 - x.count) rest (sym e ∙ h) in
      let all : read_elements 32 bytes ≡ elements r.es = r.reads ∙ rw (ended, append-nil) in
      rw (all, r.counted, ← r.held)

  module _ (end : Bool) (e : end ≡ is_end rest) (h : end ≡ false) where
    open-yet : is_end rest ≡ false
    open-yet = sym e ∙ h

    -- a refusal of the rest is one of the whole
    rest-refused : (room n : ℕ) (reason : Refusal) → 32 - x.count ≡ room → read_elements room rest ≡ refusal n → number_of reason ≡ n
        → Tells (read_elements 32 bytes) (Err reason)
    rest-refused room n reason k q z =
        let all : read_elements 32 bytes ≡ refusal n = r.reads ∙ rw (k, q) in
        rw (all, z)

    -- where there is no room left
    module _ (full : x.count ≡ 32) (marked : Bool) (m : marked ≡ starts_with nat_eq rest (0xF2 ∷ [])) where
      pub reading_long : marked ≡ true → Tells (read_elements 32 bytes) (Err TooLong)
      reading_long b = rest-refused 0 4 TooLong (omega arith) (another rest open-yet (sym (first_is rest 0xF2 (λ e. absurd (omega arith))) ∙ sym m ∙ b)) refl

      pub reading_other : marked ≡ false → Tells (read_elements 32 bytes) (Err NotTokens)
      reading_other b = rest-refused 0 3 NotTokens (omega arith) (no_other rest open-yet (sym (first_is rest 0xF2 (λ e. absurd (omega arith))) ∙ sym m ∙ b)) refl

    -- where there is
    module _ (more : x.count ≡ 32 → ⊥) where
      fewer : x.count < 32
      fewer = omega (arith, r.most, more)

      room : 32 - x.count ≡ suc (32 - (x.count + 1))
      room = omega (arith, fewer)

      module _ (head : Option Part) (q : head ≡ part_in rest) where
        pub reading_broken : head ≡ None → Tells (read_elements 32 bytes) (Err NotTokens)
        reading_broken b =
            rest-refused (suc (32 - (x.count + 1))) 3 NotTokens room (breaks (32 - (x.count + 1)) rest open-yet (sym q ∙ b)) refl

        pub reading_again : (p : Part) (width : ℕ) → head ≡ Some p → width ≡ width_of p → width ≤ length rest
            → Reading bytes (record { elements = slice_set x.elements x.count (element p); count = x.count + 1 }) (take (length rest - width) (drop width rest))
        reading_again p width b w l =
            let next = goes_on (32 - (x.count + 1)) rest open-yet p (sym q ∙ b) in
            let d : take (length rest - width) (drop width rest) ≡ drop (width_of p) rest =
            take_all (length rest - width) (drop width rest) (rw (length-drop width rest) (omega arith)) ∙ ap (λ (k : ℕ). drop k rest) w in
            record {
              es = r.es ++ element p ∷ [];
              held = rw (
                r.held,
                room,
                set_at r.es blank (replicate (32 - (x.count + 1)) blank) (element p) x.count r.counted,
                append_assoc r.es (element p ∷ []) (replicate (32 - (x.count + 1)) blank),
              );
              counted = rw (length-append, r.counted);
              most = omega (arith, fewer);
              reads = r.reads ∙ rw (room, next, after_one, d);
            }

-- what `read` tests before the elements: the length, and the first byte

pub too_many : (bytes : List ℕ) → most_token_bytes < length bytes → Tells (read_tokens bytes) (Err OutOfRange)
unfolding read_tokens
too_many bytes h = rw (lt-ltb most_token_bytes (length bytes) h) refl

pub few : (bytes : List ℕ) → length bytes ≤ most_token_bytes → read_tokens bytes ≡ read_list bytes
unfolding read_tokens
few bytes h = rw (le-ltb most_token_bytes (length bytes) h)

module _ (bytes : List ℕ) (h : length bytes ≤ most_token_bytes) (t : Bool) (e : t ≡ starts_with nat_eq bytes (0xF0 ∷ [])) where
  first : eqb (get_or bytes 0 0) 0xF0 ≡ t
  first = sym (e ∙ first_is bytes 0xF0 (λ k. absurd (omega arith)))

  pub no_start : t ≡ false → Tells (read_tokens bytes) (Err NotTokens)
  unfolding read_list
  no_start f = rw (few bytes h, first, f) refl

  pub list_tells : (r : Result Expression Refusal) → t ≡ true → Tells (read_elements 32 (take (length bytes - 1) (drop 1 bytes))) r → Tells (read_tokens bytes) r
  unfolding read_list
  list_tells r f k =
      let d : take (length bytes - 1) (drop 1 bytes) ≡ drop 1 bytes = take_all (length bytes - 1) (drop 1 bytes) (rw (length-drop 1 bytes) (omega arith)) in
      rw (few bytes h, first, f) (rw d at k)
