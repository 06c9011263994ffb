-- The passes over a list of numbers, a number a turn: each record is what the loop knows after i turns, with the laws of its start, a turn
-- and its end.
use mathlib.Core.Path.{◌≡◌, refl, sym, ap, ◌∙◌}
use Prim.Native.Nat.{ℕ, zero, suc, ◌+◌, ◌*◌, ◌≤◌, ◌<◌}
use native.Mathlib.Nat.{add_assoc}
use native.Mathlib.Omega.{arith}
use mathlib.Core.Bool.{Bool, true, ◌&&◌}
use mathlib.Core.List.{List, [], ◌∷◌, ◌++◌, append_assoc, append-nil, map}
use lib.Dec.{leb}
use lib.ListN.{length, get_or, take, drop, set, length-append, length-set, drop_of_length-le, take-append-drop, length-map}
use mir.Syntax.{w64}
use mir.Val.{Fits}
use borrow.Author.Tests.{leb-true}
use Rattle.std.specs.List.{list_all}
use Rattle.std.specs.Array.{IsMapOf}
use denote.Param.Members.{Mut, Called}
use Rattle.std.proofs.lemmas.List.{same_lists, get_or-map}
use Rattle.base.specs.Spliced.{spliced}
use Rattle.base.proofs.Lists.{rest_from}
use Rattle.base.proofs.Spliced.{splice-twice, set-splice}
use Rattle.base.proofs.Cases.{and_left, and_right}
use Rattle.expression.specs.declared.Part.{Part}
use Rattle.expression.specs.declared.Part.TheVariants.{Reference, Operator}
use Rattle.token_reader.specs.Format.{width_of, part_bytes, body_of, bytes_of}
use Rattle.token_writer.specs.Write.{part_of, codes_fit, elements_of, needed_for}

none_left : (codes : List ℕ) (i : ℕ) → length codes ≤ i → drop i codes ≡ []
none_left codes i h = drop_of_length-le codes {i = i} h

-- whether every number fits, by the library's word
pub all_fit : (codes : List ℕ) → list_all (λ n. leb n 4294967298) codes ≡ codes_fit codes
unfolding codes_fit
all_fit [] = refl
all_fit (n ∷ codes) = ap (λ (t : Bool). leb n 4294967298 && t) (all_fit codes)

-- each number of a list that fits
pub fits_at : (codes : List ℕ) (i : ℕ) → codes_fit codes ≡ true → i < length codes → get_or codes i 0 ≤ 4294967298
unfolding codes_fit
fits_at [] i f h = absurd (omega arith)
fits_at (n ∷ codes) zero f h = leb-true n 4294967298 (and_left (leb n 4294967298) (codes_fit codes) f)
fits_at (n ∷ codes) (suc i) f h = fits_at codes i (and_right (leb n 4294967298) (codes_fit codes) f) (omega arith)

-- the numbers of an array's elements, each by a call

module _ {F A B : Type 0} (g : Mut F (A × Unit {0}) B) (f : F) (xs : List A) (ys : List B) (n : ℕ) (m : IsMapOf g f xs ys n) (l : length xs ≡ n) (a : A) (b : B) where
  pub mapped : (h : A → B) → ((p q : F) (x : A) (y : B) → Called g p (x, tt) y q → y ≡ h x) → ys ≡ map h xs
  mapped h c =
      same_lists ys (map h xs) (m.long ∙ sym l ∙ sym (length-map xs h))
      (λ k d q.
      let w = m.at k a d (omega (arith, m.long)) in
      c w.0 w.1 (get_or xs k a) (get_or ys k d) w.2 ∙ sym (get_or-map h xs k a d (omega (arith, m.long))))

  pub mapped_back : (u : B → A) → ((p q : F) (x : A) (y : B) → Called g p (x, tt) y q → u y ≡ x) → map u ys ≡ xs
  mapped_back u c =
      same_lists (map u ys) xs (length-map ys u ∙ m.long ∙ sym l)
      (λ k d q.
      let r : k < length ys = rw (length-map ys u) at q in
      let w = m.at k d b (omega (arith, m.long)) in
      get_or-map u ys k b d r ∙ c w.0 w.1 (get_or xs k d) (get_or ys k b) w.2)

-- the bytes needed

pub width-most : (p : Part) → width_of p ≤ 12
width-most (Reference row) = omega arith
width-most (Operator code) = omega arith

pub width_is : (p : Part) → length (part_bytes p) ≡ width_of p
width_is (Reference row) = refl
width_is (Operator code) = refl

pub record Sizing (codes : List ℕ) (total i : ℕ) : Type 0 where
  pub low : i ≤ length codes
  pub sizes : total + needed_for (elements_of (drop i codes)) ≡ 2 + needed_for (elements_of codes)
  pub most : total ≤ 2 + 12 * i

pub size_begin : (codes : List ℕ) → Sizing codes 2 0
size_begin codes = record { low = omega arith; sizes = refl; most = omega arith }

module _ (codes : List ℕ) (total i : ℕ) (s : Sizing codes total i) where
  pub size_again : (p : Part) (w : ℕ) → i < length codes → p ≡ part_of (get_or codes i 0) → w ≡ width_of p → Sizing codes (total + w) (i + 1)
  unfolding needed_for
  size_again p w h e q =
      let m : w ≤ 12 = omega (arith, width-most p) in
      let t : total + (width_of (part_of (get_or codes i 0)) + needed_for (elements_of (drop (i + 1) codes))) ≡ 2 + needed_for (elements_of codes) =
      rw (rest_from codes i h) at s.sizes in
      record { low = omega arith; sizes = rw (q, e) (omega arith); most = omega (arith, s.most) }

  pub size_small : (p : Part) (w : ℕ) → length codes ≤ 32 → w ≡ width_of p → Fits w64 (total + w)
  size_small p w h q = omega (arith, width-most p, s.most, s.low)

  pub size_done : length codes ≤ i → total ≡ needed_for (elements_of codes)
  unfolding needed_for
  size_done h =
      let t : total + 2 ≡ 2 + needed_for (elements_of codes) = rw (none_left codes i h) at s.sizes in
      omega arith

-- the bytes written: d is the output with the start of the list, and the first i elements have been written after it, up to the place at

pub record Writing (d codes out : List ℕ) (at i : ℕ) : Type 0 where
  pub low : i ≤ length codes
  pub room : length (bytes_of (elements_of codes)) ≤ length d
  pub w : List ℕ
  pub holds : out ≡ spliced d 1 w
  pub place : at ≡ 1 + length w
  pub left : w ++ body_of (elements_of (drop i codes)) ≡ body_of (elements_of codes)
  pub long : length out ≡ length d

pub fill_begin : (d₀ codes : List ℕ) (b : ℕ) → length (bytes_of (elements_of codes)) ≤ length d₀ → Writing (set d₀ 0 b) codes (set d₀ 0 b) 1 0
fill_begin d₀ codes b h = record {
  low = omega arith;
  room = rw length-set h;
  w = [];
  holds = rw (append-nil (take 1 (set d₀ 0 b))) (sym (take-append-drop 1 (set d₀ 0 b)));
  place = refl;
  left = refl;
  long = refl;
}

-- there is room for the start of the list
pub fill_first : (d codes : List ℕ) → length (bytes_of (elements_of codes)) ≤ length d → 0 < length d
fill_first d codes h = omega arith

module _ (d codes out : List ℕ) (at i : ℕ) (s : Writing d codes out at i) where
  -- what is left takes the rest of the room
  taken : at + length (body_of (elements_of (drop i codes))) ≡ length (bytes_of (elements_of codes))
  taken = omega (arith, s.place, simp length-append at (ap length s.left))

  pub fill_room : (p : Part) → i < length codes → p ≡ part_of (get_or codes i 0) → at + width_of p ≤ length out
  unfolding body_of
  fill_room p h e =
      let b : List ℕ = part_bytes (part_of (get_or codes i 0)) in
      let l : length (body_of (elements_of (drop i codes))) ≡ length b + length (body_of (elements_of (drop (i + 1) codes))) =
      rw (rest_from codes i h, length-append) in
      rw e (omega (arith, taken, l, width_is (part_of (get_or codes i 0)), s.room, s.long))

  pub fill_again : (p : Part) (w : ℕ) (next : List ℕ) → i < length codes → p ≡ part_of (get_or codes i 0) → w ≡ width_of p
      → next ≡ spliced out at (part_bytes p) → length next ≡ length out → Writing d codes next (at + w) (i + 1)
  unfolding body_of
  fill_again p w next h e q n k =
      let b : List ℕ = part_bytes (part_of (get_or codes i 0)) in
      let g : next ≡ spliced out at b = rw e at n in
      let c : w ≡ length b = q ∙ ap width_of e ∙ sym (width_is (part_of (get_or codes i 0))) in
      record {
        low = omega arith;
        room = s.room;
        w = s.w ++ b;
        holds = rw (g, s.holds, s.place) (splice-twice d 1 s.w b (omega (arith, taken, s.room, s.long)));
        place = rw (length-append, s.place, c, add_assoc);
        left =
            rw (append_assoc s.w b (body_of (elements_of (drop (i + 1) codes))))
            (ap (λ (r : List ℕ). s.w ++ r) (rw (rest_from codes i h)) ∙ s.left);
        long = k ∙ s.long;
      }

  -- the output's length fits a number, so a place in it does
  pub fill_small : (p : Part) (w : ℕ) → i < length codes → p ≡ part_of (get_or codes i 0) → w ≡ width_of p → Fits w64 (length d) → Fits w64 (at + w)
  fill_small p w h e q k = omega (arith, fill_room p h e, s.long)

  pub fill_last : length codes ≤ i → at < length out
  unfolding body_of
  fill_last h =
      let e : length (body_of (elements_of (drop i codes))) ≡ 1 = rw (none_left codes i h) in
      omega (arith, taken, e, s.room, s.long)

  pub fill_done : (d₀ : List ℕ) → d ≡ set d₀ 0 0xF0 → 0 < length d₀ → length codes ≤ i
      → set out at 0xF1 ≡ spliced d₀ 0 (bytes_of (elements_of codes))
  unfolding body_of
  fill_done d₀ e k h =
      let b : s.w ++ 0xF1 ∷ [] ≡ body_of (elements_of codes) = rw (none_left codes i h) at s.left in
      let p : spliced out at (0xF1 ∷ []) ≡ spliced d 1 (s.w ++ 0xF1 ∷ []) =
      rw (s.holds, s.place) (splice-twice d 1 s.w (0xF1 ∷ []) (omega (arith, taken, s.room, s.long))) in
      set-splice out at 0xF1 (fill_last h)
      ∙ p
      ∙ rw (b, e, set-splice d₀ 0 0xF0 k) (splice-twice d₀ 0 (0xF0 ∷ []) (body_of (elements_of codes)) (omega arith))
