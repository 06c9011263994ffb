-- Laws of bytes written from an output's start, one after the other.
use mathlib.Core.Path.{◌≡◌, refl, sym, ap, ◌∙◌}
use Prim.Native.Nat.{ℕ, zero, suc, ◌+◌, ◌-◌, ◌≤◌, ◌<◌}
use native.Mathlib.Numerals.{add-one}
use native.Mathlib.Omega.{arith}
use mathlib.Core.Bool.{Bool, true, false}
use mathlib.Core.List.{List, [], ◌∷◌, ◌++◌, append_assoc, append-nil}
use lib.Dec.{ltb}
use lib.ListN.{length, get_or, take, drop, set, length-append, length-drop, drop_of_length-le}
use lib.Seq.{length-take-le, take_all, take_at, drop_at, drop-drop, drop-cons, set_split}
use borrow.Author.Tests.{ltb-true, ltb-false}
use borrow.Rule.Slice.PartMut.{put_mid}
use Rattle.base.specs.Spliced.{over}
use Rattle.report.specs.Lines.{decimal, fields, line, lines}
use Rattle.report.specs.Parts.{Puts, Room}
use Rattle.report.proofs.Decimal.{decimal_text, decimal-one}

over-long : (x d : List ℕ) → length x ≤ length d → length (over x d) ≡ length d
over-long x d h = omega (arith, length-append x (drop (length x) d), length-drop (length x) d, h)

pub puts-as : {x y d last : List ℕ} {n : ℕ} → x ≡ y → Puts x d n last → Puts y d n last
puts-as e p = rw (← e) p

-- one byte
pub puts_one : (d : List ℕ) (b : ℕ) → 0 < length d → Puts (b ∷ []) d 1 (set d 0 b)
puts_one [] b h = absurd (omega (arith, h))
puts_one (x ∷ d) b h = record { output = refl; count-is = refl }

-- what is left of an output from a place on, as the code lends it
abbrev pub rest_of : ℕ → List ℕ → List ℕ
rest_of at out = take (length out - at) (drop at out)

rest-is : (at : ℕ) (out : List ℕ) → rest_of at out ≡ drop at out
rest-is at out = take_all (length out - at) (drop at out) (omega (arith, length-drop at out))

-- what is written first has room where both parts have it
pub first_room : (x y d : List ℕ) → Room (x ++ y) d → Room x d
first_room x y d room = omega (arith, room, length-append x y)

-- what is written after other bytes
module _ (x y d out : List ℕ) (at : ℕ) (room : Room (x ++ y) d) (p : Puts x d at out) where
  shorter : length x ≤ length d
  shorter = omega (arith, room, length-append x y)

  pub out-long : length out ≡ length d
  out-long = ap length p.output ∙ over-long x d shorter

  pub next_bound : at ≤ length out
  next_bound = omega (arith, p.count-is, out-long, shorter)

  pub next_room : Room y (rest_of at out)
  next_room = rw (rest-is at out) (omega (arith, length-drop at out, out-long, p.count-is, room, length-append x y))

  pub next_put : (k : ℕ) (sub : List ℕ) → Puts y (rest_of at out) k sub → Puts (x ++ y) d (at + k) (put_mid at (length out - at) out sub)
  next_put k sub q =
      let t : take at out ≡ x = ap (take at) p.output ∙ take_at x (drop (length x) d) at (sym p.count-is) in
      let r : drop at out ≡ drop (length x) d = ap (drop at) p.output ∙ drop_at x (drop (length x) d) at (sym p.count-is) in
      let z : drop (length out - at) (drop at out) ≡ [] = drop_of_length-le (drop at out) {i = length out - at} (omega (arith, length-drop at out)) in
      record {
        output = rw (z, t, q.output, rest-is at out, r, append-nil (over y (drop (length x) d)), drop-drop (length y) (length x) d, ← length-append x y) (sym (append_assoc x y (drop (length (x ++ y)) d)));
        count-is = omega (arith, p.count-is, q.count-is, length-append x y);
      }

-- a number, as the library prints it
pub ruleset number_put = (decimal_text, length-take-le)

-- a number of one digit
pub digit_room : (n : ℕ) (d : List ℕ) → n < 10 → Room (decimal n) d → 0 < length d
digit_room n d h room = omega (arith, room, ap length (decimal-one n h))

pub digit_put : (n : ℕ) (d : List ℕ) → n < 10 → Room (decimal n) d → Puts (decimal n) d 1 (set d 0 (48 + n))
digit_put n d h room = puts-as (sym (decimal-one n h)) (puts_one d (48 + n) (digit_room n d h room))

-- ---- a line: the numbers up to i have been put

pub record Lining (d numbers : List ℕ) (letter : ℕ) (out : List ℕ) (at i : ℕ) : Type 0 where
  pub w : List ℕ
  pub puts : Puts w d at out
  pub left : w ++ fields (drop i numbers) ≡ line letter numbers

pub letter_room : (d numbers : List ℕ) (letter : ℕ) → Room (line letter numbers) d → 0 < length d
unfolding line
letter_room d numbers letter h = omega (arith, h)

pub line_begin : (d numbers : List ℕ) (letter : ℕ) → 0 < length d → Lining d numbers letter (set d 0 letter) 1 0
unfolding line
line_begin d numbers letter h = record { w = letter ∷ []; puts = puts_one d letter h; left = refl }

module _ (d numbers : List ℕ) (letter : ℕ) (out : List ℕ) (at i : ℕ) (s : Lining d numbers letter out at i) (room : Room (line letter numbers) d) where
  field : ℕ → List ℕ
  field j = 32 ∷ decimal (get_or numbers j 0)

  first : i < length numbers → fields (drop i numbers) ≡ field i ++ fields (drop (i + 1) numbers)
  unfolding fields field
  first h = rw (drop-cons numbers i 0, add-one)

  none : length numbers ≤ i → fields (drop i numbers) ≡ 10 ∷ []
  unfolding fields
  none h = rw (drop_of_length-le numbers {i = i} h)

  field-fits : i < length numbers → Room (s.w ++ field i) d
  field-fits h =
      omega (arith, room, ap length s.left, length-append s.w (fields (drop i numbers)), ap length (first h), length-append (field i) (fields (drop (i + 1) numbers)), length-append s.w (field i))

  feed-fits : length numbers ≤ i → Room (s.w ++ (10 ∷ [])) d
  feed-fits h = omega (arith, room, ap length (ap (λ (l : List ℕ). s.w ++ l) (sym (none h)) ∙ s.left))

  pub field_bound : i < length numbers → at ≤ length out
  field_bound h = next_bound s.w (field i) d out at (field-fits h) s.puts

  pub field_room : i < length numbers → Room (32 ∷ decimal (get_or numbers i 0)) (rest_of at out)
  unfolding field
  field_room h = next_room s.w (field i) d out at (field-fits h) s.puts

  pub line_again : (k : ℕ) (sub : List ℕ) → i < length numbers → Puts (32 ∷ decimal (get_or numbers i 0)) (rest_of at out) k sub
      → Lining d numbers letter (put_mid at (length out - at) out sub) (at + k) (i + 1)
  unfolding field
  line_again k sub h p = record {
    w = s.w ++ field i;
    puts = next_put s.w (field i) d out at (field-fits h) s.puts k sub p;
    left = append_assoc s.w (field i) (fields (drop (i + 1) numbers)) ∙ ap (λ (l : List ℕ). s.w ++ l) (sym (first h)) ∙ s.left;
  }

  pub feed_bound : length numbers ≤ i → at < length out
  feed_bound h = let e = next_room s.w (10 ∷ []) d out at (feed-fits h) s.puts in omega (arith, e, ap length (rest-is at out), length-drop at out)

  feed-set : length numbers ≤ i → set out at 10 ≡ put_mid at (length out - at) out (over (10 ∷ []) (rest_of at out))
  feed-set h =
      let z : drop (length out - at) (drop at out) ≡ [] = drop_of_length-le (drop at out) {i = length out - at} (omega (arith, length-drop at out)) in
      rw (set_split out at 10 (feed_bound h), rest-is at out, z, append-nil (10 ∷ drop 1 (drop at out)), drop-drop 1 at out, add-one) refl

  pub line_done : length numbers ≤ i → Puts (line letter numbers) d (at + 1) (set out at 10)
  line_done h =
      puts-as (ap (λ (l : List ℕ). s.w ++ l) (sym (none h)) ∙ s.left)
      (rw (feed-set h) (next_put s.w (10 ∷ []) d out at (feed-fits h) s.puts 1 _ (record { output = refl; count-is = refl })))

-- ---- lines one after the other: those of the numbers below i have been put

grows : (f : ℕ → List ℕ) (n i : ℕ) → i ≤ n → length (lines f i) ≤ length (lines f n)
unfolding lines
grows f zero i h = let e : i ≡ 0 = omega (arith, h) in rw e (omega arith)
grows f (suc n) i h = go (ltb n i) refl (grows f n i)
  where
    go : (t : Bool) → ltb n i ≡ t → (i ≤ n → length (lines f i) ≤ length (lines f n)) → length (lines f i) ≤ length (lines f (suc n))
    go true p ih = let e : i ≡ suc n = omega (arith, h, ltb-true n i p) in rw e (omega arith)
    go false p ih = omega (arith, ih (ltb-false n i p), length-append (lines f n) (f n))

pub lines_begin : (f : ℕ → List ℕ) (d : List ℕ) → Puts (lines f 0) d 0 d
unfolding lines
lines_begin f d = record { output = refl; count-is = refl }

module _ (f : ℕ → List ℕ) (n i at : ℕ) (d out : List ℕ) (room : Room (lines f n) d) (p : Puts (lines f i) d at out) (h : i < n) where
  one-more : lines f (i + 1) ≡ lines f i ++ f i
  unfolding lines
  one-more = rw add-one

  line-fits : Room (lines f i ++ f i) d
  line-fits = let g = grows f n (i + 1) (omega (arith, h)) in omega (arith, room, g, ap length one-more)

  pub lines_bound : at ≤ length out
  lines_bound = next_bound (lines f i) (f i) d out at line-fits p

  pub lines_room : (bytes : List ℕ) → bytes ≡ f i → Room bytes (rest_of at out)
  lines_room bytes e = rw e (next_room (lines f i) (f i) d out at line-fits p)

  pub lines_again : (bytes : List ℕ) (k : ℕ) (sub : List ℕ) → bytes ≡ f i → Puts bytes (rest_of at out) k sub → Puts (lines f (i + 1)) d (at + k) (put_mid at (length out - at) out sub)
  lines_again bytes k sub e q = rw one-more (next_put (lines f i) (f i) d out at line-fits p k sub (puts-as e q))
