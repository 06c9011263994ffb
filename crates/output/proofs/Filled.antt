-- What the functions come to, and what their promises say to those who call them.
use mathlib.Core.Path.{◌≡◌, refl, sym, ap, ◌∙◌}
use Prim.Native.Nat.{ℕ, ◌+◌, ◌<◌, ◌≤◌}
use native.Mathlib.Omega.{arith}
use mathlib.Core.Bool.{Bool, true, false, cond}
use mathlib.Core.List.{List, ◌++◌}
use lib.Dec.{ltb}
use lib.ListN.{length, take, drop}
use lib.Seq.{take-append_seam}
use borrow.Author.Tests.{lt-ltb, le-ltb, le-leb}
use Rattle.base.specs.Spliced.{spliced, over}
use Rattle.base.proofs.Cases.{cond-true}
use Rattle.base.proofs.Spliced.{splice-twice}
use Rattle.output.specs.Filling.{output_after, written_after, told, told_by, fill_answer, filled_by, spliced_within}

-- items put where they fit

module _ {A : Type 0} where
  module _ (out : List A) (at : ℕ) (items : List A) where
    within : at + length items ≤ length out → spliced out at items ≡ spliced_within out at items
    within h = cond-true _ _ out _ (le-leb (at + length items) (length out) h) refl

    pub put-fits : (after : List A) → at + length items ≤ length out → after ≡ spliced_within out at items → after ≡ spliced out at items
    put-fits after h e = e ∙ sym (within h)

  -- items put one after the other, where there is room for all
  pub put-twice : (out : List A) (at : ℕ) (x y next last : List A) → at + length x + length y ≤ length out → length next ≡ length out
      → next ≡ spliced_within out at x → last ≡ spliced_within next (at + length x) y → last ≡ spliced out at (x ++ y)
  put-twice out at x y next last room k e f =
      let a : next ≡ spliced out at x = put-fits out at x next (omega arith) e in
      let b : last ≡ spliced next (at + length x) y = put-fits next (at + length x) y last (omega arith) f in
      rw (b, a) (splice-twice out at x y (omega arith))

-- an output filled, or too short

module _ (bytes out : List ℕ) where
  -- by whether it is
  by-room : (b : Bool) → ltb (length out) (length bytes) ≡ b → told_by (cond b 11 0) bytes out ≡ filled_by bytes out
  unfolding fill_answer
  by-room b e = ap (λ (c : Bool). told_by (cond c 11 0) bytes out) (sym e)

  pub filled-short : length out < length bytes → told 11 0 out ≡ filled_by bytes out
  filled-short h = by-room true (lt-ltb (length out) (length bytes) h)

  pub filled-whole : (after : List ℕ) → length bytes ≤ length out → after ≡ over bytes out → told 0 (length bytes) after ≡ filled_by bytes out
  filled-whole after h e = ap (told 0 (length bytes)) e ∙ by-room false (le-ltb (length out) (length bytes) h)

-- where the answer is 0, the bytes stand at the output's start and the rest is as it was

pub written-bytes : (answer count : ℕ) (bytes out after : List ℕ) → answer ≡ 0 → count ≡ written_after answer bytes → after ≡ output_after answer bytes out
    → (count ≡ length bytes) × (take count after ≡ bytes) × (after ≡ over bytes out)
written-bytes answer count bytes out after e p q =
    let c : count ≡ length bytes = rw e at p in
    let o : after ≡ over bytes out = rw e at q in
    (c, rw (c, o) (take-append_seam bytes (drop (length bytes) out)), o)

module _ (bytes out : List ℕ) (answer count : ℕ) (after : List ℕ) (f : told answer count after ≡ filled_by bytes out) where
  pub filled-bytes : answer ≡ 0 → (count ≡ length bytes) × (take count after ≡ bytes) × (after ≡ over bytes out)
  filled-bytes z =
      let a : answer ≡ fill_answer bytes (length out) = cc in
      let c : count ≡ written_after (fill_answer bytes (length out)) bytes = cc in
      let o : after ≡ output_after (fill_answer bytes (length out)) bytes out = cc in
      written-bytes _ _ bytes out after (sym a ∙ z) c o

  -- as it is where there is room
  pub filled-room : length bytes ≤ length out → answer ≡ 0
  filled-room h =
      let e : told answer count after ≡ told 0 (length bytes) (over bytes out) =
      f ∙ sym (filled-whole bytes out (over bytes out) h refl) in
      cc
