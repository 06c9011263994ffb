-- Laws of an output with other elements from a place on.
use mathlib.Core.Path.{◌≡◌, sym}
use Prim.Native.Nat.{ℕ, ◌+◌, ◌≤◌, ◌<◌}
use native.Mathlib.Nat.{add_assoc, add-zero, zero-add}
use native.Mathlib.Numerals.{add-one}
use mathlib.Core.List.{List, [], ◌∷◌, ◌++◌, append_assoc, append-nil}
use lib.ListN.{length, take, drop, set, length-append, take-append-drop}
use lib.Seq.{length-take-le, take_at, drop_at, drop-drop, set_split}
use Rattle.base.specs.Spliced.{spliced, over}

module _ {A : Type 0} where
  head-length : (d : List A) (at : ℕ) (x : List A) → at ≤ length d → length (take at d ++ x) ≡ at + length x
  head-length d at x h = rw (length-append, length-take-le at d h)

  -- one after the other is both at once
  pub splice-twice : (d : List A) (at : ℕ) (x y : List A) → at ≤ length d → spliced (spliced d at x) (at + length x) y ≡ spliced d at (x ++ y)
  splice-twice d at x y h =
      let l : length (take at d ++ x) ≡ at + length x = head-length d at x h in
      let t : take (at + length x) (spliced d at x) ≡ take at d ++ x = take_at (take at d ++ x) (drop (at + length x) d) (at + length x) l in
      let r : drop (at + length x) (spliced d at x) ≡ drop (at + length x) d = drop_at (take at d ++ x) (drop (at + length x) d) (at + length x) l in
      rw (t, ← drop-drop (length y) (at + length x) (spliced d at x), r, drop-drop, append_assoc (take at d) x y, length-append x y, add_assoc)

  -- nothing, put anywhere
  pub splice-none : (d : List A) (at : ℕ) → d ≡ spliced d at []
  splice-none d at = rw (append-nil (take at d), add-zero) (sym (take-append-drop at d))

  -- one store
  pub set-splice : (d : List A) (at : ℕ) (b : A) → at < length d → set d at b ≡ spliced d at (b ∷ [])
  set-splice d at b h = rw (set_split d at b h, append_assoc (take at d) (b ∷ []) (drop (at + 1) d), add-one)

  -- from the start
  pub spliced-over : (d items after : List A) → after ≡ spliced d 0 items → after ≡ over items d
  spliced-over d items after e = rw zero-add at e
