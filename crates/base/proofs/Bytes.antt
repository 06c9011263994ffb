-- The first of a list of bytes, and the others, are bytes.
use Prim.Native.Nat.{ℕ, zero, suc, ◌+◌}
use native.Mathlib.Omega.{arith}
use mathlib.Core.List.{List, [], ◌∷◌}
use lib.ListN.{take, drop}
use lib.Seq.{get_or-drop}
use Rattle.base.specs.Lists.{Bytes}

pub bytes_drop : (bytes : List ℕ) (n : ℕ) → Bytes bytes → Bytes (drop n bytes)
bytes_drop bytes n k i = rw (get_or-drop n bytes i 0) (k (n + i))

pub bytes_take : (n : ℕ) (s : List ℕ) → Bytes s → Bytes (take n s)
bytes_take zero s b i = omega arith
bytes_take (suc n) [] b i = omega arith
bytes_take (suc n) (x ∷ s) b zero = b 0
bytes_take (suc n) (x ∷ s) b (suc i) = bytes_take n s (λ j. b (suc j)) i
