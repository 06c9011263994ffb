-- The level rule, a law for each of its cases.
use mathlib.Core.Path.{◌≡◌, refl}
use mathlib.Core.Bool.{Bool, true, false, cond}
use Prim.Native.Nat.{ℕ, ◌<◌, ◌≤◌}
use lib.Dec.{leb, ltb}
use borrow.Author.Tests.{le-leb, lt-leb, lt-ltb, le-ltb}
use Rattle.sensor.specs.Level.{level_rule}

module _ (on off v : ℕ) (l : Bool) where
  -- "if On ≥ Off, a reading ≥ On gives TRUE, one < Off gives FALSE", and one between them keeps the level
  module _ (h : off ≤ on) where
    pub high-true : on ≤ v → level_rule on off v l ≡ true
    unfolding level_rule
    high-true k = rw (le-leb off on h, le-leb on v k)

    pub low-false : v < off → v < on → level_rule on off v l ≡ false
    unfolding level_rule
    low-false k m = rw (le-leb off on h, lt-leb on v m, lt-ltb v off k)

    pub between-keeps : off ≤ v → v < on → level_rule on off v l ≡ l
    unfolding level_rule
    between-keeps k m = rw (le-leb off on h, lt-leb on v m, le-ltb v off k)

  -- "if On < Off, a reading ≤ On gives TRUE, one > Off gives FALSE", and one between them keeps the level
  module _ (h : on < off) where
    pub low-true : v ≤ on → level_rule on off v l ≡ true
    unfolding level_rule
    low-true k = rw (lt-leb off on h, le-leb v on k)

    pub high-false : off < v → on < v → level_rule on off v l ≡ false
    unfolding level_rule
    high-false k m = rw (lt-leb off on h, lt-leb v on m, lt-ltb off v k)

    pub inside-keeps : on < v → v ≤ off → level_rule on off v l ≡ l
    unfolding level_rule
    inside-keeps k m = rw (lt-leb off on h, lt-leb v on k, le-ltb off v m)

-- to judge once more by the same thresholds changes nothing
pub rule-again : (on off v : ℕ) (l : Bool) → level_rule on off v (level_rule on off v l) ≡ level_rule on off v l
unfolding level_rule
rule-again on off v l = go (leb off on) (leb on v) (ltb v off) (leb v on) (ltb off v)
  where
    rule : (a b c d e k : Bool) → Bool
    rule a b c d e k = cond a (cond b true (cond c false k)) (cond d true (cond e false k))

    go : (a b c d e : Bool) → rule a b c d e (rule a b c d e l) ≡ rule a b c d e l
    go true true c d e = refl
    go true false true d e = refl
    go true false false d e = refl
    go false b c true e = refl
    go false b c false true = refl
    go false b c false false = refl
