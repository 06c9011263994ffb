-- The part of the script that holds an expression's bytes.
use mathlib.Core.Path.{◌≡◌, refl, sym, ap, subst, ◌∙◌}
use Prim.Native.Nat.{ℕ, ◌+◌, ◌-◌, ◌≤◌}
use native.Mathlib.Omega.{arith}
use mathlib.Core.Bool.{Bool, true, false, cond}
use mathlib.Core.List.{List}
use lib.Dec.{leb}
use lib.ListN.{length, take, drop}
use borrow.Author.Tests.{le-leb}
use Rattle.base.proofs.Cases.{cond-true}
use Rattle.std.specs.Prelude.{Option, Some, None, option_map, IfSome}
use Rattle.std.specs.Borrow.{Bor}
use Rattle.base.specs.Columns.{named}
use Rattle.token_reader.specs.Read.{most_token_bytes}
use Rattle.reader.specs.Places.{part_at}
use Rattle.numbers.specs.Groups.{done, bad_script, found, number_at}
use Rattle.event_reader.specs.Parts.{part_in, part_of}
use Rattle.event_reader.proofs.Bounds.{NumberIn, number-here}
use Rattle.event_reader.specs.Fields.{tokens_at, stretch, cut, stretch_at, expression_at}

-- what a reader hands over after the number of an expression's bytes
module _ (s : List ℕ) (at mask size n next : ℕ) (named-so : named 32 mask ≡ true) (q : found 0 size n ≡ number_at s at) (k : size ≤ most_token_bytes) where
  inside : n ≤ length s
  inside = let b : NumberIn at (length s) (found 0 size n) = subst (NumberIn at (length s)) (sym q) (number-here s at) in b.1

  stretch-is : cond (leb size (length s - n)) (stretch done n size (n + size)) (cut bad_script) ≡ expression_at s at mask
  stretch-is =
      cond-true (leb size most_token_bytes) _ _ _ (le-leb size most_token_bytes k) refl
      ∙ cond-true (named 32 mask) _ _ _ named-so (ap (stretch_at s) q)

  tokens-is : leb size (length s - n) ≡ true → take size (drop n s) ≡ tokens_at s n size
  tokens-is p = cond-true (leb n (length s)) _ _ _ (le-leb n (length s) inside) (cond-true (leb size (length s - n)) _ _ _ p refl)

  pub part_is : (r : Option (Bor (List ℕ))) → option_map (λ p. p.now) r ≡ part_at s n size → IfSome r (λ p. next ≡ n + size)
      → part_in r next ≡ part_of s (expression_at s at mask)
  part_is r h m = go (leb size (length s - n)) refl r (h ∙ sym (cond-true (leb n (length s)) _ _ _ (le-leb n (length s) inside) refl)) m ∙ ap (part_of s) stretch-is
    where
      go : (t : Bool) → leb size (length s - n) ≡ t → (r : Option (Bor (List ℕ))) → option_map (λ p. p.now) r ≡ cond t (Some (take size (drop n s))) None
          → IfSome r (λ p. next ≡ n + size) → part_in r next ≡ part_of s (cond t (stretch done n size (n + size)) (cut bad_script))
      go true p (Some v) h m = let e = tokens-is p in cc
      go true p None h m = let z : ◌≡◌ {A = ℕ} 0 1 = cc in absurd (omega (arith, z))
      go false p (Some v) h m = let z : ◌≡◌ {A = ℕ} 0 1 = cc in absurd (omega (arith, z))
      go false p None h m = refl
