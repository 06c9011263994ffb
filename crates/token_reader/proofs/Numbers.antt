-- The numbers that reading answers: done, 3 or 4, and 2 only above 1,024 bytes.
use mathlib.Core.Path.{◌≡◌, refl}
use mathlib.Core.Logic.{◌⊎◌, inl, inr}
use mathlib.Core.List.{List, [], ◌∷◌}
use Prim.Native.Nat.{ℕ, zero, suc, ◌≤◌}
use lib.Dec.{eqb}
use lib.ListN.{length, get_or, drop}
use borrow.Author.Tests.{le-ltb}
use Rattle.base.proofs.Cases.{cond_both}
use Rattle.expression.specs.declared.Part.{Part}
use Rattle.expression.specs.declared.Element.{Element}
use Rattle.expression.specs.Elements.{element}
use Rattle.std.specs.Prelude.{Option, Some, None}
use Rattle.token_reader.specs.Format.{part_in, width_of, is_end}
use Rattle.token_reader.specs.Read.{most_token_bytes, TokenOutcome, elements, refusal, followed, and_then, read_elements, read_list, read_tokens, answer_in}

abbrev pub DoneOrBroken : ℕ → Type 0
DoneOrBroken n = (n ≡ 0) ⊎ ((n ≡ 3) ⊎ (n ≡ 4))

abbrev Numbered : TokenOutcome → Type 0
Numbered o = DoneOrBroken (answer_in o)

one_more : (e : Element) (o : TokenOutcome) → DoneOrBroken (answer_in o) → DoneOrBroken (answer_in (followed (elements (e ∷ [])) o))
one_more e (elements es) p = inl refl
one_more e (refusal n) p = p

elements-numbers : (room : ℕ) (bytes : List ℕ) → DoneOrBroken (answer_in (read_elements room bytes))
unfolding read_elements
elements-numbers zero bytes =
    cond_both Numbered (is_end bytes) (elements []) _ (inl refl) (cond_both Numbered (eqb (get_or bytes 0 0) 0xF2) (refusal 4) (refusal 3) (inr (inr refl)) (inr (inl refl)))
elements-numbers (suc room) bytes =
    cond_both Numbered (is_end bytes) (elements []) (and_then bytes (part_in bytes) (λ rest. read_elements room rest)) (inl refl)
    (go (λ rest. elements-numbers room rest) (part_in bytes))
  where
    go : ((rest : List ℕ) → DoneOrBroken (answer_in (read_elements room rest))) → (h : Option Part)
        → DoneOrBroken (answer_in (and_then bytes h (λ rest. read_elements room rest)))
    go more (Some p) = one_more (element p) (read_elements room (drop (width_of p) bytes)) (more (drop (width_of p) bytes))
    go more None = inr (inl refl)

pub read-numbers : (bytes : List ℕ) → length bytes ≤ most_token_bytes → DoneOrBroken (answer_in (read_tokens bytes))
unfolding read_tokens read_list
read-numbers bytes h =
    rw (le-ltb most_token_bytes (length bytes) h)
    (cond_both Numbered (eqb (get_or bytes 0 0) 0xF0) (read_elements 32 (drop 1 bytes)) (refusal 3) (elements-numbers 32 (drop 1 bytes)) (inr (inl refl)))
