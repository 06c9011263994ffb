use borrow.Author.Rules.{rules}
use Rattle.expression.specs.declared.Part.TheVariants.{Reference}
use Rattle.expression.specs.Elements.{element}
use Rattle.token_writer.specs.Write.{part_of, code_of}
use Rattle.token_writer.proofs.Passes.{mapped, mapped_back}
use Rattle.token_writer.proofs.codes.Goals as goal

pub returns-clause-value : goal.returns-clause-value
returns-clause-value c =
    mapped _ _ _ _ _ c.map.ensures.items c.told-elements (element (Reference 0)) 0 (λ e. code_of e.part) (λ p q x y k. search rules)

pub returns-clause-back : goal.returns-clause-back
returns-clause-back c =
    mapped_back _ _ _ _ _ c.map.ensures.items c.told-elements (element (Reference 0)) 0 (λ n. element (part_of n)) (λ p q x y k. search rules)
