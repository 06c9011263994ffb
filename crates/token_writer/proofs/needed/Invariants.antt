use Rattle.token_writer.proofs.Passes.{Sizing}
use Rattle.token_writer.proofs.needed.Given as goal

abbrev pub invariant-loop-code : goal.invariant-loop-code
invariant-loop-code l = Sizing l.codes l.total l.code-index
