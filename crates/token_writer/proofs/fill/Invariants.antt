use Rattle.token_writer.proofs.Passes.{Writing}
use Rattle.token_writer.proofs.fill.Given as goal

abbrev pub invariant-loop-code : goal.invariant-loop-code
invariant-loop-code l = Writing l.initial.out l.codes l.out l.at l.code-index
