use mathlib.Core.Path.{ap}
use borrow.Author.Rules.{rules}
use Rattle.std.specs.Prelude.{Err}
use Rattle.script.specs.declared.ScriptError.TheVariants.{Bad}
use Rattle.run.proofs.Whole.{headless, ran_first}
use Rattle.run.proofs.run_first.Goals as goal

pub returns-in_default : goal.returns-in_default
returns-in_default c =
    headless _ _ _ _ _ _ c.in_ok-all.ensures c.fewer-count.ensures _ _ _ _ (Err (Bad 0)) c.header.ensures.header c.in_default.is (ap (λ b. b.now) c.new-reader.ensures.0) c.new-reader.ensures.1

pub returns : goal.returns
returns c =
    let h = c.in-Some.ensures in
    let r = c.new-reader.ensures in
    ran_first _ _ _ _ _ _ c.in_ok-all.ensures c.fewer-count.ensures _ _ _ _ _ _ _ _ (search rules) (search rules) h.header (ap (λ b. b.now) h.script) (ap (λ b. b.now) r.0) r.1 c.run_events-drive.ensures
