use borrow.Author.Rules.{rules}
use Rattle.std.specs.Prelude.{Ok}
use Rattle.script_reader.proofs.Whole.{bad-told, error-told, script-overlong, script-headless, script-broken, slices-short, done-told, told-again}
use Rattle.script_reader.proofs.read.Goals as goal

pub returns-then-script-gt-MOST_BYTES-clause-tokens_after : goal.returns-then-script-gt-MOST_BYTES-clause-tokens_after
returns-then-script-gt-MOST_BYTES-clause-tokens_after c = bad-told _ _ _ 0 (script-overlong _ (search rules))

pub returns-in_err-header-clause-tokens_after : goal.returns-in_err-header-clause-tokens_after
returns-in_err-header-clause-tokens_after c = error-told _ _ _ _ 0 (search rules) (script-headless _ (search rules) _ c.header.new.reader c.new-reader.ensures _ c.header.ensures.header (search rules))

pub returns-in_err-length-clause-tokens_after : goal.returns-in_err-length-clause-tokens_after
returns-in_err-length-clause-tokens_after c =
    error-told _ _ _ _ c.in_err-length.field-0.0.place (search rules) (script-broken _ (search rules) _ c.header.new.reader c.new-reader.ensures _ c.header.ensures.header c.in_ok-header.header (search rules) c.header.ensures.script _ c.measure.ensures c.in_err-length.field-0.0 (search rules))

pub returns-then-not-fits-clause-tokens_after : goal.returns-then-not-fits-clause-tokens_after
returns-then-not-fits-clause-tokens_after c = slices-short _ (search rules) _ c.header.new.reader c.new-reader.ensures _ c.header.ensures.header c.in_ok-header.header (search rules) c.header.ensures.script _ c.measure.ensures c.in_ok-length.length (search rules) _ _ _ c.fits.ensures (search rules)

pub returns-clause-tokens_after : goal.returns-clause-tokens_after
returns-clause-tokens_after c = done-told _ (search rules) _ c.header.new.reader c.new-reader.ensures _ c.header.ensures.header c.in_ok-header.header (search rules) c.header.ensures.script _ c.measure.ensures c.in_ok-length.length (search rules) _ _ _ _ _ c.flatten.ensures _ c.fits.ensures (search rules) c.in_ok-flatten.field-0 (search rules)

pub returns-clause-again : goal.returns-clause-again
returns-clause-again c =
    told-again _ (Ok (record { header = c.in_ok-header.header; fields = c.in_ok-length.length.fields; tokens = c.in_ok-length.length.tokens })) c.args.fields.now c.args.tokens.now
    c.flatten.new.fields c.flatten.new.tokens (search rules)
    (done-told _ (search rules) _ c.header.new.reader c.new-reader.ensures _ c.header.ensures.header c.in_ok-header.header (search rules) c.header.ensures.script _ c.measure.ensures c.in_ok-length.length (search rules) _ _ _ _ _ c.flatten.ensures _ c.fits.ensures (search rules) c.in_ok-flatten.field-0 (search rules))
