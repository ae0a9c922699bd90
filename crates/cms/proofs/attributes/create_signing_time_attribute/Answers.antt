use Rattle.std.proofs.Common.{◌≢◌, ◌∙◌, sym, ap}
use Rattle.std.proofs.lemmas.Result.{err_from_is_err_and}
use Rattle.foundation.specs.Results.{no_both}
use Rattle.der_grammar.specs.declared.error.DerError.TheVariants as der
use Rattle.cms.specs.Error.{error_of_der}
use Rattle.cms.proofs.Timed.{time_there}
use Rattle.cms.proofs.attributes.create_signing_time_attribute.Goals as goal

pub returns-in_err-attribute-clause-err : goal.returns-in_err-attribute-clause-err
returns-in_err-attribute-clause-err c =
    let there = time_there c.signing_time.result c.args.now.nanosecond c.in_ok-time.time c.in_ok-time.ensures.ok in
    let p = err_from_is_err_and c.from_residual-in_err-attribute.result c.from_residual-in_err-attribute.ensures.1 in
    rw p.1 (λ no_want.
    let other : c.in_err-attribute.field-0.0 ≢ der.NoMemory = λ same. no_want (p.2 ∙ ap error_of_der same) in
    no_both there.0 c.in_err-attribute.field-0.0 (sym there.1 ∙ c.in_err-attribute.ensures.err other))
