use Rattle.std.proofs.Common.{◌∙◌, Ok, ap}
use Rattle.der_core.proofs.Moments.{one_civil}
use Rattle.der_core.proofs.time.Time.new.Goals as goal

pub returns-in-Err-clause-err : goal.returns-in-Err-clause-err
returns-in-Err-clause-err g c =
    let found = c.in-Some.ensures.found in
    let refused = c.in-Err.ensures.err in
    (refused.0, λ bytes civil read within. refused.1 bytes (read ∙ ap (λ z. Ok z) (one_civil c.args.moment.nanosecond civil c.in-Some.time (g.met.K.TimeKind.real bytes civil read) found.0 within found.1)))
