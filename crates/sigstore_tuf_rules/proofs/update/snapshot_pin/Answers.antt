use Rattle.std.proofs.Common.{refl}
use Rattle.sigstore_tuf_rules.specs.Update.{snapshot_pin_of}
use Rattle.sigstore_tuf_rules.proofs.update.snapshot_pin.Goals as goal

pub returns-in-Err-clause-err : goal.returns-in-Err-clause-err
unfolding snapshot_pin_of
returns-in-Err-clause-err c = λ other.
    let fresh = rw c.signed-content.ensures at (c.in-Err.ensures.err other) in
    rw (c.in-Some.is, fresh) refl
