use Rattle.std.proofs.lemmas.Result.{err_from_is_err_and}
use Rattle.sigstore_tuf_parts.specs.Threshold.{meets_of}
use Rattle.sigstore_tuf_parts.proofs.document.Metadata.verify_threshold.Goals as goal

pub returns-in_err-check_enough-clause-err : goal.returns-in_err-check_enough-clause-err
unfolding meets_of
returns-in_err-check_enough-clause-err g c =
    let p = err_from_is_err_and c.from_residual-in_err-check_enough.result c.from_residual-in_err-check_enough.ensures.1 in
    rw (p.1, p.2, ← c.signatures-signatures.ensures, ← c.signed_canonical.ensures, ← c.new-text.ensures, ← c.in_ok-check_threshold.ensures, ← c.in_ok-counting.ensures, ← c.as_slice-counting.ensures.value, c.in_ok-check_once.ensures.ok, ← c.in_ok-found.ensures) c.in_err-check_enough.ensures.err

pub returns-clause-ok : goal.returns-clause-ok
unfolding meets_of
returns-clause-ok g c =
    rw (← c.signatures-signatures.ensures, ← c.signed_canonical.ensures, ← c.new-text.ensures, ← c.in_ok-check_threshold.ensures, ← c.in_ok-counting.ensures, ← c.as_slice-counting.ensures.value, c.in_ok-check_once.ensures.ok, ← c.in_ok-found.ensures, c.in_ok-check_enough.ensures.ok)
