use Rattle.sigstore_tuf_parts.specs.Targets.{delegated_role_of}
use Rattle.sigstore_tuf_parts.proofs.targets.DelegatedRoleFromValueError.from_value.Goals as goal

pub returns-in-Err-clause-err : goal.returns-in-Err-clause-err
unfolding delegated_role_of
returns-in-Err-clause-err c = λ other. rw (c.in_ok-name.ensures.ok, c.in_ok-terminating.ensures.ok, c.in_ok-paths.ensures.ok, c.in-Err.ensures.err other)

pub returns-in-Ok-others-clause-ok : goal.returns-in-Ok-others-clause-ok
unfolding delegated_role_of
returns-in-Ok-others-clause-ok c = rw (c.in_ok-name.ensures.ok, c.in_ok-terminating.ensures.ok, c.in_ok-paths.ensures.ok, c.in-Ok.ensures.ok, c.in-Ok-others.ensures)
