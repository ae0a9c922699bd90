use Rattle.sigstore_tuf_parts.specs.Root.{root_of}
use Rattle.sigstore_tuf_parts.proofs.root.RootFromValueError.from_value.Goals as goal

pub returns-in-Err-clause-err : goal.returns-in-Err-clause-err
unfolding root_of
returns-in-Err-clause-err c = λ other. rw (c.in_ok-type_.ensures.ok, c.in_ok-consistent_snapshot.ensures.ok, c.in_ok-keys.ensures.ok, c.in-Err.ensures.err other)

pub returns-in-Ok-others-clause-ok : goal.returns-in-Ok-others-clause-ok
unfolding root_of
returns-in-Ok-others-clause-ok c = rw (c.in_ok-type_.ensures.ok, c.in_ok-consistent_snapshot.ensures.ok, c.in_ok-keys.ensures.ok, c.in-Ok.ensures.ok, c.in-Ok-others.ensures)
