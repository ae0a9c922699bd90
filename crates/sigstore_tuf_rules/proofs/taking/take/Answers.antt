use Rattle.sigstore_tuf_rules.proofs.TakenIn.{timestamp_takes}
use Rattle.sigstore_tuf_rules.proofs.taking.take.Goals as goal

pub returns-in-Timestamp : goal.returns-in-Timestamp
returns-in-Timestamp g c = timestamp_takes _ c.args.kind _ _ _ _ _ _ c.in-Timestamp.is c.update-updated.ensures c.unless_equal.ensures
