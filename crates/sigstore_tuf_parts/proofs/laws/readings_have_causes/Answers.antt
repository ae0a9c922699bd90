use Rattle.std.proofs.Common.{codes}
use Rattle.sigstore_tuf_parts.specs.Root.{root_of}
use Rattle.sigstore_tuf_parts.specs.Snapshot.{snapshot_of}
use Rattle.sigstore_tuf_parts.specs.Targets.{targets_of}
use Rattle.sigstore_tuf_parts.specs.Timestamp.{timestamp_of}
use Rattle.sigstore_tuf_parts.proofs.ReadingCauses.{read_cause, root_only, timestamp_only, snapshot_only, targets_only}
use Rattle.sigstore_tuf_parts.proofs.laws.readings_have_causes.Goals as goal

pub returns-clause-root : goal.returns-clause-root
returns-clause-root c = λ bytes e. read_cause (codes "root") root_of root_only bytes e

pub returns-clause-timestamp : goal.returns-clause-timestamp
returns-clause-timestamp c = λ bytes e. read_cause (codes "timestamp") timestamp_of timestamp_only bytes e

pub returns-clause-snapshot : goal.returns-clause-snapshot
returns-clause-snapshot c = λ bytes e. read_cause (codes "snapshot") snapshot_of snapshot_only bytes e

pub returns-clause-targets : goal.returns-clause-targets
returns-clause-targets c = λ bytes e. read_cause (codes "targets") targets_of targets_only bytes e
