use Rattle.std.proofs.Common.{◌∙◌, sym}
use Rattle.std.specs.Prelude.{codes}
use Rattle.sigstore_tuf_parts.specs.Root.{root_of}
use Rattle.sigstore_tuf_parts.specs.Snapshot.{snapshot_of}
use Rattle.sigstore_tuf_parts.specs.Targets.{targets_of}
use Rattle.sigstore_tuf_parts.specs.Timestamp.{timestamp_of}
use Rattle.sigstore_tuf_parts.proofs.ReadExact.{tells_contents}
use Rattle.sigstore_tuf_text.proofs.Unique.{canon_injective}
use Rattle.sigstore_tuf_parts.proofs.laws.canonical_text_tells.Goals as goal

pub returns-clause-values : goal.returns-clause-values
returns-clause-values c = canon_injective

pub returns-clause-documents : goal.returns-clause-documents
returns-clause-documents c = λ a b text first second. canon_injective first.signed second.signed first.exact second.exact (sym first.spelled ∙ second.spelled)

pub returns-clause-root : goal.returns-clause-root
returns-clause-root c = tells_contents (codes "root") root_of

pub returns-clause-timestamp : goal.returns-clause-timestamp
returns-clause-timestamp c = tells_contents (codes "timestamp") timestamp_of

pub returns-clause-snapshot : goal.returns-clause-snapshot
returns-clause-snapshot c = tells_contents (codes "snapshot") snapshot_of

pub returns-clause-targets : goal.returns-clause-targets
returns-clause-targets c = tells_contents (codes "targets") targets_of
