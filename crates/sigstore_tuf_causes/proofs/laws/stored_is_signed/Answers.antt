use Rattle.sigstore_tuf_causes.proofs.StoredLaws.{seeds_signed, recalls_pinned}
use Rattle.sigstore_tuf_causes.proofs.laws.stored_is_signed.Goals as goal

pub returns-clause-documents : goal.returns-clause-documents
returns-clause-documents c = seeds_signed

pub returns-clause-files : goal.returns-clause-files
returns-clause-files c = recalls_pinned
