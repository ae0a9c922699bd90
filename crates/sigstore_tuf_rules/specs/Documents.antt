-- The kinds of document below the root (TUF specification, sections 4.4 to 4.6).
use Rattle.std.specs.Prelude.{ℕ, List, Result, codes, Option}
use Rattle.sigstore_types_parts.specs.Entries.{at_name}
use Rattle.sigstore_tuf_text.specs.declared.error.Error.{Error}
use Rattle.sigstore_tuf_parts.specs.declared.timestamp.MetaFile.{MetaFile}
use Rattle.sigstore_tuf_parts.specs.declared.timestamp.Timestamp.{Timestamp}
use Rattle.sigstore_tuf_parts.specs.declared.snapshot.Snapshot.{Snapshot}
use Rattle.sigstore_tuf_parts.specs.declared.targets.Targets.{Targets}
use Rattle.sigstore_tuf_parts.specs.Document.{Document, content_in, document_of}
use Rattle.sigstore_tuf_parts.specs.Timestamp.{timestamp_of}
use Rattle.sigstore_tuf_parts.specs.Snapshot.{snapshot_of}
use Rattle.sigstore_tuf_parts.specs.Targets.{targets_of}
use Rattle.sigstore_tuf_text.specs.Names.{snapshot_name, targets_name}
use Rattle.sigstore_tuf_rules.specs.declared.documents.Held.{Held}

abbrev pub timestamp_document : List ℕ → Result (Document Timestamp) Error
timestamp_document bytes = document_of (codes "timestamp") timestamp_of bytes

abbrev pub snapshot_document : List ℕ → Result (Document Snapshot) Error
snapshot_document bytes = document_of (codes "snapshot") snapshot_of bytes

abbrev pub targets_document : List ℕ → Result (Document Targets) Error
targets_document bytes = document_of (codes "targets") targets_of bytes

-- the content of a document that was adopted
abbrev pub content_of : {T : Type 0} → Held T → T
content_of held = content_in held.document

-- what a timestamp pins the snapshot by
abbrev pub snapshot_pin : Timestamp → Option MetaFile
snapshot_pin t = at_name snapshot_name t.meta

-- what a snapshot pins the top-level targets document by
abbrev pub targets_pin : Snapshot → Option MetaFile
targets_pin s = at_name targets_name s.meta
