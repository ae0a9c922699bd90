-- The signatures of the four documents, as rows of a provider file, and the moment at which the documents are fresh.
use Rattle.std.specs.Prelude.{List, [], ◌∷◌, pos}
use Rattle.sha2.specs.Sha256.{sha256}
use Rattle.serde_json.specs.Data.{Data}
use Rattle.jiff_core.specs.declared.timestamp.Timestamp.{Timestamp}
use Rattle.sigstore_types_parts.specs.Instant.{at_second}
use Rattle.sigstore_keys.specs.declared.scheme.SigningScheme.TheVariants.{EcdsaP256Sha256}
use Rattle.sigstore_tuf_text.specs.Canon.{canon}
use Rattle.command_files.specs.declared.rows.AcceptRow.{AcceptRow}
use Rattle.workload.specs.Keys.{raw_key}
use Rattle.workload.specs.Documents.{root_signed, timestamp_signed, snapshot_signed, targets_signed}

-- the signature of what is signed: of its canonical text's digest, under the one key
unfoldable pub document_row : Data → AcceptRow
document_row signed = record { scheme = EcdsaP256Sha256; key = raw_key; subject = sha256 (canon signed); signature = 1 ∷ [] }

unfoldable pub document_rows : List AcceptRow
document_rows = document_row root_signed ∷ document_row timestamp_signed ∷ document_row snapshot_signed ∷ document_row targets_signed ∷ []

-- 2025-01-01T00:00:00Z
unfoldable pub moment : Timestamp
moment = at_second (pos 1735689600)
