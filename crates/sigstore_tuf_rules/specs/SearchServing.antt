-- What a search asks of the top-level documents (TUF specification, section 5.6.7).
use Rattle.std.specs.Prelude.{ℕ, if◌then◌else◌, Option, Some}
use Rattle.std.specs.Prelude.{None, Result, Ok, Err, codes, ⊤}
use Rattle.jiff_core.specs.declared.timestamp.Timestamp as jiff
use Rattle.foundation.specs.Steps.{◌>>=◌}
use Rattle.sigstore_tuf_text.specs.declared.error.Error.{Error}
use Rattle.sigstore_tuf_text.specs.declared.error.Error.TheVariants.{IntegrityMismatch, NotRefreshed}
use Rattle.sigstore_tuf_text.specs.declared.error.Mismatch.TheVariants.{Version}
use Rattle.sigstore_tuf_parts.specs.declared.timestamp.MetaFile.{MetaFile}
use Rattle.sigstore_tuf_parts.specs.declared.timestamp.Timestamp.{Timestamp}
use Rattle.sigstore_tuf_parts.specs.declared.snapshot.Snapshot.{Snapshot}
use Rattle.sigstore_tuf_parts.specs.declared.targets.Targets.{Targets}
use Rattle.sigstore_tuf_parts.specs.Document.{content_in}
use Rattle.sigstore_tuf_parts.specs.Integrity.{fresh_of}
use Rattle.sigstore_tuf_rules.specs.declared.documents.Held.{Held}
use Rattle.sigstore_tuf_rules.specs.declared.documents.InForce.{InForce}
use Rattle.sigstore_tuf_rules.specs.Documents.{content_of, snapshot_pin, targets_pin}
use Rattle.sigstore_tuf_rules.specs.Taking.{top_targets}
use Rattle.sigstore_tuf_rules.specs.Serving.{has_version}

abbrev pub fresh_timestamp_of : Option (Held Timestamp) → jiff.Timestamp → Result ⊤ Error
fresh_timestamp_of None now = Ok tt
fresh_timestamp_of (Some timestamp) now = fresh_of (codes "timestamp") (content_of timestamp).expires now

abbrev pub fresh_snapshot_of : Option (Held Snapshot) → jiff.Timestamp → Result ⊤ Error
fresh_snapshot_of None now = Ok tt
fresh_snapshot_of (Some snapshot) now = fresh_of (codes "snapshot") (content_of snapshot).expires now

-- None that is there is expired (5.3 to 5.6, 'check for a freeze attack'): a client that refreshed long ago may not search.
unfoldable pub unexpired_of : InForce → jiff.Timestamp → Result ⊤ Error
unexpired_of set now = do
  _ ← fresh_of (codes "root") (content_in set.root).expires now
  _ ← fresh_timestamp_of set.timestamp now
  fresh_snapshot_of set.snapshot now

-- The pin has that version ('mix-and-match attack'): the documents of one search belong to one state of the repository.
abbrev pub pinned_version_of : Option MetaFile → ℕ → Result ⊤ Error
pinned_version_of pin version = if has_version pin version then Ok tt else Err (IntegrityMismatch Version)

-- all are there, the targets document isn't expired, and each is pinned at its version by the one before it
unfoldable pub pinned_by_of : Timestamp → Snapshot → Targets → jiff.Timestamp → Result ⊤ Error
pinned_by_of timestamp snapshot targets now = do
  _ ← fresh_of (codes "targets") targets.expires now
  _ ← pinned_version_of (snapshot_pin timestamp) snapshot.version
  pinned_version_of (targets_pin snapshot) targets.version

abbrev pub all_pinned_of : Option (Held Timestamp) → Option (Held Snapshot) → Option (Held Targets) → jiff.Timestamp → Result ⊤ Error
all_pinned_of None snapshot targets now = Err NotRefreshed
all_pinned_of (Some timestamp) None targets now = Err NotRefreshed
all_pinned_of (Some timestamp) (Some snapshot) None now = Err NotRefreshed
all_pinned_of (Some timestamp) (Some snapshot) (Some targets) now =
    pinned_by_of (content_of timestamp) (content_of snapshot) (content_of targets) now

-- the documents in force serve a search
unfoldable pub search_serves_of : InForce → jiff.Timestamp → Result ⊤ Error
search_serves_of set now = do
  _ ← unexpired_of set now
  all_pinned_of set.timestamp set.snapshot (top_targets set) now
