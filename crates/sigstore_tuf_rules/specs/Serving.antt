-- What the client asks of the documents in force (TUF specification, section 5).
use Rattle.std.specs.Prelude.{ℕ, ◌==◌, ◌&&◌, not, Bool, false, Option, Some, None, ok_or}
use Rattle.std.specs.Prelude.{Result, Ok, codes, ⊤}
use Rattle.jiff_core.specs.declared.timestamp.Timestamp as jiff
use Rattle.foundation.specs.Steps.{◌>>=◌}
use Rattle.sigstore_tuf_text.specs.declared.error.Error.{Error}
use Rattle.sigstore_tuf_text.specs.declared.error.Error.TheVariants.{Malformed}
use Rattle.sigstore_tuf_text.specs.declared.error.Rule.TheVariants as rule
use Rattle.sigstore_tuf_parts.specs.declared.timestamp.MetaFile.{MetaFile}
use Rattle.sigstore_tuf_parts.specs.declared.targets.Targets as declared
use Rattle.sigstore_tuf_parts.specs.declared.timestamp.Timestamp as declared_timestamp
use Rattle.sigstore_tuf_parts.specs.declared.snapshot.Snapshot as declared_snapshot
use Rattle.sigstore_tuf_parts.specs.Document.{content_in}
use Rattle.sigstore_tuf_parts.specs.Integrity.{is_past, fresh_of}
use Rattle.sigstore_tuf_rules.specs.declared.documents.Held.{Held}
use Rattle.sigstore_tuf_rules.specs.declared.documents.InForce.{InForce}
use Rattle.sigstore_tuf_rules.specs.declared.kind.Kind.{Kind}
use Rattle.sigstore_tuf_rules.specs.declared.kind.Kind.TheVariants.{Root, Timestamp, Snapshot, Targets}
use Rattle.sigstore_tuf_rules.specs.Documents.{content_of, snapshot_pin, targets_pin}
use Rattle.sigstore_tuf_rules.specs.Update.{targets_pin_of}
use Rattle.sigstore_tuf_rules.specs.Taking.{top_targets}

-- ---- the root

abbrev pub version_in : InForce → ℕ
version_in set = (content_in set.root).version

-- It isn't expired (5.3.10, 'check for a freeze attack'; only the last root has to be fresh, since each before it only leads to
-- the next).
abbrev pub root_serves_of : InForce → jiff.Timestamp → Result ⊤ Error
root_serves_of set now = fresh_of (codes "root") (content_in set.root).expires now

-- ---- the timestamp

-- It pins the snapshot, and isn't expired: also the one that was kept, since its day may have passed since it was adopted.
unfoldable pub timestamp_serves_of : InForce → jiff.Timestamp → Result ⊤ Error
timestamp_serves_of set now = do
  timestamp ← ok_or set.timestamp (Malformed rule.NoTimestamp)
  _ ← ok_or (snapshot_pin (content_of timestamp)) (Malformed rule.Unpinned)
  fresh_of (codes "timestamp") (content_of timestamp).expires now

-- ---- a document that serves isn't fetched again

abbrev pub has_version : Option MetaFile → ℕ → Bool
has_version None version = false
has_version (Some pin) version = pin.version == version

-- The version of the pin, and not expired: a document that serves isn't fetched again, and one that doesn't is never used.
abbrev pub serves : Option MetaFile → ℕ → jiff.Timestamp → jiff.Timestamp → Bool
serves pin version expires now = has_version pin version && not (is_past expires now)

abbrev pub snapshot_kept_in : Option (Held declared_timestamp.Timestamp) → Option (Held declared_snapshot.Snapshot) → jiff.Timestamp → Bool
snapshot_kept_in None snapshot now = false
snapshot_kept_in (Some timestamp) None now = false
snapshot_kept_in (Some timestamp) (Some snapshot) now =
    serves (snapshot_pin (content_of timestamp)) (content_of snapshot).version (content_of snapshot).expires now

abbrev pub targets_kept_in : Option (Held declared_snapshot.Snapshot) → Option (Held declared.Targets) → jiff.Timestamp → Bool
targets_kept_in None targets now = false
targets_kept_in (Some snapshot) None now = false
targets_kept_in (Some snapshot) (Some targets) now =
    serves (targets_pin (content_of snapshot)) (content_of targets).version (content_of targets).expires now

-- a timestamp is always fetched: it alone says what is new
abbrev pub is_current : Kind → InForce → jiff.Timestamp → Bool
is_current (Root number) set now = false
is_current Timestamp set now = false
is_current Snapshot set now = snapshot_kept_in set.timestamp set.snapshot now
is_current Targets set now = targets_kept_in set.snapshot (top_targets set) now

-- ---- the snapshot, and the top-level targets document

-- the snapshot isn't expired, and pins the targets document
unfoldable pub snapshot_serves_of : InForce → jiff.Timestamp → Result ⊤ Error
snapshot_serves_of set now = do
  _ ← targets_pin_of set (Some now)
  Ok tt
