-- What each update of the documents in force answers: the documents after it, or the first check that fails (TUF specification,
-- section 5).
use Rattle.std.specs.Prelude.{◌≡◌, ◌≢◌, ℕ, ◌+◌, List, [], ◌∷◌, ◌++◌, ◌==◌, nat_lt, if◌then◌else◌}
use Rattle.std.specs.Prelude.{Option, Some, None, ok_or, Result, Ok, Err, codes, ⊤}
use Rattle.std.specs.BTreeMap.{insert_entry}
use Rattle.jiff_core.specs.declared.timestamp.Timestamp as jiff
use Rattle.foundation.specs.Steps.{◌>>=◌}
use Rattle.sigstore_types_parts.specs.Entries.{at_name, text_cmp}
use Rattle.sigstore_keys.specs.Crypto.{Crypto}
use Rattle.sigstore_tuf_text.specs.declared.error.Error.{Error}
use Rattle.sigstore_tuf_text.specs.declared.error.Error.TheVariants.{Malformed, Rollback, EqualVersion, BadRootVersion, IntegrityMismatch, NoMemory}
use Rattle.sigstore_tuf_text.specs.declared.error.Mismatch.TheVariants.{Vanished}
use Rattle.sigstore_tuf_text.specs.declared.error.Rule.TheVariants as rule
use Rattle.sigstore_tuf_parts.specs.declared.root.Root.{Root}
use Rattle.sigstore_tuf_parts.specs.declared.timestamp.MetaFile.{MetaFile}
use Rattle.sigstore_tuf_parts.specs.declared.timestamp.Timestamp.{Timestamp}
use Rattle.sigstore_tuf_parts.specs.declared.snapshot.Snapshot.{Snapshot}
use Rattle.sigstore_tuf_parts.specs.declared.targets.Targets.{Targets}
use Rattle.sigstore_tuf_parts.specs.Document.{Document, content_in}
use Rattle.sigstore_tuf_parts.specs.Integrity.{integrity_of, version_of, fresh_of}
use Rattle.sigstore_tuf_rules.specs.declared.documents.Held.{Held}
use Rattle.sigstore_tuf_rules.specs.declared.documents.InForce.{InForce}
use Rattle.sigstore_tuf_parts.specs.RootRoles.{root_document, meets_role_of}
use Rattle.sigstore_tuf_rules.specs.Documents.{timestamp_document, snapshot_document, targets_document, content_of, snapshot_pin, targets_pin}

-- ---- the documents in force after an update

-- The other documents are dropped: they were signed as the old root asks, and whoever held a key that the new one takes back may
-- have raised a number so high that no honest document would ever pass it (5.3.11, 'fast-forward attack').
abbrev pub with_root : InForce → List ℕ → Document Root → InForce
with_root set bytes new = record { roots = set.roots ++ bytes ∷ []; root = new; timestamp = None; snapshot = None; targets = [] }

abbrev pub with_timestamp : InForce → Held Timestamp → InForce
with_timestamp set new = record set { timestamp = Some new }

-- The targets documents are dropped: each was compared with a pin of the old snapshot, and may be another one under the new.
abbrev pub with_snapshot : InForce → Held Snapshot → InForce
with_snapshot set new = record set { snapshot = Some new; targets = [] }

abbrev pub with_targets : InForce → Held Targets → InForce
with_targets set new = record set { targets = insert_entry text_cmp set.targets (codes "targets") new }

-- ---- the root (section 5.2 and 5.3)

-- The given root is trusted because its user says so. That it meets its own role says that it is whole: a root that its own keys
-- don't sign can't be followed by a next one, and a cut or mixed file is found at once.

unfoldable pub first_root_of : Crypto → List ℕ → Result InForce Error
first_root_of crypto bytes = do
  root ← root_document bytes
  _ ← meets_role_of crypto (content_in root) (codes "root") root
  Ok (record { roots = bytes ∷ []; root = root; timestamp = None; snapshot = None; targets = [] })

-- Its number is the next one (5.3.5): a lower one would bring back keys that were taken back, a higher one would skip the root
-- that takes them back.
abbrev pub next_number_of : ℕ → ℕ → Result ⊤ Error
next_number_of trusted new = if new == trusted + 1 then Ok tt else Err (BadRootVersion trusted new)

-- A next root meets the role of the root before it (5.3.4: else anyone hands on), and its own (else it hands on to nobody who
-- can sign, and a mistake in a ceremony locks every client out).
unfoldable pub root_checks_of : Crypto → Document Root → Document Root → Result ⊤ Error
root_checks_of crypto old new = do
  _ ← next_number_of (content_in old).version (content_in new).version
  _ ← meets_role_of crypto (content_in old) (codes "root") new
  meets_role_of crypto (content_in new) (codes "root") new

unfoldable pub update_root_of : Crypto → InForce → List ℕ → Result InForce Error
update_root_of crypto set bytes = do
  new ← root_document bytes
  _ ← root_checks_of crypto set.root new
  Ok (with_root set bytes new)

-- ---- expiry

-- The document isn't expired at this moment. A document that is kept from an earlier run is judged without a moment: expired or
-- not, it is a floor below which nothing is adopted, and it serves only once it was compared with the clock.
abbrev pub fresh_at_of : List ℕ → jiff.Timestamp → Option jiff.Timestamp → Result ⊤ Error
fresh_at_of role expires None = Ok tt
fresh_at_of role expires (Some now) = fresh_of role expires now

-- ---- the timestamp (section 5.4)

-- The new number isn't below the trusted one (5.4 and 5.5, 'check for a rollback attack'): else a repository, or who stands before
-- it, serves an old state, signed and not yet expired, in which a known hole is still there.
abbrev pub not_below_of : List ℕ → ℕ → ℕ → Result ⊤ Error
not_below_of role trusted new = if nat_lt new trusted then Err (Rollback role trusted new) else Ok tt

-- The new number is another one (5.4): an equal one says nothing new, and the trusted document stays.
abbrev pub other_of : List ℕ → ℕ → ℕ → Result ⊤ Error
other_of role trusted new = if new == trusted then Err (EqualVersion role new) else Ok tt

-- Where both pin the snapshot, its number isn't lower either (5.4): else a new timestamp brings an old snapshot back.
abbrev pub pins_not_below_of : Option MetaFile → Option MetaFile → Result ⊤ Error
pins_not_below_of None new = Ok tt
pins_not_below_of (Some old) None = Ok tt
pins_not_below_of (Some old) (Some new) = not_below_of (codes "snapshot") old.version new.version

unfoldable pub newer_than_of : Timestamp → Timestamp → Result ⊤ Error
newer_than_of old new = do
  _ ← not_below_of (codes "timestamp") old.version new.version
  _ ← other_of (codes "timestamp") old.version new.version
  pins_not_below_of (snapshot_pin old) (snapshot_pin new)

abbrev pub newer_of : Option (Held Timestamp) → Timestamp → Result ⊤ Error
newer_of None new = Ok tt
newer_of (Some old) new = newer_than_of (content_of old) new

-- The checks of a timestamp that was read: its role's signatures ('arbitrary software attack': without them anyone's document is
-- taken), rollback, and its expiry ('freeze attack': without it a repository can stand still and hide every later release).
unfoldable pub timestamp_checks_of : Crypto → InForce → Document Timestamp → Option jiff.Timestamp → Result ⊤ Error
timestamp_checks_of crypto set new now = do
  _ ← meets_role_of crypto (content_in set.root) (codes "timestamp") new
  _ ← newer_of set.timestamp (content_in new)
  fresh_at_of (codes "timestamp") (content_in new).expires now

unfoldable pub update_timestamp_of : Crypto → InForce → List ℕ → Option jiff.Timestamp → Result InForce Error
update_timestamp_of crypto set bytes now = do
  new ← timestamp_document bytes
  _ ← timestamp_checks_of crypto set new now
  Ok (with_timestamp set (record { bytes = bytes; document = new }))

-- ---- the snapshot (section 5.5)

-- the pin of the snapshot in the timestamp in force, which isn't expired
unfoldable pub snapshot_pin_of : InForce → Option jiff.Timestamp → Result MetaFile Error
snapshot_pin_of set now = do
  timestamp ← ok_or set.timestamp (Malformed rule.NoTimestamp)
  _ ← fresh_at_of (codes "timestamp") (content_of timestamp).expires now
  ok_or (snapshot_pin (content_of timestamp)) (Malformed rule.Unpinned)

-- Each trusted pin, in ascending order of names, is still there and not lower (5.5, 'check for a rollback attack'): a pin that
-- vanishes would take a role's document out of the search, and with it what the role says of a path.
abbrev pub kept_pin_of : List ℕ → MetaFile → Option MetaFile → Result ⊤ Error
kept_pin_of name old None = Err (IntegrityMismatch Vanished)
kept_pin_of name old (Some new) = not_below_of name old.version new.version

abbrev pub kept_pins_in : List (List ℕ × MetaFile) → Snapshot → Result ⊤ Error
kept_pins_in [] new = Ok tt
kept_pins_in (e ∷ es) new = kept_pin_of e.0 e.1 (at_name e.0 new.meta) >>= λ _. kept_pins_in es new

abbrev pub kept_pins_of : Option (Held Snapshot) → Snapshot → Result ⊤ Error
kept_pins_of None new = Ok tt
kept_pins_of (Some old) new = kept_pins_in (content_of old).meta new

-- The checks of a snapshot that was read, for its pin: the role's signatures, the pinned version ('mix-and-match attack': else a
-- snapshot of another moment is put beside this timestamp), rollback, freeze. The signatures come before the version, as the
-- standard has it for a snapshot; its length and digests were held against the pin before it was parsed.
unfoldable pub snapshot_checks_of : Crypto → InForce → MetaFile → Document Snapshot → Option jiff.Timestamp → Result ⊤ Error
snapshot_checks_of crypto set pin new now = do
  _ ← meets_role_of crypto (content_in set.root) (codes "snapshot") new
  _ ← version_of pin (content_in new).version
  _ ← kept_pins_of set.snapshot (content_in new)
  fresh_at_of (codes "snapshot") (content_in new).expires now

unfoldable pub update_snapshot_of : Crypto → InForce → List ℕ → Option jiff.Timestamp → Result InForce Error
update_snapshot_of crypto set bytes now = do
  pin ← snapshot_pin_of set now
  _ ← integrity_of pin.length pin.hashes bytes
  new ← snapshot_document bytes
  _ ← snapshot_checks_of crypto set pin new now
  Ok (with_snapshot set (record { bytes = bytes; document = new }))

-- ---- the top-level targets document (section 5.6)

-- its pin in the snapshot in force, which isn't expired
unfoldable pub targets_pin_of : InForce → Option jiff.Timestamp → Result MetaFile Error
targets_pin_of set now = do
  snapshot ← ok_or set.snapshot (Malformed rule.NoSnapshot)
  _ ← fresh_at_of (codes "snapshot") (content_of snapshot).expires now
  ok_or (targets_pin (content_of snapshot)) (Malformed rule.Unpinned)

-- The checks of a targets document that was read, for its pin: the pinned version ('mix-and-match attack'), the role's signatures,
-- freeze. The version comes first here: what the snapshot pins is one version, and another one is refused whoever signed it.
unfoldable pub targets_checks_of : Crypto → InForce → MetaFile → Document Targets → Option jiff.Timestamp → Result ⊤ Error
targets_checks_of crypto set pin new now = do
  _ ← version_of pin (content_in new).version
  _ ← meets_role_of crypto (content_in set.root) (codes "targets") new
  fresh_at_of (codes "targets") (content_in new).expires now

unfoldable pub update_targets_of : Crypto → InForce → List ℕ → Option jiff.Timestamp → Result InForce Error
update_targets_of crypto set bytes now = do
  pin ← targets_pin_of set now
  _ ← integrity_of pin.length pin.hashes bytes
  new ← targets_document bytes
  _ ← targets_checks_of crypto set pin new now
  Ok (with_targets set (record { bytes = bytes; document = new }))

-- ---- what an update promises

-- The answer is the definition's, want of memory aside; a refused update changes nothing.
abbrev pub Updates : Result InForce Error → InForce → InForce → Result ⊤ Error → Type 0
Updates judged old new (Ok x) = judged ≡ Ok new
Updates judged old new (Err e) = (new ≡ old) × (e ≢ NoMemory → judged ≡ Err e)
