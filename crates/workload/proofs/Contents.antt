-- What the four documents are read as.
use Rattle.std.specs.Prelude.{ℕ, List, [], ◌∷◌, pos, false, None, codes}
use Rattle.jiff_core.specs.declared.timestamp.Timestamp as jiff
use Rattle.sigstore_types_parts.specs.Instant.{at_nanosecond}
use Rattle.sigstore_keys.specs.Key.{key_with}
use Rattle.sigstore_keys.specs.declared.scheme.SigningScheme.TheVariants.{EcdsaP256Sha256}
use Rattle.sigstore_keys.specs.declared.key.VerificationKey.{VerificationKey}
use Rattle.sigstore_tuf_text.specs.Canon.{canon}
use Rattle.sigstore_tuf_parts.specs.declared.document.Signature.{Signature}
use Rattle.sigstore_tuf_parts.specs.declared.keys.Key.{Key}
use Rattle.sigstore_tuf_parts.specs.declared.keys.RoleKeys.{RoleKeys}
use Rattle.sigstore_tuf_parts.specs.declared.root.Root.{Root}
use Rattle.sigstore_tuf_parts.specs.declared.timestamp.MetaFile.{MetaFile}
use Rattle.sigstore_tuf_parts.specs.declared.timestamp.Timestamp.{Timestamp}
use Rattle.sigstore_tuf_parts.specs.declared.snapshot.Snapshot.{Snapshot}
use Rattle.sigstore_tuf_parts.specs.declared.targets.Targets.{Targets}
use Rattle.sigstore_tuf_parts.specs.Document.{Document}
use Rattle.sigstore_tuf_parts.specs.Threshold.{Keys}
use Rattle.workload.specs.Keys.{raw_key, armored_key}
use Rattle.workload.specs.Documents.{root_signed, timestamp_signed, snapshot_signed, targets_signed}
use Rattle.workload.specs.Published.{target, trust_name}

unfoldable pub soon_instant : jiff.Timestamp
soon_instant = at_nanosecond (pos 1_893_456_000_000_000_000)

unfoldable pub later_instant : jiff.Timestamp
later_instant = at_nanosecond (pos 1_924_992_000_000_000_000)

unfoldable pub verifier : VerificationKey
verifier = key_with EcdsaP256Sha256 raw_key

unfoldable pub the_key : Key
the_key = record {
  keytype = codes "ecdsa";
  scheme = codes "ecdsa-sha2-nistp256";
  keyval = record { public = armored_key; extra = [] };
  extra = [];
}

unfoldable pub the_keys : Keys
the_keys = (codes "k", the_key) ∷ []

unfoldable pub the_role : RoleKeys
the_role = record { keyids = codes "k" ∷ []; threshold = 1; extra = [] }

unfoldable pub the_signature : Signature
the_signature = record { keyid = codes "k"; sig = codes "01" }

unfoldable pub the_pin : MetaFile
the_pin = record { version = 1; length = None; hashes = None; extra = [] }

unfoldable pub root_content : Root
root_content = record {
  type_ = codes "root";
  spec_version = codes "1.0.0";
  version = 1;
  expires = later_instant;
  consistent_snapshot = false;
  keys = the_keys;
  roles = (codes "root", the_role) ∷ (codes "snapshot", the_role) ∷ (codes "targets", the_role) ∷ (codes "timestamp", the_role) ∷ [];
  extra = [];
}

unfoldable pub timestamp_content : Timestamp
timestamp_content = record {
  type_ = codes "timestamp";
  spec_version = codes "1.0.0";
  version = 1;
  expires = soon_instant;
  meta = (codes "snapshot.json", the_pin) ∷ [];
  extra = [];
}

unfoldable pub snapshot_content : Snapshot
snapshot_content = record {
  type_ = codes "snapshot";
  spec_version = codes "1.0.0";
  version = 1;
  expires = later_instant;
  meta = (codes "targets.json", the_pin) ∷ [];
  extra = [];
}

unfoldable pub targets_content : Targets
targets_content = record {
  type_ = codes "targets";
  spec_version = codes "1.0.0";
  version = 1;
  expires = later_instant;
  targets = (trust_name, target) ∷ [];
  delegations = None;
  extra = [];
}

-- a content with the one signature, over that text
abbrev pub signed_by_one : {T : Type 0} → T → List ℕ → Document T
signed_by_one content text = (content, the_signature ∷ [], text)

abbrev pub root_doc : Document Root
root_doc = signed_by_one root_content (canon root_signed)

abbrev pub timestamp_doc : Document Timestamp
timestamp_doc = signed_by_one timestamp_content (canon timestamp_signed)

abbrev pub snapshot_doc : Document Snapshot
snapshot_doc = signed_by_one snapshot_content (canon snapshot_signed)

abbrev pub targets_doc : Document Targets
targets_doc = signed_by_one targets_content (canon targets_signed)
