-- What holds of the documents in force whatever a repository or a store answers, and what holds besides of those that serve a
-- search (TUF specification, section 5).
use Rattle.std.specs.Prelude.{◌≡◌, ℕ, ◌+◌, List, [], ◌∷◌, length, Option, Some, Result, Ok, IfSome, codes, ⊤}
use Rattle.jiff_core.specs.declared.timestamp.Timestamp as jiff
use Rattle.sigstore_tuf_text.specs.declared.error.Error.{Error}
use Rattle.sigstore_tuf_parts.specs.declared.root.Root.{Root}
use Rattle.sigstore_tuf_parts.specs.declared.timestamp.MetaFile.{MetaFile}
use Rattle.sigstore_tuf_parts.specs.declared.timestamp.Timestamp.{Timestamp}
use Rattle.sigstore_tuf_parts.specs.declared.snapshot.Snapshot.{Snapshot}
use Rattle.sigstore_tuf_parts.specs.declared.targets.Targets.{Targets}
use Rattle.sigstore_tuf_parts.specs.Document.{Document, content_in}
use Rattle.sigstore_types_parts.specs.Entries.{at_name}
use Rattle.sigstore_types_parts.specs.declared.armor.Armor as armor
use Rattle.sigstore_keys.specs.declared.provider.CryptoProvider as provider
use Rattle.sigstore_keys.specs.Crypto.{Crypto, crypto_by}
use Rattle.sigstore_tuf_parts.specs.RootRoles.{MeetsRole}
use Rattle.sigstore_tuf_text.specs.Names.{pin_name}
use Rattle.sigstore_tuf_parts.specs.Pinned.{Pinned, Fresh}
use Rattle.sigstore_tuf_rules.specs.declared.documents.Held.{Held}
use Rattle.sigstore_tuf_rules.specs.declared.documents.InForce.{InForce}
use Rattle.sigstore_tuf_rules.specs.Documents.{timestamp_document, snapshot_document, targets_document, content_of, snapshot_pin}
use Rattle.sigstore_tuf_rules.specs.Update.{Updates}
use Rattle.sigstore_tuf_rules.specs.Taking.{top_targets}
use Rattle.sigstore_tuf_rules.specs.Serving.{version_in}
use Rattle.sigstore_tuf_rules.specs.Floor.{standing_of, KeepsFloor}
use Rattle.sigstore_tuf_rules.specs.Trusted.{AreRoots}

-- the bytes read as the document that is held, and that meets the root's role of this name
pub record IsSigned {T : Type 0} (reads : List ℕ → Result (Document T) Error) (crypto : Crypto) (root : Root)
    (role : List ℕ) (held : Held T) : Type 0 where
  pub read : reads held.bytes ≡ Ok held.document
  pub met : MeetsRole crypto root role held.document

-- the document was read, and the snapshot in force pins it under the role's name, by its bytes and its version
pub record IsPinnedBy (snapshot : Option (Held Snapshot)) (name : List ℕ) (targets : Held Targets) : Type 0 where
  pub read : targets_document targets.bytes ≡ Ok targets.document
  pub held : Held Snapshot
  pub there : snapshot ≡ Some held
  pub pin : MetaFile
  pub pin_is : at_name (pin_name name) (content_of held).meta ≡ Some pin
  pub pinned : Pinned targets.bytes (content_of targets).version pin

-- The roots go from the given one to the root in force. Each top-level document that is there is signed as that root asks, and the
-- targets document of each role is the one that the snapshot in force pins.
pub record AreAuthorised (crypto : Crypto) (given : List ℕ) (set : InForce) : Type 0 where
  pub roots : AreRoots crypto given set.roots set.root
  pub timestamp : IfSome set.timestamp (IsSigned timestamp_document crypto (content_in set.root) (codes "timestamp"))
  pub snapshot : IfSome set.snapshot (IsSigned snapshot_document crypto (content_in set.root) (codes "snapshot"))
  pub targets : IfSome (top_targets set) (λ held. MeetsRole crypto (content_in set.root) (codes "targets") held.document)
  pub roles : (name : List ℕ) (held : Held Targets) → at_name name set.targets ≡ Some held → IsPinnedBy set.snapshot name held

-- the given root, which is the first
abbrev pub first_in : List (List ℕ) → List ℕ
first_in [] = []
first_in (root ∷ roots) = root

abbrev pub given_in : InForce → List ℕ
given_in set = first_in set.roots

-- the documents are authorised from the first root
abbrev pub IsAuthorised : Crypto → InForce → Type 0
IsAuthorised crypto set = AreAuthorised crypto (given_in set) set

-- What contracts see of a trusted set: who decides signatures, and the documents in force, which are authorised in every state.
pub record TrustedSet (C M : Type 0) : Type 0 where
  pub provider : C
  pub armor : M
  pub documents : InForce

abbrev pub crypto_in : {C M : Type 0} → provider.Ghosts C → armor.Ghosts M → TrustedSet C M → Crypto
crypto_in p a set = crypto_by p a set.provider set.armor

-- another set under the same judges
abbrev pub SameJudges : {C M : Type 0} → TrustedSet C M → TrustedSet C M → Type 0
SameJudges old new = (new.provider ≡ old.provider) × (new.armor ≡ old.armor)

-- All four are there and fresh at this moment, and the snapshot has the version by which the timestamp pins it.
pub record Serve (now : jiff.Timestamp) (set : InForce) : Type 0 where
  pub root_fresh : Fresh (content_in set.root).expires now
  pub timestamp : Held Timestamp
  pub timestamp_is : set.timestamp ≡ Some timestamp
  pub timestamp_fresh : Fresh (content_of timestamp).expires now
  pub snapshot : Held Snapshot
  pub snapshot_is : set.snapshot ≡ Some snapshot
  pub snapshot_fresh : Fresh (content_of snapshot).expires now
  pub pin : MetaFile
  pub pin_is : snapshot_pin (content_of timestamp) ≡ Some pin
  pub snapshot_version : (content_of snapshot).version ≡ pin.version
  pub targets : Held Targets
  pub targets_is : top_targets set ≡ Some targets
  pub targets_fresh : Fresh (content_of targets).expires now

-- ---- what the calls promise

-- what holds of a change of the documents in force, whatever was fetched and kept: they stay authorised from the same root, the
-- root's number rises by one with each root that is adopted, and while the root stays nothing goes below the floor
pub record StaysAuthorised (crypto : Crypto) (old new : InForce) : Type 0 where
  pub given : given_in new ≡ given_in old
  pub authorised : AreAuthorised crypto (given_in old) old → AreAuthorised crypto (given_in old) new
  pub rises : version_in new + length old.roots ≡ version_in old + length new.roots
  pub floor : KeepsFloor (standing_of old) (standing_of new)

-- the answer of an update is the definition's, want of memory aside; a refused one changes nothing, the documents stay authorised,
-- and nothing goes below the floor
pub record UpdatesSet (judged : Result InForce Error) (crypto : Crypto) (old new : InForce) (result : Result ⊤ Error) : Type 0 where
  pub updates : Updates judged old new result
  pub given : given_in new ≡ given_in old
  pub authorised : IsAuthorised crypto new
  pub floor : KeepsFloor (standing_of old) (standing_of new)
