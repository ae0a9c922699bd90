-- A target with its file, and the chain of documents by which it is trusted (TUF specification, sections 5.6.7 and 5.7).
use Rattle.std.specs.Prelude.{◌≡◌, ◌≢◌, ℕ, List, map, Option, Some, None, option_map, Result, Ok, Err}
use Rattle.sigstore_types_parts.specs.Entries.{at_name}
use Rattle.sigstore_tuf_text.specs.declared.error.Error.{Error}
use Rattle.sigstore_tuf_text.specs.declared.error.Error.TheVariants.{NotRefreshed, TargetNotFound, NoMemory}
use Rattle.sigstore_tuf_parts.specs.declared.timestamp.Timestamp.{Timestamp}
use Rattle.sigstore_tuf_parts.specs.declared.snapshot.Snapshot.{Snapshot}
use Rattle.sigstore_tuf_parts.specs.declared.targets.TargetFile.{TargetFile}
use Rattle.sigstore_tuf_rules.specs.declared.documents.Held.{Held}
use Rattle.sigstore_tuf_rules.specs.declared.documents.InForce.{InForce}
use Rattle.sigstore_tuf_rules.specs.declared.config.UpdaterConfig.{UpdaterConfig}
use Rattle.sigstore_tuf_rules.specs.declared.chain.RoleDoc.{RoleDoc}
use Rattle.sigstore_tuf_rules.specs.declared.chain.TrustChain.{TrustChain}
use Rattle.sigstore_tuf_rules.specs.Names.{is_consistent}
use Rattle.sigstore_tuf_runs.specs.State.{Session, State}
use Rattle.sigstore_tuf_rules.specs.declared.visit.Visit.{Visit}
use Rattle.sigstore_tuf_runs.specs.Search.{FindsVisits, entry_after}
use Rattle.sigstore_tuf_runs.specs.Target.{Obtains}

-- ---- the chain

-- a visit, with the bytes of the document that it read
abbrev pub role_doc_in : InForce → Visit → RoleDoc
role_doc_in set v = record {
  name = v.name;
  delegator = v.delegator;
  bytes = option_map (λ held. held.bytes) (at_name v.name set.targets);
}

abbrev pub chain_in : InForce → Option (Held Timestamp) → Option (Held Snapshot) → List Visit → TargetFile → List ℕ
    → Result TrustChain Error
chain_in set None snapshot visits entry file = Err NotRefreshed
chain_in set (Some timestamp) None visits entry file = Err NotRefreshed
chain_in set (Some timestamp) (Some snapshot) visits entry file =
    Ok (record {
      roots = set.roots;
      timestamp = timestamp.bytes;
      snapshot = snapshot.bytes;
      roles = map (role_doc_in set) visits;
      target = entry;
      file = file;
    })

-- the documents in force, with the visits of a search, an entry and its file
abbrev pub chain_of : InForce → List Visit → TargetFile → List ℕ → Result TrustChain Error
chain_of set visits entry file = chain_in set set.timestamp set.snapshot visits entry file

-- ---- the whole

-- it has to be there
abbrev pub found_of : List ℕ → Option TargetFile → Result TargetFile Error
found_of path None = Err (TargetNotFound path)
found_of path (Some entry) = Ok entry

-- The file of the entry that the last visit lists, and the chain; the first that refuses answers. The documents in force stay.
pub data GivesChain (config : UpdaterConfig) (path : List ℕ) (visits : List Visit) (old new : State) (result : Result TrustChain Error) : Type 0 where
  unlisted : (e : Error) → (e ≢ NoMemory → found_of path (entry_after old.documents path visits) ≡ Err e) → new ≡ old
      → result ≡ Err e → GivesChain config path visits old new result
  unobtained : (entry : TargetFile) (e : Error) → entry_after old.documents path visits ≡ Some entry
      → Obtains (is_consistent old.documents) config entry path old.repo new.repo old.store new.store (Err e)
      → new.documents ≡ old.documents → result ≡ Err e → GivesChain config path visits old new result
  unchained : (entry : TargetFile) (file : List ℕ) (e : Error) → entry_after old.documents path visits ≡ Some entry
      → Obtains (is_consistent old.documents) config entry path old.repo new.repo old.store new.store (Ok file)
      → new.documents ≡ old.documents → (e ≢ NoMemory → chain_of old.documents visits entry file ≡ Err e) → result ≡ Err e
      → GivesChain config path visits old new result
  found : (entry : TargetFile) (file : List ℕ) (chain : TrustChain) → entry_after old.documents path visits ≡ Some entry
      → Obtains (is_consistent old.documents) config entry path old.repo new.repo old.store new.store (Ok file)
      → new.documents ≡ old.documents → chain_of old.documents visits entry file ≡ Ok chain → result ≡ Ok chain
      → GivesChain config path visits old new result

-- A search for a target and its file: the visits are made, and then the chain is had. Only the visits change the documents in
-- force, and what they adopted stays.
pub data GetsTarget (session : Session) (path : List ℕ) (old new : State) (result : Result TrustChain Error) : Type 0 where
  unfound : (e : Error) → FindsVisits session path old new (Err e) → result ≡ Err e → GetsTarget session path old new result
  visited : (visits : List Visit) (mid : State) → FindsVisits session path old mid (Ok visits)
      → GivesChain session.config path visits mid new result → GetsTarget session path old new result
