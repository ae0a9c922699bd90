-- How the floor is carried from call to call, and through a store (TUF specification, section 5.4: no timestamp below the trusted one,
-- in a later run either).
use Rattle.std.specs.Prelude.{◌≡◌, ◌≢◌, ◌⊎◌, ℕ, ◌<◌, ◌≤◌, List, Option}
use Rattle.std.specs.Prelude.{Some, None, option_map, Result, Ok, Err, IfSome, codes, ⊤}
use Rattle.foundation.specs.Watched.{Watched, IfTold}
use Rattle.sigstore_keys.specs.Crypto.{Crypto}
use Rattle.sigstore_tuf_text.specs.declared.error.Error.{Error}
use Rattle.sigstore_tuf_text.specs.declared.error.Error.TheVariants.{NoMemory}
use Rattle.sigstore_tuf_text.specs.Names.{timestamp_name}
use Rattle.sigstore_tuf_parts.specs.declared.root.Root.{Root}
use Rattle.sigstore_tuf_parts.specs.declared.timestamp.Timestamp.{Timestamp}
use Rattle.sigstore_tuf_parts.specs.Document.{Document, content_in}
use Rattle.sigstore_tuf_parts.specs.RootRoles.{MeetsRole}
use Rattle.sigstore_tuf_outside.specs.Repository.{Quiet, Files}
use Rattle.sigstore_tuf_rules.specs.declared.documents.Held.{Held}
use Rattle.sigstore_tuf_rules.specs.declared.documents.InForce.{InForce}
use Rattle.sigstore_tuf_rules.specs.Documents.{timestamp_document, content_of}
use Rattle.sigstore_tuf_rules.specs.Floor.{standing_of, KeepsFloor}
use Rattle.sigstore_tuf_rules.specs.Serving.{version_in}
use Rattle.sigstore_tuf_runs.specs.State.{State}

-- ---- the timestamp of a store

-- the file is a document that meets the root's timestamp role
pub record IsTimestamp (crypto : Crypto) (root : Root) (file : Option (List ℕ)) (doc : Document Timestamp) : Type 0 where
  pub bytes : List ℕ
  pub there : file ≡ Some bytes
  pub read : timestamp_document bytes ≡ Ok doc
  pub met : MeetsRole crypto root (codes "timestamp") doc

-- and it has the version of this one
pub record HasItsVersion (crypto : Crypto) (root : Root) (file : Option (List ℕ)) (held : Held Timestamp) : Type 0 where
  pub doc : Document Timestamp
  pub is : IsTimestamp crypto root file doc
  pub version_is : (content_in doc).version ≡ (content_of held).version

-- a told store holds the trusted timestamp, where there is one: under `timestamp.json` it has a document of its version that meets the
-- timestamp role of the root in force
abbrev pub HoldsTimestamp : Crypto → State → Type 0
HoldsTimestamp crypto state = IfTold state.store.told
    (λ files. IfSome state.documents.timestamp (HasItsVersion crypto (content_in state.documents.root) (files timestamp_name)))

-- what a told store has under `timestamp.json`
abbrev pub timestamp_file : Watched Files → Option (Option (List ℕ))
timestamp_file seen = option_map (λ (files : Files). files timestamp_name) seen.told

-- ---- what each call promises

-- memory wasn't wanting, and the store counted no fault
abbrev pub IsUndisturbed : State → State → Result ⊤ Error → Type 0
IsUndisturbed old new answer = (answer ≢ Err NoMemory) × Quiet old.store.faults new.store.faults

-- a call that has no floor but the store's: no timestamp was trusted, or a new root was adopted, at which the others are dropped
abbrev pub BeginsAnew : InForce → InForce → Type 0
BeginsAnew old new = (old.timestamp ≡ None) ⊎ (version_in old < version_in new)

-- a timestamp that is then trusted has no lower version than the store's, where that meets the timestamp role of the root in force
abbrev pub NotBelowStored : Crypto → State → InForce → Type 0
NotBelowStored crypto old set = IfTold old.store.told
    (λ files. (doc : Document Timestamp) → IsTimestamp crypto (content_in set.root) (files timestamp_name) doc
    → IfSome set.timestamp (λ held. (content_in doc).version ≤ (content_of held).version))

-- The floor of the documents in force is kept. Where no timestamp is trusted after the call, the store's was left as it was. A store
-- that held the trusted timestamp holds the trusted one again, and a call that begins anew begins at the store's.
pub record CarriesFloor (crypto : Crypto) (old new : State) (answer : Result ⊤ Error) : Type 0 where
  pub floor : KeepsFloor (standing_of old.documents) (standing_of new.documents)
  pub left : new.documents.timestamp ≡ None → timestamp_file new.store ≡ timestamp_file old.store
  pub kept : IsUndisturbed old new answer → HoldsTimestamp crypto old → HoldsTimestamp crypto new
  pub resumed : IsUndisturbed old new answer → BeginsAnew old.documents new.documents → NotBelowStored crypto old new.documents
