-- What a store has of the documents in force and of a search (TUF specification, section 5: each document that is adopted is
-- written to storage).
use Rattle.std.specs.Prelude.{◌≡◌, ◌≢◌, ℕ, List, drop, Some, None, Result, Ok, Err, IfSome, OnOk, false, codes, ⊤}
use Rattle.std.specs.List.{AllByRecursion, last_or}
use Rattle.foundation.specs.Watched.{IfTold}
use Rattle.sigstore_tuf_text.specs.declared.error.Error.{Error}
use Rattle.sigstore_tuf_text.specs.declared.error.Error.TheVariants.{NoMemory}
use Rattle.sigstore_tuf_parts.specs.declared.root.Root.{Root}
use Rattle.sigstore_tuf_parts.specs.Document.{Document, content_in}
use Rattle.sigstore_tuf_text.specs.Names.{timestamp_name, snapshot_name, targets_name}
use Rattle.sigstore_tuf_parts.specs.RootRoles.{root_document}
use Rattle.sigstore_tuf_rules.specs.declared.chain.RoleDoc.{RoleDoc}
use Rattle.sigstore_tuf_rules.specs.declared.chain.TrustChain.{TrustChain}
use Rattle.sigstore_tuf_rules.specs.declared.documents.InForce.{InForce}
use Rattle.sigstore_tuf_rules.specs.declared.kind.Kind.TheVariants as kind
use Rattle.sigstore_tuf_outside.specs.Repository.{Quiet, Files}
use Rattle.sigstore_tuf_outside.specs.Store.{is_bad_name}
use Rattle.sigstore_tuf_rules.specs.Names.{history_name, root_file, kept_target}
use Rattle.sigstore_tuf_runs.specs.State.{State}
use Rattle.sigstore_tuf_rules.specs.Taking.{bytes_in}

-- the files have these bytes under the name
abbrev pub IsFiled : Files → List ℕ → List ℕ → Type 0
IsFiled files name bytes = files name ≡ Some bytes

-- the bytes are a root's, under the name of its version
pub record HasRoot (files : Files) (bytes : List ℕ) : Type 0 where
  pub doc : Document Root
  pub read : root_document bytes ≡ Ok doc
  pub there : IsFiled files (history_name (content_in doc).version) bytes

-- each root after the first stands so, and the last one under `root.json`
abbrev pub HasLaterRoots : Files → List (List ℕ) → Type 0
HasLaterRoots files roots = AllByRecursion (HasRoot files) (drop 1 roots)

abbrev pub HasLastRoot : Files → List (List ℕ) → Type 0
HasLastRoot files roots = IfSome (last_or None roots) (IsFiled files root_file)

-- ---- the documents in force

-- each that was adopted: the roots after the first, and the documents below them
pub record HoldsAdopted (files : Files) (set : InForce) : Type 0 where
  pub roots : HasLaterRoots files set.roots
  pub timestamp : IfSome (bytes_in kind.Timestamp set) (IsFiled files timestamp_name)
  pub snapshot : IfSome (bytes_in kind.Snapshot set) (IsFiled files snapshot_name)
  pub targets : IfSome (bytes_in kind.Targets set) (IsFiled files targets_name)

-- and the root in force
pub record HoldsInForce (files : Files) (set : InForce) : Type 0 where
  pub root : HasLastRoot files set.roots
  pub adopted : HoldsAdopted files set

-- a told store holds them
abbrev pub KeepsAdopted : State → Type 0
KeepsAdopted state = IfTold state.store.told (λ files. HoldsAdopted files state.documents)

abbrev pub KeepsInForce : State → Type 0
KeepsInForce state = IfTold state.store.told (λ files. HoldsInForce files state.documents)

-- ---- a chain

-- the top-level documents of a chain and its file, each under its name
pub record HoldsChain (files : Files) (path : List ℕ) (chain : TrustChain) : Type 0 where
  pub root : HasLastRoot files chain.roots
  pub roots : HasLaterRoots files chain.roots
  pub timestamp : IsFiled files timestamp_name chain.timestamp
  pub snapshot : IsFiled files snapshot_name chain.snapshot
  pub targets : AllByRecursion (λ (r : RoleDoc). r.name ≡ codes "targets" → IfSome r.bytes (IsFiled files targets_name)) chain.roles
  pub file : IsFiled files (kept_target path) chain.file

-- ---- what the calls promise of a store that counts no fault

-- a store that is handed in has all that is in force, where it had what was adopted before: for a first root nothing was
abbrev pub AttachesKept : State → State → Result ⊤ Error → Type 0
AttachesKept old new result =
    OnOk result (Quiet old.store.faults new.store.faults → KeepsAdopted old → KeepsInForce new)

-- what is in force stays written, unless memory was wanting
abbrev pub StaysKept : State → State → Result ⊤ Error → Type 0
StaysKept old new result = result ≢ Err NoMemory → Quiet old.store.faults new.store.faults → KeepsInForce old → KeepsInForce new

-- a chain that is given is in the store, where its file has a name that a store takes
abbrev pub KeepsChain : List ℕ → State → State → TrustChain → Type 0
KeepsChain path old new chain = is_bad_name (kept_target path) ≡ false → Quiet old.store.faults new.store.faults
    → KeepsInForce old → IfTold new.store.told (λ files. HoldsChain files path chain)
