-- The floor that a store carries from one client to a later one (TUF specification, section 5.4: the timestamp in storage is the floor of
-- the next run).
use Rattle.std.specs.Prelude.{◌≡◌, List, [], ◌∷◌, Some, None, Result, IfSome, ⊤}
use Rattle.std.specs.List.{AllByRecursion}
use Rattle.sigstore_keys.specs.Crypto.{Crypto}
use Rattle.sigstore_tuf_text.specs.declared.error.Error.{Error}
use Rattle.sigstore_tuf_parts.specs.declared.root.Root.{Root}
use Rattle.sigstore_tuf_parts.specs.Document.{Document}
use Rattle.sigstore_tuf_outside.specs.Repository.{Files}
use Rattle.sigstore_tuf_rules.specs.declared.documents.InForce.{InForce}
use Rattle.sigstore_tuf_rules.specs.Documents.{content_of}
use Rattle.sigstore_tuf_rules.specs.Floor.{floor_of, NoLower}
use Rattle.sigstore_tuf_runs.specs.State.{State}
use Rattle.sigstore_tuf_runs.specs.Carried.{IsUndisturbed, CarriesFloor}

-- a call in which memory wasn't wanting and the store counted no fault
pub record IsCall (crypto : Crypto) (old new : State) : Type 0 where
  pub answer : Result ⊤ Error
  pub undisturbed : IsUndisturbed old new answer
  pub carries : CarriesFloor crypto old new answer

-- calls of one client, each on what the one before it left
abbrev pub AreCalls : Crypto → State → List State → Type 0
AreCalls crypto first [] = ⊤
AreCalls crypto first (next ∷ later) = IsCall crypto first next × AreCalls crypto next later

-- what they leave
abbrev pub end_of : State → List State → State
end_of first [] = first
end_of first (next ∷ later) = end_of next later

-- a timestamp is trusted under this root alone
abbrev pub IsUnder : Document Root → State → Type 0
IsUnder root state = IfSome state.documents.timestamp (λ held. state.documents.root ≡ root)

-- One client after another, over one told store. The earlier one had the store from before its first refresh, nobody else wrote it, and
-- the later one trusts a timestamp only under the root that the earlier one ended with.
pub record Succeeds (crypto : Crypto) (first : State) (earlier : List State) (begin : State) (later : List State) : Type 0 where
  pub first_trusts_none : first.documents.timestamp ≡ None
  pub earlier_calls : AreCalls crypto first earlier
  pub files : Files
  pub told : (end_of first earlier).store.told ≡ Some files
  pub handed_on : begin.store.told ≡ Some files
  pub begin_trusts_none : begin.documents.timestamp ≡ None
  pub later_calls : AreCalls crypto begin later
  pub same_root : AllByRecursion (IsUnder (end_of first earlier).documents.root) later

-- a timestamp that is trusted has no lower version than the one that was
abbrev pub IsNotBelow : InForce → State → Type 0
IsNotBelow old state = IfSome state.documents.timestamp (λ held. NoLower (floor_of old).timestamp (Some (content_of held).version))

-- The later client never trusts a timestamp below the last one that the earlier one trusted.
abbrev pub StoreCarriesFloor : Type 0
StoreCarriesFloor = (crypto : Crypto) (first : State) (earlier : List State) (begin : State) (later : List State)
    → Succeeds crypto first earlier begin later → AllByRecursion (IsNotBelow (end_of first earlier).documents) later
