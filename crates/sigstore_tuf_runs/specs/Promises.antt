-- What the client's calls promise.
use Rattle.std.specs.Prelude.{◌≡◌, ℕ, List, Option, Result, IfOk, IfErr, OnOk, ⊤}
use Rattle.foundation.specs.Watched.{IfTold}
use Rattle.sigstore_keys.specs.Crypto.{Crypto}
use Rattle.sigstore_tuf_text.specs.declared.error.Error.{Error}
use Rattle.sigstore_tuf_text.specs.declared.error.Error.TheVariants as tuf
use Rattle.sigstore_tuf_parts.specs.declared.targets.TargetFile.{TargetFile}
use Rattle.sigstore_tuf_rules.specs.declared.chain.TrustChain.{TrustChain}
use Rattle.sigstore_tuf_runs.specs.State.{Session, State}
use Rattle.sigstore_tuf_runs.specs.Run.{Attaches, said, refresh_steps, RunsSteps}
use Rattle.sigstore_tuf_runs.specs.Chain.{GetsTarget}
use Rattle.sigstore_tuf_rules.specs.Trusted.{Trusted}
use Rattle.sigstore_tuf_rules.specs.Authorised.{StaysAuthorised, given_in, Serve}
use Rattle.sigstore_tuf_runs.specs.Cause.{RefreshCause}
use Rattle.sigstore_tuf_runs.specs.SearchCause.{SearchCause, TargetCause}
use Rattle.sigstore_tuf_runs.specs.Found.{FindsEntry}
use Rattle.sigstore_tuf_runs.specs.Search.{GivesInfo}
use Rattle.sigstore_tuf_runs.specs.Kept.{AttachesKept, StaysKept, KeepsChain}
use Rattle.sigstore_tuf_runs.specs.Newest.{AreNewest}
use Rattle.sigstore_tuf_runs.specs.Carried.{CarriesFloor}

-- a store that is handed in: nothing refuses but want of memory, the store then has what is in force, and the floor is carried
pub record Attached (crypto : Crypto) (old new : State) (result : Result ⊤ Error) : Type 0 where
  pub attaches : Attaches crypto old new result
  pub authorised : StaysAuthorised crypto old.documents new.documents
  pub refused : IfErr result (λ e. e ≡ tuf.NoMemory)
  pub stored : AttachesKept old new result
  pub carries : CarriesFloor crypto old new result

-- a refresh: after Ok the documents in force serve at this moment and are the repository's newest, a refusal has its cause, and
-- the store goes on to have what is in force
pub record Refreshed (session : Session) (old new : State) (result : Result ⊤ Error) : Type 0 where
  pub runs : RunsSteps session refresh_steps old new result
  pub authorised : StaysAuthorised session.crypto old.documents new.documents
  pub serves : OnOk result (Serve session.now new.documents)
  pub cause : IfErr result (RefreshCause session old new)
  pub newest : OnOk result (IfTold old.repo.told (λ folders. AreNewest folders new.documents))
  pub stored : StaysKept old new result
  pub carries : CarriesFloor session.crypto old new result

-- a search for an entry: what was adopted stays, the entry is that of the last visit, whose document and those before it are trusted,
-- and a refusal has its cause
pub record Informed (session : Session) (path : List ℕ) (old new : State) (result : Result (Option TargetFile) Error) : Type 0 where
  pub gives : GivesInfo session path old new result
  pub authorised : StaysAuthorised session.crypto old.documents new.documents
  pub found : IfOk result (FindsEntry session path new.documents)
  pub cause : IfErr result (SearchCause session path old new)
  pub kept : StaysKept old new (said result)
  pub carries : CarriesFloor session.crypto old new (said result)

-- a search for a target: what was adopted stays, the chain that is given is trusted from the first root and in the store, and a refusal
-- has its cause
pub record Got (session : Session) (path : List ℕ) (old new : State) (result : Result TrustChain Error) : Type 0 where
  pub gets : GetsTarget session path old new result
  pub authorised : StaysAuthorised session.crypto old.documents new.documents
  pub trusted : IfOk result (Trusted session.crypto (given_in old.documents) session.now session.config.max_delegations path)
  pub cause : IfErr result (TargetCause session path old new)
  pub kept : StaysKept old new (said result)
  pub carries : CarriesFloor session.crypto old new (said result)
  pub stored : IfOk result (KeepsChain path old new)
