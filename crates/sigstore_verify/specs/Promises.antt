-- What the top call promises, whole: the theorem that users rest on; and what the call promises that gives the chain alone.
use Rattle.std.specs.Prelude.{Result, IfOk, IfErr}
use Rattle.foundation.specs.Watched.{IfTold}
use Rattle.sigstore_tuf_text.specs.declared.error.Error.{Error as TufError}
use Rattle.sigstore_tuf_outside.specs.Repository.{Quiet}
use Rattle.sigstore_tuf_rules.specs.declared.chain.TrustChain.{TrustChain}
use Rattle.sigstore_tuf_runs.specs.Kept.{HoldsChain}
use Rattle.sigstore_verify.specs.declared.from_root.Acceptance.{Acceptance}
use Rattle.sigstore_verify.specs.declared.from_root.RootFault.{RootFault}
use Rattle.sigstore_verify.specs.Inputs.{Anchor, VerifyInputs, Places, Outside, places_in}
use Rattle.sigstore_verify.specs.FromRoot.{trust_path, TrustsChain, GivesChain, IsAccepted, Runs}
use Rattle.sigstore_verify.specs.Cause.{ChainCause, RootCause}
use Rattle.sigstore_verify.specs.Complete.{CompletesChain, Completes}

-- a told store that counted no fault has the documents of the chain and the trust file, each under its name
abbrev pub HasStored : Places → Places → TrustChain → Type 0
HasStored before after chain =
    Quiet before.store.faults after.store.faults → IfTold after.store.told (λ files. HoldsChain files trust_path chain)

-- what a chain that is given means, what each refusal means, which call answers, when it has to be given, and what the store then has
pub record PromisesChain (anchor : Anchor) (before after : Places) (result : Result TrustChain TufError) : Type 0 where
  pub accepted : IfOk result (TrustsChain anchor)
  pub refused : IfErr result (ChainCause anchor before after)
  pub runs : GivesChain anchor before.repo after.repo before.store after.store result
  pub complete : CompletesChain anchor before after result
  pub stored : IfOk result (HasStored before after)

-- what Ok means, what each refusal means, which call answers, when the answer has to be Ok, and what the store then has
pub record Promises (given : VerifyInputs) (before after : Outside) (result : Result Acceptance RootFault) : Type 0 where
  pub accepted : IfOk result (IsAccepted given before after)
  pub refused : IfErr result (RootCause given before after)
  pub runs : Runs given before after result
  pub complete : Completes given before after result
  pub stored : IfOk result (λ rooted. HasStored (places_in before) (places_in after) rooted.chain)
