-- What the call that gives the chain promises, from the run of it.
use Rattle.std.proofs.Common.{Result, Ok, Err}
use Rattle.std.specs.Prelude.{IfOk, IfErr}
use Rattle.sigstore_tuf_text.specs.declared.error.Error.{Error as TufError}
use Rattle.sigstore_tuf_rules.specs.declared.chain.TrustChain.{TrustChain}
use Rattle.sigstore_verify.specs.Inputs.{Anchor, Places}
use Rattle.sigstore_verify.specs.FromRoot.{TrustsChain, GivesChain}
use Rattle.sigstore_verify.specs.Cause.{ChainCause}
use Rattle.sigstore_verify.specs.Promises.{HasStored, PromisesChain}
use Rattle.sigstore_verify.proofs.RootFacts.{chain_trusts, chain_kept}
use Rattle.sigstore_verify.proofs.RootCauses.{chain_cause}
use Rattle.sigstore_verify.proofs.RootCompleting.{gives_complete}

pub promises_chain : (anchor : Anchor) (before after : Places) (result : Result TrustChain TufError) → GivesChain anchor before.repo after.repo before.store after.store result
    → PromisesChain anchor before after result
promises_chain anchor before after (Ok chain) runs = record {
  accepted = chain_trusts anchor before.repo after.repo before.store after.store chain runs;
  refused = tt;
  runs = runs;
  complete = gives_complete anchor before after (Ok chain) runs;
  stored = chain_kept anchor before.repo after.repo before.store after.store chain runs;
}
promises_chain anchor before after (Err e) runs = record {
  accepted = tt;
  refused = chain_cause anchor before after e runs;
  runs = runs;
  complete = gives_complete anchor before after (Err e) runs;
  stored = tt;
}
