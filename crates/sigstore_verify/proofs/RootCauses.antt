-- Each refusal of the top call has its cause.
use Rattle.std.proofs.Common.{◌≡◌, ◌≢◌, ◌⊎◌, inl, inr, Ok, Err, refl, sym, subst}
use Rattle.foundation.specs.Watched.{Watched}
use Rattle.foundation.specs.Results.{err_same}
use Rattle.sigstore_tuf_text.specs.declared.error.Error.{Error as TufError}
use Rattle.sigstore_tuf_text.specs.declared.error.Error.TheVariants as tuf
use Rattle.sigstore_tuf_rules.specs.declared.chain.TrustChain.{TrustChain}
use Rattle.sigstore_tuf_rules.specs.declared.documents.InForce.{InForce}
use Rattle.sigstore_tuf_outside.specs.Repository.{Files}
use Rattle.sigstore_tuf_runs.specs.State.{state_of}
use Rattle.sigstore_tuf_causes.proofs.Refusals.{first_refusal}
use Rattle.sigstore_tuf_causes.proofs.Carrying.{Carried, attach_carried, refresh_carried}
use Rattle.sigstore_tuf_causes.proofs.Causes.{is_want, earlier}
use Rattle.sigstore_tuf_causes.proofs.Searching.{gets_serves}
use Rattle.sigstore_tuf_causes.proofs.TargetCauses.{target_earlier}
use Rattle.sigstore_judgement.specs.declared.error.Error.{Error}
use Rattle.sigstore_judgement.specs.declared.error.Error.TheVariants as verify
use Rattle.sigstore_verify.specs.declared.from_root.RootFault.{RootFault}
use Rattle.sigstore_verify.specs.Cause as cause
use Rattle.sigstore_judgement.specs.Cause.{JudgeCause}
use Rattle.sigstore_verify.specs.Cause.{RootCause, ChainCause, state_in}
use Rattle.sigstore_verify.specs.Inputs.{Anchor, VerifyInputs, Places, Outside, places_in, asked_by}
use Rattle.sigstore_verify.specs.FromRoot as top
use Rattle.sigstore_verify.specs.FromRoot.{trust_path, session_in, TrustsChain, GivesChain, root_of_tuf, root_of_verify, Runs}
use Rattle.sigstore_judgement.proofs.JudgeCauses.{judge_refused}
use Rattle.sigstore_verify.proofs.OnlyTop.{first_root_only, attach_only, refresh_only}
use Rattle.sigstore_verify.proofs.RootFacts.{refreshed_authorised, searched_authorised, chain_trusts}

-- a chain that isn't given has its cause in the root, the repository and the store
module _ (anchor : Anchor) (before after : Places) where
  abbrev Chain : TufError → Type 0
  Chain e = ChainCause anchor before after e

  by_want : (e : TufError) → (e ≢ tuf.NoMemory → Chain e) → Chain e
  by_want e f = by_either (is_want e)
    where
      by_either : (e ≡ tuf.NoMemory) ⊎ (e ≢ tuf.NoMemory) → Chain e
      by_either (inl is) = cause.chain_wanting is
      by_either (inr other) = f other

  -- what was had at the beginning of a refresh was had at the very beginning
  begun_carried : (begun : Watched Files) (set : InForce) (b : top.Begins anchor before.repo before.store begun set) → Carried (state_in b.first before) (state_of set before.repo begun)
  begun_carried begun set b = attach_carried anchor.crypto (state_in b.first before) (state_of set before.repo begun) (Ok tt) b.attached.attaches

  pub chain_cause : (e : TufError) → GivesChain anchor before.repo after.repo before.store after.store (Err e) → Chain e
  chain_cause e (top.root_refused d h s t r) = subst Chain (err_same d e (sym r)) (by_want d (λ other. cause.root_refused (first_refusal anchor.crypto anchor.root d (h other))))
  chain_cause e (top.attach_refused first set d f a s r) = subst Chain (err_same d e (sym r)) (cause.chain_wanting a.refused)
  chain_cause e (top.refresh_refused set last begun d b w r) =
      subst Chain (err_same d e (sym r))
      (cause.refresh_refused b.first last b.first_is (refreshed_authorised anchor before.repo after.repo before.store begun after.store set last (Err d) b w)
      (earlier (session_in anchor) (state_in b.first before) (state_of set before.repo begun) (state_in last after) d (begun_carried begun set b) w.cause))
  chain_cause e (top.target_refused set last end mid begun kept d b w g r) =
      let since = (refresh_carried (session_in anchor) (state_of set before.repo begun) (state_of last mid kept) (Ok tt) w.runs).since in
      let first = refreshed_authorised anchor before.repo mid before.store begun kept set last (Ok tt) b w in
      let begins = attach_only anchor.crypto (state_in b.first before) (state_of set before.repo begun) (Ok tt) b.attached.attaches (first_root_only anchor.crypto anchor.root b.first b.first_is) in
      let only = refresh_only (session_in anchor) (state_of set before.repo begun) (state_of last mid kept) (Ok tt) w.runs begins in
      subst Chain (err_same d e (sym r))
      (cause.search_refused last end only first (searched_authorised anchor before.repo mid after.repo before.store begun kept after.store set last end (Err d) b w g)
      (gets_serves (session_in anchor) trust_path (state_of last mid kept) (state_in end after) (Err d) g.gets w.serves)
      (target_earlier (session_in anchor) trust_path (state_in last before) (state_of last mid kept) (state_in end after) refl since d g.cause))
  chain_cause e (top.chain_given set last end mid begun kept chain b w g r) = cc

module _ (given : VerifyInputs) (before after : Outside) where
  abbrev Cause : RootFault → Type 0
  Cause fault = RootCause given before after fault

  pub by_tuf : (e : TufError) → ChainCause given.anchor (places_in before) (places_in after) e → after.source ≡ before.source → Cause (root_of_tuf e)
  by_tuf tuf.Json h s = (h, s)
  by_tuf (tuf.Malformed a) h s = (h, s)
  by_tuf tuf.NonIntegerNumber h s = (h, s)
  by_tuf (tuf.UnusableKey a) h s = (h, s)
  by_tuf (tuf.UnsupportedScheme a b) h s = (h, s)
  by_tuf (tuf.UnknownRole a) h s = (h, s)
  by_tuf (tuf.DuplicateSignature a b) h s = (h, s)
  by_tuf (tuf.ThresholdNotMet a b c) h s = (h, s)
  by_tuf (tuf.Rollback a b c) h s = (h, s)
  by_tuf (tuf.EqualVersion a b) h s = (h, s)
  by_tuf (tuf.BadRootVersion a b) h s = (h, s)
  by_tuf (tuf.Expired a b) h s = (h, s)
  by_tuf (tuf.IntegrityMismatch a) h s = (h, s)
  by_tuf tuf.Crypto h s = (h, s)
  by_tuf tuf.NotRefreshed h s = (h, s)
  by_tuf (tuf.TargetNotFound a) h s = (h, s)
  by_tuf (tuf.Transport a) h s = (h, s)
  by_tuf tuf.NoMemory h s = tt

  pub by_verify : (e : Error) (chain : TrustChain) → TrustsChain given.anchor chain
      → JudgeCause (asked_by given) chain.file before.source after.source e → Cause (root_of_verify e chain)
  by_verify (verify.IdentityMismatch a b) chain t h = (t, h)
  by_verify (verify.IssuerMismatch a b) chain t h = (t, h)
  by_verify verify.SignatureInvalid chain t h = (t, h)
  by_verify verify.ArtifactMismatch chain t h = (t, h)
  by_verify verify.UnsupportedArtifact chain t h = (t, h)
  by_verify (verify.Certificate a) chain t h = (t, h)
  by_verify (verify.TransparencyLog a) chain t h = (t, h)
  by_verify (verify.Timestamp a) chain t h = (t, h)
  by_verify verify.InvalidBundle chain t h = (t, h)
  by_verify verify.UnsupportedBundle chain t h = (t, h)
  by_verify verify.InvalidTrustRoot chain t h = (t, h)
  by_verify verify.Types chain t h = (t, h)
  by_verify verify.Crypto chain t h = (t, h)
  by_verify verify.Bundle chain t h = (t, h)
  by_verify verify.TrustRoot chain t h = (t, h)
  by_verify verify.TrustedCertificate chain t h = (t, h)
  by_verify (verify.ArtifactRead a) chain t h = (t, h)
  by_verify (verify.TooFewLogs a b) chain t h = (t, h)
  by_verify (verify.ClaimMismatch a b c) chain t h = (t, h)
  by_verify (verify.PredicateMismatch a b) chain t h = (t, h)
  by_verify (verify.TooFewTimes a b) chain t h = (t, h)
  by_verify (verify.TooFewTokens a b) chain t h = (t, h)
  by_verify (verify.TimeOutside a) chain t h = (t, h)
  by_verify verify.NoMemory chain t h = tt

  pub runs_cause : (fault : RootFault) → Runs given before after (Err fault) → Cause fault
  runs_cause fault (top.chain_refused e c s r) = subst Cause (err_same (root_of_tuf e) fault (sym r)) (by_tuf e (chain_cause given.anchor (places_in before) (places_in after) e c) s)
  runs_cause fault (top.judgement_refused chain e c j r) =
      subst Cause (err_same (root_of_verify e chain) fault (sym r))
      (by_verify e chain (chain_trusts given.anchor before.repo after.repo before.store after.store chain c) (judge_refused (asked_by given) chain.file before.source after.source e j))
  runs_cause fault (top.accepted rooted c j r) = cc
