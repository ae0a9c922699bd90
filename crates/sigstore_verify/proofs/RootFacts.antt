-- What an acceptance of the top call means.
use Rattle.std.proofs.Common.{◌≡◌, Result, Ok, refl, sym, ◌∙◌, subst, le_trans}
use Rattle.std.specs.Prelude.{⊤}
use Rattle.foundation.specs.Watched.{Watched, IfTold}
use Rattle.foundation.specs.Results.{ok_same, no_both}
use Rattle.sigstore_tuf_text.specs.declared.error.Error.{Error as TufError}
use Rattle.sigstore_tuf_outside.specs.Repository.{Quiet, Files, Folders}
use Rattle.sigstore_tuf_rules.specs.declared.chain.TrustChain.{TrustChain}
use Rattle.sigstore_tuf_rules.specs.declared.documents.InForce.{InForce}
use Rattle.sigstore_tuf_runs.specs.State.{state_of}
use Rattle.sigstore_tuf_rules.specs.Trusted.{Trusted}
use Rattle.sigstore_tuf_rules.specs.Authorised.{AreAuthorised, given_in}
use Rattle.sigstore_tuf_runs.specs.Promises.{Refreshed, Got}
use Rattle.sigstore_tuf_runs.specs.Kept.{HoldsAdopted, HoldsChain}
use Rattle.sigstore_tuf_rules.proofs.Authorised.{first_root_given, first_root_is_authorised}
use Rattle.sigstore_tuf_causes.proofs.Faults.{quiet_first, quiet_second}
use Rattle.sigstore_tuf_causes.proofs.Keeping.{told_each, first_kept, attach_later, refresh_later}
use Rattle.sigstore_tuf_causes.proofs.TargetKept.{gets_later}
use Rattle.sigstore_verify.specs.declared.from_root.Acceptance.{Acceptance}
use Rattle.sigstore_verify.specs.Inputs.{Anchor, VerifyInputs, Outside, asked_by}
use Rattle.sigstore_judgement.specs.Artifact.{Read}
use Rattle.sigstore_judgement.proofs.Accepts.{accepts_exactly}
use Rattle.sigstore_verify.specs.FromRoot.{trust_path, TrustsChain, session_in, Begins, GivesChain, root_refused, attach_refused, refresh_refused, target_refused, chain_given, JudgesGiven, IsAccepted}
use Rattle.sigstore_judgement.specs.Under.{trust_fault, bundle_fault, terms_of, trust_refused, verifier_refused, bundle_refused, judged}
use Rattle.sigstore_judgement.proofs.JudgeCauses.{read_of}

-- what is in force in the beginning is authorised from the root
pub begins_given : (anchor : Anchor) (repo : Watched Folders) (store store' : Watched Files) (set : InForce) → Begins anchor repo store store' set → given_in set ≡ anchor.root
begins_given anchor repo store store' set b = b.attached.authorised.given ∙ first_root_given anchor.crypto anchor.root b.first b.first_is

pub begins_authorised : (anchor : Anchor) (repo : Watched Folders) (store store' : Watched Files) (set : InForce) → Begins anchor repo store store' set → AreAuthorised anchor.crypto anchor.root set
begins_authorised anchor repo store store' set b =
    let first = first_root_given anchor.crypto anchor.root b.first b.first_is in
    subst (λ g. AreAuthorised anchor.crypto g set) first (b.attached.authorised.authorised (first_root_is_authorised anchor.crypto anchor.root b.first b.first_is))

-- and so is what is in force after a refresh
module _ (anchor : Anchor) (repo mid : Watched Folders) (store begun kept : Watched Files) (set last : InForce) (result : Result ⊤ TufError) (b : Begins anchor repo store begun set)
    (r : Refreshed (session_in anchor) (state_of set repo begun) (state_of last mid kept) result) where
  pub refreshed_given : given_in last ≡ anchor.root
  refreshed_given = r.authorised.given ∙ begins_given anchor repo store begun set b

  pub refreshed_authorised : AreAuthorised anchor.crypto anchor.root last
  refreshed_authorised =
      let begins = begins_given anchor repo store begun set b in
      subst (λ g. AreAuthorised anchor.crypto g last) begins (r.authorised.authorised (subst (λ g. AreAuthorised anchor.crypto g set) (sym begins) (begins_authorised anchor repo store begun set b)))

-- and after a search
pub searched_authorised : (anchor : Anchor) (repo mid repo' : Watched Folders) (store begun kept store' : Watched Files) (set last end : InForce) (result : Result TrustChain TufError) → Begins anchor repo store begun set
    → Refreshed (session_in anchor) (state_of set repo begun) (state_of last mid kept) (Ok tt) → Got (session_in anchor) trust_path (state_of last mid kept) (state_of end repo' store') result → AreAuthorised anchor.crypto anchor.root end
searched_authorised anchor repo mid repo' store begun kept store' set last end result b r g =
    let given = refreshed_given anchor repo mid store begun kept set last (Ok tt) b r in
    let first = refreshed_authorised anchor repo mid store begun kept set last (Ok tt) b r in
    subst (λ x. AreAuthorised anchor.crypto x end) given (g.authorised.authorised (subst (λ x. AreAuthorised anchor.crypto x last) (sym given) first))

-- a chain that is given is trusted from the root
pub chain_trusts : (anchor : Anchor) (repo repo' : Watched Folders) (store store' : Watched Files) (chain : TrustChain) → GivesChain anchor repo repo' store store' (Ok chain) → TrustsChain anchor chain
chain_trusts anchor repo repo' store store' chain (root_refused e h s t r) = no_both chain e r
chain_trusts anchor repo repo' store store' chain (attach_refused first set e f a s r) = no_both chain e r
chain_trusts anchor repo repo' store store' chain (refresh_refused set last begun e b w r) = no_both chain e r
chain_trusts anchor repo repo' store store' chain (target_refused set last end mid begun kept e b w g r) = no_both chain e r
chain_trusts anchor repo repo' store store' chain (chain_given set last end mid begun kept given b w g r) =
    let same : given ≡ chain = ok_same given chain (sym r) in
    subst (TrustsChain anchor) same
    (subst (λ root. Trusted anchor.crypto root anchor.now anchor.config.max_delegations trust_path given) (refreshed_given anchor repo mid store begun kept set last (Ok tt) b w) g.trusted)

-- and a store that counted no fault has it
pub chain_kept : (anchor : Anchor) (repo repo' : Watched Folders) (store store' : Watched Files) (chain : TrustChain) → GivesChain anchor repo repo' store store' (Ok chain) → Quiet store.faults store'.faults
    → IfTold store'.told (λ files. HoldsChain files trust_path chain)
chain_kept anchor repo repo' store store' chain (root_refused e h s t r) quiet = no_both chain e r
chain_kept anchor repo repo' store store' chain (attach_refused first set e f a s r) quiet = no_both chain e r
chain_kept anchor repo repo' store store' chain (refresh_refused set last begun e b w r) quiet = no_both chain e r
chain_kept anchor repo repo' store store' chain (target_refused set last end mid begun kept e b w g r) quiet = no_both chain e r
chain_kept anchor repo repo' store store' chain (chain_given set last end mid begun kept given b w g r) quiet =
    let same : given ≡ chain = ok_same given chain (sym r) in
    let one = attach_later anchor.crypto (state_of b.first repo store) (state_of set repo begun) (Ok tt) b.attached.attaches in
    let two = refresh_later (session_in anchor) (state_of set repo begun) (state_of last mid kept) (Ok tt) w.runs in
    let three = gets_later trust_path (session_in anchor) (state_of last mid kept) (state_of end repo' store') (Ok given) g.gets in
    let rest = quiet_second store.faults begun.faults store'.faults one (le_trans two three) quiet in
    let adopted = told_each (λ files. HoldsAdopted files b.first) store.told (λ files. first_kept anchor.crypto anchor.root b.first files b.first_is) in
    let begins = b.attached.stored (quiet_first store.faults begun.faults store'.faults one (le_trans two three) quiet) adopted in
    let refreshed = w.stored (λ e. cc) (quiet_first begun.faults kept.faults store'.faults two three rest) begins in
    subst (λ c. IfTold store'.told (λ files. HoldsChain files trust_path c)) same (g.stored refl (quiet_second begun.faults kept.faults store'.faults two three rest) refreshed)

module _ (given : VerifyInputs) (before after : Outside) (rooted : Acceptance) where
  pub is_accepted : TrustsChain given.anchor rooted.chain
      → JudgesGiven given rooted.chain.file before after (Ok (record { result = rooted.result; digests = rooted.digests }))
      → IsAccepted given before after rooted
  is_accepted c (trust_refused e h s n) = no_both _ e n
  is_accepted c (verifier_refused trust e t h s n) = no_both _ e n
  is_accepted c (bundle_refused trust material e t u h s n) = no_both _ e n
  is_accepted c (judged trust material reading t u b v) =
      let a = v.accepted in
      record {
        trusted = c;
        trust = trust;
        trust_read = read_of trust_fault _ trust t;
        material = material;
        usable = u;
        reading = reading;
        read = read_of bundle_fault _ reading b;
        bytes = a.0;
        whole = a.1.read;
        judged = a.1.judged;
        means = (accepts_exactly (terms_of (asked_by given) material) reading (Read a.0) rooted.result).0 a.1.judged;
        digests = a.2;
      }
