-- The top call: from a pinned root down to one artifact.
use Rattle.std.specs.Prelude.{◌≡◌, ◌≢◌, ℕ, List, Result, Ok, Err, codes}
use Rattle.foundation.specs.Watched.{Watched}
use Rattle.sigstore_types.specs.declared.bundle.Bundle.{Bundle}
use Rattle.sigstore_types.specs.declared.trusted_root.TrustedRoot.{TrustedRoot}
use Rattle.sigstore_types.specs.Bundle.{bundle_of_bytes}
use Rattle.sigstore_types.specs.TrustedRoot.{trusted_root_of_bytes}
use Rattle.sigstore_keys.specs.Digest.{digests_by}
use Rattle.sigstore_tuf_text.specs.declared.error.Error.{Error as TufError}
use Rattle.sigstore_tuf_text.specs.declared.error.Error.TheVariants as tuf
use Rattle.sigstore_tuf_outside.specs.Repository.{Files, Folders}
use Rattle.sigstore_tuf_rules.specs.declared.documents.InForce.{InForce}
use Rattle.sigstore_tuf_rules.specs.declared.chain.TrustChain.{TrustChain}
use Rattle.sigstore_tuf_rules.specs.Update.{first_root_of}
use Rattle.sigstore_tuf_runs.specs.State.{Session, session_of, state_of}
use Rattle.sigstore_tuf_runs.specs.Promises.{Attached, Refreshed, Got}
use Rattle.sigstore_tuf_rules.specs.Trusted.{Trusted}
use Rattle.sigstore_judgement.specs.declared.error.Error.{Error}
use Rattle.sigstore_judgement.specs.declared.error.Error.TheVariants as verify
use Rattle.sigstore_verify.specs.declared.from_root.Acceptance.{Acceptance}
use Rattle.sigstore_verify.specs.declared.from_root.RootFault.{RootFault}
use Rattle.sigstore_verify.specs.declared.from_root.RootFault.TheVariants.{Tuf, Verify, NoMemory}
use Rattle.sigstore_judgement.specs.Accepts.{Accepts}
use Rattle.sigstore_judgement.specs.Artifact.{Read}
use Rattle.sigstore_judgement.specs.declared.report.JudgedBundle.{JudgedBundle}
use Rattle.sigstore_judgement.specs.declared.trust.Material.{Material}
use Rattle.sigstore_judgement.specs.Judged.{judged_of, needed_by}
use Rattle.sigstore_judgement.specs.Promise.{ReadWhole}
use Rattle.sigstore_judgement.specs.Trust.{material_of}
use Rattle.sigstore_judgement.specs.Under.{terms_of, JudgesBundle}
use Rattle.sigstore_verify.specs.Inputs.{Anchor, VerifyInputs, Outside, asked_by}

-- the target that is the trust file
abbrev pub trust_path : List ℕ
trust_path = codes "trusted_root.json"

-- ---- the chain of documents

abbrev pub session_in : Anchor → Session
session_in anchor = session_of anchor.crypto anchor.config anchor.now

-- A client begins with a first root, and with what a store has of the next ones.
pub record Begins (anchor : Anchor) (repo : Watched Folders) (store store' : Watched Files) (set : InForce) : Type 0 where
  pub first : InForce
  pub first_is : first_root_of anchor.crypto anchor.root ≡ Ok first
  pub attached : Attached anchor.crypto (state_of first repo store) (state_of set repo store') (Ok tt)

-- The chain comes from a first root, the store's next roots, a refresh and a search, in this order; the first that refuses answers.
pub data GivesChain (anchor : Anchor) (repo repo' : Watched Folders) (store store' : Watched Files)
    (result : Result TrustChain TufError) : Type 0 where
  root_refused : (e : TufError) → (e ≢ tuf.NoMemory → first_root_of anchor.crypto anchor.root ≡ Err e) → repo' ≡ repo → store' ≡ store
      → result ≡ Err e → GivesChain anchor repo repo' store store' result
  attach_refused : (first set : InForce) (e : TufError) → first_root_of anchor.crypto anchor.root ≡ Ok first
      → Attached anchor.crypto (state_of first repo store) (state_of set repo store') (Err e) → repo' ≡ repo
      → result ≡ Err e → GivesChain anchor repo repo' store store' result
  refresh_refused : (set last : InForce) (begun : Watched Files) (e : TufError) → Begins anchor repo store begun set
      → Refreshed (session_in anchor) (state_of set repo begun) (state_of last repo' store') (Err e)
      → result ≡ Err e → GivesChain anchor repo repo' store store' result
  target_refused : (set last end : InForce) (mid : Watched Folders) (begun kept : Watched Files) (e : TufError)
      → Begins anchor repo store begun set
      → Refreshed (session_in anchor) (state_of set repo begun) (state_of last mid kept) (Ok tt)
      → Got (session_in anchor) trust_path (state_of last mid kept) (state_of end repo' store') (Err e) → result ≡ Err e
      → GivesChain anchor repo repo' store store' result
  chain_given : (set last end : InForce) (mid : Watched Folders) (begun kept : Watched Files) (chain : TrustChain)
      → Begins anchor repo store begun set
      → Refreshed (session_in anchor) (state_of set repo begun) (state_of last mid kept) (Ok tt)
      → Got (session_in anchor) trust_path (state_of last mid kept) (state_of end repo' store') (Ok chain) → result ≡ Ok chain
      → GivesChain anchor repo repo' store store' result

-- the chain is trusted from the given root at the moment, for the trust file
abbrev pub TrustsChain : Anchor → TrustChain → Type 0
TrustsChain anchor chain = Trusted anchor.crypto anchor.root anchor.now anchor.config.max_delegations trust_path chain

-- ---- the whole

abbrev pub root_of_tuf : TufError → RootFault
root_of_tuf tuf.NoMemory = NoMemory
root_of_tuf e = Tuf e

abbrev pub root_of_verify : Error → TrustChain → RootFault
root_of_verify verify.NoMemory chain = NoMemory
root_of_verify e chain = Verify e chain

-- the judgement of what is asked, under a trust file
abbrev pub JudgesGiven : VerifyInputs → List ℕ → Outside → Outside → Result JudgedBundle Error → Type 0
JudgesGiven given file before after result = JudgesBundle (asked_by given) file before.source after.source result

-- The top call is the chain and then the judgement under the chain's file; the first that refuses answers. The artifact stays
-- unread where there is no chain.
pub data Runs (given : VerifyInputs) (before after : Outside) (result : Result Acceptance RootFault) : Type 0 where
  chain_refused : (e : TufError) → GivesChain given.anchor before.repo after.repo before.store after.store (Err e)
      → after.source ≡ before.source
      → result ≡ Err (root_of_tuf e) → Runs given before after result
  judgement_refused : (chain : TrustChain) (e : Error) → GivesChain given.anchor before.repo after.repo before.store after.store (Ok chain)
      → JudgesGiven given chain.file before after (Err e)
      → result ≡ Err (root_of_verify e chain) → Runs given before after result
  accepted : (rooted : Acceptance) → GivesChain given.anchor before.repo after.repo before.store after.store (Ok rooted.chain)
      → JudgesGiven given rooted.chain.file before after
      (Ok (record { result = rooted.result; digests = rooted.digests })) → result ≡ Ok rooted → Runs given before after result

-- What an acceptance means: the chain that is handed back is trusted from the given root; its file has a reading as the trust
-- file, of which a verifier keeps this, and the bundle has a reading; these bytes are exactly those that a telling source gave up
-- to its end; over them the bundle is accepted under these terms with this report; and the digests are those of these bytes that
-- were needed, in their order.
pub record IsAccepted (given : VerifyInputs) (before after : Outside) (rooted : Acceptance) : Type 0 where
  pub trusted : TrustsChain given.anchor rooted.chain
  pub trust : TrustedRoot
  pub trust_read : trusted_root_of_bytes rooted.chain.file ≡ Ok trust
  pub material : Material
  pub usable : material_of trust ≡ Ok material
  pub reading : Bundle
  pub read : bundle_of_bytes given.bundle ≡ Ok reading
  pub bytes : List ℕ
  pub whole : ReadWhole before.source after.source given.max bytes
  pub judged : judged_of (terms_of (asked_by given) material) reading (Read bytes) ≡ Ok rooted.result
  pub means : Accepts (terms_of (asked_by given) material) reading (Read bytes) rooted.result
  pub digests : rooted.digests ≡ digests_by (needed_by given.policy reading) bytes
