-- When the top call has to accept, and what it answers where it hasn't to: over an offered chain, where nothing outside fails.
use Rattle.std.specs.Prelude.{◌≡◌, ◌⊎◌, ℕ, ◌≤◌, List, length, Some, Result, Ok, Err}
use Rattle.foundation.specs.Watched.{Watched}
use Rattle.sigstore_tuf_parts.specs.Document.{content_in}
use Rattle.sigstore_tuf_outside.specs.Repository.{Quiet, Files, Folders}
use Rattle.sigstore_tuf_text.specs.declared.error.Error.{Error as TufError}
use Rattle.sigstore_tuf_text.specs.declared.error.Error.TheVariants as tuf
use Rattle.sigstore_tuf_rules.specs.declared.chain.TrustChain.{TrustChain}
use Rattle.sigstore_tuf_offers.specs.Offer.{Offers, Warm}
use Rattle.sigstore_judgement.specs.declared.error.Error.{Error}
use Rattle.sigstore_judgement.specs.declared.report.JudgedBundle.{JudgedBundle}
use Rattle.sigstore_verify.specs.declared.from_root.Acceptance.{Acceptance}
use Rattle.sigstore_verify.specs.declared.from_root.RootFault.{RootFault}
use Rattle.sigstore_verify.specs.declared.from_root.RootFault.TheVariants.{NoMemory}
use Rattle.sigstore_judgement.specs.Under.{verdict_by}
use Rattle.sigstore_verify.specs.Inputs.{Anchor, VerifyInputs, Places, Outside, places_in, asked_by}
use Rattle.sigstore_verify.specs.FromRoot.{trust_path, root_of_verify}

-- ---- the verdict

-- what is made of a trust file and of an artifact's bytes, under what is given
abbrev pub verdict_of : VerifyInputs → List ℕ → List ℕ → Result JudgedBundle Error
verdict_of given file bytes = verdict_by (asked_by given) file bytes

-- the top call's answer by a verdict, with the chain whose trust file it is over
abbrev pub rooted_of : TrustChain → Result JudgedBundle Error → Result Acceptance RootFault
rooted_of chain (Ok kept) = Ok (record { result = kept.result; chain = chain; digests = kept.digests })
rooted_of chain (Err e) = Err (root_of_verify e chain)

-- ---- the outside

-- an object tells this content, and raises no fault
pub record TellsQuietly {A : Type 0} (before after : Watched A) (content : A) : Type 0 where
  pub told : before.told ≡ Some content
  pub quiet : Quiet before.faults after.faults

-- Nothing fails where documents come from: the repository tells folders that offer the chain, and the store tells files, each of which is
-- the chain's where the client reads it, as the files of an empty store are. What a store can't read or write is passed over, so that its
-- faults don't matter.
pub record OffersChain (anchor : Anchor) (before after : Places) (chain : TrustChain) : Type 0 where
  pub folders : Folders
  pub repo : TellsQuietly before.repo after.repo folders
  pub offers : Offers anchor.crypto folders anchor.root anchor.now anchor.config trust_path chain
  pub files : Files
  pub store : before.store.told ≡ Some files
  pub warm : Warm files trust_path chain (content_in offers.offered.trusted.roots.first).version

-- The store then has nothing else either, so that all of this holds again of a next call over it, while nobody else writes it.
pub record StaysWarm (store : Watched Files) {anchor : Anchor} {before after : Places} {chain : TrustChain}
    (offer : OffersChain anchor before after chain) : Type 0 where
  pub files : Files
  pub told : store.told ≡ Some files
  pub warm : Warm files trust_path chain (content_in offer.offers.offered.trusted.roots.first).version

-- Where a chain is offered and nothing fails where documents come from, that chain is given, or memory is wanting; and the store stays
-- warm. A client that refuses what is in order, such as every rotated root, keeps its users from every update.
abbrev pub CompletesChain : Anchor → Places → Places → Result TrustChain TufError → Type 0
CompletesChain anchor before after result =
    (chain : TrustChain) (offer : OffersChain anchor before after chain)
    → (result ≡ Err tuf.NoMemory) ⊎ ((result ≡ Ok chain) × StaysWarm after.store offer)

-- Nothing outside fails: a chain is offered, and the artifact's source tells these bytes, within the limit.
pub record Favours (given : VerifyInputs) (before after : Outside) (chain : TrustChain) (bytes : List ℕ) : Type 0 where
  pub offer : OffersChain given.anchor (places_in before) (places_in after) chain
  pub source : TellsQuietly before.source after.source bytes
  pub short : length bytes ≤ given.max

-- Where a chain is offered and nothing outside fails, the answer is want of memory, or the verdict over the chain's trust file: an
-- acceptance where there is nothing to refuse, and else the first refusal; and the store stays warm.
abbrev pub Completes : VerifyInputs → Outside → Outside → Result Acceptance RootFault → Type 0
Completes given before after result =
    (chain : TrustChain) (bytes : List ℕ) (favours : Favours given before after chain bytes)
    → (result ≡ Err NoMemory)
    ⊎ ((result ≡ rooted_of chain (verdict_of given chain.file bytes)) × StaysWarm after.store favours.offer)
