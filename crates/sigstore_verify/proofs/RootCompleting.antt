-- The top call over an offered chain gives the verdict over it, unless memory is wanting.
use Rattle.std.proofs.Common.{◌≡◌, ◌⊎◌, inl, inr, ℕ, ◌≤◌, List, length, Some, Result, Ok, Err, sym, ap, ◌∙◌, subst}
use Rattle.std.specs.Prelude.{⊤}
use Rattle.foundation.specs.Watched.{Watched}
use Rattle.foundation.specs.Results.{ok_same, err_same, no_both}
use Rattle.sigstore_tuf_text.specs.declared.error.Error.{Error as TufError}
use Rattle.sigstore_tuf_text.specs.declared.error.Error.TheVariants as tuf
use Rattle.sigstore_tuf_parts.specs.Document.{content_in}
use Rattle.sigstore_tuf_rules.specs.declared.chain.TrustChain.{TrustChain}
use Rattle.sigstore_tuf_rules.specs.declared.documents.InForce.{InForce}
use Rattle.sigstore_tuf_outside.specs.Repository.{Quiet, Files, Folders}
use Rattle.sigstore_tuf_runs.specs.State.{State, state_of}
use Rattle.sigstore_tuf_rules.specs.Update.{first_root_of}
use Rattle.sigstore_tuf_runs.specs.Run.{Attaches}
use Rattle.sigstore_tuf_runs.specs.Promises.{Refreshed, Got}
use Rattle.sigstore_tuf_offers.specs.Offer.{Offers, Warm}
use Rattle.sigstore_tuf_causes.proofs.Carrying.{refresh_carried}
use Rattle.sigstore_tuf_offers.proofs.Completing.{Done, wanting, done}
use Rattle.sigstore_tuf_causes.proofs.Faults.{quiet_first, quiet_second, not_both}
use Rattle.sigstore_tuf_offers.proofs.TargetCompleting.{GivenChain, chain_wanting, chain_given as is_given, gets_since, first_wants, StaysWarm as StaysTold, Going, Arrived, attached_done, refreshed_done, target_done}
use Rattle.sigstore_judgement.specs.declared.error.Error.{Error}
use Rattle.sigstore_judgement.specs.declared.error.Error.TheVariants as verify
use Rattle.sigstore_judgement.specs.declared.report.JudgedBundle.{JudgedBundle}
use Rattle.sigstore_verify.specs.declared.from_root.Acceptance.{Acceptance}
use Rattle.sigstore_verify.specs.declared.from_root.RootFault.{RootFault}
use Rattle.sigstore_verify.specs.declared.from_root.RootFault.TheVariants as root
use Rattle.sigstore_verify.specs.Inputs.{Anchor, VerifyInputs, Places, Outside, places_in, asked_by}
use Rattle.sigstore_judgement.proofs.Completing.{judge_completes}
use Rattle.sigstore_verify.specs.FromRoot.{trust_path, session_in, Begins, GivesChain, root_refused, attach_refused, refresh_refused, target_refused, chain_given, JudgesGiven, root_of_tuf, root_of_verify, Runs, chain_refused, judgement_refused, accepted}
use Rattle.sigstore_verify.specs.Complete.{verdict_of, rooted_of, TellsQuietly, OffersChain, StaysWarm, CompletesChain, Favours, Completes}

-- ---- the chain

module _ (anchor : Anchor) (folders : Folders) (files : Files) (chain : TrustChain) (offer : Offers anchor.crypto folders anchor.root anchor.now anchor.config trust_path chain)
    (warm : Warm files trust_path chain (content_in offer.offered.trusted.roots.first).version) where
  abbrev Goes : State → Type 0
  Goes state = Going anchor.crypto folders anchor.root anchor.now anchor.config trust_path chain offer state

  abbrev StoreWarm : Watched Files → Type 0
  StoreWarm store = StaysTold anchor.crypto folders anchor.root anchor.now anchor.config trust_path chain offer store

  abbrev Arrives : State → Type 0
  Arrives state = Arrived anchor.crypto folders anchor.root anchor.now anchor.config trust_path chain offer state

  attached_so : (set : InForce) (repo : Watched Folders) (store : Watched Files) (new : State) (result : Result ⊤ TufError) → first_root_of anchor.crypto anchor.root ≡ Ok set → repo.told ≡ Some folders → store.told ≡ Some files
      → Attaches anchor.crypto (state_of set repo store) new result → Done (Goes new) result
  attached_so set repo store new result made told stored a = attached_done anchor.crypto folders anchor.root anchor.now anchor.config trust_path chain offer set repo store files new result made told stored warm a

  must_go : (new : State) → Done (Goes new) (Ok tt) → Goes new
  must_go new (wanting h) = no_both tt tuf.NoMemory h
  must_go new (done h g) = g

  must_arrive : (new : State) → Done (Arrives new) (Ok tt) → Arrives new
  must_arrive new (wanting h) = no_both tt tuf.NoMemory h
  must_arrive new (done h g) = g

  wants_only : {P : Type 0} (e : TufError) → Done P (Err e) → e ≡ tuf.NoMemory
  wants_only e (wanting h) = err_same e tuf.NoMemory h
  wants_only e (done h g) = no_both tt e (sym h)

  module _ (repo repo' : Watched Folders) (store store' : Watched Files) (told : repo.told ≡ Some folders) (stored : store.told ≡ Some files) (quiet : Quiet repo.faults repo'.faults) where
    begun : (set : InForce) (kept : Watched Files) → Begins anchor repo store kept set → Goes (state_of set repo kept)
    begun set kept b = must_go (state_of set repo kept) (attached_so b.first repo store (state_of set repo kept) (Ok tt) b.first_is told stored b.attached.attaches)

    searched : (set last end : InForce) (mid : Watched Folders) (kept held : Watched Files) (result : Result TrustChain TufError) → Begins anchor repo store kept set → Refreshed (session_in anchor) (state_of set repo kept) (state_of last mid held) (Ok tt)
        → Got (session_in anchor) trust_path (state_of last mid held) (state_of end repo' store') result → GivenChain (StoreWarm store') chain result
    searched set last end mid kept held result b r g =
        let first = (refresh_carried (session_in anchor) (state_of set repo kept) (state_of last mid held) (Ok tt) r.runs).since in
        let second = gets_since (session_in anchor) trust_path (state_of last mid held) (state_of end repo' store') result g.gets in
        let arrived = must_arrive (state_of last mid held)
        (refreshed_done anchor.crypto folders anchor.root anchor.now anchor.config trust_path chain offer (state_of set repo kept) (state_of last mid held) (Ok tt) (begun set kept b) (quiet_first repo.faults mid.faults repo'.faults first.later second.later quiet) r.runs) in
        target_done anchor.crypto folders anchor.root anchor.now anchor.config trust_path chain offer (state_of last mid held) (state_of end repo' store') result arrived (quiet_second repo.faults mid.faults repo'.faults first.later second.later quiet) g.gets

    chain_completes : (result : Result TrustChain TufError) → GivesChain anchor repo repo' store store' result → GivenChain (StoreWarm store') chain result
    chain_completes result (root_refused e h r s is) = chain_wanting (is ∙ ap Err (first_wants anchor.crypto folders anchor.root anchor.now anchor.config trust_path chain offer e h))
    chain_completes result (attach_refused first set e made a r is) =
        chain_wanting (is ∙ ap Err (wants_only e (attached_so first repo store (state_of set repo store') (Err e) made told stored a.attaches)))
    chain_completes result (refresh_refused set last kept e b r is) =
        chain_wanting (is ∙ ap Err (wants_only e (refreshed_done anchor.crypto folders anchor.root anchor.now anchor.config trust_path chain offer (state_of set repo kept) (state_of last repo' store') (Err e) (begun set kept b) quiet r.runs)))
    chain_completes result (target_refused set last end mid kept held e b r g is) = by_given (searched set last end mid kept held (Err e) b r g)
      where
        by_given : GivenChain (StoreWarm store') chain (Err e) → GivenChain (StoreWarm store') chain result
        by_given (chain_wanting h) = chain_wanting (is ∙ ap Err (err_same e tuf.NoMemory h))
        by_given (is_given h w) = no_both chain e (sym h)
    chain_completes result (chain_given set last end mid kept held c b r g is) = by_given (searched set last end mid kept held (Ok c) b r g)
      where
        by_given : GivenChain (StoreWarm store') chain (Ok c) → GivenChain (StoreWarm store') chain result
        by_given (chain_wanting h) = no_both c tuf.NoMemory h
        by_given (is_given h w) = is_given (is ∙ h) w

-- the call that gives it
module _ (anchor : Anchor) (before after : Places) (chain : TrustChain) (o : OffersChain anchor before after chain) where
  abbrev pub AfterChain : Type 0
  AfterChain = StaysTold anchor.crypto o.folders anchor.root anchor.now anchor.config trust_path chain o.offers after.store

  pub offered_chain : (answer : Result TrustChain TufError) → GivesChain anchor before.repo after.repo before.store after.store answer → GivenChain AfterChain chain answer
  offered_chain answer g = chain_completes anchor o.folders o.files chain o.offers o.warm before.repo after.repo before.store after.store o.repo.told o.store o.repo.quiet answer g

  pub warm_so : AfterChain → StaysWarm after.store o
  warm_so t = record { files = t.files; told = t.told; warm = t.so }

  pub chain_answered : (answer : Result TrustChain TufError) → GivenChain AfterChain chain answer → (answer ≡ Err tuf.NoMemory) ⊎ ((answer ≡ Ok chain) × StaysWarm after.store o)
  chain_answered answer (chain_wanting h) = inl h
  chain_answered answer (is_given h w) = inr (h, warm_so w)

pub gives_complete : (anchor : Anchor) (before after : Places) (result : Result TrustChain TufError) → GivesChain anchor before.repo after.repo before.store after.store result → CompletesChain anchor before after result
gives_complete anchor before after result g chain o = chain_answered anchor before after chain o result (offered_chain anchor before after chain o result g)

-- ---- the judgement

-- over bytes that are told within the limit, where the source is quiet, the judgement is the verdict
judge_so : (given : VerifyInputs) (before after : Outside) (file bytes : List ℕ) (source : TellsQuietly before.source after.source bytes) (short : length bytes ≤ given.max)
    (result : Result JudgedBundle Error) → JudgesGiven given file before after result → (result ≡ Err verify.NoMemory) ⊎ (result ≡ verdict_of given file bytes)
judge_so given before after file bytes source short result j =
    judge_completes (asked_by given) before.source after.source file bytes source.told (λ rose. not_both before.source.faults after.source.faults rose source.quiet) short result j

-- ---- the whole

module _ (given : VerifyInputs) (before after : Outside) (chain : TrustChain) (bytes : List ℕ) (f : Favours given before after chain bytes) where
  abbrev Answered : Result Acceptance RootFault → Type 0
  Answered result = (result ≡ Err root.NoMemory) ⊎ ((result ≡ rooted_of chain (verdict_of given chain.file bytes)) × StaysWarm after.store f.offer)

  abbrev AfterWarm : Type 0
  AfterWarm = AfterChain given.anchor (places_in before) (places_in after) chain f.offer

  chain_of : (answer : Result TrustChain TufError) → GivesChain given.anchor before.repo after.repo before.store after.store answer → GivenChain AfterWarm chain answer
  chain_of answer g = offered_chain given.anchor (places_in before) (places_in after) chain f.offer answer g

  by_judgement : (result : Result Acceptance RootFault) (answer : Result JudgedBundle Error) → AfterWarm → result ≡ rooted_of chain answer → (answer ≡ Err verify.NoMemory) ⊎ (answer ≡ verdict_of given chain.file bytes) → Answered result
  by_judgement result answer w is (inl h) = inl (is ∙ ap (rooted_of chain) h)
  by_judgement result answer w is (inr h) = inr (is ∙ ap (rooted_of chain) h, warm_so given.anchor (places_in before) (places_in after) chain f.offer w)

  pub run_complete : (result : Result Acceptance RootFault) → Runs given before after result → Answered result
  run_complete result (chain_refused e g s is) = by_given (chain_of (Err e) g)
    where
      by_given : GivenChain AfterWarm chain (Err e) → Answered result
      by_given (chain_wanting h) = inl (is ∙ ap (λ e. Err (root_of_tuf e)) (err_same e tuf.NoMemory h))
      by_given (is_given h w) = no_both chain e (sym h)
  run_complete result (judgement_refused c e g j is) = by_given (chain_of (Ok c) g)
    where
      by_given : GivenChain AfterWarm chain (Ok c) → Answered result
      by_given (chain_wanting h) = no_both c tuf.NoMemory h
      by_given (is_given h w) =
          let same = ok_same c chain h in
          by_judgement result (Err e) w (is ∙ ap (λ c. Err (root_of_verify e c)) same)
          (judge_so given before after chain.file bytes f.source f.short (Err e) (subst (λ (c : TrustChain). JudgesGiven given c.file before after (Err e)) same j))
  run_complete result (accepted rooted g j is) = by_given (chain_of (Ok rooted.chain) g)
    where
      by_given : GivenChain AfterWarm chain (Ok rooted.chain) → Answered result
      by_given (chain_wanting h) = no_both rooted.chain tuf.NoMemory h
      by_given (is_given h w) =
          let same = ok_same rooted.chain chain h in
          by_judgement result (Ok (record { result = rooted.result; digests = rooted.digests })) w (is ∙ ap (λ c. Ok (record { result = rooted.result; chain = c; digests = rooted.digests })) same)
          (judge_so given before after chain.file bytes f.source f.short (Ok (record { result = rooted.result; digests = rooted.digests })) (subst (λ (c : TrustChain). JudgesGiven given c.file before after (Ok (record { result = rooted.result; digests = rooted.digests }))) same j))

pub runs_complete : (given : VerifyInputs) (before after : Outside) (result : Result Acceptance RootFault) → Runs given before after result → Completes given before after result
runs_complete given before after result runs chain bytes f = run_complete given before after chain bytes f result runs
