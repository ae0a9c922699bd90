-- Each refusal of a search for a target and of its file has its cause.
use Rattle.std.proofs.Common.{◌≡◌, ◌≢◌, ◌⊎◌, inl, inr, ℕ, ◌<◌, nat_lt, List, Bool, true, Option, Some, None, Result, Ok, Err, refl, sym, ap, ◌∙◌, subst, arith}
use Rattle.std.specs.Prelude.{ok_or, IfErr}
use Rattle.std.proofs.lemmas.Bool.Decides.{nat_tests}
use Rattle.foundation.specs.Watched.{Watched, IfTold, Since}
use Rattle.foundation.specs.Results.{step_ok, err_same, no_both, refused_at}
use Rattle.sigstore_tuf_text.specs.declared.error.Error.{Error}
use Rattle.sigstore_tuf_text.specs.declared.error.Error.TheVariants as tuf
use Rattle.sigstore_tuf_text.specs.declared.error.Mismatch.TheVariants as mismatch
use Rattle.sigstore_tuf_text.specs.declared.error.TransportFault.TheVariants as transport
use Rattle.sigstore_types_parts.specs.Entries.{at_name}
use Rattle.sigstore_tuf_parts.specs.declared.targets.TargetFile.{TargetFile}
use Rattle.sigstore_tuf_parts.specs.declared.targets.Targets.{Targets}
use Rattle.sigstore_tuf_parts.proofs.PinCauses.{integrity_cause}
use Rattle.sigstore_tuf_rules.specs.declared.chain.TrustChain.{TrustChain}
use Rattle.sigstore_tuf_rules.specs.declared.config.UpdaterConfig.{UpdaterConfig}
use Rattle.sigstore_tuf_rules.specs.declared.documents.Held.{Held}
use Rattle.sigstore_tuf_rules.specs.declared.documents.InForce.{InForce}
use Rattle.sigstore_tuf_outside.specs.Repository.{Folders, Files, metadata_files, target_files}
use Rattle.sigstore_tuf_runs.specs.State.{Session, State}
use Rattle.sigstore_tuf_rules.specs.Names.{is_consistent, role_name_in, target_name_of, kept_target}
use Rattle.sigstore_tuf_runs.specs.Adopt.{FetchesNamed, LoadsNamed}
use Rattle.sigstore_tuf_rules.specs.declared.visit.Visit.{Visit}
use Rattle.sigstore_tuf_runs.specs.Target as target
use Rattle.sigstore_tuf_runs.specs.Target.{within_of, fetch_name_of, file_of, recalled_of, Recalls, TakesFile, Downloads, Obtains}
use Rattle.sigstore_tuf_runs.specs.Search as search
use Rattle.sigstore_tuf_runs.specs.Search.{entry_after, FindsVisits, GivesInfo}
use Rattle.sigstore_tuf_runs.specs.Chain as chain
use Rattle.sigstore_tuf_runs.specs.Chain.{chain_of, found_of, GivesChain, GetsTarget}
use Rattle.sigstore_tuf_runs.specs.Cause.{TransportCause}
use Rattle.sigstore_tuf_rules.specs.Authorised.{AreAuthorised, given_in}
use Rattle.sigstore_tuf_runs.specs.SearchCause.{FileCause, listed_too_long, without_digest, file_unfetched, file_differs, file_wanting, SearchCause, unserved, role_refused, role_unfetched, kept_role_unmet, kept_role_expired, malformed, search_wanting, TargetCause, searching, unlisted, of_file}
use Rattle.sigstore_tuf_runs.specs.Found.{Finds}
use Rattle.sigstore_tuf_rules.proofs.Updates.{ok_some}
use Rattle.sigstore_tuf_causes.proofs.Carrying.{fetched_had}
use Rattle.sigstore_tuf_causes.proofs.Refusals.{refused_if}
use Rattle.sigstore_tuf_causes.proofs.Causes.{is_want, transport_earlier}
use Rattle.sigstore_tuf_runs.proofs.Steps.{load_wants, save_wants}
use Rattle.sigstore_tuf_causes.proofs.Replay.{finds_since}
use Rattle.sigstore_tuf_causes.proofs.Searching.{Went, finds_went, went_finds, finds_authorised, chain_made}
use Rattle.sigstore_tuf_causes.proofs.SearchCauses.{Faulty, faulted, fetch_wanting, fetch_faulty, fetch_lacking, finds_cause}

is_less : (m n : ℕ) → nat_lt m n ≡ true → m < n
is_less m n h = grind (arith, nat_tests)

-- ---- the file

module _ (consistent : Bool) (config : UpdaterConfig) (entry : TargetFile) (path : List ℕ) where
  module _ (name : List ℕ) (name_is : target_name_of consistent entry path ≡ Some name) where
    faulty_cause : (old new : Watched Folders) (e : Error) → Faulty target_files name entry.length old new e → FileCause consistent config entry path old new e
    faulty_cause old new e (faulted fault t is) = file_unfetched name fault name_is t is
    faulty_cause old new e (fetch_wanting is) = file_wanting is

    unfetched_cause : (old new : Watched Folders) (e : Error) → FetchesNamed target_files name entry.length old new (Err e) → FileCause consistent config entry path old new e
    unfetched_cause old new e f = faulty_cause old new e (fetch_faulty target_files name entry.length old new e f)

    lacking : (old new : Watched Folders) → FetchesNamed target_files name entry.length old new (Ok None) → TransportCause target_files name entry.length old new transport.Absent
    lacking old new f = fetch_lacking target_files name entry.length old new f

    taken_cause : (bytes : List ℕ) (old new : Watched Folders) (store store' : Watched Files) (e : Error) → FetchesNamed target_files name entry.length old new (Ok (Some bytes)) → TakesFile entry path bytes store store' (Err e) → FileCause consistent config entry path old new e
    taken_cause bytes old new store store' e f (target.differs d c s is) =
        let same = err_same e d is in
        file_differs name bytes name_is (fetched_had target_files name entry.length old new bytes f) (integrity_cause (Some entry.length) (Some entry.hashes) bytes e (c ∙ ap Err (sym same)))
    taken_cause bytes old new store store' e f (target.unsaved d c s is) = file_wanting (err_same e d is ∙ save_wants bytes (kept_target path) store store' (Err d) s)
    taken_cause bytes old new store store' e f (target.given c s is) = no_both bytes e (sym is)

  -- the name that was found
  named : (name : List ℕ) → fetch_name_of consistent config entry path ≡ Ok name → target_name_of consistent entry path ≡ Some name
  unfolding fetch_name_of
  named name h = let a = step_ok (within_of config entry) _ name h in ok_some (target_name_of consistent entry path) (tuf.IntegrityMismatch mismatch.NoDigest) name a.2

  unnamed_cause : (old new : Watched Folders) (e : Error) → fetch_name_of consistent config entry path ≡ Err e → FileCause consistent config entry path old new e
  unfolding fetch_name_of
  unnamed_cause old new e h =
      refused_at (within_of config entry) _ e h
      (λ q. refused_if (nat_lt config.target_max_length entry.length) (tuf.IntegrityMismatch mismatch.TooLong) e q (λ b at. listed_too_long at (is_less config.target_max_length entry.length b)))
      (λ u q k. by_name (target_name_of consistent entry path) refl k)
    where
      by_name : (o : Option (List ℕ)) → target_name_of consistent entry path ≡ o → ok_or o (tuf.IntegrityMismatch mismatch.NoDigest) ≡ Err e → FileCause consistent config entry path old new e
      by_name None is k = without_digest is (sym (err_same _ e k))
      by_name (Some name) is k = cc

  pub download_cause : (old new : Watched Folders) (store store' : Watched Files) (e : Error) → Downloads consistent config entry path old new store store' (Err e) → FileCause consistent config entry path old new e
  download_cause old new store store' e (target.unnamed d w r s is) = by_want (is_want e)
    where
      by_want : (e ≡ tuf.NoMemory) ⊎ (e ≢ tuf.NoMemory) → FileCause consistent config entry path old new e
      by_want (inl h) = file_wanting h
      by_want (inr h) = unnamed_cause old new e (w (λ k. h (err_same e d is ∙ k)) ∙ ap Err (sym (err_same e d is)))
  download_cause old new store store' e (target.unfetched name d w f s is) = unfetched_cause name (named name w) old new e (subst (λ x. FetchesNamed target_files name entry.length old new (Err x)) (sym (err_same e d is)) f)
  download_cause old new store store' e (target.absent name w f s is) = file_unfetched name transport.Absent (named name w) (lacking name (named name w) old new f) (err_same e _ is)
  download_cause old new store store' e (target.fetched name bytes w f t) = taken_cause name (named name w) bytes old new store store' e f t

  recalled_wants : (loaded : Result (Option (List ℕ)) Error) (e : Error) → Err e ≡ recalled_of entry loaded → loaded ≡ Err e
  recalled_wants (Ok None) e h = cc
  recalled_wants (Ok (Some bytes)) e h = cc
  recalled_wants (Err d) e h = ap Err (sym (err_same e d h))

  pub recall_wants : (store store' : Watched Files) (e : Error) → Recalls entry path store store' (Err e) → e ≡ tuf.NoMemory
  recall_wants store store' e r = load_wants (kept_target path) store store' e (subst (λ l. LoadsNamed (kept_target path) store store' l) (recalled_wants r.loaded e r.result_is) r.loads)

  pub obtain_cause : (old new : Watched Folders) (store store' : Watched Files) (e : Error) → Obtains consistent config entry path old new store store' (Err e) → FileCause consistent config entry path old new e
  obtain_cause old new store store' e (target.unrecalled d r s is) = file_wanting (err_same e d is ∙ recall_wants store store' d r)
  obtain_cause old new store store' e (target.recalled bytes r s is) = no_both bytes e (sym is)
  obtain_cause old new store store' e (target.downloaded mid r d) = download_cause old new mid store' e d

-- ---- the cause, of a repository as it was seen earlier

module _ (session : Session) (path : List ℕ) (a b c : Watched Folders) (s : Since a b) where
  pub file_earlier : (consistent : Bool) (entry : TargetFile) (e : Error) → FileCause consistent session.config entry path b c e → FileCause consistent session.config entry path a c e
  file_earlier consistent entry e (listed_too_long is more) = listed_too_long is more
  file_earlier consistent entry e (without_digest none is) = without_digest none is
  file_earlier consistent entry e (file_unfetched name fault n t is) = file_unfetched name fault n (transport_earlier session target_files name entry.length a b c fault s t) is
  file_earlier consistent entry e (file_differs name bytes n h i) = file_differs name bytes n (subst (λ told. IfTold told (λ folders. target_files folders name ≡ Some bytes)) s.same h) i
  file_earlier consistent entry e (file_wanting is) = file_wanting is

module _ (session : Session) (path : List ℕ) (before old new : State) (same : before.documents ≡ old.documents) (s : Since before.repo old.repo) (e : Error) where
  kept_before : (v : Visit) (held : Held Targets) → at_name v.name old.documents.targets ≡ Some held → at_name v.name before.documents.targets ≡ Some held
  kept_before v held at = ap (λ (d : InForce). at_name v.name d.targets) same ∙ at

  search_earlier : SearchCause session path old new e → SearchCause session path before new e
  search_earlier (unserved t) = unserved t
  search_earlier (role_refused v bytes c n h r) =
      role_refused v bytes c n (subst (λ told. IfTold told (λ folders. metadata_files folders (role_name_in new.documents v.name) ≡ Some bytes)) s.same h) r
  search_earlier (role_unfetched v fault c n t is) =
      role_unfetched v fault c n (transport_earlier session metadata_files (role_name_in new.documents v.name) session.config.targets_max_length before.repo old.repo new.repo fault s t) is
  search_earlier (kept_role_unmet v held authority c at d m) = kept_role_unmet v held authority c (kept_before v held at) d m
  search_earlier (kept_role_expired v held c at x) = kept_role_expired v held c (kept_before v held at) x
  search_earlier (malformed v c is) = malformed v c is
  search_earlier (search_wanting is) = search_wanting is

  pub target_earlier : TargetCause session path old new e → TargetCause session path before new e
  target_earlier (searching c) = searching (search_earlier c)
  target_earlier (unlisted visits f n is) = unlisted visits f n is
  target_earlier (of_file visits entry f l c) =
      of_file visits entry f l (file_earlier session path before.repo old.repo new.repo s (is_consistent new.documents) entry e c)

-- ---- the whole

not_there : (path : List ℕ) (o : Option TargetFile) (e : Error) → found_of path o ≡ Err e → (o ≡ None) × (e ≡ tuf.TargetNotFound path)
not_there path None e h = (refl, sym (err_same _ e h))
not_there path (Some x) e h = cc

module _ (session : Session) (path : List ℕ) (old new : State) (e : Error) where
  abbrev C : Type 0
  C = TargetCause session path old new e

  by_want : (e ≢ tuf.NoMemory → C) → C
  by_want f = by_either (is_want e)
    where
      by_either : (e ≡ tuf.NoMemory) ⊎ (e ≢ tuf.NoMemory) → C
      by_either (inl is) = searching (search_wanting is)
      by_either (inr other) = f other

  -- after the visits
  module _ (mid : State) (visits : List Visit) (k : AreAuthorised session.crypto (given_in old.documents) mid.documents) (w : Went session path mid.documents visits) (s : Since old.repo mid.repo) where
    finds : new.documents ≡ mid.documents → Finds session path new.documents visits
    finds same = subst (λ (d : InForce). Finds session path d visits) (sym same) (went_finds session path (given_in old.documents) mid.documents visits k w)

    missing_cause : new.documents ≡ mid.documents → found_of path (entry_after mid.documents path visits) ≡ Err e → C
    missing_cause same h =
        let n = not_there path (entry_after mid.documents path visits) e h in
        unlisted visits (finds same) (ap (λ (d : InForce). entry_after d path visits) same ∙ n.0) n.1

    file_cause : (entry : TargetFile) → new.documents ≡ mid.documents → entry_after mid.documents path visits ≡ Some entry → FileCause (is_consistent mid.documents) session.config entry path mid.repo new.repo e → C
    file_cause entry same listed c =
        of_file visits entry (finds same) (ap (λ (d : InForce). entry_after d path visits) same ∙ listed)
        (file_earlier session path old.repo mid.repo new.repo s (is_consistent new.documents) entry e (subst (λ (d : InForce). FileCause (is_consistent d) session.config entry path mid.repo new.repo e) (sym same) c))

    given_cause : GivesChain session.config path visits mid new (Err e) → C
    given_cause (chain.unlisted d h same is) =
        by_want (λ other. missing_cause (ap (λ (x : State). x.documents) same) (h (λ n. other (err_same e d is ∙ n)) ∙ ap Err (sym (err_same e d is))))
    given_cause (chain.unobtained entry d l f same is) =
        file_cause entry same l (subst (FileCause (is_consistent mid.documents) session.config entry path mid.repo new.repo) (sym (err_same e d is)) (obtain_cause (is_consistent mid.documents) session.config entry path mid.repo new.repo mid.store new.store d f))
    given_cause (chain.unchained entry file d l f same h is) =
        by_want (λ other. no_both _ d (sym (chain_made session (given_in old.documents) path mid.documents visits k w entry file) ∙ h (λ n. other (err_same e d is ∙ n))))
    given_cause (chain.found entry file c l f same h is) = no_both c e (sym is)

  got_cause : AreAuthorised session.crypto (given_in old.documents) old.documents → GetsTarget session path old new (Err e) → C
  got_cause k (chain.unfound d f is) = searching (finds_cause session path old new e (subst (λ x. FindsVisits session path old new (Err x)) (sym (err_same e d is)) f))
  got_cause k (chain.visited visits mid f g) =
      given_cause mid visits (finds_authorised session path old mid (Ok visits) k f) (finds_went session path old mid visits f) (finds_since session path old mid (Ok visits) f) g

-- as it is promised
pub gets_cause : (session : Session) (path : List ℕ) (old new : State) (result : Result TrustChain Error) → AreAuthorised session.crypto (given_in old.documents) old.documents → GetsTarget session path old new result → IfErr result (TargetCause session path old new)
gets_cause session path old new (Ok chain) k g = tt
gets_cause session path old new (Err e) k g = got_cause session path old new e k g

pub info_cause : (session : Session) (path : List ℕ) (old new : State) (result : Result (Option TargetFile) Error) → GivesInfo session path old new result → IfErr result (SearchCause session path old new)
info_cause session path old new (Ok entry) g = tt
info_cause session path old new (Err e) (search.unfound d f is) = finds_cause session path old new e (subst (λ x. FindsVisits session path old new (Err x)) (sym (err_same e d is)) f)
info_cause session path old new (Err e) (search.uncopied visits f is) = search_wanting (err_same e tuf.NoMemory is)
info_cause session path old new (Err e) (search.given visits f is) = no_both _ e (sym is)
