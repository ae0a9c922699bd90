-- A search over the documents of an offered chain gives the chain, unless memory is wanting.
use Rattle.std.proofs.Common.{◌≡◌, ◌≢◌, ◌⊎◌, inl, inr, ℕ, ◌+◌, ◌^◌, ◌≤◌, ◌<◌, nat_lt, List, [], ◌∷◌, map, length, Bool, true, false, if◌then◌else◌, Option, Some, None, Result, Ok, Err, codes, refl, sym, ap, ◌∙◌, subst, arith, le_refl}
use Rattle.std.specs.Prelude.{⊤, IfSome, is_some, ok_or, option_map, option_and_then}
use Rattle.std.specs.List.{AllByRecursion, last_or}
use Rattle.std.proofs.lemmas.Bool.Decides.{nat_tests}
use Rattle.jiff_core.specs.declared.timestamp.Timestamp as jiff
use Rattle.foundation.specs.Watched.{Watched, Since}
use Rattle.foundation.specs.Results.{ok_same, err_same, some_same, no_both}
use Rattle.sigstore_types_parts.specs.Entries.{at_name}
use Rattle.sigstore_keys.specs.Crypto.{Crypto}
use Rattle.sigstore_tuf_text.specs.declared.error.Error.{Error}
use Rattle.sigstore_tuf_text.specs.declared.error.Error.TheVariants as tuf
use Rattle.sigstore_tuf_text.specs.declared.error.Mismatch.TheVariants as mismatch
use Rattle.sigstore_tuf_parts.specs.declared.root.Root as declared
use Rattle.sigstore_tuf_parts.specs.declared.targets.TargetFile.{TargetFile}
use Rattle.sigstore_tuf_parts.specs.declared.targets.Targets.{Targets}
use Rattle.sigstore_tuf_parts.specs.Document.{Document, content_in}
use Rattle.sigstore_tuf_text.specs.Names.{timestamp_name, snapshot_name, targets_name}
use Rattle.sigstore_tuf_parts.specs.RootRoles.{root_document, meets_role_of}
use Rattle.sigstore_tuf_parts.proofs.ReadExact.{version_bound}
use Rattle.sigstore_tuf_parts.proofs.IntegrityLaws.{integrity_exactly}
use Rattle.sigstore_tuf_rules.specs.declared.chain.RoleDoc.{RoleDoc}
use Rattle.sigstore_tuf_rules.specs.declared.chain.TrustChain.{TrustChain}
use Rattle.sigstore_tuf_rules.specs.declared.config.UpdaterConfig.{UpdaterConfig}
use Rattle.sigstore_tuf_rules.specs.declared.documents.Held.{Held}
use Rattle.sigstore_tuf_rules.specs.declared.documents.InForce.{InForce}
use Rattle.sigstore_tuf_rules.specs.Documents.{content_of}
use Rattle.sigstore_tuf_outside.specs.Repository.{Quiet, Folders, Files, target_files}
use Rattle.sigstore_tuf_outside.specs.Store.{with_file}
use Rattle.sigstore_tuf_rules.specs.Names.{is_consistent, target_name_of, kept_target}
use Rattle.sigstore_tuf_runs.specs.State.{Session, State, session_of, state_of}
use Rattle.sigstore_tuf_runs.specs.Adopt.{FetchesNamed, LoadsNamed}
use Rattle.sigstore_tuf_rules.specs.Update.{first_root_of}
use Rattle.sigstore_tuf_runs.specs.Run.{Attaches, refresh_steps, RunsSteps}
use Rattle.sigstore_tuf_runs.specs.Target.{within_of, recalled_of, file_of, TakesFile, differs, unsaved, given, fetch_name_of, Downloads, unnamed, unfetched, absent, fetched, Obtains, unrecalled, recalled, downloaded}
use Rattle.sigstore_tuf_rules.specs.declared.visit.Visit.{Visit}
use Rattle.sigstore_tuf_rules.specs.Order.{is_pinned}
use Rattle.sigstore_tuf_runs.specs.Search.{is_held, listed_by, entry_after}
use Rattle.sigstore_tuf_runs.specs.Chain.{role_doc_in, chain_of, found_of, GivesChain, unlisted, unobtained, unchained, found, GetsTarget, unfound, visited}
use Rattle.sigstore_tuf_offers.specs.Offer.{RootsEnd, IsNoneOr, later_in, AreKeptAfter, Offers, Warm}
use Rattle.sigstore_tuf_rules.specs.Trusted.{visit_in, documents_in, IsTrustedVisit}
use Rattle.sigstore_tuf_causes.proofs.Carrying.{since_same, since_joins, fetched_since, loaded_same}
use Rattle.sigstore_tuf_causes.proofs.Causes.{is_want}
use Rattle.sigstore_tuf_runs.proofs.Steps.{load_wants, save_wants}
use Rattle.sigstore_tuf_causes.proofs.Faults.{quiet_first, quiet_second}
use Rattle.sigstore_tuf_causes.proofs.StoredLaws.{recalled_some}
use Rattle.sigstore_tuf_causes.proofs.RolesMet.{step_to, role_ok}
use Rattle.sigstore_tuf_offers.proofs.Completing.{Done, wanting, done, Given, fetch_given, of_given, of_ungiven, TellsSo, tells_same, saved_so, loaded_is, found_wanted}
use Rattle.sigstore_tuf_causes.proofs.Followed.{each_map}
use Rattle.sigstore_tuf_causes.proofs.Replay.{finds_since}
use Rattle.sigstore_tuf_offers.proofs.ChainVisits.{held_in, content_held, held_some}
use Rattle.sigstore_tuf_offers.proofs.Offered.{AreOf, Begun, begun, Offered, OfferedAs, offered_of}
use Rattle.sigstore_tuf_offers.proofs.RootsCompleting.{number_of, low_suits, way_bound, IsWarm, stays_warm, stays_elsewhere, OnRoots, Somewhere, attach_done}
use Rattle.sigstore_tuf_offers.proofs.RefreshCompleting.{Topped, refresh_done}
use Rattle.sigstore_tuf_offers.proofs.SearchCompleting.{bytes_at, AreHeld, held_at, FoundSo, found_wanting, found_all, Ended, finds_done}

not_lower : (a b : ℕ) → b ≤ a → nat_lt a b ≡ false
not_lower a b h = grind (arith, nat_tests)

recalled_err : (entry : TargetFile) (loaded : Result (Option (List ℕ)) Error) (e : Error) → Err e ≡ recalled_of entry loaded → loaded ≡ Err e
recalled_err entry (Ok None) e h = cc
recalled_err entry (Ok (Some bytes)) e h = cc
recalled_err entry (Err d) e h = sym h

-- ---- what a search leaves of the repository

downloads_since : (consistent : Bool) (config : UpdaterConfig) (entry : TargetFile) (path : List ℕ) (repo repo' : Watched Folders) (store store' : Watched Files) (result : Result (List ℕ) Error) → Downloads consistent config entry path repo repo' store store' result → Since repo repo'
downloads_since consistent config entry path repo repo' store store' result (unnamed e w r s is) = since_same repo repo' r
downloads_since consistent config entry path repo repo' store store' result (unfetched name e w f s is) = fetched_since target_files name entry.length repo repo' (Err e) f
downloads_since consistent config entry path repo repo' store store' result (absent name w f s is) = fetched_since target_files name entry.length repo repo' (Ok None) f
downloads_since consistent config entry path repo repo' store store' result (fetched name bytes w f t) = fetched_since target_files name entry.length repo repo' (Ok (Some bytes)) f

obtains_since : (consistent : Bool) (config : UpdaterConfig) (entry : TargetFile) (path : List ℕ) (repo repo' : Watched Folders) (store store' : Watched Files) (result : Result (List ℕ) Error) → Obtains consistent config entry path repo repo' store store' result → Since repo repo'
obtains_since consistent config entry path repo repo' store store' result (unrecalled e r s is) = since_same repo repo' s
obtains_since consistent config entry path repo repo' store store' result (recalled bytes r s is) = since_same repo repo' s
obtains_since consistent config entry path repo repo' store store' result (downloaded mid r d) = downloads_since consistent config entry path repo repo' mid store' result d

chain_since : (config : UpdaterConfig) (path : List ℕ) (visits : List Visit) (old new : State) (result : Result TrustChain Error) → GivesChain config path visits old new result → Since old.repo new.repo
chain_since config path visits old new result (unlisted e h same is) = since_same old.repo new.repo (ap (λ (s : State). s.repo) same)
chain_since config path visits old new result (unobtained entry e at h d is) = obtains_since (is_consistent old.documents) config entry path old.repo new.repo old.store new.store (Err e) h
chain_since config path visits old new result (unchained entry file e at h d c is) = obtains_since (is_consistent old.documents) config entry path old.repo new.repo old.store new.store (Ok file) h
chain_since config path visits old new result (found entry file x at h d c is) = obtains_since (is_consistent old.documents) config entry path old.repo new.repo old.store new.store (Ok file) h

pub gets_since : (session : Session) (path : List ℕ) (old new : State) (result : Result TrustChain Error) → GetsTarget session path old new result → Since old.repo new.repo
gets_since session path old new result (unfound e f is) = finds_since session path old new (Err e) f
gets_since session path old new result (visited visits mid f g) =
    since_joins old.repo mid.repo new.repo (finds_since session path old mid (Ok visits) f) (chain_since session.config path visits mid new result g)

last_mapped : {A B : Type 0} (f : A → B) (o : Option A) (xs : List A) → last_or (option_map f o) (map f xs) ≡ option_map f (last_or o xs)
last_mapped f o [] = refl
last_mapped f o (x ∷ xs) = last_mapped f (Some x) xs

-- want of memory, or this chain, and P
pub data GivenChain (P : Type 0) (chain : TrustChain) (result : Result TrustChain Error) : Type 0 where
  chain_wanting : result ≡ Err tuf.NoMemory → GivenChain P chain result
  chain_given : result ≡ Ok chain → P → GivenChain P chain result

module _ (session : Session) (folders : Folders) (path : List ℕ) (chain : TrustChain) (o : Offered session folders path chain) (from : ℕ) (whole : List (List ℕ)) (whole_bound : from + length whole < 2 ^ 64) where
  abbrev Ready : State → Type 0
  Ready state = Topped session folders path chain o from whole whole_bound state

  abbrev Finished : State → Type 0
  Finished state = Ended session folders path chain o from whole whole_bound state

  -- ---- the roles

  -- whose document is there is pinned
  pinned_so : (name : List ℕ) (held : Held Targets) → held_in chain.roles name ≡ Some held → is_pinned (content_of o.snap) name ≡ true
  pinned_so name held at = held_some name (λ name. is_pinned (content_of o.snap) name ≡ true) chain.roles held (each_map _ _ chain.roles (λ r t. by_bytes r r.bytes t) o.roles) at
    where
      by_bytes : (r : RoleDoc) (b : Option (List ℕ)) → IsTrustedVisit session.crypto (content_in {T = declared.Root} o.root) (content_of o.snap) (documents_in chain.roles) session.now (visit_in r) b
          → IfSome b (λ b. is_pinned (content_of o.snap) r.name ≡ true)
      by_bytes r None t = tt
      by_bytes r (Some b) t = ap is_some t.pin_is

  module _ (set : InForce) (are : AreOf chain.roles set) (held : AreHeld set chain.roles) where
    -- a role's document in force is that of the chain, or neither is there
    bytes_so : (r : RoleDoc) → IfSome r.bytes (λ b. bytes_at set r.name ≡ Some b) → IsTrustedVisit session.crypto (content_in {T = declared.Root} o.root) (content_of o.snap) (documents_in chain.roles) session.now (visit_in r) r.bytes
        → bytes_at set r.name ≡ r.bytes
    bytes_so r h t = by_bytes r.bytes h t
      where
        by_held : (x : Option (Held Targets)) → at_name r.name set.targets ≡ x → is_pinned (content_of o.snap) r.name ≡ false → option_map (λ (held : Held Targets). held.bytes) x ≡ None
        by_held None at free = refl
        by_held (Some x) at free = let never : true ≡ false = sym (pinned_so r.name x (are r.name x at)) ∙ free in cc

        by_bytes : (b : Option (List ℕ)) → IfSome b (λ b. bytes_at set r.name ≡ Some b)
            → IsTrustedVisit session.crypto (content_in {T = declared.Root} o.root) (content_of o.snap) (documents_in chain.roles) session.now (visit_in r) b → bytes_at set r.name ≡ b
        by_bytes None h t = by_held (at_name r.name set.targets) refl t
        by_bytes (Some b) h t = h

    role_is : (r : RoleDoc) → bytes_at set r.name ≡ r.bytes → role_doc_in set (visit_in r) ≡ r
    role_is r e = λ i. record { name = r.name; delegator = r.delegator; bytes = e i }

    roles_are : (rs : List RoleDoc) → AreHeld set rs
        → AllByRecursion (λ (r : RoleDoc). IsTrustedVisit session.crypto (content_in {T = declared.Root} o.root) (content_of o.snap) (documents_in chain.roles) session.now (visit_in r) r.bytes) rs → map (role_doc_in set) (map visit_in rs) ≡ rs
    roles_are [] h t = refl
    roles_are (r ∷ rs) h t = ap (λ x. x ∷ map (role_doc_in set) (map visit_in rs)) (role_is r (bytes_so r h.0 t.0)) ∙ ap (λ xs. r ∷ xs) (roles_are rs h.1 t.1)

    -- ---- the entry

    role_held : (name : List ℕ) (x : Held Targets) → held_in chain.roles name ≡ Some x → at_name name set.targets ≡ Some x
    role_held name x at = by_held (held_at set name (held_some name (λ name. is_held set name ≡ true) chain.roles x (each_map _ _ chain.roles (λ r h. by_bytes r.name r.bytes h) held) at))
      where
        by_some : (y : Option (Held Targets)) (b : List ℕ) → option_map (λ (held : Held Targets). held.bytes) y ≡ Some b → is_some y ≡ true
        by_some None b e = cc
        by_some (Some y) b e = refl

        by_bytes : (name : List ℕ) (b : Option (List ℕ)) → IfSome b (λ b. bytes_at set name ≡ Some b) → IfSome b (λ b. is_held set name ≡ true)
        by_bytes name None h = tt
        by_bytes name (Some b) h = by_some (at_name name set.targets) b h

        by_held : (y : Held Targets) × (at_name name set.targets ≡ Some y) → at_name name set.targets ≡ Some x
        by_held (y, there) = there ∙ sym (are name y there) ∙ at

    listed_so : (name : List ℕ) → option_and_then (λ (doc : Targets). at_name path doc.targets) (documents_in chain.roles name) ≡ Some chain.target → listed_by set path name ≡ Some chain.target
    listed_so name h = by_held (held_in chain.roles name) refl (sym (ap (option_and_then (λ (doc : Targets). at_name path doc.targets)) (content_held name chain.roles)) ∙ h)
      where
        by_held : (x : Option (Held Targets)) → held_in chain.roles name ≡ x → option_and_then (λ (doc : Targets). at_name path doc.targets) (option_map content_of x) ≡ Some chain.target → listed_by set path name ≡ Some chain.target
        by_held None at e = cc
        by_held (Some x) at e = ap (option_and_then (λ (held : Held Targets). at_name path (content_of held).targets)) (role_held name x at) ∙ e

    entry_is : entry_after set path (map visit_in chain.roles) ≡ Some chain.target
    entry_is = ap (option_and_then (λ (v : Visit). listed_by set path v.name)) (last_mapped visit_in None chain.roles) ∙ by_last (last_or None chain.roles) o.listed
      where
        by_last : (r : Option RoleDoc) → option_and_then (λ (doc : Targets). at_name path doc.targets) (option_and_then (λ (r : RoleDoc). documents_in chain.roles r.name) r) ≡ Some chain.target
            → option_and_then (λ (v : Visit). listed_by set path v.name) (option_map visit_in r) ≡ Some chain.target
        by_last None h = cc
        by_last (Some r) h = listed_so r.name h

  -- ---- the file

  is_file : file_of chain.target chain.file ≡ Ok tt
  is_file = (integrity_exactly (Some chain.target.length) (Some chain.target.hashes) chain.file).1 o.file_pinned

  within : within_of session.config chain.target ≡ Ok tt
  within = ap (λ b. if b then Err (tuf.IntegrityMismatch mismatch.TooLong) else Ok tt) (not_lower session.config.target_max_length chain.target.length o.file_short)

  abbrev Tells : Watched Files → Type 0
  Tells store = TellsSo (IsWarm session folders path chain o from whole whole_bound) store

  -- want of memory, or the chain's file
  data GivenFile (store : Watched Files) (result : Result (List ℕ) Error) : Type 0 where
    file_wanting : result ≡ Err tuf.NoMemory → GivenFile store result
    file_given : result ≡ Ok chain.file → Tells store → GivenFile store result

  warm_file : (files : Files) → IsWarm session folders path chain o from whole whole_bound files → IsWarm session folders path chain o from whole whole_bound (with_file (kept_target path) chain.file files)
  warm_file =
      stays_warm session folders path chain o from whole whole_bound (kept_target path) chain.file (inl refl) (inl refl) (inl refl) (inr refl)
      (stays_elsewhere session folders path chain o from whole whole_bound (kept_target path) chain.file (λ n. refl))

  loaded_tells : (store store' : Watched Files) (loaded : Result (Option (List ℕ)) Error) → Tells store → LoadsNamed (kept_target path) store store' loaded → Tells store'
  loaded_tells store store' loaded w l = tells_same (IsWarm session folders path chain o from whole whole_bound) store store' (loaded_same (kept_target path) store store' loaded l) w

  module _ (repo repo' : Watched Folders) (told : repo.told ≡ Some folders) (quiet : Quiet repo.faults repo'.faults) where
    fetched_so : (name : List ℕ) (result : Result (Option (List ℕ)) Error) → name ≡ o.name → FetchesNamed target_files name chain.target.length repo repo' result → Given (Some chain.file) result
    fetched_so name result same f = fetch_given target_files name chain.target.length repo repo' folders (Some chain.file) result told (ap folders.targets same ∙ o.file_served.there) o.file_served.short quiet f

    taken_done : (store store' : Watched Files) (result : Result (List ℕ) Error) → Tells store → TakesFile chain.target path chain.file store store' result → GivenFile store' result
    taken_done store store' result w (differs e f s is) = no_both tt e (sym is_file ∙ f)
    taken_done store store' result w (unsaved e f s is) = file_wanting (is ∙ ap Err (save_wants chain.file (kept_target path) store store' (Err e) s))
    taken_done store store' result w (given f s is) = file_given is (saved_so (IsWarm session folders path chain o from whole whole_bound) chain.file (kept_target path) store store' (Ok tt) warm_file s w)

    -- the names are as the root of the chain says
    module _ (consistent : Bool) (so : consistent ≡ (content_in {T = declared.Root} o.root).consistent_snapshot) where
      named : fetch_name_of consistent session.config chain.target path ≡ Ok o.name
      unfolding fetch_name_of
      named =
          step_to (within_of session.config chain.target) _ tt within
          ∙ ap (λ n. ok_or n (tuf.IntegrityMismatch mismatch.NoDigest)) (ap (λ c. target_name_of c chain.target path) so ∙ o.name_is)

      is_name : (name : List ℕ) → fetch_name_of consistent session.config chain.target path ≡ Ok name → name ≡ o.name
      is_name name l = ok_same name o.name (sym l ∙ named)

      download_done : (store store' : Watched Files) (result : Result (List ℕ) Error) → Tells store → Downloads consistent session.config chain.target path repo repo' store store' result → GivenFile store' result
      download_done store store' result w (unnamed e l r s is) = by_want (is_want e)
        where
          by_want : (e ≡ tuf.NoMemory) ⊎ (e ≢ tuf.NoMemory) → GivenFile store' result
          by_want (inl h) = file_wanting (is ∙ ap Err h)
          by_want (inr h) = no_both o.name e (sym named ∙ l h)
      download_done store store' result w (unfetched name e l f s is) = of_ungiven (Some chain.file) e (fetched_so name (Err e) (is_name name l) f) (λ h. file_wanting (is ∙ ap Err h))
      download_done store store' result w (absent name l f s is) = of_given (Some chain.file) None (fetched_so name (Ok None) (is_name name l) f) (λ h. cc)
      download_done store store' result w (fetched name bytes l f t) =
          of_given (Some chain.file) (Some bytes) (fetched_so name (Ok (Some bytes)) (is_name name l) f) (λ h. taken_done store store' result w (subst (λ b. TakesFile chain.target path b store store' result) (some_same bytes chain.file h) t))

      obtain_done : (store store' : Watched Files) (result : Result (List ℕ) Error) → Tells store → Obtains consistent session.config chain.target path repo repo' store store' result → GivenFile store' result
      obtain_done store store' result w (unrecalled e r s is) =
          file_wanting (is ∙ ap Err (load_wants (kept_target path) store store' e (subst (λ l. LoadsNamed (kept_target path) store store' l) (recalled_err chain.target r.loaded e r.result_is) r.loads)))
      obtain_done store store' result w (recalled bytes r s is) =
          let loads = subst (λ l. LoadsNamed (kept_target path) store store' l) (recalled_some chain.target r.loaded bytes r.result_is) r.loads in
          let same = some_same chain.file bytes (found_wanted (w.files (kept_target path)) (Some chain.file) bytes w.so.file (loaded_is (kept_target path) store store' w.files bytes w.told loads)) in
          file_given (is ∙ ap Ok (sym same)) (loaded_tells store store' r.loaded w r.loads)
      obtain_done store store' result w (downloaded mid r d) = download_done mid store' result (loaded_tells store mid r.loaded w r.loads) d

  -- ---- the chain

  chain_is : (set : InForce) (entry : TargetFile) (file : List ℕ) → set.roots ≡ chain.roots → set.timestamp ≡ Some o.time → set.snapshot ≡ Some o.snap → map (role_doc_in set) (map visit_in chain.roles) ≡ chain.roles → entry ≡ chain.target → file ≡ chain.file
      → chain_of set (map visit_in chain.roles) entry file ≡ Ok chain
  chain_is set entry file roots time snap roles listed same = made ∙ ap Ok same_chain
    where
      made : chain_of set (map visit_in chain.roles) entry file
          ≡ Ok (record { roots = set.roots; timestamp = o.time.bytes; snapshot = o.snap.bytes; roles = map (role_doc_in set) (map visit_in chain.roles); target = entry; file = file })
      made = rw (time, snap)

      same_chain : ◌≡◌ {A = TrustChain} (record { roots = set.roots; timestamp = o.time.bytes; snapshot = o.snap.bytes; roles = map (role_doc_in set) (map visit_in chain.roles); target = entry; file = file }) chain
      same_chain = λ i. record { roots = roots i; timestamp = o.time_is i; snapshot = o.snap_is i; roles = roles i; target = listed i; file = same i }

  -- the file of the entry that the last document lists, and the chain
  module _ (old new : State) (result : Result TrustChain Error) (ended : Finished old) (quiet : Quiet old.repo.faults new.repo.faults) where
    listed : entry_after old.documents path (map visit_in chain.roles) ≡ Some chain.target
    listed = entry_is old.documents ended.ready.snapped.timed.behind.roles ended.held

    is_entry : (entry : TargetFile) → entry_after old.documents path (map visit_in chain.roles) ≡ Some entry → entry ≡ chain.target
    is_entry entry at = some_same entry chain.target (sym at ∙ listed)

    obtained : (entry : TargetFile) (result : Result (List ℕ) Error) → entry_after old.documents path (map visit_in chain.roles) ≡ Some entry → Obtains (is_consistent old.documents) session.config entry path old.repo new.repo old.store new.store result → GivenFile new.store result
    obtained entry result at h =
        obtain_done old.repo new.repo ended.ready.snapped.timed.behind.told quiet (is_consistent old.documents) (ap (λ (r : Document declared.Root). (content_in {T = declared.Root} r).consistent_snapshot) ended.ready.snapped.timed.behind.root) old.store new.store result
        ended.ready.snapped.timed.behind.warm (subst (λ e. Obtains (is_consistent old.documents) session.config e path old.repo new.repo old.store new.store result) (is_entry entry at) h)

    chained : (entry : TargetFile) (file : List ℕ) → entry_after old.documents path (map visit_in chain.roles) ≡ Some entry → GivenFile new.store (Ok file) → chain_of old.documents (map visit_in chain.roles) entry file ≡ Ok chain
    chained entry file at (file_wanting h) = no_both file tuf.NoMemory h
    chained entry file at (file_given h w) =
        chain_is old.documents entry file ended.ready.snapped.timed.behind.roots ended.ready.snapped.timed.time ended.ready.snapped.snap
        (roles_are old.documents ended.ready.snapped.timed.behind.roles ended.held chain.roles ended.held o.roles) (is_entry entry at) (ok_same file chain.file h)

    tells : (file : List ℕ) → GivenFile new.store (Ok file) → Tells new.store
    tells file (file_wanting h) = no_both file tuf.NoMemory h
    tells file (file_given h w) = w

    by_want : (e : Error) → result ≡ Err e → (e ≡ tuf.NoMemory) ⊎ (e ≢ tuf.NoMemory) → (e ≢ tuf.NoMemory → ⊥) → GivenChain (Tells new.store) chain result
    by_want e is (inl h) never = chain_wanting (is ∙ ap Err h)
    by_want e is (inr h) never = absurd (never h)

    unobtained_so : (e : Error) → result ≡ Err e → GivenFile new.store (Err e) → GivenChain (Tells new.store) chain result
    unobtained_so e is (file_wanting h) = chain_wanting (is ∙ ap Err (err_same e tuf.NoMemory h))
    unobtained_so e is (file_given h w) = no_both chain.file e (sym h)

    chain_done : GivesChain session.config path (map visit_in chain.roles) old new result → GivenChain (Tells new.store) chain result
    chain_done (unlisted e h same is) = by_want e is (is_want e) (λ other. no_both chain.target e (sym (ap (found_of path) listed) ∙ h other))
    chain_done (unobtained entry e at h d is) = unobtained_so e is (obtained entry (Err e) at h)
    chain_done (unchained entry file e at h d c is) = by_want e is (is_want e) (λ other. no_both chain e (sym (chained entry file at (obtained entry (Ok file) at h)) ∙ c other))
    chain_done (found entry file x at h d c is) =
        let file_is = obtained entry (Ok file) at h in
        chain_given (is ∙ sym c ∙ chained entry file at file_is) (tells file file_is)

  pub got_done : (old new : State) (result : Result TrustChain Error) → Ready old → Quiet old.repo.faults new.repo.faults → GetsTarget session path old new result → GivenChain (Tells new.store) chain result
  got_done old new result b quiet (unfound e f is) = by_found (finds_done session folders path chain o from whole whole_bound old new (Err e) b quiet f)
    where
      by_found : FoundSo (Finished new) (map visit_in chain.roles) (Err e) → GivenChain (Tells new.store) chain result
      by_found (found_wanting h) = chain_wanting (is ∙ ap Err (err_same e tuf.NoMemory h))
      by_found (found_all h t) = no_both (map visit_in chain.roles) e (sym h)
  got_done old new result b quiet (visited visits mid f g) =
      by_found (finds_done session folders path chain o from whole whole_bound old mid (Ok visits) b (quiet_first old.repo.faults mid.repo.faults new.repo.faults first.later second.later quiet) f)
    where
      first : Since old.repo mid.repo
      first = finds_since session path old mid (Ok visits) f

      second : Since mid.repo new.repo
      second = chain_since session.config path visits mid new result g

      by_found : FoundSo (Finished mid) (map visit_in chain.roles) (Ok visits) → GivenChain (Tells new.store) chain result
      by_found (found_wanting h) = no_both visits tuf.NoMemory h
      by_found (found_all h t) =
          chain_done mid new result t (quiet_second old.repo.faults mid.repo.faults new.repo.faults first.later second.later quiet)
          (subst (λ vs. GivesChain session.config path vs mid new result) (ok_same visits (map visit_in chain.roles) h) g)

-- ---- the beginning

first_made : (crypto : Crypto) (bytes : List ℕ) (first : Document declared.Root) → root_document bytes ≡ Ok first → meets_role_of crypto (content_in {T = declared.Root} first) (codes "root") first ≡ Ok tt
    → first_root_of crypto bytes ≡ Ok (record { roots = bytes ∷ []; root = first; timestamp = None; snapshot = None; targets = [] })
unfolding first_root_of
first_made crypto bytes first read own = step_to (root_document bytes) _ first read ∙ step_to (meets_role_of crypto (content_in {T = declared.Root} first) (codes "root") first) _ tt own

module _ (crypto : Crypto) (folders : Folders) (root : List ℕ) (now : jiff.Timestamp) (config : UpdaterConfig) (path : List ℕ) (chain : TrustChain) (offer : Offers crypto folders root now config path chain) where
  abbrev session : Session
  session = session_of crypto config now

  pub offered : OfferedAs (session_of crypto config now) folders path chain offer.is.root
  offered = offered_of crypto folders root now config path chain offer

  pub start : Begun session folders offered.so.root root chain.roots offer.offered.trusted.roots.first
  start = subst (λ r. Begun session folders r root chain.roots offer.offered.trusted.roots.first) (sym offered.root_is) (begun session folders offer.is.root root chain.roots offer.offered.trusted.roots offer.offered.roots)

  pub rest_bound : number_of offer.offered.trusted.roots.first + length start.rest < 2 ^ 64
  rest_bound = way_bound session folders offered.so.root offer.offered.trusted.roots.first start.rest start.docs (version_bound root offer.offered.trusted.roots.first start.read) start.ahead

  set_made : first_root_of crypto root ≡ Ok (record { roots = root ∷ []; root = offer.offered.trusted.roots.first; timestamp = None; snapshot = None; targets = [] })
  set_made = first_made crypto root offer.offered.trusted.roots.first start.read (role_ok crypto (content_in {T = declared.Root} offer.offered.trusted.roots.first) (codes "root") offer.offered.trusted.roots.first start.own)

  -- a first root is refused only for want of memory
  pub first_wants : (e : Error) → (e ≢ tuf.NoMemory → first_root_of crypto root ≡ Err e) → e ≡ tuf.NoMemory
  first_wants e h = by_want (is_want e)
    where
      by_want : (e ≡ tuf.NoMemory) ⊎ (e ≢ tuf.NoMemory) → e ≡ tuf.NoMemory
      by_want (inl is) = is
      by_want (inr other) = no_both _ e (sym set_made ∙ h other)

  rest_is : later_in chain.roots ≡ start.rest
  rest_is = ap later_in start.roots_are

  warm_so : (files : Files) → Warm files path chain (number_of offer.offered.trusted.roots.first) → IsWarm session folders path chain offered.so (number_of offer.offered.trusted.roots.first) start.rest rest_bound files
  warm_so files w = record {
    roots = subst (λ rest. AreKeptAfter files (number_of offer.offered.trusted.roots.first) rest) rest_is w.roots;
    time = subst (λ b. IsNoneOr (files timestamp_name) (Some b)) (sym offered.so.time_is) w.timestamp;
    snap = subst (λ b. IsNoneOr (files snapshot_name) (Some b)) (sym offered.so.snap_is) w.snapshot;
    top = subst (IsNoneOr (files targets_name)) offered.so.top_bytes w.targets;
    file = w.target;
  }

  so_warm : (files : Files) → IsWarm session folders path chain offered.so (number_of offer.offered.trusted.roots.first) start.rest rest_bound files → Warm files path chain (number_of offer.offered.trusted.roots.first)
  so_warm files w = record {
    roots = subst (λ rest. AreKeptAfter files (number_of offer.offered.trusted.roots.first) rest) (sym rest_is) w.roots;
    timestamp = subst (λ b. IsNoneOr (files timestamp_name) (Some b)) offered.so.time_is w.time;
    snapshot = subst (λ b. IsNoneOr (files snapshot_name) (Some b)) offered.so.snap_is w.snap;
    targets = subst (IsNoneOr (files targets_name)) (sym offered.so.top_bytes) w.top;
    target = w.file;
  }

  -- the store tells files that are warm for the chain
  abbrev pub StaysWarm : Watched Files → Type 0
  StaysWarm store = TellsSo (λ files. Warm files path chain (number_of offer.offered.trusted.roots.first)) store

  -- on the way, and at the end of it
  pub record Going (state : State) : Type 0 where
    pub somewhere : Somewhere session folders path chain offered.so (number_of offer.offered.trusted.roots.first) start.rest rest_bound (length start.rest) state

  pub record Arrived (state : State) : Type 0 where
    pub topped : Topped session folders path chain offered.so (number_of offer.offered.trusted.roots.first) start.rest rest_bound state

  going : (new : State) (result : Result ⊤ Error) → Done (Somewhere session folders path chain offered.so (number_of offer.offered.trusted.roots.first) start.rest rest_bound (length start.rest) new) result → Done (Going new) result
  going new result (wanting h) = wanting h
  going new result (done h s) = done h (record { somewhere = s })

  arrived : (new : State) (result : Result ⊤ Error) → Done (Topped session folders path chain offered.so (number_of offer.offered.trusted.roots.first) start.rest rest_bound new) result → Done (Arrived new) result
  arrived new result (wanting h) = wanting h
  arrived new result (done h s) = done h (record { topped = s })

  pub attached_done : (set : InForce) (repo : Watched Folders) (store : Watched Files) (files : Files) (new : State) (result : Result ⊤ Error) → first_root_of crypto root ≡ Ok set → repo.told ≡ Some folders → store.told ≡ Some files
      → Warm files path chain (number_of offer.offered.trusted.roots.first) → Attaches crypto (state_of set repo store) new result → Done (Going new) result
  attached_done set repo store files new result made told stored w a =
      going new result (attach_done session folders path chain offered.so (number_of offer.offered.trusted.roots.first) start.rest rest_bound files (state_of set repo store) new result offer.offered.trusted.roots.first start.rest start.docs on start.ahead stored
      (subst (λ rest. AreKeptAfter files (number_of offer.offered.trusted.roots.first) rest) rest_is w.roots) a)
    where
      is : ◌≡◌ {A = InForce} (record { roots = root ∷ []; root = offer.offered.trusted.roots.first; timestamp = None; snapshot = None; targets = [] }) set
      is = ok_same _ set (sym set_made ∙ made)

      on : OnRoots session folders path chain offered.so (number_of offer.offered.trusted.roots.first) start.rest rest_bound (state_of set repo store) offer.offered.trusted.roots.first start.rest
      on = subst (λ set. OnRoots session folders path chain offered.so (number_of offer.offered.trusted.roots.first) start.rest rest_bound (state_of set repo store) offer.offered.trusted.roots.first start.rest) is (record {
        told = told;
        root = refl;
        roots = sym start.roots_are;
        no_time = refl;
        no_snap = refl;
        no_top = refl;
        bound = version_bound root offer.offered.trusted.roots.first start.read;
        place = λ n x less s. s;
        suits = λ x at. low_suits (number_of offer.offered.trusted.roots.first) start.rest (number_of offer.offered.trusted.roots.first) x (le_refl (number_of offer.offered.trusted.roots.first));
        warm = record { files = files; told = stored; so = warm_so files w };
      })

  pub refreshed_done : (old new : State) (result : Result ⊤ Error) → Going old → Quiet old.repo.faults new.repo.faults → RunsSteps session refresh_steps old new result → Done (Arrived new) result
  refreshed_done old new result g quiet r = arrived new result (refresh_done session folders path chain offered.so (number_of offer.offered.trusted.roots.first) start.rest rest_bound (length start.rest) old new result g.somewhere ends quiet r)
    where
      ends : RootsEnd folders.metadata (length start.rest) config.max_root_rotations (number_of offered.so.root)
      ends =
          subst (λ (r : Document declared.Root). RootsEnd folders.metadata (length start.rest) config.max_root_rotations (number_of r)) (sym offered.root_is)
          (subst (λ rest. RootsEnd folders.metadata (length rest) config.max_root_rotations (number_of offer.is.root)) rest_is offer.offered.roots_end)

  pub target_done : (old new : State) (result : Result TrustChain Error) → Arrived old → Quiet old.repo.faults new.repo.faults → GetsTarget session path old new result → GivenChain (StaysWarm new.store) chain result
  target_done old new result a quiet g = by_given (got_done session folders path chain offered.so (number_of offer.offered.trusted.roots.first) start.rest rest_bound old new result a.topped quiet g)
    where
      by_given : GivenChain (TellsSo (IsWarm session folders path chain offered.so (number_of offer.offered.trusted.roots.first) start.rest rest_bound) new.store) chain result → GivenChain (StaysWarm new.store) chain result
      by_given (chain_wanting h) = chain_wanting h
      by_given (chain_given h t) = chain_given h (record { files = t.files; told = t.told; so = so_warm t.files t.so })
