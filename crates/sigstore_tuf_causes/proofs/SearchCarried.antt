-- A search and a file of a target carry the floor: neither root nor timestamp changes, and the store's timestamp stays.
use Rattle.std.proofs.Common.{◌≡◌, List, [], ◌∷◌, ℕ, Bool, Option, Some, None, Result, Ok, Err, refl, ap, ◌∙◌}
use Rattle.std.specs.Prelude.{⊤}
use Rattle.foundation.specs.Watched.{Watched}
use Rattle.sigstore_keys.specs.Crypto.{Crypto}
use Rattle.sigstore_tuf_text.specs.declared.error.Error.{Error}
use Rattle.sigstore_tuf_text.specs.Names.{timestamp_name}
use Rattle.sigstore_tuf_parts.specs.declared.snapshot.Snapshot.{Snapshot}
use Rattle.sigstore_tuf_parts.specs.declared.targets.TargetFile.{TargetFile}
use Rattle.sigstore_tuf_outside.specs.Repository.{Folders, Files}
use Rattle.sigstore_tuf_rules.specs.declared.chain.TrustChain.{TrustChain}
use Rattle.sigstore_tuf_rules.specs.declared.config.UpdaterConfig.{UpdaterConfig}
use Rattle.sigstore_tuf_rules.specs.declared.documents.InForce.{InForce}
use Rattle.sigstore_tuf_rules.specs.declared.visit.Visit.{Visit}
use Rattle.sigstore_tuf_rules.specs.declared.visit.Walk.{Walk}
use Rattle.sigstore_tuf_rules.specs.Delegated.{update_role_of}
use Rattle.sigstore_tuf_rules.specs.Floor.{standing_of}
use Rattle.sigstore_tuf_rules.specs.Names.{is_consistent, role_file, kept_target}
use Rattle.sigstore_tuf_rules.proofs.Floors.{floor_stays}
use Rattle.sigstore_tuf_rules.proofs.RolePuts.{not_top, taken_some}
use Rattle.sigstore_tuf_runs.specs.State.{Session, State, state_of}
use Rattle.sigstore_tuf_runs.specs.Run.{said}
use Rattle.sigstore_tuf_runs.specs.Adopt.{Saves, unfetched, absent, refused, kept, adopted}
use Rattle.sigstore_tuf_runs.specs.Target as target
use Rattle.sigstore_tuf_runs.specs.Target.{Recalls, TakesFile, Downloads, Obtains}
use Rattle.sigstore_tuf_runs.specs.Search as search
use Rattle.sigstore_tuf_runs.specs.Search.{AdoptsRole, Readies, wanting, untouched, looked_at, had, Searches, ended, short, unready, gapped, visited, FindsVisits, unserved, searched, GivesInfo}
use Rattle.sigstore_tuf_runs.specs.Chain as chain
use Rattle.sigstore_tuf_runs.specs.Chain.{GivesChain, GetsTarget}
use Rattle.sigstore_tuf_runs.specs.Carried.{timestamp_file, CarriesFloor}
use Rattle.sigstore_tuf_causes.proofs.FloorCarried.{saved_leaves, all_leave, loaded_leaves, Still, still_same, still_state, still_joins, still_carries}
use Rattle.sigstore_tuf_causes.proofs.Growing.{finds_grows}
use Rattle.sigstore_tuf_causes.proofs.Keeping.{apart}
use Rattle.sigstore_tuf_causes.proofs.RoleNames.{not_timestamp}
use Rattle.sigstore_tuf_causes.proofs.Searching.{gets_stays, info_stays_authorised}
use Rattle.sigstore_tuf_causes.proofs.Visits.{role_taken}

abbrev Leaves : Watched Files → Watched Files → Type 0
Leaves old new = timestamp_file new ≡ timestamp_file old

-- ---- the visits

module _ (session : Session) where
  adopts_leave : (v : Visit) (old new : State) (answer : Result Bool Error) → AdoptsRole session v old new answer → Leaves old.store new.store
  adopts_leave v old new answer (unfetched e f u r) = ap timestamp_file u.store
  adopts_leave v old new answer (absent f u r) = ap timestamp_file u.store
  adopts_leave v old new answer (refused bytes e f j u r) = ap timestamp_file u.store
  adopts_leave v old new answer (kept bytes f j u r) = ap timestamp_file u.store
  adopts_leave v old new answer (adopted bytes written f j k r) =
      let t = role_taken session.crypto old.documents v bytes session.now new.documents (taken_some (update_role_of session.crypto old.documents v bytes (Some session.now)) new.documents j) in
      all_leave bytes (role_file v.name ∷ []) old.store new.store written (not_timestamp v.name (not_top old.documents v t.authority t.delegated), tt) k.saves

  ready_leaves : (v : Visit) (w : Walk) (old new : State) (result : Result ⊤ Error) → Readies session v w old new result → Leaves old.store new.store
  ready_leaves v w old new result (wanting s r) = ap (λ (x : State). timestamp_file x.store) s
  ready_leaves v w old new result (untouched n s r) = ap (λ (x : State). timestamp_file x.store) s
  ready_leaves v w old new result (looked_at n h c) = ap (λ (x : State). timestamp_file x.store) c.same
  ready_leaves v w old new result (had answer n h a is) = adopts_leave v old new answer a

  searches_leave : {snapshot : Snapshot} {path : List ℕ} {vs : List Visit} {w : Walk} {old new : State} {result : Result Walk Error} → Searches session snapshot path vs w old new result → Leaves old.store new.store
  searches_leave (ended w state) = refl
  searches_leave (short vs w state) = refl
  searches_leave (unready v vs w old new e r) = ready_leaves v w old new (Err e) r
  searches_leave (gapped v vs w old new e r g) = ready_leaves v w old new (Ok tt) r
  searches_leave (visited v vs w step old mid new result r s more) = searches_leave more ∙ ready_leaves v w old mid (Ok tt) r

  finds_leave : (path : List ℕ) (old new : State) (result : Result (List Visit) Error) → FindsVisits session path old new result → Leaves old.store new.store
  finds_leave path old new result (unserved e k same is) = ap (λ (x : State). timestamp_file x.store) same
  finds_leave path old new result (searched snapshot answer ok there s is) = searches_leave s

  finds_still : (path : List ℕ) (old new : State) (result : Result (List Visit) Error) → FindsVisits session path old new result → Still old new
  finds_still path old new result f = let g = finds_grows session path old new result f in record { root = g.root; timestamp = g.timestamp; left = finds_leave path old new result f }

-- ---- the file

module _ (path : List ℕ) where
  file_saved : (bytes : List ℕ) (old new : Watched Files) (result : Result ⊤ Error) → Saves bytes (kept_target path) old new result → Leaves old new
  file_saved bytes old new result s = saved_leaves bytes (kept_target path) old new result (apart (kept_target path) timestamp_name refl) s

  recalled_leaves : (entry : TargetFile) (old new : Watched Files) (result : Result (Option (List ℕ)) Error) → Recalls entry path old new result → Leaves old new
  recalled_leaves entry old new result r = loaded_leaves (kept_target path) old new r.loaded r.loads

  taken_leaves : (entry : TargetFile) (bytes : List ℕ) (old new : Watched Files) (result : Result (List ℕ) Error) → TakesFile entry path bytes old new result → Leaves old new
  taken_leaves entry bytes old new result (target.differs e f s r) = ap timestamp_file s
  taken_leaves entry bytes old new result (target.unsaved e f s r) = file_saved bytes old new (Err e) s
  taken_leaves entry bytes old new result (target.given f s r) = file_saved bytes old new (Ok tt) s

  downloaded_leaves : (consistent : Bool) (config : UpdaterConfig) (entry : TargetFile) (repo repo' : Watched Folders) (old new : Watched Files) (result : Result (List ℕ) Error) → Downloads consistent config entry path repo repo' old new result → Leaves old new
  downloaded_leaves consistent config entry repo repo' old new result (target.unnamed e w r s is) = ap timestamp_file s
  downloaded_leaves consistent config entry repo repo' old new result (target.unfetched name e w f s is) = ap timestamp_file s
  downloaded_leaves consistent config entry repo repo' old new result (target.absent name w f s is) = ap timestamp_file s
  downloaded_leaves consistent config entry repo repo' old new result (target.fetched name bytes w f t) = taken_leaves entry bytes old new result t

  obtained_leaves : (consistent : Bool) (config : UpdaterConfig) (entry : TargetFile) (repo repo' : Watched Folders) (old new : Watched Files) (result : Result (List ℕ) Error) → Obtains consistent config entry path repo repo' old new result → Leaves old new
  obtained_leaves consistent config entry repo repo' old new result (target.unrecalled e r s is) = recalled_leaves entry old new (Err e) r
  obtained_leaves consistent config entry repo repo' old new result (target.recalled bytes r s is) = recalled_leaves entry old new (Ok (Some bytes)) r
  obtained_leaves consistent config entry repo repo' old new result (target.downloaded mid r d) = downloaded_leaves consistent config entry repo repo' mid new result d ∙ recalled_leaves entry old mid (Ok None) r

  given_still : (config : UpdaterConfig) (visits : List Visit) (old new : State) (result : Result TrustChain Error) → GivesChain config path visits old new result → Still old new
  given_still config visits old new result (chain.unlisted e k s is) = still_state old new s
  given_still config visits old new result (chain.unobtained entry e l f s is) = still_same old new s (obtained_leaves (is_consistent old.documents) config entry old.repo new.repo old.store new.store (Err e) f)
  given_still config visits old new result (chain.unchained entry file e l f s k is) = still_same old new s (obtained_leaves (is_consistent old.documents) config entry old.repo new.repo old.store new.store (Ok file) f)
  given_still config visits old new result (chain.found entry file c l f s k is) = still_same old new s (obtained_leaves (is_consistent old.documents) config entry old.repo new.repo old.store new.store (Ok file) f)

  -- ---- the calls

  pub gets_carry : (session : Session) (old new : State) (result : Result TrustChain Error) → GetsTarget session path old new result → CarriesFloor session.crypto old new (said result)
  gets_carry session old new result g = still_carries session.crypto old new (said result) (gets_stays session path old new result g).floor (by_run g)
    where
      by_run : GetsTarget session path old new result → Still old new
      by_run (chain.unfound e f is) = finds_still session path old new (Err e) f
      by_run (chain.visited visits mid f g) = still_joins (finds_still session path old mid (Ok visits) f) (given_still session.config visits mid new result g)

  pub info_carries : (session : Session) (old new : State) (result : Result (Option TargetFile) Error) → GivesInfo session path old new result → CarriesFloor session.crypto old new (said result)
  info_carries session old new result g = still_carries session.crypto old new (said result) (info_stays_authorised session path old new result g).floor (by_run g)
    where
      by_run : GivesInfo session path old new result → Still old new
      by_run (search.unfound e f is) = finds_still session path old new (Err e) f
      by_run (search.uncopied visits f is) = finds_still session path old new (Ok visits) f
      by_run (search.given visits f is) = finds_still session path old new (Ok visits) f

  -- calls that change no document
  file_carries : (crypto : Crypto) (set : InForce) (repo repo' : Watched Folders) (old new : Watched Files) (answer : Result ⊤ Error) → Leaves old new → CarriesFloor crypto (state_of set repo old) (state_of set repo' new) answer
  file_carries crypto set repo repo' old new answer l = still_carries crypto (state_of set repo old) (state_of set repo' new) answer (floor_stays (standing_of set)) (record { root = refl; timestamp = refl; left = l })

  pub recalls_carry : (crypto : Crypto) (set : InForce) (entry : TargetFile) (repo repo' : Watched Folders) (old new : Watched Files) (result : Result (Option (List ℕ)) Error) → Recalls entry path old new result
      → CarriesFloor crypto (state_of set repo old) (state_of set repo' new) (said result)
  recalls_carry crypto set entry repo repo' old new result r = file_carries crypto set repo repo' old new (said result) (recalled_leaves entry old new result r)

  pub downloads_carry : (crypto : Crypto) (set : InForce) (consistent : Bool) (config : UpdaterConfig) (entry : TargetFile) (repo repo' : Watched Folders) (old new : Watched Files) (result : Result (List ℕ) Error)
      → Downloads consistent config entry path repo repo' old new result → CarriesFloor crypto (state_of set repo old) (state_of set repo' new) (said result)
  downloads_carry crypto set consistent config entry repo repo' old new result d = file_carries crypto set repo repo' old new (said result) (downloaded_leaves consistent config entry repo repo' old new result d)
