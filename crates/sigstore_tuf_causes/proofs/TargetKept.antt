-- After a search the store has the documents in force, and the chain that is given.
use Rattle.std.proofs.Common.{◌≡◌, inl, inr, ℕ, ◌≤◌, List, [], ◌∷◌, map, drop, Bool, false, Option, Some, None, Result, Ok, Err, codes, refl, sym, ap, ◌∙◌, subst, le_refl, le_trans}
use Rattle.std.specs.Prelude.{⊤, option_map, IfSome, IfOk}
use Rattle.std.specs.List.{AllByRecursion, last_or}
use Rattle.foundation.specs.Watched.{Watched, IfTold}
use Rattle.foundation.specs.Results.{ok_same, no_both}
use Rattle.sigstore_types_parts.specs.Entries.{at_name}
use Rattle.sigstore_tuf_text.specs.declared.error.Error.{Error}
use Rattle.sigstore_tuf_parts.specs.declared.snapshot.Snapshot.{Snapshot}
use Rattle.sigstore_tuf_parts.specs.declared.targets.TargetFile.{TargetFile}
use Rattle.sigstore_tuf_parts.specs.declared.targets.Targets.{Targets}
use Rattle.sigstore_tuf_parts.specs.declared.timestamp.Timestamp.{Timestamp}
use Rattle.sigstore_tuf_text.specs.Names.{timestamp_name, snapshot_name, targets_name}
use Rattle.sigstore_tuf_rules.specs.declared.chain.RoleDoc.{RoleDoc}
use Rattle.sigstore_tuf_rules.specs.declared.chain.TrustChain.{TrustChain}
use Rattle.sigstore_tuf_rules.specs.declared.config.UpdaterConfig.{UpdaterConfig}
use Rattle.sigstore_tuf_rules.specs.declared.documents.Held.{Held}
use Rattle.sigstore_tuf_rules.specs.declared.documents.InForce.{InForce}
use Rattle.sigstore_tuf_outside.specs.declared.store.StoreFault.{StoreFault}
use Rattle.sigstore_tuf_outside.specs.declared.store.StoreFault.TheVariants as store
use Rattle.sigstore_tuf_outside.specs.Repository.{Quiet, Folders, Files}
use Rattle.sigstore_tuf_outside.specs.Store.{is_bad_name, with_file, Keeps as KeepsTold}
use Rattle.sigstore_tuf_rules.specs.Names.{is_consistent, role_file, history_name, root_file, kept_target}
use Rattle.sigstore_tuf_runs.specs.State.{Session, State}
use Rattle.sigstore_tuf_runs.specs.Run.{said}
use Rattle.sigstore_tuf_rules.specs.Taking.{top_targets}
use Rattle.sigstore_tuf_runs.specs.Adopt.{LoadsNamed, Saves, save_unnamed, save_asked, SavesAll, unfetched, absent, refused, kept, adopted}
use Rattle.sigstore_tuf_rules.specs.declared.visit.Visit.{Visit}
use Rattle.sigstore_tuf_rules.specs.declared.visit.Walk.{Walk}
use Rattle.sigstore_tuf_rules.specs.Order.{is_top_level}
use Rattle.sigstore_tuf_rules.specs.Delegated.{update_role_of}
use Rattle.sigstore_tuf_runs.specs.Target as target
use Rattle.sigstore_tuf_runs.specs.Target.{file_of, if_pinned, recalled_of, Recalls, TakesFile, Downloads, Obtains}
use Rattle.sigstore_tuf_runs.specs.Search as search
use Rattle.sigstore_tuf_runs.specs.Search.{AdoptsRole, Readies, wanting, untouched, looked_at, had, Searches, ended, short, unready, gapped, visited, FindsVisits, unserved, searched, GivesInfo}
use Rattle.sigstore_tuf_runs.specs.Chain as chain
use Rattle.sigstore_tuf_runs.specs.Chain.{role_doc_in, chain_in, chain_of, GivesChain, GetsTarget}
use Rattle.sigstore_tuf_runs.specs.Kept.{IsFiled, HasRoot, HoldsInForce, HoldsChain, StaysKept, KeepsChain}
use Rattle.sigstore_tuf_causes.proofs.Carrying.{loaded_had}
use Rattle.sigstore_tuf_causes.proofs.Faults.{quiet_second}
use Rattle.sigstore_tuf_causes.proofs.Keeping.{told_moved, told_map, told_each, told_both, loaded_told, saved_later, saved_put, all_later, roots_kept, some_kept, with_this, with_other}
use Rattle.sigstore_tuf_rules.proofs.RolePuts.{not_top, taken_some}
use Rattle.sigstore_tuf_causes.proofs.RoleNames.{not_timestamp, not_snapshot, not_targets, not_root, not_history}
use Rattle.sigstore_tuf_causes.proofs.Growing.{Grows, ready_grows}
use Rattle.sigstore_tuf_causes.proofs.Visits.{role_taken}

-- ---- what a store has of the documents in force

abbrev pub Has : InForce → Watched Files → Type 0
Has set seen = IfTold seen.told (λ files. HoldsInForce files set)

-- more roles in force
grows_holds : (files : Files) (a b : InForce) → Grows a b → HoldsInForce files a → HoldsInForce files b
grows_holds files a b g h = record {
  root = subst (λ rs. IfSome (last_or None rs) (IsFiled files root_file)) (sym g.roots) h.root;
  adopted = record {
    roots = subst (λ rs. AllByRecursion (HasRoot files) (drop 1 rs)) (sym g.roots) h.adopted.roots;
    timestamp = subst (λ (o : Option (Held Timestamp)). IfSome (option_map (λ held. held.bytes) o) (IsFiled files timestamp_name)) (sym g.timestamp) h.adopted.timestamp;
    snapshot = subst (λ (o : Option (Held Snapshot)). IfSome (option_map (λ held. held.bytes) o) (IsFiled files snapshot_name)) (sym g.snapshot) h.adopted.snapshot;
    targets = subst (λ (o : Option (Held Targets)). IfSome (option_map (λ held. held.bytes) o) (IsFiled files targets_name)) (sym g.top) h.adopted.targets;
  };
}

grows_has : (seen : Watched Files) (a b : InForce) → Grows a b → Has a seen → Has b seen
grows_has seen a b g h = told_map (λ files. HoldsInForce files a) (λ files. HoldsInForce files b) seen.told (λ files k. grows_holds files a b g k) h

-- a file that is apart from them
module _ (set : InForce) (name bytes : List ℕ) (apart : (files : Files) → HoldsInForce files set → HoldsInForce (with_file name bytes files) set) where
  saved_stays : (old new : Watched Files) (result : Result ⊤ Error) → Saves bytes name old new result → Has set old → Has set new
  saved_stays old new result (save_unnamed s r) h = subst (Has set) (sym s) h
  saved_stays old new result (save_asked answer s r) h = by_answer answer s.kept
    where
      same : new.told ≡ old.told → Has set new
      same e = subst (λ t. IfTold t (λ files. HoldsInForce files set)) (sym e) h

      put : new.told ≡ option_map (with_file name bytes) old.told → Has set new
      put e =
          told_moved (with_file name bytes) (λ files. HoldsInForce files set) old.told new.told e
          (told_map (λ files. HoldsInForce files set) (λ files. HoldsInForce (with_file name bytes files) set) old.told apart h)

      by_answer : (answer : Result ⊤ StoreFault) → KeepsTold {T = ⊤} old.told new.told name bytes answer → Has set new
      by_answer (Ok y) e = put e
      by_answer (Err store.BadName) e = same e
      by_answer (Err store.Failed) (inl e) = same e
      by_answer (Err store.Failed) (inr e) = put e
      by_answer (Err store.NoMemory) (inl e) = same e
      by_answer (Err store.NoMemory) (inr e) = put e

-- ---- the visits

-- a role's file is under another name than every document that isn't one
role_apart : (set : InForce) (name bytes : List ℕ) → is_top_level name ≡ false → (files : Files) → HoldsInForce files set → HoldsInForce (with_file (role_file name) bytes files) set
role_apart set name bytes low files h = record {
  root = some_kept (last_or None set.roots) files files' root_file (λ x f. with_other (role_file name) bytes root_file files (λ e. not_root name low (sym e)) ∙ f) h.root;
  adopted = record {
    roots = roots_kept files files' (drop 1 set.roots) (λ n x f. with_other (role_file name) bytes (history_name n) files (λ e. not_history name n (sym e)) ∙ f) h.adopted.roots;
    timestamp = some_kept (option_map (λ held. held.bytes) set.timestamp) files files' timestamp_name (λ x f. with_other (role_file name) bytes timestamp_name files (λ e. not_timestamp name low (sym e)) ∙ f) h.adopted.timestamp;
    snapshot = some_kept (option_map (λ held. held.bytes) set.snapshot) files files' snapshot_name (λ x f. with_other (role_file name) bytes snapshot_name files (λ e. not_snapshot name low (sym e)) ∙ f) h.adopted.snapshot;
    targets = some_kept (option_map (λ held. held.bytes) (top_targets set)) files files' targets_name (λ x f. with_other (role_file name) bytes targets_name files (λ e. not_targets name low (sym e)) ∙ f) h.adopted.targets;
  };
}
  where
    files' : Files
    files' = with_file (role_file name) bytes files

module _ (session : Session) where
  kept_stays : (set : InForce) (name bytes : List ℕ) (old new : Watched Files) (result : Result ⊤ Error) → is_top_level name ≡ false → SavesAll bytes (role_file name ∷ []) old new result → Has set old → Has set new
  kept_stays set name bytes old new result low (inl (e, s, r)) h = saved_stays set (role_file name) bytes (role_apart set name bytes low) old new (Err e) s h
  kept_stays set name bytes old new result low (inr (mid, s, (same, r))) h = subst (Has set) (sym same) (saved_stays set (role_file name) bytes (role_apart set name bytes low) old mid (Ok tt) s h)

  unmoved_stays : (old new : State) → new.documents ≡ old.documents → new.store ≡ old.store → Has old.documents old.store → Has new.documents new.store
  unmoved_stays old new d s h = subst (λ (set : InForce). Has set new.store) (sym d) (subst (Has old.documents) (sym s) h)

  adopts_stay : (v : Visit) (old new : State) (answer : Result Bool Error) → Grows old.documents new.documents → AdoptsRole session v old new answer → Has old.documents old.store → Has new.documents new.store
  adopts_stay v old new answer g (unfetched e f u r) h = unmoved_stays old new u.documents u.store h
  adopts_stay v old new answer g (absent f u r) h = unmoved_stays old new u.documents u.store h
  adopts_stay v old new answer g (refused bytes e f j u r) h = unmoved_stays old new u.documents u.store h
  adopts_stay v old new answer g (kept bytes f j u r) h = unmoved_stays old new u.documents u.store h
  adopts_stay v old new answer g (adopted bytes written f j k r) h =
      let t = role_taken session.crypto old.documents v bytes session.now new.documents (taken_some (update_role_of session.crypto old.documents v bytes (Some session.now)) new.documents j) in
      grows_has new.store old.documents new.documents g
      (kept_stays old.documents v.name bytes old.store new.store written (not_top old.documents v t.authority t.delegated) k.saves h)

  ready_stays : (v : Visit) (w : Walk) (old new : State) (result : Result ⊤ Error) → Readies session v w old new result → Has old.documents old.store → Has new.documents new.store
  ready_stays v w old new result (wanting s r) h = unmoved_stays old new (ap (λ (x : State). x.documents) s) (ap (λ (x : State). x.store) s) h
  ready_stays v w old new result (untouched n s r) h = unmoved_stays old new (ap (λ (x : State). x.documents) s) (ap (λ (x : State). x.store) s) h
  ready_stays v w old new result (looked_at n k c) h = unmoved_stays old new (ap (λ (x : State). x.documents) c.same) (ap (λ (x : State). x.store) c.same) h
  ready_stays v w old new result (had answer n k a is) h = adopts_stay v old new answer (ready_grows session v w old new result (had answer n k a is)) a h

  searches_stay : {snapshot : Snapshot} {path : List ℕ} {vs : List Visit} {w : Walk} {old new : State} {result : Result Walk Error} → Searches session snapshot path vs w old new result → Has old.documents old.store → Has new.documents new.store
  searches_stay (ended w state) h = h
  searches_stay (short vs w state) h = h
  searches_stay (unready v vs w old new e r) h = ready_stays v w old new (Err e) r h
  searches_stay (gapped v vs w old new e r g) h = ready_stays v w old new (Ok tt) r h
  searches_stay (visited v vs w step old mid new result r s more) h = searches_stay more (ready_stays v w old mid (Ok tt) r h)

  finds_stay : (path : List ℕ) (old new : State) (result : Result (List Visit) Error) → FindsVisits session path old new result → Has old.documents old.store → Has new.documents new.store
  finds_stay path old new result (unserved e k same is) h = unmoved_stays old new (ap (λ (x : State). x.documents) same) (ap (λ (x : State). x.store) same) h
  finds_stay path old new result (searched snapshot answer ok there s is) h = searches_stay s h

  -- ---- the count of faults

  abbrev Later : State → State → Type 0
  Later old new = old.store.faults ≤ new.store.faults

  same_later : (old new : State) → new.store ≡ old.store → Later old new
  same_later old new s = subst (λ (w : Watched Files). old.store.faults ≤ w.faults) (sym s) (le_refl old.store.faults)

  adopts_later : (v : Visit) (old new : State) (answer : Result Bool Error) → AdoptsRole session v old new answer → Later old new
  adopts_later v old new answer (unfetched e f u r) = same_later old new u.store
  adopts_later v old new answer (absent f u r) = same_later old new u.store
  adopts_later v old new answer (refused bytes e f j u r) = same_later old new u.store
  adopts_later v old new answer (kept bytes f j u r) = same_later old new u.store
  adopts_later v old new answer (adopted bytes written f j k r) = all_later bytes (role_file v.name ∷ []) old.store new.store written k.saves

  ready_later : (v : Visit) (w : Walk) (old new : State) (result : Result ⊤ Error) → Readies session v w old new result → Later old new
  ready_later v w old new result (wanting s r) = same_later old new (ap (λ (x : State). x.store) s)
  ready_later v w old new result (untouched n s r) = same_later old new (ap (λ (x : State). x.store) s)
  ready_later v w old new result (looked_at n k c) = same_later old new (ap (λ (x : State). x.store) c.same)
  ready_later v w old new result (had answer n k a is) = adopts_later v old new answer a

  searches_later : {snapshot : Snapshot} {path : List ℕ} {vs : List Visit} {w : Walk} {old new : State} {result : Result Walk Error} → Searches session snapshot path vs w old new result → Later old new
  searches_later (ended w state) = le_refl state.store.faults
  searches_later (short vs w state) = le_refl state.store.faults
  searches_later (unready v vs w old new e r) = ready_later v w old new (Err e) r
  searches_later (gapped v vs w old new e r g) = ready_later v w old new (Ok tt) r
  searches_later (visited v vs w step old mid new result r s more) = le_trans (ready_later v w old mid (Ok tt) r) (searches_later more)

  finds_later : (path : List ℕ) (old new : State) (result : Result (List Visit) Error) → FindsVisits session path old new result → Later old new
  finds_later path old new result (unserved e k same is) = same_later old new (ap (λ (x : State). x.store) same)
  finds_later path old new result (searched snapshot answer ok there s is) = searches_later s

-- ---- the file stays apart

module _ (path : List ℕ) where
  -- a target's file is under another name than every document
  file_apart : (set : InForce) (bytes : List ℕ) (files : Files) → HoldsInForce files set → HoldsInForce (with_file (kept_target path) bytes files) set
  file_apart set bytes files h = record {
    root = h.root;
    adopted = record {
      roots = roots_kept files (with_file (kept_target path) bytes files) (drop 1 set.roots) (λ n x f. f) h.adopted.roots;
      timestamp = h.adopted.timestamp;
      snapshot = h.adopted.snapshot;
      targets = h.adopted.targets;
    };
  }

  module _ (set : InForce) where
    recalled_stays : (entry : TargetFile) (old new : Watched Files) (result : Result (Option (List ℕ)) Error) → Recalls entry path old new result → Has set old → Has set new
    recalled_stays entry old new result r h = subst (λ t. IfTold t (λ files. HoldsInForce files set)) (sym (loaded_told (kept_target path) old new r.loaded r.loads).0) h

    taken_stays : (entry : TargetFile) (bytes : List ℕ) (old new : Watched Files) (result : Result (List ℕ) Error) → TakesFile entry path bytes old new result → Has set old → Has set new
    taken_stays entry bytes old new result (target.differs e f s r) h = subst (Has set) (sym s) h
    taken_stays entry bytes old new result (target.unsaved e f s r) h = saved_stays set (kept_target path) bytes (file_apart set bytes) old new (Err e) s h
    taken_stays entry bytes old new result (target.given f s r) h = saved_stays set (kept_target path) bytes (file_apart set bytes) old new (Ok tt) s h

    downloaded_stays : (consistent : Bool) (config : UpdaterConfig) (entry : TargetFile) (repo repo' : Watched Folders) (old new : Watched Files) (result : Result (List ℕ) Error) → Downloads consistent config entry path repo repo' old new result → Has set old → Has set new
    downloaded_stays consistent config entry repo repo' old new result (target.unnamed e w r s is) h = subst (Has set) (sym s) h
    downloaded_stays consistent config entry repo repo' old new result (target.unfetched name e w f s is) h = subst (Has set) (sym s) h
    downloaded_stays consistent config entry repo repo' old new result (target.absent name w f s is) h = subst (Has set) (sym s) h
    downloaded_stays consistent config entry repo repo' old new result (target.fetched name bytes w f t) h = taken_stays entry bytes old new result t h

    obtained_stays : (consistent : Bool) (config : UpdaterConfig) (entry : TargetFile) (repo repo' : Watched Folders) (old new : Watched Files) (result : Result (List ℕ) Error) → Obtains consistent config entry path repo repo' old new result → Has set old → Has set new
    obtained_stays consistent config entry repo repo' old new result (target.unrecalled e r s is) h = recalled_stays entry old new (Err e) r h
    obtained_stays consistent config entry repo repo' old new result (target.recalled bytes r s is) h = recalled_stays entry old new (Ok (Some bytes)) r h
    obtained_stays consistent config entry repo repo' old new result (target.downloaded mid r d) h = downloaded_stays consistent config entry repo repo' mid new result d (recalled_stays entry old mid (Ok None) r h)

  -- ---- the file

  abbrev HasFile : List ℕ → Watched Files → Type 0
  HasFile file seen = IfTold seen.told (λ files. files (kept_target path) ≡ Some file)

  recalled_is : (entry : TargetFile) (loaded : Result (Option (List ℕ)) Error) (file : List ℕ) → Ok (Some file) ≡ recalled_of entry loaded → loaded ≡ Ok (Some file)
  recalled_is entry (Ok None) file h = cc
  recalled_is entry (Ok (Some bytes)) file h = by_test (file_of entry bytes) h
    where
      by_test : (r : Result ⊤ Error) → ◌≡◌ {A = Result (Option (List ℕ)) Error} (Ok (Some file)) (Ok (if_pinned bytes r)) → ◌≡◌ {A = Result (Option (List ℕ)) Error} (Ok (Some bytes)) (Ok (Some file))
      by_test (Ok x) h = sym h
      by_test (Err e) h = cc
  recalled_is entry (Err e) file h = cc

  recalled_there : (entry : TargetFile) (file : List ℕ) (old new : Watched Files) → Recalls entry path old new (Ok (Some file)) → HasFile file new
  recalled_there entry file old new r =
      let l = subst (λ l. LoadsNamed (kept_target path) old new l) (recalled_is entry r.loaded file r.result_is) r.loads in
      subst (λ t. IfTold t (λ files. files (kept_target path) ≡ Some file)) (sym (loaded_told (kept_target path) old new (Ok (Some file)) l).0) (loaded_had (kept_target path) old new file l)

  taken_there : (entry : TargetFile) (bytes file : List ℕ) (old new : Watched Files) → is_bad_name (kept_target path) ≡ false → Quiet old.faults new.faults → TakesFile entry path bytes old new (Ok file) → HasFile file new
  taken_there entry bytes file old new good quiet (target.differs e f s r) = no_both file e r
  taken_there entry bytes file old new good quiet (target.unsaved e f s r) = no_both file e r
  taken_there entry bytes file old new good quiet (target.given f s r) =
      subst (λ b. HasFile b new) (sym (ok_same file bytes r))
      (told_moved (with_file (kept_target path) bytes) (λ files. files (kept_target path) ≡ Some bytes) old.told new.told (saved_put bytes (kept_target path) old new (Ok tt) good (λ e. cc) quiet s)
      (told_each (λ files. with_file (kept_target path) bytes files (kept_target path) ≡ Some bytes) old.told (λ files. with_this (kept_target path) bytes files)))

  taken_later : (entry : TargetFile) (bytes : List ℕ) (old new : Watched Files) (result : Result (List ℕ) Error) → TakesFile entry path bytes old new result → old.faults ≤ new.faults
  taken_later entry bytes old new result (target.differs e f s r) = subst (λ (w : Watched Files). old.faults ≤ w.faults) (sym s) (le_refl old.faults)
  taken_later entry bytes old new result (target.unsaved e f s r) = saved_later bytes (kept_target path) old new (Err e) s
  taken_later entry bytes old new result (target.given f s r) = saved_later bytes (kept_target path) old new (Ok tt) s

  downloaded_later : (consistent : Bool) (config : UpdaterConfig) (entry : TargetFile) (repo repo' : Watched Folders) (old new : Watched Files) (result : Result (List ℕ) Error) → Downloads consistent config entry path repo repo' old new result → old.faults ≤ new.faults
  downloaded_later consistent config entry repo repo' old new result (target.unnamed e w r s is) = subst (λ (w : Watched Files). old.faults ≤ w.faults) (sym s) (le_refl old.faults)
  downloaded_later consistent config entry repo repo' old new result (target.unfetched name e w f s is) = subst (λ (w : Watched Files). old.faults ≤ w.faults) (sym s) (le_refl old.faults)
  downloaded_later consistent config entry repo repo' old new result (target.absent name w f s is) = subst (λ (w : Watched Files). old.faults ≤ w.faults) (sym s) (le_refl old.faults)
  downloaded_later consistent config entry repo repo' old new result (target.fetched name bytes w f t) = taken_later entry bytes old new result t

  recalled_later : (entry : TargetFile) (old new : Watched Files) (result : Result (Option (List ℕ)) Error) → Recalls entry path old new result → old.faults ≤ new.faults
  recalled_later entry old new result r = (loaded_told (kept_target path) old new r.loaded r.loads).1

  obtained_later : (consistent : Bool) (config : UpdaterConfig) (entry : TargetFile) (repo repo' : Watched Folders) (old new : Watched Files) (result : Result (List ℕ) Error) → Obtains consistent config entry path repo repo' old new result → old.faults ≤ new.faults
  obtained_later consistent config entry repo repo' old new result (target.unrecalled e r s is) = recalled_later entry old new (Err e) r
  obtained_later consistent config entry repo repo' old new result (target.recalled bytes r s is) = recalled_later entry old new (Ok (Some bytes)) r
  obtained_later consistent config entry repo repo' old new result (target.downloaded mid r d) = le_trans (recalled_later entry old mid (Ok None) r) (downloaded_later consistent config entry repo repo' mid new result d)

  downloaded_there : (consistent : Bool) (config : UpdaterConfig) (entry : TargetFile) (repo repo' : Watched Folders) (old new : Watched Files) (file : List ℕ) → is_bad_name (kept_target path) ≡ false → Quiet old.faults new.faults
      → Downloads consistent config entry path repo repo' old new (Ok file) → HasFile file new
  downloaded_there consistent config entry repo repo' old new file good quiet (target.unnamed e w r s is) = no_both file e is
  downloaded_there consistent config entry repo repo' old new file good quiet (target.unfetched name e w f s is) = no_both file e is
  downloaded_there consistent config entry repo repo' old new file good quiet (target.absent name w f s is) = no_both file _ is
  downloaded_there consistent config entry repo repo' old new file good quiet (target.fetched name bytes w f t) = taken_there entry bytes file old new good quiet t

  obtained_there : (consistent : Bool) (config : UpdaterConfig) (entry : TargetFile) (repo repo' : Watched Folders) (old new : Watched Files) (file : List ℕ) → is_bad_name (kept_target path) ≡ false → Quiet old.faults new.faults
      → Obtains consistent config entry path repo repo' old new (Ok file) → HasFile file new
  obtained_there consistent config entry repo repo' old new file good quiet (target.unrecalled e r s is) = no_both file e is
  obtained_there consistent config entry repo repo' old new file good quiet (target.recalled bytes r s is) = subst (λ b. HasFile b new) (sym (ok_same file bytes is)) (recalled_there entry bytes old new r)
  obtained_there consistent config entry repo repo' old new file good quiet (target.downloaded mid r d) =
      let a = recalled_later entry old mid (Ok None) r in
      let b = downloaded_later consistent config entry repo repo' mid new (Ok file) d in
      downloaded_there consistent config entry repo repo' mid new file good (quiet_second old.faults mid.faults new.faults a b quiet) d

  given_later : (config : UpdaterConfig) (visits : List Visit) (old new : State) (result : Result TrustChain Error) → GivesChain config path visits old new result → old.store.faults ≤ new.store.faults
  given_later config visits old new result (chain.unlisted e h s is) = subst (λ (x : State). old.store.faults ≤ x.store.faults) (sym s) (le_refl old.store.faults)
  given_later config visits old new result (chain.unobtained entry e l f s is) = obtained_later (is_consistent old.documents) config entry old.repo new.repo old.store new.store (Err e) f
  given_later config visits old new result (chain.unchained entry file e l f s h is) = obtained_later (is_consistent old.documents) config entry old.repo new.repo old.store new.store (Ok file) f
  given_later config visits old new result (chain.found entry file c l f s h is) = obtained_later (is_consistent old.documents) config entry old.repo new.repo old.store new.store (Ok file) f

  pub gets_later : (session : Session) (old new : State) (result : Result TrustChain Error) → GetsTarget session path old new result → old.store.faults ≤ new.store.faults
  gets_later session old new result (chain.unfound e f is) = finds_later session path old new (Err e) f
  gets_later session old new result (chain.visited visits mid f g) = le_trans (finds_later session path old mid (Ok visits) f) (given_later session.config visits mid new result g)

  -- ---- the documents stay

  moved_stays : (old new : State) → new.documents ≡ old.documents → Has old.documents new.store → Has new.documents new.store
  moved_stays old new d h = subst (λ (set : InForce). Has set new.store) (sym d) h

  given_stays : (config : UpdaterConfig) (visits : List Visit) (old new : State) (result : Result TrustChain Error) → GivesChain config path visits old new result → Has old.documents old.store → Has new.documents new.store
  given_stays config visits old new result (chain.unlisted e k s is) h = subst (λ (x : State). Has x.documents x.store) (sym s) h
  given_stays config visits old new result (chain.unobtained entry e l f s is) h = moved_stays old new s (obtained_stays old.documents (is_consistent old.documents) config entry old.repo new.repo old.store new.store (Err e) f h)
  given_stays config visits old new result (chain.unchained entry file e l f s k is) h = moved_stays old new s (obtained_stays old.documents (is_consistent old.documents) config entry old.repo new.repo old.store new.store (Ok file) f h)
  given_stays config visits old new result (chain.found entry file c l f s k is) h = moved_stays old new s (obtained_stays old.documents (is_consistent old.documents) config entry old.repo new.repo old.store new.store (Ok file) f h)

  pub gets_stay : (session : Session) (old new : State) (result : Result TrustChain Error) → GetsTarget session path old new result → StaysKept old new (said result)
  gets_stay session old new result (chain.unfound e f is) = λ most quiet h. finds_stay session path old new (Err e) f h
  gets_stay session old new result (chain.visited visits mid f g) = λ most quiet h. given_stays session.config visits mid new result g (finds_stay session path old mid (Ok visits) f h)

  pub info_stays : (session : Session) (old new : State) (result : Result (Option TargetFile) Error) → GivesInfo session path old new result → StaysKept old new (said result)
  info_stays session old new result (search.unfound e f is) = λ most quiet h. finds_stay session path old new (Err e) f h
  info_stays session old new result (search.uncopied visits f is) = λ most quiet h. finds_stay session path old new (Ok visits) f h
  info_stays session old new result (search.given visits f is) = λ most quiet h. finds_stay session path old new (Ok visits) f h

  -- ---- the chain

  tops_kept : (files : Files) (set : InForce) → IfSome (option_map (λ (held : Held Targets). held.bytes) (top_targets set)) (IsFiled files targets_name) → (visits : List Visit)
      → AllByRecursion (λ (r : RoleDoc). r.name ≡ codes "targets" → IfSome r.bytes (IsFiled files targets_name)) (map (role_doc_in set) visits)
  tops_kept files set h [] = tt
  tops_kept files set h (v ∷ vs) =
      (λ is. subst (λ n. IfSome (option_map (λ (held : Held Targets). held.bytes) (at_name n set.targets)) (IsFiled files targets_name)) (sym is) h, tops_kept files set h vs)

  chain_kept : (files : Files) (set : InForce) (visits : List Visit) (entry : TargetFile) (file : List ℕ) (chain : TrustChain) → chain_of set visits entry file ≡ Ok chain → files (kept_target path) ≡ Some file → HoldsInForce files set → HoldsChain files path chain
  chain_kept files set visits entry file chain c f h = by_documents set.timestamp set.snapshot refl refl c
    where
      by_documents : (a : Option (Held Timestamp)) (b : Option (Held Snapshot)) → set.timestamp ≡ a → set.snapshot ≡ b → chain_in set a b visits entry file ≡ Ok chain → HoldsChain files path chain
      by_documents None b p q c = cc
      by_documents (Some x) None p q c = cc
      by_documents (Some x) (Some y) p q c = subst (HoldsChain files path) (ok_same _ chain c) (record {
        root = h.root;
        roots = h.adopted.roots;
        timestamp = subst (λ o. IfSome (option_map (λ held. held.bytes) o) (IsFiled files timestamp_name)) p h.adopted.timestamp;
        snapshot = subst (λ o. IfSome (option_map (λ held. held.bytes) o) (IsFiled files snapshot_name)) q h.adopted.snapshot;
        targets = tops_kept files set h.adopted.targets visits;
        file = f;
      })

  given_kept : (config : UpdaterConfig) (visits : List Visit) (old new : State) (c : TrustChain) → GivesChain config path visits old new (Ok c) → is_bad_name (kept_target path) ≡ false → Quiet old.store.faults new.store.faults → Has old.documents old.store
      → IfTold new.store.told (λ files. HoldsChain files path c)
  given_kept config visits old new c (chain.unlisted e k s is) good quiet h = no_both c e is
  given_kept config visits old new c (chain.unobtained entry e l f s is) good quiet h = no_both c e is
  given_kept config visits old new c (chain.unchained entry file e l f s k is) good quiet h = no_both c e is
  given_kept config visits old new c (chain.found entry file other l f s k is) good quiet h =
      told_both (λ files. files (kept_target path) ≡ Some file) (λ files. HoldsInForce files old.documents) (λ files. HoldsChain files path c) new.store.told
      (λ files there held. chain_kept files old.documents visits entry file c (k ∙ sym is) there held)
      (obtained_there (is_consistent old.documents) config entry old.repo new.repo old.store new.store file good quiet f)
      (obtained_stays old.documents (is_consistent old.documents) config entry old.repo new.repo old.store new.store (Ok file) f h)

  pub gets_kept : (session : Session) (old new : State) (result : Result TrustChain Error) → GetsTarget session path old new result → IfOk result (KeepsChain path old new)
  gets_kept session old new (Err e) g = tt
  gets_kept session old new (Ok c) (chain.unfound e f is) = no_both c e is
  gets_kept session old new (Ok c) (chain.visited visits mid f g) = λ good quiet h.
      given_kept session.config visits mid new c g good
      (quiet_second old.store.faults mid.store.faults new.store.faults (finds_later session path old mid (Ok visits) f) (given_later session.config visits mid new (Ok c) g) quiet)
      (finds_stay session path old mid (Ok visits) f h)
