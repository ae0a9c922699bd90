-- What a search and its file leave in a told store: whatever holds of its files, where no write of a role's document or of the target's
-- file undoes it.
use Rattle.std.proofs.Common.{◌≡◌, inl, inr, ℕ, List, [], ◌∷◌, Bool, false, Option, Some, None, Result, Ok, Err, sym, ap, subst}
use Rattle.std.specs.Prelude.{⊤}
use Rattle.foundation.specs.Watched.{Watched}
use Rattle.sigstore_tuf_text.specs.declared.error.Error.{Error}
use Rattle.sigstore_tuf_parts.specs.declared.snapshot.Snapshot.{Snapshot}
use Rattle.sigstore_tuf_parts.specs.declared.targets.TargetFile.{TargetFile}
use Rattle.sigstore_tuf_outside.specs.Repository.{Files, Folders}
use Rattle.sigstore_tuf_outside.specs.Store.{with_file}
use Rattle.sigstore_tuf_rules.specs.declared.chain.TrustChain.{TrustChain}
use Rattle.sigstore_tuf_rules.specs.declared.config.UpdaterConfig.{UpdaterConfig}
use Rattle.sigstore_tuf_rules.specs.declared.visit.Visit.{Visit}
use Rattle.sigstore_tuf_rules.specs.declared.visit.Walk.{Walk}
use Rattle.sigstore_tuf_rules.specs.Delegated.{update_role_of}
use Rattle.sigstore_tuf_rules.specs.Names.{is_consistent, kept_target, role_file}
use Rattle.sigstore_tuf_rules.specs.Order.{is_top_level}
use Rattle.sigstore_tuf_rules.proofs.RolePuts.{role_put, taken_some}
use Rattle.sigstore_tuf_runs.specs.Adopt.{SavesAll, unfetched, absent, refused, kept, adopted}
use Rattle.sigstore_tuf_runs.specs.Chain as chain
use Rattle.sigstore_tuf_runs.specs.Chain.{GivesChain, GetsTarget}
use Rattle.sigstore_tuf_runs.specs.Search.{AdoptsRole, Readies, wanting, untouched, looked_at, had, Searches, ended, short, unready, gapped, visited, FindsVisits, unserved, searched}
use Rattle.sigstore_tuf_runs.specs.State.{Session, State}
use Rattle.sigstore_tuf_runs.specs.Target as target
use Rattle.sigstore_tuf_runs.specs.Target.{Recalls, TakesFile, Downloads, Obtains}
use Rattle.sigstore_tuf_causes.proofs.Carrying.{loaded_same}
use Rattle.sigstore_tuf_offers.proofs.Completing.{TellsSo, tells_same, saved_so}

module _ (Q : Files → Type 0) (path : List ℕ) (roles : (name bytes : List ℕ) → is_top_level name ≡ false → (files : Files) → Q files → Q (with_file (role_file name) bytes files))
    (file : (bytes : List ℕ) (files : Files) → Q files → Q (with_file (kept_target path) bytes files)) where
  abbrev Keeps : Watched Files → Watched Files → Type 0
  Keeps old new = TellsSo Q old → TellsSo Q new

  same_so : (old new : Watched Files) → new ≡ old → Keeps old new
  same_so old new e t = subst (TellsSo Q) (sym e) t

  one_so : (bytes name : List ℕ) (old new : Watched Files) (result : Result ⊤ Error) → ((files : Files) → Q files → Q (with_file name bytes files)) → SavesAll bytes (name ∷ []) old new result → Keeps old new
  one_so bytes name old new result h (inl (e, s, r)) t = saved_so Q bytes name old new (Err e) h s t
  one_so bytes name old new result h (inr (mid, s, (same, r))) t = same_so mid new same (saved_so Q bytes name old mid (Ok tt) h s t)

  -- ---- the search

  module _ (session : Session) where
    adopts_so : (v : Visit) (old new : State) (answer : Result Bool Error) → AdoptsRole session v old new answer → Keeps old.store new.store
    adopts_so v old new answer (unfetched e f u r) t = same_so old.store new.store u.store t
    adopts_so v old new answer (absent f u r) t = same_so old.store new.store u.store t
    adopts_so v old new answer (refused bytes e f j u r) t = same_so old.store new.store u.store t
    adopts_so v old new answer (kept bytes f j u r) t = same_so old.store new.store u.store t
    adopts_so v old new answer (adopted bytes written f j w r) t =
        let put = role_put session.crypto old.documents v bytes (Some session.now) new.documents (taken_some (update_role_of session.crypto old.documents v bytes (Some session.now)) new.documents j) in
        one_so bytes (role_file v.name) old.store new.store written (roles v.name bytes put.other) w.saves t

    ready_so : (v : Visit) (w : Walk) (old new : State) (result : Result ⊤ Error) → Readies session v w old new result → Keeps old.store new.store
    ready_so v w old new result (wanting s r) t = same_so old.store new.store (ap (λ (x : State). x.store) s) t
    ready_so v w old new result (untouched n s r) t = same_so old.store new.store (ap (λ (x : State). x.store) s) t
    ready_so v w old new result (looked_at n k c) t = same_so old.store new.store (ap (λ (x : State). x.store) c.same) t
    ready_so v w old new result (had answer n k a is) t = adopts_so v old new answer a t

    searches_so : {snapshot : Snapshot} {vs : List Visit} {w : Walk} {old new : State} {result : Result Walk Error} → Searches session snapshot path vs w old new result → Keeps old.store new.store
    searches_so (ended w state) t = t
    searches_so (short vs w state) t = t
    searches_so (unready v vs w old new e r) t = ready_so v w old new (Err e) r t
    searches_so (gapped v vs w old new e r g) t = ready_so v w old new (Ok tt) r t
    searches_so (visited v vs w step old mid new result r s more) t = searches_so more (ready_so v w old mid (Ok tt) r t)

    finds_so : (old new : State) (result : Result (List Visit) Error) → FindsVisits session path old new result → Keeps old.store new.store
    finds_so old new result (unserved e k same is) t = same_so old.store new.store (ap (λ (x : State). x.store) same) t
    finds_so old new result (searched snapshot answer ok there s is) t = searches_so s t

  -- ---- the file

  recalls_so : (entry : TargetFile) (old new : Watched Files) (result : Result (Option (List ℕ)) Error) → Recalls entry path old new result → Keeps old new
  recalls_so entry old new result r t = tells_same Q old new (loaded_same (kept_target path) old new r.loaded r.loads) t

  takes_so : (entry : TargetFile) (bytes : List ℕ) (old new : Watched Files) (result : Result (List ℕ) Error) → TakesFile entry path bytes old new result → Keeps old new
  takes_so entry bytes old new result (target.differs e f s r) t = same_so old new s t
  takes_so entry bytes old new result (target.unsaved e f s r) t = saved_so Q bytes (kept_target path) old new (Err e) (file bytes) s t
  takes_so entry bytes old new result (target.given f s r) t = saved_so Q bytes (kept_target path) old new (Ok tt) (file bytes) s t

  downloads_so : (consistent : Bool) (config : UpdaterConfig) (entry : TargetFile) (repo repo' : Watched Folders) (old new : Watched Files) (result : Result (List ℕ) Error) → Downloads consistent config entry path repo repo' old new result → Keeps old new
  downloads_so consistent config entry repo repo' old new result (target.unnamed e w r s is) t = same_so old new s t
  downloads_so consistent config entry repo repo' old new result (target.unfetched name e w f s is) t = same_so old new s t
  downloads_so consistent config entry repo repo' old new result (target.absent name w f s is) t = same_so old new s t
  downloads_so consistent config entry repo repo' old new result (target.fetched name bytes w f k) t = takes_so entry bytes old new result k t

  obtains_so : (consistent : Bool) (config : UpdaterConfig) (entry : TargetFile) (repo repo' : Watched Folders) (old new : Watched Files) (result : Result (List ℕ) Error) → Obtains consistent config entry path repo repo' old new result → Keeps old new
  obtains_so consistent config entry repo repo' old new result (target.unrecalled e r s is) t = recalls_so entry old new (Err e) r t
  obtains_so consistent config entry repo repo' old new result (target.recalled bytes r s is) t = recalls_so entry old new (Ok (Some bytes)) r t
  obtains_so consistent config entry repo repo' old new result (target.downloaded mid r d) t = downloads_so consistent config entry repo repo' mid new result d (recalls_so entry old mid (Ok None) r t)

  -- ---- the whole

  gives_so : (config : UpdaterConfig) (visits : List Visit) (old new : State) (result : Result TrustChain Error) → GivesChain config path visits old new result → Keeps old.store new.store
  gives_so config visits old new result (chain.unlisted e h s is) t = same_so old.store new.store (ap (λ (x : State). x.store) s) t
  gives_so config visits old new result (chain.unobtained entry e l f s is) t = obtains_so (is_consistent old.documents) config entry old.repo new.repo old.store new.store (Err e) f t
  gives_so config visits old new result (chain.unchained entry bytes e l f s h is) t = obtains_so (is_consistent old.documents) config entry old.repo new.repo old.store new.store (Ok bytes) f t
  gives_so config visits old new result (chain.found entry bytes c l f s h is) t = obtains_so (is_consistent old.documents) config entry old.repo new.repo old.store new.store (Ok bytes) f t

  pub gets_so : (session : Session) (old new : State) (result : Result TrustChain Error) → GetsTarget session path old new result → Keeps old.store new.store
  gets_so session old new result (chain.unfound e f is) t = finds_so session old new (Err e) f t
  gets_so session old new result (chain.visited visits mid f g) t = gives_so session.config visits mid new result g (finds_so session old mid (Ok visits) f t)
