-- A search that is Ok is over documents that serve, and what it finds is trusted.
use Rattle.std.proofs.Common.{◌≡◌, ℕ, ◌==◌, ◌||◌, if◌then◌else◌, List, [], ◌∷◌, map, Bool, true, false, Option, Some, None, Result, Ok, Err, bytes_eq, codes, refl, sym, ap, ◌∙◌, subst, arith, le_refl}
use Rattle.std.specs.Prelude.{⊤, is_some, ok_or, option_map, option_and_then, IfOk}
use Rattle.std.specs.List.{AllByRecursion, last_or}
use Rattle.std.specs.Result.{result_ok}
use Rattle.std.specs.Ordering.{is_eq}
use Rattle.std.proofs.lemmas.Bool.Decides.{nat_tests}
use Rattle.std.proofs.lemmas.Slice.Eq.{bytes_eq-Decides}
use Rattle.std.proofs.lemmas.Map.Text.{is_eq-slice_cmp}
use Rattle.jiff_core.specs.declared.timestamp.Timestamp as jiff
use Rattle.foundation.specs.Steps.{◌>>=◌}
use Rattle.foundation.specs.Watched.{Watched}
use Rattle.foundation.specs.Results.{step_ok, ok_same, some_same, no_both}
use Rattle.sigstore_types_parts.specs.Entries.{at_name, text_cmp}
use Rattle.sigstore_tuf_text.specs.declared.error.Error.{Error}
use Rattle.sigstore_tuf_text.specs.declared.error.Error.TheVariants.{IntegrityMismatch, UnknownRole, Malformed}
use Rattle.sigstore_tuf_text.specs.declared.error.Mismatch.TheVariants.{Version}
use Rattle.sigstore_tuf_text.specs.declared.error.Rule.TheVariants as rule
use Rattle.sigstore_tuf_parts.specs.declared.timestamp.MetaFile.{MetaFile}
use Rattle.sigstore_tuf_parts.specs.declared.timestamp.Timestamp.{Timestamp}
use Rattle.sigstore_tuf_parts.specs.declared.snapshot.Snapshot.{Snapshot}
use Rattle.sigstore_tuf_parts.specs.declared.targets.TargetFile.{TargetFile}
use Rattle.sigstore_tuf_parts.specs.declared.targets.Targets.{Targets}
use Rattle.sigstore_tuf_parts.specs.declared.root.Root.{Root}
use Rattle.sigstore_tuf_parts.specs.Document.{content_in}
use Rattle.sigstore_tuf_parts.specs.Integrity.{fresh_of}
use Rattle.sigstore_tuf_parts.specs.Meets.{Meets}
use Rattle.sigstore_tuf_text.specs.Names.{pin_name}
use Rattle.sigstore_tuf_parts.specs.Pinned.{Fresh}
use Rattle.sigstore_tuf_parts.specs.Threshold.{is_among}
use Rattle.sigstore_tuf_parts.proofs.IntegrityLaws.{integrity_exactly}
use Rattle.sigstore_tuf_parts.proofs.MeetsLaw.{meets_exactly}
use Rattle.sigstore_tuf_outside.specs.Repository.{Folders, Files}
use Rattle.sigstore_tuf_rules.specs.declared.config.UpdaterConfig.{UpdaterConfig}
use Rattle.sigstore_tuf_rules.specs.declared.documents.Held.{Held}
use Rattle.sigstore_tuf_rules.specs.declared.documents.InForce.{InForce}
use Rattle.sigstore_tuf_rules.specs.declared.chain.RoleDoc.{RoleDoc}
use Rattle.sigstore_tuf_rules.specs.declared.chain.TrustChain.{TrustChain}
use Rattle.sigstore_tuf_rules.specs.Documents.{targets_document, content_of, snapshot_pin}
use Rattle.sigstore_tuf_rules.specs.Names.{is_consistent}
use Rattle.sigstore_tuf_runs.specs.State.{Session, State}
use Rattle.sigstore_tuf_rules.specs.Taking.{top_targets}
use Rattle.sigstore_tuf_rules.specs.SearchServing.{fresh_timestamp_of, fresh_snapshot_of, unexpired_of, pinned_version_of, pinned_by_of, all_pinned_of, search_serves_of}
use Rattle.sigstore_tuf_runs.specs.Target.{if_pinned, recalled_of, file_of, TakesFile, differs, unsaved, given, Downloads, unnamed, unfetched, absent, fetched, Obtains, unrecalled, recalled, downloaded}
use Rattle.sigstore_tuf_rules.specs.declared.visit.Visit.{Visit}
use Rattle.sigstore_tuf_rules.specs.declared.visit.Walk.{Walk}
use Rattle.sigstore_tuf_rules.specs.Order.{Gap, is_pinned, first_visit, first_walk, walk_of, search_of, order}
use Rattle.sigstore_tuf_rules.specs.SearchLaws.{walk_all, visits_of, tree_of}
use Rattle.sigstore_tuf_runs.specs.Search.{documents_of, listed_by, entry_after, Searches, visits_in, FindsVisits, unserved, searched, GivesInfo}
use Rattle.sigstore_tuf_runs.specs.Search as search
use Rattle.sigstore_tuf_runs.specs.Chain.{role_doc_in, chain_of, GivesChain, unlisted, unobtained, unchained, found, GetsTarget, unfound, visited}
use Rattle.sigstore_tuf_rules.specs.Trusted.{visit_in, read_in, documents_in, last_in, RoleAuthority, authority_in, delegated_authority, root_authority, authority_of, IsTrustedRole, IsTrustedVisit, Trusted}
use Rattle.sigstore_tuf_rules.specs.Delegated.{not_top_level_of, delegation_of}
use Rattle.sigstore_tuf_rules.specs.Authorised.{AreAuthorised, IsAuthorised, given_in, Serve}
use Rattle.sigstore_tuf_runs.specs.Found.{role_bytes, Finds, FindsEntry}
use Rattle.sigstore_tuf_rules.proofs.Authorised.{Stays}
use Rattle.sigstore_tuf_causes.proofs.Holding.{stays_whole}
use Rattle.sigstore_tuf_rules.proofs.Updates.{where_some, ok_some, fresh_from}
use Rattle.sigstore_tuf_causes.proofs.Growing.{Grows, finds_grows, finds_stays, search_grows}
use Rattle.sigstore_tuf_causes.proofs.Followed.{each_map}
use Rattle.sigstore_tuf_causes.proofs.Visits.{IsMade, reads_none, reads_top, reads_role, Onward, onward_begins, low_name}
use Rattle.sigstore_tuf_causes.proofs.Replay.{AgreesOn, search_arrives}

-- ---- a search that is Ok

version_there : (pin : Option MetaFile) (version : ℕ) → pinned_version_of pin version ≡ Ok tt → (p : MetaFile) × (pin ≡ Some p) × (version ≡ p.version)
version_there None version h = cc
version_there (Some p) version h = (p, refl, by_test (p.version == version) refl h)
  where
    by_test : (b : Bool) → (p.version == version) ≡ b → ◌≡◌ {A = Result ⊤ Error} (if b then Ok tt else Err (IntegrityMismatch Version)) (Ok tt) → version ≡ p.version
    by_test true e h = grind (arith, nat_tests)
    by_test false e h = cc

module _ (set : InForce) (now : jiff.Timestamp) where
  all_there : Fresh (content_in set.root).expires now → (t : Option (Held Timestamp)) (s : Option (Held Snapshot)) (g : Option (Held Targets)) → set.timestamp ≡ t → set.snapshot ≡ s → top_targets set ≡ g
      → fresh_timestamp_of t now ≡ Ok tt → fresh_snapshot_of s now ≡ Ok tt → all_pinned_of t s g now ≡ Ok tt → Serve now set
  unfolding pinned_by_of
  all_there f None s g et es eg ft fs h = cc
  all_there f (Some t) None g et es eg ft fs h = cc
  all_there f (Some t) (Some s) None et es eg ft fs h = cc
  all_there f (Some t) (Some s) (Some g) et es eg ft fs h =
      let a = step_ok (fresh_of (codes "targets") (content_of g).expires now) _ tt h in
      let b = step_ok (pinned_version_of (snapshot_pin (content_of t)) (content_of s).version) _ tt a.2 in
      let v = version_there (snapshot_pin (content_of t)) (content_of s).version b.1 in
      record {
        root_fresh = f;
        timestamp = t;
        timestamp_is = et;
        timestamp_fresh = fresh_from (codes "timestamp") (content_of t).expires now ft;
        snapshot = s;
        snapshot_is = es;
        snapshot_fresh = fresh_from (codes "snapshot") (content_of s).expires now fs;
        pin = v.0;
        pin_is = v.1;
        snapshot_version = v.2;
        targets = g;
        targets_is = eg;
        targets_fresh = fresh_from (codes "targets") (content_of g).expires now a.1;
      }

  pub search_serves : search_serves_of set now ≡ Ok tt → Serve now set
  unfolding search_serves_of unexpired_of
  search_serves h =
      let a = step_ok (unexpired_of set now) _ tt h in
      let r = step_ok (fresh_of (codes "root") (content_in set.root).expires now) _ tt a.1 in
      let t = step_ok (fresh_timestamp_of set.timestamp now) _ tt r.2 in
      all_there (fresh_from (codes "root") (content_in set.root).expires now r.1) set.timestamp set.snapshot (top_targets set) refl refl refl t.1 t.2 a.2

-- what serves goes on to serve
abbrev pub serve_grows : {now : jiff.Timestamp} {old new : InForce} → Grows old new → Serve now old → Serve now new
serve_grows {now} {old} {new} g s = record {
  root_fresh = subst (λ r. Fresh (content_in {T = Root} r).expires now) (sym g.root) s.root_fresh;
  timestamp = s.timestamp;
  timestamp_is = g.timestamp ∙ s.timestamp_is;
  timestamp_fresh = s.timestamp_fresh;
  snapshot = s.snapshot;
  snapshot_is = g.snapshot ∙ s.snapshot_is;
  snapshot_fresh = s.snapshot_fresh;
  pin = s.pin;
  pin_is = s.pin_is;
  snapshot_version = s.snapshot_version;
  targets = s.targets;
  targets_is = g.top ∙ s.targets_is;
  targets_fresh = s.targets_fresh;
}

-- ---- a visit that was made is trusted

authority_there : (set : InForce) (d : List ℕ → Option Targets) (v : Visit) (authority : RoleAuthority) → d v.delegator ≡ documents_of set v.delegator → delegation_of set v ≡ Ok authority → delegated_authority d v ≡ Some authority
unfolding delegation_of
authority_there set d v authority agrees h =
    let t = step_ok (not_top_level_of v.name) _ authority h in
    let e = step_ok (ok_or (at_name v.delegator set.targets) (UnknownRole v.delegator)) _ authority t.2 in
    let there = ok_some (at_name v.delegator set.targets) (UnknownRole v.delegator) e.0 e.1 in
    let f = step_ok (ok_or (content_of e.0).delegations (Malformed rule.NoDelegations)) _ authority e.2 in
    let ds = ok_some (content_of e.0).delegations (Malformed rule.NoDelegations) f.0 f.1 in
    let is = ok_some (authority_in v.name f.0) (UnknownRole v.name) authority f.2 in
    ap (option_and_then (λ (doc : Targets). option_and_then (authority_in v.name) doc.delegations)) (agrees ∙ ap (option_map (λ (x : Held Targets). content_of x)) there)
    ∙ ap (option_and_then (authority_in v.name)) ds ∙ is

module _ (session : Session) (first : List ℕ) (set : InForce) (k : AreAuthorised session.crypto first set) (serve : Serve session.now set) where
  abbrev IsTrusted : (List ℕ → Option Targets) → Visit → Option (List ℕ) → Type 0
  IsTrusted d v bytes = IsTrustedVisit session.crypto (content_in set.root) (content_of serve.snapshot) d session.now v bytes

  -- a document in force is the one that the snapshot pins
  pinned_here : (name : List ℕ) (held : Held Targets) → at_name name set.targets ≡ Some held → (pin : MetaFile) × (at_name (pin_name name) (content_of serve.snapshot).meta ≡ Some pin)
  pinned_here name held there =
      let r = k.roles name held there in
      let same : r.held ≡ serve.snapshot = some_same r.held serve.snapshot (sym r.there ∙ serve.snapshot_is) in
      (r.pin, ap (λ (h : Held Snapshot). at_name (pin_name name) (content_of h).meta) (sym same) ∙ r.pin_is)

  role_trusted : (d : List ℕ → Option Targets) (v : Visit) (held : Held Targets) (authority : RoleAuthority) → at_name v.name set.targets ≡ Some held → authority_of (content_in set.root) d v ≡ Some authority
      → Meets session.crypto authority.keys authority.role held.document → Fresh (content_of held).expires session.now → IsTrustedRole session.crypto (content_in set.root) (content_of serve.snapshot) d session.now v held.bytes
  role_trusted d v held authority there is met fresh =
      let r = k.roles v.name held there in
      let same : r.held ≡ serve.snapshot = some_same r.held serve.snapshot (sym r.there ∙ serve.snapshot_is) in
      record {
        doc = held.document;
        pin = r.pin;
        authority = authority;
        read = r.read;
        pin_is = ap (λ (h : Held Snapshot). at_name (pin_name v.name) (content_of h).meta) (sym same) ∙ r.pin_is;
        pinned = r.pinned;
        fresh = fresh;
        authority_is = is;
        met = met;
      }

  bytes_there : (d : List ℕ → Option Targets) (v : Visit) (held : Held Targets) → at_name v.name set.targets ≡ Some held → IsTrusted d v (Some held.bytes) → IsTrusted d v (role_bytes set v.name)
  bytes_there d v held there t = subst (IsTrusted d v) (sym (ap (option_map (λ (h : Held Targets). h.bytes)) there)) t

  none_there : (d : List ℕ → Option Targets) (v : Visit) → is_pinned (content_of serve.snapshot) v.name ≡ false → (o : Option (Held Targets)) → at_name v.name set.targets ≡ o → IsTrusted d v (option_map (λ (h : Held Targets). h.bytes) o)
  none_there d v unpinned None at = unpinned
  none_there d v unpinned (Some held) at =
      let p = pinned_here v.name held at in
      let never : true ≡ false = sym (ap is_some p.1) ∙ unpinned in cc

  made_trusted : (d : List ℕ → Option Targets) (w : Walk) → AgreesOn d set w → (v : Visit) → IsMade session (content_of serve.snapshot) set w v → IsTrusted d v (role_bytes set v.name)
  made_trusted d w agrees v (reads_none p) = none_there d v p (at_name v.name set.targets) refl
  made_trusted d w agrees v (reads_top held is there) =
      let top = where_some (top_targets set) _ held there k.targets in
      let name_is : v.name ≡ codes "targets" = ap (λ (x : Visit). x.name) is in
      let at : at_name v.name set.targets ≡ Some held = ap (λ n. at_name n set.targets) name_is ∙ there in
      let fresh : Fresh (content_of held).expires session.now = subst (λ (h : Held Targets). Fresh (content_of h).expires session.now) (some_same serve.targets held (sym serve.targets_is ∙ there)) serve.targets_fresh in
      bytes_there d v held at (role_trusted d v held (record { keys = (content_in set.root).keys; role = top.0 }) at
      (ap (λ (x : Visit). authority_of (content_in set.root) d x) is ∙ ap (λ o. option_map (λ role. record { keys = (content_in set.root).keys; role = role }) o) top.1) top.2 fresh)
  made_trusted d w agrees v (reads_role r s) =
      let low = low_name set v s.authority s.delegated in
      let is = authority_there set d v s.authority (agrees v.delegator r) s.delegated in
      bytes_there d v s.held s.there (role_trusted d v s.held s.authority s.there
      (ap (λ b. if b then root_authority (content_in set.root) v.name else delegated_authority d v) low ∙ is)
      ((meets_exactly session.crypto s.authority.keys s.authority.role v.name s.held.document).0 s.met) s.fresh)

  pub visits_trusted : (d : List ℕ → Option Targets) (w : Walk) → AgreesOn d set w → AllByRecursion (IsMade session (content_of serve.snapshot) set w) w.visits
      → AllByRecursion (λ (v : Visit). IsTrusted d v (role_bytes set v.name)) w.visits
  visits_trusted d w agrees made =
      each_map (IsMade session (content_of serve.snapshot) set w) (λ (v : Visit). IsTrusted d v (role_bytes set v.name)) w.visits (made_trusted d w agrees) made

-- ---- what a search finds

-- the walk at its end, over documents that serve
pub record Went (session : Session) (path : List ℕ) (set : InForce) (visits : List Visit) : Type 0 where
  pub serve : Serve session.now set
  pub walk : Walk
  pub visits_are : visits ≡ walk.visits
  pub onward : Onward session (content_of serve.snapshot) set [] walk
  pub order_is : (d : List ℕ → Option Targets) → AgreesOn d set walk → order d (content_of serve.snapshot) path session.config.max_delegations ≡ Some visits

gave_visits : (answer : Result Walk Error) (visits : List Visit) → Ok visits ≡ visits_in answer → (u : Walk) × (answer ≡ Ok u) × (visits ≡ u.visits)
gave_visits (Ok u) visits h = (u, refl, ok_same visits u.visits h)
gave_visits (Err e) visits h = cc

again : (r : Result Walk Gap) → visits_of (r >>= λ u. Ok u) ≡ (r >>= λ w. Ok w.visits)
again (Ok u) = refl
again (Err e) = refl

order_of : (d : List ℕ → Option Targets) (snapshot : Snapshot) (path : List ℕ) (max : ℕ) (visits : List Visit) → visits_of (walk_all max (tree_of d snapshot path) (first_visit ∷ []) (first_walk max)) ≡ Ok visits
    → order d snapshot path max ≡ Some visits
unfolding search_of
order_of d snapshot path max visits h = ap result_ok (sym (again (walk_of max (tree_of d snapshot path) first_visit (first_walk max))) ∙ h)

module _ (session : Session) (path : List ℕ) where
  went_there : (old new : State) (visits : List Visit) (snapshot : Held Snapshot) (u : Walk) → Serve session.now old.documents → old.documents.snapshot ≡ Some snapshot
      → Searches session (content_of snapshot) path (first_visit ∷ []) (first_walk session.config.max_delegations) old new (Ok u) → visits ≡ u.visits → Went session path new.documents visits
  went_there old new visits snapshot u serve there s is =
      let same : snapshot ≡ serve.snapshot = some_same snapshot serve.snapshot (sym there ∙ serve.snapshot_is) in
      let s' : Searches session (content_of serve.snapshot) path (first_visit ∷ []) (first_walk session.config.max_delegations) old new (Ok u) =
      subst (λ (h : Held Snapshot). Searches session (content_of h) path (first_visit ∷ []) (first_walk session.config.max_delegations) old new (Ok u)) same s in
      let a = search_arrives session (content_of serve.snapshot) path s' (onward_begins session (content_of serve.snapshot) old.documents session.config.max_delegations) (ap (option_map (λ (h : Held Snapshot). content_of h)) serve.snapshot_is) in
      let g = search_grows session (content_of serve.snapshot) path _ _ old new (Ok u) s' in
      record {
        serve = serve_grows g serve;
        walk = u;
        visits_are = is;
        onward = a.onward;
        order_is = λ d agrees. order_of d (content_of serve.snapshot) path session.config.max_delegations visits (a.replays d agrees session.config.max_delegations (le_refl session.config.max_delegations) ∙ ap Ok (sym is));
      }

  pub finds_went : (old new : State) (visits : List Visit) → FindsVisits session path old new (Ok visits) → Went session path new.documents visits
  finds_went old new visits (unserved e h same is) = no_both visits e is
  finds_went old new visits (searched snapshot answer ok there s is) =
      let g = gave_visits answer visits is in
      went_there old new visits snapshot g.0 (search_serves old.documents session.now ok) there
      (subst (Searches session (content_of snapshot) path (first_visit ∷ []) (first_walk session.config.max_delegations) old new) g.1 s) g.2

  pub went_finds : (root : List ℕ) (set : InForce) (visits : List Visit) → AreAuthorised session.crypto root set → Went session path set visits → Finds session path set visits
  went_finds root set visits k w = record {
    serve = w.serve;
    order_is = w.order_is (documents_of set) (λ name h. refl);
    roles = subst (λ (vs : List Visit). AllByRecursion (λ (v : Visit). IsTrustedVisit session.crypto (content_in set.root) (content_of w.serve.snapshot) (documents_of set) session.now v (role_bytes set v.name)) vs) (sym w.visits_are)
        (visits_trusted session root set k w.serve (documents_of set) w.walk (λ name h. refl) w.onward.made);
  }

  -- the documents in force at the end of a search are authorised
  pub finds_authorised : (old new : State) (result : Result (List Visit) Error) → AreAuthorised session.crypto (given_in old.documents) old.documents → FindsVisits session path old new result → AreAuthorised session.crypto (given_in old.documents) new.documents
  finds_authorised old new result k f = let s = finds_stays session path old new result f in let a = s.authorised k in a.0

  -- as it is promised of an entry
  pub info_found : (old new : State) (result : Result (Option TargetFile) Error) → AreAuthorised session.crypto (given_in old.documents) old.documents → GivesInfo session path old new result → IfOk result (FindsEntry session path new.documents)
  info_found old new (Err e) k g = tt
  info_found old new (Ok entry) k (search.unfound e f is) = no_both entry e is
  info_found old new (Ok entry) k (search.uncopied visits f is) = no_both entry _ is
  info_found old new (Ok entry) k (search.given visits f is) =
      record { visits = visits; finds = went_finds (given_in old.documents) new.documents visits (finds_authorised old new (Ok visits) k f) (finds_went old new visits f); entry_is = ok_same entry _ is }

-- a file that was had is the entry's
pub recalled_there : (entry : TargetFile) (file : List ℕ) (loaded : Result (Option (List ℕ)) Error) → Ok (Some file) ≡ recalled_of entry loaded → file_of entry file ≡ Ok tt
recalled_there entry file (Ok None) h = cc
recalled_there entry file (Ok (Some bytes)) h = by_test (file_of entry bytes) refl h
  where
    by_test : (r : Result ⊤ Error) → file_of entry bytes ≡ r → ◌≡◌ {A = Result (Option (List ℕ)) Error} (Ok (Some file)) (Ok (if_pinned bytes r)) → file_of entry file ≡ Ok tt
    by_test (Ok x) e h = let same : file ≡ bytes = some_same file bytes (ok_same _ _ h) in ap (file_of entry) same ∙ e
    by_test (Err d) e h = cc
recalled_there entry file (Err e) h = cc

taken_there : (entry : TargetFile) (path bytes : List ℕ) (store store' : Watched Files) (file : List ℕ) → TakesFile entry path bytes store store' (Ok file) → file_of entry file ≡ Ok tt
taken_there entry path bytes store store' file (differs e f s r) = no_both file e r
taken_there entry path bytes store store' file (unsaved e f s r) = no_both file e r
taken_there entry path bytes store store' file (given f s r) = ap (file_of entry) (ok_same file bytes r) ∙ f

pub downloaded_there : (consistent : Bool) (config : UpdaterConfig) (entry : TargetFile) (path : List ℕ) (repo repo' : Watched Folders) (store store' : Watched Files) (file : List ℕ) → Downloads consistent config entry path repo repo' store store' (Ok file) → file_of entry file ≡ Ok tt
downloaded_there consistent config entry path repo repo' store store' file (unnamed e w r s is) = no_both file e is
downloaded_there consistent config entry path repo repo' store store' file (unfetched name e w f s is) = no_both file e is
downloaded_there consistent config entry path repo repo' store store' file (absent name w f s is) = no_both file _ is
downloaded_there consistent config entry path repo repo' store store' file (fetched name bytes w f t) = taken_there entry path bytes store store' file t

file_there : (consistent : Bool) (config : UpdaterConfig) (entry : TargetFile) (path : List ℕ) (repo repo' : Watched Folders) (store store' : Watched Files) (file : List ℕ) → Obtains consistent config entry path repo repo' store store' (Ok file) → file_of entry file ≡ Ok tt
file_there consistent config entry path repo repo' store store' file (unrecalled e r s is) = no_both file e is
file_there consistent config entry path repo repo' store store' file (recalled bytes r s is) = ap (file_of entry) (ok_same file bytes is) ∙ recalled_there entry bytes r.loaded r.result_is
file_there consistent config entry path repo repo' store store' file (downloaded mid r d) = downloaded_there consistent config entry path repo repo' mid store' file d

-- ---- the documents of a chain

module _ (set : InForce) where
  abbrev roles_of : List Visit → List RoleDoc
  roles_of visits = map (role_doc_in set) visits

  -- the document of a name that was visited is in the chain
  pub chain_document : (visits : List Visit) (name : List ℕ) (held : Held Targets) → is_among (map (λ (v : Visit). v.name) visits) name ≡ true → at_name name set.targets ≡ Some held → targets_document held.bytes ≡ Ok held.document
      → documents_in (map (role_doc_in set) visits) name ≡ Some (content_of held)
  chain_document [] name held h there read = cc
  chain_document (v ∷ vs) name held h there read = by_name (bytes_eq v.name name) refl h (λ k. chain_document vs name held k there read)
    where
      Later : Type 0
      Later = is_among (map (λ (v : Visit). v.name) vs) name ≡ true → documents_in (map (role_doc_in set) vs) name ≡ Some (content_of held)

      -- the entry of this visit
      its_entry : v.name ≡ name → read_in (role_doc_in set v) ≡ Some (v.name, content_of held)
      its_entry same =
          ap (option_and_then (λ bytes. option_map (λ doc. (v.name, content_in doc)) (result_ok (targets_document bytes)))) (ap (option_map (λ (h : Held Targets). h.bytes)) (ap (λ n. at_name n set.targets) same ∙ there))
          ∙ ap (λ r. option_map (λ doc. (v.name, content_in doc)) (result_ok r)) read

      entry_name : (o : Option (List ℕ)) → (x : List ℕ × Targets) → option_and_then (λ bytes. option_map (λ doc. (v.name, content_in doc)) (result_ok (targets_document bytes))) o ≡ Some x → x.0 ≡ v.name
      entry_name None x e = cc
      entry_name (Some bytes) x e = by_read (targets_document bytes) e
        where
          by_read : (r : Result _ Error) → option_map (λ doc. (v.name, content_in doc)) (result_ok r) ≡ Some x → x.0 ≡ v.name
          by_read (Ok doc) e = let same = some_same (v.name, content_in doc) x e in ap (λ (p : List ℕ × Targets). p.0) (sym same)
          by_read (Err d) e = cc

      not_at : bytes_eq v.name name ≡ false → is_eq (text_cmp name v.name) ≡ false
      not_at other = by_test (is_eq (text_cmp name v.name)) refl
        where
          by_test : (b : Bool) → is_eq (text_cmp name v.name) ≡ b → b ≡ false
          by_test true e =
              let same : name ≡ v.name = (bytes_eq-Decides name v.name).0 (sym (is_eq-slice_cmp name v.name) ∙ e) in
              let never : true ≡ false = sym ((bytes_eq-Decides v.name name).1 (sym same)) ∙ other in cc
          by_test false e = refl

      skipped : (o : Option (List ℕ × Targets)) → read_in (role_doc_in set v) ≡ o → bytes_eq v.name name ≡ false → documents_in (map (role_doc_in set) (v ∷ vs)) name ≡ documents_in (map (role_doc_in set) vs) name
      skipped None e other = rw e refl
      skipped (Some x) e other = rw (e, entry_name (option_map (λ (h : Held Targets). h.bytes) (at_name v.name set.targets)) x e, not_at other) refl

      at_this : v.name ≡ name → documents_in (map (role_doc_in set) (v ∷ vs)) name ≡ Some (content_of held)
      at_this same =
          let is : is_eq (text_cmp name v.name) ≡ true = is_eq-slice_cmp name v.name ∙ (bytes_eq-Decides name v.name).1 (sym same) in
          rw (its_entry same, is) refl

      by_name : (b : Bool) → bytes_eq v.name name ≡ b → (b || is_among (map (λ (v : Visit). v.name) vs) name) ≡ true → Later → documents_in (map (role_doc_in set) (v ∷ vs)) name ≡ Some (content_of held)
      by_name true e h rec = at_this ((bytes_eq-Decides v.name name).0 e)
      by_name false e h rec = skipped (read_in (role_doc_in set v)) refl e ∙ rec h

  pub visits_back : (visits : List Visit) → map visit_in (map (role_doc_in set) visits) ≡ visits
  visits_back [] = refl
  visits_back (v ∷ vs) = ap (λ us. v ∷ us) (visits_back vs)

  last_doc : (visits : List Visit) (seed : Option Visit) → last_or (option_map (role_doc_in set) seed) (map (role_doc_in set) visits) ≡ option_map (role_doc_in set) (last_or seed visits)
  last_doc [] seed = refl
  last_doc (v ∷ vs) seed = last_doc vs (Some v)

  last_among : (visits : List Visit) (seed : Visit) (v : Visit) → last_or (Some seed) visits ≡ Some v → ((v ≡ seed → is_among (map (λ (u : Visit). u.name) visits) v.name ≡ true)) → is_among (map (λ (u : Visit). u.name) visits) v.name ≡ true
  last_among [] seed v h k = k (sym (some_same seed v h))
  last_among (u ∷ us) seed v h k = by_test (bytes_eq u.name v.name) refl (λ f. last_among us u v h f)
    where
      by_test : (b : Bool) → bytes_eq u.name v.name ≡ b → ((v ≡ u → is_among (map (λ (u : Visit). u.name) us) v.name ≡ true) → is_among (map (λ (u : Visit). u.name) us) v.name ≡ true) → (b || is_among (map (λ (u : Visit). u.name) us) v.name) ≡ true
      by_test true e rec = refl
      by_test false e rec = rec (λ same. let never : true ≡ false = sym ((bytes_eq-Decides u.name v.name).1 (ap (λ (x : Visit). x.name) (sym same))) ∙ e in cc)

  last_visited : (visits : List Visit) (v : Visit) → last_or None visits ≡ Some v → is_among (map (λ (u : Visit). u.name) visits) v.name ≡ true
  last_visited [] v h = cc
  last_visited (u ∷ us) v h = last_among (u ∷ us) u v h (λ same. ap (λ b. b || is_among (map (λ (u : Visit). u.name) us) v.name) ((bytes_eq-Decides u.name v.name).1 (ap (λ (x : Visit). x.name) (sym same))))

  -- the entry of the last visit is that of the last document of the chain
  pub last_lists : (path : List ℕ) (visits : List Visit) (entry : TargetFile) → ((name : List ℕ) (held : Held Targets) → at_name name set.targets ≡ Some held → targets_document held.bytes ≡ Ok held.document) → entry_after set path visits ≡ Some entry
      → option_and_then (λ (doc : Targets). at_name path doc.targets) (last_in (map (role_doc_in set) visits)) ≡ Some entry
  last_lists path visits entry reads h = by_last (last_or None visits) refl h
    where
      by_held : (v : Visit) → last_or None visits ≡ Some v → (o : Option (Held Targets)) → at_name v.name set.targets ≡ o → option_and_then (λ (held : Held Targets). at_name path (content_of held).targets) o ≡ Some entry
          → option_and_then (λ (doc : Targets). at_name path doc.targets) (last_in (map (role_doc_in set) visits)) ≡ Some entry
      by_held v last None at h = cc
      by_held v last (Some held) at h =
          ap (λ o. option_and_then (λ (doc : Targets). at_name path doc.targets) (option_and_then (λ (r : RoleDoc). documents_in (map (role_doc_in set) visits) r.name) o)) (last_doc visits None ∙ ap (option_map (role_doc_in set)) last)
          ∙ ap (option_and_then (λ (doc : Targets). at_name path doc.targets)) (chain_document visits v.name held (last_visited visits v last) at (reads v.name held at)) ∙ h

      by_last : (o : Option Visit) → last_or None visits ≡ o → option_and_then (λ (v : Visit). listed_by set path v.name) o ≡ Some entry → option_and_then (λ (doc : Targets). at_name path doc.targets) (last_in (map (role_doc_in set) visits)) ≡ Some entry
      by_last None last h = cc
      by_last (Some v) last h = by_held v last (at_name v.name set.targets) refl h

all_of_map : {A B : Type 0} (f : A → B) (P : B → Type 0) (xs : List A) → AllByRecursion (λ x. P (f x)) xs → AllByRecursion P (map f xs)
all_of_map f P [] h = tt
all_of_map f P (x ∷ xs) h = (h.0, all_of_map f P xs h.1)

-- ---- the chain

module _ (session : Session) (first path : List ℕ) (set : InForce) (visits : List Visit) (k : AreAuthorised session.crypto first set) (w : Went session path set visits) where
  abbrev Trusts : TrustChain → Type 0
  Trusts chain = Trusted session.crypto first session.now session.config.max_delegations path chain

  abbrev made : TargetFile → List ℕ → TrustChain
  made entry file =
      record { roots = set.roots; timestamp = w.serve.timestamp.bytes; snapshot = w.serve.snapshot.bytes; roles = map (role_doc_in set) visits; target = entry; file = file }

  pub chain_made : (entry : TargetFile) (file : List ℕ) → chain_of set visits entry file ≡ Ok (made entry file)
  chain_made entry file = rw (w.serve.timestamp_is, w.serve.snapshot_is) refl

  -- the chain's documents agree with those in force
  chain_agrees : AgreesOn (documents_in (map (role_doc_in set) visits)) set w.walk
  chain_agrees name h =
      let r = w.onward.read name h in
      chain_document set visits name r.held (ap (λ (vs : List Visit). is_among (map (λ (v : Visit). v.name) vs) name) w.visits_are ∙ r.visited) r.there (k.roles name r.held r.there).read
      ∙ sym (ap (option_map (λ (x : Held Targets). content_of x)) r.there)

  roles_trusted : AllByRecursion (λ (r : RoleDoc). IsTrustedVisit session.crypto (content_in set.root) (content_of w.serve.snapshot) (documents_in (map (role_doc_in set) visits)) session.now (visit_in r) r.bytes) (map (role_doc_in set) visits)
  roles_trusted =
      all_of_map (role_doc_in set) (λ (r : RoleDoc). IsTrustedVisit session.crypto (content_in set.root) (content_of w.serve.snapshot) (documents_in (map (role_doc_in set) visits)) session.now (visit_in r) r.bytes) visits
      (subst (λ (vs : List Visit). AllByRecursion (λ (v : Visit). IsTrustedVisit session.crypto (content_in set.root) (content_of w.serve.snapshot) (documents_in (map (role_doc_in set) visits)) session.now v (role_bytes set v.name)) vs) (sym w.visits_are)
      (visits_trusted session first set k w.serve (documents_in (map (role_doc_in set) visits)) w.walk chain_agrees w.onward.made))

  whole_trusted : (entry : TargetFile) (file : List ℕ) → entry_after set path visits ≡ Some entry → file_of entry file ≡ Ok tt → Trusts (made entry file)
  whole_trusted entry file listed_is intact =
      let time = where_some set.timestamp _ w.serve.timestamp w.serve.timestamp_is k.timestamp in
      let snap = where_some set.snapshot _ w.serve.snapshot w.serve.snapshot_is k.snapshot in (
        record { root = set.root; timestamp = w.serve.timestamp.document; snapshot = w.serve.snapshot.document; pin = w.serve.pin },
        record {
          roots = k.roots;
          root_fresh = w.serve.root_fresh;
          timestamp_read = time.read;
          timestamp_fresh = w.serve.timestamp_fresh;
          timestamp_met = time.met;
          snapshot_read = snap.read;
          snapshot_fresh = w.serve.snapshot_fresh;
          snapshot_met = snap.met;
          pin_is = w.serve.pin_is;
          snapshot_version = w.serve.snapshot_version;
          order_is = w.order_is (documents_in (map (role_doc_in set) visits)) chain_agrees ∙ ap Some (sym (visits_back set visits));
          listed = last_lists set path visits entry (λ name held there. (k.roles name held there).read) listed_is;
          roles = roles_trusted;
          file = (integrity_exactly (Some entry.length) (Some entry.hashes) file).0 intact;
        },
      )

  -- a chain that is given is trusted
  pub gives_trusted : (old new : State) (chain : TrustChain) → old.documents ≡ set → GivesChain session.config path visits old new (Ok chain) → Trusts chain
  gives_trusted old new chain at (unlisted e h s is) = no_both chain e is
  gives_trusted old new chain at (unobtained entry e l f s is) = no_both chain e is
  gives_trusted old new chain at (unchained entry file e l f s h is) = no_both chain e is
  gives_trusted old new chain at (found entry file x l f s c is) =
      let c' : chain_of set visits entry file ≡ Ok x = ap (λ (d : InForce). chain_of d visits entry file) (sym at) ∙ c in
      subst Trusts (ok_same (made entry file) x (sym (chain_made entry file) ∙ c') ∙ sym (ok_same chain x is))
      (whole_trusted entry file (ap (λ (d : InForce). entry_after d path visits) (sym at) ∙ l) (file_there (is_consistent old.documents) session.config entry path old.repo new.repo old.store new.store file f))

-- a chain that is handed back is trusted
pub chain_trusted : (session : Session) (path : List ℕ) (old new : State) (result : Result TrustChain Error) → AreAuthorised session.crypto (given_in old.documents) old.documents → GetsTarget session path old new result
    → IfOk result (Trusted session.crypto (given_in old.documents) session.now session.config.max_delegations path)
chain_trusted session path old new (Err e) k g = tt
chain_trusted session path old new (Ok chain) k (unfound e f is) = no_both chain e is
chain_trusted session path old new (Ok chain) k (visited visits mid f g) =
    gives_trusted session (given_in old.documents) path mid.documents visits (finds_authorised session path old mid (Ok visits) k f) (finds_went session path old mid visits f) mid new chain refl g

-- ---- the documents stay authorised

given_same : (session : Session) (path : List ℕ) (visits : List Visit) (old new : State) (result : Result TrustChain Error) → GivesChain session.config path visits old new result → new.documents ≡ old.documents
given_same session path visits old new result (unlisted e h s is) = ap (λ (x : State). x.documents) s
given_same session path visits old new result (unobtained entry e l f s is) = s
given_same session path visits old new result (unchained entry file e l f s h is) = s
given_same session path visits old new result (found entry file chain l f s c is) = s

pub gets_stays : (session : Session) (path : List ℕ) (old new : State) (result : Result TrustChain Error) → GetsTarget session path old new result → Stays session.crypto old.documents new.documents
gets_stays session path old new result (unfound e f is) = finds_stays session path old new (Err e) f
gets_stays session path old new result (visited visits mid f g) =
    subst (Stays session.crypto old.documents) (sym (given_same session path visits mid new result g)) (finds_stays session path old mid (Ok visits) f)

pub info_stays_authorised : (session : Session) (path : List ℕ) (old new : State) (result : Result (Option TargetFile) Error) → GivesInfo session path old new result → Stays session.crypto old.documents new.documents
info_stays_authorised session path old new result (search.unfound e f is) = finds_stays session path old new (Err e) f
info_stays_authorised session path old new result (search.uncopied visits f is) = finds_stays session path old new (Ok visits) f
info_stays_authorised session path old new result (search.given visits f is) = finds_stays session path old new (Ok visits) f

pub gets_authorised : (session : Session) (path : List ℕ) (old new : State) (result : Result TrustChain Error) → GetsTarget session path old new result → IsAuthorised session.crypto old.documents → IsAuthorised session.crypto new.documents
gets_authorised session path old new result g k = stays_whole session.crypto old.documents new.documents (gets_stays session path old new result g) k

pub info_authorised : (session : Session) (path : List ℕ) (old new : State) (result : Result (Option TargetFile) Error) → GivesInfo session path old new result → IsAuthorised session.crypto old.documents → IsAuthorised session.crypto new.documents
info_authorised session path old new result g k = stays_whole session.crypto old.documents new.documents (info_stays_authorised session path old new result g) k

-- what serves goes on to serve
pub gets_serves : (session : Session) (path : List ℕ) (old new : State) (result : Result TrustChain Error) → GetsTarget session path old new result → Serve session.now old.documents → Serve session.now new.documents
gets_serves session path old new result (unfound e f is) k = serve_grows (finds_grows session path old new (Err e) f) k
gets_serves session path old new result (visited visits mid f g) k =
    subst (Serve session.now) (sym (given_same session path visits mid new result g)) (serve_grows (finds_grows session path old mid (Ok visits) f) k)
