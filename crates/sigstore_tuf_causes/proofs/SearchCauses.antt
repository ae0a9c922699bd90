-- Each refusal of a search has its cause.
use Rattle.std.proofs.Common.{◌≡◌, ◌≢◌, ◌⊎◌, inl, inr, ℕ, ◌==◌, ◌||◌, ◌&&◌, not, if◌then◌else◌, List, [], ◌∷◌, Bool, true, false, Option, Some, None, Result, Ok, Err, refl, sym, ap, ◌∙◌, subst}
use Rattle.std.specs.Prelude.{⊤, is_some, ok_or, option_map, option_and_then, IfErr}
use Rattle.foundation.specs.Watched.{Watched, IfTold}
use Rattle.foundation.specs.Results.{err_same, some_same, no_both, refused_at}
use Rattle.sigstore_types_parts.specs.Entries.{at_name}
use Rattle.sigstore_tuf_text.specs.declared.error.Error.{Error}
use Rattle.sigstore_tuf_text.specs.declared.error.Error.TheVariants as tuf
use Rattle.sigstore_tuf_text.specs.declared.error.TransportFault.{TransportFault}
use Rattle.sigstore_tuf_text.specs.declared.error.TransportFault.TheVariants as transport
use Rattle.sigstore_tuf_parts.specs.declared.snapshot.Snapshot.{Snapshot}
use Rattle.sigstore_tuf_parts.specs.declared.targets.Targets.{Targets}
use Rattle.sigstore_tuf_text.specs.Names.{pin_name}
use Rattle.sigstore_tuf_parts.specs.Threshold.{is_among}
use Rattle.sigstore_tuf_parts.proofs.PinCauses.{expiry_cause}
use Rattle.sigstore_tuf_parts.proofs.RoleCauses.{meets_cause}
use Rattle.sigstore_tuf_rules.specs.declared.documents.Held.{Held}
use Rattle.sigstore_tuf_rules.specs.declared.documents.InForce.{InForce}
use Rattle.sigstore_tuf_outside.specs.declared.repository.FetchFault.TheVariants as fetch
use Rattle.sigstore_tuf_rules.specs.Documents.{content_of}
use Rattle.sigstore_tuf_outside.specs.Repository.{Folders, Files, metadata_files}
use Rattle.sigstore_tuf_rules.specs.Names.{role_pin_in, role_name_in, role_file}
use Rattle.sigstore_tuf_runs.specs.State.{Session, State}
use Rattle.sigstore_tuf_runs.specs.Run.{said}
use Rattle.sigstore_tuf_rules.specs.Taking.{taken_of, there_of}
use Rattle.sigstore_tuf_runs.specs.Adopt.{FetchesNamed, fetch_unnamed, fetch_asked, SavesAll, unfetched, absent, refused, kept, adopted}
use Rattle.sigstore_tuf_rules.specs.declared.visit.Visit.{Visit}
use Rattle.sigstore_tuf_rules.specs.declared.visit.Walk.{Walk}
use Rattle.sigstore_tuf_rules.specs.Order.{Gap, pattern, first_visit, first_walk, visit_of}
use Rattle.sigstore_tuf_rules.specs.Trusted.{RoleAuthority}
use Rattle.sigstore_tuf_rules.specs.Delegated.{delegation_of, meets_delegation_of, role_serves_of, update_role_of}
use Rattle.sigstore_tuf_runs.specs.Search.{documents_of, tree_in, AdoptsRole, visit_serves_of, reads, is_held, gap_error, Readies, wanting, untouched, looked_at, had, Searches, visits_in, FindsVisits, unserved, searched}
use Rattle.sigstore_tuf_runs.specs.Cause.{Has, TransportCause}
use Rattle.sigstore_tuf_rules.specs.Authorised.{Serve}
use Rattle.sigstore_tuf_runs.specs.SearchCause as cause
use Rattle.sigstore_tuf_runs.specs.SearchCause.{RoleRefusal, ComesTo, SearchCause, role_refused, role_unfetched, kept_role_unmet, kept_role_expired, malformed, search_wanting}
use Rattle.sigstore_tuf_rules.proofs.Updates.{ok_some}
use Rattle.sigstore_tuf_runs.proofs.Steps.{all_want}
use Rattle.sigstore_tuf_causes.proofs.Refusals.{was_refused}
use Rattle.sigstore_tuf_causes.proofs.RoleRefusals.{role_refusal, some_pin}
use Rattle.sigstore_tuf_causes.proofs.Carrying.{fetched_had}
use Rattle.sigstore_tuf_causes.proofs.Causes.{is_want, transport_earlier}
use Rattle.sigstore_tuf_rules.proofs.RolePuts.{taken_some}
use Rattle.sigstore_tuf_causes.proofs.Growing.{grows_joins}
use Rattle.sigstore_tuf_causes.proofs.Followed.{delegation_grows}
use Rattle.sigstore_tuf_causes.proofs.Visits.{IsDue, begins, delegated, role_taken, at_role, low_name, is_reading, onward_begins}
use Rattle.sigstore_tuf_causes.proofs.Replay.{reading_open, Why, not_ready, no_step, Fails, wants, fails, Refuses, search_refuses, Gapped, visit_gap}
use Rattle.sigstore_tuf_causes.proofs.Searching.{search_serves, serve_grows}
use Rattle.sigstore_tuf_causes.proofs.TopCauses.{search_cause}

-- ---- a file that wasn't had

pub data Faulty (part : Folders → Files) (name : List ℕ) (max : ℕ) (old new : Watched Folders) (e : Error) : Type 0 where
  faulted : (fault : TransportFault) → TransportCause part name max old new fault → e ≡ tuf.Transport fault → Faulty part name max old new e
  fetch_wanting : e ≡ tuf.NoMemory → Faulty part name max old new e

pub fetch_faulty : (part : Folders → Files) (name : List ℕ) (max : ℕ) (old new : Watched Folders) (e : Error) → FetchesNamed part name max old new (Err e) → Faulty part name max old new e
fetch_faulty part name max old new e (fetch_unnamed s r) = fetch_wanting (err_same e tuf.NoMemory r)
fetch_faulty part name max old new e (fetch_asked (Ok file) f r) = cc
fetch_faulty part name max old new e (fetch_asked (Err fetch.Failed) f r) = faulted transport.Failed f.failed (err_same e _ r)
fetch_faulty part name max old new e (fetch_asked (Err (fetch.TooLong seen)) f r) = faulted (transport.TooLong max seen) (refl, f.limit, f.file) (err_same e _ r)
fetch_faulty part name max old new e (fetch_asked (Err fetch.NoMemory) f r) = fetch_wanting (err_same e tuf.NoMemory r)

pub fetch_lacking : (part : Folders → Files) (name : List ℕ) (max : ℕ) (old new : Watched Folders) → FetchesNamed part name max old new (Ok None) → TransportCause part name max old new transport.Absent
fetch_lacking part name max old new (fetch_unnamed s r) = cc
fetch_lacking part name max old new (fetch_asked (Ok file) f r) = by_told old.told f.file
  where
    is : None ≡ file
    is = let same : ◌≡◌ {A = Result (Option (List ℕ)) Error} (Ok None) (Ok file) = r in cc

    by_told : (told : Option Folders) → IfTold told (λ folders. file ≡ part folders name) → IfTold told (λ folders. part folders name ≡ None)
    by_told None h = tt
    by_told (Some folders) h = sym h ∙ sym is
fetch_lacking part name max old new (fetch_asked (Err fault) f r) = cc

-- ---- what a visit reads

among_not : (a b : Bool) → (a || b) ≡ false → b ≡ false
among_not true b h = cc
among_not false b h = h

reads_same : (a b : InForce) (v : Visit) (w : Walk) → b.snapshot ≡ a.snapshot → reads a v w ≡ true → reads b v w ≡ true
reads_same a b v w same h =
    ap (λ (o : Option (Held Snapshot)). not (w.left == 0) && (not (is_among w.read v.name) && is_some (option_and_then (λ (held : Held Snapshot). at_name (pin_name v.name) (content_of held).meta) o))) same ∙ h

pinned_too : (a b c : Bool) → (not a && (not b && c)) ≡ true → c ≡ true
pinned_too true b c h = cc
pinned_too false true c h = cc
pinned_too false false c h = h

some_held : {A : Type 0} (o : Option A) → is_some o ≡ true → (x : A) × (o ≡ Some x)
some_held None h = cc
some_held (Some x) h = (x, refl)

said_err : {T : Type 0} (answer : Result T Error) (e : Error) → Err e ≡ said answer → answer ≡ Err e
said_err (Ok x) e h = cc
said_err (Err d) e h = ap Err (sym (err_same e d h))

there_err : (written : Result ⊤ Error) (e : Error) → there_of written ≡ Err e → written ≡ Err e
there_err (Ok x) e h = cc
there_err (Err d) e h = ap Err (err_same d e h)

-- the document that a visit reads is in force once it is had
none_taken : {C : Type 0} (r : Result InForce Error) → taken_of r ≡ Ok None → C
none_taken (Ok set) h = cc
none_taken (Err e) h = cc

ready_there : (session : Session) (v : Visit) (w : Walk) (old new : State) → Readies session v w old new (Ok tt) → reads old.documents v w ≡ true → (held : Held Targets) × (at_name v.name new.documents.targets ≡ Some held)
ready_there session v w old new (wanting s r) read = no_both tt tuf.NoMemory r
ready_there session v w old new (untouched n s r) read = let never : true ≡ false = sym read ∙ n in cc
ready_there session v w old new (looked_at n h c) read =
    let x = some_held (at_name v.name old.documents.targets) h in
    (x.0, ap (λ (s : State). at_name v.name s.documents.targets) c.same ∙ x.1)
ready_there session v w old new (had answer n h a is) read = by_adoption answer a is
  where
    not_said : {C : Type 0} (answer : Result Bool Error) (e : Error) → answer ≡ Err e → Ok tt ≡ said answer → C
    not_said answer e r is = let never : ◌≡◌ {A = Result ⊤ Error} (Ok tt) (Err e) = is ∙ ap said r in cc

    by_adoption : (answer : Result Bool Error) → AdoptsRole session v old new answer → Ok tt ≡ said answer → (held : Held Targets) × (at_name v.name new.documents.targets ≡ Some held)
    by_adoption answer (unfetched e f u r) is = not_said answer e r is
    by_adoption answer (absent f u r) is = not_said answer _ r is
    by_adoption answer (refused bytes e f j u r) is = not_said answer e r is
    by_adoption answer (kept bytes f j u r) is = none_taken (update_role_of session.crypto old.documents v bytes (Some session.now)) j
    by_adoption answer (adopted bytes written f j k r) is =
        let t = role_taken session.crypto old.documents v bytes session.now new.documents (taken_some (update_role_of session.crypto old.documents v bytes (Some session.now)) new.documents j) in
        (t.held, ap (λ (s : InForce). at_name v.name s.targets) t.new_is ∙ at_role old.documents v.name t.held)

-- ---- where the search is refused

module _ (session : Session) (path : List ℕ) (old new : State) (e : Error) (serving : Serve session.now old.documents)
    (f : Fails session (content_of serving.snapshot) path old new (first_visit ∷ []) (first_walk session.config.max_delegations) e) where
  abbrev C : Type 0
  C = SearchCause session path old new e

  abbrev mid : State
  mid = f.mid

  abbrev v : Visit
  v = f.v

  serve_mid : Serve session.now mid.documents
  serve_mid = serve_grows f.grows serving

  by_want : (e ≢ tuf.NoMemory → C) → C
  by_want g = by_either (is_want e)
    where
      by_either : (e ≡ tuf.NoMemory) ⊎ (e ≢ tuf.NoMemory) → C
      by_either (inl is) = search_wanting is
      by_either (inr other) = g other

  abbrev comes : reads mid.documents v f.u ≡ true → ComesTo session path new.documents v
  comes n = record {
    serve = serve_grows (grows_joins f.grows f.ends) serving;
    walk = f.u;
    reaches = f.reaches (documents_of new.documents) (λ name h. refl);
    reads = reads_same mid.documents new.documents v f.u f.ends.snapshot n;
  }

  -- the role in force was there from the beginning
  from_old : reads mid.documents v f.u ≡ true → (held : Held Targets) → at_name v.name mid.documents.targets ≡ Some held → at_name v.name old.documents.targets ≡ Some held
  from_old n held there = by_place (f.was v.name held there)
    where
      by_place : (at_name v.name old.documents.targets ≡ Some held) ⊎ (is_among f.u.read v.name ≡ true) → at_name v.name old.documents.targets ≡ Some held
      by_place (inl before) = before
      by_place (inr read) = let never : true ≡ false = sym read ∙ among_not (f.u.left == 0) (is_among f.u.read v.name) (reading_open mid.documents v f.u n) in cc

  -- ---- one that was in force

  role_unserving : reads mid.documents v f.u ≡ true → is_held mid.documents v.name ≡ true → (authority : RoleAuthority) → delegation_of mid.documents v ≡ Ok authority → role_serves_of session.crypto mid.documents v session.now ≡ Err e → C
  unfolding role_serves_of
  role_unserving n held authority d h =
      refused_at (delegation_of mid.documents v) _ e h (λ q. no_both authority e (sym d ∙ q)) (λ its q k.
      refused_at (ok_or (at_name v.name mid.documents.targets) (tuf.UnknownRole v.name)) _ e k (λ r. lacking (at_name v.name mid.documents.targets) held r) (λ role r l.
      let there = ok_some (at_name v.name mid.documents.targets) (tuf.UnknownRole v.name) role r in
      refused_at (meets_delegation_of session.crypto its v.name role.document) _ e l
      (λ s. kept_role_unmet v role its (comes n) (from_old n role there) (delegation_grows mid.documents new.documents v its f.ends q) (meets_cause session.crypto its.keys its.role v.name role.document e s)) (λ u s m.
      kept_role_expired v role (comes n) (from_old n role there) (expiry_cause v.name (content_of role).expires session.now e m))))
    where
      lacking : (o : Option (Held Targets)) → is_some o ≡ true → ok_or o (tuf.UnknownRole v.name) ≡ Err e → C
      lacking None h r = cc
      lacking (Some x) h r = cc

  looked_cause : reads mid.documents v f.u ≡ true → is_held mid.documents v.name ≡ true → IsDue mid.documents f.u v → visit_serves_of session.crypto mid.documents v session.now ≡ Err e → C
  looked_cause n held (begins is) h = no_both tt e (sym (ap (λ (x : Visit). visit_serves_of session.crypto mid.documents x session.now) is) ∙ h)
  looked_cause n held (delegated authority d r) h =
      role_unserving n held authority d (sym (ap (λ b. if b then Ok tt else role_serves_of session.crypto mid.documents v session.now) (low_name mid.documents v authority d)) ∙ h)

  -- ---- one that was asked for

  has_old : (name bytes : List ℕ) → Has metadata_files mid.repo name bytes → Has metadata_files old.repo name bytes
  has_old name bytes h = subst (λ told. IfTold told (λ folders. metadata_files folders name ≡ Some bytes)) f.since.same h

  not_held_then : new.documents ≡ mid.documents → is_held mid.documents v.name ≡ false → is_held new.documents v.name ≡ false
  not_held_then same none = ap (λ (s : InForce). is_held s v.name) same ∙ none

  fault_cause : reads mid.documents v f.u ≡ true → is_held mid.documents v.name ≡ false → new.documents ≡ mid.documents
      → Faulty metadata_files (role_name_in mid.documents v.name) session.config.targets_max_length mid.repo new.repo e → C
  fault_cause n none same (fetch_wanting is) = search_wanting is
  fault_cause n none same (faulted fault t is) =
      role_unfetched v fault (comes n) (not_held_then same none)
      (transport_earlier session metadata_files (role_name_in new.documents v.name) session.config.targets_max_length old.repo mid.repo new.repo fault f.since
      (subst (λ (s : InForce). TransportCause metadata_files (role_name_in s v.name) session.config.targets_max_length mid.repo new.repo fault) (sym same) t)) is

  refusal_cause : reads mid.documents v f.u ≡ true → is_held mid.documents v.name ≡ false → new.documents ≡ mid.documents → (bytes : List ℕ) → Has metadata_files mid.repo (role_name_in mid.documents v.name) bytes → IsDue mid.documents f.u v
      → update_role_of session.crypto mid.documents v bytes (Some session.now) ≡ Err e → C
  refusal_cause n none same bytes has (begins is) h =
      let there : at_name v.name mid.documents.targets ≡ Some serve_mid.targets = ap (λ (x : Visit). at_name x.name mid.documents.targets) is ∙ serve_mid.targets_is in
      let never : true ≡ false = sym (ap is_some there) ∙ none in cc
  refusal_cause n none same bytes has (delegated authority d r) h =
      let pin = some_pin (role_pin_in mid.documents v.name) (pinned_too (f.u.left == 0) (is_among f.u.read v.name) (is_some (role_pin_in mid.documents v.name)) n) in
      role_refused v bytes (comes n) (not_held_then same none)
      (has_old (role_name_in new.documents v.name) bytes (subst (λ (s : InForce). Has metadata_files mid.repo (role_name_in s v.name) bytes) (sym same) has))
      (subst (λ (s : InForce). RoleRefusal session.crypto s session.now v bytes e) (sym same)
      (role_refusal session.crypto mid.documents session.now v bytes e serve_mid authority d pin.0 pin.1 h))

  asked_cause : (answer : Result Bool Error) → reads mid.documents v f.u ≡ true → is_held mid.documents v.name ≡ false → IsDue mid.documents f.u v → AdoptsRole session v mid new answer → answer ≡ Err e → C
  asked_cause answer n none due (unfetched d m u r) is =
      fault_cause n none u.documents (fetch_faulty metadata_files (role_name_in mid.documents v.name) session.config.targets_max_length mid.repo new.repo e
      (subst (λ x. FetchesNamed metadata_files (role_name_in mid.documents v.name) session.config.targets_max_length mid.repo new.repo (Err x)) (err_same d e (sym r ∙ is)) m))
  asked_cause answer n none due (absent m u r) is =
      fault_cause n none u.documents (faulted transport.Absent (fetch_lacking metadata_files (role_name_in mid.documents v.name) session.config.targets_max_length mid.repo new.repo m) (sym (err_same _ e (sym r ∙ is))))
  asked_cause answer n none due (refused bytes d m j u r) is =
      by_want (λ other. refusal_cause n none u.documents bytes (fetched_had metadata_files (role_name_in mid.documents v.name) session.config.targets_max_length mid.repo new.repo bytes m) due
      (was_refused (update_role_of session.crypto mid.documents v bytes (Some session.now)) e (j (λ h. other (sym (err_same d e (sym r ∙ is)) ∙ h)) ∙ ap Err (err_same d e (sym r ∙ is)))))
  asked_cause answer n none due (kept bytes m j u r) is = no_both true e (sym r ∙ is)
  asked_cause answer n none due (adopted bytes written m j k r) is =
      let w = there_err written e (sym r ∙ is) in
      search_wanting (subst (λ x. IfErr x (λ d. d ≡ tuf.NoMemory)) w (written_want written k.saves))
    where
      written_want : (x : Result ⊤ Error) → SavesAll bytes (role_file v.name ∷ []) mid.store new.store x → IfErr x (λ d. d ≡ tuf.NoMemory)
      written_want (Ok y) s = tt
      written_want (Err d) s = all_want bytes (role_file v.name ∷ []) mid.store new.store (Err d) s

  unready_cause : Readies session v f.u mid new (Err e) → C
  unready_cause (wanting s r) = search_wanting (err_same e tuf.NoMemory r)
  unready_cause (untouched n s r) = no_both tt e (sym r)
  unready_cause (looked_at n h c) = by_want (λ other. looked_cause n h f.onward.due.0 (c.refused other))
  unready_cause (had answer n h a is) = asked_cause answer n h f.onward.due.0 a (said_err answer e is)

  -- ---- a pattern

  gap_cause : (gap : Gap) → Readies session v f.u mid new (Ok tt) → visit_of (tree_in new.documents (content_of serving.snapshot) path) v f.u ≡ Err gap → e ≡ gap_error gap → C
  gap_cause gap r h is = by_gap g.is
    where
      g : Gapped (tree_in new.documents (content_of serving.snapshot) path) v f.u gap
      g = visit_gap (tree_in new.documents (content_of serving.snapshot) path) v f.u gap h

      n : reads mid.documents v f.u ≡ true
      n = is_reading mid.documents (content_of serving.snapshot) v f.u f.at g.on g.pinned

      by_gap : (documents_of new.documents v.name ≡ None) ⊎ (gap ≡ pattern) → C
      by_gap (inl none) =
          let t = ready_there session v f.u mid new r n in
          let never : None ≡ Some (content_of t.0) = sym none ∙ ap (option_map (λ (x : Held Targets). content_of x)) t.1 in cc
      by_gap (inr same) = malformed v (record { comes = comes n; malformed = h ∙ ap Err same }) is

  why_cause : Why session (content_of serving.snapshot) path v f.u mid new e → C
  why_cause (not_ready r) = unready_cause r
  why_cause (no_step r g) = by_want (λ other. let x = g other in gap_cause x.0 r x.1 x.2)

  pub failed_cause : C
  failed_cause = why_cause f.why

-- ---- the whole search

gave_refusal : (answer : Result Walk Error) (e : Error) → Err e ≡ visits_in answer → answer ≡ Err e
gave_refusal (Ok u) e h = cc
gave_refusal (Err d) e h = ap Err (sym (err_same e d h))

module _ (session : Session) (path : List ℕ) (old new : State) (e : Error) where
  refuses_cause : (serving : Serve session.now old.documents) → Refuses session (content_of serving.snapshot) path old new (first_visit ∷ []) (first_walk session.config.max_delegations) e → SearchCause session path old new e
  refuses_cause serving (wants is) = search_wanting is
  refuses_cause serving (fails f) = failed_cause session path old new e serving f

  searched_cause : (serving : Serve session.now old.documents) (snapshot : Held Snapshot) → old.documents.snapshot ≡ Some snapshot → Searches session (content_of snapshot) path (first_visit ∷ []) (first_walk session.config.max_delegations) old new (Err e)
      → SearchCause session path old new e
  searched_cause serving snapshot there s =
      let same : snapshot ≡ serving.snapshot = some_same snapshot serving.snapshot (sym there ∙ serving.snapshot_is) in
      refuses_cause serving (search_refuses session (content_of serving.snapshot) path
      (subst (λ (h : Held Snapshot). Searches session (content_of h) path (first_visit ∷ []) (first_walk session.config.max_delegations) old new (Err e)) same s)
      (onward_begins session (content_of serving.snapshot) old.documents session.config.max_delegations) (ap (option_map (λ (h : Held Snapshot). content_of h)) serving.snapshot_is))

  pub finds_cause : FindsVisits session path old new (Err e) → SearchCause session path old new e
  finds_cause (unserved d h same is) = by_either (is_want e)
    where
      by_either : (e ≡ tuf.NoMemory) ⊎ (e ≢ tuf.NoMemory) → SearchCause session path old new e
      by_either (inl at) = search_wanting at
      by_either (inr other) =
          cause.unserved (subst (λ (s : State). cause.TopCause session.now s.documents e) (sym same) (search_cause session.now old.documents e (h (λ k. other (err_same e d is ∙ k)) ∙ ap Err (sym (err_same e d is)))))
  finds_cause (searched snapshot answer ok there s is) =
      searched_cause (search_serves old.documents session.now ok) snapshot there
      (subst (Searches session (content_of snapshot) path (first_visit ∷ []) (first_walk session.config.max_delegations) old new) (gave_refusal answer e is) s)
