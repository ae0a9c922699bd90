-- A search over an offered chain makes the visits of its roles, whose documents are then in force, unless memory is wanting.
use Rattle.std.proofs.Common.{◌≡◌, ◌≢◌, ◌⊎◌, inl, inr, ℕ, ◌+◌, ◌^◌, ◌<◌, ◌==◌, ◌||◌, ◌&&◌, not, List, [], ◌∷◌, ◌++◌, map, length, Bool, true, false, if◌then◌else◌, bytes_eq, Option, Some, None, Result, Ok, Err, codes, refl, sym, ap, ◌∙◌, subst}
use Rattle.std.specs.Prelude.{⊤, IfSome, IfErr, is_some, ok_or, option_map, option_and_then}
use Rattle.std.specs.List.{AllByRecursion}
use Rattle.std.proofs.lemmas.Slice.Eq.{bytes_eq-Decides}
use Rattle.jiff_core.specs.declared.timestamp.Timestamp as jiff
use Rattle.foundation.specs.Watched.{Watched, Since}
use Rattle.foundation.specs.Results.{ok_same, err_same, some_same, no_both}
use Rattle.sigstore_types_parts.specs.Entries.{at_name}
use Rattle.sigstore_tuf_text.specs.declared.error.Error.{Error}
use Rattle.sigstore_tuf_text.specs.declared.error.Error.TheVariants as tuf
use Rattle.sigstore_tuf_text.specs.declared.error.Mismatch.TheVariants as mismatch
use Rattle.sigstore_tuf_text.specs.declared.error.Rule.TheVariants as rule
use Rattle.sigstore_tuf_parts.specs.declared.root.Root as declared
use Rattle.sigstore_tuf_parts.specs.declared.snapshot.Snapshot.{Snapshot}
use Rattle.sigstore_tuf_parts.specs.declared.targets.Delegations.{Delegations}
use Rattle.sigstore_tuf_parts.specs.declared.targets.Targets.{Targets}
use Rattle.sigstore_tuf_parts.specs.declared.timestamp.MetaFile.{MetaFile}
use Rattle.sigstore_tuf_parts.specs.Document.{Document, content_in}
use Rattle.sigstore_tuf_parts.specs.Integrity.{integrity_of, version_of, fresh_of}
use Rattle.sigstore_tuf_text.specs.Names.{root_name, pin_name}
use Rattle.sigstore_tuf_parts.specs.Pinned.{Fresh}
use Rattle.sigstore_tuf_parts.specs.Threshold.{is_among}
use Rattle.sigstore_tuf_parts.proofs.IntegrityLaws.{integrity_exactly, fresh_exactly}
use Rattle.sigstore_tuf_parts.proofs.MeetsLaw.{meets_exactly}
use Rattle.sigstore_tuf_rules.specs.declared.chain.RoleDoc.{RoleDoc}
use Rattle.sigstore_tuf_rules.specs.declared.chain.TrustChain.{TrustChain}
use Rattle.sigstore_tuf_rules.specs.declared.documents.Held.{Held}
use Rattle.sigstore_tuf_rules.specs.declared.documents.InForce.{InForce}
use Rattle.sigstore_tuf_rules.specs.Documents.{targets_document, content_of, snapshot_pin, targets_pin}
use Rattle.sigstore_tuf_outside.specs.Repository.{Quiet, Folders, Files, metadata_files}
use Rattle.sigstore_tuf_outside.specs.Store.{with_file}
use Rattle.sigstore_tuf_rules.specs.Names.{pinned_name, role_file, role_pin_in, role_name_in}
use Rattle.sigstore_tuf_runs.specs.State.{Session, State}
use Rattle.sigstore_tuf_rules.specs.Update.{fresh_at_of}
use Rattle.sigstore_tuf_rules.specs.Taking.{top_targets, taken_of, there_of}
use Rattle.sigstore_tuf_runs.specs.Adopt.{FetchesNamed, SavesAll, Keeps, unfetched, absent, refused, kept, adopted}
use Rattle.sigstore_tuf_runs.specs.Run.{said}
use Rattle.sigstore_tuf_offers.specs.Offer.{IsServed, IsServedRole}
use Rattle.sigstore_tuf_rules.specs.declared.visit.Visit.{Visit}
use Rattle.sigstore_tuf_rules.specs.declared.visit.Walk.{Walk}
use Rattle.sigstore_tuf_rules.specs.Order.{Step, by, is_top_level, is_pinned, delegated_in, pending_after, visit_of, first_visit, first_walk}
use Rattle.sigstore_tuf_rules.specs.Trusted.{visit_in, documents_in, authority_in, delegated_authority, root_authority, IsTrustedRole}
use Rattle.sigstore_tuf_rules.specs.Delegated.{delegation_of, meets_delegation_of, with_role, role_pin_of, role_checks_of, role_document_of, update_role_of, role_serves_of}
use Rattle.sigstore_tuf_rules.specs.SearchServing.{fresh_timestamp_of, fresh_snapshot_of, unexpired_of, pinned_version_of, pinned_by_of, all_pinned_of, search_serves_of}
use Rattle.sigstore_tuf_runs.specs.Search.{AdoptsRole, visit_serves_of, reads, is_held, Readies, wanting as ready_wanting, untouched, looked_at, had, documents_of, tree_in, IsGap, Searches, ended, short, unready, gapped, visited, visits_in, FindsVisits, unserved, searched}
use Rattle.sigstore_tuf_causes.proofs.Carrying.{fetched_since}
use Rattle.sigstore_tuf_causes.proofs.Causes.{is_want}
use Rattle.sigstore_tuf_runs.proofs.Steps.{save_wants}
use Rattle.sigstore_tuf_outside.proofs.Files.{inserted}
use Rattle.sigstore_tuf_rules.proofs.Updates.{never_equal}
use Rattle.sigstore_tuf_rules.proofs.RolePuts.{top_stays}
use Rattle.sigstore_tuf_rules.proofs.Stepping.{is_over, StepOf, passed_over, unpinned, listing, followed, cases_step}
use Rattle.sigstore_tuf_causes.proofs.Growing.{Grows, ready_grows}
use Rattle.sigstore_tuf_causes.proofs.Followed.{each_map, matching_named}
use Rattle.sigstore_tuf_causes.proofs.Visits.{at_role}
use Rattle.sigstore_tuf_causes.proofs.Replay.{ready_since, searches_since}
use Rattle.sigstore_tuf_causes.proofs.RoleNames.{in_folder, unlike_timestamp, unlike_snapshot, unlike_targets}
use Rattle.sigstore_tuf_offers.proofs.ChainVisits.{all_append, all_in, held_in, content_held, Along, Visits, none_more, without, with_document, Goes, goes, begins, all_done, all_visited}
use Rattle.sigstore_tuf_causes.proofs.Faults.{quiet_first, quiet_second}
use Rattle.sigstore_tuf_causes.proofs.RolesMet.{step_to}
use Rattle.sigstore_tuf_offers.proofs.Completing.{equal, if_true, Done, wanting, done, Answers, wants, answers, Given, fetch_given, of_given, of_ungiven, TellsSo, saved_so}
use Rattle.sigstore_tuf_offers.proofs.Offered.{AreOf, Offered}
use Rattle.sigstore_tuf_offers.proofs.RootsCompleting.{IsWarm, stays_warm, stays_elsewhere}
use Rattle.sigstore_tuf_offers.proofs.RefreshCompleting.{Topped, check_done}

-- ---- the roles in force

abbrev pub bytes_at : InForce → List ℕ → Option (List ℕ)
bytes_at set name = option_map (λ (held : Held Targets). held.bytes) (at_name name set.targets)

-- the documents of these roles are in force
abbrev pub AreHeld : InForce → List RoleDoc → Type 0
AreHeld set roles = AllByRecursion (λ (r : RoleDoc). IfSome r.bytes (λ b. bytes_at set r.name ≡ Some b)) roles

-- that of its delegator is in force, or it is of `targets`
abbrev IsPending : InForce → Visit → Type 0
IsPending set v = bytes_eq v.name (codes "targets") ≡ false → (is_top_level v.name ≡ false) × (is_held set v.delegator ≡ true)

abbrev ArePending : InForce → List Visit → Type 0
ArePending set vs = AllByRecursion (IsPending set) vs

-- what is held
pub held_at : (set : InForce) (name : List ℕ) → is_held set name ≡ true → (held : Held Targets) × (at_name name set.targets ≡ Some held)
held_at set name h = by_held (at_name name set.targets) h
  where
    by_held : (o : Option (Held Targets)) → is_some o ≡ true → (held : Held Targets) × (o ≡ Some held)
    by_held None h = cc
    by_held (Some held) h = (held, refl)

bytes_still : (old new : InForce) → Grows old new → (name bytes : List ℕ) → bytes_at old name ≡ Some bytes → bytes_at new name ≡ Some bytes
bytes_still old new g name bytes h = by_held (at_name name old.targets) refl h
  where
    by_held : (o : Option (Held Targets)) → at_name name old.targets ≡ o → option_map (λ (held : Held Targets). held.bytes) o ≡ Some bytes → bytes_at new name ≡ Some bytes
    by_held None e h = cc
    by_held (Some held) e h = ap (option_map (λ (held : Held Targets). held.bytes)) (g.held name held e) ∙ h

held_still : (old new : InForce) → Grows old new → (name : List ℕ) → is_held old name ≡ true → is_held new name ≡ true
held_still old new g name h = let at = held_at old name h in ap is_some (g.held name at.0 at.1)

roles_still : (old new : InForce) → Grows old new → (roles : List RoleDoc) → AreHeld old roles → AreHeld new roles
roles_still old new g roles h = each_map _ _ roles (λ r h. by_bytes r.name r.bytes h) h
  where
    by_bytes : (name : List ℕ) (o : Option (List ℕ)) → IfSome o (λ b. bytes_at old name ≡ Some b) → IfSome o (λ b. bytes_at new name ≡ Some b)
    by_bytes name None h = tt
    by_bytes name (Some b) h = bytes_still old new g name b h

pending_still : (old new : InForce) → Grows old new → (vs : List Visit) → ArePending old vs → ArePending new vs
pending_still old new g vs p = each_map (IsPending old) (IsPending new) vs (λ v h other. ((h other).0, held_still old new g v.delegator (h other).1)) p

-- ---- what follows a visit

both_all : {A : Type 0} (P : A → Type 0) (xs ys : List A) → AllByRecursion P xs → AllByRecursion P ys → AllByRecursion P (xs ++ ys)
both_all P [] ys p q = q
both_all P (x ∷ xs) ys p q = (p.0, both_all P xs ys p.1 q)

delegated_pending : (set : InForce) (delegator : List ℕ) (names : List (List ℕ)) → is_held set delegator ≡ true → AllByRecursion (λ name. is_top_level name ≡ false) names → ArePending set (map (by delegator) names)
delegated_pending set delegator [] h low = tt
delegated_pending set delegator (name ∷ names) h low = ((λ other. (low.0, h)), delegated_pending set delegator names h low.1)

unless_ended : (set : InForce) (ends : Bool) (vs : List Visit) → ArePending set vs → ArePending set (if ends then [] else vs)
unless_ended set true vs p = tt
unless_ended set false vs p = p

module _ (set : InForce) (snapshot : Snapshot) (path : List ℕ) (v : Visit) (w : Walk) where
  next_pending : (o : Option Targets) (step : Step) (vs : List Visit) → StepOf snapshot path o v w step → (is_over v w ≡ false → is_pinned snapshot v.name ≡ true → is_held set v.name ≡ true) → ArePending set vs → ArePending set (pending_after v step vs)
  next_pending o step vs (passed_over over is) held p = subst (λ (s : Step). ArePending set (pending_after v s vs)) (sym is) p
  next_pending o step vs (unpinned allowed free is) held p = subst (λ (s : Step). ArePending set (pending_after v s vs)) (sym is) p
  next_pending o step vs (listing doc allowed pinned there l is) held p = subst (λ (s : Step). ArePending set (pending_after v s vs)) (sym is) p
  next_pending o step vs (followed doc next allowed pinned there l m is) held p =
      subst (λ (s : Step). ArePending set (pending_after v s vs)) (sym is)
      (both_all (IsPending set) (map (by v.name) next.names) (if next.ends then [] else vs)
      (delegated_pending set v.name next.names (held allowed pinned) (each_map _ _ next.names (λ name h. h.0) (matching_named path (delegated_in doc.delegations) next m)))
      (unless_ended set next.ends vs p))

  -- where the document that is read is the same, so is the step
  same_step : (o o' : Option Targets) (step : Step) → StepOf snapshot path o v w step → (is_over v w ≡ false → is_pinned snapshot v.name ≡ true → o' ≡ o) → StepOf snapshot path o' v w step
  same_step o o' step (passed_over over is) same = passed_over over is
  same_step o o' step (unpinned allowed free is) same = unpinned allowed free is
  same_step o o' step (listing doc allowed pinned there l is) same = listing doc allowed pinned (same allowed pinned ∙ there) l is
  same_step o o' step (followed doc next allowed pinned there l m is) same = followed doc next allowed pinned (same allowed pinned ∙ there) l m is

-- ---- one write

one_wants : (bytes name : List ℕ) (old new : Watched Files) (result : Result ⊤ Error) → SavesAll bytes (name ∷ []) old new result → IfErr result (λ e. e ≡ tuf.NoMemory)
one_wants bytes name old new result (inl (e, s, r)) = subst (λ r. IfErr r (λ e. e ≡ tuf.NoMemory)) (sym r) (save_wants bytes name old new (Err e) s)
one_wants bytes name old new result (inr (mid, s, (same, r))) = subst (λ r. IfErr r (λ e. e ≡ tuf.NoMemory)) (sym r) tt

one_so : (Q : Files → Type 0) (bytes name : List ℕ) (old new : Watched Files) (result : Result ⊤ Error) → ((files : Files) → Q files → Q (with_file name bytes files)) → SavesAll bytes (name ∷ []) old new result → TellsSo Q old → TellsSo Q new
one_so Q bytes name old new result h (inl (e, s, r)) t = saved_so Q bytes name old new (Err e) h s t
one_so Q bytes name old new result h (inr (mid, s, (same, r))) t = subst (TellsSo Q) (sym same) (saved_so Q bytes name old mid (Ok tt) h s t)

-- ---- tests

reads_bits : (a b c : Bool) → (not a && (not b && c)) ≡ (not (a || b) && c)
reads_bits true b c = refl
reads_bits false true c = refl
reads_bits false false c = refl

-- want of memory, or these visits, and P
pub data FoundSo (P : Type 0) (visits : List Visit) (result : Result (List Visit) Error) : Type 0 where
  found_wanting : result ≡ Err tuf.NoMemory → FoundSo P visits result
  found_all : result ≡ Ok visits → P → FoundSo P visits result

version_pinned : (pin : Option MetaFile) (p : MetaFile) (version : ℕ) → pin ≡ Some p → version ≡ p.version → pinned_version_of pin version ≡ Ok tt
version_pinned pin p version at same =
    ap (λ pin. pinned_version_of pin version) at ∙ if_true (p.version == version) (tuf.IntegrityMismatch mismatch.Version) (equal p.version version (sym same))

module _ (session : Session) (folders : Folders) (path : List ℕ) (chain : TrustChain) (o : Offered session folders path chain) (from : ℕ) (whole : List (List ℕ)) (whole_bound : from + length whole < 2 ^ 64) where
  abbrev Warm : Files → Type 0
  Warm = IsWarm session folders path chain o from whole whole_bound

  -- the top-level documents of the chain are in force, and of its roles those that were visited
  abbrev Ready : State → Type 0
  Ready state = Topped session folders path chain o from whole whole_bound state

  abbrev IsRole : Visit → List ℕ → Type 0
  IsRole v bytes = IsTrustedRole session.crypto (content_in {T = declared.Root} o.root) (content_of o.snap) (documents_in chain.roles) session.now v bytes

  fresh_ok : (role : List ℕ) (expires : jiff.Timestamp) → Fresh expires session.now → fresh_of role expires session.now ≡ Ok tt
  fresh_ok role expires f = (fresh_exactly role expires session.now).1 f

  -- ---- the top-level documents serve

  unexpired : (set : InForce) → set.root ≡ o.root → set.timestamp ≡ Some o.time → set.snapshot ≡ Some o.snap → unexpired_of set session.now ≡ Ok tt
  unfolding unexpired_of
  unexpired set root time snap =
      step_to (fresh_of (codes "root") (content_in {T = declared.Root} set.root).expires session.now) _ tt
      (fresh_ok (codes "root") (content_in {T = declared.Root} set.root).expires (subst (λ (r : Document declared.Root). Fresh (content_in {T = declared.Root} r).expires session.now) (sym root) o.root_fresh))
      ∙ step_to (fresh_timestamp_of set.timestamp session.now) _ tt (ap (λ t. fresh_timestamp_of t session.now) time ∙ fresh_ok (codes "timestamp") (content_of o.time).expires o.time_fresh)
      ∙ ap (λ s. fresh_snapshot_of s session.now) snap ∙ fresh_ok (codes "snapshot") (content_of o.snap).expires o.snap_fresh

  pinned : pinned_by_of (content_of o.time) (content_of o.snap) (content_of o.top) session.now ≡ Ok tt
  unfolding pinned_by_of
  pinned =
      step_to (fresh_of (codes "targets") (content_of o.top).expires session.now) _ tt (fresh_ok (codes "targets") (content_of o.top).expires o.top_fresh)
      ∙ step_to (pinned_version_of (snapshot_pin (content_of o.time)) (content_of o.snap).version) _ tt (version_pinned (snapshot_pin (content_of o.time)) o.pin (content_of o.snap).version o.pin_is o.pinned.version_is)
      ∙ version_pinned (targets_pin (content_of o.snap)) o.top_pin (content_of o.top).version o.top_pin_is o.top_pinned.version_is

  all_pinned : (set : InForce) → set.timestamp ≡ Some o.time → set.snapshot ≡ Some o.snap → top_targets set ≡ Some o.top → all_pinned_of set.timestamp set.snapshot (top_targets set) session.now ≡ Ok tt
  all_pinned set time snap top =
      ap (λ t. all_pinned_of t set.snapshot (top_targets set) session.now) time ∙ ap (λ s. all_pinned_of (Some o.time) s (top_targets set) session.now) snap ∙ ap (λ g. all_pinned_of (Some o.time) (Some o.snap) g session.now) top ∙ pinned

  serves : (set : InForce) → set.root ≡ o.root → set.timestamp ≡ Some o.time → set.snapshot ≡ Some o.snap → top_targets set ≡ Some o.top → search_serves_of set session.now ≡ Ok tt
  unfolding search_serves_of
  serves set root time snap top = step_to (unexpired_of set session.now) _ tt (unexpired set root time snap) ∙ all_pinned set time snap top

  -- ---- a role is judged well

  module _ (set : InForce) (snap : set.snapshot ≡ Some o.snap) (are : AreOf chain.roles set) (v : Visit) (bytes : List ℕ) (t : IsRole v bytes) (low : is_top_level v.name ≡ false) (other : bytes_eq v.name (codes "targets") ≡ false)
      (held : is_held set v.delegator ≡ true) where
    delegated : delegation_of set v ≡ Ok t.authority
    unfolding delegation_of
    delegated = by_delegator (held_at set v.delegator held)
      where
        by_delegations : (h : Held Targets) → at_name v.delegator set.targets ≡ Some h → (ds : Option Delegations) → (content_of h).delegations ≡ ds → option_and_then (authority_in v.name) ds ≡ Some t.authority → delegation_of set v ≡ Ok t.authority
        by_delegations h at None is e = cc
        by_delegations h at (Some d) is e = rw (low, at, is, e) refl

        is_delegated : delegated_authority (documents_in chain.roles) v ≡ Some t.authority
        is_delegated = sym (ap (λ b. if b then root_authority (content_in {T = declared.Root} o.root) v.name else delegated_authority (documents_in chain.roles) v) other) ∙ t.authority_is

        by_delegator : (h : Held Targets) × (at_name v.delegator set.targets ≡ Some h) → delegation_of set v ≡ Ok t.authority
        by_delegator (h, at) =
            let document : documents_in chain.roles v.delegator ≡ Some (content_of h) = content_held v.delegator chain.roles ∙ ap (option_map content_of) (are v.delegator h at) in
            by_delegations h at (content_of h).delegations refl (sym (ap (option_and_then (λ (doc : Targets). option_and_then (authority_in v.name) doc.delegations)) document) ∙ is_delegated)

    pin_so : role_pin_of set v.name (Some session.now) ≡ Ok t.pin
    unfolding role_pin_of
    pin_so =
        step_to (ok_or set.snapshot (tuf.Malformed rule.NoSnapshot)) _ o.snap (ap (λ s. ok_or s (tuf.Malformed rule.NoSnapshot)) snap)
        ∙ step_to (fresh_at_of (codes "snapshot") (content_of o.snap).expires (Some session.now)) _ tt (fresh_ok (codes "snapshot") (content_of o.snap).expires o.snap_fresh)
        ∙ ap (λ p. ok_or p (tuf.Malformed rule.Unpinned)) t.pin_is

    met : meets_delegation_of session.crypto t.authority v.name t.doc ≡ Ok tt
    met = (meets_exactly session.crypto t.authority.keys t.authority.role v.name t.doc).1 t.met

    checked : role_checks_of session.crypto t.authority t.pin v.name t.doc (Some session.now) ≡ Ok tt
    unfolding role_checks_of
    checked =
        step_to (version_of t.pin (content_in {T = Targets} t.doc).version) _ tt
        (if_true ((content_in {T = Targets} t.doc).version == t.pin.version) (tuf.IntegrityMismatch mismatch.Version) (equal (content_in {T = Targets} t.doc).version t.pin.version t.pinned.version_is))
        ∙ step_to (meets_delegation_of session.crypto t.authority v.name t.doc) _ tt met
        ∙ fresh_ok v.name (content_in {T = Targets} t.doc).expires t.fresh

    read : role_document_of session.crypto t.authority t.pin v.name bytes (Some session.now) ≡ Ok t.doc
    unfolding role_document_of
    read =
        step_to (integrity_of t.pin.length t.pin.hashes bytes) _ tt ((integrity_exactly t.pin.length t.pin.hashes bytes).1 t.pinned.intact)
        ∙ step_to (targets_document bytes) _ t.doc t.read
        ∙ step_to (role_checks_of session.crypto t.authority t.pin v.name t.doc (Some session.now)) _ tt checked

    updated : update_role_of session.crypto set v bytes (Some session.now) ≡ Ok (with_role set v.name (record { bytes = bytes; document = t.doc }))
    unfolding update_role_of
    updated =
        step_to (delegation_of set v) _ t.authority delegated
        ∙ step_to (role_pin_of set v.name (Some session.now)) _ t.pin pin_so
        ∙ step_to (role_document_of session.crypto t.authority t.pin v.name bytes (Some session.now)) _ t.doc read

    role_serves : at_name v.name set.targets ≡ Some (record { bytes = bytes; document = t.doc }) → role_serves_of session.crypto set v session.now ≡ Ok tt
    unfolding role_serves_of
    role_serves at =
        step_to (delegation_of set v) _ t.authority delegated
        ∙ step_to (ok_or (at_name v.name set.targets) (tuf.UnknownRole v.name)) _ (record { bytes = bytes; document = t.doc }) (ap (λ r. ok_or r (tuf.UnknownRole v.name)) at)
        ∙ step_to (meets_delegation_of session.crypto t.authority v.name t.doc) _ tt met
        ∙ fresh_ok v.name (content_in {T = Targets} t.doc).expires t.fresh

  -- ---- a role is adopted

  -- its document was put in force and written
  record Put (name : List ℕ) (held : Held Targets) (old new : State) : Type 0 where
    documents_are : new.documents ≡ with_role old.documents name held
    told : new.repo.told ≡ old.repo.told
    written : Result ⊤ Error
    keeps : Keeps (role_file name ∷ []) held.bytes old.store new.store written

  module _ (old new : State) (v : Visit) (held : Held Targets) (told : old.repo.told ≡ Some folders) (served : IsServed folders.metadata (role_name_in old.documents v.name) held.bytes session.config.targets_max_length)
      (quiet : Quiet old.repo.faults new.repo.faults) (judged : update_role_of session.crypto old.documents v held.bytes (Some session.now) ≡ Ok (with_role old.documents v.name held)) where
    abbrev There : Result Bool Error → Type 0
    There answer = Answers (Put v.name held old new) answer (Ok true)

    given_so : (result : Result (Option (List ℕ)) Error) → FetchesNamed metadata_files (role_name_in old.documents v.name) session.config.targets_max_length old.repo new.repo result → Given (Some held.bytes) result
    given_so result f = fetch_given metadata_files (role_name_in old.documents v.name) session.config.targets_max_length old.repo new.repo folders (Some held.bytes) result told served.there served.short quiet f

    judged_so : (x : List ℕ) → Some x ≡ Some held.bytes → taken_of (update_role_of session.crypto old.documents v x (Some session.now)) ≡ Ok (Some (with_role old.documents v.name held))
    judged_so x same = ap (λ x. taken_of (update_role_of session.crypto old.documents v x (Some session.now))) (some_same x held.bytes same) ∙ ap taken_of judged

    refused_there : (x : List ℕ) (e : Error) (answer : Result Bool Error) → Some x ≡ Some held.bytes → (e ≢ tuf.NoMemory → taken_of (update_role_of session.crypto old.documents v x (Some session.now)) ≡ Err e) → answer ≡ Err e → There answer
    refused_there x e answer same j a = by_want (is_want e)
      where
        by_want : (e ≡ tuf.NoMemory) ⊎ (e ≢ tuf.NoMemory) → There answer
        by_want (inl h) = wants (a ∙ ap Err h)
        by_want (inr h) = no_both (Some (with_role old.documents v.name held)) e (sym (judged_so x same) ∙ j h)

    adopted_there : (x : List ℕ) (written : Result ⊤ Error) (answer : Result Bool Error) → Some x ≡ Some held.bytes → taken_of (update_role_of session.crypto old.documents v x (Some session.now)) ≡ Ok (Some new.documents)
        → new.repo.told ≡ old.repo.told → Keeps (role_file v.name ∷ []) x old.store new.store written → answer ≡ there_of written → There answer
    adopted_there x written answer same j t w a = by_write written a w (one_wants x (role_file v.name) old.store new.store written w.saves)
      where
        by_write : (written : Result ⊤ Error) → answer ≡ there_of written → Keeps (role_file v.name ∷ []) x old.store new.store written → IfErr written (λ e. e ≡ tuf.NoMemory) → There answer
        by_write (Ok y) a w h = answers a (record {
          documents_are = some_same new.documents (with_role old.documents v.name held) (ok_same (Some new.documents) (Some (with_role old.documents v.name held)) (sym j ∙ judged_so x same));
          told = t;
          written = Ok y;
          keeps = subst (λ x. Keeps (role_file v.name ∷ []) x old.store new.store (Ok y)) (some_same x held.bytes same) w;
        })
        by_write (Err e) a w h = wants (a ∙ ap Err h)

    adopts_there : (answer : Result Bool Error) → AdoptsRole session v old new answer → There answer
    adopts_there answer (unfetched e f u a) = of_ungiven (Some held.bytes) e (given_so (Err e) f) (λ h. wants (a ∙ ap Err h))
    adopts_there answer (absent f u a) = of_given (Some held.bytes) None (given_so (Ok None) f) (λ h. cc)
    adopts_there answer (refused x e f j u a) = of_given (Some held.bytes) (Some x) (given_so (Ok (Some x)) f) (λ h. refused_there x e answer h j a)
    adopts_there answer (kept x f j u a) = absurd (never_equal (update_role_of session.crypto old.documents v x (Some session.now)) j)
    adopts_there answer (adopted x written f j w a) =
        of_given (Some held.bytes) (Some x) (given_so (Ok (Some x)) f)
        (λ h. adopted_there x written answer h j (fetched_since metadata_files (role_name_in old.documents v.name) session.config.targets_max_length old.repo new.repo (Ok (Some x)) f).same w a)

  -- the name under which it is fetched
  role_name : (set : InForce) (name : List ℕ) → set.root ≡ o.root → set.snapshot ≡ Some o.snap
      → role_name_in set name ≡ pinned_name (content_in {T = declared.Root} o.root).consistent_snapshot (at_name (pin_name name) (content_of o.snap).meta) (role_file name)
  role_name set name root snap =
      ap (λ (r : Document declared.Root). pinned_name (content_in {T = declared.Root} r).consistent_snapshot (role_pin_in set name) (role_file name)) root
      ∙ ap (λ s. pinned_name (content_in {T = declared.Root} o.root).consistent_snapshot (option_and_then (λ (held : Held Snapshot). at_name (pin_name name) (content_of held).meta) s) (role_file name)) snap

  -- a write of it leaves the store warm
  role_harmless : (name bytes : List ℕ) → is_top_level name ≡ false → (files : Files) → Warm files → Warm (with_file (role_file name) bytes files)
  role_harmless name bytes low =
      stays_warm session folders path chain o from whole whole_bound (role_file name) bytes (inl (unlike_timestamp name low)) (inl (unlike_snapshot name low)) (inl (unlike_targets name low)) (inl (in_folder (codes "targets") path name))
      (stays_elsewhere session folders path chain o from whole whole_bound (role_file name) bytes (λ n. in_folder (codes "root_history") (root_name n) name))

  role_of : (set : InForce) (name : List ℕ) (held : Held Targets) → AreOf chain.roles set → held_in chain.roles name ≡ Some held → AreOf chain.roles (with_role set name held)
  role_of set name held are is q x at = by_name (inserted q name held x set.targets at)
    where
      by_name : ((q ≡ name) × (x ≡ held)) ⊎ (at_name q set.targets ≡ Some x) → held_in chain.roles q ≡ Some x
      by_name (inl (named, same)) = ap (held_in chain.roles) named ∙ is ∙ ap Some (sym same)
      by_name (inr there) = are q x there

  ready_role : (old new : State) (name : List ℕ) (held : Held Targets) → is_top_level name ≡ false → held_in chain.roles name ≡ Some held → Ready old → Put name held old new → Ready new
  ready_role old new name held low is b p = record {
    snapped = record {
      timed = record {
        behind = record {
          told = p.told ∙ b.snapped.timed.behind.told;
          root = ap (λ (s : InForce). s.root) p.documents_are ∙ b.snapped.timed.behind.root;
          roots = ap (λ (s : InForce). s.roots) p.documents_are ∙ b.snapped.timed.behind.roots;
          time = inr (ap (λ (s : InForce). s.timestamp) p.documents_are ∙ b.snapped.timed.time);
          snap = inr (ap (λ (s : InForce). s.snapshot) p.documents_are ∙ b.snapped.snap);
          top = inr (ap (λ (s : InForce). top_targets s) p.documents_are ∙ top_stays old.documents name held low ∙ b.top);
          roles = subst (AreOf chain.roles) (sym p.documents_are) (role_of old.documents name held b.snapped.timed.behind.roles is);
          warm = one_so Warm held.bytes (role_file name) old.store new.store p.written (role_harmless name held.bytes low) p.keeps.saves b.snapped.timed.behind.warm;
        };
        time = ap (λ (s : InForce). s.timestamp) p.documents_are ∙ b.snapped.timed.time;
      };
      snap = ap (λ (s : InForce). s.snapshot) p.documents_are ∙ b.snapped.snap;
    };
    top = ap (λ (s : InForce). top_targets s) p.documents_are ∙ top_stays old.documents name held low ∙ b.top;
  }

  -- ---- a visit is made ready

  reads_so : (set : InForce) (v : Visit) (w : Walk) → set.snapshot ≡ Some o.snap → reads set v w ≡ (not (is_over v w) && is_pinned (content_of o.snap) v.name)
  reads_so set v w snap =
      ap (λ s. not (w.left == 0) && (not (is_among w.read v.name) && is_some (option_and_then (λ (held : Held Snapshot). at_name (pin_name v.name) (content_of held).meta) s))) snap
      ∙ reads_bits (w.left == 0) (is_among w.read v.name) (is_pinned (content_of o.snap) v.name)

  -- after it: the documents of the roles that were visited are in force
  record Made (v : Visit) (w : Walk) (roles : List RoleDoc) (state : State) : Type 0 where
    ready : Ready state
    held : AreHeld state.documents roles
    read : is_over v w ≡ false → is_pinned (content_of o.snap) v.name ≡ true → is_held state.documents v.name ≡ true

  unread_ready : (P : State → Type 0) (v : Visit) (w : Walk) (old new : State) (result : Result ⊤ Error) → reads old.documents v w ≡ false → P old → Readies session v w old new result → Done (P new) result
  unread_ready P v w old new result none p (ready_wanting s r) = wanting r
  unread_ready P v w old new result none p (untouched n s r) = done r (subst P (sym s) p)
  unread_ready P v w old new result none p (looked_at n h c) = let never : true ≡ false = sym n ∙ none in cc
  unread_ready P v w old new result none p (had answer n h a is) = let never : true ≡ false = sym n ∙ none in cc

  -- a role with its document
  module _ (v : Visit) (w : Walk) (bytes : List ℕ) (t : IsRole v bytes) (is : held_in chain.roles v.name ≡ Some (record { bytes = bytes; document = t.doc })) where
    -- the one in force is the chain's
    kept_at : (set : InForce) → AreOf chain.roles set → is_held set v.name ≡ true → at_name v.name set.targets ≡ Some (record { bytes = bytes; document = t.doc })
    kept_at set are h =
        let at = held_at set v.name h in
        at.1 ∙ sym (are v.name at.0 at.1) ∙ is

    serves_visit : (set : InForce) → set.snapshot ≡ Some o.snap → AreOf chain.roles set → IsPending set v → is_held set v.name ≡ true → visit_serves_of session.crypto set v session.now ≡ Ok tt
    serves_visit set snap are p h = by_test (bytes_eq v.name (codes "targets")) refl
      where
        by_test : (b : Bool) → bytes_eq v.name (codes "targets") ≡ b → (if b then Ok tt else role_serves_of session.crypto set v session.now) ≡ Ok tt
        by_test true e = refl
        by_test false e = role_serves set snap are v bytes t (p e).0 e (p e).1 (kept_at set are h)

    -- `targets` is in force
    other_name : (state : State) → Ready state → is_held state.documents v.name ≡ false → bytes_eq v.name (codes "targets") ≡ false
    other_name state b none = by_test (bytes_eq v.name (codes "targets")) refl
      where
        by_test : (c : Bool) → bytes_eq v.name (codes "targets") ≡ c → bytes_eq v.name (codes "targets") ≡ false
        by_test true e =
            let same : v.name ≡ codes "targets" = (bytes_eq-Decides v.name (codes "targets")).0 e in
            let never : true ≡ false = sym (ap is_some b.top) ∙ ap (is_held state.documents) (sym same) ∙ none in cc
        by_test false e = e

    role_ready : (old new : State) (result : Result ⊤ Error) → IsServed folders.metadata (pinned_name (content_in {T = declared.Root} o.root).consistent_snapshot (at_name (pin_name v.name) (content_of o.snap).meta) (role_file v.name)) bytes session.config.targets_max_length
        → Ready old → IsPending old.documents v → reads old.documents v w ≡ true → Quiet old.repo.faults new.repo.faults → Readies session v w old new result → Done (Ready new × (bytes_at new.documents v.name ≡ Some bytes)) result
    role_ready old new result served b p some quiet (ready_wanting s r) = wanting r
    role_ready old new result served b p some quiet (untouched n s r) = let never : true ≡ false = sym some ∙ n in cc
    role_ready old new result served b p some quiet (looked_at n h c) =
        check_done session folders path chain o from whole whole_bound (λ (s : State). Ready s × (bytes_at s.documents v.name ≡ Some bytes)) (λ set. visit_serves_of session.crypto set v session.now) old new result
        (serves_visit old.documents b.snapped.snap b.snapped.timed.behind.roles p h) (b, ap (option_map (λ (held : Held Targets). held.bytes)) (kept_at old.documents b.snapped.timed.behind.roles h)) c
    role_ready old new result served b p some quiet (had answer n h a said_is) = by_answer (adopts_there old new v (record { bytes = bytes; document = t.doc }) b.snapped.timed.behind.told served_so quiet judged answer a)
      where
        other : bytes_eq v.name (codes "targets") ≡ false
        other = other_name old b h

        judged : update_role_of session.crypto old.documents v bytes (Some session.now) ≡ Ok (with_role old.documents v.name (record { bytes = bytes; document = t.doc }))
        judged = updated old.documents b.snapped.snap b.snapped.timed.behind.roles v bytes t (p other).0 other (p other).1

        served_so : IsServed folders.metadata (role_name_in old.documents v.name) bytes session.config.targets_max_length
        served_so = subst (λ n. IsServed folders.metadata n bytes session.config.targets_max_length) (sym (role_name old.documents v.name b.snapped.timed.behind.root b.snapped.snap)) served

        by_answer : Answers (Put v.name (record { bytes = bytes; document = t.doc }) old new) answer (Ok true) → Done (Ready new × (bytes_at new.documents v.name ≡ Some bytes)) result
        by_answer (wants e) = wanting (said_is ∙ ap (λ (a : Result Bool Error). said a) e)
        by_answer (answers e put) =
            done (said_is ∙ ap (λ (a : Result Bool Error). said a) e) (
              ready_role old new v.name (record { bytes = bytes; document = t.doc }) (p other).0 is b put,
              ap (λ (s : InForce). bytes_at s v.name) put.documents_are ∙ ap (option_map (λ (held : Held Targets). held.bytes)) (at_role old.documents v.name (record { bytes = bytes; document = t.doc })),
            )

  -- each visit
  abbrev IsAlong : List RoleDoc → List RoleDoc → List Visit → Walk → Type 0
  IsAlong before rest vs w =
      Along session.crypto (content_in {T = declared.Root} o.root) (content_of o.snap) session.now path session.config.max_delegations chain.roles before rest vs w

  abbrev AreVisits : List RoleDoc → Visit → Walk → List RoleDoc → Type 0
  AreVisits before v w after = Visits session.crypto (content_in {T = declared.Root} o.root) (content_of o.snap) session.now chain.roles before v w after

  visit_ready : (before after : List RoleDoc) (v : Visit) (w : Walk) (old new : State) (result : Result ⊤ Error) → AreVisits before v w after → Ready old → AreHeld old.documents before → IsPending old.documents v
      → Quiet old.repo.faults new.repo.faults → Readies session v w old new result → Done (Made v w after new) result
  visit_ready before after v w old new result (none_more over is) b h p quiet r =
      unread_ready (Made v w after) v w old new result (reads_so old.documents v w b.snapped.snap ∙ ap (λ x. not x && is_pinned (content_of o.snap) v.name) over)
      (record { ready = b; held = subst (AreHeld old.documents) (sym is) h; read = λ allowed pin. let never : true ≡ false = sym over ∙ allowed in cc }) r
  visit_ready before after v w old new result (without role allowed free none is) b h p quiet r =
      unread_ready (Made v w after) v w old new result (reads_so old.documents v w b.snapped.snap ∙ ap (λ x. not x && is_pinned (content_of o.snap) v.name) allowed ∙ free)
      (record {
        ready = b;
        held = subst (AreHeld old.documents) (sym is) (all_append _ before role h (subst (λ o. IfSome o (λ b. bytes_at old.documents role.name ≡ Some b)) (sym none) tt));
        read = λ x pin. let never : true ≡ false = sym pin ∙ free in cc;
      }) r
  visit_ready before after v w old new result (with_document role later bytes allowed pin v_is there t held place is) b h p quiet r =
      by_done (role_ready v w bytes t held old new result served b p (reads_so old.documents v w b.snapped.snap ∙ ap (λ x. not x && is_pinned (content_of o.snap) v.name) allowed ∙ pin) quiet r)
    where
      named : role.name ≡ v.name
      named = ap (λ (x : Visit). x.name) v_is

      all : AllByRecursion (λ (r : RoleDoc). IsServedRole folders.metadata (content_in {T = declared.Root} o.root).consistent_snapshot (content_of o.snap) session.config.targets_max_length r r.bytes) (before ++ role ∷ later)
      all = subst (λ rs. AllByRecursion (λ (r : RoleDoc). IsServedRole folders.metadata (content_in {T = declared.Root} o.root).consistent_snapshot (content_of o.snap) session.config.targets_max_length r r.bytes) rs) (sym place) o.roles_served

      served : IsServed folders.metadata (pinned_name (content_in {T = declared.Root} o.root).consistent_snapshot (at_name (pin_name v.name) (content_of o.snap).meta) (role_file v.name)) bytes session.config.targets_max_length
      served =
          subst (λ n. IsServed folders.metadata (pinned_name (content_in {T = declared.Root} o.root).consistent_snapshot (at_name (pin_name n) (content_of o.snap).meta) (role_file n)) bytes session.config.targets_max_length) named
          (subst (λ x. IsServedRole folders.metadata (content_in {T = declared.Root} o.root).consistent_snapshot (content_of o.snap) session.config.targets_max_length role x) there (all_in _ before role later all))

      by_done : Done (Ready new × (bytes_at new.documents v.name ≡ Some bytes)) result → Done (Made v w after new) result
      by_done (wanting e) = wanting e
      by_done (done e (ready, at)) = done e (record {
        ready = ready;
        held = subst (AreHeld new.documents) (sym is)
            (all_append _ before role (roles_still old.documents new.documents (ready_grows session v w old new result r) before h)
            (subst (λ o. IfSome o (λ b. bytes_at new.documents role.name ≡ Some b)) (sym there) (ap (bytes_at new.documents) named ∙ at)));
        read = λ x y. was_held at;
      })
        where
          was_held : bytes_at new.documents v.name ≡ Some bytes → is_held new.documents v.name ≡ true
          was_held at = by_held (at_name v.name new.documents.targets) at
            where
              by_held : (o : Option (Held Targets)) → option_map (λ (held : Held Targets). held.bytes) o ≡ Some bytes → is_some o ≡ true
              by_held None e = cc
              by_held (Some x) e = refl

  -- ---- the search

  -- at its end all roles are in force
  pub record Ended (state : State) : Type 0 where
    pub ready : Ready state
    pub held : AreHeld state.documents chain.roles

  abbrev Found : State → Result (List Visit) Error → Type 0
  Found state result = FoundSo (Ended state) (map visit_in chain.roles) result

  abbrev IsGoing : List RoleDoc → Visit → List Visit → Walk → Type 0
  IsGoing before v vs w = Goes session.crypto (content_in {T = declared.Root} o.root) (content_of o.snap) session.now path session.config.max_delegations chain.roles before v vs w

  gone : (before rest : List RoleDoc) (v : Visit) (vs : List Visit) (w : Walk) → IsAlong before rest (v ∷ vs) w → IsGoing before v vs w
  gone before rest v vs w a = goes session.crypto (content_in {T = declared.Root} o.root) (content_of o.snap) session.now path session.config.max_delegations chain.roles o.roles before rest v vs w a

  -- the step over the documents in force is that over the chain's
  step_so : (before : List RoleDoc) (v : Visit) (vs : List Visit) (w : Walk) (g : IsGoing before v vs w) (state : State) → Made v w g.done' state → visit_of (tree_in state.documents (content_of o.snap) path) v w ≡ Ok g.step
  step_so before v vs w g state m =
      cases_step (tree_in state.documents (content_of o.snap) path) v w g.step (same_step state.documents (content_of o.snap) path v w (documents_in chain.roles v.name) (documents_of state.documents v.name) g.step g.cases same)
    where
      same : is_over v w ≡ false → is_pinned (content_of o.snap) v.name ≡ true → documents_of state.documents v.name ≡ documents_in chain.roles v.name
      same allowed pin =
          let at = held_at state.documents v.name (m.read allowed pin) in
          ap (option_map content_of) (at.1 ∙ sym (m.ready.snapped.timed.behind.roles v.name at.0 at.1)) ∙ sym (content_held v.name chain.roles)

  unready_done : (before rest : List RoleDoc) (v : Visit) (vs : List Visit) (w : Walk) (old new : State) (e : Error) → IsAlong before rest (v ∷ vs) w → Ready old → AreHeld old.documents before → ArePending old.documents (v ∷ vs)
      → Quiet old.repo.faults new.repo.faults → Readies session v w old new (Err e) → Found new (Err e)
  unready_done before rest v vs w old new e a b h p q r = by_done (visit_ready before g.done' v w old new (Err e) g.visits b h p.0 q r)
    where
      g : IsGoing before v vs w
      g = gone before rest v vs w a

      by_done : Done (Made v w g.done' new) (Err e) → Found new (Err e)
      by_done (wanting h) = found_wanting (ap Err (err_same e tuf.NoMemory h))
      by_done (done h m) = no_both tt e (sym h)

  gapped_done : (before rest : List RoleDoc) (v : Visit) (vs : List Visit) (w : Walk) (old new : State) (e : Error) → IsAlong before rest (v ∷ vs) w → Ready old → AreHeld old.documents before → ArePending old.documents (v ∷ vs)
      → Quiet old.repo.faults new.repo.faults → Readies session v w old new (Ok tt) → (e ≢ tuf.NoMemory → IsGap (visit_of (tree_in new.documents (content_of o.snap) path) v w) e) → Found new (Err e)
  gapped_done before rest v vs w old new e a b h p q r gap = by_done (visit_ready before g.done' v w old new (Ok tt) g.visits b h p.0 q r)
    where
      g : IsGoing before v vs w
      g = gone before rest v vs w a

      by_want : Made v w g.done' new → (e ≡ tuf.NoMemory) ⊎ (e ≢ tuf.NoMemory) → Found new (Err e)
      by_want m (inl h) = found_wanting (ap Err h)
      by_want m (inr h) = let at = gap h in no_both g.step at.0 (sym (step_so before v vs w g new m) ∙ at.1)

      by_done : Done (Made v w g.done' new) (Ok tt) → Found new (Err e)
      by_done (wanting h) = no_both tt tuf.NoMemory h
      by_done (done h m) = by_want m (is_want e)

  abbrev GoesOn : List Visit → Walk → State → State → Result (List Visit) Error → Type 0
  GoesOn vs w mid new result = (before rest : List RoleDoc) → IsAlong before rest vs w → Ready mid → AreHeld mid.documents before → ArePending mid.documents vs → Quiet mid.repo.faults new.repo.faults → Found new result

  visited_done : (before rest : List RoleDoc) (v : Visit) (vs : List Visit) (w : Walk) (step : Step) (old mid new : State) (result : Result (List Visit) Error) → IsAlong before rest (v ∷ vs) w → Ready old → AreHeld old.documents before
      → ArePending old.documents (v ∷ vs) → Quiet old.repo.faults new.repo.faults → Readies session v w old mid (Ok tt) → visit_of (tree_in mid.documents (content_of o.snap) path) v w ≡ Ok step → Since mid.repo new.repo
      → GoesOn (pending_after v step vs) step.walk mid new result → Found new result
  visited_done before rest v vs w step old mid new result a b h p q r s since more = by_done (visit_ready before g.done' v w old mid (Ok tt) g.visits b h p.0 (quiet_first old.repo.faults mid.repo.faults new.repo.faults first.later since.later q) r)
    where
      g : IsGoing before v vs w
      g = gone before rest v vs w a

      first : Since old.repo mid.repo
      first = ready_since session v w old mid (Ok tt) r

      by_done : Done (Made v w g.done' mid) (Ok tt) → Found new result
      by_done (wanting h) = no_both tt tuf.NoMemory h
      by_done (done h m) =
          let same : g.step ≡ step = ok_same g.step step (sym (step_so before v vs w g mid m) ∙ s) in
          more g.done' g.rest' (subst (λ (x : Step). IsAlong g.done' g.rest' (pending_after v x vs) x.walk) same g.along) m.ready m.held
          (subst (λ (x : Step). ArePending mid.documents (pending_after v x vs)) same
          (next_pending mid.documents (content_of o.snap) path v w (documents_in chain.roles v.name) g.step vs g.cases m.read (pending_still old.documents mid.documents (ready_grows session v w old mid (Ok tt) r) vs p.1)))
          (quiet_second old.repo.faults mid.repo.faults new.repo.faults first.later since.later q)

  search_done : {vs : List Visit} {w : Walk} {old new : State} {result : Result Walk Error} → Searches session (content_of o.snap) path vs w old new result → GoesOn vs w old new (visits_in result)
  search_done (ended w state) before rest a b h p q =
      found_all (ap Ok (all_visited session.crypto (content_in {T = declared.Root} o.root) (content_of o.snap) session.now path session.config.max_delegations chain.roles before rest w a))
      (record { ready = b; held = subst (AreHeld state.documents) (all_done session.crypto (content_in {T = declared.Root} o.root) (content_of o.snap) session.now path session.config.max_delegations chain.roles before rest w a) h })
  search_done (short vs w state) before rest a b h p q = found_wanting refl
  search_done (unready v vs w old new e r) before rest a b h p q = unready_done before rest v vs w old new e a b h p q r
  search_done (gapped v vs w old new e r g) before rest a b h p q = gapped_done before rest v vs w old new e a b h p q r g
  search_done (visited v vs w step old mid new result r s more) before rest a b h p q = visited_done before rest v vs w step old mid new (visits_in result) a b h p q r s (searches_since more) (search_done more)

  pub finds_done : (old new : State) (result : Result (List Visit) Error) → Ready old → Quiet old.repo.faults new.repo.faults → FindsVisits session path old new result → Found new result
  finds_done old new result b q (unserved e h same is) = by_want (is_want e)
    where
      by_want : (e ≡ tuf.NoMemory) ⊎ (e ≢ tuf.NoMemory) → Found new result
      by_want (inl n) = found_wanting (is ∙ ap Err n)
      by_want (inr n) = no_both tt e (sym (serves old.documents b.snapped.timed.behind.root b.snapped.timed.time b.snapped.snap b.top) ∙ h n)
  finds_done old new result b q (searched snap answer ok there s is) =
      by_found (search_done (subst (λ (x : Held Snapshot). Searches session (content_of x) path (first_visit ∷ []) (first_walk session.config.max_delegations) old new answer) same s) [] chain.roles begun b tt ((λ other. let never : true ≡ false = other in cc), tt) q)
    where
      same : snap ≡ o.snap
      same = some_same snap o.snap (sym there ∙ b.snapped.snap)

      begun : IsAlong [] chain.roles (first_visit ∷ []) (first_walk session.config.max_delegations)
      begun = begins session.crypto (content_in {T = declared.Root} o.root) (content_of o.snap) session.now path session.config.max_delegations chain.roles o.order_is

      by_found : Found new (visits_in answer) → Found new result
      by_found (found_wanting h) = found_wanting (is ∙ h)
      by_found (found_all h e) = found_all (is ∙ h) e
