-- The refusal of a visit, or of its document, has its cause, behind visits that were judged well.
use Rattle.std.proofs.Common.{◌≡◌, ◌≢◌, ◌⊎◌, inl, inr, ℕ, ◌+◌, ◌-◌, ◌==◌, ◌&&◌, not, List, [], ◌∷◌, ◌++◌, map, length, Bool, true, false, cond, if◌then◌else◌, Option, Some, None, Result, Ok, Err, bytes_eq, codes, refl, sym, ap, ap₂, ◌∙◌, subst, arith}
use Rattle.std.specs.Prelude.{⊤, ok_or, option_map, option_and_then}
use Rattle.std.specs.List.{AllByRecursion}
use Rattle.std.specs.Ordering.{is_eq}
use Rattle.std.proofs.lemmas.Slice.Eq.{bytes_eq-Decides}
use Rattle.std.proofs.lemmas.Map.Text.{is_eq-slice_cmp}
use Rattle.jiff_core.specs.declared.timestamp.Timestamp as jiff
use Rattle.foundation.specs.Results.{step_ok, ok_same, err_same, no_both, refused_at, and_true}
use Rattle.foundation.specs.Steps.{◌>>=◌}
use Rattle.sigstore_types_parts.specs.Entries.{at_name, text_cmp}
use Rattle.sigstore_keys.specs.Crypto.{Crypto}
use Rattle.sigstore_tuf_text.specs.declared.error.Error.{Error}
use Rattle.sigstore_tuf_text.specs.declared.error.Error.TheVariants as tuf
use Rattle.sigstore_tuf_text.specs.declared.error.Rule.TheVariants as rule
use Rattle.sigstore_tuf_text.specs.Names.{pin_name}
use Rattle.sigstore_tuf_parts.specs.declared.root.Root as declared
use Rattle.sigstore_tuf_parts.specs.declared.snapshot.Snapshot.{Snapshot}
use Rattle.sigstore_tuf_parts.specs.declared.targets.TargetFile.{TargetFile}
use Rattle.sigstore_tuf_parts.specs.declared.targets.Targets.{Targets}
use Rattle.sigstore_tuf_parts.specs.declared.timestamp.MetaFile.{MetaFile}
use Rattle.sigstore_tuf_parts.specs.Document.{Document, content_in}
use Rattle.sigstore_tuf_parts.specs.Integrity.{integrity_of, version_of}
use Rattle.sigstore_tuf_parts.specs.Pinned.{Fresh}
use Rattle.sigstore_tuf_parts.specs.Threshold.{is_among}
use Rattle.sigstore_tuf_parts.proofs.IntegrityLaws.{fresh_exactly}
use Rattle.sigstore_tuf_parts.proofs.PinCauses.{integrity_cause, expiry_cause}
use Rattle.sigstore_tuf_parts.proofs.RoleCauses.{meets_cause}
use Rattle.sigstore_tuf_outside.proofs.Files.{at_insert, inserted}
use Rattle.sigstore_tuf_rules.specs.declared.chain.RoleDoc.{RoleDoc}
use Rattle.sigstore_tuf_rules.specs.declared.documents.Held.{Held}
use Rattle.sigstore_tuf_rules.specs.declared.documents.InForce.{InForce}
use Rattle.sigstore_tuf_rules.specs.declared.visit.Next.{Next}
use Rattle.sigstore_tuf_rules.specs.declared.visit.Visit.{Visit}
use Rattle.sigstore_tuf_rules.specs.Delegated.{not_top_level_of, delegation_of, meets_delegation_of, role_pin_of, role_checks_of, role_document_of, update_role_of}
use Rattle.sigstore_tuf_rules.specs.Documents.{targets_document, content_of, targets_pin}
use Rattle.sigstore_tuf_rules.specs.Names.{role_pin_in}
use Rattle.sigstore_tuf_rules.specs.Order.{Gap, by, is_top_level, matching, delegated_in, put_before, unread_of, first_visit}
use Rattle.sigstore_tuf_rules.specs.Trusted.{visit_in, RoleAuthority, authority_in}
use Rattle.sigstore_tuf_rules.specs.Update.{fresh_at_of, targets_pin_of, update_targets_of}
use Rattle.sigstore_tuf_rules.proofs.RolePuts.{not_top}
use Rattle.sigstore_tuf_rules.proofs.Stepping.{among_append, among_last}
use Rattle.sigstore_tuf_rules.proofs.Updates.{ok_some}
use Rattle.sigstore_tuf_runs.specs.Cause.{TargetsRefusal}
use Rattle.sigstore_tuf_runs.specs.SearchCause.{RoleRefusal, role_differs, role_unread, role_version, role_unmet, role_expired}
use Rattle.sigstore_tuf_causes.proofs.Followed.{each_map, IsNamed, matching_named, named_delegation}
use Rattle.sigstore_tuf_causes.proofs.Refusals.{missing, targets_reads, another_version, targets_refusal}
use Rattle.sigstore_tuf_causes.proofs.RoleRefusals.{some_pin}
use Rattle.trust_archive.specs.declared.error.ArchiveError.{ArchiveError}
use Rattle.trust_archive.specs.declared.error.ArchiveError.TheVariants as archive
use Rattle.trust_archive.specs.Cause.{DocumentCause, of_targets, of_role, malformed}
use Rattle.trust_archive.specs.Judgement.{at_role, Going, next_of, is_pinned_in, is_there, is_visit, is_due, due_of, adopted_of, document_in, listed_in, delegated_by, or_malformed, followed_of, having_read, read_of, made_of, counting, visited_of, entry_of, roles_of, begun}
use Rattle.trust_archive.proofs.Adopting.{Adopted, adopted_sound}
use Rattle.trust_archive.proofs.Limited.{Comes}
use Rattle.trust_archive.proofs.Sound.{some_of, role_was_ok, matched, unless, when, same_visit}
use Rattle.trust_archive.proofs.Walking.{is_unread, unread_all}

at_role_err : {A : Type 0} (position : ℕ) (r : Result A Error) (e : ArchiveError) → at_role position r ≡ Err e → (fault : Error) × (r ≡ Err fault) × (e ≡ archive.Role position fault)
at_role_err position (Ok x) e h = cc
at_role_err position (Err f) e h = (f, refl, sym (err_same (archive.Role position f) e h))

malformed_err : (r : Result Next Gap) (fault : Error) → or_malformed r ≡ Err fault → (gap : Gap) × (r ≡ Err gap) × (fault ≡ tuf.Malformed rule.Pattern)
malformed_err (Ok next) fault h = cc
malformed_err (Err gap) fault h = (gap, refl, sym (err_same (tuf.Malformed rule.Pattern) fault h))

module _ (crypto : Crypto) (now : jiff.Timestamp) (path : List ℕ) where
  -- ---- what parts the list and the search, and what is refused

  pub data Parts (rest : List RoleDoc) (g : Going) : Type 0 where
    other_visit : (r : RoleDoc) (later : List RoleDoc) (v : Visit) (vs : List Visit) → rest ≡ r ∷ later → next_of g ≡ Some (v, vs) → visit_in r ≢ v → Parts rest g
    none_next : (r : RoleDoc) (later : List RoleDoc) → rest ≡ r ∷ later → next_of g ≡ None → Parts rest g
    no_document : (r : RoleDoc) (later : List RoleDoc) → rest ≡ r ∷ later → r.bytes ≡ None → is_pinned_in g.set r.name ≡ true → Parts rest g
    not_pinned : (r : RoleDoc) (later : List RoleDoc) (bytes : List ℕ) → rest ≡ r ∷ later → r.bytes ≡ Some bytes → is_pinned_in g.set r.name ≡ false → Parts rest g
    lists_none : rest ≡ [] → entry_of path g ≡ None → Parts rest g

  pub record RoleFault (rest : List RoleDoc) (g : Going) (fault : Error) : Type 0 where
    pub role : RoleDoc
    pub later : List RoleDoc
    pub rest_is : rest ≡ role ∷ later
    pub behind : List Visit
    pub next : next_of g ≡ Some (visit_in role, behind)
    pub bytes : List ℕ
    pub there : role.bytes ≡ Some bytes
    pub pinned : is_pinned_in g.set role.name ≡ true
    pub cause : DocumentCause crypto now path g.set (visit_in role) bytes fault

  -- ---- what is pending has its delegation

  abbrev IsDelegated : InForce → Visit → Type 0
  IsDelegated set v = (v ≡ first_visit) ⊎ ((authority : RoleAuthority) × (delegation_of set v ≡ Ok authority))

  pub record Ready (g : Going) : Type 0 where
    pub snap : Held Snapshot
    pub snap_is : g.set.snapshot ≡ Some snap
    pub snap_fresh : Fresh (content_of snap).expires now
    pub were_read : (q : List ℕ) (h : Held Targets) → at_name q g.set.targets ≡ Some h → is_among g.read q ≡ true
    pub delegated : AllByRecursion (IsDelegated g.set) g.pending

  -- a delegation stays, where the documents that are in force do
  still_delegated : (old new : InForce) (v : Visit) → ((h : Held Targets) → at_name v.delegator old.targets ≡ Some h → at_name v.delegator new.targets ≡ Some h) → IsDelegated old v → IsDelegated new v
  unfolding delegation_of
  still_delegated old new v stays (inl is) = inl is
  still_delegated old new v stays (inr (authority, h)) =
      let t = step_ok (not_top_level_of v.name) _ authority h in
      let d = step_ok (ok_or (at_name v.delegator old.targets) (tuf.UnknownRole v.delegator)) _ authority t.2 in
      let there = ok_some (at_name v.delegator old.targets) (tuf.UnknownRole v.delegator) d.0 d.1 in
      inr (
        authority,
        ap (λ o. not_top_level_of v.name >>= λ x. (ok_or o (tuf.UnknownRole v.delegator) >>= λ (delegator : Held Targets). (ok_or (content_of delegator).delegations (tuf.Malformed rule.NoDelegations) >>= λ ds. ok_or (authority_in v.name ds) (tuf.UnknownRole v.name))))
            (stays d.0 there ∙ sym there) ∙ h,
      )

  both_all : {A : Type 0} (P : A → Type 0) (xs ys : List A) → AllByRecursion P xs → AllByRecursion P ys → AllByRecursion P (xs ++ ys)
  both_all P [] ys p q = q
  both_all P (x ∷ xs) ys p q = (p.0, both_all P xs ys p.1 q)

  unless_ended : (P : Visit → Type 0) (ends : Bool) (vs : List Visit) → AllByRecursion P vs → AllByRecursion P (if ends then [] else vs)
  unless_ended P true vs p = tt
  unless_ended P false vs p = p

  names_delegated : (set : InForce) (name : List ℕ) (held : Held Targets) → at_name name set.targets ≡ Some held → (names : List (List ℕ)) → AllByRecursion (IsNamed (delegated_in (content_of held).delegations)) names
      → AllByRecursion (IsDelegated set) (map (by name) names)
  names_delegated set name held at [] all = tt
  names_delegated set name held at (n ∷ names) all = (inr (named_delegation set name n held at all.0), names_delegated set name held at names all.1)

  -- ---- a visit that is judged well

  record Next' (g : Going) (v : Visit) (vs : List Visit) : Type 0 where
    some_left : (g.left == 0) ≡ false
    first : unread_of g.read g.pending ≡ Some (v, vs)

  next_was : (g : Going) (v : Visit) (vs : List Visit) → next_of g ≡ Some (v, vs) → Next' g v vs
  next_was g v vs h = let u = unless (g.left == 0) (unread_of g.read g.pending) (v, vs) h in record { some_left = u.0; first = u.1 }

  module _ (g : Going) (ready : Ready g) (v : Visit) (vs : List Visit) (n : Next' g v vs) where
    pending_now : IsDelegated g.set v × AllByRecursion (IsDelegated g.set) vs
    pending_now = unread_all (IsDelegated g.set) g.read g.pending v vs n.first ready.delegated

    adopted : (bytes : List ℕ) (set : InForce) → adopted_of crypto now g.set v bytes ≡ Ok set → Adopted crypto now g.set (content_in {T = declared.Root} g.set.root) refl ready.snap ready.snap_is (document_in g.set) v bytes set
    adopted bytes set h =
        adopted_sound crypto now g.set (content_in {T = declared.Root} g.set.root) refl ready.snap ready.snap_is (document_in g.set) v bytes set (λ x at. ap (option_map content_of) at) h

    module _ (bytes : List ℕ) (set : InForce) (a : Adopted crypto now g.set (content_in {T = declared.Root} g.set.root) refl ready.snap ready.snap_is (document_in g.set) v bytes set) where
      abbrev held : Held Targets
      held = record { bytes = bytes; document = a.trusted.doc }

      here_now : at_name v.name set.targets ≡ Some held
      here_now =
          ap (λ (s : InForce). at_name v.name s.targets) a.new_is ∙ at_insert v.name v.name held g.set.targets
          ∙ ap (λ b. cond b (Some held) (at_name v.name g.set.targets)) (is_eq-slice_cmp v.name v.name ∙ (bytes_eq-Decides v.name v.name).1 refl)

      -- it has another name than those that were in force
      stays_there : (q : List ℕ) (h : Held Targets) → at_name q g.set.targets ≡ Some h → at_name q set.targets ≡ Some h
      stays_there q h at = ap (λ (s : InForce). at_name q s.targets) a.new_is ∙ at_insert q v.name held g.set.targets ∙ by_test (is_eq (text_cmp q v.name)) refl
        where
          by_test : (b : Bool) → is_eq (text_cmp q v.name) ≡ b → cond b (Some held) (at_name q g.set.targets) ≡ Some h
          by_test true e =
              let same : q ≡ v.name = (bytes_eq-Decides q v.name).0 (sym (is_eq-slice_cmp q v.name) ∙ e) in
              let never : true ≡ false = sym (ready.were_read q h at) ∙ ap (is_among g.read) same ∙ is_unread g.read g.pending v vs n.first in cc
          by_test false e = at

      delegated_still : AllByRecursion (IsDelegated set) vs
      delegated_still = each_map (IsDelegated g.set) (IsDelegated set) vs (λ x d. still_delegated g.set set x (stays_there x.delegator) d) pending_now.1

      were : (q : List ℕ) (h : Held Targets) → at_name q set.targets ≡ Some h → is_among (g.read ++ v.name ∷ []) q ≡ true
      were q h at = by_place (inserted q v.name held h g.set.targets (sym (ap (λ (s : InForce). at_name q s.targets) a.new_is) ∙ at))
        where
          by_place : ((q ≡ v.name) × (h ≡ held)) ⊎ (at_name q g.set.targets ≡ Some h) → is_among (g.read ++ v.name ∷ []) q ≡ true
          by_place (inl is) = ap (is_among (g.read ++ v.name ∷ [])) is.0 ∙ among_last g.read v.name
          by_place (inr at) = among_append g.read v.name q (ready.were_read q h at)

      ready_after : (pending : List Visit) (left : ℕ) → AllByRecursion (IsDelegated set) pending → Ready (record { set = set; pending = pending; read = g.read ++ v.name ∷ []; left = left })
      ready_after pending left d = record {
        snap = ready.snap;
        snap_is = ap (λ (s : InForce). s.snapshot) a.new_is ∙ ready.snap_is;
        snap_fresh = ready.snap_fresh;
        were_read = were;
        delegated = d;
      }

      next_delegated : (next : Next) → matching path (delegated_by (document_in set v.name)) ≡ Ok next → AllByRecursion (IsDelegated set) (put_before v.name next vs)
      next_delegated next m =
          both_all (IsDelegated set) (map (by v.name) next.names) (if next.ends then [] else vs)
          (names_delegated set v.name held here_now next.names
          (matching_named path (delegated_in (content_of held).delegations) next (sym (ap (λ o. matching path (delegated_by (option_map content_of o))) here_now) ∙ m)))
          (unless_ended (IsDelegated set) next.ends vs delegated_still)

    read_ready : (position : ℕ) (bytes : List ℕ) (h : Going) → read_of crypto now path position v (counting vs g) bytes ≡ Ok h → Ready h
    unfolding read_of
    read_ready position bytes h e = by_entry (listed_in s.0 path v.name) s.2
      where
        s : (x : InForce) × (at_role position (adopted_of crypto now g.set v bytes) ≡ Ok x) × (followed_of path position v (having_read x v.name (counting vs g)) (listed_in x path v.name) ≡ Ok h)
        s = step_ok (at_role position (adopted_of crypto now g.set v bytes)) (λ x. followed_of path position v (having_read x v.name (counting vs g)) (listed_in x path v.name)) h e

        a : Adopted crypto now g.set (content_in {T = declared.Root} g.set.root) refl ready.snap ready.snap_is (document_in g.set) v bytes s.0
        a = adopted bytes s.0 (role_was_ok position (adopted_of crypto now g.set v bytes) s.0 s.1)

        by_entry : (o : Option TargetFile) → followed_of path position v (having_read s.0 v.name (counting vs g)) o ≡ Ok h → Ready h
        by_entry (Some entry) k = subst Ready (ok_same _ h k) (ready_after bytes s.0 a vs 0 (delegated_still bytes s.0 a))
        by_entry None k =
            let m = step_ok (at_role position (or_malformed (matching path (delegated_by (document_in s.0 v.name))))) (λ next. Ok (record (having_read s.0 v.name (counting vs g)) { pending = put_before v.name next vs })) h k in
            let found = matched (matching path (delegated_by (document_in s.0 v.name))) m.0 (role_was_ok position (or_malformed (matching path (delegated_by (document_in s.0 v.name)))) m.0 m.1) in
            subst Ready (ok_same _ h m.2) (ready_after bytes s.0 a (put_before v.name m.0 vs) (g.left - 1) (next_delegated bytes s.0 a m.0 found))

    made_ready : (position : ℕ) (o : Option (List ℕ)) (h : Going) → made_of crypto now path position v (counting vs g) o ≡ Ok h → Ready h
    made_ready position None h e =
        subst Ready (ok_same (counting vs g) h e) (record { snap = ready.snap; snap_is = ready.snap_is; snap_fresh = ready.snap_fresh; were_read = ready.were_read; delegated = pending_now.1 })
    made_ready position (Some bytes) h e = read_ready position bytes h e

    -- ---- a document that is refused

    module _ (bytes : List ℕ) (fault : Error) where
      role_unchecked : (authority : RoleAuthority) → delegation_of g.set v ≡ Ok authority → (pin : MetaFile) → role_pin_in g.set v.name ≡ Some pin → (doc : Document Targets) → targets_document bytes ≡ Ok doc
          → role_checks_of crypto authority pin v.name doc (Some now) ≡ Err fault → RoleRefusal crypto g.set now v bytes fault
      unfolding role_checks_of
      role_unchecked authority d pin p doc read h =
          refused_at (version_of pin (content_in {T = Targets} doc).version) _ fault h (λ q. role_version pin doc p read (another_version pin (content_in {T = Targets} doc).version fault q)) (λ u q k.
          refused_at (meets_delegation_of crypto authority v.name doc) _ fault k (λ q. role_unmet authority doc d read (meets_cause crypto authority.keys authority.role v.name doc fault q)) (λ u q l.
          role_expired doc read (expiry_cause v.name (content_in {T = Targets} doc).expires now fault l)))

      document_refused : (authority : RoleAuthority) → delegation_of g.set v ≡ Ok authority → (pin : MetaFile) → role_pin_in g.set v.name ≡ Some pin → role_document_of crypto authority pin v.name bytes (Some now) ≡ Err fault
          → RoleRefusal crypto g.set now v bytes fault
      unfolding role_document_of
      document_refused authority d pin p h =
          refused_at (integrity_of pin.length pin.hashes bytes) _ fault h (λ q. role_differs pin p (integrity_cause pin.length pin.hashes bytes fault q)) (λ u q k.
          refused_at (targets_document bytes) _ fault k (λ q. role_unread (targets_reads bytes fault q)) (λ doc q l.
          refused_at (role_checks_of crypto authority pin v.name doc (Some now)) _ fault l (λ r. role_unchecked authority d pin p doc q r) (λ u r m. cc)))

      fresh_snap : fresh_at_of (codes "snapshot") (content_of ready.snap).expires (Some now) ≡ Ok tt
      fresh_snap = (fresh_exactly (codes "snapshot") (content_of ready.snap).expires now).1 ready.snap_fresh

      pin_there : (pin : MetaFile) → role_pin_in g.set v.name ≡ Some pin → at_name (pin_name v.name) (content_of ready.snap).meta ≡ Some pin
      pin_there pin p = sym (ap (option_and_then (λ (x : Held Snapshot). at_name (pin_name v.name) (content_of x).meta)) ready.snap_is) ∙ p

      role_pin_so : (pin : MetaFile) → role_pin_in g.set v.name ≡ Some pin → role_pin_of g.set v.name (Some now) ≡ Ok pin
      unfolding role_pin_of
      role_pin_so pin p = rw (ready.snap_is, fresh_snap, pin_there pin p) refl

      role_refused : (authority : RoleAuthority) → delegation_of g.set v ≡ Ok authority → (pin : MetaFile) → role_pin_in g.set v.name ≡ Some pin → update_role_of crypto g.set v bytes (Some now) ≡ Err fault
          → RoleRefusal crypto g.set now v bytes fault
      unfolding update_role_of
      role_refused authority d pin p h =
          refused_at (delegation_of g.set v) _ fault h (λ q. no_both authority fault (sym d ∙ q)) (λ other q k.
          refused_at (role_pin_of g.set v.name (Some now)) _ fault k (λ r. no_both pin fault (sym (role_pin_so pin p) ∙ r)) (λ its r l.
          let same : pin ≡ its = ok_same pin its (sym (role_pin_so pin p) ∙ r) in
          refused_at (role_document_of crypto other its v.name bytes (Some now)) _ fault l (λ s. document_refused other q its (p ∙ ap Some same) s) (λ doc s m. cc)))

      targets_pin_so : v.name ≡ codes "targets" → (pin : MetaFile) → role_pin_in g.set v.name ≡ Some pin → targets_pin_of g.set (Some now) ≡ Ok pin
      unfolding targets_pin_of
      targets_pin_so name pin p = let at : targets_pin (content_of ready.snap) ≡ Some pin = ap (λ q. at_name (pin_name q) (content_of ready.snap).meta) (sym name) ∙ pin_there pin p in rw (ready.snap_is, fresh_snap, at) refl

      top_refused : v.name ≡ codes "targets" → (pin : MetaFile) → role_pin_in g.set v.name ≡ Some pin → update_targets_of crypto g.set bytes (Some now) ≡ Err fault → TargetsRefusal crypto g.set now bytes fault
      top_refused name pin p h =
          targets_refusal crypto g.set bytes now fault pin (targets_pin_so name pin p) (ready.snap, ready.snap_is, ap (λ q. at_name (pin_name q) (content_of ready.snap).meta) (sym name) ∙ pin_there pin p) h

      adopted_refused : is_pinned_in g.set v.name ≡ true → adopted_of crypto now g.set v bytes ≡ Err fault → DocumentCause crypto now path g.set v bytes fault
      adopted_refused pinned h = by_due pending_now.0
        where
          p : (pin : MetaFile) × (role_pin_in g.set v.name ≡ Some pin)
          p = some_pin (role_pin_in g.set v.name) pinned

          by_due : IsDelegated g.set v → DocumentCause crypto now path g.set v bytes fault
          by_due (inl is) =
              let name : v.name ≡ codes "targets" = ap (λ (x : Visit). x.name) is in
              of_targets name
              (top_refused name p.0 p.1 (sym (ap (λ b. if b then update_targets_of crypto g.set bytes (Some now) else update_role_of crypto g.set v bytes (Some now)) ((bytes_eq-Decides v.name (codes "targets")).1 name)) ∙ h))
          by_due (inr (authority, d)) = by_name (bytes_eq v.name (codes "targets")) refl h
            where
              by_name : (b : Bool) → bytes_eq v.name (codes "targets") ≡ b → (if b then update_targets_of crypto g.set bytes (Some now) else update_role_of crypto g.set v bytes (Some now)) ≡ Err fault → DocumentCause crypto now path g.set v bytes fault
              by_name true e h =
                  let never : true ≡ false = ap is_top_level (sym ((bytes_eq-Decides v.name (codes "targets")).0 e)) ∙ not_top g.set v authority d in cc
              by_name false e h =
                  of_role (λ same. let never : true ≡ false = sym ((bytes_eq-Decides v.name (codes "targets")).1 same) ∙ e in cc) (role_refused authority d p.0 p.1 h)

    read_refused : (position : ℕ) (bytes : List ℕ) (e : ArchiveError) → is_pinned_in g.set v.name ≡ true → read_of crypto now path position v (counting vs g) bytes ≡ Err e
        → (fault : Error) × (e ≡ archive.Role position fault) × DocumentCause crypto now path g.set v bytes fault
    unfolding read_of
    read_refused position bytes e pinned h =
        refused_at (at_role position (adopted_of crypto now g.set v bytes)) (λ x. followed_of path position v (having_read x v.name (counting vs g)) (listed_in x path v.name)) e h
        (λ p. let f = at_role_err position (adopted_of crypto now g.set v bytes) e p in (f.0, f.2, adopted_refused bytes f.0 pinned f.1)) (λ set p k. by_entry set (adopted bytes set (role_was_ok position (adopted_of crypto now g.set v bytes) set p)) (listed_in set path v.name) refl k)
      where
        by_entry : (set : InForce) → Adopted crypto now g.set (content_in {T = declared.Root} g.set.root) refl ready.snap ready.snap_is (document_in g.set) v bytes set → (o : Option TargetFile) → listed_in set path v.name ≡ o
            → followed_of path position v (having_read set v.name (counting vs g)) o ≡ Err e → (fault : Error) × (e ≡ archive.Role position fault) × DocumentCause crypto now path g.set v bytes fault
        by_entry set a (Some entry) at k = cc
        by_entry set a None at k =
            let doc_is : document_in set v.name ≡ Some (content_in {T = Targets} a.trusted.doc) = ap (option_map content_of) (here_now bytes set a) in
            refused_at (at_role position (or_malformed (matching path (delegated_by (document_in set v.name))))) _ e k (λ p.
            let f = at_role_err position (or_malformed (matching path (delegated_by (document_in set v.name)))) e p in
            let m = malformed_err (matching path (delegated_by (document_in set v.name))) f.0 f.1 in (
              f.0,
              f.2,
              malformed ready.snap m.0 ready.snap_is a.trusted (sym (ap (option_and_then (λ (doc : Targets). at_name path doc.targets)) doc_is) ∙ at)
                  (sym (ap (λ o. matching path (delegated_by o)) doc_is) ∙ m.1) m.2,
            )) (λ next p l. cc)

  -- ---- a role that is refused

  pub data RoleRefused (position : ℕ) (rest : List RoleDoc) (g : Going) (e : ArchiveError) : Type 0 where
    parted : e ≡ archive.Order position → Parts rest g → RoleRefused position rest g e
    refused : (fault : Error) → e ≡ archive.Role position fault → RoleFault rest g fault → RoleRefused position rest g e

  not_that : (r : RoleDoc) (v : Visit) → is_visit r v ≡ false → visit_in r ≢ v
  not_that r v other is =
      let both : is_visit r v ≡ true = ap₂ (λ x y. x && y) ((bytes_eq-Decides r.name v.name).1 (ap (λ (x : Visit). x.name) is)) ((bytes_eq-Decides r.delegator v.delegator).1 (ap (λ (x : Visit). x.delegator) is)) in
      let never : true ≡ false = sym both ∙ other in cc

  not_due : (position : ℕ) (r : RoleDoc) (rest : List RoleDoc) (g : Going) (v : Visit) (vs : List Visit) (e : ArchiveError) → next_of g ≡ Some (v, vs) → due_of position g.set v r ≡ Err e → RoleRefused position (r ∷ rest) g e
  not_due position r rest g v vs e next h = by_due (is_due g.set v r) refl h
    where
      by_bytes : (o : Option (List ℕ)) → r.bytes ≡ o → visit_in r ≡ v → is_there o (is_pinned_in g.set v.name) ≡ false → Parts (r ∷ rest) g
      by_bytes None there is h = no_document r rest refl there (ap (λ (x : Visit). is_pinned_in g.set x.name) is ∙ not_false (is_pinned_in g.set v.name) h)
        where
          not_false : (b : Bool) → not b ≡ false → b ≡ true
          not_false true h = refl
          not_false false h = cc
      by_bytes (Some bytes) there is h = not_pinned r rest bytes refl there (ap (λ (x : Visit). is_pinned_in g.set x.name) is ∙ h)

      by_visit : (b : Bool) → is_visit r v ≡ b → (b && is_there r.bytes (is_pinned_in g.set v.name)) ≡ false → Parts (r ∷ rest) g
      by_visit true is h = by_bytes r.bytes refl (same_visit r v is) h
      by_visit false is h = other_visit r rest v vs refl next (not_that r v is)

      by_due : (b : Bool) → is_due g.set v r ≡ b → ◌≡◌ {A = Result ⊤ ArchiveError} (if b then Ok tt else Err (archive.Order position)) (Err e) → RoleRefused position (r ∷ rest) g e
      by_due true is h = cc
      by_due false is h = parted (sym (err_same (archive.Order position) e h)) (by_visit (is_visit r v) refl is)

  made_refused : (position : ℕ) (r : RoleDoc) (rest : List RoleDoc) (g : Going) (ready : Ready g) (v : Visit) (vs : List Visit) (e : ArchiveError) → next_of g ≡ Some (v, vs) → is_due g.set v r ≡ true
      → made_of crypto now path position v (counting vs g) r.bytes ≡ Err e → RoleRefused position (r ∷ rest) g e
  made_refused position r rest g ready v vs e next due h = by_bytes r.bytes refl both.1 h
    where
      both : (is_visit r v ≡ true) × (is_there r.bytes (is_pinned_in g.set v.name) ≡ true)
      both = and_true (is_visit r v) (is_there r.bytes (is_pinned_in g.set v.name)) due

      is : visit_in r ≡ v
      is = same_visit r v both.0

      by_bytes : (o : Option (List ℕ)) → r.bytes ≡ o → is_there o (is_pinned_in g.set v.name) ≡ true → made_of crypto now path position v (counting vs g) o ≡ Err e → RoleRefused position (r ∷ rest) g e
      by_bytes None there pinned h = cc
      by_bytes (Some bytes) there pinned h =
          let f = read_refused g ready v vs (next_was g v vs next) position bytes e pinned h in
          refused f.0 f.1
          (record { role = r; later = rest; rest_is = refl; behind = vs; next = next ∙ ap (λ x. Some (x, vs)) (sym is); bytes = bytes; there = there; pinned = ap (λ (x : Visit). is_pinned_in g.set x.name) is ∙ pinned; cause = subst (λ x. DocumentCause crypto now path g.set x bytes f.0) (sym is) f.2 })

  role_refused_at : (position : ℕ) (r : RoleDoc) (rest : List RoleDoc) (g : Going) (e : ArchiveError) → Ready g → visited_of crypto now path position r g ≡ Err e → RoleRefused position (r ∷ rest) g e
  unfolding visited_of
  role_refused_at position r rest g e ready h =
      refused_at (ok_or (next_of g) (archive.Order position)) (λ next. due_of position g.set next.0 r >>= λ _. made_of crypto now path position next.0 (counting next.1 g) r.bytes) e h
      (λ p. missing (next_of g) (archive.Order position) e p (λ none is. parted is (none_next r rest refl none))) (λ next p k.
      let at = some_of (next_of g) (archive.Order position) next p in
      refused_at (due_of position g.set next.0 r) (λ _. made_of crypto now path position next.0 (counting next.1 g) r.bytes) e k (λ q. not_due position r rest g next.0 next.1 e at q)
      (λ x q l. made_refused position r rest g ready next.0 next.1 e at (was_due position g.set next.0 r x q) l))
    where
      was_due : (position : ℕ) (set : InForce) (v : Visit) (r : RoleDoc) (x : ⊤) → due_of position set v r ≡ Ok x → is_due set v r ≡ true
      was_due position set v r x q = when (is_due set v r) (archive.Order position) q

  visited_ready : (position : ℕ) (r : RoleDoc) (g h : Going) → Ready g → visited_of crypto now path position r g ≡ Ok h → Ready h
  unfolding visited_of
  visited_ready position r g h ready e =
      let n = step_ok (ok_or (next_of g) (archive.Order position)) (λ next. due_of position g.set next.0 r >>= λ _. made_of crypto now path position next.0 (counting next.1 g) r.bytes) h e in
      let d = step_ok (due_of position g.set n.0.0 r) (λ _. made_of crypto now path position n.0.0 (counting n.0.1 g) r.bytes) h n.2 in
      made_ready g ready n.0.0 n.0.1 (next_was g n.0.0 n.0.1 (some_of (next_of g) (archive.Order position) n.0 n.1)) position r.bytes h d.2

  -- ---- the whole list

  pub data RolesRefused (from : ℕ) (roles : List RoleDoc) (g : Going) (e : ArchiveError) : Type 0 where
    order_refused : (before rest : List RoleDoc) (k : Going) → e ≡ archive.Order (from + length before) → roles ≡ before ++ rest → Comes crypto now path from before g k → Parts rest k → RolesRefused from roles g e
    role_refused' : (before rest : List RoleDoc) (k : Going) (fault : Error) → e ≡ archive.Role (from + length before) fault → roles ≡ before ++ rest → Comes crypto now path from before g k → RoleFault rest k fault → RolesRefused from roles g e

  at_once : (from : ℕ) → from ≡ from + length {A = RoleDoc} []
  at_once from = omega arith

  one_more : (from : ℕ) (r : RoleDoc) (before : List RoleDoc) → from + 1 + length before ≡ from + length (r ∷ before)
  one_more from r before = omega arith

  one_before : (from : ℕ) (r : RoleDoc) (roles : List RoleDoc) (g h : Going) (e : ArchiveError) → visited_of crypto now path from r g ≡ Ok h → RolesRefused (from + 1) roles h e → RolesRefused from (r ∷ roles) g e
  one_before from r roles g h e v (order_refused before rest k is whole c p) =
      order_refused (r ∷ before) rest k (is ∙ ap archive.Order (one_more from r before)) (ap (λ xs. r ∷ xs) whole) (h, v, c) p
  one_before from r roles g h e v (role_refused' before rest k fault is whole c p) =
      role_refused' (r ∷ before) rest k fault (is ∙ ap (λ n. archive.Role n fault) (one_more from r before)) (ap (λ xs. r ∷ xs) whole) (h, v, c) p

  pub roles_refused : (from : ℕ) (roles : List RoleDoc) (g : Going) (e : ArchiveError) → Ready g → roles_of crypto now path from roles g ≡ Err e → RolesRefused from roles g e
  roles_refused from [] g e ready h =
      missing (entry_of path g) (archive.Order from) e h (λ none is. order_refused [] [] g (is ∙ ap archive.Order (at_once from)) refl refl (lists_none refl none))
  roles_refused from (r ∷ roles) g e ready h =
      refused_at (visited_of crypto now path from r g) (λ x. roles_of crypto now path (from + 1) roles x) e h (λ p. by_role (role_refused_at from r roles g e ready p))
      (λ x p k. one_before from r roles g x e p (roles_refused (from + 1) roles x e (visited_ready from r g x ready p) k))
    where
      by_role : RoleRefused from (r ∷ roles) g e → RolesRefused from (r ∷ roles) g e
      by_role (parted is p) = order_refused [] (r ∷ roles) g (is ∙ ap archive.Order (at_once from)) refl refl p
      by_role (refused fault is f) = role_refused' [] (r ∷ roles) g fault (is ∙ ap (λ n. archive.Role n fault) (at_once from)) refl refl f

  pub ready_first : (set : InForce) (snap : Held Snapshot) (max : ℕ) → set.snapshot ≡ Some snap → Fresh (content_of snap).expires now → set.targets ≡ [] → Ready (begun set max)
  ready_first set snap max is fresh none = record {
    snap = snap;
    snap_is = is;
    snap_fresh = fresh;
    were_read = λ q h e. let never : None ≡ Some h = sym (ap (at_name q) none) ∙ e in cc;
    delegated = (inl refl, tt);
  }
