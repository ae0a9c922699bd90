-- What holds of a search on its way: of the visits that are due, of the names that were read, and of the visits that were made.
use Rattle.std.proofs.Common.{◌≡◌, ℕ, ◌==◌, ◌||◌, ◌&&◌, not, if◌then◌else◌, List, [], ◌∷◌, ◌++◌, map, Bool, true, false, cond, Option, Some, None, Result, Ok, Err, bytes_eq, codes, refl, sym, ap, ◌∙◌, subst}
use Rattle.std.specs.Prelude.{⊤, is_some, ok_or, option_map}
use Rattle.std.specs.List.{AllByRecursion}
use Rattle.std.proofs.lemmas.Slice.Eq.{bytes_eq-Decides}
use Rattle.std.proofs.lemmas.Map.Text.{is_eq-slice_cmp}
use Rattle.jiff_core.specs.declared.timestamp.Timestamp as jiff
use Rattle.foundation.specs.Results.{step_ok, ok_same, some_same, no_both}
use Rattle.sigstore_types_parts.specs.Entries.{at_name}
use Rattle.sigstore_keys.specs.Crypto.{Crypto}
use Rattle.sigstore_tuf_text.specs.declared.error.Error.{Error}
use Rattle.sigstore_tuf_text.specs.declared.error.Error.TheVariants as tuf
use Rattle.sigstore_tuf_parts.specs.declared.snapshot.Snapshot.{Snapshot}
use Rattle.sigstore_tuf_parts.specs.declared.targets.Targets.{Targets}
use Rattle.sigstore_tuf_parts.specs.declared.timestamp.MetaFile.{MetaFile}
use Rattle.sigstore_tuf_parts.specs.Document.{Document, content_in}
use Rattle.sigstore_tuf_parts.specs.Integrity.{version_of}
use Rattle.sigstore_tuf_parts.specs.Pinned.{Fresh}
use Rattle.sigstore_tuf_parts.specs.Threshold.{is_among}
use Rattle.sigstore_tuf_rules.specs.declared.documents.Held.{Held}
use Rattle.sigstore_tuf_rules.specs.declared.documents.InForce.{InForce}
use Rattle.sigstore_tuf_rules.specs.Documents.{content_of}
use Rattle.sigstore_tuf_rules.specs.Names.{role_pin_in}
use Rattle.sigstore_tuf_runs.specs.State.{Session, State}
use Rattle.sigstore_tuf_runs.specs.Run.{said}
use Rattle.sigstore_tuf_rules.specs.Taking.{taken_of}
use Rattle.sigstore_tuf_runs.specs.Adopt.{unfetched, absent, refused, kept, adopted}
use Rattle.sigstore_tuf_rules.specs.declared.visit.Visit.{Visit}
use Rattle.sigstore_tuf_rules.specs.declared.visit.Walk.{Walk}
use Rattle.sigstore_tuf_rules.specs.declared.visit.Next.{Next}
use Rattle.sigstore_tuf_rules.specs.Order.{Step, by, first_visit, is_top_level, is_pinned, ended as walk_ended, visited as one_more, having_read, put_before, pending_after, delegated_in}
use Rattle.sigstore_tuf_rules.specs.Trusted.{RoleAuthority}
use Rattle.sigstore_tuf_rules.specs.Delegated.{delegation_of, meets_delegation_of, role_serves_of, role_checks_of, role_pin_of, role_document_of, update_role_of, with_role}
use Rattle.sigstore_tuf_runs.specs.Search.{documents_of, AdoptsRole, visit_serves_of, reads, IsSnapshot, Readies, wanting, untouched, looked_at, had}
use Rattle.sigstore_tuf_outside.proofs.Files.{at_insert}
use Rattle.sigstore_tuf_rules.proofs.Updates.{ok_some, fresh_from}
use Rattle.sigstore_tuf_rules.proofs.RolePuts.{not_top, role_read, taken_some}
use Rattle.sigstore_tuf_runs.proofs.Searched.{pin_of}
use Rattle.sigstore_tuf_rules.proofs.Stepping.{among_append, among_last, among_either, is_over, StepOf, passed_over, unpinned, listing, followed}
use Rattle.sigstore_tuf_causes.proofs.Growing.{Grows, ready_grows}
use Rattle.sigstore_tuf_causes.proofs.Followed.{each_map, IsNamed, matching_named, named_delegation, delegation_grows}

-- ---- a role that was taken in

pub record RoleTaken (crypto : Crypto) (old : InForce) (v : Visit) (now : jiff.Timestamp) (new : InForce) : Type 0 where
  pub held : Held Targets
  pub authority : RoleAuthority
  pub delegated : delegation_of old v ≡ Ok authority
  pub met : meets_delegation_of crypto authority v.name held.document ≡ Ok tt
  pub fresh : Fresh (content_of held).expires now
  pub new_is : new ≡ with_role old v.name held

checked_both : (crypto : Crypto) (authority : RoleAuthority) (pin : MetaFile) (name : List ℕ) (doc : Document Targets) (now : jiff.Timestamp) → role_checks_of crypto authority pin name doc (Some now) ≡ Ok tt
    → (meets_delegation_of crypto authority name doc ≡ Ok tt) × Fresh (content_in doc).expires now
unfolding role_checks_of
checked_both crypto authority pin name doc now h =
    let v = step_ok (version_of pin (content_in doc).version) _ tt h in
    let m = step_ok (meets_delegation_of crypto authority name doc) _ tt v.2 in
    (m.1, fresh_from name (content_in doc).expires now m.2)

pub role_taken : (crypto : Crypto) (old : InForce) (v : Visit) (bytes : List ℕ) (now : jiff.Timestamp) (new : InForce) → update_role_of crypto old v bytes (Some now) ≡ Ok new → RoleTaken crypto old v now new
unfolding update_role_of
role_taken crypto old v bytes now new h =
    let a = step_ok (delegation_of old v) _ new h in
    let p = step_ok (role_pin_of old v.name (Some now)) _ new a.2 in
    let d = step_ok (role_document_of crypto a.0 p.0 v.name bytes (Some now)) _ new p.2 in
    let r = role_read crypto a.0 p.0 v.name bytes (Some now) d.0 d.1 in
    let c = checked_both crypto a.0 p.0 v.name d.0 now r.checked in
    record { held = record { bytes = bytes; document = d.0 }; authority = a.0; delegated = a.1; met = c.0; fresh = c.1; new_is = sym (ok_same _ new d.2) }

pub at_role : (old : InForce) (name : List ℕ) (x : Held Targets) → at_name name (with_role old name x).targets ≡ Some x
at_role old name x = at_insert name name x old.targets ∙ ap (λ b. cond b (Some x) (at_name name old.targets)) (is_eq-slice_cmp name name ∙ (bytes_eq-Decides name name).1 refl)

-- a role in force that was looked at again
pub record RoleServes (crypto : Crypto) (set : InForce) (v : Visit) (now : jiff.Timestamp) : Type 0 where
  pub held : Held Targets
  pub there : at_name v.name set.targets ≡ Some held
  pub authority : RoleAuthority
  pub delegated : delegation_of set v ≡ Ok authority
  pub met : meets_delegation_of crypto authority v.name held.document ≡ Ok tt
  pub fresh : Fresh (content_of held).expires now

role_serving : (crypto : Crypto) (set : InForce) (v : Visit) (now : jiff.Timestamp) → role_serves_of crypto set v now ≡ Ok tt → RoleServes crypto set v now
unfolding role_serves_of
role_serving crypto set v now h =
    let a = step_ok (delegation_of set v) _ tt h in
    let r = step_ok (ok_or (at_name v.name set.targets) (tuf.UnknownRole v.name)) _ tt a.2 in
    let m = step_ok (meets_delegation_of crypto a.0 v.name (r.0).document) _ tt r.2 in
    record { held = r.0; there = ok_some (at_name v.name set.targets) (tuf.UnknownRole v.name) r.0 r.1; authority = a.0; delegated = a.1; met = m.1; fresh = fresh_from v.name (content_of r.0).expires now m.2 }

-- a delegated role isn't `targets`
pub low_name : (set : InForce) (v : Visit) (authority : RoleAuthority) → delegation_of set v ≡ Ok authority → bytes_eq v.name (codes "targets") ≡ false
low_name set v authority h = by_test (bytes_eq v.name (codes "targets")) refl
  where
    by_test : (b : Bool) → bytes_eq v.name (codes "targets") ≡ b → b ≡ false
    by_test true e =
        let same : v.name ≡ codes "targets" = (bytes_eq-Decides v.name (codes "targets")).0 e in
        let never : true ≡ false = ap is_top_level (sym same) ∙ not_top set v authority h in cc
    by_test false e = refl

-- ---- on the way

names_append : (vs : List Visit) (v : Visit) → map (λ (u : Visit). u.name) (vs ++ v ∷ []) ≡ map (λ (u : Visit). u.name) vs ++ v.name ∷ []
names_append [] v = refl
names_append (u ∷ us) v = ap (λ ns. u.name ∷ ns) (names_append us v)

all_append : {A : Type 0} (P : A → Type 0) (xs : List A) (x : A) → AllByRecursion P xs → P x → AllByRecursion P (xs ++ x ∷ [])
all_append P [] x h p = (p, tt)
all_append P (y ∷ ys) x h p = (h.0, all_append P ys x h.1 p)

all_both : {A : Type 0} (P : A → Type 0) (xs ys : List A) → AllByRecursion P xs → AllByRecursion P ys → AllByRecursion P (xs ++ ys)
all_both P [] ys h k = k
all_both P (x ∷ xs) ys h k = (h.0, all_both P xs ys h.1 k)

-- a visit is the first, or of a role to which a document that was read delegates
pub data IsDue (set : InForce) (w : Walk) (v : Visit) : Type 0 where
  begins : v ≡ first_visit → IsDue set w v
  delegated : (authority : RoleAuthority) → delegation_of set v ≡ Ok authority → is_among w.read v.delegator ≡ true → IsDue set w v

-- a name that was read is that of a document in force, and was visited
pub record IsRead (set : InForce) (w : Walk) (name : List ℕ) : Type 0 where
  pub held : Held Targets
  pub there : at_name name set.targets ≡ Some held
  pub visited : is_among (map (λ (v : Visit). v.name) w.visits) name ≡ true

-- a visit that was made reads no document, or that of `targets`, or the document of a role that serves
pub data IsMade (session : Session) (snapshot : Snapshot) (set : InForce) (w : Walk) (v : Visit) : Type 0 where
  reads_none : is_pinned snapshot v.name ≡ false → IsMade session snapshot set w v
  reads_top : (held : Held Targets) → v ≡ first_visit → at_name (codes "targets") set.targets ≡ Some held → IsMade session snapshot set w v
  reads_role : is_among w.read v.delegator ≡ true → RoleServes session.crypto set v session.now → IsMade session snapshot set w v

-- no name or visit is lost
pub record Goes (old new : Walk) : Type 0 where
  pub read : (name : List ℕ) → is_among old.read name ≡ true → is_among new.read name ≡ true
  pub visited : (name : List ℕ) → is_among (map (λ (v : Visit). v.name) old.visits) name ≡ true → is_among (map (λ (v : Visit). v.name) new.visits) name ≡ true

due_grows : {a b : InForce} {w u : Walk} {v : Visit} → Grows a b → Goes w u → IsDue a w v → IsDue b u v
due_grows g m (begins is) = begins is
due_grows {a} {b} {w} {u} {v} g m (delegated authority d r) = delegated authority (delegation_grows a b v authority g d) (m.read v.delegator r)

read_grows : {a b : InForce} {w u : Walk} {name : List ℕ} → Grows a b → Goes w u → IsRead a w name → IsRead b u name
read_grows {a} {b} {w} {u} {name} g m r = record { held = r.held; there = g.held name r.held r.there; visited = m.visited name r.visited }

pub serves_grows : {crypto : Crypto} {a b : InForce} {v : Visit} {now : jiff.Timestamp} → Grows a b → RoleServes crypto a v now → RoleServes crypto b v now
serves_grows {crypto} {a} {b} {v} g s = record {
  held = s.held;
  there = g.held v.name s.held s.there;
  authority = s.authority;
  delegated = delegation_grows a b v s.authority g s.delegated;
  met = s.met;
  fresh = s.fresh;
}

made_grows : {session : Session} {snapshot : Snapshot} {a b : InForce} {w u : Walk} {v : Visit} → Grows a b → Goes w u → IsMade session snapshot a w v → IsMade session snapshot b u v
made_grows g m (reads_none p) = reads_none p
made_grows g m (reads_top held is t) = reads_top held is (g.held (codes "targets") held t)
made_grows {session} {snapshot} {a} {b} {w} {u} {v} g m (reads_role r s) = reads_role (m.read v.delegator r) (serves_grows g s)

module _ (session : Session) (snapshot : Snapshot) where
  pub record Onward (set : InForce) (vs : List Visit) (w : Walk) : Type 0 where
    pub due : AllByRecursion (IsDue set w) vs
    pub read : (name : List ℕ) → is_among w.read name ≡ true → IsRead set w name
    pub made : AllByRecursion (IsMade session snapshot set w) w.visits

  pub onward_begins : (set : InForce) (max : ℕ) → Onward set (first_visit ∷ []) (record { visits = []; read = []; left = max })
  onward_begins set max = record { due = (begins refl, tt); read = λ name h. cc; made = tt }

  goes_same : (w u : Walk) → u.read ≡ w.read → u.visits ≡ w.visits → Goes w u
  goes_same w u r v = record {
    read = λ name h. ap (λ ns. is_among ns name) r ∙ h;
    visited = λ name h. ap (λ vs. is_among (map (λ (v : Visit). v.name) vs) name) v ∙ h;
  }

  -- a visit more
  goes_visit : (v : Visit) (w u : Walk) → u.visits ≡ w.visits ++ v ∷ [] → ((name : List ℕ) → is_among w.read name ≡ true → is_among u.read name ≡ true) → Goes w u
  goes_visit v w u is r = record {
    read = r;
    visited = λ name h. ap (λ vs. is_among (map (λ (v : Visit). v.name) vs) name) is ∙ (ap (λ ns. is_among ns name) (names_append w.visits v) ∙ among_append (map (λ (v : Visit). v.name) w.visits) v.name name h);
  }

  visited_now : (v : Visit) (w u : Walk) → u.visits ≡ w.visits ++ v ∷ [] → is_among (map (λ (v : Visit). v.name) u.visits) v.name ≡ true
  visited_now v w u is = ap (λ vs. is_among (map (λ (v : Visit). v.name) vs) v.name) is ∙ (ap (λ ns. is_among ns v.name) (names_append w.visits v) ∙ among_last (map (λ (v : Visit). v.name) w.visits) v.name)

  module _ (old mid : InForce) (v : Visit) (vs : List Visit) (w : Walk) (o : Onward old (v ∷ vs) w) (g : Grows old mid) where
    -- what is due, was read and was made before
    due_still : (u : Walk) → Goes w u → AllByRecursion (IsDue mid u) vs
    due_still u m = each_map (IsDue old w) (IsDue mid u) vs (λ x d. due_grows g m d) o.due.1

    made_still : (u : Walk) → Goes w u → AllByRecursion (IsMade session snapshot mid u) w.visits
    made_still u m = each_map (IsMade session snapshot old w) (IsMade session snapshot mid u) w.visits (λ x d. made_grows g m d) o.made

    made_more : (u : Walk) → u.visits ≡ w.visits ++ v ∷ [] → Goes w u → IsMade session snapshot mid u v → AllByRecursion (IsMade session snapshot mid u) u.visits
    made_more u is m now = subst (AllByRecursion (IsMade session snapshot mid u)) (sym is) (all_append (IsMade session snapshot mid u) w.visits v (made_still u m) now)

    passed : Onward mid vs w
    passed = record {
      due = due_still w (goes_same w w refl refl);
      read = λ name h. read_grows g (goes_same w w refl refl) (o.read name h);
      made = made_still w (goes_same w w refl refl);
    }

    unread : is_pinned snapshot v.name ≡ false → Onward mid vs (one_more v w)
    unread pin =
        let m : Goes w (one_more v w) = goes_visit v w (one_more v w) refl (λ name h. h) in
        record {
          due = due_still (one_more v w) m;
          read = λ name h. read_grows g m (o.read name h);
          made = made_more (one_more v w) refl m (reads_none pin);
        }

    -- a document that is read
    module _ (u : Walk) (visits_are : u.visits ≡ w.visits ++ v ∷ []) (read_is : u.read ≡ w.read ++ v.name ∷ []) (held : Held Targets) (there : at_name v.name mid.targets ≡ Some held)
        (now : IsMade session snapshot mid u v) where
      goes : Goes w u
      goes = goes_visit v w u visits_are (λ name h. ap (λ ns. is_among ns name) read_is ∙ among_append w.read v.name name h)

      read_all : (name : List ℕ) → is_among u.read name ≡ true → IsRead mid u name
      read_all name h =
          among_either w.read v.name name (sym (ap (λ ns. is_among ns name) read_is) ∙ h) (λ k. read_grows g goes (o.read name k))
          (λ is. subst (IsRead mid u) (sym is) (record { held = held; there = there; visited = visited_now v w u visits_are }))

      with_next : (next : List Visit) → AllByRecursion (IsDue mid u) next → Onward mid next u
      with_next next due = record { due = due; read = read_all; made = made_more u visits_are goes now }

      listed : Onward mid vs u
      listed = with_next vs (due_still u goes)

      is_next : (name : List ℕ) → IsNamed (delegated_in (content_of held).delegations) name → IsDue mid u (by v.name name)
      is_next name named =
          let d = named_delegation mid v.name name held there named in
          delegated d.0 d.1 (ap (λ ns. is_among ns v.name) read_is ∙ among_last w.read v.name)

      nexts : (names : List (List ℕ)) → AllByRecursion (IsNamed (delegated_in (content_of held).delegations)) names → AllByRecursion (IsDue mid u) (map (by v.name) names)
      nexts [] h = tt
      nexts (name ∷ names) h = (is_next name h.0, nexts names h.1)

      rest : (b : Bool) → AllByRecursion (IsDue mid u) (if b then [] else vs)
      rest true = tt
      rest false = due_still u goes

      follows : (next : Next) → AllByRecursion (IsNamed (delegated_in (content_of held).delegations)) next.names → Onward mid (put_before v.name next vs) u
      follows next named =
          with_next (put_before v.name next vs) (all_both (IsDue mid u) (map (by v.name) next.names) (if next.ends then [] else vs) (nexts next.names named) (rest next.ends))

-- ---- the visit that is made now

held_of : (o : Option (Held Targets)) (doc : Targets) → option_map content_of o ≡ Some doc → (held : Held Targets) × (o ≡ Some held) × (content_of held ≡ doc)
held_of None doc h = cc
held_of (Some held) doc h = (held, refl, some_same (content_of held) doc h)

reads_now : (a b c : Bool) → (a || b) ≡ false → c ≡ true → (not a && (not b && c)) ≡ true
reads_now true b c h k = cc
reads_now false true c h k = cc
reads_now false false c h k = k

pub reads_pinned : (set : InForce) (snapshot : Snapshot) (name : List ℕ) → IsSnapshot set snapshot → is_some (role_pin_in set name) ≡ is_pinned snapshot name
reads_pinned set snapshot name at = ap is_some (pin_of set.snapshot snapshot name at)

pub is_reading : (set : InForce) (snapshot : Snapshot) (v : Visit) (w : Walk) → IsSnapshot set snapshot → is_over v w ≡ false → is_pinned snapshot v.name ≡ true → reads set v w ≡ true
is_reading set snapshot v w at on pinned = reads_now (w.left == 0) (is_among w.read v.name) (is_some (role_pin_in set v.name)) on (reads_pinned set snapshot v.name at ∙ pinned)

not_said : {C : Type 0} (answer : Result Bool Error) (e : Error) → answer ≡ Err e → Ok tt ≡ said answer → C
not_said answer e r is = let never : ◌≡◌ {A = Result ⊤ Error} (Ok tt) (Err e) = is ∙ ap said r in cc

none_taken : {C : Type 0} (r : Result InForce Error) → taken_of r ≡ Ok None → C
none_taken (Ok set) h = cc
none_taken (Err e) h = cc

module _ (session : Session) (snapshot : Snapshot) (old mid : State) (v : Visit) (w : Walk) where
  abbrev Made : Walk → Type 0
  Made u = IsMade session snapshot mid.documents u v

  -- one that was in force
  looked_made : (u : Walk) → Goes w u → Grows old.documents mid.documents → IsDue old.documents w v → (held : Held Targets) → at_name v.name mid.documents.targets ≡ Some held
      → visit_serves_of session.crypto old.documents v session.now ≡ Ok tt → Made u
  looked_made u m g (begins is) held there h = reads_top held is (ap (λ (x : Visit). at_name x.name mid.documents.targets) (sym is) ∙ there)
  looked_made u m g (delegated authority d r) held there h =
      let low = low_name old.documents v authority d in
      let s : role_serves_of session.crypto old.documents v session.now ≡ Ok tt = sym (ap (λ b. if b then Ok tt else role_serves_of session.crypto old.documents v session.now) low) ∙ h in
      reads_role (m.read v.delegator r) (serves_grows g (role_serving session.crypto old.documents v session.now s))

  -- one that was fetched
  taken_made : (u : Walk) → Goes w u → Grows old.documents mid.documents → IsDue old.documents w v → RoleTaken session.crypto old.documents v session.now mid.documents → Made u
  taken_made u m g (begins is) t =
      let never : true ≡ false = ap is_top_level (ap (λ (x : Visit). x.name) (sym is)) ∙ not_top old.documents v t.authority t.delegated in cc
  taken_made u m g (delegated authority d r) t = reads_role (m.read v.delegator r) (record {
    held = t.held;
    there = ap (λ (s : InForce). at_name v.name s.targets) t.new_is ∙ at_role old.documents v.name t.held;
    authority = t.authority;
    delegated = delegation_grows old.documents mid.documents v t.authority g t.delegated;
    met = t.met;
    fresh = t.fresh;
  })

  adopted_made : (answer : Result Bool Error) → AdoptsRole session v old mid answer → Ok tt ≡ said answer → (u : Walk) → Goes w u → Grows old.documents mid.documents → IsDue old.documents w v → Made u
  adopted_made answer (unfetched e f x r) is u m g d = not_said answer e r is
  adopted_made answer (absent f x r) is u m g d = not_said answer _ r is
  adopted_made answer (refused bytes e f j x r) is u m g d = not_said answer e r is
  adopted_made answer (kept bytes f j x r) is u m g d = none_taken (update_role_of session.crypto old.documents v bytes (Some session.now)) j
  adopted_made answer (adopted bytes written f j k r) is u m g d =
      taken_made u m g d (role_taken session.crypto old.documents v bytes session.now mid.documents (taken_some (update_role_of session.crypto old.documents v bytes (Some session.now)) mid.documents j))

  pub made_now : Readies session v w old mid (Ok tt) → reads old.documents v w ≡ true → (u : Walk) → Goes w u → IsDue old.documents w v → (held : Held Targets) → at_name v.name mid.documents.targets ≡ Some held → Made u
  made_now (wanting s r) read u m d held there = no_both tt tuf.NoMemory r
  made_now (untouched n s r) read u m d held there = let never : true ≡ false = sym read ∙ n in cc
  made_now (looked_at n h c) read u m d held there =
      looked_made u m (ready_grows session v w old mid (Ok tt) (looked_at n h c)) d held there c.passed
  made_now (had answer n h a is) read u m d held there = adopted_made answer a is u m (ready_grows session v w old mid (Ok tt) (had answer n h a is)) d

-- ---- a step

module _ (session : Session) (snapshot : Snapshot) (path : List ℕ) {old mid : State} {v : Visit} {vs : List Visit} {w : Walk} (o : Onward session snapshot old.documents (v ∷ vs) w)
    (r : Readies session v w old mid (Ok tt)) (at : IsSnapshot old.documents snapshot) where
  g : Grows old.documents mid.documents
  g = ready_grows session v w old mid (Ok tt) r

  abbrev After : Step → Type 0
  After step = Onward session snapshot mid.documents (pending_after v step vs) step.walk

  made_read : (u : Walk) → u.visits ≡ w.visits ++ v ∷ [] → u.read ≡ w.read ++ v.name ∷ [] → is_over v w ≡ false → is_pinned snapshot v.name ≡ true → (held : Held Targets) → at_name v.name mid.documents.targets ≡ Some held
      → IsMade session snapshot mid.documents u v
  made_read u visits_are read_is on pin held there =
      made_now session snapshot old mid v w r (is_reading old.documents snapshot v w at on pin) u
      (goes_visit session snapshot v w u visits_are (λ name h. ap (λ ns. is_among ns name) read_is ∙ among_append w.read v.name name h)) o.due.0 held there

  pub steps_onward : (step : Step) → StepOf snapshot path (documents_of mid.documents v.name) v w step → After step
  steps_onward step (passed_over over is) = subst After (sym is) (passed session snapshot old.documents mid.documents v vs w o g)
  steps_onward step (unpinned on pin is) = subst After (sym is) (unread session snapshot old.documents mid.documents v vs w o g pin)
  steps_onward step (listing doc on pin there l is) =
      let h = held_of (at_name v.name mid.documents.targets) doc there in
      let u = walk_ended (having_read v.name (one_more v w)) in
      subst After (sym is) (listed session snapshot old.documents mid.documents v vs w o g u refl refl h.0 h.1 (made_read u refl refl on pin h.0 h.1))
  steps_onward step (followed doc next on pin there l m is) =
      let h = held_of (at_name v.name mid.documents.targets) doc there in
      let u = having_read v.name (one_more v w) in
      let named = subst (λ (d : Targets). AllByRecursion (IsNamed (delegated_in d.delegations)) next.names) (sym h.2) (matching_named path (delegated_in doc.delegations) next m) in
      subst After (sym is) (follows session snapshot old.documents mid.documents v vs w o g u refl refl h.0 h.1 (made_read u refl refl on pin h.0 h.1) next named)
