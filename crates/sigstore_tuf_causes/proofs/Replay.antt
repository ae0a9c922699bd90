-- A search whose documents were had on the way is the one over the documents in force at its end.
use Rattle.std.proofs.Common.{◌≡◌, ◌≢◌, ◌⊎◌, inl, inr, ℕ, ◌≤◌, ◌==◌, ◌||◌, ◌&&◌, not, if◌then◌else◌, List, [], ◌∷◌, Bool, true, false, Option, Some, None, Result, Ok, Err, refl, sym, ap, ◌∙◌, subst, le_trans}
use Rattle.std.specs.Prelude.{⊤, is_some, option_map, ok_or}
use Rattle.foundation.specs.Steps.{◌>>=◌}
use Rattle.foundation.specs.Watched.{Since}
use Rattle.foundation.specs.Results.{err_same, refused_at}
use Rattle.sigstore_types_parts.specs.Entries.{at_name}
use Rattle.sigstore_tuf_text.specs.declared.error.Error.{Error}
use Rattle.sigstore_tuf_text.specs.declared.error.Error.TheVariants as tuf
use Rattle.sigstore_tuf_parts.specs.declared.snapshot.Snapshot.{Snapshot}
use Rattle.sigstore_tuf_parts.specs.declared.targets.DelegatedRole.{DelegatedRole}
use Rattle.sigstore_tuf_parts.specs.declared.targets.Targets.{Targets}
use Rattle.sigstore_tuf_parts.specs.Delegation.{matches_path_of}
use Rattle.sigstore_tuf_parts.specs.Threshold.{is_among}
use Rattle.sigstore_tuf_rules.specs.declared.documents.Held.{Held}
use Rattle.sigstore_tuf_rules.specs.declared.documents.InForce.{InForce}
use Rattle.sigstore_tuf_rules.specs.Documents.{content_of}
use Rattle.sigstore_tuf_rules.specs.Names.{role_pin_in}
use Rattle.sigstore_tuf_outside.specs.Repository.{metadata_files}
use Rattle.sigstore_tuf_runs.specs.State.{Session, State}
use Rattle.sigstore_tuf_runs.specs.Adopt.{unfetched, absent, refused, kept, adopted}
use Rattle.sigstore_tuf_rules.specs.declared.visit.Visit.{Visit}
use Rattle.sigstore_tuf_rules.specs.declared.visit.Walk.{Walk}
use Rattle.sigstore_tuf_rules.specs.Order.{Tree, Gap, pattern, missing, Step, is_top_level, is_pinned, lists, pattern_or, matching, with_name, delegated_in, visited as one_more, having_read, read_of, read_named, still, visit_of, pending_after}
use Rattle.sigstore_tuf_rules.specs.SearchLaws.{walk_all, visits_of, tree_of}
use Rattle.sigstore_tuf_rules.specs.Delegated.{update_role_of}
use Rattle.sigstore_tuf_runs.specs.Search.{documents_of, tree_in, AdoptsRole, reads, IsSnapshot, IsGap, Readies, wanting, untouched, looked_at, had, Searches, ended, short, unready, gapped, visited, FindsVisits, unserved, searched}
use Rattle.sigstore_tuf_runs.specs.SearchCause.{Reaches, first, later}
use Rattle.sigstore_tuf_outside.proofs.Files.{inserted}
use Rattle.sigstore_tuf_causes.proofs.Carrying.{since_same, since_joins, fetched_since}
use Rattle.sigstore_tuf_rules.proofs.RolePuts.{taken_some}
use Rattle.sigstore_tuf_runs.proofs.Searched.{snapshot_stays}
use Rattle.sigstore_tuf_rules.proofs.Walks.{IfStep, visit_steps, by_list}
use Rattle.sigstore_tuf_rules.proofs.Stepping.{among_last, is_over, StepOf, passed_over, unpinned, listing, followed, step_cases, cases_step, step_reads, swap_step}
use Rattle.sigstore_tuf_causes.proofs.Growing.{Grows, grows_stays, grows_joins, ready_grows, search_grows}
use Rattle.sigstore_tuf_causes.proofs.Visits.{RoleTaken, role_taken, reads_pinned, IsRead, Onward, steps_onward}

-- ---- what a visit leaves

adopts_since : (session : Session) (v : Visit) (old new : State) (answer : Result Bool Error) → AdoptsRole session v old new answer → Since old.repo new.repo
adopts_since session v old new answer (unfetched e f u r) = fetched_since metadata_files _ _ old.repo new.repo (Err e) f
adopts_since session v old new answer (absent f u r) = fetched_since metadata_files _ _ old.repo new.repo (Ok None) f
adopts_since session v old new answer (refused bytes e f j u r) = fetched_since metadata_files _ _ old.repo new.repo (Ok (Some bytes)) f
adopts_since session v old new answer (kept bytes f j u r) = fetched_since metadata_files _ _ old.repo new.repo (Ok (Some bytes)) f
adopts_since session v old new answer (adopted bytes written f j k r) = fetched_since metadata_files _ _ old.repo new.repo (Ok (Some bytes)) f

pub ready_since : (session : Session) (v : Visit) (w : Walk) (old new : State) (result : Result ⊤ Error) → Readies session v w old new result → Since old.repo new.repo
ready_since session v w old new result (wanting s r) = since_same old.repo new.repo (ap (λ (x : State). x.repo) s)
ready_since session v w old new result (untouched n s r) = since_same old.repo new.repo (ap (λ (x : State). x.repo) s)
ready_since session v w old new result (looked_at n h c) = since_same old.repo new.repo (ap (λ (x : State). x.repo) c.same)
ready_since session v w old new result (had answer n h a is) = adopts_since session v old new answer a

-- it reads a document: visits are left, the name wasn't read, and it is pinned
open_of : (a b c : Bool) → (not a && (not b && c)) ≡ true → (a || b) ≡ false
open_of true b c h = cc
open_of false true c h = cc
open_of false false c h = refl

pin_there : (a b c : Bool) → (not a && (not b && c)) ≡ true → c ≡ true
pin_there true b c h = cc
pin_there false true c h = cc
pin_there false false c h = h

pub reading_open : (set : InForce) (v : Visit) (w : Walk) → reads set v w ≡ true → is_over v w ≡ false
reading_open set v w h = open_of (w.left == 0) (is_among w.read v.name) (is_some (role_pin_in set v.name)) h

-- such a step reads the name
step_reads_name : (snapshot : Snapshot) (path : List ℕ) (o : Option Targets) (v : Visit) (w : Walk) (step : Step) → StepOf snapshot path o v w step → is_over v w ≡ false → is_pinned snapshot v.name ≡ true → is_among step.walk.read v.name ≡ true
step_reads_name snapshot path o v w step (passed_over over is) on pin = let never : true ≡ false = sym over ∙ on in cc
step_reads_name snapshot path o v w step (unpinned on' none is) on pin = let never : true ≡ false = sym pin ∙ none in cc
step_reads_name snapshot path o v w step (listing doc on' pin' there l is) on pin = ap (λ (s : Step). is_among s.walk.read v.name) is ∙ among_last w.read v.name
step_reads_name snapshot path o v w step (followed doc next on' pin' there l m is) on pin = ap (λ (s : Step). is_among s.walk.read v.name) is ∙ among_last w.read v.name

pub pinned_reading : (set : InForce) (snapshot : Snapshot) (v : Visit) (w : Walk) → IsSnapshot set snapshot → reads set v w ≡ true → is_pinned snapshot v.name ≡ true
pinned_reading set snapshot v w at h = sym (reads_pinned set snapshot v.name at) ∙ pin_there (w.left == 0) (is_among w.read v.name) (is_some (role_pin_in set v.name)) h

-- a role in force was so before, or its name was read now
abbrev pub WasOrRead : InForce → InForce → Walk → Type 0
WasOrRead old new u = (name : List ℕ) (h : Held Targets) → at_name name new.targets ≡ Some h → (at_name name old.targets ≡ Some h) ⊎ (is_among u.read name ≡ true)

module _ (session : Session) (snapshot : Snapshot) (path : List ℕ) (v : Visit) (w : Walk) (old new : State) (step : Step) (c : StepOf snapshot path (documents_of new.documents v.name) v w step) (at : IsSnapshot old.documents snapshot) where
  unmoved_so : new.documents ≡ old.documents → WasOrRead old.documents new.documents step.walk
  unmoved_so e name h is = inl (sym (ap (λ (s : InForce). at_name name s.targets) e) ∙ is)

  taken_so : reads old.documents v w ≡ true → RoleTaken session.crypto old.documents v session.now new.documents → WasOrRead old.documents new.documents step.walk
  taken_so n t name h is = by_place (inserted name v.name t.held h old.documents.targets (sym (ap (λ (s : InForce). at_name name s.targets) t.new_is) ∙ is))
    where
      by_place : ((name ≡ v.name) × (h ≡ t.held)) ⊎ (at_name name old.documents.targets ≡ Some h) → (at_name name old.documents.targets ≡ Some h) ⊎ (is_among step.walk.read name ≡ true)
      by_place (inl same) =
          inr (ap (is_among step.walk.read) same.0
          ∙ step_reads_name snapshot path (documents_of new.documents v.name) v w step c (reading_open old.documents v w n) (pinned_reading old.documents snapshot v w at n))
      by_place (inr there) = inl there

  adopted_so : (answer : Result Bool Error) → reads old.documents v w ≡ true → AdoptsRole session v old new answer → WasOrRead old.documents new.documents step.walk
  adopted_so answer n (unfetched e f u r) = unmoved_so u.documents
  adopted_so answer n (absent f u r) = unmoved_so u.documents
  adopted_so answer n (refused bytes e f j u r) = unmoved_so u.documents
  adopted_so answer n (kept bytes f j u r) = unmoved_so u.documents
  adopted_so answer n (adopted bytes written f j k r) =
      taken_so n (role_taken session.crypto old.documents v bytes session.now new.documents (taken_some (update_role_of session.crypto old.documents v bytes (Some session.now)) new.documents j))

  ready_so : (result : Result ⊤ Error) → Readies session v w old new result → WasOrRead old.documents new.documents step.walk
  ready_so result (wanting s r) = unmoved_so (ap (λ (x : State). x.documents) s)
  ready_so result (untouched n s r) = unmoved_so (ap (λ (x : State). x.documents) s)
  ready_so result (looked_at n h c) = unmoved_so (ap (λ (x : State). x.documents) c.same)
  ready_so result (had answer n h a is) = adopted_so answer n a

-- ---- a step over other documents

-- documents that agree with those in force where a name was read
abbrev pub AgreesOn : (List ℕ → Option Targets) → InForce → Walk → Type 0
AgreesOn d set u = (name : List ℕ) → is_among u.read name ≡ true → d name ≡ documents_of set name

read_there : (set new : InForce) (w : Walk) (name : List ℕ) → Grows set new → IsRead set w name → documents_of new name ≡ documents_of set name
read_there set new w name g r = ap (option_map (λ (h : Held Targets). content_of h)) (g.held name r.held r.there ∙ sym r.there)

module _ (snapshot : Snapshot) (path : List ℕ) where
  same_step : (d : List ℕ → Option Targets) (mid new : InForce) (v : Visit) (w u : Walk) (step : Step) → StepOf snapshot path (documents_of mid v.name) v w step → Grows mid new → AgreesOn d new u
      → ((name : List ℕ) → is_among step.walk.read name ≡ true → is_among u.read name ≡ true) → ((name : List ℕ) → is_among step.walk.read name ≡ true → IsRead mid step.walk name)
      → visit_of (tree_of d snapshot path) v w ≡ Ok step
  same_step d mid new v w u step c g agrees more read =
      cases_step (tree_of d snapshot path) v w step
      (swap_step snapshot path (documents_of mid v.name) (d v.name) v w step c (λ h. agrees v.name (more v.name h) ∙ read_there mid new step.walk v.name g (read v.name h)))

if_step_left : (w : Walk) (step : Step) (r : Result Step Gap) → r ≡ Ok step → IfStep w r → step.walk.left ≤ w.left
if_step_left w step r is s = let t = subst (IfStep w) is s in t.falls.left

-- ---- a search that ends

pub record Arrives (session : Session) (snapshot : Snapshot) (path : List ℕ) (old new : State) (vs : List Visit) (w u : Walk) : Type 0 where
  pub onward : Onward session snapshot new.documents [] u
  pub reads : (name : List ℕ) → is_among w.read name ≡ true → is_among u.read name ≡ true
  pub replays : (d : List ℕ → Option Targets) → AgreesOn d new.documents u → (depth : ℕ) → w.left ≤ depth → visits_of (walk_all depth (tree_of d snapshot path) vs w) ≡ Ok u.visits

module _ (session : Session) (snapshot : Snapshot) (path : List ℕ) where
  pub search_arrives : {vs : List Visit} {w u : Walk} {old new : State} → Searches session snapshot path vs w old new (Ok u) → Onward session snapshot old.documents vs w → IsSnapshot old.documents snapshot
      → Arrives session snapshot path old new vs w u
  search_arrives (ended w state) o at = record { onward = o; reads = λ name h. h; replays = λ d agrees depth less. refl }
  search_arrives {u = u} (visited v vs w step old mid new result r s more) o at =
      let c = step_cases (tree_in mid.documents snapshot path) v w step s in
      let o' = steps_onward session snapshot path o r at step c in
      let a = search_arrives more o' (snapshot_stays session v w old mid (Ok tt) snapshot r at) in
      let left = if_step_left w step (visit_of (tree_in mid.documents snapshot path) v w) s (visit_steps (tree_in mid.documents snapshot path) v w) in
      record {
        onward = a.onward;
        reads = λ name h. a.reads name (step_reads snapshot path (documents_of mid.documents v.name) v w step c name h);
        replays = λ d agrees depth less.
            by_list depth (tree_of d snapshot path) v vs w less
            ∙ ap (λ x. visits_of (x >>= λ t. walk_all depth (tree_of d snapshot path) (pending_after v t vs) t.walk))
            (same_step snapshot path d mid.documents new.documents v w u step c (search_grows session snapshot path _ _ mid new _ more) agrees a.reads o'.read)
            ∙ a.replays d agrees depth (le_trans left less);
      }

-- ---- a search that is refused

-- a document wasn't had or doesn't serve, or a pattern is malformed
pub data Why (session : Session) (snapshot : Snapshot) (path : List ℕ) (v : Visit) (w : Walk) (mid new : State) (e : Error) : Type 0 where
  not_ready : Readies session v w mid new (Err e) → Why session snapshot path v w mid new e
  no_step : Readies session v w mid new (Ok tt) → (e ≢ tuf.NoMemory → IsGap (visit_of (tree_in new.documents snapshot path) v w) e) → Why session snapshot path v w mid new e

pub record Fails (session : Session) (snapshot : Snapshot) (path : List ℕ) (old new : State) (vs : List Visit) (w : Walk) (e : Error) : Type 0 where
  pub v : Visit
  pub rest : List Visit
  pub u : Walk
  pub mid : State
  pub onward : Onward session snapshot mid.documents (v ∷ rest) u
  pub at : IsSnapshot mid.documents snapshot
  pub since : Since old.repo mid.repo
  pub grows : Grows old.documents mid.documents
  pub ends : Grows mid.documents new.documents
  pub was : WasOrRead old.documents mid.documents u
  pub reads : (name : List ℕ) → is_among w.read name ≡ true → is_among u.read name ≡ true
  pub reaches : (d : List ℕ → Option Targets) → AgreesOn d new.documents u → Reaches (tree_of d snapshot path) vs w v u
  pub why : Why session snapshot path v u mid new e

pub data Refuses (session : Session) (snapshot : Snapshot) (path : List ℕ) (old new : State) (vs : List Visit) (w : Walk) (e : Error) : Type 0 where
  wants : e ≡ tuf.NoMemory → Refuses session snapshot path old new vs w e
  fails : Fails session snapshot path old new vs w e → Refuses session snapshot path old new vs w e

module _ (session : Session) (snapshot : Snapshot) (path : List ℕ) where
  at_once : (v : Visit) (vs : List Visit) (w : Walk) (old new : State) (e : Error) → Onward session snapshot old.documents (v ∷ vs) w → IsSnapshot old.documents snapshot → Grows old.documents new.documents → Why session snapshot path v w old new e
      → Refuses session snapshot path old new (v ∷ vs) w e
  at_once v vs w old new e o at g why = fails (record {
    v = v;
    rest = vs;
    u = w;
    mid = old;
    onward = o;
    at = at;
    since = since_same old.repo old.repo refl;
    grows = grows_stays old.documents;
    ends = g;
    was = λ name h is. inl is;
    reads = λ name h. h;
    reaches = λ d agrees. first v vs w;
    why = why;
  })

  -- one visit more before it
  after_step : (v : Visit) (vs : List Visit) (w : Walk) (step : Step) (old mid new : State) (e : Error) → Onward session snapshot old.documents (v ∷ vs) w → IsSnapshot old.documents snapshot → Readies session v w old mid (Ok tt)
      → StepOf snapshot path (documents_of mid.documents v.name) v w step → Onward session snapshot mid.documents (pending_after v step vs) step.walk
      → Refuses session snapshot path mid new (pending_after v step vs) step.walk e → Refuses session snapshot path old new (v ∷ vs) w e
  after_step v vs w step old mid new e o at r c o' (wants h) = wants h
  after_step v vs w step old mid new e o at r c o' (fails f) = fails (record {
    v = f.v;
    rest = f.rest;
    u = f.u;
    mid = f.mid;
    onward = f.onward;
    at = f.at;
    since = since_joins old.repo mid.repo f.mid.repo (ready_since session v w old mid (Ok tt) r) f.since;
    grows = grows_joins (ready_grows session v w old mid (Ok tt) r) f.grows;
    ends = f.ends;
    was = λ name h is. by_place name h (f.was name h is);
    reads = λ name h. f.reads name (step_reads snapshot path (documents_of mid.documents v.name) v w step c name h);
    reaches = λ d agrees. later v vs w step f.v f.u (same_step snapshot path d mid.documents new.documents v w f.u step c (grows_joins f.grows f.ends) agrees f.reads o'.read) (f.reaches d agrees);
    why = f.why;
  })
    where
      by_place : (name : List ℕ) (h : Held Targets) → (at_name name mid.documents.targets ≡ Some h) ⊎ (is_among f.u.read name ≡ true) → (at_name name old.documents.targets ≡ Some h) ⊎ (is_among f.u.read name ≡ true)
      by_place name h (inr read) = inr read
      by_place name h (inl there) = by_step (ready_so session snapshot path v w old mid step c at (Ok tt) r name h there)
        where
          by_step : (at_name name old.documents.targets ≡ Some h) ⊎ (is_among step.walk.read name ≡ true) → (at_name name old.documents.targets ≡ Some h) ⊎ (is_among f.u.read name ≡ true)
          by_step (inl before) = inl before
          by_step (inr read) = inr (f.reads name read)

  pub search_refuses : {vs : List Visit} {w : Walk} {old new : State} {e : Error} → Searches session snapshot path vs w old new (Err e) → Onward session snapshot old.documents vs w → IsSnapshot old.documents snapshot
      → Refuses session snapshot path old new vs w e
  search_refuses (short vs w state) o at = wants refl
  search_refuses (unready v vs w old new e r) o at = at_once v vs w old new e o at (ready_grows session v w old new (Err e) r) (not_ready r)
  search_refuses (gapped v vs w old new e r g) o at = at_once v vs w old new e o at (ready_grows session v w old new (Ok tt) r) (no_step r g)
  search_refuses (visited v vs w step old mid new result r s more) o at =
      let c = step_cases (tree_in mid.documents snapshot path) v w step s in
      let o' = steps_onward session snapshot path o r at step c in
      after_step v vs w step old mid new _ o at r c o' (search_refuses more o' (snapshot_stays session v w old mid (Ok tt) snapshot r at))

-- ---- a visit that has no step

matching_gap : (path : List ℕ) (ds : List DelegatedRole) (gap : Gap) → matching path ds ≡ Err gap → gap ≡ pattern
matching_gap path [] gap h = cc
matching_gap path (d ∷ ds) gap h = by_top (is_top_level d.name) h (λ g k. matching_gap path ds g k)
  where
    Later : Type 0
    Later = (g : Gap) → matching path ds ≡ Err g → g ≡ pattern

    by_pattern : (r : Result Bool Error) → pattern_or r ≡ Err gap → gap ≡ pattern
    by_pattern (Ok x) h = cc
    by_pattern (Err e) h = sym (err_same pattern gap h)

    by_end : (b : Bool) → (if b then Ok (record { names = d.name ∷ []; ends = true }) else (matching path ds >>= λ m. Ok (with_name d.name m))) ≡ Err gap → Later → gap ≡ pattern
    by_end true h rec = cc
    by_end false h rec = refused_at (matching path ds) _ gap h (rec gap) (λ m k is. cc)

    by_found : (b : Bool) → (if b then (if d.terminating then Ok (record { names = d.name ∷ []; ends = true }) else (matching path ds >>= λ m. Ok (with_name d.name m))) else matching path ds) ≡ Err gap → Later → gap ≡ pattern
    by_found true h rec = by_end d.terminating h rec
    by_found false h rec = rec gap h

    by_top : (b : Bool)
        → (if b then matching path ds
        else (pattern_or (matches_path_of d path) >>= λ found. (if found then (if d.terminating then Ok (record { names = d.name ∷ []; ends = true }) else (matching path ds >>= λ m. Ok (with_name d.name m))) else matching path ds))) ≡ Err gap
        → Later → gap ≡ pattern
    by_top true h rec = rec gap h
    by_top false h rec = refused_at (pattern_or (matches_path_of d path)) _ gap h (λ is. by_pattern (matches_path_of d path) is) (λ found k is. by_found found is rec)

-- a document is wanting, or a pattern is malformed
pub record Gapped (tree : Tree) (v : Visit) (w : Walk) (gap : Gap) : Type 0 where
  pub on : is_over v w ≡ false
  pub pinned : is_pinned tree.snapshot v.name ≡ true
  pub is : (tree.documents v.name ≡ None) ⊎ (gap ≡ pattern)

module _ (tree : Tree) (v : Visit) (w : Walk) (gap : Gap) where
  read_gap : (doc : Targets) → read_of tree doc (having_read v.name (one_more v w)) ≡ Err gap → gap ≡ pattern
  read_gap doc h = by_list (lists doc tree.path) h
    where
      by_list : (b : Bool)
          → (if b then Ok (still (record { visits = (having_read v.name (one_more v w)).visits; read = (having_read v.name (one_more v w)).read; left = 0 }))
          else matching tree.path (delegated_in doc.delegations) >>= λ next. Ok (record { walk = having_read v.name (one_more v w); next = next })) ≡ Err gap → gap ≡ pattern
      by_list true h = cc
      by_list false h = refused_at (matching tree.path (delegated_in doc.delegations)) _ gap h (matching_gap tree.path (delegated_in doc.delegations) gap) (λ m k is. cc)

  named_gap : (o : Option Targets) → tree.documents v.name ≡ o → (ok_or o (missing v.name) >>= λ doc. read_of tree doc (having_read v.name (one_more v w))) ≡ Err gap → (tree.documents v.name ≡ None) ⊎ (gap ≡ pattern)
  named_gap None at h = inl at
  named_gap (Some doc) at h = inr (read_gap doc h)

  pinned_gap : (b : Bool) → is_pinned tree.snapshot v.name ≡ b → is_over v w ≡ false → (if b then read_named tree v.name (one_more v w) else Ok (still (one_more v w))) ≡ Err gap → Gapped tree v w gap
  pinned_gap true e on h = record { on = on; pinned = e; is = named_gap (tree.documents v.name) refl h }
  pinned_gap false e on h = cc

  open_gap : (b : Bool) → is_over v w ≡ b → (if b then Ok (still w) else (if is_pinned tree.snapshot v.name then read_named tree v.name (one_more v w) else Ok (still (one_more v w)))) ≡ Err gap → Gapped tree v w gap
  open_gap true e h = cc
  open_gap false e h = pinned_gap (is_pinned tree.snapshot v.name) refl e h

  pub visit_gap : visit_of tree v w ≡ Err gap → Gapped tree v w gap
  visit_gap h = open_gap (is_over v w) refl h

-- ---- what a search leaves of the repository

pub searches_since : {session : Session} {snapshot : Snapshot} {path : List ℕ} {vs : List Visit} {w : Walk} {old new : State} {result : Result Walk Error} → Searches session snapshot path vs w old new result → Since old.repo new.repo
searches_since (ended w state) = since_same state.repo state.repo refl
searches_since (short vs w state) = since_same state.repo state.repo refl
searches_since {session} (unready v vs w old new e r) = ready_since session v w old new (Err e) r
searches_since {session} (gapped v vs w old new e r g) = ready_since session v w old new (Ok tt) r
searches_since {session} (visited v vs w step old mid new result r s more) = since_joins old.repo mid.repo new.repo (ready_since session v w old mid (Ok tt) r) (searches_since more)

pub finds_since : (session : Session) (path : List ℕ) (old new : State) (result : Result (List Visit) Error) → FindsVisits session path old new result → Since old.repo new.repo
finds_since session path old new result (unserved e h same is) = since_same old.repo new.repo (ap (λ (s : State). s.repo) same)
finds_since session path old new result (searched snapshot answer ok there s is) = searches_since s
