-- The roles of a trusted chain are the visits of a search over their documents, one after another.
use Rattle.std.proofs.Common.{◌≡◌, ◌⊎◌, inl, inr, ℕ, zero, suc, ◌≤◌, ◌==◌, ◌||◌, List, [], ◌∷◌, ◌++◌, map, append-nil, append_assoc, Bool, true, false, cond, Option, Some, None, Result, Ok, Err, refl, sym, ap, ◌∙◌, subst, arith, le_refl, le_trans}
use Rattle.std.specs.Prelude.{⊤, IfSome, is_some, option_map, option_and_then, codes}
use Rattle.std.specs.List.{AllByRecursion, filter_map, cons_option}
use Rattle.std.specs.Ordering.{is_eq}
use Rattle.std.specs.Result.{result_ok}
use Rattle.std.proofs.lemmas.List.{map-append, append_cancel_left}
use Rattle.std.proofs.lemmas.Slice.Eq.{bytes_eq-Decides}
use Rattle.std.proofs.lemmas.Map.Text.{is_eq-slice_cmp}
use Rattle.jiff_core.specs.declared.timestamp.Timestamp as jiff
use Rattle.foundation.specs.Steps.{◌>>=◌}
use Rattle.foundation.specs.Results.{some_same, ok_same, step_ok}
use Rattle.sigstore_types_parts.specs.Entries.{at_name, text_cmp}
use Rattle.sigstore_keys.specs.Crypto.{Crypto}
use Rattle.sigstore_tuf_parts.specs.declared.root.Root.{Root}
use Rattle.sigstore_tuf_parts.specs.declared.snapshot.Snapshot.{Snapshot}
use Rattle.sigstore_tuf_parts.specs.declared.targets.Targets.{Targets}
use Rattle.sigstore_tuf_parts.specs.Document.{Document, content_in}
use Rattle.sigstore_tuf_parts.specs.Threshold.{is_among}
use Rattle.sigstore_tuf_rules.specs.declared.chain.RoleDoc.{RoleDoc}
use Rattle.sigstore_tuf_rules.specs.declared.documents.Held.{Held}
use Rattle.sigstore_tuf_rules.specs.Documents.{targets_document, content_of}
use Rattle.sigstore_tuf_rules.specs.declared.visit.Visit.{Visit}
use Rattle.sigstore_tuf_rules.specs.declared.visit.Walk.{Walk}
use Rattle.sigstore_tuf_rules.specs.declared.visit.Next.{Next}
use Rattle.sigstore_tuf_rules.specs.Order.{Tree, Gap, Step, ended, is_pinned, nothing_next, visit_of, put_before, pending_after, walk_each, ended_if, walk_of, search_of, order, first_visit, first_walk}
use Rattle.sigstore_tuf_rules.specs.SearchLaws.{walk_all, visits_of}
use Rattle.sigstore_tuf_rules.specs.Trusted.{visit_in, read_in, documents_in, last_in, IsTrustedRole, IsTrustedVisit}
use Rattle.sigstore_tuf_rules.proofs.Stepping.{among_last, is_over, StepOf, passed_over, unpinned, listing, followed, step_cases, step_reads}
use Rattle.sigstore_tuf_causes.proofs.Followed.{each_map}
use Rattle.sigstore_tuf_rules.proofs.Walks.{by_list}

-- ---- lists

pub all_append : {A : Type 0} (P : A → Type 0) (xs : List A) (x : A) → AllByRecursion P xs → P x → AllByRecursion P (xs ++ x ∷ [])
all_append P [] x h p = (p, tt)
all_append P (y ∷ ys) x h p = (h.0, all_append P ys x h.1 p)

pub all_in : {A : Type 0} (P : A → Type 0) (xs : List A) (x : A) (ys : List A) → AllByRecursion P (xs ++ x ∷ ys) → P x
all_in P [] x ys h = h.0
all_in P (y ∷ xs) x ys h = all_in P xs x ys h.1

-- ---- the document of a name, with its bytes

abbrev named_held : List ℕ → List ℕ → Document Targets → List ℕ × Held Targets
named_held name bytes doc = (name, record { bytes = bytes; document = doc })

abbrev named_content : List ℕ → Document Targets → List ℕ × Targets
named_content name doc = (name, content_in doc)

abbrev held_by : List ℕ → Option (List ℕ) → Option (List ℕ × Held Targets)
held_by name bytes = option_and_then (λ b. option_map (named_held name b) (result_ok (targets_document b))) bytes

abbrev held_read : RoleDoc → Option (List ℕ × Held Targets)
held_read r = held_by r.name r.bytes

abbrev pub held_in : List RoleDoc → List ℕ → Option (Held Targets)
held_in roles name = at_name name (filter_map held_read roles)

module _ (name : List ℕ) where
  content_first : (other bytes : List ℕ) (rs : List RoleDoc) (d : Option (Document Targets)) → documents_in rs name ≡ option_map content_of (held_in rs name)
      → at_name name (cons_option (option_map (named_content other) d) (filter_map read_in rs)) ≡ option_map content_of (at_name name (cons_option (option_map (named_held other bytes) d) (filter_map held_read rs)))
  content_first other bytes rs None h = h
  content_first other bytes rs (Some doc) h = by_test (is_eq (text_cmp name other))
    where
      by_test : (b : Bool) → cond b (Some (content_in doc)) (documents_in rs name) ≡ option_map content_of (cond b (Some (record { bytes = bytes; document = doc })) (held_in rs name))
      by_test true = refl
      by_test false = h

  content_by : (other : List ℕ) (rs : List RoleDoc) (o : Option (List ℕ)) → documents_in rs name ≡ option_map content_of (held_in rs name)
      → at_name name (cons_option (option_and_then (λ b. option_map (named_content other) (result_ok (targets_document b))) o) (filter_map read_in rs)) ≡ option_map content_of (at_name name (cons_option (held_by other o) (filter_map held_read rs)))
  content_by other rs None h = h
  content_by other rs (Some b) h = content_first other b rs (result_ok (targets_document b)) h

  pub content_held : (roles : List RoleDoc) → documents_in roles name ≡ option_map content_of (held_in roles name)
  content_held [] = refl
  content_held (r ∷ rs) = content_by r.name rs r.bytes (content_held rs)

  -- a role of another name is passed over
  other_name : (other : List ℕ) → (other ≡ name → ⊥) → is_eq (text_cmp name other) ≡ false
  other_name other apart = by_test (is_eq (text_cmp name other)) refl
    where
      by_test : (b : Bool) → is_eq (text_cmp name other) ≡ b → is_eq (text_cmp name other) ≡ false
      by_test true e = absurd (apart (sym ((bytes_eq-Decides name other).0 (sym (is_eq-slice_cmp name other) ∙ e))))
      by_test false e = e

  skip_first : (other bytes : List ℕ) (rs : List RoleDoc) (d : Option (Document Targets)) → (other ≡ name → ⊥) → at_name name (cons_option (option_map (named_held other bytes) d) (filter_map held_read rs)) ≡ held_in rs name
  skip_first other bytes rs None apart = refl
  skip_first other bytes rs (Some doc) apart = ap (λ b. cond b (Some (record { bytes = bytes; document = doc })) (held_in rs name)) (other_name other apart)

  skip_by : (other : List ℕ) (rs : List RoleDoc) (o : Option (List ℕ)) → IfSome o (λ b. other ≡ name → ⊥) → at_name name (cons_option (held_by other o) (filter_map held_read rs)) ≡ held_in rs name
  skip_by other rs None apart = refl
  skip_by other rs (Some b) apart = skip_first other b rs (result_ok (targets_document b)) apart

  pub skip_held : (done rest : List RoleDoc) → AllByRecursion (λ (r : RoleDoc). IfSome r.bytes (λ b. r.name ≡ name → ⊥)) done → held_in (done ++ rest) name ≡ held_in rest name
  skip_held [] rest h = refl
  skip_held (r ∷ rs) rest h = skip_by r.name (rs ++ rest) r.bytes h.0 ∙ skip_held rs rest h.1

-- that of the first role
pub first_held : (r : RoleDoc) (rest : List RoleDoc) (name bytes : List ℕ) (doc : Document Targets) → r.name ≡ name → r.bytes ≡ Some bytes → targets_document bytes ≡ Ok doc → held_in (r ∷ rest) name ≡ Some (record { bytes = bytes; document = doc })
first_held r rest name bytes doc is there read =
    ap (λ o. at_name name (cons_option (held_by r.name o) (filter_map held_read rest))) there
    ∙ ap (λ d. at_name name (cons_option (option_map (named_held r.name bytes) (result_ok d)) (filter_map held_read rest))) read
    ∙ ap (λ b. cond b (Some (record { bytes = bytes; document = doc })) (held_in rest name)) same
  where
    same : is_eq (text_cmp name r.name) ≡ true
    same = is_eq-slice_cmp name r.name ∙ (bytes_eq-Decides name r.name).1 (sym is)

-- whose document is there has bytes
pub held_some : (name : List ℕ) (P : List ℕ → Type 0) (roles : List RoleDoc) (h : Held Targets) → AllByRecursion (λ (r : RoleDoc). IfSome r.bytes (λ b. P r.name)) roles → held_in roles name ≡ Some h → P name
held_some name P [] h all e = cc
held_some name P (r ∷ rs) h all e = by_bytes r.bytes all.0 e (λ k. held_some name P rs h all.1 k)
  where
    by_doc : (b : List ℕ) (d : Option (Document Targets)) → P r.name → at_name name (cons_option (option_map (named_held r.name b) d) (filter_map held_read rs)) ≡ Some h → (held_in rs name ≡ Some h → P name) → P name
    by_doc b None p e rec = rec e
    by_doc b (Some doc) p e rec = by_test (is_eq (text_cmp name r.name)) refl e
      where
        by_test : (t : Bool) → is_eq (text_cmp name r.name) ≡ t → cond t (Some (record { bytes = b; document = doc })) (held_in rs name) ≡ Some h → P name
        by_test true is e = subst P (sym ((bytes_eq-Decides name r.name).0 (sym (is_eq-slice_cmp name r.name) ∙ is))) p
        by_test false is e = rec e

    by_bytes : (o : Option (List ℕ)) → IfSome o (λ b. P r.name) → at_name name (cons_option (held_by r.name o) (filter_map held_read rs)) ≡ Some h → (held_in rs name ≡ Some h → P name) → P name
    by_bytes None p e rec = rec e
    by_bytes (Some b) p e rec = by_doc b (result_ok (targets_document b)) p e rec

-- ---- a walk makes its visits behind those that were made

abbrev Extends : Walk → Walk → Type 0
Extends a b = (more : List Visit) × (b.visits ≡ a.visits ++ more)

as_long : (a b : Walk) → b.visits ≡ a.visits → Extends a b
as_long a b e = ([], e ∙ sym (append-nil a.visits))

extends_joins : (a b c : Walk) → Extends a b → Extends b c → Extends a c
extends_joins a b c p q = (p.0 ++ q.0, q.1 ∙ ap (λ x. x ++ q.0) p.1 ∙ append_assoc a.visits p.0 q.0)

abbrev IfExtends : Walk → Result Walk Gap → Type 0
IfExtends a (Ok b) = Extends a b
IfExtends a (Err e) = ⊤

extends_further : (a b : Walk) (r : Result Walk Gap) → Extends a b → IfExtends b r → IfExtends a r
extends_further a b (Ok c) p q = extends_joins a b c p q
extends_further a b (Err e) p q = tt

then_extends : (a : Walk) (r : Result Walk Gap) (next : Walk → Result Walk Gap) → IfExtends a r → ((b : Walk) → IfExtends b (next b)) → IfExtends a (r >>= next)
then_extends a (Ok b) next p q = extends_further a b (next b) p (q b)
then_extends a (Err e) next p q = tt

step_extends : (snapshot : Snapshot) (path : List ℕ) (o : Option Targets) (v : Visit) (w : Walk) (step : Step) → StepOf snapshot path o v w step → Extends w step.walk
step_extends snapshot path o v w step (passed_over over is) = as_long w step.walk (ap (λ (s : Step). s.walk.visits) is)
step_extends snapshot path o v w step (unpinned allowed pin is) = (v ∷ [], ap (λ (s : Step). s.walk.visits) is)
step_extends snapshot path o v w step (listing doc allowed pin there l is) = (v ∷ [], ap (λ (s : Step). s.walk.visits) is)
step_extends snapshot path o v w step (followed doc next allowed pin there l m is) = (v ∷ [], ap (λ (s : Step). s.walk.visits) is)

-- nor has it more left
step_left : (snapshot : Snapshot) (path : List ℕ) (o : Option Targets) (v : Visit) (w : Walk) (step : Step) → StepOf snapshot path o v w step → step.walk.left ≤ w.left
step_left snapshot path o v w step (passed_over over is) = let e = ap (λ (s : Step). s.walk.left) is in omega (arith, e)
step_left snapshot path o v w step (unpinned allowed pin is) = let e = ap (λ (s : Step). s.walk.left) is in omega (arith, e)
step_left snapshot path o v w step (listing doc allowed pin there l is) = let e = ap (λ (s : Step). s.walk.left) is in omega (arith, e)
step_left snapshot path o v w step (followed doc next allowed pin there l m is) = let e = ap (λ (s : Step). s.walk.left) is in omega (arith, e)

-- nothing follows a visit that reads no document
pub still_next : (snapshot : Snapshot) (path : List ℕ) (o : Option Targets) (v : Visit) (w : Walk) (step : Step) → StepOf snapshot path o v w step → (is_over v w ≡ true) ⊎ (is_pinned snapshot v.name ≡ false) → step.next ≡ nothing_next
still_next snapshot path o v w step (passed_over over is) h = ap (λ (s : Step). s.next) is
still_next snapshot path o v w step (unpinned allowed free is) h = ap (λ (s : Step). s.next) is
still_next snapshot path o v w step (listing doc allowed pin there l is) h = ap (λ (s : Step). s.next) is
still_next snapshot path o v w step (followed doc next allowed pin there l m is) (inl over) = let never : true ≡ false = sym over ∙ allowed in cc
still_next snapshot path o v w step (followed doc next allowed pin there l m is) (inr free) = let never : true ≡ false = sym pin ∙ free in cc

each_extends : (walk : Visit → Walk → Result Walk Gap) → ((v : Visit) (w : Walk) → IfExtends w (walk v w)) → (delegator : List ℕ) (names : List (List ℕ)) (w : Walk) → IfExtends w (walk_each walk delegator names w)
each_extends walk f delegator [] w = as_long w w refl
each_extends walk f delegator (name ∷ names) w =
    then_extends w (walk (record { name = name; delegator = delegator }) w) (λ u. walk_each walk delegator names u) (f (record { name = name; delegator = delegator }) w) (λ u. each_extends walk f delegator names u)

ended_extends : (b : Bool) (w : Walk) → Extends w (ended_if b w)
ended_extends true w = as_long w (ended w) refl
ended_extends false w = as_long w w refl

below_extends : (walk : Visit → Walk → Result Walk Gap) → ((v : Visit) (w : Walk) → IfExtends w (walk v w)) → (tree : Tree) (v : Visit) (w : Walk) (r : Result Step Gap) → visit_of tree v w ≡ r
    → IfExtends w (r >>= λ step. (walk_each walk v.name step.next.names step.walk >>= λ u. Ok (ended_if step.next.ends u)))
below_extends walk f tree v w (Err e) h = tt
below_extends walk f tree v w (Ok step) h =
    extends_further w step.walk (walk_each walk v.name step.next.names step.walk >>= λ u. Ok (ended_if step.next.ends u)) (step_extends tree.snapshot tree.path (tree.documents v.name) v w step (step_cases tree v w step h))
    (then_extends step.walk (walk_each walk v.name step.next.names step.walk) (λ u. Ok (ended_if step.next.ends u)) (each_extends walk f v.name step.next.names step.walk) (λ u. ended_extends step.next.ends u))

walk_extends : (depth : ℕ) (tree : Tree) (v : Visit) (w : Walk) → IfExtends w (walk_of depth tree v w)
unfolding walk_of
walk_extends zero tree v w = as_long w w refl
walk_extends (suc depth) tree v w = below_extends (walk_of depth tree) (walk_extends depth tree) tree v w (visit_of tree v w) refl

all_extends : (depth : ℕ) (tree : Tree) (vs : List Visit) (w : Walk) → IfExtends w (walk_all depth tree vs w)
all_extends depth tree [] w = as_long w w refl
all_extends depth tree (v ∷ vs) w = then_extends w (walk_of depth tree v w) (λ u. walk_all depth tree vs u) (walk_extends depth tree v w) (λ u. all_extends depth tree vs u)

-- the visits that a walk is to have are those that it has, and more
leads_on : (depth : ℕ) (tree : Tree) (vs : List Visit) (w : Walk) (xs : List Visit) → visits_of (walk_all depth tree vs w) ≡ Ok xs → (more : List Visit) × (xs ≡ w.visits ++ more)
leads_on depth tree vs w xs h = by_walk (walk_all depth tree vs w) (all_extends depth tree vs w) h
  where
    by_walk : (r : Result Walk Gap) → IfExtends w r → visits_of r ≡ Ok xs → (more : List Visit) × (xs ≡ w.visits ++ more)
    by_walk (Ok u) p h = (p.0, sym (ok_same u.visits xs h) ∙ p.1)
    by_walk (Err e) p h = cc

-- ---- the roles of the chain, one after another

or_second : (a b : Bool) → (a || b) ≡ false → b ≡ false
or_second false b h = h
or_second true b h = cc

-- What is visited next: nothing, a role without a document, or one with its document.
pub data Visits (crypto : Crypto) (root : Root) (snapshot : Snapshot) (now : jiff.Timestamp) (roles done : List RoleDoc) (v : Visit) (w : Walk) (done' : List RoleDoc) : Type 0 where
  none_more : is_over v w ≡ true → done' ≡ done → Visits crypto root snapshot now roles done v w done'
  without : (r : RoleDoc) → is_over v w ≡ false → is_pinned snapshot v.name ≡ false → r.bytes ≡ None → done' ≡ done ++ r ∷ [] → Visits crypto root snapshot now roles done v w done'
  with_document : (r : RoleDoc) (later : List RoleDoc) (bytes : List ℕ) → is_over v w ≡ false → is_pinned snapshot v.name ≡ true → visit_in r ≡ v → r.bytes ≡ Some bytes
      → (t : IsTrustedRole crypto root snapshot (documents_in roles) now v bytes) → held_in roles v.name ≡ Some (record { bytes = bytes; document = t.doc }) → done ++ r ∷ later ≡ roles → done' ≡ done ++ r ∷ []
      → Visits crypto root snapshot now roles done v w done'

module _ (crypto : Crypto) (root : Root) (snapshot : Snapshot) (now : jiff.Timestamp) (path : List ℕ) (max : ℕ) (roles : List RoleDoc) where
  abbrev pub Trusts : RoleDoc → Type 0
  Trusts r = IsTrustedVisit crypto root snapshot (documents_in roles) now (visit_in r) r.bytes

  abbrev tree : Tree
  tree = record { documents = documents_in roles; snapshot = snapshot; path = path }

  -- These roles were visited, and the walk over these that are pending goes on to visit the rest.
  pub record Along (done rest : List RoleDoc) (vs : List Visit) (w : Walk) : Type 0 where
    pub roles_are : done ++ rest ≡ roles
    pub visits_are : w.visits ≡ map visit_in done
    pub was_read : AllByRecursion (λ (r : RoleDoc). IfSome r.bytes (λ b. is_among w.read r.name ≡ true)) done
    pub fits : w.left ≤ max
    pub leads : visits_of (walk_all max tree vs w) ≡ Ok (map visit_in roles)

  pub record Goes (done : List RoleDoc) (v : Visit) (vs : List Visit) (w : Walk) : Type 0 where
    pub step : Step
    pub cases : StepOf snapshot path (documents_in roles v.name) v w step
    pub done' : List RoleDoc
    pub rest' : List RoleDoc
    pub visits : Visits crypto root snapshot now roles done v w done'
    pub along : Along done' rest' (pending_after v step vs) step.walk

  -- at the end all were visited
  pub at_end : (done rest : List RoleDoc) (w : Walk) → Along done rest [] w → rest ≡ []
  at_end done rest w a = by_rest rest (append_cancel_left (map visit_in done) [] (map visit_in rest) (append-nil (map visit_in done) ∙ sym a.visits_are ∙ ok_same w.visits (map visit_in roles) a.leads ∙ ap (map visit_in) (sym a.roles_are) ∙ map-append visit_in done rest))
    where
      by_rest : (rest : List RoleDoc) → [] ≡ map visit_in rest → rest ≡ []
      by_rest [] e = refl
      by_rest (r ∷ rs) e = cc

  pub all_done : (done rest : List RoleDoc) (w : Walk) → Along done rest [] w → done ≡ roles
  all_done done rest w a = sym (append-nil done) ∙ ap (λ x. done ++ x) (sym (at_end done rest w a)) ∙ a.roles_are

  pub all_visited : (done rest : List RoleDoc) (w : Walk) → Along done rest [] w → w.visits ≡ map visit_in roles
  all_visited done rest w a = ok_same w.visits (map visit_in roles) a.leads

  -- a visit is of the next role
  pub record NextRole (done rest : List RoleDoc) (v : Visit) : Type 0 where
    pub role : RoleDoc
    pub later : List RoleDoc
    pub rest_is : rest ≡ role ∷ later
    pub is : visit_in role ≡ v

  next_role : (done rest : List RoleDoc) (v : Visit) (vs : List Visit) (w u : Walk) → done ++ rest ≡ roles → w.visits ≡ map visit_in done → u.visits ≡ w.visits ++ v ∷ [] → visits_of (walk_all max tree vs u) ≡ Ok (map visit_in roles) → NextRole done rest v
  next_role done rest v vs w u all made more leads = by_rest rest (append_cancel_left (map visit_in done) (map visit_in rest) (v ∷ on.0) whole)
    where
      on : (more : List Visit) × (map visit_in roles ≡ u.visits ++ more)
      on = leads_on max tree vs u (map visit_in roles) leads

      whole : map visit_in done ++ map visit_in rest ≡ map visit_in done ++ v ∷ on.0
      whole =
          sym (map-append visit_in done rest) ∙ ap (map visit_in) all ∙ on.1 ∙ ap (λ x. x ++ on.0) more ∙ append_assoc w.visits (v ∷ []) on.0 ∙ ap (λ x. x ++ v ∷ on.0) made

      by_rest : (rest : List RoleDoc) → map visit_in rest ≡ v ∷ on.0 → NextRole done rest v
      by_rest [] e = cc
      by_rest (r ∷ rs) e = record { role = r; later = rs; rest_is = refl; is = head_same (visit_in r) v (map visit_in rs) on.0 e }
        where
          head_same : (x y : Visit) (xs ys : List Visit) → x ∷ xs ≡ y ∷ ys → x ≡ y
          head_same x y xs ys h = cc

  one_further : (done rest : List RoleDoc) (v : Visit) (n : NextRole done rest v) → done ++ rest ≡ roles → done ++ n.role ∷ n.later ≡ roles
  one_further done rest v n all = ap (λ x. done ++ x) (sym n.rest_is) ∙ all

  visits_more : (done rest : List RoleDoc) (v : Visit) (w u : Walk) (n : NextRole done rest v) → w.visits ≡ map visit_in done → u.visits ≡ w.visits ++ v ∷ [] → u.visits ≡ map visit_in (done ++ n.role ∷ [])
  visits_more done rest v w u n made more = more ∙ ap (λ x. x ++ v ∷ []) made ∙ ap (λ x. map visit_in done ++ x ∷ []) (sym n.is) ∙ sym (map-append visit_in done (n.role ∷ []))

  module _ (trusted : AllByRecursion Trusts roles) (done rest : List RoleDoc) (v : Visit) (vs : List Visit) (w : Walk) (a : Along done rest (v ∷ vs) w) where
    -- the walk after a step
    goes_along : (step : Step) → StepOf snapshot path (documents_in roles v.name) v w step → visits_of (walk_all max tree (pending_after v step vs) step.walk) ≡ Ok (map visit_in roles) → (n : NextRole done rest v)
        → step.walk.visits ≡ w.visits ++ v ∷ [] → IfSome n.role.bytes (λ b. is_among step.walk.read n.role.name ≡ true) → Along (done ++ n.role ∷ []) n.later (pending_after v step vs) step.walk
    goes_along step s leads n more read = record {
      roles_are = append_assoc done (n.role ∷ []) n.later ∙ one_further done rest v n a.roles_are;
      visits_are = visits_more done rest v w step.walk n a.visits_are more;
      was_read = all_append _ done n.role (each_map _ _ done still_read a.was_read) read;
      fits = le_trans (step_left snapshot path (documents_in roles v.name) v w step s) a.fits;
      leads = leads;
    }
      where
        by_bytes : (name : List ℕ) (o : Option (List ℕ)) → IfSome o (λ b. is_among w.read name ≡ true) → IfSome o (λ b. is_among step.walk.read name ≡ true)
        by_bytes name None h = tt
        by_bytes name (Some b) h = step_reads snapshot path (documents_in roles v.name) v w step s name h

        still_read : (r : RoleDoc) → IfSome r.bytes (λ b. is_among w.read r.name ≡ true) → IfSome r.bytes (λ b. is_among step.walk.read r.name ≡ true)
        still_read r h = by_bytes r.name r.bytes h

    -- none of those that were read has its name
    unread_before : is_over v w ≡ false → AllByRecursion (λ (r : RoleDoc). IfSome r.bytes (λ b. r.name ≡ v.name → ⊥)) done
    unread_before allowed = each_map _ _ done (λ r h. by_bytes r.name r.bytes h) a.was_read
      where
        by_bytes : (name : List ℕ) (o : Option (List ℕ)) → IfSome o (λ b. is_among w.read name ≡ true) → IfSome o (λ b. name ≡ v.name → ⊥)
        by_bytes name None h = tt
        by_bytes name (Some b) h = λ e. let never : true ≡ false = sym h ∙ ap (is_among w.read) e ∙ or_second (w.left == 0) (is_among w.read v.name) allowed in cc

    trusts_next : (n : NextRole done rest v) → Trusts n.role
    trusts_next n = all_in Trusts done n.role n.later (subst (λ rs. AllByRecursion Trusts rs) (sym (one_further done rest v n a.roles_are)) trusted)

    -- a role that is pinned has a document
    read_next : (step : Step) → StepOf snapshot path (documents_in roles v.name) v w step → visits_of (walk_all max tree (pending_after v step vs) step.walk) ≡ Ok (map visit_in roles) → (n : NextRole done rest v)
        → is_over v w ≡ false → is_pinned snapshot v.name ≡ true → step.walk.visits ≡ w.visits ++ v ∷ [] → is_among step.walk.read v.name ≡ true → Goes done v vs w
    read_next step s leads n allowed pinned more read = by_bytes n.role.bytes refl (trusts_next n)
      where
        by_bytes : (o : Option (List ℕ)) → n.role.bytes ≡ o → IsTrustedVisit crypto root snapshot (documents_in roles) now (visit_in n.role) o → Goes done v vs w
        by_bytes None e t = let never : true ≡ false = sym pinned ∙ ap (λ (x : Visit). is_pinned snapshot x.name) (sym n.is) ∙ t in cc
        by_bytes (Some bytes) e t =
            let trusted_role : IsTrustedRole crypto root snapshot (documents_in roles) now v bytes = subst (λ x. IsTrustedRole crypto root snapshot (documents_in roles) now x bytes) n.is t in
            let name : n.role.name ≡ v.name = ap (λ (x : Visit). x.name) n.is in
            record {
              step = step;
              cases = s;
              done' = done ++ n.role ∷ [];
              rest' = n.later;
              visits = with_document n.role n.later bytes allowed pinned n.is e trusted_role
                  (ap (λ rs. held_in rs v.name) (sym (one_further done rest v n a.roles_are)) ∙ skip_held v.name done (n.role ∷ n.later) (unread_before allowed) ∙ first_held n.role n.later v.name bytes trusted_role.doc name e trusted_role.read)
                  (one_further done rest v n a.roles_are) refl;
              along = goes_along step s leads n more (subst (λ o. IfSome o (λ b. is_among step.walk.read n.role.name ≡ true)) (sym e) (ap (is_among step.walk.read) name ∙ read));
            }

    skip_next : (step : Step) → (s : StepOf snapshot path (documents_in roles v.name) v w step) → visits_of (walk_all max tree (pending_after v step vs) step.walk) ≡ Ok (map visit_in roles) → (n : NextRole done rest v)
        → is_over v w ≡ false → is_pinned snapshot v.name ≡ false → step.walk.visits ≡ w.visits ++ v ∷ [] → Goes done v vs w
    skip_next step s leads n allowed free more = by_bytes n.role.bytes refl (trusts_next n)
      where
        by_bytes : (o : Option (List ℕ)) → n.role.bytes ≡ o → IsTrustedVisit crypto root snapshot (documents_in roles) now (visit_in n.role) o → Goes done v vs w
        by_bytes None e t = record {
          step = step;
          cases = s;
          done' = done ++ n.role ∷ [];
          rest' = n.later;
          visits = without n.role allowed free e refl;
          along = goes_along step s leads n more (subst (λ o. IfSome o (λ b. is_among step.walk.read n.role.name ≡ true)) (sym e) tt);
        }
        by_bytes (Some bytes) e t = absurd (never_pinned t)
          where
            never_pinned : IsTrustedRole crypto root snapshot (documents_in roles) now (visit_in n.role) bytes → ⊥
            never_pinned t = let never : true ≡ false = sym (ap is_some t.pin_is) ∙ ap (λ (x : Visit). is_pinned snapshot x.name) n.is ∙ free in cc

    by_step : (step : Step) → StepOf snapshot path (documents_in roles v.name) v w step → visits_of (walk_all max tree (pending_after v step vs) step.walk) ≡ Ok (map visit_in roles) → Goes done v vs w
    by_step step (passed_over over is) leads = record {
      step = step;
      cases = passed_over over is;
      done' = done;
      rest' = rest;
      visits = none_more over refl;
      along = subst (λ (s : Step). Along done rest (pending_after v s vs) s.walk) (sym is) (record {
        roles_are = a.roles_are;
        visits_are = a.visits_are;
        was_read = a.was_read;
        fits = a.fits;
        leads = subst (λ (s : Step). visits_of (walk_all max tree (pending_after v s vs) s.walk) ≡ Ok (map visit_in roles)) is leads;
      });
    }
    by_step step (unpinned allowed free is) leads =
        let more : step.walk.visits ≡ w.visits ++ v ∷ [] = ap (λ (s : Step). s.walk.visits) is in
        skip_next step (unpinned allowed free is) leads (next_role done rest v (pending_after v step vs) w step.walk a.roles_are a.visits_are more leads) allowed free more
    by_step step (listing doc allowed pin there l is) leads =
        let more : step.walk.visits ≡ w.visits ++ v ∷ [] = ap (λ (s : Step). s.walk.visits) is in
        read_next step (listing doc allowed pin there l is) leads (next_role done rest v (pending_after v step vs) w step.walk a.roles_are a.visits_are more leads) allowed pin more
        (ap (λ (s : Step). is_among s.walk.read v.name) is ∙ among_last w.read v.name)
    by_step step (followed doc next allowed pin there l m is) leads =
        let more : step.walk.visits ≡ w.visits ++ v ∷ [] = ap (λ (s : Step). s.walk.visits) is in
        read_next step (followed doc next allowed pin there l m is) leads (next_role done rest v (pending_after v step vs) w step.walk a.roles_are a.visits_are more leads) allowed pin more
        (ap (λ (s : Step). is_among s.walk.read v.name) is ∙ among_last w.read v.name)

    pub goes : Goes done v vs w
    goes = by_visits (step_ok (visit_of tree v w >>= λ step. walk_all max tree (pending_after v step vs) step.walk) (λ u. Ok u.visits) (map visit_in roles) (sym (by_list max tree v vs w a.fits) ∙ a.leads))
      where
        by_visits : (u : Walk) × ((visit_of tree v w >>= λ step. walk_all max tree (pending_after v step vs) step.walk) ≡ Ok u) × (◌≡◌ {A = Result (List Visit) Gap} (Ok u.visits) (Ok (map visit_in roles))) → Goes done v vs w
        by_visits (u, walked, visits) =
            let s = step_ok (visit_of tree v w) _ u walked in
            by_step s.0 (step_cases tree v w s.0 s.1) (ap visits_of s.2 ∙ visits)

  -- at the beginning nothing was visited
  pub begins : order (documents_in roles) snapshot path max ≡ Some (map visit_in roles) → Along [] roles (first_visit ∷ []) (first_walk max)
  unfolding search_of
  begins o = record {
    roles_are = refl;
    visits_are = refl;
    was_read = tt;
    fits = le_refl max;
    leads = by_walk (walk_of max tree first_visit (first_walk max)) o;
  }
    where
      by_walk : (r : Result Walk Gap) → result_ok (r >>= λ w. Ok w.visits) ≡ Some (map visit_in roles) → visits_of (r >>= λ u. walk_all max tree [] u) ≡ Ok (map visit_in roles)
      by_walk (Ok u) h = ap Ok (some_same u.visits (map visit_in roles) h)
      by_walk (Err e) h = cc

  -- ---- the first of them

  -- The first role is that of `targets`, with its document: else no document would list the path.
  pub record Begins : Type 0 where
    pub first : RoleDoc
    pub later : List RoleDoc
    pub roles_are : first ∷ later ≡ roles
    pub is : visit_in first ≡ first_visit
    pub bytes : List ℕ
    pub there : first.bytes ≡ Some bytes
    pub trusted : IsTrustedRole crypto root snapshot (documents_in roles) now first_visit bytes
    pub held : held_in roles (codes "targets") ≡ Some (record { bytes = bytes; document = trusted.doc })

  pub first_role : {T : Type 0} (lists : Targets → Option T) (x : T) → AllByRecursion Trusts roles → order (documents_in roles) snapshot path max ≡ Some (map visit_in roles) → option_and_then lists (last_in roles) ≡ Some x → Begins
  first_role lists x trusted o listed = by_goes (goes trusted [] roles first_visit [] (first_walk max) (begins o))
    where
      never : last_in roles ≡ None → Begins
      never e = let no : None ≡ Some x = sym (ap (option_and_then lists) e) ∙ listed in cc

      none_last : (r : RoleDoc) → r.bytes ≡ None → last_in (r ∷ []) ≡ None
      none_last r e = ap (λ o. at_name r.name (cons_option (option_and_then (λ b. option_map (named_content r.name) (result_ok (targets_document b))) o) [])) e

      by_goes : Goes [] first_visit [] (first_walk max) → Begins
      by_goes g = by_visits g.visits
        where
          ended_here : (is_over first_visit (first_walk max) ≡ true) ⊎ (is_pinned snapshot (codes "targets") ≡ false) → g.done' ≡ roles
          ended_here h =
              all_done g.done' g.rest' g.step.walk
              (subst (λ vs. Along g.done' g.rest' vs g.step.walk) (ap (λ (n : Next). put_before (codes "targets") n []) (still_next snapshot path (documents_in roles (codes "targets")) first_visit (first_walk max) g.step g.cases h)) g.along)

          by_visits : Visits crypto root snapshot now roles [] first_visit (first_walk max) g.done' → Begins
          by_visits (none_more over is) = never (ap last_in (sym (ended_here (inl over)) ∙ is))
          by_visits (without r allowed free none is) = never (ap last_in (sym (ended_here (inr free)) ∙ is) ∙ none_last r none)
          by_visits (with_document r later bytes allowed pinned v_is e t held place is) = record {
            first = r;
            later = later;
            roles_are = place;
            is = v_is;
            bytes = bytes;
            there = e;
            trusted = t;
            held = held;
          }
