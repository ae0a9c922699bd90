-- The names in the visits of a search are no longer than the documents that it goes over.
use Rattle.std.proofs.Common.{◌≡◌, ℕ, zero, suc, ◌≤◌, List, [], ◌∷◌, ◌++◌, map, length, Bool, true, false, ◌||◌, ◌==◌, cond, if◌then◌else◌, Option, Some, None, IfSome, option_map, option_and_then, ok_or, Result, Ok, Err, refl, ap, ◌∙◌, subst, arith, le_trans}
use Rattle.std.proofs.lemmas.List.{length-map}
use Rattle.std.specs.Prelude.{⊤}
use Rattle.std.specs.List.{AllByRecursion, cons_option, filter_map}
use Rattle.std.specs.Map.{lookup}
use Rattle.std.specs.Result.{result_ok}
use Rattle.std.specs.BTreeMap.{is_at}
use Rattle.foundation.specs.Steps.{◌>>=◌}
use Rattle.foundation.specs.Results.{some_same}
use Rattle.sigstore_types_parts.specs.Entries.{text_cmp}
use Rattle.sigstore_tuf_text.specs.declared.error.Error.{Error}
use Rattle.sigstore_tuf_parts.specs.declared.snapshot.Snapshot.{Snapshot}
use Rattle.sigstore_tuf_parts.specs.declared.targets.DelegatedRole.{DelegatedRole}
use Rattle.sigstore_tuf_parts.specs.declared.targets.Targets.{Targets}
use Rattle.sigstore_tuf_parts.specs.Delegation.{matches_path_of}
use Rattle.sigstore_tuf_parts.specs.Document.{Document, content_in}
use Rattle.sigstore_tuf_parts.specs.Threshold.{is_among}
use Rattle.sigstore_tuf_rules.specs.declared.chain.RoleDoc.{RoleDoc}
use Rattle.sigstore_tuf_rules.specs.declared.visit.Next.{Next}
use Rattle.sigstore_tuf_rules.specs.declared.visit.Visit.{Visit}
use Rattle.sigstore_tuf_rules.specs.declared.visit.Walk.{Walk}
use Rattle.sigstore_tuf_rules.specs.Documents.{targets_document}
use Rattle.sigstore_tuf_rules.specs.Order.{Tree, Gap, missing, ended, visited, having_read, is_top_level, is_pinned, lists, with_name, nothing_next, pattern_or, matching, delegated_in, Step, still, read_of, read_named, visit_of, walk_each, ended_if, walk_of, first_visit, first_walk, search_of, order}
use Rattle.sigstore_tuf_rules.specs.Trusted.{visit_in, read_in, documents_in}
use Rattle.sigstore_tuf_rules.specs.SearchLaws.{MakesAtMost}
use Rattle.sigstore_tuf_rules.proofs.Walks.{at_most_max}
use Rattle.command_archive.proofs.DelegatedNames.{Gives, given, bind, DelegatesShort, delegates_short}

module _ (n : ℕ) where
  abbrev Short : List ℕ → Type 0
  Short t = length t ≤ n

  -- the names of a visit are at most so long
  pub record IsShortVisit (v : Visit) : Type 0 where
    pub name : length v.name ≤ n
    pub delegator : length v.delegator ≤ n

  abbrev pub AreShortVisits : List Visit → Type 0
  AreShortVisits vs = AllByRecursion IsShortVisit vs

  one_more : (vs : List Visit) (v : Visit) → AreShortVisits vs → IsShortVisit v → AreShortVisits (vs ++ v ∷ [])
  one_more [] v h s = (s, tt)
  one_more (u ∷ vs) v h s = (h.0, one_more vs v h.1 s)

  -- ---- what follows a document

  abbrev AreShortNames : List (List ℕ) → Type 0
  AreShortNames names = AllByRecursion Short names

  abbrev IsShortNext : Next → Type 0
  IsShortNext next = AreShortNames next.names

  abbrev AreShortRoles : List DelegatedRole → Type 0
  AreShortRoles ds = AllByRecursion (λ (d : DelegatedRole). length d.name ≤ n) ds

  either : {T E : Type 0} {P : T → Type 0} (b : Bool) (r s : Result T E) → Gives P r → Gives P s → Gives P (if b then r else s)
  either true r s g h = g
  either false r s g h = h

  whether : (r : Result Bool Error) → Gives (λ x. ⊤) (pattern_or r)
  whether r x h = tt

  matching_short : (path : List ℕ) (ds : List DelegatedRole) → AreShortRoles ds → Gives IsShortNext (matching path ds)
  matching_short path [] s = given IsShortNext nothing_next tt
  matching_short path (d ∷ later) s =
      either (is_top_level d.name) (matching path later) _ (matching_short path later s.1) (bind (whether (matches_path_of d path)) (λ found t.
      either found _ (matching path later)
      (either d.terminating (Ok (record { names = d.name ∷ []; ends = true })) (matching path later >>= λ next. Ok (with_name d.name next)) (given IsShortNext _ (s.0, tt))
      (bind (matching_short path later s.1) (λ next h. given IsShortNext (with_name d.name next) (s.0, h)))) (matching_short path later s.1)))

  -- ---- the search

  module _ (tree : Tree) (known : (name : List ℕ) (doc : Targets) → tree.documents name ≡ Some doc → DelegatesShort n doc) where
    pub record IsShortStep (s : Step) : Type 0 where
      pub visits : AreShortVisits s.walk.visits
      pub next : AreShortNames s.next.names

    abbrev IsShortWalk : Walk → Type 0
    IsShortWalk w = AreShortVisits w.visits

    still_short : (w : Walk) → IsShortWalk w → Gives {E = Gap} IsShortStep (Ok (still w))
    still_short w h = given IsShortStep (still w) (record { visits = h; next = tt })

    document_short : (doc : Targets) (w : Walk) → DelegatesShort n doc → IsShortWalk w → Gives IsShortStep (read_of tree doc w)
    document_short doc w s h =
        either (lists doc tree.path) (Ok (still (ended w))) _ (still_short (ended w) h)
        (bind (matching_short tree.path (delegated_in doc.delegations) s) (λ next k. given IsShortStep (record { walk = w; next = next }) (record { visits = h; next = k })))

    named_short : (name : List ℕ) (w : Walk) → IsShortWalk w → Gives IsShortStep (read_named tree name w)
    named_short name w h = by_document (tree.documents name) refl
      where
        by_document : (o : Option Targets) → tree.documents name ≡ o → Gives IsShortStep (ok_or o (missing name) >>= λ doc. read_of tree doc (having_read name w))
        by_document None e = λ x g. cc
        by_document (Some doc) e = document_short doc (having_read name w) (known name doc e) h

    visit_short : (v : Visit) (w : Walk) → IsShortVisit v → IsShortWalk w → Gives IsShortStep (visit_of tree v w)
    visit_short v w s h =
        either ((w.left == 0) || is_among w.read v.name) (Ok (still w)) _ (still_short w h)
        (either (is_pinned tree.snapshot v.name) (read_named tree v.name (visited v w)) (Ok (still (visited v w))) (named_short v.name (visited v w) (one_more w.visits v h s))
        (still_short (visited v w) (one_more w.visits v h s)))

    abbrev Walks : (Visit → Walk → Result Walk Gap) → Type 0
    Walks walk = (v : Visit) (w : Walk) → IsShortVisit v → IsShortWalk w → Gives IsShortWalk (walk v w)

    each_short : (walk : Visit → Walk → Result Walk Gap) → Walks walk → (delegator : List ℕ) → Short delegator → (names : List (List ℕ)) → AreShortNames names → (w : Walk) → IsShortWalk w
        → Gives IsShortWalk (walk_each walk delegator names w)
    each_short walk f delegator d [] s w h = given IsShortWalk w h
    each_short walk f delegator d (name ∷ names) s w h =
        bind (f (record { name = name; delegator = delegator }) w (record { name = s.0; delegator = d }) h) (λ u k. each_short walk f delegator d names s.1 u k)

    ended_short : (b : Bool) (w : Walk) → IsShortWalk w → IsShortWalk (ended_if b w)
    ended_short true w h = h
    ended_short false w h = h

    walk_short : (depth : ℕ) → Walks (walk_of depth tree)
    unfolding walk_of
    walk_short zero v w s h = given IsShortWalk w h
    walk_short (suc depth) v w s h =
        bind (visit_short v w s h) (λ step k. bind (each_short (walk_of depth tree) (walk_short depth) v.name s.name step.next.names k.next step.walk k.visits)
        (λ u j. given IsShortWalk (ended_if step.next.ends u) (ended_short step.next.ends u j)))

    search_short : (max : ℕ) → 7 ≤ n → Gives AreShortVisits (search_of tree max)
    unfolding search_of
    search_short max le = bind (walk_short max first_visit (first_walk max) (record { name = le; delegator = omega arith }) tt) (λ w h. given AreShortVisits w.visits h)

  -- ---- the documents of roles

  -- the document of a role is at most so long
  abbrev pub IsShortRole : RoleDoc → Type 0
  IsShortRole r = IfSome r.bytes (λ bytes. length bytes ≤ n)

  abbrev IsShortEntry : (List ℕ × Targets) → Type 0
  IsShortEntry e = DelegatesShort n e.1

  weaker : (m : ℕ) (ds : List DelegatedRole) → m ≤ n → AllByRecursion (λ (d : DelegatedRole). length d.name ≤ m) ds → AreShortRoles ds
  weaker m [] le h = tt
  weaker m (d ∷ ds) le h = (le_trans h.0 le, weaker m ds le h.1)

  read_short : (r : RoleDoc) → IsShortRole r → IfSome (read_in r) IsShortEntry
  read_short r h = by_bytes r.bytes h
    where
      by_document : (bytes : List ℕ) (d : Result (Document Targets) Error) → targets_document bytes ≡ d → length bytes ≤ n
          → IfSome (option_map (λ (doc : Document Targets). (r.name, content_in doc)) (result_ok d)) IsShortEntry
      by_document bytes (Ok doc) e le = weaker (length bytes) (delegated_in (content_in doc).delegations) le (delegates_short bytes doc e)
      by_document bytes (Err x) e le = tt

      by_bytes : (o : Option (List ℕ)) → IfSome o (λ bytes. length bytes ≤ n)
          → IfSome (option_and_then (λ bytes. option_map (λ (doc : Document Targets). (r.name, content_in doc)) (result_ok (targets_document bytes))) o) IsShortEntry
      by_bytes None h = tt
      by_bytes (Some bytes) h = by_document bytes (targets_document bytes) refl h

  entries_short : (roles : List RoleDoc) → AllByRecursion IsShortRole roles → AllByRecursion IsShortEntry (filter_map read_in roles)
  entries_short [] h = tt
  entries_short (r ∷ roles) h = put (read_in r) (read_short r h.0) (filter_map read_in roles) (entries_short roles h.1)
    where
      put : (o : Option (List ℕ × Targets)) → IfSome o IsShortEntry → (es : List (List ℕ × Targets)) → AllByRecursion IsShortEntry es → AllByRecursion IsShortEntry (cons_option o es)
      put None s es g = g
      put (Some e) s es g = (s, g)

  found_short : (test : List ℕ → Bool) (es : List (List ℕ × Targets)) → AllByRecursion IsShortEntry es → (doc : Targets) → lookup test es ≡ Some doc → DelegatesShort n doc
  found_short test [] s doc h = cc
  found_short test (e ∷ es) s doc h = by_test (test e.0) h (found_short test es s.1 doc)
    where
      by_test : (b : Bool) → cond b (Some e.1) (lookup test es) ≡ Some doc → (lookup test es ≡ Some doc → DelegatesShort n doc) → DelegatesShort n doc
      by_test true h later = subst (DelegatesShort n) (some_same e.1 doc h) s.0
      by_test false h later = later h

  -- ---- the roles of a chain

  of_visits : (roles : List RoleDoc) → AreShortVisits (map visit_in roles) → AllByRecursion (λ (r : RoleDoc). IsShortVisit (visit_in r)) roles
  of_visits [] h = tt
  of_visits (r ∷ roles) h = (h.0, of_visits roles h.1)

module _ (roles : List RoleDoc) (snapshot : Snapshot) (path : List ℕ) (max : ℕ) (o : order (documents_in roles) snapshot path max ≡ Some (map visit_in roles)) where
  over : Tree
  over = record { documents = documents_in roles; snapshot = snapshot; path = path }

  searched : search_of over max ≡ Ok (map visit_in roles)
  unfolding over
  searched = by_search (search_of over max) refl o
    where
      by_search : (r : Result (List Visit) Gap) → search_of over max ≡ r → result_ok r ≡ Some (map visit_in roles) → search_of over max ≡ Ok (map visit_in roles)
      by_search (Ok vs) e h = e ∙ ap Ok (some_same vs (map visit_in roles) h)
      by_search (Err g) e h = cc

  -- there are no more than the search allows
  pub are_few : length roles ≤ max
  are_few = subst (λ k. k ≤ max) (length-map roles visit_in) (subst (MakesAtMost max) searched (at_most_max over max))

  -- and their names are as short as their documents
  pub names_short : (n : ℕ) → 7 ≤ n → AllByRecursion (IsShortRole n) roles → AllByRecursion (λ (r : RoleDoc). IsShortVisit n (visit_in r)) roles
  unfolding over
  names_short n le s =
      of_visits n roles
      (search_short n over (λ name doc e. found_short n (is_at (text_cmp name)) (filter_map read_in roles) (entries_short n roles s) doc e) max le (map visit_in roles) searched)
