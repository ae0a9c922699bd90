-- What holds where the visits come to a place: those before it are trusted, and the search's first; and what parts the list and the
-- search there.
use Rattle.std.proofs.Common.{◌≡◌, ℕ, ◌+◌, ◌-◌, ◌<◌, ◌==◌, ◌||◌, if◌then◌else◌, List, [], ◌∷◌, ◌++◌, map, length, append_assoc, append-nil, Bool, true, false, Option, Some, None, Result, Ok, Err, refl, sym, ap, ◌∙◌, subst, arith, le_refl}
use Rattle.std.specs.Prelude.{option_map}
use Rattle.std.specs.Result.{result_ok}
use Rattle.std.proofs.lemmas.Bool.Decides.{nat_tests}
use Rattle.std.proofs.lemmas.List.{map-append, append_cancel_left}
use Rattle.jiff_core.specs.declared.timestamp.Timestamp as jiff
use Rattle.foundation.specs.Results.{ok_same, some_same}
use Rattle.foundation.specs.Steps.{◌>>=◌}
use Rattle.sigstore_keys.specs.Crypto.{Crypto}
use Rattle.sigstore_tuf_parts.specs.declared.root.Root as declared
use Rattle.sigstore_tuf_parts.specs.declared.snapshot.Snapshot.{Snapshot}
use Rattle.sigstore_tuf_parts.specs.declared.targets.TargetFile.{TargetFile}
use Rattle.sigstore_tuf_parts.specs.declared.targets.Targets.{Targets}
use Rattle.sigstore_tuf_parts.specs.Document.{Document, content_in}
use Rattle.sigstore_tuf_parts.specs.Pinned.{Fresh}
use Rattle.sigstore_tuf_parts.specs.Threshold.{is_among}
use Rattle.sigstore_tuf_rules.specs.declared.chain.RoleDoc.{RoleDoc}
use Rattle.sigstore_tuf_rules.specs.declared.documents.Held.{Held}
use Rattle.sigstore_tuf_rules.specs.declared.documents.InForce.{InForce}
use Rattle.sigstore_tuf_rules.specs.declared.visit.Visit.{Visit}
use Rattle.sigstore_tuf_rules.specs.declared.visit.Walk.{Walk}
use Rattle.sigstore_tuf_rules.specs.Documents.{content_of}
use Rattle.sigstore_tuf_rules.specs.Order.{Tree, Gap, Step, nothing_next, visited, having_read, visit_of, is_pinned, unread_of, walk_of, search_of, order, first_visit, first_walk}
use Rattle.sigstore_tuf_rules.specs.SearchLaws.{walk_all, visits_of}
use Rattle.sigstore_tuf_rules.specs.Trusted.{visit_in, documents_in}
use Rattle.sigstore_tuf_rules.proofs.Stepping.{followed, cases_step}
use Rattle.sigstore_tuf_offers.proofs.ChainVisits.{held_in, content_held}
use Rattle.trust_archive.specs.declared.archive.Archive.{Archive}
use Rattle.trust_archive.specs.Cause.{AreVisits, HasAll, IsNext, listed_by, OrderCause, another, beyond, lacking, unpinned, short, unlisted, AreInForce}
use Rattle.trust_archive.specs.Judgement.{Going, next_of, roles_of, begun}
use Rattle.trust_archive.proofs.Complete.{roles_complete}
use Rattle.trust_archive.proofs.Limited.{Comes, limited, Counted, so_many, listed_last, Limited, comes_limited}
use Rattle.trust_archive.proofs.Sound.{in_chain, Inv, visited_sound, at_first, walk_in, pinned_so, unless}
use Rattle.trust_archive.proofs.VisitCauses.{Parts, other_visit, none_next, no_document, not_pinned, lists_none}
use Rattle.trust_archive.proofs.Walking.{Visited, stepped, drained, skips, is_unread, last_made}
use Rattle.trust_archive.proofs.Whole.{searched}

-- the search is the walk from `targets` on
order_walk : (documents : List ℕ → Option Targets) (snapshot : Snapshot) (path : List ℕ) (max : ℕ) (visits : List Visit) → order documents snapshot path max ≡ Some visits
    → Visited max (record { documents = documents; snapshot = snapshot; path = path }) (first_visit ∷ []) (first_walk max) ≡ Ok visits
unfolding search_of
order_walk documents snapshot path max visits h = by_walk (walk_of max (record { documents = documents; snapshot = snapshot; path = path }) first_visit (first_walk max)) h
  where
    by_walk : (r : Result Walk Gap) → result_ok (r >>= λ w. Ok w.visits) ≡ Some visits → visits_of (r >>= λ u. walk_all max (record { documents = documents; snapshot = snapshot; path = path }) [] u) ≡ Ok visits
    by_walk (Ok u) e = ap Ok (some_same u.visits visits e)
    by_walk (Err gap) e = cc

none_added : {C : Type 0} (visits : List Visit) (v : Visit) → visits ≡ visits ++ v ∷ [] → C
none_added visits v h = let none : [] ≡ v ∷ [] = append_cancel_left visits [] (v ∷ []) (append-nil visits ∙ h) in cc

-- ---- the walk goes along with the visits

module _ (crypto : Crypto) (now : jiff.Timestamp) (path : List ℕ) (max : ℕ) (root : declared.Root) (snap : Held Snapshot) (all : List RoleDoc) (documents : List ℕ → Option Targets)
    (has : (q : List ℕ) (h : Held Targets) → held_in all q ≡ Some h → documents q ≡ Some (content_of h)) where
  abbrev Invariant : List RoleDoc → List RoleDoc → Going → Type 0
  Invariant done rest g = Inv crypto now path max root snap all documents has done rest g

  abbrev pub over : Tree
  over = record { documents = documents; snapshot = content_of snap; path = path }

  pub record Reached (done before later : List RoleDoc) (g k : Going) : Type 0 where
    pub inv : Inv crypto now path max root snap all documents has (done ++ before) later k
    pub leads : Visited max over g.pending (walk_in done g) ≡ Visited max over k.pending (walk_in (done ++ before) k)

  reach : (before done later : List RoleDoc) (from : ℕ) (g k : Going) → Invariant done (before ++ later) g → Comes crypto now path from before g k → Reached done before later g k
  reach [] done later from g k i c = record {
    inv = subst (Invariant (done ++ []) later) c (subst (λ ds. Invariant ds later g) (sym (append-nil done)) i);
    leads = ap (λ ds. Visited max over g.pending (walk_in ds g)) (sym (append-nil done)) ∙ ap (λ (x : Going). Visited max over x.pending (walk_in (done ++ []) x)) c;
  }
  reach (r ∷ before) done later from g k i (h, v, c) =
      let f = visited_sound crypto now path max root snap all documents has done (before ++ later) r g h from i v in
      let n = reach before (done ++ r ∷ []) later (from + 1) h k f.inv c in
      let whole : (done ++ r ∷ []) ++ before ≡ done ++ r ∷ before = append_assoc done (r ∷ []) before in
      record {
        inv = subst (λ ds. Invariant ds later k) whole n.inv;
        leads = f.leads ∙ n.leads ∙ ap (λ ds. Visited max over k.pending (walk_in ds k)) whole;
      }

  -- from the beginning on, where these are all
  pub reach_all : (set : InForce) (k : Going) → content_in {T = declared.Root} set.root ≡ root → set.snapshot ≡ Some snap → set.targets ≡ [] → Comes crypto now path 0 all (begun set max) k → Reached [] all [] (begun set max) k
  reach_all set k root_is snap_is none c =
      reach all [] [] 0 (begun set max) k
      (subst (λ rs. Invariant [] rs (begun set max)) (sym (append-nil all)) (at_first crypto now path max root snap all documents has (begun set max) root_is snap_is none refl refl)) c

-- ---- what holds of the visits before a place

module _ (crypto : Crypto) (now : jiff.Timestamp) (path : List ℕ) (a : Archive) (root : declared.Root) (snapshot : Document Snapshot) (fresh : Fresh (content_in {T = Snapshot} snapshot).expires now) (set : InForce)
    (root_is : content_in {T = declared.Root} set.root ≡ root) (snap_is : set.snapshot ≡ Some (record { bytes = a.snapshot; document = snapshot })) (none : set.targets ≡ [])
    (max : ℕ) (before : List RoleDoc) (k : Going) (c : Comes crypto now path 0 before (begun set max) k) where
  abbrev snap : Held Snapshot
  snap = record { bytes = a.snapshot; document = snapshot }

  -- the same of a search that may make just so many visits
  abbrev so_limited : ℕ → Type 0
  so_limited m = Limited crypto now path 0 before m (begun set max) k

  pub visits : AreVisits crypto root (content_in {T = Snapshot} snapshot) now path before
  visits = record {
    trusted = r.inv.trusted;
    searched = searched (documents_in before) (content_in {T = Snapshot} snapshot) path (length before) (map visit_in before)
        (r.leads ∙ drained (length before) _ k.pending (walk_in before (limited l.left k)) r.inv.fits (by_counted l.counted));
  }
    where
      l : so_limited (length before)
      l = comes_limited crypto now path before 0 (length before) (begun set max) k (le_refl (length before)) c

      r : Reached crypto now path (length before) root snap before (documents_in before) (in_chain before) [] before [] (begun set (length before)) (limited l.left k)
      r = reach_all crypto now path (length before) root snap before (documents_in before) (in_chain before) set (limited l.left k) root_is snap_is none l.comes

      by_counted : Counted crypto now path (length before) (length before) (begun set max) k l.left → l.left ≡ 0
      by_counted (so_many is less) = omega (arith, is)
      by_counted (listed_last is less) = is

  pub in_force : AreInForce a root snapshot before k.set
  in_force = record {
    root_is = r.inv.root_is;
    snapshot_is = r.inv.snap_is;
    roles_are = λ name. ap (option_map content_of) (r.inv.held name) ∙ sym (content_held name before);
  }
    where
      r : Reached crypto now path max root snap before (documents_in before) (in_chain before) [] before [] (begun set max) k
      r = reach_all crypto now path max root snap before (documents_in before) (in_chain before) set k root_is snap_is none c

  -- ---- the role behind them

  module _ (role : RoleDoc) where
    module _ (documents : List ℕ → Option Targets) (all : HasAll before documents) (o : order documents (content_in {T = Snapshot} snapshot) path (length before + 1) ≡ Some (map visit_in (before ++ role ∷ []))) where
      has : (q : List ℕ) (h : Held Targets) → held_in before q ≡ Some h → documents q ≡ Some (content_of h)
      has q h e = all q (content_of h) (in_chain before q h e)

      abbrev over_these : Tree
      over_these = record { documents = documents; snapshot = content_in {T = Snapshot} snapshot; path = path }

      module _ (l : so_limited (length before + 1)) where
        reached : Reached crypto now path (length before + 1) root snap before documents has [] before [] (begun set (length before + 1)) (limited l.left k)
        reached = reach_all crypto now path (length before + 1) root snap before documents has set (limited l.left k) root_is snap_is none l.comes

        leads_there : Visited (length before + 1) over_these k.pending (walk_in before (limited l.left k)) ≡ Ok (map visit_in before ++ visit_in role ∷ [])
        leads_there =
            sym reached.leads ∙ order_walk documents (content_in {T = Snapshot} snapshot) path (length before + 1) (map visit_in (before ++ role ∷ [])) o
            ∙ ap Ok (map-append visit_in before (role ∷ []))

        -- it isn't next where no visit is left
        not_at_end : {C : Type 0} → l.left ≡ 0 → C
        not_at_end ended =
            none_added (map visit_in before) (visit_in role)
            (ok_same (map visit_in before) (map visit_in before ++ visit_in role ∷ [])
            (sym (drained (length before + 1) over_these k.pending (walk_in before (limited l.left k)) reached.inv.fits ended) ∙ leads_there))

        is_first : l.left ≡ 1 → (rest : List Visit) × (unread_of k.read k.pending ≡ Some (visit_in role, rest))
        is_first one = last_made (length before + 1) over_these (walk_in before (limited l.left k)) (visit_in role) reached.inv.fits one k.pending leads_there

        pub is_next : (rest : List Visit) × (unread_of k.read k.pending ≡ Some (visit_in role, rest))
        is_next = by_counted l.counted
          where
            by_counted : Counted crypto now path (length before) (length before + 1) (begun set max) k l.left → (rest : List Visit) × (unread_of k.read k.pending ≡ Some (visit_in role, rest))
            by_counted (so_many is less) = is_first (omega (arith, is))
            by_counted (listed_last is less) = not_at_end is

    one_more : so_limited (length before + 1)
    one_more = comes_limited crypto now path before 0 (length before + 1) (begun set max) k (omega arith) c

    not_next : ((rest : List Visit) → unread_of k.read k.pending ≡ Some (visit_in role, rest) → ⊥) → IsNext (content_in {T = Snapshot} snapshot) path before role → ⊥
    not_next other is = let n = is_next is.0 is.1 is.2 one_more in other n.0 n.1

    at_limit : (later rest : List RoleDoc) → rest ≡ role ∷ later → k.left ≡ 0 → OrderCause (content_in {T = Snapshot} snapshot) path max before rest
    at_limit later rest whole ended = by_counted one_more.counted
      where
        by_counted : Counted crypto now path (length before) (length before + 1) (begun set max) k one_more.left → OrderCause (content_in {T = Snapshot} snapshot) path max before rest
        by_counted (so_many is less) = let spent : k.left + length before ≡ max = less in beyond role later whole (omega (arith, spent, ended))
        by_counted (listed_last is less) = another role later whole (λ next. not_at_end next.0 next.1 next.2 one_more is)

    -- none is next
    at_end : (later rest : List RoleDoc) → rest ≡ role ∷ later → next_of k ≡ None → OrderCause (content_in {T = Snapshot} snapshot) path max before rest
    at_end later rest whole h = by_left (k.left == 0) refl h
      where
        by_left : (b : Bool) → (k.left == 0) ≡ b → (if b then None else unread_of k.read k.pending) ≡ None → OrderCause (content_in {T = Snapshot} snapshot) path max before rest
        by_left true e h = at_limit later rest whole (grind (arith, nat_tests))
        by_left false e h = another role later whole (not_next (λ vs at. let never : None ≡ Some (visit_in role, vs) = sym h ∙ at in cc))

    -- it is next, where it is the first that wasn't read
    module _ (vs : List Visit) (h : next_of k ≡ Some (visit_in role, vs)) where
      first : ((k.left == 0) ≡ false) × (unread_of k.read k.pending ≡ Some (visit_in role, vs))
      first = unless (k.left == 0) (unread_of k.read k.pending) (visit_in role, vs) h

      some_left : {C : Type 0} → k.left ≡ 0 → C
      some_left ended = let never : true ≡ false = sym (ap (λ n. n == 0) ended) ∙ first.0 in cc

      pub is_allowed : length before < max
      is_allowed = by_counted one_more.counted
        where
          by_counted : Counted crypto now path (length before) (length before + 1) (begun set max) k one_more.left → length before < max
          by_counted (so_many is less) = let spent : k.left + length before ≡ max = less in let allowed = first.0 in grind (arith, nat_tests, spent, allowed)
          by_counted (listed_last is less) = some_left less

      one : one_more.left ≡ 1
      one = by_counted one_more.counted
        where
          by_counted : Counted crypto now path (length before) (length before + 1) (begun set max) k one_more.left → one_more.left ≡ 1
          by_counted (so_many is less) = omega (arith, is)
          by_counted (listed_last is less) = some_left less

      -- documents beside those of the roles list nothing and delegate to nobody
      abbrev none_listed : Targets
      none_listed = record { type_ = []; spec_version = []; version = 0; expires = now; targets = []; delegations = None; extra = [] }

      abbrev or_none_listed : Option Targets → Option Targets
      or_none_listed None = Some none_listed
      or_none_listed (Some doc) = Some doc

      abbrev others : List ℕ → Option Targets
      others name = or_none_listed (documents_in before name)

      has_others : (q : List ℕ) (h : Held Targets) → held_in before q ≡ Some h → others q ≡ Some (content_of h)
      has_others q h e = ap or_none_listed (in_chain before q h e)

      abbrev over_others : Tree
      over_others = record { documents = others; snapshot = content_in {T = Snapshot} snapshot; path = path }

      there : Reached crypto now path (length before + 1) root snap before others has_others [] before [] (begun set (length before + 1)) (limited one_more.left k)
      there = reach_all crypto now path (length before + 1) root snap before others has_others set (limited one_more.left k) root_is snap_is none one_more.comes

      unread : is_among k.read role.name ≡ false
      unread = is_unread k.read k.pending (visit_in role) vs first.1

      none_held : held_in before role.name ≡ None
      none_held = by_held (held_in before role.name) refl
        where
          by_held : (o : Option (Held Targets)) → held_in before role.name ≡ o → held_in before role.name ≡ None
          by_held None e = e
          by_held (Some x) e = let never : true ≡ false = sym (there.inv.were_read role.name x e) ∙ unread in cc

      document_is : others role.name ≡ Some none_listed
      document_is = ap or_none_listed (content_held role.name before ∙ ap (option_map content_of) none_held)

      abbrev now_at : Walk
      now_at = walk_in before (limited one_more.left k)

      abbrev then_at : Step
      then_at = record { walk = having_read role.name (visited (visit_in role) now_at); next = nothing_next }

      module _ (pinned : is_pinned (content_in {T = Snapshot} snapshot) role.name ≡ true) where
        steps : visit_of over_others (visit_in role) now_at ≡ Ok then_at
        steps =
            cases_step over_others (visit_in role) now_at then_at
            (followed none_listed nothing_next (ap (λ n. (n == 0) || is_among k.read role.name) one ∙ unread) pinned document_is refl refl refl)

        pub comes_next : IsNext (content_in {T = Snapshot} snapshot) path before role
        comes_next =
            let ended : one_more.left - 1 ≡ 0 = let e = one in omega (arith, e) in (
              others,
              (λ name doc e. ap or_none_listed e),
              searched others (content_in {T = Snapshot} snapshot) path (length before + 1) (map visit_in (before ++ role ∷ []))
                  (there.leads ∙ skips (length before + 1) over_others k.pending now_at (visit_in role) vs there.inv.fits first.1
                  ∙ stepped (length before + 1) over_others (visit_in role) vs now_at then_at there.inv.fits steps
                  ∙ drained (length before + 1) over_others vs then_at.walk (omega (arith, ended)) ended ∙ ap Ok (sym (map-append visit_in before (role ∷ [])))),
            )

  -- the place where the list and the search part; where the list ends, it was refused
  pub parts_so : (rest : List RoleDoc) → Parts crypto now path rest k → (rest ≡ [] → (entry : TargetFile) → roles_of crypto now path 0 before (begun set max) ≡ Ok entry → ⊥)
      → OrderCause (content_in {T = Snapshot} snapshot) path max before rest
  parts_so rest (other_visit r later v vs whole next other) refused =
      another r later whole
      (not_next r (λ others at.
      let u = unless (k.left == 0) (unread_of k.read k.pending) (v, vs) next in
      let same : visit_in r ≡ v = ap (λ (x : Visit × List Visit). x.0) (some_same (visit_in r, others) (v, vs) (sym at ∙ u.1)) in other same))
  parts_so rest (none_next r later whole h) refused = at_end r later rest whole h
  parts_so rest (no_document r later whole there pinned) refused = lacking r later whole there (sym (pinned_so k.set snap r.name in_force.snapshot_is) ∙ pinned)
  parts_so rest (not_pinned r later bytes whole there free) refused = unpinned r later bytes whole there (sym (pinned_so k.set snap r.name in_force.snapshot_is) ∙ free)
  parts_so rest (lists_none whole h) refused = by_listed (listed_by before path) refl
    where
      by_listed : (o : Option TargetFile) → listed_by before path ≡ o → OrderCause (content_in {T = Snapshot} snapshot) path max before rest
      by_listed None e = unlisted whole e
      by_listed (Some entry) e =
          short whole (λ ordered. refused whole entry (roles_complete crypto now path max root snap fresh before entry visits.trusted e set root_is snap_is none ordered))
