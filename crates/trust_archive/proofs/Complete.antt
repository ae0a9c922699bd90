-- The roles of a trusted chain are judged well, one after another.
use Rattle.std.proofs.Common.{◌≡◌, ℕ, ◌+◌, ◌-◌, ◌==◌, ◌&&◌, not, List, [], ◌∷◌, ◌++◌, map, append_assoc, append-nil, Bool, true, false, if◌then◌else◌, Option, Some, None, Ok, Err, bytes_eq, codes, refl, sym, ap, ap₂, ◌∙◌, subst, arith}
use Rattle.std.specs.Prelude.{IfSome, ok_or, option_map, option_and_then, is_some}
use Rattle.std.specs.List.{AllByRecursion, last_or}
use Rattle.std.proofs.lemmas.Bool.Decides.{nat_tests}
use Rattle.std.proofs.lemmas.List.{map-append, append_cancel_left}
use Rattle.std.proofs.lemmas.Slice.Eq.{bytes_eq-Decides}
use Rattle.jiff_core.specs.declared.timestamp.Timestamp as jiff
use Rattle.foundation.specs.Results.{some_same}
use Rattle.foundation.specs.Steps.{◌>>=◌}
use Rattle.sigstore_types_parts.specs.Entries.{at_name}
use Rattle.sigstore_keys.specs.Crypto.{Crypto}
use Rattle.sigstore_tuf_parts.specs.declared.root.Root as declared
use Rattle.sigstore_tuf_parts.specs.declared.snapshot.Snapshot.{Snapshot}
use Rattle.sigstore_tuf_parts.specs.declared.targets.TargetFile.{TargetFile}
use Rattle.sigstore_tuf_parts.specs.declared.targets.Targets.{Targets}
use Rattle.sigstore_tuf_parts.specs.Document.{content_in}
use Rattle.sigstore_tuf_parts.specs.Pinned.{Fresh}
use Rattle.sigstore_tuf_parts.specs.Threshold.{is_among}
use Rattle.sigstore_tuf_rules.specs.declared.chain.RoleDoc.{RoleDoc}
use Rattle.sigstore_tuf_rules.specs.declared.documents.Held.{Held}
use Rattle.sigstore_tuf_rules.specs.declared.documents.InForce.{InForce}
use Rattle.sigstore_tuf_rules.specs.declared.visit.Next.{Next}
use Rattle.sigstore_tuf_rules.specs.declared.visit.Visit.{Visit}
use Rattle.sigstore_tuf_rules.specs.declared.visit.Walk.{Walk}
use Rattle.sigstore_tuf_rules.specs.Delegated.{with_role}
use Rattle.sigstore_tuf_rules.specs.Documents.{content_of}
use Rattle.sigstore_tuf_rules.specs.Order.{Tree, Step, by, is_top_level, is_pinned, visited, still, ended, having_read as walk_read, put_before, pending_after, matching, delegated_in, unread_of, order}
use Rattle.sigstore_tuf_rules.specs.Trusted.{visit_in, documents_in, last_in, IsTrustedRole, IsTrustedVisit}
use Rattle.sigstore_tuf_rules.proofs.Stepping.{is_over, StepOf, passed_over, unpinned, listing, followed}
use Rattle.sigstore_tuf_causes.proofs.Followed.{each_map, matching_named}
use Rattle.sigstore_tuf_offers.proofs.ChainVisits.{held_in, content_held, held_some, Along, Goes, goes, begins, at_end, Visits, none_more, without, with_document}
use Rattle.trust_archive.specs.declared.error.ArchiveError.TheVariants as archive
use Rattle.trust_archive.specs.Judgement.{Going, next_of, is_pinned_in, is_there, is_visit, due_of, adopted_of, document_in, listed_in, delegated_by, or_malformed, followed_of, having_read, read_of, made_of, counting, visited_of, entry_of, roles_of, at_role, begun}
use Rattle.trust_archive.proofs.Parts.{to}
use Rattle.trust_archive.proofs.Adopting.{adopted_complete}
use Rattle.trust_archive.proofs.RoleDocuments.{held_further, none_added, role_added, role_at}
use Rattle.trust_archive.proofs.Walking.{Visited, drained, all_read, skips, is_unread, unread_all}
use Rattle.trust_archive.proofs.Sound.{last_added, neither, pinned_so, walk_in, visits_more}

-- ---- lists

first_same : {A : Type 0} (x y : A) (xs ys : List A) → x ∷ xs ≡ y ∷ ys → x ≡ y
first_same x y xs ys h = cc

rest_same : {A : Type 0} (x y : A) (xs ys : List A) → x ∷ xs ≡ y ∷ ys → xs ≡ ys
rest_same x y xs ys h = cc

not_empty : {A C : Type 0} (x : A) (xs : List A) → x ∷ xs ≡ [] → C
not_empty x xs h = cc

last_all : {A : Type 0} (P : A → Type 0) (xs : List A) (x : A) (seed : Option A) → IfSome seed P → AllByRecursion P xs → last_or seed xs ≡ Some x → P x
last_all P [] x None s all h = cc
last_all P [] x (Some y) s all h = subst P (some_same y x h) s
last_all P (y ∷ ys) x seed s all h = last_all P ys x (Some y) all.0 all.1 h

both_all : {A : Type 0} (P : A → Type 0) (xs ys : List A) → AllByRecursion P xs → AllByRecursion P ys → AllByRecursion P (xs ++ ys)
both_all P [] ys p q = q
both_all P (x ∷ xs) ys p q = (p.0, both_all P xs ys p.1 q)

is_that : (r : RoleDoc) (v : Visit) → visit_in r ≡ v → is_visit r v ≡ true
is_that r v is =
    ap₂ (λ x y. x && y) ((bytes_eq-Decides r.name v.name).1 (ap (λ (x : Visit). x.name) is)) ((bytes_eq-Decides r.delegator v.delegator).1 (ap (λ (x : Visit). x.delegator) is))

-- ---- what is pending

-- `targets`, or a role whose delegator's document is in force
abbrev IsPending : InForce → Visit → Type 0
IsPending set v = bytes_eq v.name (codes "targets") ≡ false → (is_top_level v.name ≡ false) × ((h : Held Targets) × (at_name v.delegator set.targets ≡ Some h))

named_pending : (set : InForce) (delegator : List ℕ) (h : Held Targets) (names : List (List ℕ)) → at_name delegator set.targets ≡ Some h → AllByRecursion (λ name. is_top_level name ≡ false) names → AllByRecursion (IsPending set) (map (by delegator) names)
named_pending set delegator h [] at low = tt
named_pending set delegator h (name ∷ names) at low = ((λ other. (low.0, (h, at))), named_pending set delegator h names at low.1)

unless_ended : (set : InForce) (ends : Bool) (vs : List Visit) → AllByRecursion (IsPending set) vs → AllByRecursion (IsPending set) (if ends then [] else vs)
unless_ended set true vs p = tt
unless_ended set false vs p = p

module _ (crypto : Crypto) (now : jiff.Timestamp) (path : List ℕ) (max : ℕ) (root : declared.Root) (snap : Held Snapshot) (snap_fresh : Fresh (content_of snap).expires now) (all : List RoleDoc) (target : TargetFile)
    (trusted : AllByRecursion (λ (r : RoleDoc). IsTrustedVisit crypto root (content_of snap) (documents_in all) now (visit_in r) r.bytes) all)
    (listed : option_and_then (λ (doc : Targets). at_name path doc.targets) (last_in all) ≡ Some target) where
  abbrev tree : Tree
  tree = record { documents = documents_in all; snapshot = content_of snap; path = path }

  abbrev IsAlong : List RoleDoc → List RoleDoc → List Visit → Walk → Type 0
  IsAlong = Along crypto root (content_of snap) now path max all

  -- These roles were judged well, and the walk goes on to visit the others.
  record On (done rest : List RoleDoc) (g : Going) : Type 0 where
    root_is : content_in {T = declared.Root} g.set.root ≡ root
    snap_is : g.set.snapshot ≡ Some snap
    held : (q : List ℕ) → at_name q g.set.targets ≡ held_in done q
    pending : AllByRecursion (IsPending g.set) g.pending
    last_read : (r : RoleDoc) → last_or None done ≡ Some r → IfSome r.bytes (λ b. last_or None g.read ≡ Some r.name)
    along : IsAlong done rest g.pending (walk_in done g)

  -- ---- at the end

  entry_there : (done : List RoleDoc) (g : Going) → On done [] g → entry_of path g ≡ Some target
  entry_there done g o = by_last (last_or None all) refl listed
    where
      whole : done ≡ all
      whole = sym (append-nil done) ∙ o.along.roles_are

      by_bytes : (r : RoleDoc) → last_or None all ≡ Some r → (b : Option (List ℕ)) → r.bytes ≡ b → option_and_then (λ (doc : Targets). at_name path doc.targets) (documents_in all r.name) ≡ Some target → entry_of path g ≡ Some target
      by_bytes r last (Some bytes) e l =
          let read = subst (λ x. IfSome x (λ b. last_or None g.read ≡ Some r.name)) e (o.last_read r (ap (last_or None) whole ∙ last)) in
          ap (option_and_then (listed_in g.set path)) read
          ∙ ap (λ x. option_and_then (λ (doc : Targets). at_name path doc.targets) (option_map content_of x)) (o.held r.name)
          ∙ ap (option_and_then (λ (doc : Targets). at_name path doc.targets)) (sym (content_held r.name done) ∙ ap (λ rs. documents_in rs r.name) whole) ∙ l
      by_bytes r last None e l = by_held (held_in all r.name) refl
        where
          free : is_pinned (content_of snap) r.name ≡ false
          free = subst (λ x. IsTrustedVisit crypto root (content_of snap) (documents_in all) now (visit_in r) x) e (last_all _ all r None tt trusted last)

          are_pinned : (x : RoleDoc) → IsTrustedVisit crypto root (content_of snap) (documents_in all) now (visit_in x) x.bytes → IfSome x.bytes (λ b. is_pinned (content_of snap) x.name ≡ true)
          are_pinned x t = by_document x.bytes t
            where
              by_document : (b : Option (List ℕ)) → IsTrustedVisit crypto root (content_of snap) (documents_in all) now (visit_in x) b → IfSome b (λ b. is_pinned (content_of snap) x.name ≡ true)
              by_document None t = tt
              by_document (Some b) t = ap is_some t.pin_is

          by_held : (x : Option (Held Targets)) → held_in all r.name ≡ x → entry_of path g ≡ Some target
          by_held None h =
              let never : None ≡ Some target = sym (ap (option_and_then (λ (doc : Targets). at_name path doc.targets)) (content_held r.name all ∙ ap (option_map content_of) h)) ∙ l in cc
          by_held (Some x) h =
              let pinned = held_some r.name (λ n. is_pinned (content_of snap) n ≡ true) all x (each_map _ _ all are_pinned trusted) h in
              let never : true ≡ false = sym pinned ∙ free in cc

      by_last : (x : Option RoleDoc) → last_or None all ≡ x → option_and_then (λ (doc : Targets). at_name path doc.targets) (option_and_then (λ (r : RoleDoc). documents_in all r.name) x) ≡ Some target → entry_of path g ≡ Some target
      by_last None e l = cc
      by_last (Some r) e l = by_bytes r e r.bytes refl l

  -- ---- one role

  record Made (done rest : List RoleDoc) (r : RoleDoc) (position : ℕ) (g : Going) : Type 0 where
    new : Going
    is : visited_of crypto now path position r g ≡ Ok new
    on : On (done ++ r ∷ []) rest new

  module _ (done rest : List RoleDoc) (r : RoleDoc) (position : ℕ) (g : Going) (o : On done (r ∷ rest) g) where
    -- there is one more, so that the walk isn't at its end
    nothing_left : {C : Type 0} → Visited max tree g.pending (walk_in done g) ≡ Ok (map visit_in done) → C
    nothing_left h =
        not_empty r rest
        (at_end crypto root (content_of snap) now path max all done (r ∷ rest) (walk_in done g)
        (record { roles_are = o.along.roles_are; visits_are = o.along.visits_are; was_read = o.along.was_read; fits = o.along.fits; leads = sym h ∙ o.along.leads }))

    module _ (v : Visit) (vs : List Visit) (some_left : (g.left == 0) ≡ false) (first : unread_of g.read g.pending ≡ Some (v, vs)) where
      allowed_now : is_over v (walk_in done g) ≡ false
      allowed_now = neither (g.left == 0) (is_among g.read v.name) some_left (is_unread g.read g.pending v vs first)

      pending_now : IsPending g.set v × AllByRecursion (IsPending g.set) vs
      pending_now = unread_all (IsPending g.set) g.read g.pending v vs first o.pending

      g_goes : Goes crypto root (content_of snap) now path max all done v vs (walk_in done g)
      g_goes =
          goes crypto root (content_of snap) now path max all trusted done (r ∷ rest) v vs (walk_in done g)
          (record { roles_are = o.along.roles_are; visits_are = o.along.visits_are; was_read = o.along.was_read; fits = o.along.fits; leads = sym (skips max tree g.pending (walk_in done g) v vs o.along.fits first) ∙ o.along.leads })

      next_is : next_of g ≡ Some (v, vs)
      next_is = ap (λ b. if b then None else unread_of g.read g.pending) some_left ∙ first

      -- the role that the walk visits is this one
      record Same (role : RoleDoc) (later : List RoleDoc) : Type 0 where
        role_is : role ≡ r
        rest_is : later ≡ rest

      same_role : (role : RoleDoc) (done' later : List RoleDoc) → done' ++ later ≡ all → done' ≡ done ++ role ∷ [] → Same role later
      same_role role done' later whole is =
          let both : role ∷ later ≡ r ∷ rest =
          append_cancel_left done (role ∷ later) (r ∷ rest) (sym (append_assoc done (role ∷ []) later) ∙ ap (λ x. x ++ later) (sym is) ∙ whole ∙ sym o.along.roles_are) in
          record { role_is = first_same role r later rest both; rest_is = rest_same role r later rest both }

      -- what the walk is then
      later_along : (step : Step) (role : RoleDoc) (done' later : List RoleDoc) → IsAlong done' later (pending_after v step vs) step.walk → done' ≡ done ++ role ∷ [] → IsAlong (done ++ r ∷ []) rest (pending_after v step vs) step.walk
      later_along step role done' later a is =
          let s = same_role role done' later a.roles_are is in
          subst (λ x. IsAlong (done ++ r ∷ []) x (pending_after v step vs) step.walk) s.rest_is
          (subst (λ x. IsAlong (done ++ x ∷ []) later (pending_after v step vs) step.walk) s.role_is (subst (λ x. IsAlong x later (pending_after v step vs) step.walk) is a))

      due_now : is_there r.bytes (is_pinned_in g.set v.name) ≡ true → visit_in r ≡ v → due_of position g.set v r ≡ Ok tt
      due_now there is = ap (λ b. if b then Ok tt else Err (archive.Order position)) (ap₂ (λ x y. x && y) (is_that r v is) there)

      visited_now : (new : Going) → visit_in r ≡ v → is_there r.bytes (is_pinned_in g.set v.name) ≡ true → made_of crypto now path position v (counting vs g) r.bytes ≡ Ok new → visited_of crypto now path position r g ≡ Ok new
      unfolding visited_of
      visited_now new is there made =
          to (ok_or (next_of g) (archive.Order position)) (λ next. due_of position g.set next.0 r >>= λ _. made_of crypto now path position next.0 (counting next.1 g) r.bytes) (v, vs) (ap (λ x. ok_or x (archive.Order position)) next_is)
          ∙ to (due_of position g.set v r) (λ _. made_of crypto now path position v (counting vs g) r.bytes) tt (due_now there is) ∙ made

      -- a role without a document
      made_none : (step : Step) (role : RoleDoc) (done' later : List RoleDoc) → step ≡ still (visited v (walk_in done g)) → is_pinned (content_of snap) v.name ≡ false → role.bytes ≡ None → done' ≡ done ++ role ∷ []
          → IsAlong done' later (pending_after v step vs) step.walk → Made done rest r position g
      made_none step role done' later s free none is a = record {
        new = counting vs g;
        is = visited_now (counting vs g) visit_is (ap (λ x. is_there x (is_pinned_in g.set v.name)) no_bytes ∙ ap not (pinned_so g.set snap v.name o.snap_is ∙ free))
            (ap (made_of crypto now path position v (counting vs g)) no_bytes);
        on = record {
          root_is = o.root_is;
          snap_is = o.snap_is;
          held = λ q. o.held q ∙ sym (none_added done r q no_bytes);
          pending = pending_now.1;
          last_read = λ x e. subst (λ (y : RoleDoc). IfSome y.bytes (λ b. last_or None g.read ≡ Some y.name)) (some_same r x (sym (last_added None done r) ∙ e))
              (subst (λ b. IfSome b (λ b. last_or None g.read ≡ Some r.name)) (sym no_bytes) tt);
          along = subst (λ xs. IsAlong (done ++ r ∷ []) rest vs (record { visits = xs; read = g.read; left = g.left - 1 })) (visits_more done r v visit_is)
              (subst (λ (x : Step). IsAlong (done ++ r ∷ []) rest (pending_after v x vs) x.walk) s (later_along step role done' later a is));
        };
      }
        where
          same : Same role later
          same = same_role role done' later a.roles_are is

          no_bytes : r.bytes ≡ None
          no_bytes = ap (λ (x : RoleDoc). x.bytes) (sym same.role_is) ∙ none

          visit_is : visit_in r ≡ v
          visit_is =
              first_same (visit_in r) v [] []
              (append_cancel_left (map visit_in done) (visit_in r ∷ []) (v ∷ [])
              (sym (map-append visit_in done (r ∷ [])) ∙ ap (λ x. map visit_in (done ++ x ∷ [])) (sym same.role_is) ∙ ap (map visit_in) (sym is) ∙ sym a.visits_are ∙ ap (λ (x : Step). x.walk.visits) s))

      -- one with its document
      module _ (role : RoleDoc) (bytes : List ℕ) (role_is : role ≡ r) (pinned : is_pinned (content_of snap) v.name ≡ true) (v_is : visit_in role ≡ v) (there : role.bytes ≡ Some bytes)
          (t : IsTrustedRole crypto root (content_of snap) (documents_in all) now v bytes) (held_all : held_in all v.name ≡ Some (record { bytes = bytes; document = t.doc })) (unread : held_in done r.name ≡ None) where
        visit_is : visit_in r ≡ v
        visit_is = ap visit_in (sym role_is) ∙ v_is

        name : r.name ≡ v.name
        name = ap (λ (x : Visit). x.name) visit_is

        bytes_there : r.bytes ≡ Some bytes
        bytes_there = ap (λ (x : RoleDoc). x.bytes) (sym role_is) ∙ there

        abbrev Set : InForce
        Set = with_role g.set v.name (record { bytes = bytes; document = t.doc })

        agree : (h : Held Targets) → at_name v.delegator g.set.targets ≡ Some h → documents_in all v.delegator ≡ Some (content_of h)
        agree h at =
            content_held v.delegator all
            ∙ ap (option_map content_of) (ap (λ rs. held_in rs v.delegator) (sym o.along.roles_are) ∙ held_further done (r ∷ rest) v.delegator h (sym (o.held v.delegator) ∙ at))

        adopted : adopted_of crypto now g.set v bytes ≡ Ok Set
        adopted =
            adopted_complete crypto now g.set root o.root_is snap o.snap_is (documents_in all) snap_fresh v bytes t
            (λ other. let p = pending_now.0 other in (p.0, (p.1.0, p.1.1, agree p.1.0 p.1.1)))

        renamed : Set ≡ with_role g.set r.name (record { bytes = bytes; document = t.doc })
        renamed = ap (λ n. with_role g.set n (record { bytes = bytes; document = t.doc })) (sym name)

        held_now : (q : List ℕ) → at_name q Set.targets ≡ held_in (done ++ r ∷ []) q
        held_now q = ap (λ (s : InForce). at_name q s.targets) renamed ∙ role_added g.set done r (record { bytes = bytes; document = t.doc }) o.held unread bytes_there t.read q

        here : at_name v.name Set.targets ≡ Some (record { bytes = bytes; document = t.doc })
        here =
            ap (λ n. at_name n Set.targets) (sym name) ∙ ap (λ (s : InForce). at_name r.name s.targets) renamed
            ∙ role_at g.set done r (record { bytes = bytes; document = t.doc }) o.held unread bytes_there t.read

        listed_here : listed_in Set path v.name ≡ at_name path (content_in {T = Targets} t.doc).targets
        listed_here = ap (λ x. option_and_then (λ (doc : Targets). at_name path doc.targets) (option_map content_of x)) here

        -- where a document of a delegator is in force, it stays so
        still_pending : (x : Visit) → IsPending g.set x → IsPending Set x
        still_pending x p other = let k = p other in (k.0, by_held (held_in done x.delegator) refl k.1.0 k.1.1)
          where
            by_held : (y : Option (Held Targets)) → held_in done x.delegator ≡ y → (h : Held Targets) → at_name x.delegator g.set.targets ≡ Some h → (h : Held Targets) × (at_name x.delegator Set.targets ≡ Some h)
            by_held y e h at = (h, held_now x.delegator ∙ held_further done (r ∷ []) x.delegator h (sym (o.held x.delegator) ∙ at))

        last_now : (x : RoleDoc) → last_or None (done ++ r ∷ []) ≡ Some x → IfSome x.bytes (λ b. last_or None (g.read ++ v.name ∷ []) ≡ Some x.name)
        last_now x e =
            subst (λ (y : RoleDoc). IfSome y.bytes (λ b. last_or None (g.read ++ v.name ∷ []) ≡ Some y.name)) (some_same r x (sym (last_added None done r) ∙ e))
            (subst (λ b. IfSome b (λ b. last_or None (g.read ++ v.name ∷ []) ≡ Some r.name)) (sym bytes_there) (last_added None g.read v.name ∙ ap Some (sym name)))

        read_now : (new : Going) → followed_of path position v (having_read Set v.name (counting vs g)) (at_name path (content_in {T = Targets} t.doc).targets) ≡ Ok new → read_of crypto now path position v (counting vs g) bytes ≡ Ok new
        unfolding read_of
        read_now new h =
            to (at_role position (adopted_of crypto now g.set v bytes)) (λ s. followed_of path position v (having_read s v.name (counting vs g)) (listed_in s path v.name)) Set (ap (at_role position) adopted)
            ∙ ap (followed_of path position v (having_read Set v.name (counting vs g))) listed_here ∙ h

        visited_then : (new : Going) → followed_of path position v (having_read Set v.name (counting vs g)) (at_name path (content_in {T = Targets} t.doc).targets) ≡ Ok new → visited_of crypto now path position r g ≡ Ok new
        visited_then new h =
            visited_now new visit_is (ap (λ x. is_there x (is_pinned_in g.set v.name)) bytes_there ∙ (pinned_so g.set snap v.name o.snap_is ∙ pinned))
            (ap (made_of crypto now path position v (counting vs g)) bytes_there ∙ read_now new h)

        made_on : (pending : List Visit) (left : ℕ) → AllByRecursion (IsPending Set) pending → IsAlong (done ++ r ∷ []) rest pending (record { visits = map visit_in done ++ v ∷ []; read = g.read ++ v.name ∷ []; left = left })
            → On (done ++ r ∷ []) rest (record { set = Set; pending = pending; read = g.read ++ v.name ∷ []; left = left })
        made_on pending left p a = record {
          root_is = o.root_is;
          snap_is = o.snap_is;
          held = held_now;
          pending = p;
          last_read = last_now;
          along = subst (λ xs. IsAlong (done ++ r ∷ []) rest pending (record { visits = xs; read = g.read ++ v.name ∷ []; left = left })) (visits_more done r v visit_is) a;
        }

        still_all : AllByRecursion (IsPending Set) vs
        still_all = each_map (IsPending g.set) (IsPending Set) vs still_pending pending_now.1

        made_listing : (step : Step) (entry : TargetFile) → at_name path (content_in {T = Targets} t.doc).targets ≡ Some entry → step ≡ still (ended (walk_read v.name (visited v (walk_in done g)))) → IsAlong (done ++ r ∷ []) rest (pending_after v step vs) step.walk
            → Made done rest r position g
        made_listing step entry at s a = record {
          new = record { set = Set; pending = vs; read = g.read ++ v.name ∷ []; left = 0 };
          is = visited_then _ (ap (followed_of path position v (having_read Set v.name (counting vs g))) at);
          on = made_on vs 0 still_all (subst (λ (x : Step). IsAlong (done ++ r ∷ []) rest (pending_after v x vs) x.walk) s a);
        }

        made_following : (step : Step) (next : Next) → at_name path (content_in {T = Targets} t.doc).targets ≡ None → matching path (delegated_in (content_in {T = Targets} t.doc).delegations) ≡ Ok next
            → step ≡ record { walk = walk_read v.name (visited v (walk_in done g)); next = next } → IsAlong (done ++ r ∷ []) rest (pending_after v step vs) step.walk → Made done rest r position g
        made_following step next none m s a = record {
          new = record { set = Set; pending = put_before v.name next vs; read = g.read ++ v.name ∷ []; left = g.left - 1 };
          is = visited_then _
              (ap (followed_of path position v (having_read Set v.name (counting vs g))) none
              ∙ to (at_role position (or_malformed (matching path (delegated_by (document_in Set v.name))))) _ next
              (ap (λ x. at_role position (or_malformed (matching path (delegated_by (option_map content_of x))))) here ∙ ap (λ x. at_role position (or_malformed x)) m));
          on = made_on (put_before v.name next vs) (g.left - 1)
              (both_all (IsPending Set) (map (by v.name) next.names) (if next.ends then [] else vs)
              (named_pending Set v.name (record { bytes = bytes; document = t.doc }) next.names here (each_map _ _ next.names (λ name h. h.0) (matching_named path (delegated_in (content_in {T = Targets} t.doc).delegations) next m)))
              (unless_ended Set next.ends vs still_all))
              (subst (λ (x : Step). IsAlong (done ++ r ∷ []) rest (pending_after v x vs) x.walk) s a);
        }

      -- the name wasn't read before
      not_held : r.name ≡ v.name → held_in done r.name ≡ None
      not_held name = by_held (held_in done r.name) refl
        where
          names_read : AllByRecursion (λ (x : RoleDoc). IfSome x.bytes (λ b. is_among g.read x.name ≡ true)) done
          names_read = o.along.was_read

          by_held : (x : Option (Held Targets)) → held_in done r.name ≡ x → held_in done r.name ≡ None
          by_held None e = e
          by_held (Some h) e =
              let read = held_some r.name (λ n. is_among g.read n ≡ true) done h names_read e in
              let never : true ≡ false = sym read ∙ ap (is_among g.read) name ∙ is_unread g.read g.pending v vs first in cc

      some_in : {A : Type 0} (x : Option A) → is_some x ≡ true → (y : A) × (x ≡ Some y)
      some_in None h = cc
      some_in (Some y) h = (y, refl)

      none_in : {A : Type 0} (x : Option A) → is_some x ≡ false → x ≡ None
      none_in None h = refl
      none_in (Some y) h = cc

      with_doc : (step : Step) (done' later : List RoleDoc) (role : RoleDoc) (bytes : List ℕ) → is_pinned (content_of snap) v.name ≡ true → visit_in role ≡ v → role.bytes ≡ Some bytes
          → (t : IsTrustedRole crypto root (content_of snap) (documents_in all) now v bytes) → held_in all v.name ≡ Some (record { bytes = bytes; document = t.doc }) → done' ≡ done ++ role ∷ [] → IsAlong done' later (pending_after v step vs) step.walk
          → StepOf (content_of snap) path (documents_in all v.name) v (walk_in done g) step → Made done rest r position g
      with_doc step done' later role bytes pinned v_is there t held is a cases = by_cases cases
        where
          role_is : role ≡ r
          role_is = (same_role role done' later a.roles_are is).role_is

          unread : held_in done r.name ≡ None
          unread = not_held (ap (λ (x : RoleDoc). x.name) (sym role_is) ∙ ap (λ (x : Visit). x.name) v_is)

          along : IsAlong (done ++ r ∷ []) rest (pending_after v step vs) step.walk
          along = later_along step role done' later a is

          by_cases : StepOf (content_of snap) path (documents_in all v.name) v (walk_in done g) step → Made done rest r position g
          by_cases (passed_over over s) = let never : true ≡ false = sym over ∙ allowed_now in cc
          by_cases (unpinned on free s) = let never : true ≡ false = sym pinned ∙ free in cc
          by_cases (listing doc on pin at l s) =
              let same = some_same doc (content_in {T = Targets} t.doc) (sym at ∙ content_held v.name all ∙ ap (option_map content_of) held) in
              let entry = some_in (at_name path (content_in {T = Targets} t.doc).targets) (ap (λ (d : Targets). is_some (at_name path d.targets)) (sym same) ∙ l) in
              made_listing role bytes role_is pinned v_is there t held unread step entry.0 entry.1 s along
          by_cases (followed doc next on pin at l m s) =
              let same = some_same doc (content_in {T = Targets} t.doc) (sym at ∙ content_held v.name all ∙ ap (option_map content_of) held) in
              made_following role bytes role_is pinned v_is there t held unread step next (none_in (at_name path (content_in {T = Targets} t.doc).targets) (ap (λ (d : Targets). is_some (at_name path d.targets)) (sym same) ∙ l))
              (ap (λ (d : Targets). matching path (delegated_in d.delegations)) (sym same) ∙ m) s along

      free_step : (step : Step) → StepOf (content_of snap) path (documents_in all v.name) v (walk_in done g) step → is_pinned (content_of snap) v.name ≡ false → step ≡ still (visited v (walk_in done g))
      free_step step (passed_over over s) free = let never : true ≡ false = sym over ∙ allowed_now in cc
      free_step step (unpinned on f s) free = s
      free_step step (listing doc on pin at l s) free = let never : true ≡ false = sym pin ∙ free in cc
      free_step step (followed doc next on pin at l m s) free = let never : true ≡ false = sym pin ∙ free in cc

      made_next : Made done rest r position g
      made_next = by_visits g_goes.visits
        where
          by_visits : Visits crypto root (content_of snap) now all done v (walk_in done g) g_goes.done' → Made done rest r position g
          by_visits (none_more over is) = let never : true ≡ false = sym over ∙ allowed_now in cc
          by_visits (without role allowed free none is) = made_none g_goes.step role g_goes.done' g_goes.rest' (free_step g_goes.step g_goes.cases free) free none is g_goes.along
          by_visits (with_document role later bytes allowed pinned v_is there t held place is) = with_doc g_goes.step g_goes.done' g_goes.rest' role bytes pinned v_is there t held is g_goes.along g_goes.cases

    made_one : Made done rest r position g
    made_one = by_left (g.left == 0) refl
      where
        by_next : (g.left == 0) ≡ false → (x : Option (Visit × List Visit)) → unread_of g.read g.pending ≡ x → Made done rest r position g
        by_next some None e = nothing_left (all_read max tree g.pending (walk_in done g) o.along.fits e)
        by_next some (Some (v, vs)) e = made_next v vs some e

        by_left : (b : Bool) → (g.left == 0) ≡ b → Made done rest r position g
        by_left true e = nothing_left (drained max tree g.pending (walk_in done g) o.along.fits (grind (arith, nat_tests)))
        by_left false e = by_next e (unread_of g.read g.pending) refl

  -- ---- all of them

  all_complete : (rest done : List RoleDoc) (position : ℕ) (g : Going) → On done rest g → roles_of crypto now path position rest g ≡ Ok target
  all_complete [] done position g o = ap (λ x. ok_or x (archive.Order position)) (entry_there done g o)
  all_complete (r ∷ rest) done position g o =
      let m = made_one done rest r position g o in
      to (visited_of crypto now path position r g) (λ x. roles_of crypto now path (position + 1) rest x) m.new m.is ∙ all_complete rest (done ++ r ∷ []) (position + 1) m.new m.on

  pub roles_complete : (set : InForce) → content_in {T = declared.Root} set.root ≡ root → set.snapshot ≡ Some snap → set.targets ≡ [] → order (documents_in all) (content_of snap) path max ≡ Some (map visit_in all)
      → roles_of crypto now path 0 all (begun set max) ≡ Ok target
  roles_complete set root_is snap_is none is =
      all_complete all [] 0 (begun set max)
      (record {
        root_is = root_is;
        snap_is = snap_is;
        held = λ q. ap (at_name q) none;
        pending = ((λ other. let never : true ≡ false = other in cc), tt);
        last_read = λ r e. cc;
        along = begins crypto root (content_of snap) now path max all is;
      })
