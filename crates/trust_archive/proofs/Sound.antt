-- Roles that are judged well are the visits of the search over their documents, and each of these is trusted.
use Rattle.std.proofs.Common.{◌≡◌, ℕ, ◌+◌, ◌-◌, ◌≤◌, ◌==◌, ◌||◌, List, [], ◌∷◌, ◌++◌, map, append_assoc, append-nil, Bool, true, false, if◌then◌else◌, Option, Some, None, Result, Ok, Err, bytes_eq, refl, sym, ap, ap₂, ◌∙◌, subst, arith}
use Rattle.std.specs.Prelude.{⊤, ok_or, option_map, option_and_then, is_some}
use Rattle.std.specs.List.{AllByRecursion, last_or}
use Rattle.std.proofs.lemmas.List.{map-append}
use Rattle.std.proofs.lemmas.Slice.Eq.{bytes_eq-Decides}
use Rattle.jiff_core.specs.declared.timestamp.Timestamp as jiff
use Rattle.foundation.specs.Results.{step_ok, ok_same, and_true, not_true}
use Rattle.foundation.specs.Steps.{◌>>=◌}
use Rattle.sigstore_types_parts.specs.Entries.{at_name}
use Rattle.sigstore_keys.specs.Crypto.{Crypto}
use Rattle.sigstore_tuf_text.specs.declared.error.Error.{Error}
use Rattle.sigstore_tuf_text.specs.Names.{pin_name}
use Rattle.sigstore_tuf_parts.specs.declared.root.Root as declared
use Rattle.sigstore_tuf_parts.specs.declared.snapshot.Snapshot.{Snapshot}
use Rattle.sigstore_tuf_parts.specs.declared.targets.TargetFile.{TargetFile}
use Rattle.sigstore_tuf_parts.specs.declared.targets.Targets.{Targets}
use Rattle.sigstore_tuf_parts.specs.Document.{content_in}
use Rattle.sigstore_tuf_parts.specs.Threshold.{is_among}
use Rattle.sigstore_tuf_rules.specs.declared.chain.RoleDoc.{RoleDoc}
use Rattle.sigstore_tuf_rules.specs.declared.documents.Held.{Held}
use Rattle.sigstore_tuf_rules.specs.declared.documents.InForce.{InForce}
use Rattle.sigstore_tuf_rules.specs.declared.visit.Next.{Next}
use Rattle.sigstore_tuf_rules.specs.declared.visit.Visit.{Visit}
use Rattle.sigstore_tuf_rules.specs.declared.visit.Walk.{Walk}
use Rattle.sigstore_tuf_rules.specs.Delegated.{with_role}
use Rattle.sigstore_tuf_rules.specs.Documents.{content_of}
use Rattle.sigstore_tuf_rules.specs.Order.{Tree, Gap, is_pinned, visited, still, ended, having_read as walk_read, put_before, matching, delegated_in, unread_of}
use Rattle.sigstore_tuf_rules.specs.Trusted.{visit_in, documents_in, last_in, IsTrustedRole, IsTrustedVisit}
use Rattle.sigstore_tuf_rules.proofs.Stepping.{among_append, among_last, is_over, unpinned, listing, followed, cases_step}
use Rattle.sigstore_tuf_offers.proofs.ChainVisits.{held_in, content_held, all_append}
use Rattle.trust_archive.specs.declared.error.ArchiveError.{ArchiveError}
use Rattle.trust_archive.specs.declared.error.ArchiveError.TheVariants as archive
use Rattle.trust_archive.specs.Judgement.{Going, next_of, is_pinned_in, is_there, is_visit, is_due, due_of, adopted_of, document_in, listed_in, delegated_by, or_malformed, followed_of, having_read, read_of, made_of, counting, visited_of, entry_of, roles_of, at_role}
use Rattle.trust_archive.proofs.Adopting.{Adopted, adopted_sound}
use Rattle.trust_archive.proofs.RoleDocuments.{held_further, none_added, role_added, role_at, added_or}
use Rattle.trust_archive.proofs.Walking.{Visited, stepped, drained, skips, is_unread}

-- ---- answers

pub some_of : {A : Type 0} (o : Option A) (e : ArchiveError) (x : A) → ok_or o e ≡ Ok x → o ≡ Some x
some_of None e x h = cc
some_of (Some y) e x h = ap Some (ok_same y x h)

pub role_was_ok : {A : Type 0} (position : ℕ) (r : Result A Error) (x : A) → at_role position r ≡ Ok x → r ≡ Ok x
role_was_ok position (Ok y) x h = ap Ok (ok_same y x h)
role_was_ok position (Err e) x h = cc

pub matched : (r : Result Next Gap) (next : Next) → or_malformed r ≡ Ok next → r ≡ Ok next
matched (Ok m) next h = ap Ok (ok_same m next h)
matched (Err gap) next h = cc

pub unless : {A : Type 0} (b : Bool) (o : Option A) (x : A) → (if b then None else o) ≡ Some x → (b ≡ false) × (o ≡ Some x)
unless true o x h = cc
unless false o x h = (refl, h)

pub when : (b : Bool) (e : ArchiveError) → ◌≡◌ {A = Result ⊤ ArchiveError} (if b then Ok tt else Err e) (Ok tt) → b ≡ true
when true e h = refl
when false e h = cc

pub last_added : {A : Type 0} (seed : Option A) (xs : List A) (x : A) → last_or seed (xs ++ x ∷ []) ≡ Some x
last_added seed [] x = refl
last_added seed (y ∷ ys) x = last_added (Some y) ys x

pub neither : (a b : Bool) → a ≡ false → b ≡ false → (a || b) ≡ false
neither a b h k = ap₂ (λ x y. x || y) h k

pub same_visit : (r : RoleDoc) (v : Visit) → is_visit r v ≡ true → visit_in r ≡ v
same_visit r v h =
    let both = and_true (bytes_eq r.name v.name) (bytes_eq r.delegator v.delegator) h in
    let name = (bytes_eq-Decides r.name v.name).0 both.0 in
    let delegator = (bytes_eq-Decides r.delegator v.delegator).0 both.1 in
    ap₂ (λ n d. record { name = n; delegator = d }) name delegator

pub pinned_so : (set : InForce) (snap : Held Snapshot) (name : List ℕ) → set.snapshot ≡ Some snap → is_pinned_in set name ≡ is_pinned (content_of snap) name
pinned_so set snap name h = ap (λ s. is_some (option_and_then (λ (held : Held Snapshot). at_name (pin_name name) (content_of held).meta) s)) h

-- how far the walk is
abbrev pub walk_in : List RoleDoc → Going → Walk
walk_in done g = record { visits = map visit_in done; read = g.read; left = g.left }

pub visits_more : (done : List RoleDoc) (r : RoleDoc) (v : Visit) → visit_in r ≡ v → map visit_in done ++ v ∷ [] ≡ map visit_in (done ++ r ∷ [])
visits_more done r v is = ap (λ x. map visit_in done ++ x ∷ []) (sym is) ∙ sym (map-append visit_in done (r ∷ []))

-- a chain's documents have those in force
pub in_chain : (all : List RoleDoc) (q : List ℕ) (h : Held Targets) → held_in all q ≡ Some h → documents_in all q ≡ Some (content_of h)
in_chain all q h e = content_held q all ∙ ap (option_map content_of) e

module _ (crypto : Crypto) (now : jiff.Timestamp) (path : List ℕ) (max : ℕ) (root : declared.Root) (snap : Held Snapshot) (all : List RoleDoc) (documents : List ℕ → Option Targets)
    (has : (q : List ℕ) (h : Held Targets) → held_in all q ≡ Some h → documents q ≡ Some (content_of h)) where
  abbrev pub tree : Tree
  tree = record { documents = documents; snapshot = content_of snap; path = path }

  abbrev pub Trusts : RoleDoc → Type 0
  Trusts r = IsTrustedVisit crypto root (content_of snap) documents now (visit_in r) r.bytes

  abbrev pub listed_last : List RoleDoc → Option TargetFile
  listed_last done = option_and_then (λ (doc : Targets). at_name path doc.targets) (last_in done)

  -- These roles were judged well, and the others are still to be.
  pub record Inv (done rest : List RoleDoc) (g : Going) : Type 0 where
    pub all_is : done ++ rest ≡ all
    pub root_is : content_in {T = declared.Root} g.set.root ≡ root
    pub snap_is : g.set.snapshot ≡ Some snap
    pub held : (q : List ℕ) → at_name q g.set.targets ≡ held_in done q
    pub were_read : (q : List ℕ) (h : Held Targets) → held_in done q ≡ Some h → is_among g.read q ≡ true
    pub trusted : AllByRecursion Trusts done
    pub fits : g.left ≤ max
    pub listing_ended : (e : TargetFile) → entry_of path g ≡ Some e → (g.left ≡ 0) × (listed_last done ≡ Some e)

  pub record Further (done rest : List RoleDoc) (r : RoleDoc) (g h : Going) : Type 0 where
    pub inv : Inv (done ++ r ∷ []) rest h
    pub leads : Visited max tree g.pending (walk_in done g) ≡ Visited max tree h.pending (walk_in (done ++ r ∷ []) h)

  module _ (done rest : List RoleDoc) (r : RoleDoc) (g : Going) (i : Inv done (r ∷ rest) g) (v : Visit) (vs : List Visit) (some_left : (g.left == 0) ≡ false) (first : unread_of g.read g.pending ≡ Some (v, vs)) (is : visit_in r ≡ v) where
    name : r.name ≡ v.name
    name = ap (λ (x : Visit). x.name) is

    unread : is_among g.read v.name ≡ false
    unread = is_unread g.read g.pending v vs first

    more_all : (done ++ r ∷ []) ++ rest ≡ all
    more_all = append_assoc done (r ∷ []) rest ∙ i.all_is

    -- the walk comes to the visit
    comes : Visited max tree g.pending (walk_in done g) ≡ Visited max tree (v ∷ vs) (walk_in done g)
    comes = skips max tree g.pending (walk_in done g) v vs i.fits first

    less : g.left - 1 ≤ max
    less = let f = i.fits in omega (arith, f)

    not_ended : {C : Type 0} → g.left ≡ 0 → C
    not_ended none = let never : true ≡ false = sym (ap (λ n. n == 0) none) ∙ some_left in cc

    -- a role without a document
    none_read : r.bytes ≡ None → is_pinned (content_of snap) v.name ≡ false → Further done rest r g (counting vs g)
    none_read none free = record {
      inv = record {
        all_is = more_all;
        root_is = i.root_is;
        snap_is = i.snap_is;
        held = λ q. i.held q ∙ sym (none_added done r q none);
        were_read = λ q h e. i.were_read q h (sym (none_added done r q none) ∙ e);
        trusted = all_append Trusts done r i.trusted
            (subst (λ o. IsTrustedVisit crypto root (content_of snap) documents now (visit_in r) o) (sym none) (ap (λ (x : Visit). is_pinned (content_of snap) x.name) is ∙ free));
        fits = less;
        listing_ended = λ e h. not_ended (i.listing_ended e h).0;
      };
      leads = comes ∙ stepped max tree v vs (walk_in done g) (still (visited v (walk_in done g))) i.fits
          (cases_step tree v (walk_in done g) (still (visited v (walk_in done g))) (unpinned (neither (g.left == 0) (is_among g.read v.name) some_left unread) free refl))
          ∙ ap (λ xs. Visited max tree vs (record { visits = xs; read = g.read; left = g.left - 1 })) (visits_more done r v is);
    }

    -- one with its document
    module _ (bytes : List ℕ) (there : r.bytes ≡ Some bytes) (pinned : is_pinned (content_of snap) v.name ≡ true) (set : InForce) (a : Adopted crypto now g.set root i.root_is snap i.snap_is documents v bytes set) where
      held : Held Targets
      held = record { bytes = bytes; document = a.trusted.doc }

      none_before : held_in done r.name ≡ None
      none_before = by_held (held_in done r.name) refl
        where
          by_held : (o : Option (Held Targets)) → held_in done r.name ≡ o → held_in done r.name ≡ None
          by_held None e = e
          by_held (Some h) e = let never : true ≡ false = sym (i.were_read r.name h e) ∙ ap (is_among g.read) name ∙ unread in cc

      set_is : set ≡ with_role g.set r.name (record { bytes = bytes; document = a.trusted.doc })
      set_is = a.new_is ∙ ap (λ n. with_role g.set n (record { bytes = bytes; document = a.trusted.doc })) (sym name)

      held_now : (q : List ℕ) → at_name q set.targets ≡ held_in (done ++ r ∷ []) q
      held_now q = ap (λ (s : InForce). at_name q s.targets) set_is ∙ role_added g.set done r (record { bytes = bytes; document = a.trusted.doc }) i.held none_before there a.trusted.read q

      here : at_name v.name set.targets ≡ Some (record { bytes = bytes; document = a.trusted.doc })
      here =
          ap (λ n. at_name n set.targets) (sym name) ∙ ap (λ (s : InForce). at_name r.name s.targets) set_is
          ∙ role_at g.set done r (record { bytes = bytes; document = a.trusted.doc }) i.held none_before there a.trusted.read

      document_here : document_in set v.name ≡ Some (content_in {T = Targets} a.trusted.doc)
      document_here = ap (option_map content_of) here

      document_all : documents v.name ≡ Some (content_in {T = Targets} a.trusted.doc)
      document_all =
          has v.name (record { bytes = bytes; document = a.trusted.doc })
          (ap (λ rs. held_in rs v.name) (sym more_all) ∙ held_further (done ++ r ∷ []) rest v.name (record { bytes = bytes; document = a.trusted.doc }) (sym (held_now v.name) ∙ here))

      trusts : Trusts r
      trusts =
          subst (λ o. IsTrustedVisit crypto root (content_of snap) documents now (visit_in r) o) (sym there)
          (subst (λ x. IsTrustedRole crypto root (content_of snap) documents now x bytes) (sym is) a.trusted)

      last_document : last_in (done ++ r ∷ []) ≡ Some (content_in {T = Targets} a.trusted.doc)
      last_document =
          ap (option_and_then (λ (x : RoleDoc). documents_in (done ++ r ∷ []) x.name)) (last_added None done r) ∙ content_held r.name (done ++ r ∷ [])
          ∙ ap (option_map content_of) (sym (held_now r.name) ∙ ap (λ n. at_name n set.targets) name ∙ here)

      entry_now : (g' : Going) → g'.set ≡ set → g'.read ≡ g.read ++ v.name ∷ [] → entry_of path g' ≡ at_name path (content_in {T = Targets} a.trusted.doc).targets
      entry_now g' s read =
          ap (λ (x : InForce). option_and_then (listed_in x path) (last_or None g'.read)) s ∙ ap (λ x. option_and_then (listed_in set path) (last_or None x)) read
          ∙ ap (option_and_then (listed_in set path)) (last_added None g.read v.name) ∙ ap (option_and_then (λ (doc : Targets). at_name path doc.targets)) document_here

      were : (q : List ℕ) (h : Held Targets) → held_in (done ++ r ∷ []) q ≡ Some h → is_among (g.read ++ v.name ∷ []) q ≡ true
      were q h e =
          added_or done r (record { bytes = bytes; document = a.trusted.doc }) h q there a.trusted.read e (λ x k. among_append g.read v.name q (i.were_read q x k))
          (λ same. ap (is_among (g.read ++ v.name ∷ [])) (same ∙ name) ∙ among_last g.read v.name)

      now_inv : (pending : List Visit) (left : ℕ) → left ≤ max → ((e : TargetFile) → at_name path (content_in {T = Targets} a.trusted.doc).targets ≡ Some e → left ≡ 0)
          → Inv (done ++ r ∷ []) rest (record { set = set; pending = pending; read = g.read ++ v.name ∷ []; left = left })
      now_inv pending left fits ends = record {
        all_is = more_all;
        root_is = ap (λ (s : InForce). content_in {T = declared.Root} s.root) set_is ∙ i.root_is;
        snap_is = ap (λ (s : InForce). s.snapshot) set_is ∙ i.snap_is;
        held = held_now;
        were_read = were;
        trusted = all_append Trusts done r i.trusted trusts;
        fits = fits;
        listing_ended = λ e h.
            let at = sym (entry_now (record { set = set; pending = pending; read = g.read ++ v.name ∷ []; left = left }) refl refl) ∙ h in
            (ends e at, ap (option_and_then (λ (doc : Targets). at_name path doc.targets)) last_document ∙ at);
      }

      on : is_over v (walk_in done g) ≡ false
      on = neither (g.left == 0) (is_among g.read v.name) some_left unread

      -- it lists the path
      lists_path : (e : TargetFile) → at_name path (content_in {T = Targets} a.trusted.doc).targets ≡ Some e → Further done rest r g (record { set = set; pending = vs; read = g.read ++ v.name ∷ []; left = 0 })
      lists_path e at = record {
        inv = now_inv vs 0 (omega arith) (λ x y. refl);
        leads = comes ∙ stepped max tree v vs (walk_in done g) (still (ended (walk_read v.name (visited v (walk_in done g))))) i.fits
            (cases_step tree v (walk_in done g) _ (listing (content_in {T = Targets} a.trusted.doc) on pinned document_all (ap is_some at) refl))
            ∙ ap (λ xs. Visited max tree vs (record { visits = xs; read = g.read ++ v.name ∷ []; left = 0 })) (visits_more done r v is);
      }

      -- or its delegations follow
      goes_below : (next : Next) → at_name path (content_in {T = Targets} a.trusted.doc).targets ≡ None → matching path (delegated_in (content_in {T = Targets} a.trusted.doc).delegations) ≡ Ok next
          → Further done rest r g (record { set = set; pending = put_before v.name next vs; read = g.read ++ v.name ∷ []; left = g.left - 1 })
      goes_below next none m = record {
        inv = now_inv (put_before v.name next vs) (g.left - 1) less (λ x y. let never : None ≡ Some x = sym none ∙ y in cc);
        leads = comes ∙ stepped max tree v vs (walk_in done g) (record { walk = walk_read v.name (visited v (walk_in done g)); next = next }) i.fits
            (cases_step tree v (walk_in done g) _ (followed (content_in {T = Targets} a.trusted.doc) next on pinned document_all (ap is_some none) m refl))
            ∙ ap (λ xs. Visited max tree (put_before v.name next vs) (record { visits = xs; read = g.read ++ v.name ∷ []; left = g.left - 1 })) (visits_more done r v is);
      }

    -- where it is judged well
    read_sound : (position : ℕ) (bytes : List ℕ) (h : Going) → r.bytes ≡ Some bytes → is_pinned (content_of snap) v.name ≡ true → read_of crypto now path position v (counting vs g) bytes ≡ Ok h → Further done rest r g h
    unfolding read_of
    read_sound position bytes h there pinned e = by_entry (listed_in s.0 path v.name) refl s.2
      where
        s : (x : InForce) × (at_role position (adopted_of crypto now g.set v bytes) ≡ Ok x) × (followed_of path position v (having_read x v.name (counting vs g)) (listed_in x path v.name) ≡ Ok h)
        s = step_ok (at_role position (adopted_of crypto now g.set v bytes)) (λ x. followed_of path position v (having_read x v.name (counting vs g)) (listed_in x path v.name)) h e

        agree : (x : Held Targets) → at_name v.delegator g.set.targets ≡ Some x → documents v.delegator ≡ Some (content_of x)
        agree x k = has v.delegator x (ap (λ rs. held_in rs v.delegator) (sym i.all_is) ∙ held_further done (r ∷ rest) v.delegator x (sym (i.held v.delegator) ∙ k))

        a : Adopted crypto now g.set root i.root_is snap i.snap_is documents v bytes s.0
        a = adopted_sound crypto now g.set root i.root_is snap i.snap_is documents v bytes s.0 agree (role_was_ok position (adopted_of crypto now g.set v bytes) s.0 s.1)

        doc : document_in s.0 v.name ≡ Some (content_in {T = Targets} a.trusted.doc)
        doc = document_here bytes there pinned s.0 a

        by_entry : (o : Option TargetFile) → listed_in s.0 path v.name ≡ o → followed_of path position v (having_read s.0 v.name (counting vs g)) o ≡ Ok h → Further done rest r g h
        by_entry (Some entry) at k =
            subst (Further done rest r g) (ok_same _ h k) (lists_path bytes there pinned s.0 a entry (sym (ap (option_and_then (λ (d : Targets). at_name path d.targets)) doc) ∙ at))
        by_entry None at k =
            let m = step_ok (at_role position (or_malformed (matching path (delegated_by (document_in s.0 v.name))))) (λ next. Ok (record (having_read s.0 v.name (counting vs g)) { pending = put_before v.name next vs })) h k in
            let found = matched (matching path (delegated_by (document_in s.0 v.name))) m.0 (role_was_ok position (or_malformed (matching path (delegated_by (document_in s.0 v.name)))) m.0 m.1) in
            subst (Further done rest r g) (ok_same _ h m.2)
            (goes_below bytes there pinned s.0 a m.0 (sym (ap (option_and_then (λ (d : Targets). at_name path d.targets)) doc) ∙ at) (sym (ap (λ d. matching path (delegated_by d)) doc) ∙ found))

    made_sound : (position : ℕ) (h : Going) → is_there r.bytes (is_pinned_in g.set v.name) ≡ true → made_of crypto now path position v (counting vs g) r.bytes ≡ Ok h → Further done rest r g h
    made_sound position h due made = by_bytes r.bytes refl due made
      where
        by_bytes : (o : Option (List ℕ)) → r.bytes ≡ o → is_there o (is_pinned_in g.set v.name) ≡ true → made_of crypto now path position v (counting vs g) o ≡ Ok h → Further done rest r g h
        by_bytes None e due made =
            subst (Further done rest r g) (ok_same (counting vs g) h made) (none_read e (sym (pinned_so g.set snap v.name i.snap_is) ∙ not_true (is_pinned_in g.set v.name) due))
        by_bytes (Some bytes) e due made = read_sound position bytes h e (sym (pinned_so g.set snap v.name i.snap_is) ∙ due) made

  pub visited_sound : (done rest : List RoleDoc) (r : RoleDoc) (g h : Going) (position : ℕ) → Inv done (r ∷ rest) g → visited_of crypto now path position r g ≡ Ok h → Further done rest r g h
  unfolding visited_of
  visited_sound done rest r g h position i e =
      let n = step_ok (ok_or (next_of g) (archive.Order position)) (λ next. due_of position g.set next.0 r >>= λ _. made_of crypto now path position next.0 (counting next.1 g) r.bytes) h e in
      let d = step_ok (due_of position g.set n.0.0 r) (λ _. made_of crypto now path position n.0.0 (counting n.0.1 g) r.bytes) h n.2 in
      let next = unless (g.left == 0) (unread_of g.read g.pending) n.0 (some_of (next_of g) (archive.Order position) n.0 n.1) in
      let due = and_true (is_visit r n.0.0) (is_there r.bytes (is_pinned_in g.set n.0.0.name)) (when (is_due g.set n.0.0 r) (archive.Order position) d.1) in
      made_sound done rest r g i n.0.0 n.0.1 next.0 next.1 (same_visit r n.0.0 due.0) position h due.1 d.2

  -- ---- all of them

  pub record Judged (done : List RoleDoc) (g : Going) (entry : TargetFile) : Type 0 where
    pub trusted : AllByRecursion Trusts all
    pub leads : Visited max tree g.pending (walk_in done g) ≡ Ok (map visit_in all)
    pub listed : listed_last all ≡ Some entry

  all_sound : (rest done : List RoleDoc) (g : Going) (position : ℕ) (entry : TargetFile) → Inv done rest g → roles_of crypto now path position rest g ≡ Ok entry → Judged done g entry
  all_sound [] done g position entry i h =
      let l = i.listing_ended entry (some_of (entry_of path g) (archive.Order position) entry h) in
      let whole : done ≡ all = sym (append-nil done) ∙ i.all_is in
      record {
        trusted = subst (AllByRecursion Trusts) whole i.trusted;
        leads = drained max tree g.pending (walk_in done g) i.fits l.0 ∙ ap (λ rs. Ok (map visit_in rs)) whole;
        listed = ap listed_last (sym whole) ∙ l.1;
      }
  all_sound (r ∷ rest) done g position entry i h =
      let s = step_ok (visited_of crypto now path position r g) (λ x. roles_of crypto now path (position + 1) rest x) entry h in
      let f = visited_sound done rest r g s.0 position i s.1 in
      let o = all_sound rest (done ++ r ∷ []) s.0 (position + 1) entry f.inv s.2 in
      record { trusted = o.trusted; leads = f.leads ∙ o.leads; listed = o.listed }

  -- nothing was visited yet
  pub at_first : (g : Going) → content_in {T = declared.Root} g.set.root ≡ root → g.set.snapshot ≡ Some snap → g.set.targets ≡ [] → g.read ≡ [] → g.left ≡ max → Inv [] all g
  at_first g root_is snap_is none unread left = record {
    all_is = refl;
    root_is = root_is;
    snap_is = snap_is;
    held = λ q. ap (at_name q) none;
    were_read = λ q x e. cc;
    trusted = tt;
    fits = omega (arith, left);
    listing_ended = λ e k. let never : None ≡ Some e = sym (ap (λ x. option_and_then (listed_in g.set path) (last_or None x)) unread) ∙ k in cc;
  }

  pub roles_sound : (g : Going) (entry : TargetFile) → content_in {T = declared.Root} g.set.root ≡ root → g.set.snapshot ≡ Some snap → g.set.targets ≡ [] → g.read ≡ [] → g.left ≡ max → roles_of crypto now path 0 all g ≡ Ok entry → Judged [] g entry
  roles_sound g entry root_is snap_is none unread left h = all_sound all [] g 0 entry (at_first g root_is snap_is none unread left) h
