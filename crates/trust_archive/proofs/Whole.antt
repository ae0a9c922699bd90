-- A chain is answered exactly where the bytes are its spelling and it is trusted, and bytes are an archive of one chain.
use Rattle.std.proofs.Common.{◌≡◌, ℕ, List, [], ◌∷◌, length, map, Option, Some, Result, Ok, Err, codes, refl, sym, ap, ap₂, ◌∙◌, subst}
use Rattle.std.specs.Prelude.{⊤, option_and_then}
use Rattle.std.specs.List.{AllByRecursion}
use Rattle.std.specs.Result.{result_ok}
use Rattle.jiff_core.specs.declared.timestamp.Timestamp as jiff
use Rattle.foundation.specs.Results.{step_ok, ok_same, some_same}
use Rattle.foundation.specs.Steps.{◌>>=◌}
use Rattle.der_grammar.specs.Tlv.{IsBytes}
use Rattle.sigstore_types_parts.specs.Entries.{at_name}
use Rattle.sigstore_keys.specs.Crypto.{Crypto}
use Rattle.sigstore_tuf_text.specs.declared.error.Error.{Error}
use Rattle.sigstore_tuf_parts.specs.declared.root.Root as declared
use Rattle.sigstore_tuf_parts.specs.declared.snapshot.Snapshot.{Snapshot}
use Rattle.sigstore_tuf_parts.specs.declared.targets.TargetFile.{TargetFile}
use Rattle.sigstore_tuf_parts.specs.declared.targets.Targets.{Targets}
use Rattle.sigstore_tuf_parts.specs.Document.{Document, content_in}
use Rattle.sigstore_tuf_parts.specs.Integrity.{integrity_of}
use Rattle.sigstore_tuf_parts.specs.Pinned.{PinnedFile}
use Rattle.sigstore_tuf_parts.specs.RootRoles.{MeetsRole}
use Rattle.sigstore_tuf_parts.proofs.IntegrityLaws.{integrity_exactly}
use Rattle.sigstore_tuf_rules.specs.declared.chain.TrustChain.{TrustChain}
use Rattle.sigstore_tuf_rules.specs.declared.documents.InForce.{InForce}
use Rattle.sigstore_tuf_rules.specs.Names.{snapshot_pin_in}
use Rattle.sigstore_tuf_rules.specs.Order.{Gap, order, walk_of, search_of, first_visit, first_walk}
use Rattle.sigstore_tuf_rules.specs.SearchLaws.{walk_all, visits_of}
use Rattle.sigstore_tuf_rules.specs.declared.visit.Walk.{Walk}
use Rattle.sigstore_tuf_rules.specs.declared.visit.Visit.{Visit}
use Rattle.sigstore_tuf_rules.specs.Trusted.{visit_in, documents_in, last_in, AreRoots, Reading, TrustedAs, Trusted}
use Rattle.sigstore_tuf_rules.specs.Update.{with_timestamp}
use Rattle.trust_archive.specs.declared.archive.Archive.{Archive}
use Rattle.trust_archive.specs.declared.error.ArchiveError.{ArchiveError}
use Rattle.trust_archive.specs.declared.error.Unread.{Unread}
use Rattle.trust_archive.specs.Archive.{IsArchive}
use Rattle.trust_archive.specs.Spelling.{archive_in, with_target, parts_of, in_format, archive_of, HasTexts, spelling_of}
use Rattle.trust_archive.specs.Judgement.{roots_of, timed_of, snapped_of, having_snapshot, top_of, begun, roles_of, or_file, file_of, judged_of, chain_of}
use Rattle.trust_archive.proofs.Parts.{to}
use Rattle.trust_archive.proofs.Format.{parts_taken, spelling_read, read_spelling, one_spelling}
use Rattle.trust_archive.proofs.Roots.{RootedFresh, roots_sound, Came, roots_complete}
use Rattle.trust_archive.proofs.Tops.{Timed, timed_sound, Snapped, snapped_sound, timed_complete, snapped_complete}
use Rattle.trust_archive.proofs.Sound.{in_chain, Judged, roles_sound}
use Rattle.trust_archive.proofs.Complete.{roles_complete}

-- ---- the walk from `targets` on is the search

again : (r : Result Walk Gap) → visits_of (r >>= λ u. Ok u) ≡ (r >>= λ w. Ok w.visits)
again (Ok u) = refl
again (Err e) = refl

pub searched : (documents : List ℕ → Option Targets) (snapshot : Snapshot) (path : List ℕ) (max : ℕ) (visits : List Visit)
    → visits_of (walk_all max (record { documents = documents; snapshot = snapshot; path = path }) (first_visit ∷ []) (first_walk max)) ≡ Ok visits → order documents snapshot path max ≡ Some visits
unfolding search_of
searched documents snapshot path max visits h = ap result_ok (sym (again (walk_of max (record { documents = documents; snapshot = snapshot; path = path }) first_visit (first_walk max))) ∙ h)

-- ---- the format

pub was_read : (total : ℕ) (r : Result Archive Unread) (a : Archive) → in_format total r ≡ Ok a → r ≡ Ok a
was_read total (Ok x) a h = ap Ok (ok_same x a h)
was_read total (Err e) a h = cc

-- ---- the file

file_was_ok : (r : Result ⊤ Error) → or_file r ≡ Ok tt → r ≡ Ok tt
file_was_ok (Ok x) h = refl
file_was_ok (Err e) h = cc

file_sound : (entry : TargetFile) (bytes : List ℕ) → file_of entry bytes ≡ Ok tt → PinnedFile bytes entry
unfolding file_of
file_sound entry bytes h = (integrity_exactly (Some entry.length) (Some entry.hashes) bytes).0 (file_was_ok (integrity_of (Some entry.length) (Some entry.hashes) bytes) h)

file_complete : (entry : TargetFile) (bytes : List ℕ) → PinnedFile bytes entry → file_of entry bytes ≡ Ok tt
unfolding file_of
file_complete entry bytes h = ap or_file ((integrity_exactly (Some entry.length) (Some entry.hashes) bytes).1 h)

module _ (crypto : Crypto) (given : List ℕ) (now : jiff.Timestamp) where
  -- ---- the documents before the roles

  pub record Top (a : Archive) (set : InForce) : Type 0 where
    pub rooted : InForce
    pub root : RootedFresh crypto given now a.roots rooted
    pub timed : InForce
    pub time : Timed crypto now a.timestamp rooted timed
    pub snap : Snapped crypto now a.snapshot timed set

  pub top_sound : (a : Archive) (set : InForce) → top_of crypto given now a ≡ Ok set → Top a set
  unfolding top_of
  top_sound a set h =
      let r = step_ok (roots_of crypto given now a.roots) (λ rooted. timed_of crypto now a.timestamp rooted >>= λ timed. snapped_of crypto now a.snapshot timed) set h in
      let t = step_ok (timed_of crypto now a.timestamp r.0) (λ timed. snapped_of crypto now a.snapshot timed) set r.2 in
      record {
        rooted = r.0;
        root = roots_sound crypto given now a.roots r.0 r.1;
        timed = t.0;
        time = timed_sound crypto now a.timestamp r.0 t.0 t.1;
        snap = snapped_sound crypto now a.snapshot t.0 set t.2;
      }

  module _ (max : ℕ) (path : List ℕ) where
    -- ---- what is judged well is trusted

    pub judged_sound : (a : Archive) (entry : TargetFile) → judged_of crypto given now max path a ≡ Ok entry → Trusted crypto given now max path (with_target a entry)
    unfolding judged_of
    judged_sound a entry h = by_top (top_sound a s.0 s.1)
      where
        s : (set : InForce) × (top_of crypto given now a ≡ Ok set) × ((roles_of crypto now path 0 a.roles (begun set max) >>= λ e. (file_of e a.file >>= λ _. Ok e)) ≡ Ok entry)
        s = step_ok (top_of crypto given now a) (λ set. roles_of crypto now path 0 a.roles (begun set max) >>= λ e. (file_of e a.file >>= λ _. Ok e)) entry h

        v : (e : TargetFile) × (roles_of crypto now path 0 a.roles (begun s.0 max) ≡ Ok e) × ((file_of e a.file >>= λ _. Ok e) ≡ Ok entry)
        v = step_ok (roles_of crypto now path 0 a.roles (begun s.0 max)) (λ e. file_of e a.file >>= λ _. Ok e) entry s.2

        f : (x : ⊤) × (file_of v.0 a.file ≡ Ok x) × (◌≡◌ {A = Result TargetFile ArchiveError} (Ok v.0) (Ok entry))
        f = step_ok (file_of v.0 a.file) (λ _. Ok v.0) entry v.2

        by_top : Top a s.0 → Trusted crypto given now max path (with_target a entry)
        by_top t = subst (λ e. Trusted crypto given now max path (with_target a e)) (ok_same v.0 entry f.2) (is, whole)
          where
            root : Document declared.Root
            root = t.rooted.root

            timed_root : t.timed.root ≡ t.rooted.root
            timed_root = ap (λ (x : InForce). x.root) t.time.new_is

            set_root : s.0.root ≡ t.rooted.root
            set_root = ap (λ (x : InForce). x.root) t.snap.new_is ∙ timed_root

            set_targets : s.0.targets ≡ []
            set_targets = ap (λ (x : InForce). x.targets) t.snap.new_is ∙ ap (λ (x : InForce). x.targets) t.time.new_is ∙ t.root.rooted.bare.targets

            is : Reading
            is = record { root = t.rooted.root; timestamp = t.time.doc; snapshot = t.snap.doc; pin = t.snap.pin }

            j : Judged crypto now path max (content_in {T = declared.Root} t.rooted.root) (record { bytes = a.snapshot; document = t.snap.doc }) a.roles (documents_in a.roles) (in_chain a.roles) [] (begun s.0 max) v.0
            j =
                roles_sound crypto now path max (content_in {T = declared.Root} t.rooted.root) (record { bytes = a.snapshot; document = t.snap.doc }) a.roles (documents_in a.roles) (in_chain a.roles) (begun s.0 max) v.0
                (ap (λ (x : Document declared.Root). content_in {T = declared.Root} x) set_root) (ap (λ (x : InForce). x.snapshot) t.snap.new_is) set_targets refl refl v.1

            whole : TrustedAs crypto given now max path (with_target a v.0) is
            whole = record {
              roots = subst (λ rs. AreRoots crypto given rs t.rooted.root) t.root.rooted.roots_are t.root.rooted.authorised.roots;
              root_fresh = t.root.fresh;
              timestamp_read = t.time.is.read;
              timestamp_fresh = t.time.is.fresh;
              timestamp_met = t.time.is.met;
              snapshot_read = t.snap.is.read;
              snapshot_fresh = t.snap.is.fresh;
              snapshot_met = subst (λ (x : Document declared.Root). MeetsRole crypto (content_in {T = declared.Root} x) (codes "snapshot") t.snap.doc) timed_root t.snap.is.met;
              pin_is = sym (ap snapshot_pin_in t.time.new_is) ∙ t.snap.pin_is;
              snapshot_version = t.snap.is.version;
              order_is = searched (documents_in a.roles) (content_in {T = Snapshot} t.snap.doc) path max (map visit_in a.roles) j.leads;
              listed = j.listed;
              roles = j.trusted;
              file = file_sound v.0 a.file f.1;
            }

    -- ---- what is trusted is judged well

    pub judged_complete : (chain : TrustChain) → Trusted crypto given now max path chain → judged_of crypto given now max path (archive_in chain) ≡ Ok chain.target
    unfolding judged_of top_of
    judged_complete chain (is, t) =
        to (roots_of crypto given now chain.roots >>= λ rooted. (timed_of crypto now chain.timestamp rooted >>= λ timed. snapped_of crypto now chain.snapshot timed))
        (λ set. roles_of crypto now path 0 chain.roles (begun set max) >>= λ e. (file_of e chain.file >>= λ _. Ok e)) (having_snapshot (with_timestamp c.new (record { bytes = chain.timestamp; document = is.timestamp })) chain.snapshot is.snapshot) top
        ∙ to (roles_of crypto now path 0 chain.roles (begun (having_snapshot (with_timestamp c.new (record { bytes = chain.timestamp; document = is.timestamp })) chain.snapshot is.snapshot) max)) (λ e. file_of e chain.file >>= λ _. Ok e) chain.target roles
        ∙ to (file_of chain.target chain.file) (λ _. Ok chain.target) tt (file_complete chain.target chain.file t.file)
      where
        c : Came crypto given now chain.roots is.root
        c = roots_complete crypto given now chain.roots is.root t.roots t.root_fresh

        top : (roots_of crypto given now chain.roots >>= λ rooted. (timed_of crypto now chain.timestamp rooted >>= λ timed. snapped_of crypto now chain.snapshot timed)) ≡ Ok (having_snapshot (with_timestamp c.new (record { bytes = chain.timestamp; document = is.timestamp })) chain.snapshot is.snapshot)
        top =
            to (roots_of crypto given now chain.roots) (λ rooted. timed_of crypto now chain.timestamp rooted >>= λ timed. snapped_of crypto now chain.snapshot timed) c.new c.is
            ∙ to (timed_of crypto now chain.timestamp c.new) (λ timed. snapped_of crypto now chain.snapshot timed) (with_timestamp c.new (record { bytes = chain.timestamp; document = is.timestamp }))
            (timed_complete crypto now chain.timestamp c.new is.timestamp c.bare.timestamp
            (record { read = t.timestamp_read; fresh = t.timestamp_fresh; met = subst (λ (x : Document declared.Root). MeetsRole crypto (content_in {T = declared.Root} x) (codes "timestamp") is.timestamp) (sym c.root) t.timestamp_met }))
            ∙ snapped_complete crypto now chain.snapshot (with_timestamp c.new (record { bytes = chain.timestamp; document = is.timestamp })) is.pin is.snapshot t.pin_is
            (record {
              read = t.snapshot_read;
              fresh = t.snapshot_fresh;
              met = subst (λ (x : Document declared.Root). MeetsRole crypto (content_in {T = declared.Root} x) (codes "snapshot") is.snapshot) (sym c.root) t.snapshot_met;
              version = t.snapshot_version;
            })

        roles : roles_of crypto now path 0 chain.roles (begun (having_snapshot (with_timestamp c.new (record { bytes = chain.timestamp; document = is.timestamp })) chain.snapshot is.snapshot) max) ≡ Ok chain.target
        roles =
            roles_complete crypto now path max (content_in {T = declared.Root} is.root) (record { bytes = chain.snapshot; document = is.snapshot }) t.snapshot_fresh chain.roles chain.target t.roles t.listed (having_snapshot (with_timestamp c.new (record { bytes = chain.timestamp; document = is.timestamp })) chain.snapshot is.snapshot)
            (ap (λ (x : Document declared.Root). content_in {T = declared.Root} x) c.root) refl c.bare.targets t.order_is

    -- ---- the whole

    pub chain_sound : (bytes : List ℕ) (chain : TrustChain) → IsBytes bytes → chain_of crypto given now max path bytes ≡ Ok chain → IsArchive crypto given now max path bytes chain
    unfolding chain_of
    chain_sound bytes chain o h =
        let a = step_ok (archive_of bytes) (λ a. judged_of crypto given now max path a >>= λ entry. Ok (with_target a entry)) chain h in
        let e = step_ok (judged_of crypto given now max path a.0) (λ entry. Ok (with_target a.0 entry)) chain a.2 in
        subst (IsArchive crypto given now max path bytes) (ok_same (with_target a.0 e.0) chain e.2)
        (record { spelled = read_spelling bytes a.0 e.0 o (was_read (length bytes) (parts_of bytes) a.0 a.1); trusted = judged_sound a.0 e.0 e.1 })

    pub chain_complete : (bytes : List ℕ) (chain : TrustChain) → IsArchive crypto given now max path bytes chain → chain_of crypto given now max path bytes ≡ Ok chain
    unfolding chain_of
    chain_complete bytes chain i =
        to (archive_of bytes) (λ a. judged_of crypto given now max path a >>= λ entry. Ok (with_target a entry)) (archive_in chain) (ap (in_format (length bytes)) (spelling_read bytes chain i.spelled))
        ∙ to (judged_of crypto given now max path (archive_in chain)) (λ entry. Ok (with_target (archive_in chain) entry)) chain.target (judged_complete chain i.trusted)

-- ---- bytes are an archive of one chain

pub one_chain : (crypto other : Crypto) (given another : List ℕ) (now day : jiff.Timestamp) (max most : ℕ) (path bytes : List ℕ) (a b : TrustChain) → IsArchive crypto given now max path bytes a → IsArchive other another day most path bytes b → a ≡ b
one_chain crypto other given another now day max most path bytes a b i j =
    let same = one_spelling bytes a b i.spelled j.spelled in
    let target : a.target ≡ b.target =
    some_same a.target b.target (sym i.trusted.1.listed ∙ ap (λ (x : Archive). option_and_then (λ (doc : Targets). at_name path doc.targets) (last_in x.roles)) same ∙ j.trusted.1.listed) in
    ap₂ with_target same target

-- ---- what is read has one spelling, and what is written is read again

pub one_spelling_read : (one two : List ℕ) (a : Archive) → IsBytes one → IsBytes two → archive_of one ≡ Ok a → archive_of two ≡ Ok a → one ≡ two
one_spelling_read one two a o p h k =
    let first = parts_taken one a o (was_read (length one) (parts_of one) a h) in
    let second = parts_taken two a p (was_read (length two) (parts_of two) a k) in
    first.is ∙ sym second.is

pub written_is_read : (crypto : Crypto) (given : List ℕ) (now : jiff.Timestamp) (max : ℕ) (path bytes : List ℕ) (chain : TrustChain) → AllByRecursion HasTexts chain.roles → spelling_of chain ≡ Ok bytes → Trusted crypto given now max path chain
    → chain_of crypto given now max path bytes ≡ Ok chain
written_is_read crypto given now max path bytes chain texts is t = chain_complete crypto given now max path bytes chain (record { spelled = record { texts = texts; is = is }; trusted = t })
