-- Each refusal of an archive has its cause.
use Rattle.std.proofs.Common.{◌≡◌, ◌≢◌, ℕ, ◌+◌, ◌-◌, List, [], ◌∷◌, ◌++◌, map, length, append_assoc, append-nil, length-append, Bool, true, false, if◌then◌else◌, Some, None, Result, Ok, Err, bytes_eq, codes, refl, sym, ap, ◌∙◌, subst, arith}
use Rattle.std.specs.Prelude.{⊤, ok_or}
use Rattle.std.proofs.lemmas.Slice.Eq.{bytes_eq-Decides}
use Rattle.jiff_core.specs.declared.timestamp.Timestamp as jiff
use Rattle.der_grammar.specs.Tlv.{IsBytes}
use Rattle.foundation.specs.Results.{err_same, no_both, refused_at}
use Rattle.foundation.specs.Steps.{◌>>=◌}
use Rattle.sigstore_keys.specs.Crypto.{Crypto}
use Rattle.sigstore_tuf_text.specs.declared.error.Error.{Error}
use Rattle.sigstore_tuf_text.specs.declared.error.Error.TheVariants as tuf
use Rattle.sigstore_tuf_text.specs.declared.error.Rule.TheVariants as rule
use Rattle.sigstore_tuf_parts.specs.declared.root.Root as declared
use Rattle.sigstore_tuf_parts.specs.declared.snapshot.Snapshot.{Snapshot}
use Rattle.sigstore_tuf_parts.specs.declared.targets.TargetFile.{TargetFile}
use Rattle.sigstore_tuf_parts.specs.declared.timestamp.MetaFile.{MetaFile}
use Rattle.sigstore_tuf_parts.specs.declared.timestamp.Timestamp.{Timestamp}
use Rattle.sigstore_tuf_parts.specs.Document.{Document, content_in}
use Rattle.sigstore_tuf_parts.specs.Integrity.{integrity_of, version_of}
use Rattle.sigstore_tuf_parts.specs.Laws.{ReadsWithCause}
use Rattle.sigstore_tuf_parts.specs.Pinned.{PinnedFile}
use Rattle.sigstore_tuf_parts.specs.RootRoles.{meets_role_of, MeetsRole}
use Rattle.sigstore_tuf_parts.specs.Snapshot.{snapshot_of}
use Rattle.sigstore_tuf_parts.specs.Timestamp.{timestamp_of}
use Rattle.sigstore_tuf_parts.proofs.IntegrityLaws.{integrity_exactly}
use Rattle.sigstore_tuf_parts.proofs.PinCauses.{expiry_cause}
use Rattle.sigstore_tuf_parts.proofs.ReadingCauses.{read_cause, timestamp_only, snapshot_only}
use Rattle.sigstore_tuf_parts.proofs.RoleCauses.{role_cause}
use Rattle.sigstore_tuf_rules.specs.declared.chain.RoleDoc.{RoleDoc}
use Rattle.sigstore_tuf_rules.specs.declared.documents.InForce.{InForce}
use Rattle.sigstore_tuf_rules.specs.Documents.{timestamp_document, snapshot_document}
use Rattle.sigstore_tuf_rules.specs.Names.{snapshot_pin_in}
use Rattle.sigstore_tuf_rules.specs.Serving.{root_serves_of}
use Rattle.sigstore_tuf_rules.specs.Trusted.{visit_in, documents_in, BeginsWith, AreRoots}
use Rattle.sigstore_tuf_rules.specs.Update.{newer_of, first_root_of, update_root_of, timestamp_checks_of, update_timestamp_of, with_timestamp}
use Rattle.sigstore_tuf_runs.specs.Cause.{FirstCause}
use Rattle.sigstore_tuf_causes.proofs.Refusals.{first_refusal, root_refusal, another_version, missing}
use Rattle.trust_archive.specs.declared.archive.Archive.{Archive}
use Rattle.trust_archive.specs.declared.error.ArchiveError.{ArchiveError}
use Rattle.trust_archive.specs.declared.error.ArchiveError.TheVariants as archive
use Rattle.trust_archive.specs.declared.error.Unread.{Unread}
use Rattle.trust_archive.specs.declared.error.Unread.TheVariants.{Left, NoMemory}
use Rattle.trust_archive.specs.Cause.{RootCause, first, next, expired, HasRoot, TimestampCause, time_unread, time_unmet, time_expired, pins_none, SnapshotCause, snap_unread, snap_unmet, snap_version, snap_expired, HasTimestamp, HasTop, ComesTo, ArchiveCause}
use Rattle.trust_archive.specs.Judgement.{Going, at_root, at_timestamp, at_snapshot, later_roots_of, fresh_root_of, roots_of, timed_of, snapshot_judged_of, snapshot_read_of, snapped_of, top_of, begun, roles_of, or_file, file_of, judged_of, chain_of}
use Rattle.trust_archive.specs.Spelling.{archive_in, with_target, parts_of, in_format, archive_of, IsSpelling}
use Rattle.trust_archive.proofs.Beginning.{format_begins}
use Rattle.trust_archive.proofs.Format.{spelling_read, read_spelling}
use Rattle.trust_archive.proofs.Limited.{Comes}
use Rattle.trust_archive.proofs.Reached.{visits, in_force, comes_next, is_allowed, parts_so}
use Rattle.trust_archive.proofs.Roots.{at_root_ok, Rooted, first_rooted, one_rooted, later_rooted, RootedFresh, roots_sound}
use Rattle.trust_archive.proofs.Tops.{archive_some, Timed, timed_sound}
use Rattle.trust_archive.proofs.Sound.{in_chain, pinned_so, roles_sound}
use Rattle.trust_archive.proofs.VisitCauses.{ready_first, RolesRefused, order_refused, role_refused', roles_refused}
use Rattle.trust_archive.proofs.Whole.{searched, was_read, Top, top_sound}

-- ---- the refusal of a step

at_root_err : {A : Type 0} (position : ℕ) (r : Result A Error) (e : ArchiveError) → at_root position r ≡ Err e → (fault : Error) × (r ≡ Err fault) × (e ≡ archive.Root position fault)
at_root_err position (Ok x) e h = cc
at_root_err position (Err f) e h = (f, refl, sym (err_same (archive.Root position f) e h))

at_timestamp_err : {A : Type 0} (r : Result A Error) (e : ArchiveError) → at_timestamp r ≡ Err e → (fault : Error) × (r ≡ Err fault) × (e ≡ archive.Timestamp fault)
at_timestamp_err (Ok x) e h = cc
at_timestamp_err (Err f) e h = (f, refl, sym (err_same (archive.Timestamp f) e h))

at_snapshot_err : {A : Type 0} (r : Result A Error) (e : ArchiveError) → at_snapshot r ≡ Err e → (fault : Error) × (r ≡ Err fault) × (e ≡ archive.Snapshot fault)
at_snapshot_err (Ok x) e h = cc
at_snapshot_err (Err f) e h = (f, refl, sym (err_same (archive.Snapshot f) e h))

module _ (crypto : Crypto) (given : List ℕ) (now : jiff.Timestamp) where
  -- ---- the roots

  pub data RootsRefused (roots : List (List ℕ)) (e : ArchiveError) : Type 0 where
    not_given : e ≡ archive.FirstRoot → (BeginsWith given roots → ⊥) → RootsRefused roots e
    root_refused : (position : ℕ) (fault : Error) → e ≡ archive.Root position fault → RootCause crypto given now roots position fault → RootsRefused roots e

  rooted_are : (roots : List (List ℕ)) (set : InForce) → Rooted crypto given roots set → AreRoots crypto given roots set.root
  rooted_are roots set r = subst (λ rs. AreRoots crypto given rs set.root) r.roots_are r.authorised.roots

  one_longer : (before : List (List ℕ)) (root : List ℕ) (position : ℕ) → position ≡ length before → position + 1 ≡ length (before ++ root ∷ [])
  one_longer before root position h = omega (arith, h, length-append before (root ∷ []))

  later_refused : (roots : List (List ℕ)) (position : ℕ) (before later : List (List ℕ)) (set : InForce) (e : ArchiveError) → Rooted crypto given before set → position ≡ length before → roots ≡ before ++ later
      → later_roots_of crypto position later set ≡ Err e → RootsRefused roots e
  later_refused roots position before [] set e r at whole h = cc
  later_refused roots position before (root ∷ later) set e r at whole h =
      refused_at (at_root position (update_root_of crypto set root)) (λ x. later_roots_of crypto (position + 1) later x) e h
      (λ p. let f = at_root_err position (update_root_of crypto set root) e p in
      root_refused position f.0 f.2 (next before root later set whole at (rooted_are before set r) (root_refusal crypto set root f.0 f.1)))
      (λ new p k.
      later_refused roots (position + 1) (before ++ root ∷ []) later new e (one_rooted crypto given before root set new r (at_root_ok position (update_root_of crypto set root) new p)) (one_longer before root position at)
      (whole ∙ sym (append_assoc before (root ∷ []) later)) k)

  fresh_refused : (root : List ℕ) (later : List (List ℕ)) (set : InForce) (e : ArchiveError) → Rooted crypto given (root ∷ later) set → fresh_root_of (length later) now set ≡ Err e → RootsRefused (root ∷ later) e
  fresh_refused root later set e r h =
      refused_at (at_root (length later) (root_serves_of set now)) (λ _. Ok set) e h
      (λ p. let f = at_root_err (length later) (root_serves_of set now) e p in
      root_refused (length later) f.0 f.2 (expired set.root (omega arith) (rooted_are (root ∷ later) set r) (expiry_cause (codes "root") (content_in {T = declared.Root} set.root).expires now f.0 f.1))) (λ x p k. cc)

  pub roots_refused : (roots : List (List ℕ)) (e : ArchiveError) → roots_of crypto given now roots ≡ Err e → RootsRefused roots e
  unfolding roots_of
  roots_refused [] e h = not_given (sym (err_same archive.FirstRoot e h)) (λ b. b)
  roots_refused (root ∷ later) e h = by_given (bytes_eq root given) refl h
    where
      by_given : (b : Bool) → bytes_eq root given ≡ b
          → (if b then (at_root 0 (first_root_of crypto root) >>= λ first. later_roots_of crypto 1 later first >>= λ s. fresh_root_of (length later) now s) else Err archive.FirstRoot) ≡ Err e → RootsRefused (root ∷ later) e
      by_given false other h =
          not_given (sym (err_same archive.FirstRoot e h)) (λ same. let never : true ≡ false = sym ((bytes_eq-Decides root given).1 same) ∙ other in cc)
      by_given true same h =
          let is : root ≡ given = (bytes_eq-Decides root given).0 same in
          refused_at (at_root 0 (first_root_of crypto root)) (λ first. later_roots_of crypto 1 later first >>= λ s. fresh_root_of (length later) now s) e h
          (λ p. let f = at_root_err 0 (first_root_of crypto root) e p in
          root_refused 0 f.0 f.2 (first refl is (subst (λ g. FirstCause crypto g f.0) is (first_refusal crypto root f.0 f.1)))) (λ set p k.
          let r = first_rooted crypto given root set is (at_root_ok 0 (first_root_of crypto root) set p) in
          refused_at (later_roots_of crypto 1 later set) (λ s. fresh_root_of (length later) now s) e k (λ q. later_refused (root ∷ later) 1 (root ∷ []) later set e r refl refl q)
          (λ new q l. fresh_refused root later new e (later_rooted crypto given 1 (root ∷ []) later set new r q) l))

  -- ---- the timestamp and the snapshot

  timestamp_reads : ReadsWithCause (codes "timestamp") timestamp_of
  timestamp_reads = read_cause (codes "timestamp") timestamp_of timestamp_only

  snapshot_reads : ReadsWithCause (codes "snapshot") snapshot_of
  snapshot_reads = read_cause (codes "snapshot") snapshot_of snapshot_only

  time_unchecked : (set : InForce) (bytes : List ℕ) (doc : Document Timestamp) → timestamp_document bytes ≡ Ok doc → set.timestamp ≡ None → (fault : Error) → timestamp_checks_of crypto set doc (Some now) ≡ Err fault
      → TimestampCause crypto now (content_in {T = declared.Root} set.root) bytes fault
  unfolding timestamp_checks_of
  time_unchecked set bytes doc read none fault h =
      refused_at (meets_role_of crypto (content_in {T = declared.Root} set.root) (codes "timestamp") doc) _ fault h
      (λ p. time_unmet doc read (role_cause crypto (content_in {T = declared.Root} set.root) (codes "timestamp") doc fault p)) (λ x p k.
      refused_at (newer_of set.timestamp (content_in {T = Timestamp} doc)) _ fault k
      (λ q. no_both tt fault (sym (ap (λ o. newer_of o (content_in {T = Timestamp} doc)) none) ∙ q)) (λ x q l.
      time_expired doc read (expiry_cause (codes "timestamp") (content_in {T = Timestamp} doc).expires now fault l)))

  pub timed_refused : (bytes : List ℕ) (set : InForce) (e : ArchiveError) → set.timestamp ≡ None → timed_of crypto now bytes set ≡ Err e
      → (fault : Error) × (e ≡ archive.Timestamp fault) × TimestampCause crypto now (content_in {T = declared.Root} set.root) bytes fault
  unfolding timed_of update_timestamp_of
  timed_refused bytes set e none h =
      let f = at_timestamp_err (timestamp_document bytes >>= λ doc. (timestamp_checks_of crypto set doc (Some now) >>= λ _. Ok (with_timestamp set (record { bytes = bytes; document = doc })))) e h in (
        f.0,
        f.2,
        refused_at (timestamp_document bytes) _ f.0 f.1 (λ p. time_unread (timestamp_reads bytes f.0 p)) (λ doc p k.
            refused_at (timestamp_checks_of crypto set doc (Some now)) _ f.0 k (λ q. time_unchecked set bytes doc p none f.0 q) (λ x q l. cc)),
      )

  snapshot_refused : (root : declared.Root) (pin : MetaFile) (bytes : List ℕ) (fault : Error) → snapshot_read_of crypto now root pin bytes ≡ Err fault → SnapshotCause crypto now root pin bytes fault
  unfolding snapshot_read_of snapshot_judged_of
  snapshot_refused root pin bytes fault h =
      refused_at (snapshot_document bytes) _ fault h (λ p. snap_unread (snapshot_reads bytes fault p)) (λ doc p k.
      refused_at (snapshot_judged_of crypto now root pin doc) _ fault k (λ q.
      refused_at (meets_role_of crypto root (codes "snapshot") doc) _ fault q (λ r. snap_unmet doc p (role_cause crypto root (codes "snapshot") doc fault r)) (λ x r l.
      refused_at (version_of pin (content_in {T = Snapshot} doc).version) _ fault l (λ v. snap_version doc p (another_version pin (content_in {T = Snapshot} doc).version fault v)) (λ x v m.
      snap_expired doc p (expiry_cause (codes "snapshot") (content_in {T = Snapshot} doc).expires now fault m)))) (λ x q l. cc))

  pub data SnappedRefused (set : InForce) (bytes : List ℕ) (e : ArchiveError) : Type 0 where
    no_pin : e ≡ archive.Timestamp (tuf.Malformed rule.Unpinned) → snapshot_pin_in set ≡ None → SnappedRefused set bytes e
    snap_refused : (pin : MetaFile) (fault : Error) → snapshot_pin_in set ≡ Some pin → e ≡ archive.Snapshot fault → SnapshotCause crypto now (content_in {T = declared.Root} set.root) pin bytes fault → SnappedRefused set bytes e

  pub snapped_refused : (bytes : List ℕ) (set : InForce) (e : ArchiveError) → snapped_of crypto now bytes set ≡ Err e → SnappedRefused set bytes e
  unfolding snapped_of
  snapped_refused bytes set e h =
      refused_at (ok_or (snapshot_pin_in set) (archive.Timestamp (tuf.Malformed rule.Unpinned))) _ e h (λ p. missing (snapshot_pin_in set) (archive.Timestamp (tuf.Malformed rule.Unpinned)) e p (λ none is. no_pin is none)) (λ pin p k.
      refused_at (at_snapshot (snapshot_read_of crypto now (content_in {T = declared.Root} set.root) pin bytes)) _ e k (λ q.
      let f = at_snapshot_err (snapshot_read_of crypto now (content_in {T = declared.Root} set.root) pin bytes) e q in
      snap_refused pin f.0 (archive_some (snapshot_pin_in set) (archive.Timestamp (tuf.Malformed rule.Unpinned)) pin p) f.2 (snapshot_refused (content_in {T = declared.Root} set.root) pin bytes f.0 f.1)) (λ doc q l. cc))

-- ---- the whole

file_err : (r : Result ⊤ Error) (e : ArchiveError) → or_file r ≡ Err e → (e ≡ archive.File) × (r ≡ Ok tt → ⊥)
file_err (Ok x) e h = cc
file_err (Err f) e h = (sym (err_same archive.File e h), λ k. no_both tt f (sym k))

file_refused : (entry : TargetFile) (bytes : List ℕ) (e : ArchiveError) → file_of entry bytes ≡ Err e → (e ≡ archive.File) × (PinnedFile bytes entry → ⊥)
unfolding file_of
file_refused entry bytes e h =
    let f = file_err (integrity_of (Some entry.length) (Some entry.hashes) bytes) e h in
    (f.0, λ p. f.1 ((integrity_exactly (Some entry.length) (Some entry.hashes) bytes).1 p))

module _ (crypto : Crypto) (given : List ℕ) (now : jiff.Timestamp) (max : ℕ) (path bytes : List ℕ) (octets : IsBytes bytes) where
  abbrev Cause : ArchiveError → Type 0
  Cause e = ArchiveCause crypto given now max path bytes e

  module _ (a : Archive) (read : archive_of bytes ≡ Ok a) where
    spells : (target : TargetFile) → IsSpelling bytes (with_target a target)
    spells target = read_spelling bytes a target octets (was_read (length bytes) (parts_of bytes) a read)

    has_root : (set : InForce) → RootedFresh crypto given now a.roots set → HasRoot crypto given now a.roots set.root
    has_root set r = record { are = subst (λ rs. AreRoots crypto given rs set.root) r.rooted.roots_are r.rooted.authorised.roots; fresh = r.fresh }

    has_timestamp : (rooted timed : InForce) (pin : MetaFile) → Timed crypto now a.timestamp rooted timed → snapshot_pin_in timed ≡ Some pin → HasTimestamp crypto now (content_in {T = declared.Root} rooted.root) a.timestamp pin
    has_timestamp rooted timed pin t is = record { doc = t.doc; read = t.is.read; met = t.is.met; fresh = t.is.fresh; pin_is = sym (ap snapshot_pin_in t.new_is) ∙ is }

    -- ---- the documents before the roles

    roots_cause : (e : ArchiveError) → RootsRefused crypto given now a.roots e → Cause e
    roots_cause e (not_given is other) = subst Cause (sym is) (a, spells, other)
    roots_cause e (root_refused position fault is c) = subst Cause (sym is) (a, spells, c)

    snapped_cause : (rooted timed : InForce) (e : ArchiveError) → RootedFresh crypto given now a.roots rooted → Timed crypto now a.timestamp rooted timed → SnappedRefused crypto given now timed a.snapshot e → Cause e
    snapped_cause rooted timed e r t (no_pin is none) =
        subst Cause (sym is) (a, spells, (rooted.root, has_root rooted r, pins_none t.doc t.is.read t.is.met t.is.fresh (sym (ap snapshot_pin_in t.new_is) ∙ none) refl))
    snapped_cause rooted timed e r t (snap_refused pin fault pin_is is c) =
        subst Cause (sym is) (
          a,
          spells,
          (
            rooted.root,
            has_root rooted r,
            (
              pin,
              has_timestamp rooted timed pin t pin_is,
              subst (λ (x : Document declared.Root). SnapshotCause crypto now (content_in {T = declared.Root} x) pin a.snapshot fault) (ap (λ (x : InForce). x.root) t.new_is) c,
            ),
          ),
        )

    top_cause : (e : ArchiveError) → top_of crypto given now a ≡ Err e → Cause e
    unfolding top_of
    top_cause e h =
        refused_at (roots_of crypto given now a.roots) (λ rooted. timed_of crypto now a.timestamp rooted >>= λ timed. snapped_of crypto now a.snapshot timed) e h (λ p. roots_cause e (roots_refused crypto given now a.roots e p)) (λ rooted p k.
        let r = roots_sound crypto given now a.roots rooted p in
        refused_at (timed_of crypto now a.timestamp rooted) (λ timed. snapped_of crypto now a.snapshot timed) e k (λ q.
        let f = timed_refused crypto given now a.timestamp rooted e r.rooted.bare.timestamp q in
        subst Cause (sym f.1) (a, spells, (rooted.root, has_root rooted r, f.2))) (λ timed q l.
        snapped_cause rooted timed e r (timed_sound crypto now a.timestamp rooted timed q) (snapped_refused crypto given now a.snapshot timed e l)))

    -- ---- under them, the roles and the file

    module _ (set : InForce) (top : Top crypto given now a set) where
      timed_root : top.timed.root ≡ top.rooted.root
      timed_root = ap (λ (x : InForce). x.root) top.time.new_is

      root_is : content_in {T = declared.Root} set.root ≡ content_in {T = declared.Root} top.rooted.root
      root_is = ap (λ (x : InForce). content_in {T = declared.Root} x.root) top.snap.new_is ∙ ap (λ (x : Document declared.Root). content_in {T = declared.Root} x) timed_root

      snap_is : set.snapshot ≡ Some (record { bytes = a.snapshot; document = top.snap.doc })
      snap_is = ap (λ (x : InForce). x.snapshot) top.snap.new_is

      none_yet : set.targets ≡ []
      none_yet = ap (λ (x : InForce). x.targets) top.snap.new_is ∙ ap (λ (x : InForce). x.targets) top.time.new_is ∙ top.root.rooted.bare.targets

      has_top : HasTop crypto given now a top.rooted.root top.snap.doc
      has_top = record {
        rooted = has_root top.rooted top.root;
        pin = top.snap.pin;
        timed = has_timestamp top.rooted top.timed top.snap.pin top.time top.snap.pin_is;
        snapped = record {
          read = top.snap.is.read;
          met = subst (λ (x : Document declared.Root). MeetsRole crypto (content_in {T = declared.Root} x) (codes "snapshot") top.snap.doc) timed_root top.snap.is.met;
          fresh = top.snap.is.fresh;
          version = top.snap.is.version;
        };
      }

      comes_to : (before rest : List RoleDoc) (k : Going) → a.roles ≡ before ++ rest → Comes crypto now path 0 before (begun set max) k → ComesTo crypto given now path a (0 + length before) top.rooted.root top.snap.doc before rest
      comes_to before rest k whole c = record {
        top = has_top;
        roles_are = whole;
        position_is = omega arith;
        visits = visits crypto now path a (content_in {T = declared.Root} top.rooted.root) top.snap.doc top.snap.is.fresh set root_is snap_is none_yet max before k c;
      }

      roles_cause : (e : ArchiveError) → roles_of crypto now path 0 a.roles (begun set max) ≡ Err e → Cause e
      roles_cause e h = by_roles (roles_refused crypto now path 0 a.roles (begun set max) e (ready_first crypto now path set (record { bytes = a.snapshot; document = top.snap.doc }) max snap_is top.snap.is.fresh none_yet) h)
        where
          by_roles : RolesRefused crypto now path 0 a.roles (begun set max) e → Cause e
          by_roles (order_refused before rest k is whole c p) =
              subst Cause (sym is) (
                a,
                spells,
                record {
                  root = top.rooted.root;
                  snapshot = top.snap.doc;
                  before = before;
                  rest = rest;
                  comes = comes_to before rest k whole c;
                  cause = parts_so crypto now path a (content_in {T = declared.Root} top.rooted.root) top.snap.doc top.snap.is.fresh set root_is snap_is none_yet max before k c rest p
                      (λ ends entry found. no_both entry e (sym found ∙ ap (λ rs. roles_of crypto now path 0 rs (begun set max)) (sym (append-nil before) ∙ ap (λ rs. before ++ rs) (sym ends) ∙ sym whole) ∙ h));
                },
              )
          by_roles (role_refused' before rest k fault is whole c p) =
              let now_in = in_force crypto now path a (content_in {T = declared.Root} top.rooted.root) top.snap.doc top.snap.is.fresh set root_is snap_is none_yet max before k c in
              let pinned = sym (pinned_so k.set (record { bytes = a.snapshot; document = top.snap.doc }) p.role.name now_in.snapshot_is) ∙ p.pinned in
              subst Cause (sym is) (
                a,
                spells,
                record {
                  root = top.rooted.root;
                  snapshot = top.snap.doc;
                  before = before;
                  role = p.role;
                  later = p.later;
                  comes = comes_to before (p.role ∷ p.later) k (whole ∙ ap (λ rs. before ++ rs) p.rest_is) c;
                  next = comes_next crypto now path a (content_in {T = declared.Root} top.rooted.root) top.snap.doc top.snap.is.fresh set root_is snap_is none_yet max before k c p.role p.behind p.next pinned;
                  within = is_allowed crypto now path a (content_in {T = declared.Root} top.rooted.root) top.snap.doc top.snap.is.fresh set root_is snap_is none_yet max before k c p.role p.behind p.next;
                  bytes = p.bytes;
                  there = p.there;
                  pinned = pinned;
                  set = k.set;
                  in_force = now_in;
                  cause = p.cause;
                },
              )

      file_cause : (entry : TargetFile) (e : ArchiveError) → roles_of crypto now path 0 a.roles (begun set max) ≡ Ok entry → file_of entry a.file ≡ Err e → Cause e
      file_cause entry e h other =
          let f = file_refused entry a.file e other in
          let j = roles_sound crypto now path max (content_in {T = declared.Root} top.rooted.root) (record { bytes = a.snapshot; document = top.snap.doc }) a.roles (documents_in a.roles) (in_chain a.roles) (begun set max) entry root_is snap_is none_yet refl refl h in
          subst Cause (sym f.0) (
            a,
            spells,
            record {
              root = top.rooted.root;
              snapshot = top.snap.doc;
              top = has_top;
              trusted = j.trusted;
              searched = searched (documents_in a.roles) (content_in {T = Snapshot} top.snap.doc) path max (map visit_in a.roles) j.leads;
              entry = entry;
              listed = j.listed;
              differs = f.1;
            },
          )

    judged_cause : (e : ArchiveError) → judged_of crypto given now max path a ≡ Err e → Cause e
    unfolding judged_of
    judged_cause e h =
        refused_at (top_of crypto given now a) (λ set. roles_of crypto now path 0 a.roles (begun set max) >>= λ x. (file_of x a.file >>= λ _. Ok x)) e h (λ p. top_cause e p) (λ set p k.
        let top = top_sound crypto given now a set p in
        refused_at (roles_of crypto now path 0 a.roles (begun set max)) (λ x. file_of x a.file >>= λ _. Ok x) e k (λ q. roles_cause set top e q) (λ entry q l.
        refused_at (file_of entry a.file) (λ _. Ok entry) e l (λ r. file_cause set top entry e q r) (λ x r m. cc)))

  format_cause : (e : ArchiveError) → archive_of bytes ≡ Err e → e ≢ archive.NoMemory → Cause e
  format_cause e h other = by_parts (parts_of bytes) refl h
    where
      by_parts : (r : Result Archive Unread) → parts_of bytes ≡ r → in_format (length bytes) r ≡ Err e → Cause e
      by_parts (Ok a) is k = cc
      by_parts (Err (Left left)) is k =
          let same : e ≡ archive.Format (length bytes - left) = sym (err_same (archive.Format (length bytes - left)) e k) in
          subst Cause (sym same) (record {
            none = λ chain s. no_both (archive_in chain) (Left left) (sym (spelling_read bytes chain s) ∙ is);
            unread = h ∙ ap Err same;
            before = format_begins bytes left octets is;
          })
      by_parts (Err NoMemory) is k = absurd (other (sym (err_same archive.NoMemory e k)))

  pub chain_cause : (e : ArchiveError) → chain_of crypto given now max path bytes ≡ Err e → e ≢ archive.NoMemory → Cause e
  unfolding chain_of
  chain_cause e h other =
      refused_at (archive_of bytes) (λ a. judged_of crypto given now max path a >>= λ entry. Ok (with_target a entry)) e h (λ p. format_cause e p other) (λ a p k.
      refused_at (judged_of crypto given now max path a) (λ entry. Ok (with_target a entry)) e k (λ q. judged_cause a p e q) (λ entry q l. cc))
