-- Each refusal of an update has its cause in the bytes and in what is in force.
use Rattle.std.proofs.Common.{◌≡◌, ◌≢◌, ℕ, suc, ◌+◌, ◌<◌, List, [], ◌∷◌, Bool, true, false, ◌==◌, nat_lt, if◌then◌else◌, Option, Some, None, Result, Ok, Err, codes, refl, sym, ap, ◌∙◌, subst, arith, Contains}
use Rattle.std.specs.Prelude.{⊤, ok_or}
use Rattle.std.proofs.lemmas.Bool.Decides.{nat_tests}
use Rattle.jiff_core.specs.declared.timestamp.Timestamp as jiff
use Rattle.foundation.specs.Results.{ok_same, err_same, no_both, refused_at}
use Rattle.sigstore_types_parts.specs.Entries.{at_name}
use Rattle.sigstore_keys.specs.Crypto.{Crypto}
use Rattle.sigstore_tuf_text.specs.declared.error.Error.{Error}
use Rattle.sigstore_tuf_text.specs.declared.error.Error.TheVariants as tuf
use Rattle.sigstore_tuf_text.specs.declared.error.Mismatch.TheVariants as mismatch
use Rattle.sigstore_tuf_parts.specs.declared.root.Root as declared_root
use Rattle.sigstore_tuf_parts.specs.declared.snapshot.Snapshot as declared_snapshot
use Rattle.sigstore_tuf_parts.specs.declared.targets.Targets as declared_targets
use Rattle.sigstore_tuf_parts.specs.declared.timestamp.MetaFile.{MetaFile}
use Rattle.sigstore_tuf_parts.specs.declared.timestamp.Timestamp as declared_timestamp
use Rattle.sigstore_tuf_parts.specs.Document.{Document, content_in}
use Rattle.sigstore_tuf_parts.specs.Integrity.{integrity_of, version_of}
use Rattle.sigstore_tuf_parts.specs.Laws.{ReadsWithCause}
use Rattle.sigstore_tuf_parts.specs.Root.{root_of}
use Rattle.sigstore_tuf_parts.specs.RootRoles.{root_document, meets_role_of}
use Rattle.sigstore_tuf_parts.specs.Snapshot.{snapshot_of}
use Rattle.sigstore_tuf_parts.specs.Targets.{targets_of}
use Rattle.sigstore_tuf_parts.specs.Timestamp.{timestamp_of}
use Rattle.sigstore_tuf_parts.proofs.IntegrityLaws.{fresh_exactly}
use Rattle.sigstore_tuf_parts.proofs.PinCauses.{integrity_cause, expiry_cause}
use Rattle.sigstore_tuf_parts.proofs.ReadingCauses.{read_cause, root_only, timestamp_only, snapshot_only, targets_only}
use Rattle.sigstore_tuf_parts.proofs.RoleCauses.{role_cause}
use Rattle.sigstore_tuf_rules.specs.declared.documents.Held.{Held}
use Rattle.sigstore_tuf_rules.specs.declared.documents.InForce.{InForce}
use Rattle.sigstore_tuf_rules.specs.declared.kind.Kind.{Kind}
use Rattle.sigstore_tuf_rules.specs.declared.kind.Kind.TheVariants.{Root, Timestamp, Snapshot, Targets}
use Rattle.sigstore_tuf_rules.specs.Documents.{timestamp_document, snapshot_document, targets_document, content_of, snapshot_pin}
use Rattle.sigstore_tuf_rules.specs.Update.{first_root_of, next_number_of, root_checks_of, update_root_of, not_below_of, other_of, pins_not_below_of, newer_than_of, newer_of, timestamp_checks_of, update_timestamp_of, snapshot_pin_of, kept_pin_of, kept_pins_in, kept_pins_of, snapshot_checks_of, update_snapshot_of, targets_pin_of, targets_checks_of, update_targets_of}
use Rattle.sigstore_tuf_rules.specs.Taking.{taken_of, unless_equal, judged_of}
use Rattle.sigstore_tuf_rules.specs.Serving.{version_in}
use Rattle.sigstore_tuf_runs.specs.Cause.{HasTimestamp, IsBefore, RootRefusal, root_unread, root_misnumbered, root_not_handed_on, root_unmet, IsLower, TimestampRefusal, timestamp_unread, timestamp_unmet, timestamp_lower, snapshot_pin_lower, timestamp_expired, PinsSnapshot, PinsTargets, IsOfAnotherVersion, SnapshotRefusal, snapshot_differs, snapshot_unread, snapshot_unmet, snapshot_version, pin_vanished, pin_lower, snapshot_expired, TargetsRefusal, targets_differ, targets_unread, targets_version, targets_unmet, targets_expired, Refusal, FirstCause, first_unread, first_unmet}

-- ---- steps that were refused

pub missing : {A E C : Type 0} (o : Option A) (d e : E) → ok_or o d ≡ Err e → (o ≡ None → e ≡ d → C) → C
missing None d e h f = f refl cc
missing (Some x) d e h f = cc

-- what a test refuses by
pub refused_if : {E C : Type 0} (b : Bool) (d e : E) → ◌≡◌ {A = Result ⊤ E} (if b then Err d else Ok tt) (Err e) → (b ≡ true → e ≡ d → C) → C
refused_if true d e h f = f refl cc
refused_if false d e h f = cc

pub refused_unless : {E C : Type 0} (b : Bool) (d e : E) → ◌≡◌ {A = Result ⊤ E} (if b then Ok tt else Err d) (Err e) → (b ≡ false → e ≡ d → C) → C
refused_unless true d e h f = cc
refused_unless false d e h f = f refl cc

pub other_number : (m n : ℕ) → (m == n) ≡ false → m ≢ n
other_number m n h e = grind (arith, nat_tests)

is_less : (m n : ℕ) → nat_lt m n ≡ true → m < n
is_less m n h = grind (arith, nat_tests)

pub root_reads : ReadsWithCause (codes "root") root_of
root_reads = read_cause (codes "root") root_of root_only

timestamp_reads : ReadsWithCause (codes "timestamp") timestamp_of
timestamp_reads = read_cause (codes "timestamp") timestamp_of timestamp_only

snapshot_reads : ReadsWithCause (codes "snapshot") snapshot_of
snapshot_reads = read_cause (codes "snapshot") snapshot_of snapshot_only

pub targets_reads : ReadsWithCause (codes "targets") targets_of
targets_reads = read_cause (codes "targets") targets_of targets_only

lower : {C : Type 0} (role : List ℕ) (trusted new : ℕ) (e : Error) → not_below_of role trusted new ≡ Err e → (IsLower role trusted new e → C) → C
lower role trusted new e h f = refused_if (nat_lt new trusted) (tuf.Rollback role trusted new) e h (λ is same. f (same, is_less new trusted is))

pub another_version : (pin : MetaFile) (version : ℕ) (e : Error) → version_of pin version ≡ Err e → IsOfAnotherVersion pin version e
another_version pin version e h = refused_unless (version == pin.version) (tuf.IntegrityMismatch mismatch.Version) e h (λ is same. (same, other_number version pin.version is))

among_first : {A : Type 0} (x : A) (xs : List A) → Contains (x ∷ xs) x
among_first x xs = (0, omega arith, refl)

among_later : {A : Type 0} (x : A) (xs : List A) (y : A) → Contains xs y → Contains (x ∷ xs) y
among_later x xs y c = (suc c.0, omega (arith, c.1), c.2)

-- ---- a first root

pub first_refusal : (crypto : Crypto) (given : List ℕ) (e : Error) → first_root_of crypto given ≡ Err e → FirstCause crypto given e
unfolding first_root_of
first_refusal crypto given e h =
    refused_at (root_document given) _ e h (λ p. first_unread (root_reads given e p)) (λ root p k.
    refused_at (meets_role_of crypto (content_in {T = declared_root.Root} root) (codes "root") root) _ e k
    (λ q. first_unmet root p (role_cause crypto (content_in {T = declared_root.Root} root) (codes "root") root e q)) (λ u q l. cc))

module _ (crypto : Crypto) (set : InForce) (bytes : List ℕ) where
  -- ---- the root

  root_unchecked : (doc : Document declared_root.Root) → root_document bytes ≡ Ok doc → (e : Error) → root_checks_of crypto set.root doc ≡ Err e → RootRefusal crypto set bytes e
  unfolding root_checks_of
  root_unchecked doc p e h =
      refused_at (next_number_of (version_in set) (content_in {T = declared_root.Root} doc).version) _ e h
      (λ q. refused_unless ((content_in {T = declared_root.Root} doc).version == version_in set + 1) (tuf.BadRootVersion (version_in set) (content_in {T = declared_root.Root} doc).version) e q
      (λ is same. root_misnumbered doc p same (other_number _ _ is))) (λ u q k.
      refused_at (meets_role_of crypto (content_in {T = declared_root.Root} set.root) (codes "root") doc) _ e k
      (λ r. root_not_handed_on doc p (role_cause crypto (content_in {T = declared_root.Root} set.root) (codes "root") doc e r)) (λ u r l.
      root_unmet doc p (role_cause crypto (content_in {T = declared_root.Root} doc) (codes "root") doc e l)))

  pub root_refusal : (e : Error) → update_root_of crypto set bytes ≡ Err e → RootRefusal crypto set bytes e
  unfolding update_root_of
  root_refusal e h =
      refused_at (root_document bytes) _ e h (λ p. root_unread (root_reads bytes e p)) (λ doc p k.
      refused_at (root_checks_of crypto set.root doc) _ e k (root_unchecked doc p e) (λ u q l. cc))

  -- ---- the timestamp

  module _ (now : jiff.Timestamp) where
    not_newer : (doc : Document declared_timestamp.Timestamp) → timestamp_document bytes ≡ Ok doc → (held : Held declared_timestamp.Timestamp) → set.timestamp ≡ Some held → (e : Error)
        → newer_than_of (content_of held) (content_in {T = declared_timestamp.Timestamp} doc) ≡ Err e → (((role : List ℕ) × ((version : ℕ) × (e ≡ tuf.EqualVersion role version))) → ⊥) → TimestampRefusal crypto set now bytes e
    unfolding newer_than_of
    not_newer doc p held is e h unequal =
        let d = content_in {T = declared_timestamp.Timestamp} doc in
        let old = content_of held in
        refused_at (not_below_of (codes "timestamp") old.version d.version) _ e h (λ q. lower (codes "timestamp") old.version d.version e q (timestamp_lower doc held p is)) (λ u q k.
        refused_at (other_of (codes "timestamp") old.version d.version) _ e k
        (λ q. refused_if (d.version == old.version) (tuf.EqualVersion (codes "timestamp") d.version) e q (λ b same. absurd (unequal (codes "timestamp", (d.version, same))))) (λ u q l.
        pins_lower doc p held is e (snapshot_pin old) (snapshot_pin d) refl refl l))
      where
        pins_lower : (doc : Document declared_timestamp.Timestamp) → timestamp_document bytes ≡ Ok doc → (held : Held declared_timestamp.Timestamp) → set.timestamp ≡ Some held → (e : Error) (a b : Option MetaFile)
            → snapshot_pin (content_of held) ≡ a → snapshot_pin (content_in {T = declared_timestamp.Timestamp} doc) ≡ b → pins_not_below_of a b ≡ Err e → TimestampRefusal crypto set now bytes e
        pins_lower doc p held is e None b ea eb h = cc
        pins_lower doc p held is e (Some a) None ea eb h = cc
        pins_lower doc p held is e (Some a) (Some b) ea eb h = lower (codes "snapshot") a.version b.version e h (snapshot_pin_lower doc held a b p is ea eb)

    not_newer_in : (doc : Document declared_timestamp.Timestamp) → timestamp_document bytes ≡ Ok doc → (o : Option (Held declared_timestamp.Timestamp)) → set.timestamp ≡ o → (e : Error)
        → newer_of o (content_in {T = declared_timestamp.Timestamp} doc) ≡ Err e → (((role : List ℕ) × ((version : ℕ) × (e ≡ tuf.EqualVersion role version))) → ⊥) → TimestampRefusal crypto set now bytes e
    not_newer_in doc p None is e h unequal = cc
    not_newer_in doc p (Some held) is e h unequal = not_newer doc p held is e h unequal

    timestamp_unchecked : (doc : Document declared_timestamp.Timestamp) → timestamp_document bytes ≡ Ok doc → (e : Error) → timestamp_checks_of crypto set doc (Some now) ≡ Err e
        → (((role : List ℕ) × ((version : ℕ) × (e ≡ tuf.EqualVersion role version))) → ⊥) → TimestampRefusal crypto set now bytes e
    unfolding timestamp_checks_of
    timestamp_unchecked doc p e h unequal =
        refused_at (meets_role_of crypto (content_in {T = declared_root.Root} set.root) (codes "timestamp") doc) _ e h
        (λ q. timestamp_unmet doc p (role_cause crypto (content_in {T = declared_root.Root} set.root) (codes "timestamp") doc e q)) (λ u q k.
        refused_at (newer_of set.timestamp (content_in {T = declared_timestamp.Timestamp} doc)) _ e k (λ q. not_newer_in doc p set.timestamp refl e q unequal) (λ u q l.
        timestamp_expired doc p (expiry_cause (codes "timestamp") (content_in {T = declared_timestamp.Timestamp} doc).expires now e l)))

    pub timestamp_refusal : (e : Error) → update_timestamp_of crypto set bytes (Some now) ≡ Err e → (((role : List ℕ) × ((version : ℕ) × (e ≡ tuf.EqualVersion role version))) → ⊥) → TimestampRefusal crypto set now bytes e
    unfolding update_timestamp_of
    timestamp_refusal e h unequal =
        refused_at (timestamp_document bytes) _ e h (λ p. timestamp_unread (timestamp_reads bytes e p)) (λ doc p k.
        refused_at (timestamp_checks_of crypto set doc (Some now)) _ e k (λ q. timestamp_unchecked doc p e q unequal) (λ u q l. cc))

    -- ---- the snapshot

    -- the pin of a timestamp that is there and fresh
    snapshot_pin_is : (t : HasTimestamp now set) → snapshot_pin_of set (Some now) ≡ Ok t.pin
    unfolding snapshot_pin_of
    snapshot_pin_is t = let fresh = (fresh_exactly (codes "timestamp") (content_of t.held).expires now).1 t.fresh in rw (t.there, fresh, t.pin_is) refl

    pins_so : (t : HasTimestamp now set) → PinsSnapshot set t.pin
    pins_so t = (t.held, t.there, t.pin_is)

    not_kept : (doc : Document declared_snapshot.Snapshot) → snapshot_document bytes ≡ Ok doc → (held : Held declared_snapshot.Snapshot) → set.snapshot ≡ Some held → (e : Error) (es : List (List ℕ × MetaFile))
        → ((x : List ℕ × MetaFile) → Contains es x → Contains (content_of held).meta x) → kept_pins_in es (content_in {T = declared_snapshot.Snapshot} doc) ≡ Err e → SnapshotRefusal crypto set now bytes e
    not_kept doc p held is e [] among h = cc
    not_kept doc p held is e (x ∷ xs) among h =
        refused_at (kept_pin_of x.0 x.1 (at_name x.0 (content_in {T = declared_snapshot.Snapshot} doc).meta)) _ e h (λ q. by_pin (at_name x.0 (content_in {T = declared_snapshot.Snapshot} doc).meta) refl q)
        (λ u q k. not_kept doc p held is e xs (λ y c. among y (among_later x xs y c)) k)
      where
        by_pin : (o : Option MetaFile) → at_name x.0 (content_in {T = declared_snapshot.Snapshot} doc).meta ≡ o → kept_pin_of x.0 x.1 o ≡ Err e → SnapshotRefusal crypto set now bytes e
        by_pin None eo q = pin_vanished doc held x.0 x.1 p is (among x (among_first x xs)) eo (sym (err_same _ e q))
        by_pin (Some new) eo q = lower x.0 x.1.version new.version e q (pin_lower doc held x.0 x.1 new p is (among x (among_first x xs)) eo)

    not_kept_in : (doc : Document declared_snapshot.Snapshot) → snapshot_document bytes ≡ Ok doc → (o : Option (Held declared_snapshot.Snapshot)) → set.snapshot ≡ o → (e : Error)
        → kept_pins_of o (content_in {T = declared_snapshot.Snapshot} doc) ≡ Err e → SnapshotRefusal crypto set now bytes e
    not_kept_in doc p None is e h = cc
    not_kept_in doc p (Some held) is e h = not_kept doc p held is e (content_of held).meta (λ x c. c) h

    snapshot_unchecked : (pin : MetaFile) → PinsSnapshot set pin → (doc : Document declared_snapshot.Snapshot) → snapshot_document bytes ≡ Ok doc → (e : Error) → snapshot_checks_of crypto set pin doc (Some now) ≡ Err e → SnapshotRefusal crypto set now bytes e
    unfolding snapshot_checks_of
    snapshot_unchecked pin pinned doc p e h =
        refused_at (meets_role_of crypto (content_in {T = declared_root.Root} set.root) (codes "snapshot") doc) _ e h
        (λ q. snapshot_unmet doc p (role_cause crypto (content_in {T = declared_root.Root} set.root) (codes "snapshot") doc e q)) (λ u q k.
        refused_at (version_of pin (content_in {T = declared_snapshot.Snapshot} doc).version) _ e k
        (λ q. snapshot_version pin doc pinned p (another_version pin (content_in {T = declared_snapshot.Snapshot} doc).version e q)) (λ u q l.
        refused_at (kept_pins_of set.snapshot (content_in {T = declared_snapshot.Snapshot} doc)) _ e l (λ q. not_kept_in doc p set.snapshot refl e q) (λ u q m.
        snapshot_expired doc p (expiry_cause (codes "snapshot") (content_in {T = declared_snapshot.Snapshot} doc).expires now e m))))

    pub snapshot_refusal : (e : Error) → HasTimestamp now set → update_snapshot_of crypto set bytes (Some now) ≡ Err e → SnapshotRefusal crypto set now bytes e
    unfolding update_snapshot_of
    snapshot_refusal e t h =
        refused_at (snapshot_pin_of set (Some now)) _ e h (λ q. no_both t.pin e (sym (snapshot_pin_is t) ∙ q)) (λ pin p k.
        let is : t.pin ≡ pin = ok_same t.pin pin (sym (snapshot_pin_is t) ∙ p) in
        let pinned : PinsSnapshot set pin = subst (PinsSnapshot set) is (pins_so t) in
        refused_at (integrity_of pin.length pin.hashes bytes) _ e k (λ q. snapshot_differs pin pinned (integrity_cause pin.length pin.hashes bytes e q)) (λ u q l.
        refused_at (snapshot_document bytes) _ e l (λ q. snapshot_unread (snapshot_reads bytes e q)) (λ doc q m.
        refused_at (snapshot_checks_of crypto set pin doc (Some now)) _ e m (λ r. snapshot_unchecked pin pinned doc q e r) (λ u r n. cc))))

    -- ---- the targets document

    targets_unchecked : (pin : MetaFile) → PinsTargets set pin → (doc : Document declared_targets.Targets) → targets_document bytes ≡ Ok doc → (e : Error) → targets_checks_of crypto set pin doc (Some now) ≡ Err e → TargetsRefusal crypto set now bytes e
    unfolding targets_checks_of
    targets_unchecked pin pinned doc p e h =
        refused_at (version_of pin (content_in {T = declared_targets.Targets} doc).version) _ e h
        (λ q. targets_version pin doc pinned p (another_version pin (content_in {T = declared_targets.Targets} doc).version e q)) (λ u q k.
        refused_at (meets_role_of crypto (content_in {T = declared_root.Root} set.root) (codes "targets") doc) _ e k
        (λ q. targets_unmet doc p (role_cause crypto (content_in {T = declared_root.Root} set.root) (codes "targets") doc e q)) (λ u q l.
        targets_expired doc p (expiry_cause (codes "targets") (content_in {T = declared_targets.Targets} doc).expires now e l)))

    -- the pin of a snapshot that is there, fresh and pinning
    pub targets_refusal : (e : Error) → (pin : MetaFile) → targets_pin_of set (Some now) ≡ Ok pin → PinsTargets set pin → update_targets_of crypto set bytes (Some now) ≡ Err e → TargetsRefusal crypto set now bytes e
    unfolding update_targets_of
    targets_refusal e pin at pinned h =
        refused_at (targets_pin_of set (Some now)) _ e h (λ q. no_both pin e (sym at ∙ q)) (λ other p k.
        let is : pin ≡ other = ok_same pin other (sym at ∙ p) in
        let so : PinsTargets set other = subst (PinsTargets set) is pinned in
        refused_at (integrity_of other.length other.hashes bytes) _ e k (λ q. targets_differ other so (integrity_cause other.length other.hashes bytes e q)) (λ u q l.
        refused_at (targets_document bytes) _ e l (λ q. targets_unread (targets_reads bytes e q)) (λ doc q m.
        refused_at (targets_checks_of crypto set other doc (Some now)) _ e m (λ r. targets_unchecked other so doc q e r) (λ u r n. cc))))

-- ---- a judgement

pub was_refused : (r : Result InForce Error) (e : Error) → taken_of r ≡ Err e → r ≡ Err e
was_refused (Ok set) e h = cc
was_refused (Err d) e h = ap Err (err_same d e h)

unequal_refused : (r : Result InForce Error) (e : Error) → unless_equal r ≡ Err e → (r ≡ Err e) × ((((role : List ℕ) × ((version : ℕ) × (e ≡ tuf.EqualVersion role version))) → ⊥))
unequal_refused (Ok set) e h = cc
unequal_refused (Err (tuf.EqualVersion role version)) e h = cc
unequal_refused (Err tuf.Json) e h = let is = err_same tuf.Json e h in (ap Err is, λ x. let never = is ∙ x.1.1 in cc)
unequal_refused (Err (tuf.Malformed rule)) e h = let is = err_same (tuf.Malformed rule) e h in (ap Err is, λ x. let never = is ∙ x.1.1 in cc)
unequal_refused (Err tuf.NonIntegerNumber) e h = let is = err_same tuf.NonIntegerNumber e h in (ap Err is, λ x. let never = is ∙ x.1.1 in cc)
unequal_refused (Err (tuf.UnusableKey id)) e h = let is = err_same (tuf.UnusableKey id) e h in (ap Err is, λ x. let never = is ∙ x.1.1 in cc)
unequal_refused (Err (tuf.UnsupportedScheme keytype scheme)) e h = let is = err_same (tuf.UnsupportedScheme keytype scheme) e h in (ap Err is, λ x. let never = is ∙ x.1.1 in cc)
unequal_refused (Err (tuf.UnknownRole name)) e h = let is = err_same (tuf.UnknownRole name) e h in (ap Err is, λ x. let never = is ∙ x.1.1 in cc)
unequal_refused (Err (tuf.DuplicateSignature role id)) e h = let is = err_same (tuf.DuplicateSignature role id) e h in (ap Err is, λ x. let never = is ∙ x.1.1 in cc)
unequal_refused (Err (tuf.ThresholdNotMet role found threshold)) e h = let is = err_same (tuf.ThresholdNotMet role found threshold) e h in (ap Err is, λ x. let never = is ∙ x.1.1 in cc)
unequal_refused (Err (tuf.Rollback role trusted number)) e h = let is = err_same (tuf.Rollback role trusted number) e h in (ap Err is, λ x. let never = is ∙ x.1.1 in cc)
unequal_refused (Err (tuf.BadRootVersion trusted number)) e h = let is = err_same (tuf.BadRootVersion trusted number) e h in (ap Err is, λ x. let never = is ∙ x.1.1 in cc)
unequal_refused (Err (tuf.Expired role expires)) e h = let is = err_same (tuf.Expired role expires) e h in (ap Err is, λ x. let never = is ∙ x.1.1 in cc)
unequal_refused (Err (tuf.IntegrityMismatch difference)) e h = let is = err_same (tuf.IntegrityMismatch difference) e h in (ap Err is, λ x. let never = is ∙ x.1.1 in cc)
unequal_refused (Err tuf.Crypto) e h = let is = err_same tuf.Crypto e h in (ap Err is, λ x. let never = is ∙ x.1.1 in cc)
unequal_refused (Err tuf.NotRefreshed) e h = let is = err_same tuf.NotRefreshed e h in (ap Err is, λ x. let never = is ∙ x.1.1 in cc)
unequal_refused (Err (tuf.TargetNotFound path)) e h = let is = err_same (tuf.TargetNotFound path) e h in (ap Err is, λ x. let never = is ∙ x.1.1 in cc)
unequal_refused (Err (tuf.Transport fault)) e h = let is = err_same (tuf.Transport fault) e h in (ap Err is, λ x. let never = is ∙ x.1.1 in cc)
unequal_refused (Err tuf.NoMemory) e h = let is = err_same tuf.NoMemory e h in (ap Err is, λ x. let never = is ∙ x.1.1 in cc)

-- where the targets document is asked for, the snapshot pins it
abbrev pub IsPinningTargets : Kind → jiff.Timestamp → InForce → Type 0
IsPinningTargets (Root number) now set = ⊤
IsPinningTargets Timestamp now set = ⊤
IsPinningTargets Snapshot now set = ⊤
IsPinningTargets Targets now set = (pin : MetaFile) × (targets_pin_of set (Some now) ≡ Ok pin) × PinsTargets set pin

pub refusal_cause : (crypto : Crypto) (now : jiff.Timestamp) (set : InForce) (k : Kind) (bytes : List ℕ) (e : Error) → IsBefore k now set → IsPinningTargets k now set → judged_of crypto k set bytes (Some now) ≡ Err e → Refusal crypto now set k bytes e
refusal_cause crypto now set (Root number) bytes e b t h = root_refusal crypto set bytes e (was_refused _ e h)
refusal_cause crypto now set Timestamp bytes e b t h = let u = unequal_refused _ e h in timestamp_refusal crypto set bytes now e u.0 u.1
refusal_cause crypto now set Snapshot bytes e b t h = snapshot_refusal crypto set bytes now e b.1 (was_refused _ e h)
refusal_cause crypto now set Targets bytes e b t h = targets_refusal crypto set bytes now e t.0 t.1 t.2 (was_refused _ e h)
