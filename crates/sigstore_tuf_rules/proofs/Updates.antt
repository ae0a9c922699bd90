-- What an update that is Ok says of its document, and what is in force then.
use Rattle.std.proofs.Common.{◌≡◌, ℕ, ◌+◌, List, [], ◌∷◌, ◌++◌, Bool, true, false, ◌==◌, if◌then◌else◌, Option, Some, None, Result, Ok, Err, codes, refl, sym, ap, ◌∙◌, subst, arith}
use Rattle.std.specs.Prelude.{⊤, ok_or, IfSome}
use Rattle.std.specs.List.{last_or}
use Rattle.std.proofs.lemmas.Bool.Decides.{nat_tests}
use Rattle.jiff_core.specs.declared.timestamp.Timestamp as jiff
use Rattle.foundation.specs.Results.{step_ok, ok_same, some_same}
use Rattle.sigstore_types_parts.specs.Entries.{at_name}
use Rattle.sigstore_keys.specs.Crypto.{Crypto}
use Rattle.sigstore_tuf_text.specs.declared.error.Error.{Error}
use Rattle.sigstore_tuf_text.specs.declared.error.Error.TheVariants as tuf
use Rattle.sigstore_tuf_text.specs.declared.error.Mismatch.TheVariants as mismatch
use Rattle.sigstore_tuf_text.specs.declared.error.Rule.TheVariants as rule
use Rattle.sigstore_tuf_parts.specs.declared.root.Root as declared
use Rattle.sigstore_tuf_parts.specs.declared.timestamp.MetaFile.{MetaFile}
use Rattle.sigstore_tuf_parts.specs.declared.timestamp.Timestamp as declared_timestamp
use Rattle.sigstore_tuf_parts.specs.declared.snapshot.Snapshot as declared_snapshot
use Rattle.sigstore_tuf_parts.specs.declared.targets.Targets as declared_targets
use Rattle.sigstore_tuf_parts.specs.Document.{Document, content_in}
use Rattle.sigstore_tuf_parts.specs.Threshold.{meets_of}
use Rattle.sigstore_tuf_parts.specs.Integrity.{integrity_of, version_of, fresh_of}
use Rattle.sigstore_tuf_parts.specs.Pinned.{Fresh}
use Rattle.sigstore_tuf_parts.specs.RootRoles.{root_document, meets_role_of, MeetsRole, IsNextRoot}
use Rattle.sigstore_tuf_parts.proofs.MeetsLaw.{meets_exactly}
use Rattle.sigstore_tuf_parts.proofs.IntegrityLaws.{integrity_exactly, fresh_exactly}
use Rattle.sigstore_tuf_rules.specs.declared.documents.Held.{Held}
use Rattle.sigstore_tuf_rules.specs.declared.documents.InForce.{InForce}
use Rattle.sigstore_tuf_rules.specs.declared.kind.Kind.{Kind}
use Rattle.sigstore_tuf_rules.specs.declared.kind.Kind.TheVariants.{Root, Timestamp, Snapshot, Targets}
use Rattle.sigstore_tuf_rules.specs.Documents.{timestamp_document, snapshot_document, targets_document, content_of, targets_pin}
use Rattle.sigstore_tuf_rules.specs.Update.{next_number_of, root_checks_of, update_root_of, fresh_at_of, newer_of, timestamp_checks_of, update_timestamp_of, snapshot_pin_of, kept_pins_of, snapshot_checks_of, update_snapshot_of, targets_pin_of, targets_checks_of, update_targets_of, with_root, with_timestamp, with_snapshot, with_targets}
use Rattle.sigstore_tuf_rules.specs.Taking.{update_of, taken_of, unless_equal, judged_of, top_targets, bytes_in}
use Rattle.sigstore_tuf_rules.specs.Authorised.{IsSigned, IsPinnedBy}
use Rattle.sigstore_tuf_outside.proofs.Files.{at_insert}

-- ---- steps that were Ok

pub ok_some : {A E : Type 0} (o : Option A) (e : E) (x : A) → ok_or o e ≡ Ok x → o ≡ Some x
ok_some None e x h = cc
ok_some (Some a) e x h = cc

pub where_some : {A : Type 0} (o : Option A) (P : A → Type 0) (x : A) → o ≡ Some x → IfSome o P → P x
where_some o P x e h = subst (λ o. IfSome o P) e h

pub role_met : {T : Type 0} (crypto : Crypto) (root : declared.Root) (name : List ℕ) (doc : Document T) → meets_role_of crypto root name doc ≡ Ok tt → MeetsRole crypto root name doc
unfolding meets_role_of
role_met crypto root name doc h =
    let a = step_ok (ok_or (at_name name root.roles) (tuf.UnknownRole name)) (λ role. meets_of crypto root.keys role name doc) tt h in
    (a.0, ok_some (at_name name root.roles) (tuf.UnknownRole name) a.0 a.1, (meets_exactly crypto root.keys a.0 name doc).0 a.2)

pub fresh_from : (role : List ℕ) (expires now : jiff.Timestamp) → fresh_of role expires now ≡ Ok tt → Fresh expires now
fresh_from role expires now h = (fresh_exactly role expires now).0 h

pub fresh_at_from : (role : List ℕ) (expires : jiff.Timestamp) (now : Option jiff.Timestamp) → fresh_at_of role expires now ≡ Ok tt → IfSome now (Fresh expires)
fresh_at_from role expires None h = tt
fresh_at_from role expires (Some now) h = fresh_from role expires now h

pub same_version : (pin : MetaFile) (version : ℕ) → version_of pin version ≡ Ok tt → version ≡ pin.version
same_version pin version h = by_test (version == pin.version) refl h
  where
    by_test : (b : Bool) → (version == pin.version) ≡ b → ◌≡◌ {A = Result ⊤ Error} (if b then Ok tt else Err (tuf.IntegrityMismatch mismatch.Version)) (Ok tt) → version ≡ pin.version
    by_test true e h = grind (arith, nat_tests)
    by_test false e h = cc

next_number : (trusted new : ℕ) → next_number_of trusted new ≡ Ok tt → new ≡ trusted + 1
next_number trusted new h = by_test (new == trusted + 1) refl h
  where
    by_test : (b : Bool) → (new == trusted + 1) ≡ b → ◌≡◌ {A = Result ⊤ Error} (if b then Ok tt else Err (tuf.BadRootVersion trusted new)) (Ok tt) → new ≡ trusted + 1
    by_test true e h = grind (arith, nat_tests)
    by_test false e h = cc

-- ---- each update

module _ (crypto : Crypto) (old : InForce) (bytes : List ℕ) where
  -- a root that follows the one in force
  pub record RootPut (new : InForce) : Type 0 where
    pub doc : Document declared.Root
    pub read : root_document bytes ≡ Ok doc
    pub next : IsNextRoot crypto old.root doc
    pub new_is : new ≡ with_root old bytes doc

  root_checked : (doc : Document declared.Root) → root_checks_of crypto old.root doc ≡ Ok tt → IsNextRoot crypto old.root doc
  unfolding root_checks_of
  root_checked doc h =
      let a = step_ok (next_number_of (content_in old.root).version (content_in doc).version) _ tt h in
      let b = step_ok (meets_role_of crypto (content_in old.root) (codes "root") doc) _ tt a.2 in
      record {
        number = next_number (content_in old.root).version (content_in doc).version a.1;
        handed_on = role_met crypto (content_in old.root) (codes "root") doc b.1;
        own = role_met crypto (content_in doc) (codes "root") doc b.2;
      }

  pub root_put : (new : InForce) → update_root_of crypto old bytes ≡ Ok new → RootPut new
  unfolding update_root_of
  root_put new h =
      let a = step_ok (root_document bytes) _ new h in
      let b = step_ok (root_checks_of crypto old.root a.0) _ new a.2 in
      record { doc = a.0; read = a.1; next = root_checked a.0 b.1; new_is = sym (ok_same _ new b.2) }

  abbrev Signed : {T : Type 0} → (List ℕ → Result (Document T) Error) → List ℕ → Held T → Type 0
  Signed reads role held = IsSigned reads crypto (content_in old.root) role held

  pub record TimestampPut (now : Option jiff.Timestamp) (new : InForce) : Type 0 where
    pub held : Held declared_timestamp.Timestamp
    pub bytes_is : held.bytes ≡ bytes
    pub signed : Signed timestamp_document (codes "timestamp") held
    pub newer : newer_of old.timestamp (content_of held) ≡ Ok tt
    pub fresh : IfSome now (Fresh (content_of held).expires)
    pub new_is : new ≡ with_timestamp old held

  timestamp_checked : (doc : Document declared_timestamp.Timestamp) (now : Option jiff.Timestamp) → timestamp_checks_of crypto old doc now ≡ Ok tt
      → (meets_role_of crypto (content_in old.root) (codes "timestamp") doc ≡ Ok tt) × (newer_of old.timestamp (content_in doc) ≡ Ok tt) × (fresh_at_of (codes "timestamp") (content_in doc).expires now ≡ Ok tt)
  unfolding timestamp_checks_of
  timestamp_checked doc now h =
      let a = step_ok (meets_role_of crypto (content_in old.root) (codes "timestamp") doc) _ tt h in
      let b = step_ok (newer_of old.timestamp (content_in doc)) _ tt a.2 in
      (a.1, b.1, b.2)

  pub timestamp_put : (now : Option jiff.Timestamp) (new : InForce) → update_timestamp_of crypto old bytes now ≡ Ok new → TimestampPut now new
  unfolding update_timestamp_of
  timestamp_put now new h =
      let a = step_ok (timestamp_document bytes) _ new h in
      let b = step_ok (timestamp_checks_of crypto old a.0 now) _ new a.2 in
      let is = timestamp_checked a.0 now b.1 in
      record {
        held = record { bytes = bytes; document = a.0 };
        bytes_is = refl;
        signed = record { read = a.1; met = role_met crypto (content_in old.root) (codes "timestamp") a.0 is.0 };
        newer = is.1;
        fresh = fresh_at_from (codes "timestamp") (content_in a.0).expires now is.2;
        new_is = sym (ok_same _ new b.2);
      }

  pub record SnapshotPut (now : Option jiff.Timestamp) (new : InForce) : Type 0 where
    pub held : Held declared_snapshot.Snapshot
    pub bytes_is : held.bytes ≡ bytes
    pub pin : MetaFile
    pub pin_is : snapshot_pin_of old now ≡ Ok pin
    pub signed : Signed snapshot_document (codes "snapshot") held
    pub version_is : (content_of held).version ≡ pin.version
    pub kept : kept_pins_of old.snapshot (content_of held) ≡ Ok tt
    pub fresh : IfSome now (Fresh (content_of held).expires)
    pub new_is : new ≡ with_snapshot old held

  snapshot_checked : (pin : MetaFile) (doc : Document declared_snapshot.Snapshot) (now : Option jiff.Timestamp) → snapshot_checks_of crypto old pin doc now ≡ Ok tt
      → (meets_role_of crypto (content_in old.root) (codes "snapshot") doc ≡ Ok tt) × (version_of pin (content_in doc).version ≡ Ok tt) × (kept_pins_of old.snapshot (content_in doc) ≡ Ok tt) × (fresh_at_of (codes "snapshot") (content_in doc).expires now ≡ Ok tt)
  unfolding snapshot_checks_of
  snapshot_checked pin doc now h =
      let a = step_ok (meets_role_of crypto (content_in old.root) (codes "snapshot") doc) _ tt h in
      let b = step_ok (version_of pin (content_in doc).version) _ tt a.2 in
      let c = step_ok (kept_pins_of old.snapshot (content_in doc)) _ tt b.2 in
      (a.1, b.1, c.1, c.2)

  pub snapshot_put : (now : Option jiff.Timestamp) (new : InForce) → update_snapshot_of crypto old bytes now ≡ Ok new → SnapshotPut now new
  unfolding update_snapshot_of
  snapshot_put now new h =
      let a = step_ok (snapshot_pin_of old now) _ new h in
      let b = step_ok (integrity_of a.0.length a.0.hashes bytes) _ new a.2 in
      let c = step_ok (snapshot_document bytes) _ new b.2 in
      let d = step_ok (snapshot_checks_of crypto old a.0 c.0 now) _ new c.2 in
      let is = snapshot_checked a.0 c.0 now d.1 in
      record {
        held = record { bytes = bytes; document = c.0 };
        bytes_is = refl;
        pin = a.0;
        pin_is = a.1;
        signed = record { read = c.1; met = role_met crypto (content_in old.root) (codes "snapshot") c.0 is.0 };
        version_is = same_version a.0 (content_in c.0).version is.1;
        kept = is.2;
        fresh = fresh_at_from (codes "snapshot") (content_in c.0).expires now is.3;
        new_is = sym (ok_same _ new d.2);
      }

  pub record TargetsPut (now : Option jiff.Timestamp) (new : InForce) : Type 0 where
    pub held : Held declared_targets.Targets
    pub bytes_is : held.bytes ≡ bytes
    pub signed : Signed targets_document (codes "targets") held
    pub pinned : IsPinnedBy old.snapshot (codes "targets") held
    pub fresh : IfSome now (Fresh (content_of held).expires)
    pub new_is : new ≡ with_targets old held

  targets_checked : (pin : MetaFile) (doc : Document declared_targets.Targets) (now : Option jiff.Timestamp) → targets_checks_of crypto old pin doc now ≡ Ok tt
      → (version_of pin (content_in doc).version ≡ Ok tt) × (meets_role_of crypto (content_in old.root) (codes "targets") doc ≡ Ok tt) × (fresh_at_of (codes "targets") (content_in doc).expires now ≡ Ok tt)
  unfolding targets_checks_of
  targets_checked pin doc now h =
      let a = step_ok (version_of pin (content_in doc).version) _ tt h in
      let b = step_ok (meets_role_of crypto (content_in old.root) (codes "targets") doc) _ tt a.2 in
      (a.1, b.1, b.2)

  pub targets_put : (now : Option jiff.Timestamp) (new : InForce) → update_targets_of crypto old bytes now ≡ Ok new → TargetsPut now new
  unfolding update_targets_of targets_pin_of
  targets_put now new h =
      let p = step_ok (targets_pin_of old now) _ new h in
      let s = step_ok (ok_or old.snapshot (tuf.Malformed rule.NoSnapshot)) _ p.0 p.1 in
      let f = step_ok (fresh_at_of (codes "snapshot") (content_of s.0).expires now) _ p.0 s.2 in
      let b = step_ok (integrity_of p.0.length p.0.hashes bytes) _ new p.2 in
      let c = step_ok (targets_document bytes) _ new b.2 in
      let d = step_ok (targets_checks_of crypto old p.0 c.0 now) _ new c.2 in
      let is = targets_checked p.0 c.0 now d.1 in
      record {
        held = record { bytes = bytes; document = c.0 };
        bytes_is = refl;
        signed = record { read = c.1; met = role_met crypto (content_in old.root) (codes "targets") c.0 is.1 };
        pinned = record {
          read = c.1;
          held = s.0;
          there = ok_some old.snapshot (tuf.Malformed rule.NoSnapshot) s.0 s.1;
          pin = p.0;
          pin_is = ok_some (targets_pin (content_of s.0)) (tuf.Malformed rule.Unpinned) p.0 f.2;
          pinned = record { intact = (integrity_exactly p.0.length p.0.hashes bytes).0 b.1; version_is = same_version p.0 (content_in c.0).version is.0 };
        };
        fresh = fresh_at_from (codes "targets") (content_in c.0).expires now is.2;
        new_is = sym (ok_same _ new d.2);
      }

  -- ---- a document of a kind

  abbrev pub Puts : Kind → Option jiff.Timestamp → InForce → Type 0
  Puts (Root number) now new = RootPut new
  Puts Timestamp now new = TimestampPut now new
  Puts Snapshot now new = SnapshotPut now new
  Puts Targets now new = TargetsPut now new

  pub update_puts : (k : Kind) (now : Option jiff.Timestamp) (new : InForce) → update_of crypto k old bytes now ≡ Ok new → Puts k now new
  update_puts (Root number) now new h = root_put new h
  update_puts Timestamp now new h = timestamp_put now new h
  update_puts Snapshot now new h = snapshot_put now new h
  update_puts Targets now new h = targets_put now new h

  was_ok : (r : Result InForce Error) (new : InForce) → unless_equal r ≡ Ok (Some new) → r ≡ Ok new
  was_ok (Ok set) new h = ap Ok (some_same set new (ok_same _ _ h))
  was_ok (Err (tuf.EqualVersion role version)) new h = cc
  was_ok (Err tuf.Json) new h = cc
  was_ok (Err (tuf.Malformed rule)) new h = cc
  was_ok (Err tuf.NonIntegerNumber) new h = cc
  was_ok (Err (tuf.UnusableKey id)) new h = cc
  was_ok (Err (tuf.UnsupportedScheme keytype scheme)) new h = cc
  was_ok (Err (tuf.UnknownRole name)) new h = cc
  was_ok (Err (tuf.DuplicateSignature role id)) new h = cc
  was_ok (Err (tuf.ThresholdNotMet role found threshold)) new h = cc
  was_ok (Err (tuf.Rollback role trusted number)) new h = cc
  was_ok (Err (tuf.BadRootVersion trusted number)) new h = cc
  was_ok (Err (tuf.Expired role expires)) new h = cc
  was_ok (Err (tuf.IntegrityMismatch difference)) new h = cc
  was_ok (Err tuf.Crypto) new h = cc
  was_ok (Err tuf.NotRefreshed) new h = cc
  was_ok (Err (tuf.TargetNotFound path)) new h = cc
  was_ok (Err (tuf.Transport fault)) new h = cc
  was_ok (Err tuf.NoMemory) new h = cc

  was_taken : (r : Result InForce Error) (new : InForce) → taken_of r ≡ Ok (Some new) → r ≡ Ok new
  was_taken (Ok set) new h = ap Ok (some_same set new (ok_same _ _ h))
  was_taken (Err e) new h = cc

  pub judged_puts : (k : Kind) (now : Option jiff.Timestamp) (new : InForce) → judged_of crypto k old bytes now ≡ Ok (Some new) → Puts k now new
  judged_puts (Root number) now new h = root_put new (was_taken (update_root_of crypto old bytes) new h)
  judged_puts Timestamp now new h = timestamp_put now new (was_ok (update_timestamp_of crypto old bytes now) new h)
  judged_puts Snapshot now new h = snapshot_put now new (was_taken (update_snapshot_of crypto old bytes now) new h)
  judged_puts Targets now new h = targets_put now new (was_taken (update_targets_of crypto old bytes now) new h)

-- a snapshot or a targets document that is judged is taken in or refused
pub never_equal : (r : Result InForce Error) → taken_of r ≡ Ok None → ⊥
never_equal (Ok set) h = cc
never_equal (Err e) h = cc

-- ---- the bytes of the document that was put in force

pub top_inserted : (old : InForce) (held : Held declared_targets.Targets) → top_targets (with_targets old held) ≡ Some held
top_inserted old held = at_insert (codes "targets") (codes "targets") held old.targets

pub last_is : (x : List ℕ) (xs : List (List ℕ)) (seed : Option (List ℕ)) → last_or seed (xs ++ x ∷ []) ≡ Some x
last_is x [] seed = refl
last_is x (y ∷ ys) seed = last_is x ys (Some y)

pub bytes_put : (crypto : Crypto) (old new : InForce) (bytes : List ℕ) (k : Kind) (now : Option jiff.Timestamp) → Puts crypto old bytes k now new → bytes_in k new ≡ Some bytes
bytes_put crypto old new bytes (Root number) now p = ap (bytes_in (Root number)) p.new_is ∙ last_is bytes old.roots None
bytes_put crypto old new bytes Timestamp now p = ap (bytes_in Timestamp) p.new_is ∙ ap Some p.bytes_is
bytes_put crypto old new bytes Snapshot now p = ap (bytes_in Snapshot) p.new_is ∙ ap Some p.bytes_is
bytes_put crypto old new bytes Targets now p = ap (bytes_in Targets) p.new_is ∙ ap (λ o. option_bytes o) (top_inserted old p.held) ∙ ap Some p.bytes_is
  where
    option_bytes : Option (Held declared_targets.Targets) → Option (List ℕ)
    option_bytes None = None
    option_bytes (Some held) = Some held.bytes
