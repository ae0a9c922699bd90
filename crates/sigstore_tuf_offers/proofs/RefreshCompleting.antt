-- A refresh over an offered chain has its documents in force in the end, unless memory is wanting.
use Rattle.std.proofs.Common.{◌≡◌, ◌≢◌, ◌⊎◌, inl, inr, ℕ, ◌+◌, ◌^◌, ◌<◌, ◌==◌, nat_lt, List, [], ◌∷◌, append-nil, length, Bool, true, false, ◌&&◌, not, bytes_eq, get_or, if◌then◌else◌, Option, Some, None, Result, Ok, Err, codes, refl, sym, ap, ◌∙◌, subst, arith, ℤ, ◌≤ℤ◌, int_lt}
use Rattle.std.specs.Prelude.{⊤, ok_or, option_and_then}
use Rattle.std.proofs.lemmas.Bool.Decides.{nat_tests}
use Rattle.jiff_core.specs.declared.timestamp.Timestamp as jiff
use Rattle.foundation.specs.Steps.{◌>>=◌}
use Rattle.foundation.specs.Watched.{Watched, Since}
use Rattle.foundation.specs.Results.{ok_same, err_same, some_same, no_both}
use Rattle.sigstore_types_parts.specs.Entries.{at_name}
use Rattle.sigstore_tuf_text.specs.declared.error.Error.{Error}
use Rattle.sigstore_tuf_text.specs.declared.error.Error.TheVariants as tuf
use Rattle.sigstore_tuf_text.specs.declared.error.Rule.TheVariants as rule
use Rattle.sigstore_tuf_text.specs.declared.error.TransportFault.TheVariants as transport
use Rattle.sigstore_tuf_text.specs.declared.error.Mismatch.TheVariants as mismatch
use Rattle.sigstore_tuf_parts.specs.declared.root.Root as declared
use Rattle.sigstore_tuf_parts.specs.declared.snapshot.Snapshot as declared_snapshot
use Rattle.sigstore_tuf_parts.specs.declared.timestamp.MetaFile.{MetaFile}
use Rattle.sigstore_tuf_parts.specs.declared.timestamp.Timestamp as declared_timestamp
use Rattle.sigstore_tuf_parts.specs.Document.{Document, content_in}
use Rattle.sigstore_tuf_parts.specs.Integrity.{integrity_of, version_of, is_past, fresh_of}
use Rattle.sigstore_tuf_text.specs.Names.{timestamp_name, snapshot_name, targets_name, versioned_name}
use Rattle.sigstore_tuf_parts.specs.Pinned.{Fresh}
use Rattle.sigstore_tuf_parts.specs.RootRoles.{meets_role_of, MeetsRole}
use Rattle.sigstore_tuf_parts.proofs.IntegrityLaws.{integrity_exactly, fresh_exactly}
use Rattle.sigstore_tuf_rules.specs.declared.chain.TrustChain.{TrustChain}
use Rattle.sigstore_tuf_rules.specs.declared.documents.Held.{Held}
use Rattle.sigstore_tuf_rules.specs.declared.documents.InForce.{InForce}
use Rattle.sigstore_tuf_rules.specs.declared.kind.Kind.{Kind}
use Rattle.sigstore_tuf_rules.specs.declared.kind.Kind.TheVariants.{Root, Timestamp, Snapshot, Targets}
use Rattle.sigstore_tuf_runs.specs.declared.step.Step.{Step}
use Rattle.sigstore_tuf_runs.specs.declared.step.Step.TheVariants.{WalkRoots}
use Rattle.sigstore_tuf_rules.specs.Documents.{timestamp_document, snapshot_document, targets_document, content_of, snapshot_pin, targets_pin}
use Rattle.sigstore_tuf_outside.specs.Repository.{Quiet, Folders, Files}
use Rattle.sigstore_tuf_rules.specs.Names.{history_name, is_consistent, snapshot_pin_in, targets_pin_in, pinned_name, file_name, both_names, kept_name, kept_names, kept_target}
use Rattle.sigstore_tuf_runs.specs.State.{Session, State}
use Rattle.sigstore_tuf_rules.specs.Update.{with_timestamp, with_snapshot, with_targets, not_below_of, other_of, newer_than_of, newer_of, fresh_at_of, timestamp_checks_of, update_timestamp_of, snapshot_pin_of, kept_pins_of, snapshot_checks_of, update_snapshot_of, targets_pin_of, targets_checks_of, update_targets_of}
use Rattle.sigstore_tuf_rules.specs.Taking.{top_targets, unless_equal, taken_of, judged_of}
use Rattle.sigstore_tuf_runs.specs.Adopt.{LoadsNamed}
use Rattle.sigstore_tuf_rules.specs.Serving.{root_serves_of, timestamp_serves_of, snapshot_serves_of, serves, snapshot_kept_in, targets_kept_in}
use Rattle.sigstore_tuf_runs.specs.Run.{Checks, said, Refetches, moment_of, Reseeds, Does, Runs, refresh_steps, RunsSteps}
use Rattle.sigstore_tuf_offers.specs.Offer.{RootsEnd, IsNoneOr}
use Rattle.sigstore_tuf_causes.proofs.Carrying.{since_same, since_joins, loaded_same, adopt_carried, seed_carried}
use Rattle.sigstore_tuf_causes.proofs.Causes.{is_want}
use Rattle.sigstore_tuf_runs.proofs.Lift.{NotRoot, AskNoRoots, does_lift, runs_lift}
use Rattle.sigstore_tuf_causes.proofs.Serving.{Rest}
use Rattle.sigstore_tuf_rules.proofs.Updates.{judged_puts, top_inserted}
use Rattle.sigstore_tuf_causes.proofs.Faults.{quiet_first, quiet_second}
use Rattle.sigstore_tuf_causes.proofs.RolesMet.{step_to, role_ok}
use Rattle.sigstore_tuf_offers.proofs.Completing.{equal, if_true, Done, wanting, done, Answers, wants, answers, after, Took, adopts_there, TellsSo, AreHarmless, tells_same, took_so, loaded_is, found_wanted}
use Rattle.sigstore_tuf_causes.proofs.RootNames.{versioned_apart}
use Rattle.sigstore_tuf_offers.proofs.ChainVisits.{held_in}
use Rattle.sigstore_tuf_outside.proofs.Files.{inserted}
use Rattle.sigstore_tuf_offers.proofs.Offered.{AreOf, Offered}
use Rattle.sigstore_tuf_offers.proofs.RootsCompleting.{number_of, end_of_fewer, Seeded, seed_wants, seed_passed, seed_put, seeds_so, IsWarm, stays_warm, stays_elsewhere, OnRoots, walk_done, Somewhere}

-- ---- tests

pub step_err : {A B E : Type 0} (r : Result A E) (f : A → Result B E) (e : E) → r ≡ Err e → (r >>= f) ≡ Err e
step_err r f e h = subst (λ r. (r >>= f) ≡ Err e) (sym h) refl

never_lower : (n : ℕ) → nat_lt n n ≡ false
never_lower n = grind (arith, nat_tests)

not_past : (a b : ℤ) → b ≤ℤ a → int_lt a b ≡ false
not_past a b e = grind (arith, arith)

both_true : (a b : Bool) → a ≡ true → b ≡ false → (a && not b) ≡ true
both_true a b p q = rw (p, q)

-- a document that has its pin's version and is fresh serves
serves_so : (pin : Option MetaFile) (p : MetaFile) (version : ℕ) (expires now : jiff.Timestamp) → pin ≡ Some p → version ≡ p.version → Fresh expires now → serves pin version expires now ≡ true
serves_so pin p version expires now at same fresh =
    ap (λ pin. serves pin version expires now) at ∙ both_true (p.version == version) (is_past expires now) (equal p.version version (sym same)) (not_past expires.nanosecond now.nanosecond fresh)

newer_equal : (t : declared_timestamp.Timestamp) → newer_than_of t t ≡ Err (tuf.EqualVersion (codes "timestamp") t.version)
unfolding newer_than_of
newer_equal t =
    step_to (not_below_of (codes "timestamp") t.version t.version) _ tt (ap (λ b. if b then Err (tuf.Rollback (codes "timestamp") t.version t.version) else Ok tt) (never_lower t.version))
    ∙ step_err (other_of (codes "timestamp") t.version t.version) _ (tuf.EqualVersion (codes "timestamp") t.version)
    (ap (λ b. if b then Err (tuf.EqualVersion (codes "timestamp") t.version) else Ok tt) (equal t.version t.version refl))

-- two documents that are held of the same bytes are one
pub held_same : {T : Type 0} (reads : List ℕ → Result (Document T) Error) (a b : Held T) → reads a.bytes ≡ Ok a.document → reads b.bytes ≡ Ok b.document → a.bytes ≡ b.bytes → a ≡ b
held_same {T} reads a b p q e = join (ok_same a.document b.document (sym p ∙ ap reads e ∙ q))
  where
    join : a.document ≡ b.document → a ≡ b
    join d = λ i. record { bytes = e i; document = d i }

module _ (session : Session) (folders : Folders) (path : List ℕ) (chain : TrustChain) (o : Offered session folders path chain) (from : ℕ) (whole : List (List ℕ)) (whole_bound : from + length whole < 2 ^ 64) where
  abbrev Warm : Files → Type 0
  Warm = IsWarm session folders path chain o from whole whole_bound

  -- each document in force is the chain's, or none is there
  pub record Behind (state : State) : Type 0 where
    pub told : state.repo.told ≡ Some folders
    pub root : state.documents.root ≡ o.root
    pub roots : state.documents.roots ≡ chain.roots
    pub time : IsNoneOr state.documents.timestamp (Some o.time)
    pub snap : IsNoneOr state.documents.snapshot (Some o.snap)
    pub top : IsNoneOr (top_targets state.documents) (Some o.top)
    pub roles : AreOf chain.roles state.documents
    pub warm : TellsSo Warm state.store

  -- where no role is in force
  none_of : (set : InForce) → set.targets ≡ [] → AreOf chain.roles set
  none_of set none name held at = let never : None ≡ Some held = sym (ap (at_name name) none) ∙ at in cc

  -- and with the targets document
  top_of : (set : InForce) → AreOf chain.roles set → AreOf chain.roles (with_targets set o.top)
  top_of set roles name held at = by_name (inserted name (codes "targets") o.top held set.targets at)
    where
      by_name : ((name ≡ codes "targets") × (held ≡ o.top)) ⊎ (at_name name set.targets ≡ Some held) → held_in chain.roles name ≡ Some held
      by_name (inl (is, same)) = ap (held_in chain.roles) is ∙ o.top_is ∙ ap Some (sym same)
      by_name (inr there) = roles name held there

  behind_last : (state : State) → OnRoots session folders path chain o from whole whole_bound state o.root [] → Behind state
  behind_last state b = record {
    told = b.told;
    root = b.root;
    roots = sym (append-nil state.documents.roots) ∙ b.roots;
    time = inl b.no_time;
    snap = inl b.no_snap;
    top = inl (ap (λ ts. at_name (codes "targets") ts) b.no_top);
    roles = none_of state.documents b.no_top;
    warm = b.warm;
  }

  behind_same : (old new : State) → new.documents ≡ old.documents → new.repo.told ≡ old.repo.told → TellsSo Warm new.store → Behind old → Behind new
  behind_same old new d t w b = record {
    told = t ∙ b.told;
    root = ap (λ (s : InForce). s.root) d ∙ b.root;
    roots = ap (λ (s : InForce). s.roots) d ∙ b.roots;
    time = subst (λ (s : InForce). IsNoneOr s.timestamp (Some o.time)) (sym d) b.time;
    snap = subst (λ (s : InForce). IsNoneOr s.snapshot (Some o.snap)) (sym d) b.snap;
    top = subst (λ (s : InForce). IsNoneOr (top_targets s) (Some o.top)) (sym d) b.top;
    roles = subst (AreOf chain.roles) (sym d) b.roles;
    warm = w;
  }

  -- the timestamp is in force, then the snapshot, then the targets document
  pub record Timed (state : State) : Type 0 where
    pub behind : Behind state
    pub time : state.documents.timestamp ≡ Some o.time

  pub record Snapped (state : State) : Type 0 where
    pub timed : Timed state
    pub snap : state.documents.snapshot ≡ Some o.snap

  pub record Topped (state : State) : Type 0 where
    pub snapped : Snapped state
    pub top : top_targets state.documents ≡ Some o.top

  timed_after : (old new : State) → Behind old → new.documents ≡ with_timestamp old.documents o.time → new.repo.told ≡ old.repo.told → TellsSo Warm new.store → Timed new
  timed_after old new b d t w = record {
    behind = record {
      told = t ∙ b.told;
      root = ap (λ (s : InForce). s.root) d ∙ b.root;
      roots = ap (λ (s : InForce). s.roots) d ∙ b.roots;
      time = inr (ap (λ (s : InForce). s.timestamp) d);
      snap = subst (λ (s : InForce). IsNoneOr s.snapshot (Some o.snap)) (sym d) b.snap;
      top = subst (λ (s : InForce). IsNoneOr (top_targets s) (Some o.top)) (sym d) b.top;
      roles = subst (AreOf chain.roles) (sym d) b.roles;
      warm = w;
    };
    time = ap (λ (s : InForce). s.timestamp) d;
  }

  snap_after : (old new : State) → Behind old → new.documents ≡ with_snapshot old.documents o.snap → new.repo.told ≡ old.repo.told → TellsSo Warm new.store → Behind new
  snap_after old new b d t w = record {
    told = t ∙ b.told;
    root = ap (λ (s : InForce). s.root) d ∙ b.root;
    roots = ap (λ (s : InForce). s.roots) d ∙ b.roots;
    time = subst (λ (s : InForce). IsNoneOr s.timestamp (Some o.time)) (sym d) b.time;
    snap = inr (ap (λ (s : InForce). s.snapshot) d);
    top = inl (ap (λ (s : InForce). top_targets s) d);
    roles = none_of new.documents (ap (λ (s : InForce). s.targets) d);
    warm = w;
  }

  top_after : (old new : State) → Behind old → new.documents ≡ with_targets old.documents o.top → new.repo.told ≡ old.repo.told → TellsSo Warm new.store → Behind new
  top_after old new b d t w = record {
    told = t ∙ b.told;
    root = ap (λ (s : InForce). s.root) d ∙ b.root;
    roots = ap (λ (s : InForce). s.roots) d ∙ b.roots;
    time = subst (λ (s : InForce). IsNoneOr s.timestamp (Some o.time)) (sym d) b.time;
    snap = subst (λ (s : InForce). IsNoneOr s.snapshot (Some o.snap)) (sym d) b.snap;
    top = inr (ap (λ (s : InForce). top_targets s) d ∙ top_inserted old.documents o.top);
    roles = subst (AreOf chain.roles) (sym d) (top_of old.documents b.roles);
    warm = w;
  }

  -- ---- looks

  pub check_done : (P : State → Type 0) (test : InForce → Result ⊤ Error) (old new : State) (result : Result ⊤ Error) → test old.documents ≡ Ok tt → P old → Checks test old new result → Done (P new) result
  check_done P test old new (Ok x) t p c = done refl (subst P (sym c.same) p)
  check_done P test old new (Err e) t p c = by_want (is_want e) c.refused
    where
      by_want : (e ≡ tuf.NoMemory) ⊎ (e ≢ tuf.NoMemory) → (e ≢ tuf.NoMemory → test old.documents ≡ Err e) → Done (P new) (Err e)
      by_want (inl h) r = wanting (ap Err h)
      by_want (inr h) r = no_both tt e (sym t ∙ r h)

  fresh_ok : (role : List ℕ) (expires : jiff.Timestamp) → Fresh expires session.now → fresh_of role expires session.now ≡ Ok tt
  fresh_ok role expires f = (fresh_exactly role expires session.now).1 f

  met : {T : Type 0} (set : InForce) (name : List ℕ) (doc : Document T) → set.root ≡ o.root → MeetsRole session.crypto (content_in {T = declared.Root} o.root) name doc → meets_role_of session.crypto (content_in {T = declared.Root} set.root) name doc ≡ Ok tt
  met set name doc root m = role_ok session.crypto (content_in {T = declared.Root} set.root) name doc (subst (λ (r : Document declared.Root). MeetsRole session.crypto (content_in {T = declared.Root} r) name doc) (sym root) m)

  pub root_serves : (set : InForce) → set.root ≡ o.root → root_serves_of set session.now ≡ Ok tt
  root_serves set root =
      fresh_ok (codes "root") (content_in {T = declared.Root} set.root).expires (subst (λ (r : Document declared.Root). Fresh (content_in {T = declared.Root} r).expires session.now) (sym root) o.root_fresh)

  timestamp_serves : (set : InForce) → set.timestamp ≡ Some o.time → timestamp_serves_of set session.now ≡ Ok tt
  unfolding timestamp_serves_of
  timestamp_serves set time =
      step_to (ok_or set.timestamp (tuf.Malformed rule.NoTimestamp)) _ o.time (ap (λ t. ok_or t (tuf.Malformed rule.NoTimestamp)) time)
      ∙ step_to (ok_or (snapshot_pin (content_of o.time)) (tuf.Malformed rule.Unpinned)) _ o.pin (ap (λ p. ok_or p (tuf.Malformed rule.Unpinned)) o.pin_is)
      ∙ fresh_ok (codes "timestamp") (content_of o.time).expires o.time_fresh

  top_pin_so : (set : InForce) → set.snapshot ≡ Some o.snap → targets_pin_of set (Some session.now) ≡ Ok o.top_pin
  unfolding targets_pin_of
  top_pin_so set snap =
      step_to (ok_or set.snapshot (tuf.Malformed rule.NoSnapshot)) _ o.snap (ap (λ s. ok_or s (tuf.Malformed rule.NoSnapshot)) snap)
      ∙ step_to (fresh_at_of (codes "snapshot") (content_of o.snap).expires (Some session.now)) _ tt (fresh_ok (codes "snapshot") (content_of o.snap).expires o.snap_fresh)
      ∙ ap (λ p. ok_or p (tuf.Malformed rule.Unpinned)) o.top_pin_is

  snapshot_serves : (set : InForce) → set.snapshot ≡ Some o.snap → snapshot_serves_of set session.now ≡ Ok tt
  unfolding snapshot_serves_of
  snapshot_serves set snap = step_to (targets_pin_of set (Some session.now)) _ o.top_pin (top_pin_so set snap)

  -- ---- judgements

  time_checked : (set : InForce) → set.root ≡ o.root → set.timestamp ≡ None → timestamp_checks_of session.crypto set o.time.document (Some session.now) ≡ Ok tt
  unfolding timestamp_checks_of
  time_checked set root none =
      step_to (meets_role_of session.crypto (content_in {T = declared.Root} set.root) (codes "timestamp") o.time.document) _ tt (met set (codes "timestamp") o.time.document root o.time_signed.met)
      ∙ step_to (newer_of set.timestamp (content_of o.time)) _ tt (ap (λ t. newer_of t (content_of o.time)) none)
      ∙ fresh_ok (codes "timestamp") (content_of o.time).expires o.time_fresh

  time_updated : (set : InForce) → set.root ≡ o.root → set.timestamp ≡ None → update_timestamp_of session.crypto set o.time.bytes (Some session.now) ≡ Ok (with_timestamp set o.time)
  unfolding update_timestamp_of
  time_updated set root none =
      step_to (timestamp_document o.time.bytes) _ o.time.document o.time_signed.read ∙ step_to (timestamp_checks_of session.crypto set o.time.document (Some session.now)) _ tt (time_checked set root none)

  time_equal_checked : (set : InForce) → set.root ≡ o.root → set.timestamp ≡ Some o.time → timestamp_checks_of session.crypto set o.time.document (Some session.now) ≡ Err (tuf.EqualVersion (codes "timestamp") (content_of o.time).version)
  unfolding timestamp_checks_of
  time_equal_checked set root there =
      step_to (meets_role_of session.crypto (content_in {T = declared.Root} set.root) (codes "timestamp") o.time.document) _ tt (met set (codes "timestamp") o.time.document root o.time_signed.met)
      ∙ step_err (newer_of set.timestamp (content_of o.time)) _ (tuf.EqualVersion (codes "timestamp") (content_of o.time).version) (ap (λ t. newer_of t (content_of o.time)) there ∙ newer_equal (content_of o.time))

  time_equal : (set : InForce) → set.root ≡ o.root → set.timestamp ≡ Some o.time → update_timestamp_of session.crypto set o.time.bytes (Some session.now) ≡ Err (tuf.EqualVersion (codes "timestamp") (content_of o.time).version)
  unfolding update_timestamp_of
  time_equal set root there =
      step_to (timestamp_document o.time.bytes) _ o.time.document o.time_signed.read
      ∙ step_err (timestamp_checks_of session.crypto set o.time.document (Some session.now)) _ (tuf.EqualVersion (codes "timestamp") (content_of o.time).version) (time_equal_checked set root there)

  -- the timestamp is put in force, or is there
  pub record TimeJudged (set : InForce) : Type 0 where
    pub put : Option InForce
    pub judged : judged_of session.crypto Timestamp set o.time.bytes (Some session.now) ≡ Ok put
    pub is : after set put ≡ with_timestamp set o.time

  time_judged : (set : InForce) → set.root ≡ o.root → IsNoneOr set.timestamp (Some o.time) → TimeJudged set
  time_judged set root (inl none) = record { put = Some (with_timestamp set o.time); judged = ap unless_equal (time_updated set root none); is = refl }
  time_judged set root (inr there) = record { put = None; judged = ap unless_equal (time_equal set root there); is = ap (λ t. record set { timestamp = t }) there }

  snap_pin_so : (set : InForce) → set.timestamp ≡ Some o.time → snapshot_pin_of set (Some session.now) ≡ Ok o.pin
  unfolding snapshot_pin_of
  snap_pin_so set time =
      step_to (ok_or set.timestamp (tuf.Malformed rule.NoTimestamp)) _ o.time (ap (λ t. ok_or t (tuf.Malformed rule.NoTimestamp)) time)
      ∙ step_to (fresh_at_of (codes "timestamp") (content_of o.time).expires (Some session.now)) _ tt (fresh_ok (codes "timestamp") (content_of o.time).expires o.time_fresh)
      ∙ ap (λ p. ok_or p (tuf.Malformed rule.Unpinned)) o.pin_is

  version_ok : (pin : MetaFile) (version : ℕ) → version ≡ pin.version → version_of pin version ≡ Ok tt
  version_ok pin version same = if_true (version == pin.version) (tuf.IntegrityMismatch mismatch.Version) (equal version pin.version same)

  snap_checked : (set : InForce) → set.root ≡ o.root → set.snapshot ≡ None → snapshot_checks_of session.crypto set o.pin o.snap.document (Some session.now) ≡ Ok tt
  unfolding snapshot_checks_of
  snap_checked set root none =
      step_to (meets_role_of session.crypto (content_in {T = declared.Root} set.root) (codes "snapshot") o.snap.document) _ tt (met set (codes "snapshot") o.snap.document root o.snap_signed.met)
      ∙ step_to (version_of o.pin (content_of o.snap).version) _ tt (version_ok o.pin (content_of o.snap).version o.pinned.version_is)
      ∙ step_to (kept_pins_of set.snapshot (content_of o.snap)) _ tt (ap (λ s. kept_pins_of s (content_of o.snap)) none)
      ∙ fresh_ok (codes "snapshot") (content_of o.snap).expires o.snap_fresh

  snap_updated : (set : InForce) → set.root ≡ o.root → set.timestamp ≡ Some o.time → set.snapshot ≡ None → update_snapshot_of session.crypto set o.snap.bytes (Some session.now) ≡ Ok (with_snapshot set o.snap)
  unfolding update_snapshot_of
  snap_updated set root time none =
      step_to (snapshot_pin_of set (Some session.now)) _ o.pin (snap_pin_so set time)
      ∙ step_to (integrity_of o.pin.length o.pin.hashes o.snap.bytes) _ tt ((integrity_exactly o.pin.length o.pin.hashes o.snap.bytes).1 o.pinned.intact)
      ∙ step_to (snapshot_document o.snap.bytes) _ o.snap.document o.snap_signed.read
      ∙ step_to (snapshot_checks_of session.crypto set o.pin o.snap.document (Some session.now)) _ tt (snap_checked set root none)

  top_checked : (set : InForce) → set.root ≡ o.root → targets_checks_of session.crypto set o.top_pin o.top.document (Some session.now) ≡ Ok tt
  unfolding targets_checks_of
  top_checked set root =
      step_to (version_of o.top_pin (content_of o.top).version) _ tt (version_ok o.top_pin (content_of o.top).version o.top_pinned.version_is)
      ∙ step_to (meets_role_of session.crypto (content_in {T = declared.Root} set.root) (codes "targets") o.top.document) _ tt (met set (codes "targets") o.top.document root o.top_signed.met)
      ∙ fresh_ok (codes "targets") (content_of o.top).expires o.top_fresh

  top_updated : (set : InForce) → set.root ≡ o.root → set.snapshot ≡ Some o.snap → update_targets_of session.crypto set o.top.bytes (Some session.now) ≡ Ok (with_targets set o.top)
  unfolding update_targets_of
  top_updated set root snap =
      step_to (targets_pin_of set (Some session.now)) _ o.top_pin (top_pin_so set snap)
      ∙ step_to (integrity_of o.top_pin.length o.top_pin.hashes o.top.bytes) _ tt ((integrity_exactly o.top_pin.length o.top_pin.hashes o.top.bytes).1 o.top_pinned.intact)
      ∙ step_to (targets_document o.top.bytes) _ o.top.document o.top_signed.read
      ∙ step_to (targets_checks_of session.crypto set o.top_pin o.top.document (Some session.now)) _ tt (top_checked set root)

  -- ---- seedings

  -- bytes that are loaded are what is wanted
  wanted_loaded : (old new : State) (name bytes wanted : List ℕ) → (b : Behind old) → IsNoneOr (b.warm.files name) (Some wanted) → LoadsNamed name old.store new.store (Ok (Some bytes)) → bytes ≡ wanted
  wanted_loaded old new name bytes wanted b w l =
      sym (some_same wanted bytes (found_wanted (b.warm.files name) (Some wanted) bytes w (loaded_is name old.store new.store b.warm.files bytes b.warm.told l)))

  warm_loaded : (old new : State) (name bytes : List ℕ) → Behind old → LoadsNamed name old.store new.store (Ok (Some bytes)) → TellsSo Warm new.store
  warm_loaded old new name bytes b l = tells_same Warm old.store new.store (loaded_same name old.store new.store (Ok (Some bytes)) l) b.warm

  put_done : (k : Kind) → NotRoot k → (now : Option jiff.Timestamp) (old new : State) (bytes : List ℕ) → Behind old → LoadsNamed (kept_name k) old.store new.store (Ok (Some bytes))
      → judged_of session.crypto k old.documents bytes now ≡ Ok (Some new.documents) → new.repo.told ≡ old.repo.told → Behind new
  put_done (Root number) other now old new bytes b l j t = absurd other
  put_done Timestamp other now old new bytes b l j t =
      let p = judged_puts session.crypto old.documents bytes Timestamp now new.documents j in
      let same = held_same timestamp_document p.held o.time p.signed.read o.time_signed.read (p.bytes_is ∙ wanted_loaded old new timestamp_name bytes o.time.bytes b b.warm.so.time l) in
      let timed = timed_after old new b (p.new_is ∙ ap (λ h. with_timestamp old.documents h) same) t (warm_loaded old new timestamp_name bytes b l) in
      timed.behind
  put_done Snapshot other now old new bytes b l j t =
      let p = judged_puts session.crypto old.documents bytes Snapshot now new.documents j in
      let same = held_same snapshot_document p.held o.snap p.signed.read o.snap_signed.read (p.bytes_is ∙ wanted_loaded old new snapshot_name bytes o.snap.bytes b b.warm.so.snap l) in
      snap_after old new b (p.new_is ∙ ap (λ h. with_snapshot old.documents h) same) t (warm_loaded old new snapshot_name bytes b l)
  put_done Targets other now old new bytes b l j t =
      let p = judged_puts session.crypto old.documents bytes Targets now new.documents j in
      let same = held_same targets_document p.held o.top p.signed.read o.top_signed.read (p.bytes_is ∙ wanted_loaded old new targets_name bytes o.top.bytes b b.warm.so.top l) in
      top_after old new b (p.new_is ∙ ap (λ h. with_targets old.documents h) same) t (warm_loaded old new targets_name bytes b l)

  seed_done : (k : Kind) → NotRoot k → (old new : State) (result : Result ⊤ Error) → Behind old → Reseeds session k old new result → Done (Behind new) result
  seed_done k other old new result b (inl (there, same, is)) = done is (subst Behind (sym same) b)
  seed_done k other old new result b (inr (none, (answer, s, is))) = by_seeds (seeds_so session.crypto k (moment_of k session.now) old new answer s)
    where
      by_seeds : Seeded session.crypto k (moment_of k session.now) old new answer → Done (Behind new) result
      by_seeds (seed_wants h) = wanting (is ∙ ap (λ (a : Result Bool Error). said a) h)
      by_seeds (seed_passed h p) =
          done (is ∙ ap (λ (a : Result Bool Error). said a) h) (behind_same old new p.documents (ap (λ (w : Watched Folders). w.told) p.repo) (tells_same Warm old.store new.store p.told b.warm) b)
      by_seeds (seed_put h bytes l j repo) =
          done (is ∙ ap (λ (a : Result Bool Error). said a) h) (put_done k other (moment_of k session.now) old new bytes b l j (ap (λ (w : Watched Folders). w.told) repo))

  -- ---- fetches

  pub answered : {P : Type 0} (answer : Result Bool Error) (result : Result ⊤ Error) → result ≡ said answer → Answers P answer (Ok true) → Done P result
  answered answer result is (wants h) = wanting (is ∙ ap (λ (a : Result Bool Error). said a) h)
  answered answer result is (answers h p) = done (is ∙ ap (λ (a : Result Bool Error). said a) h) p

  took_then : {P : Type 0} (k : Kind) (bytes : List ℕ) (old new : State) (r : Option InForce) (answer : Result Bool Error) → (Took k bytes old new r → P) → Answers (Took k bytes old new r) answer (Ok true) → Answers P answer (Ok true)
  took_then k bytes old new r answer f (wants h) = wants h
  took_then k bytes old new r answer f (answers h t) = answers h (f t)

  fetch_time_done : (old new : State) (result : Result ⊤ Error) → Behind old → Quiet old.repo.faults new.repo.faults → Refetches session Timestamp old new result → Done (Timed new) result
  fetch_time_done old new result b q (inl (current, same, is)) = let never : false ≡ true = current in cc
  fetch_time_done old new result b q (inr (other, (answer, a, is))) =
      answered answer result is
      (took_then Timestamp o.time.bytes old new judged.put answer
      (λ t. timed_after old new b (t.documents ∙ judged.is) t.told (took_so Warm Timestamp o.time.bytes old new judged.put harmless t b.warm))
      (adopts_there session folders Timestamp o.time.bytes old new judged.put b.told o.time_served.there o.time_served.short q judged.judged answer a))
    where
      judged : TimeJudged old.documents
      judged = time_judged old.documents b.root b.time

      harmless : AreHarmless Warm o.time.bytes (kept_names new.documents Timestamp)
      harmless = (stays_warm session folders path chain o from whole whole_bound timestamp_name o.time.bytes (inr refl) (inl refl) (inl refl) (inl refl) (stays_elsewhere session folders path chain o from whole whole_bound timestamp_name o.time.bytes (λ n. refl)), tt)

  -- a snapshot is written under its names
  snap_harmless : AreHarmless Warm o.snap.bytes (snapshot_name ∷ [])
  snap_harmless = (stays_warm session folders path chain o from whole whole_bound snapshot_name o.snap.bytes (inl refl) (inr refl) (inl refl) (inl refl) (stays_elsewhere session folders path chain o from whole whole_bound snapshot_name o.snap.bytes (λ n. refl)), tt)

  both_harmless : (consistent : Bool) (pin : Option MetaFile) → AreHarmless Warm o.snap.bytes (both_names consistent pin snapshot_name)
  both_harmless consistent None = snap_harmless
  both_harmless false (Some pin) = snap_harmless
  both_harmless true (Some pin) = (
    stays_warm session folders path chain o from whole whole_bound (versioned_name pin.version snapshot_name) o.snap.bytes (inl (apart timestamp_name 116 refl (omega arith))) (inl (apart snapshot_name 115 refl (omega arith)))
        (inl (apart targets_name 116 refl (omega arith))) (inl (apart (kept_target path) 116 refl (omega arith)))
        (stays_elsewhere session folders path chain o from whole whole_bound (versioned_name pin.version snapshot_name) o.snap.bytes (λ n. apart (history_name n) 114 refl (omega arith))),
    snap_harmless,
  )
    where
      apart : (xs : List ℕ) (x : ℕ) → get_or xs 0 0 ≡ x → 57 < x → bytes_eq xs (versioned_name pin.version snapshot_name) ≡ false
      apart xs x is h = versioned_apart pin.version snapshot_name xs x is h

  -- the names of the pinned documents
  snap_name : (set : InForce) → set.root ≡ o.root → set.timestamp ≡ Some o.time → file_name set Snapshot ≡ pinned_name (content_in {T = declared.Root} o.root).consistent_snapshot (Some o.pin) snapshot_name
  snap_name set root time =
      ap (λ (r : Document declared.Root). pinned_name (content_in {T = declared.Root} r).consistent_snapshot (snapshot_pin_in set) snapshot_name) root
      ∙ ap (λ pin. pinned_name (content_in {T = declared.Root} o.root).consistent_snapshot pin snapshot_name) (ap (option_and_then (λ (held : Held declared_timestamp.Timestamp). snapshot_pin (content_of held))) time ∙ o.pin_is)

  top_name : (set : InForce) → set.root ≡ o.root → set.snapshot ≡ Some o.snap → file_name set Targets ≡ pinned_name (content_in {T = declared.Root} o.root).consistent_snapshot (Some o.top_pin) targets_name
  top_name set root snap =
      ap (λ (r : Document declared.Root). pinned_name (content_in {T = declared.Root} r).consistent_snapshot (targets_pin_in set) targets_name) root
      ∙ ap (λ pin. pinned_name (content_in {T = declared.Root} o.root).consistent_snapshot pin targets_name) (ap (option_and_then (λ (held : Held declared_snapshot.Snapshot). targets_pin (content_of held))) snap ∙ o.top_pin_is)

  fetch_snap_done : (old new : State) (result : Result ⊤ Error) → Timed old → Quiet old.repo.faults new.repo.faults → Refetches session Snapshot old new result → Done (Snapped new) result
  fetch_snap_done old new result b q (inl (current, same, is)) = by_snap b.behind.snap
    where
      kept : snapshot_kept_in (Some o.time) old.documents.snapshot session.now ≡ true
      kept = subst (λ t. snapshot_kept_in t old.documents.snapshot session.now ≡ true) b.time current

      by_snap : IsNoneOr old.documents.snapshot (Some o.snap) → Done (Snapped new) result
      by_snap (inl none) = let never : false ≡ true = subst (λ s. snapshot_kept_in (Some o.time) s session.now ≡ true) none kept in cc
      by_snap (inr there) = done is (subst Snapped (sym same) (record { timed = b; snap = there }))
  fetch_snap_done old new result b q (inr (other, (answer, a, is))) = by_snap b.behind.snap
    where
      current : snapshot_kept_in (Some o.time) (Some o.snap) session.now ≡ true
      current = serves_so (snapshot_pin (content_of o.time)) o.pin (content_of o.snap).version (content_of o.snap).expires session.now o.pin_is o.pinned.version_is o.snap_fresh

      harmless : AreHarmless Warm o.snap.bytes (kept_names new.documents Snapshot)
      harmless = both_harmless (is_consistent new.documents) (snapshot_pin_in new.documents)

      fetched : old.documents.snapshot ≡ None → Took Snapshot o.snap.bytes old new (Some (with_snapshot old.documents o.snap)) → Snapped new
      fetched none t = record {
        timed = record {
          behind = snap_after old new b.behind t.documents t.told (took_so Warm Snapshot o.snap.bytes old new (Some (with_snapshot old.documents o.snap)) harmless t b.behind.warm);
          time = ap (λ (s : InForce). s.timestamp) t.documents ∙ b.time;
        };
        snap = ap (λ (s : InForce). s.snapshot) t.documents;
      }

      by_snap : IsNoneOr old.documents.snapshot (Some o.snap) → Done (Snapped new) result
      by_snap (inl none) =
          answered answer result is
          (took_then Snapshot o.snap.bytes old new (Some (with_snapshot old.documents o.snap)) answer (fetched none)
          (adopts_there session folders Snapshot o.snap.bytes old new (Some (with_snapshot old.documents o.snap)) b.behind.told (ap folders.metadata (snap_name old.documents b.behind.root b.time) ∙ o.snap_served.there) o.snap_served.short q
          (ap taken_of (snap_updated old.documents b.behind.root b.time none)) answer a))
      by_snap (inr there) =
          let never : true ≡ false = sym current ∙ ap (λ t. snapshot_kept_in t (Some o.snap) session.now) (sym b.time) ∙ ap (λ s. snapshot_kept_in old.documents.timestamp s session.now) (sym there) ∙ other in cc

  fetch_top_done : (old new : State) (result : Result ⊤ Error) → Snapped old → Quiet old.repo.faults new.repo.faults → Refetches session Targets old new result → Done (Topped new) result
  fetch_top_done old new result b q (inl (current, same, is)) = by_top b.timed.behind.top
    where
      kept : targets_kept_in (Some o.snap) (top_targets old.documents) session.now ≡ true
      kept = subst (λ s. targets_kept_in s (top_targets old.documents) session.now ≡ true) b.snap current

      by_top : IsNoneOr (top_targets old.documents) (Some o.top) → Done (Topped new) result
      by_top (inl none) = let never : false ≡ true = subst (λ g. targets_kept_in (Some o.snap) g session.now ≡ true) none kept in cc
      by_top (inr there) = done is (subst Topped (sym same) (record { snapped = b; top = there }))
  fetch_top_done old new result b q (inr (other, (answer, a, is))) =
      answered answer result is
      (took_then Targets o.top.bytes old new (Some (with_targets old.documents o.top)) answer fetched
      (adopts_there session folders Targets o.top.bytes old new (Some (with_targets old.documents o.top)) b.timed.behind.told (ap folders.metadata (top_name old.documents b.timed.behind.root b.snap) ∙ o.top_served.there) o.top_served.short q
      (ap taken_of (top_updated old.documents b.timed.behind.root b.snap)) answer a))
    where
      harmless : AreHarmless Warm o.top.bytes (kept_names new.documents Targets)
      harmless = (stays_warm session folders path chain o from whole whole_bound targets_name o.top.bytes (inl refl) (inl refl) (inr refl) (inl refl) (stays_elsewhere session folders path chain o from whole whole_bound targets_name o.top.bytes (λ n. refl)), tt)

      fetched : Took Targets o.top.bytes old new (Some (with_targets old.documents o.top)) → Topped new
      fetched t = record {
        snapped = record {
          timed = record {
            behind = top_after old new b.timed.behind t.documents t.told (took_so Warm Targets o.top.bytes old new (Some (with_targets old.documents o.top)) harmless t b.timed.behind.warm);
            time = ap (λ (s : InForce). s.timestamp) t.documents ∙ b.timed.time;
          };
          snap = ap (λ (s : InForce). s.snapshot) t.documents ∙ b.snap;
        };
        top = ap (λ (s : InForce). top_targets s) t.documents ∙ top_inserted old.documents o.top;
      }

  -- ---- the run

  joins : (a b c : State) (result : Result ⊤ Error) → Since a.repo b.repo → Since b.repo c.repo → Since a.repo c.repo
  joins a b c result p q = since_joins a.repo b.repo c.repo p q

  stays : (a : State) → Since a.repo a.repo
  stays a = since_same a.repo a.repo refl

  step_since : (step : Step) (steps : List Step) (old new : State) (result : Result ⊤ Error) → AskNoRoots (step ∷ steps) → Does session step old new result → Since old.repo new.repo
  step_since step steps old new result asks d =
      does_lift (λ old new result. Since old.repo new.repo) joins stays session (λ k old new answer asked a. (adopt_carried session k old new answer asked a).since)
      (λ k now old new answer asked s. (seed_carried session.crypto k now old new answer asked s).since) (λ a e. stays a) step old new result asks.0 d

  rest_since : (steps : List Step) (old new : State) (result : Result ⊤ Error) → AskNoRoots steps → Runs session steps old new result → Since old.repo new.repo
  rest_since steps old new result asks r =
      runs_lift (λ old new result. Since old.repo new.repo) joins stays session (λ k old new answer asked a. (adopt_carried session k old new answer asked a).since)
      (λ k now old new answer asked s. (seed_carried session.crypto k now old new answer asked s).since) (λ a e. stays a) steps old new result asks r

  -- a step that is done, and then the rest
  step_then : {step : Step} {steps : List Step} {old new : State} {result : Result ⊤ Error} {Q : Type 0} (P : State → Type 0) → AskNoRoots (step ∷ steps) → Quiet old.repo.faults new.repo.faults → Rest session (step ∷ steps) old new result
      → ((mid : State) (answer : Result ⊤ Error) → Quiet old.repo.faults mid.repo.faults → Does session step old mid answer → Done (P mid) answer)
      → ((mid : State) → Quiet mid.repo.faults new.repo.faults → P mid → Rest session steps mid new result → Done Q result) → Done Q result
  step_then {step} {steps} {old} {new} {result} {Q} P asks quiet r first rest = by_run r.runs
    where
      by_refusal : (e : Error) → result ≡ Err e → Done (P new) (Err e) → Done Q result
      by_refusal e is (wanting h) = wanting (is ∙ ap Err (err_same e tuf.NoMemory h))
      by_refusal e is (done h p) = no_both tt e (sym h)

      by_done : (mid : State) → Done (P mid) (Ok tt) → Quiet mid.repo.faults new.repo.faults → Runs session steps mid new result → Done Q result
      by_done mid (wanting h) q r = no_both tt tuf.NoMemory h
      by_done mid (done h p) q r = rest mid q p (record { runs = r })

      by_run : ((e : Error) × Does session step old new (Err e) × (result ≡ Err e)) ⊎ ((mid : State) × Does session step old mid (Ok tt) × Runs session steps mid new result) → Done Q result
      by_run (inl (e, d, is)) = by_refusal e is (first new (Err e) quiet d)
      by_run (inr (mid, d, r)) =
          let a = step_since step steps old mid (Ok tt) asks d in
          let b = rest_since steps mid new result asks.1 r in
          by_done mid (first mid (Ok tt) (quiet_first old.repo.faults mid.repo.faults new.repo.faults a.later b.later quiet) d) (quiet_second old.repo.faults mid.repo.faults new.repo.faults a.later b.later quiet) r

  walked : (most : ℕ) (old mid : State) (answer : Result ⊤ Error) → Somewhere session folders path chain o from whole whole_bound most old → RootsEnd folders.metadata most session.config.max_root_rotations (number_of o.root) → Quiet old.repo.faults mid.repo.faults
      → Does session WalkRoots old mid answer → Done (Behind mid) answer
  walked most old mid answer s ends q d =
      by_done (walk_done session folders path chain o from whole whole_bound (Err (tuf.Transport (transport.Rotations session.config.max_root_rotations))) session.config.max_root_rotations old mid answer s.doc s.rest s.docs s.on s.way
      (end_of_fewer folders.metadata most (length s.rest) session.config.max_root_rotations (number_of o.root) s.fewer ends) q d)
    where
      by_done : Done (OnRoots session folders path chain o from whole whole_bound mid o.root []) answer → Done (Behind mid) answer
      by_done (wanting h) = wanting h
      by_done (done h b) = done h (behind_last mid b)

  pub refresh_done : (most : ℕ) (old new : State) (result : Result ⊤ Error) → Somewhere session folders path chain o from whole whole_bound most old → RootsEnd folders.metadata most session.config.max_root_rotations (number_of o.root) → Quiet old.repo.faults new.repo.faults
      → RunsSteps session refresh_steps old new result → Done (Topped new) result
  refresh_done most old new result s ends quiet run =
      let r0 : Rest session refresh_steps old new result = record { runs = run.runs } in
      step_then Behind (tt, (tt, (tt, (tt, (tt, (tt, (tt, (tt, (tt, (tt, tt)))))))))) quiet r0 (λ mid answer q d. walked most old mid answer s ends q d) (λ s1 q1 p1 r1.
      step_then Behind (tt, (tt, (tt, (tt, (tt, (tt, (tt, (tt, (tt, tt))))))))) q1 r1 (λ mid answer q d. check_done Behind (λ set. root_serves_of set session.now) s1 mid answer (root_serves s1.documents p1.root) p1 d) (λ s2 q2 p2 r2.
      step_then Behind (tt, (tt, (tt, (tt, (tt, (tt, (tt, (tt, tt)))))))) q2 r2 (λ mid answer q d. seed_done Timestamp tt s2 mid answer p2 d) (λ s3 q3 p3 r3.
      step_then Behind (tt, (tt, (tt, (tt, (tt, (tt, (tt, tt))))))) q3 r3 (λ mid answer q d. seed_done Snapshot tt s3 mid answer p3 d) (λ s4 q4 p4 r4.
      step_then Behind (tt, (tt, (tt, (tt, (tt, (tt, tt)))))) q4 r4 (λ mid answer q d. seed_done Targets tt s4 mid answer p4 d) (λ s5 q5 p5 r5.
      step_then Timed (tt, (tt, (tt, (tt, (tt, tt))))) q5 r5 (λ mid answer q d. fetch_time_done s5 mid answer p5 q d) (λ s6 q6 p6 r6.
      step_then Timed (tt, (tt, (tt, (tt, tt)))) q6 r6 (λ mid answer q d. check_done Timed (λ set. timestamp_serves_of set session.now) s6 mid answer (timestamp_serves s6.documents p6.time) p6 d) (λ s7 q7 p7 r7.
      step_then Snapped (tt, (tt, (tt, tt))) q7 r7 (λ mid answer q d. fetch_snap_done s7 mid answer p7 q d) (λ s8 q8 p8 r8.
      step_then Snapped (tt, (tt, tt)) q8 r8 (λ mid answer q d. check_done Snapped (λ set. snapshot_serves_of set session.now) s8 mid answer (snapshot_serves s8.documents p8.snap) p8 d) (λ s9 q9 p9 r9.
      step_then Topped (tt, tt) q9 r9 (λ mid answer q d. fetch_top_done s9 mid answer p9 q d) (λ s10 q10 p10 r10.
      done r10.runs.1 (subst Topped (sym r10.runs.0) p10)))))))))))
