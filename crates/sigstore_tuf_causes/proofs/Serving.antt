-- The documents of a refresh that is Ok serve.
use Rattle.std.proofs.Common.{◌≡◌, ◌⊎◌, inl, inr, ℕ, List, ◌∷◌, Bool, true, false, ◌==◌, not, Option, Some, None, Result, Ok, Err, codes, refl, sym, ap, ◌∙◌, subst, arith, ℤ, ◌≤ℤ◌, int_lt}
use Rattle.std.specs.Prelude.{⊤, ok_or, OnOk}
use Rattle.std.proofs.lemmas.Bool.Decides.{nat_tests}
use Rattle.jiff_core.specs.declared.timestamp.Timestamp as jiff
use Rattle.foundation.specs.Results.{step_ok, some_same, no_both, and_true, not_true}
use Rattle.sigstore_tuf_text.specs.declared.error.Error.{Error}
use Rattle.sigstore_tuf_text.specs.declared.error.Error.TheVariants.{Malformed}
use Rattle.sigstore_tuf_text.specs.declared.error.Rule.TheVariants as rule
use Rattle.sigstore_tuf_parts.specs.declared.root.Root as declared
use Rattle.sigstore_tuf_parts.specs.declared.timestamp.MetaFile.{MetaFile}
use Rattle.sigstore_tuf_parts.specs.declared.timestamp.Timestamp.{Timestamp}
use Rattle.sigstore_tuf_parts.specs.declared.snapshot.Snapshot.{Snapshot}
use Rattle.sigstore_tuf_parts.specs.declared.targets.Targets.{Targets}
use Rattle.sigstore_tuf_parts.specs.Document.{Document, content_in}
use Rattle.sigstore_tuf_parts.specs.Pinned.{Fresh}
use Rattle.sigstore_tuf_rules.specs.declared.documents.Held.{Held}
use Rattle.sigstore_tuf_rules.specs.declared.documents.InForce.{InForce}
use Rattle.sigstore_tuf_rules.specs.declared.kind.Kind.{Kind}
use Rattle.sigstore_tuf_rules.specs.declared.kind.Kind.TheVariants as kind
use Rattle.sigstore_tuf_runs.specs.declared.step.Step.{Step}
use Rattle.sigstore_tuf_runs.specs.declared.step.Step.TheVariants.{WalkRoots, CheckRoot, Seed, Fetch, CheckTimestamp, CheckSnapshot}
use Rattle.sigstore_tuf_rules.specs.Documents.{content_of, snapshot_pin, targets_pin}
use Rattle.sigstore_tuf_rules.specs.Update.{fresh_at_of, snapshot_pin_of}
use Rattle.sigstore_tuf_runs.specs.State.{Session, State}
use Rattle.sigstore_tuf_rules.specs.Taking.{top_targets}
use Rattle.sigstore_tuf_runs.specs.Adopt.{Adopts, unfetched, absent, refused, kept, adopted, Seeds, unloaded, unkept, unseeded, equal, seeded}
use Rattle.sigstore_tuf_rules.specs.Serving.{root_serves_of, timestamp_serves_of, serves, snapshot_kept_in, targets_kept_in, is_current}
use Rattle.sigstore_tuf_runs.specs.Run.{said, Checks, Refetches, moment_of, Reseeds, Does, Runs, refresh_steps, RunsSteps}
use Rattle.sigstore_tuf_rules.specs.Authorised.{Serve}
use Rattle.sigstore_tuf_runs.specs.Cause.{HasTimestamp, HasSnapshot}
use Rattle.sigstore_tuf_rules.proofs.Updates.{ok_some, fresh_from, Puts, judged_puts, never_equal, top_inserted}
use Rattle.sigstore_tuf_runs.proofs.Lift.{NotRoot}

-- ---- tests

at_most : (a b : ℤ) → int_lt a b ≡ false → b ≤ℤ a
at_most a b e = grind (arith, arith)

-- what a document that is kept has: the version of its pin, and an expiry that isn't before now
served : (pin : Option MetaFile) (version : ℕ) (expires now : jiff.Timestamp) → serves pin version expires now ≡ true → (p : MetaFile) × (pin ≡ Some p) × (version ≡ p.version) × Fresh expires now
served None version expires now h = cc
served (Some p) version expires now h =
    let t = and_true (p.version == version) (not (int_lt expires.nanosecond now.nanosecond)) h in
    (p, refl, same p.version version t.0, at_most expires.nanosecond now.nanosecond (not_true (int_lt expires.nanosecond now.nanosecond) t.1))
  where
    same : (m n : ℕ) → (m == n) ≡ true → n ≡ m
    same m n e = grind (arith, nat_tests)

-- ---- the timestamp

pub timestamp_there : (now : jiff.Timestamp) (set : InForce) → timestamp_serves_of set now ≡ Ok tt → HasTimestamp now set
unfolding timestamp_serves_of
timestamp_there now set h =
    let a = step_ok (ok_or set.timestamp (Malformed rule.NoTimestamp)) _ tt h in
    let b = step_ok (ok_or (snapshot_pin (content_of a.0)) (Malformed rule.Unpinned)) _ tt a.2 in
    record {
      held = a.0;
      there = ok_some set.timestamp (Malformed rule.NoTimestamp) a.0 a.1;
      fresh = fresh_from (codes "timestamp") (content_of a.0).expires now b.2;
      pin = b.0;
      pin_is = ok_some (snapshot_pin (content_of a.0)) (Malformed rule.Unpinned) b.0 b.1;
    }

-- ---- the snapshot

-- a pin that some timestamp in force has is the pin of the one that is there
one_pin : (now : jiff.Timestamp) (set : InForce) (t : HasTimestamp now set) (held : Held Timestamp) (pin : MetaFile) → set.timestamp ≡ Some held → snapshot_pin (content_of held) ≡ Some pin → pin ≡ t.pin
one_pin now set t held pin there is =
    let same : held ≡ t.held = some_same held t.held (sym there ∙ t.there) in
    some_same pin t.pin (sym is ∙ ap (λ h. snapshot_pin (content_of h)) same ∙ t.pin_is)

snapshot_kept_there : (now : jiff.Timestamp) (set : InForce) → HasTimestamp now set → is_current kind.Snapshot set now ≡ true → HasSnapshot now set
snapshot_kept_there now set t h = by_both set.timestamp set.snapshot refl refl h
  where
    by_both : (a : Option (Held Timestamp)) (b : Option (Held Snapshot)) → set.timestamp ≡ a → set.snapshot ≡ b → snapshot_kept_in a b now ≡ true → HasSnapshot now set
    by_both None b p q h = cc
    by_both (Some x) None p q h = cc
    by_both (Some x) (Some y) p q h =
        let s = served (snapshot_pin (content_of x)) (content_of y).version (content_of y).expires now h in
        record { timestamp = t; held = y; there = q; fresh = s.3; version_is = s.2 ∙ ap (λ (m : MetaFile). m.version) (one_pin now set t x s.0 p s.1) }

pin_there : (now : jiff.Timestamp) (set : InForce) (t : HasTimestamp now set) (pin : MetaFile) → snapshot_pin_of set (Some now) ≡ Ok pin → pin ≡ t.pin
unfolding snapshot_pin_of
pin_there now set t pin h =
    let a = step_ok (ok_or set.timestamp (Malformed rule.NoTimestamp)) _ pin h in
    let b = step_ok (fresh_at_of (codes "timestamp") (content_of a.0).expires (Some now)) _ pin a.2 in
    one_pin now set t a.0 pin (ok_some set.timestamp (Malformed rule.NoTimestamp) a.0 a.1) (ok_some (snapshot_pin (content_of a.0)) (Malformed rule.Unpinned) pin b.2)

-- ---- the targets document

pub record HasTargets (now : jiff.Timestamp) (set : InForce) : Type 0 where
  pub held : Held Targets
  pub there : top_targets set ≡ Some held
  pub fresh : Fresh (content_of held).expires now

targets_kept_there : (now : jiff.Timestamp) (set : InForce) → is_current kind.Targets set now ≡ true → HasTargets now set
targets_kept_there now set h = by_both set.snapshot (top_targets set) refl h
  where
    by_both : (a : Option (Held Snapshot)) (b : Option (Held Targets)) → top_targets set ≡ b → targets_kept_in a b now ≡ true → HasTargets now set
    by_both None b q h = cc
    by_both (Some x) None q h = cc
    by_both (Some x) (Some y) q h =
        let s = served (targets_pin (content_of x)) (content_of y).version (content_of y).expires now h in
        record { held = y; there = q; fresh = s.3 }

-- ---- what each step leaves

-- what a step on another document than a root leaves as it was
pub record SameRoot (old new : State) : Type 0 where
  pub root : new.documents.root ≡ old.documents.root

same_root : (old new : State) → new.documents ≡ old.documents → SameRoot old new
same_root old new e = record { root = ap (λ (s : InForce). s.root) e }

module _ (session : Session) where
  puts_root : (k : Kind) (now : Option jiff.Timestamp) (old new : InForce) (bytes : List ℕ) → NotRoot k → Puts session.crypto old bytes k now new → new.root ≡ old.root
  puts_root (kind.Root number) now old new bytes n p = absurd n
  puts_root kind.Timestamp now old new bytes n p = ap (λ (s : InForce). s.root) p.new_is
  puts_root kind.Snapshot now old new bytes n p = ap (λ (s : InForce). s.root) p.new_is
  puts_root kind.Targets now old new bytes n p = ap (λ (s : InForce). s.root) p.new_is

  seeds_root : (k : Kind) (now : Option jiff.Timestamp) (old new : State) (answer : Result Bool Error) → NotRoot k → Seeds session.crypto k now old new answer → SameRoot old new
  seeds_root k now old new answer n (unloaded e l u r) = same_root old new u.documents
  seeds_root k now old new answer n (unkept l u r) = same_root old new u.documents
  seeds_root k now old new answer n (unseeded bytes e l j u r) = same_root old new u.documents
  seeds_root k now old new answer n (equal bytes l j u r) = same_root old new u.documents
  seeds_root k now old new answer n (seeded bytes l j s r) = record { root = puts_root k now old.documents new.documents bytes n (judged_puts session.crypto old.documents bytes k now new.documents j) }

  adopts_root : (k : Kind) (old new : State) (answer : Result Bool Error) → NotRoot k → Adopts session k old new answer → SameRoot old new
  adopts_root k old new answer n (unfetched e f u r) = same_root old new u.documents
  adopts_root k old new answer n (absent f u r) = same_root old new u.documents
  adopts_root k old new answer n (refused bytes e f j u r) = same_root old new u.documents
  adopts_root k old new answer n (kept bytes f j u r) = same_root old new u.documents
  adopts_root k old new answer n (adopted bytes written f j w r) =
      record { root = puts_root k (Some session.now) old.documents new.documents bytes n (judged_puts session.crypto old.documents bytes k (Some session.now) new.documents j) }

  pub reseeds_root : (k : Kind) (old new : State) (result : Result ⊤ Error) → NotRoot k → Reseeds session k old new result → SameRoot old new
  reseeds_root k old new result n (inl (there, same, is)) = same_root old new (ap (λ (s : State). s.documents) same)
  reseeds_root k old new result n (inr (none, (answer, s, is))) = seeds_root k (moment_of k session.now) old new answer n s

  pub refetches_root : (k : Kind) (old new : State) (result : Result ⊤ Error) → NotRoot k → Refetches session k old new result → SameRoot old new
  refetches_root k old new result n (inl (current, same, is)) = same_root old new (ap (λ (s : State). s.documents) same)
  refetches_root k old new result n (inr (other, (answer, a, is))) = adopts_root k old new answer n a

  -- ---- a step that is Ok

  -- a look that is Ok
  looked : (test : InForce → Result ⊤ Error) (old new : State) → Checks test old new (Ok tt) → test new.documents ≡ Ok tt
  looked test old new c = subst (λ (s : State). test s.documents ≡ Ok tt) (sym c.same) c.passed

  root_there : (set : InForce) → root_serves_of set session.now ≡ Ok tt → Fresh (content_in set.root).expires session.now
  root_there set h = fresh_from (codes "root") (content_in set.root).expires session.now h

  abbrev pub RootFresh : State → Type 0
  RootFresh state = Fresh (content_in state.documents.root).expires session.now

  pub root_looked : (old new : State) → Checks (λ set. root_serves_of set session.now) old new (Ok tt) → RootFresh new
  root_looked old new c = root_there new.documents (looked (λ set. root_serves_of set session.now) old new c)

  pub root_stays : (old new : State) → SameRoot old new → RootFresh old → RootFresh new
  root_stays old new s f = subst (λ (d : Document declared.Root). Fresh (content_in d).expires session.now) (sym s.root) f

  pub timestamp_looked : (old new : State) → Checks (λ set. timestamp_serves_of set session.now) old new (Ok tt) → HasTimestamp session.now new.documents
  timestamp_looked old new c = timestamp_there session.now new.documents (looked (λ set. timestamp_serves_of set session.now) old new c)

  pub not_refused : {C : Type 0} {T : Type 0} (answer : Result T Error) (e : Error) → Ok tt ≡ said answer → answer ≡ Err e → C
  not_refused answer e h is = let never : ◌≡◌ {A = Result ⊤ Error} (Ok tt) (Err e) = h ∙ ap said is in cc

  -- the snapshot that is in force after its step
  pub snapshot_fetched : (old new : State) → HasTimestamp session.now old.documents → Refetches session kind.Snapshot old new (Ok tt) → HasSnapshot session.now new.documents
  snapshot_fetched old new t (inl (current, same, is)) = subst (λ (s : State). HasSnapshot session.now s.documents) (sym same) (snapshot_kept_there session.now old.documents t current)
  snapshot_fetched old new t (inr (other, (answer, unfetched e f u r, is))) = not_refused answer e is r
  snapshot_fetched old new t (inr (other, (answer, absent f u r, is))) = not_refused answer _ is r
  snapshot_fetched old new t (inr (other, (answer, refused bytes e f j u r, is))) = not_refused answer e is r
  snapshot_fetched old new t (inr (other, (answer, kept bytes f j u r, is))) = absurd (never_equal _ j)
  snapshot_fetched old new t (inr (other, (answer, adopted bytes written f j w r, is))) =
      let p = judged_puts session.crypto old.documents bytes kind.Snapshot (Some session.now) new.documents j in
      subst (HasSnapshot session.now) (sym p.new_is) (record {
        timestamp = record { held = t.held; there = t.there; fresh = t.fresh; pin = t.pin; pin_is = t.pin_is };
        held = p.held;
        there = refl;
        fresh = p.fresh;
        version_is = p.version_is ∙ ap (λ (m : MetaFile). m.version) (pin_there session.now old.documents t p.pin p.pin_is);
      })

  -- what the targets document's step leaves as it was
  pub record SameBelow (old new : InForce) : Type 0 where
    pub root : new.root ≡ old.root
    pub timestamp : new.timestamp ≡ old.timestamp
    pub snapshot : new.snapshot ≡ old.snapshot

  same_below : (old new : InForce) → new ≡ old → SameBelow old new
  same_below old new e = record { root = ap (λ (s : InForce). s.root) e; timestamp = ap (λ (s : InForce). s.timestamp) e; snapshot = ap (λ (s : InForce). s.snapshot) e }

  pub targets_fetched : (old new : State) → Refetches session kind.Targets old new (Ok tt) → HasTargets session.now new.documents × SameBelow old.documents new.documents
  targets_fetched old new (inl (current, same, is)) =
      (subst (λ (s : State). HasTargets session.now s.documents) (sym same) (targets_kept_there session.now old.documents current), same_below old.documents new.documents (ap (λ (s : State). s.documents) same))
  targets_fetched old new (inr (other, (answer, unfetched e f u r, is))) = not_refused answer e is r
  targets_fetched old new (inr (other, (answer, absent f u r, is))) = not_refused answer _ is r
  targets_fetched old new (inr (other, (answer, refused bytes e f j u r, is))) = not_refused answer e is r
  targets_fetched old new (inr (other, (answer, kept bytes f j u r, is))) = absurd (never_equal _ j)
  targets_fetched old new (inr (other, (answer, adopted bytes written f j w r, is))) =
      let p = judged_puts session.crypto old.documents bytes kind.Targets (Some session.now) new.documents j in (
        record { held = p.held; there = ap top_targets p.new_is ∙ top_inserted old.documents p.held; fresh = p.fresh },
        record { root = ap (λ (s : InForce). s.root) p.new_is; timestamp = ap (λ (s : InForce). s.timestamp) p.new_is; snapshot = ap (λ (s : InForce). s.snapshot) p.new_is },
      )

-- ---- the run

-- the run of these steps
pub record Rest (session : Session) (steps : List Step) (old new : State) (result : Result ⊤ Error) : Type 0 where
  pub runs : Runs session steps old new result

-- the first of them refuses, or the others go on
pub step_split : {session : Session} {step : Step} {steps : List Step} {old new : State} {result : Result ⊤ Error} (G : Type 0) → Rest session (step ∷ steps) old new result
    → ((e : Error) → Does session step old new (Err e) → result ≡ Err e → G) → ((mid : State) → Does session step old mid (Ok tt) → Rest session steps mid new result → G) → G
step_split {session} {step} {steps} {old} {new} {result} G r refuses goes_on = by_run r.runs
  where
    by_run : ((e : Error) × Does session step old new (Err e) × (result ≡ Err e)) ⊎ ((mid : State) × Does session step old mid (Ok tt) × Runs session steps mid new result) → G
    by_run (inl (e, d, is)) = refuses e d is
    by_run (inr (mid, d, r)) = goes_on mid d (record { runs = r })

module _ (session : Session) (new : State) where
  abbrev G : Type 0
  G = Serve session.now new.documents

  no : (step : Step) (old : State) (e : Error) → Does session step old new (Err e) → ◌≡◌ {A = Result ⊤ Error} (Ok tt) (Err e) → G
  no step old e d is = no_both tt e is

  refresh_serves : (old : State) → Rest session refresh_steps old new (Ok tt) → G
  refresh_serves old run =
      step_split G run (no WalkRoots old) (λ s1 d1 r1.
      step_split G r1 (no CheckRoot s1) (λ s2 d2 r2.
      step_split G r2 (no (Seed kind.Timestamp) s2) (λ s3 d3 r3.
      step_split G r3 (no (Seed kind.Snapshot) s3) (λ s4 d4 r4.
      step_split G r4 (no (Seed kind.Targets) s4) (λ s5 d5 r5.
      step_split G r5 (no (Fetch kind.Timestamp) s5) (λ s6 d6 r6.
      step_split G r6 (no CheckTimestamp s6) (λ s7 d7 r7.
      step_split G r7 (no (Fetch kind.Snapshot) s7) (λ s8 d8 r8.
      step_split G r8 (no CheckSnapshot s8) (λ s9 d9 r9.
      step_split G r9 (no (Fetch kind.Targets) s9) (λ s10 d10 r10.
      let fresh2 = root_looked session s1 s2 d2 in
      let fresh3 = root_stays session s2 s3 (reseeds_root session kind.Timestamp s2 s3 (Ok tt) tt d3) fresh2 in
      let fresh4 = root_stays session s3 s4 (reseeds_root session kind.Snapshot s3 s4 (Ok tt) tt d4) fresh3 in
      let fresh5 = root_stays session s4 s5 (reseeds_root session kind.Targets s4 s5 (Ok tt) tt d5) fresh4 in
      let fresh6 = root_stays session s5 s6 (refetches_root session kind.Timestamp s5 s6 (Ok tt) tt d6) fresh5 in
      let time7 = timestamp_looked session s6 s7 d7 in
      let fresh7 = subst (RootFresh session) (sym d7.same) fresh6 in
      let snap8 = snapshot_fetched session s7 s8 time7 d8 in
      let fresh8 = root_stays session s7 s8 (refetches_root session kind.Snapshot s7 s8 (Ok tt) tt d8) fresh7 in
      let snap9 = subst (λ (s : State). HasSnapshot session.now s.documents) (sym d9.same) snap8 in
      let fresh9 = subst (RootFresh session) (sym d9.same) fresh8 in
      let last = targets_fetched session s9 s10 d10 in
      let end : new ≡ s10 = r10.runs.0 in
      subst (λ (s : State). Serve session.now s.documents) (sym end) (record {
        root_fresh = subst (λ (d : Document declared.Root). Fresh (content_in d).expires session.now) (sym last.1.root) fresh9;
        timestamp = snap9.timestamp.held;
        timestamp_is = last.1.timestamp ∙ snap9.timestamp.there;
        timestamp_fresh = snap9.timestamp.fresh;
        snapshot = snap9.held;
        snapshot_is = last.1.snapshot ∙ snap9.there;
        snapshot_fresh = snap9.fresh;
        pin = snap9.timestamp.pin;
        pin_is = snap9.timestamp.pin_is;
        snapshot_version = snap9.version_is;
        targets = last.0.held;
        targets_is = last.0.there;
        targets_fresh = last.0.fresh;
      })))))))))))

pub on_refresh : (session : Session) (old new : State) (result : Result ⊤ Error) → RunsSteps session refresh_steps old new result → OnOk result (Serve session.now new.documents)
on_refresh session old new (Ok x) r = refresh_serves session new old (record { runs = r.runs })
on_refresh session old new (Err e) r = tt
