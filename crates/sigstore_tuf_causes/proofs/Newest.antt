-- After a refresh that is Ok the documents in force are the newest of a told repository.
use Rattle.std.proofs.Common.{◌≡◌, ◌⊎◌, inl, inr, ℕ, zero, suc, ◌+◌, ◌-◌, ◌^◌, ◌==◌, nat_lt, if◌then◌else◌, List, Bool, true, false, Option, Some, None, Result, Ok, Err, codes, refl, sym, ap, ◌∙◌, subst, arith}
use Rattle.std.specs.Prelude.{⊤, OnOk}
use Rattle.std.proofs.lemmas.Bool.Decides.{nat_tests}
use Rattle.foundation.specs.Watched.{Watched, IfTold}
use Rattle.foundation.specs.Results.{no_both, refused_at}
use Rattle.sigstore_tuf_text.specs.declared.error.Error.{Error}
use Rattle.sigstore_tuf_text.specs.declared.error.Error.TheVariants as tuf
use Rattle.sigstore_tuf_text.specs.declared.error.TransportFault.TheVariants as transport
use Rattle.sigstore_tuf_parts.specs.declared.root.Root as declared_root
use Rattle.sigstore_tuf_parts.specs.declared.timestamp.MetaFile.{MetaFile}
use Rattle.sigstore_tuf_parts.specs.declared.timestamp.Timestamp as declared_timestamp
use Rattle.sigstore_tuf_parts.specs.Document.{Document, content_in}
use Rattle.sigstore_tuf_text.specs.Names.{root_name, timestamp_name}
use Rattle.sigstore_tuf_parts.specs.RootRoles.{meets_role_of}
use Rattle.sigstore_tuf_parts.proofs.PinCauses.{expiry_cause}
use Rattle.sigstore_tuf_parts.proofs.RoleCauses.{role_cause}
use Rattle.sigstore_tuf_rules.specs.declared.documents.Held.{Held}
use Rattle.sigstore_tuf_rules.specs.declared.documents.InForce.{InForce}
use Rattle.sigstore_tuf_rules.specs.declared.kind.Kind.{Kind}
use Rattle.sigstore_tuf_rules.specs.declared.kind.Kind.TheVariants as kind
use Rattle.sigstore_tuf_runs.specs.declared.step.Step.{Step}
use Rattle.sigstore_tuf_runs.specs.declared.step.Step.TheVariants.{WalkRoots, CheckRoot, Seed}
use Rattle.sigstore_tuf_rules.specs.Documents.{timestamp_document, content_of, snapshot_pin}
use Rattle.sigstore_tuf_outside.specs.Repository.{Folders, Files, metadata_files}
use Rattle.sigstore_tuf_rules.specs.Names.{file_name, max_length}
use Rattle.sigstore_tuf_rules.specs.Update.{not_below_of, other_of, pins_not_below_of, newer_than_of, newer_of, timestamp_checks_of, update_timestamp_of}
use Rattle.sigstore_tuf_runs.specs.State.{Session, State}
use Rattle.sigstore_tuf_runs.specs.Adopt.{FetchesNamed, fetch_unnamed, fetch_asked, Adopts, unfetched, absent, refused, kept, adopted}
use Rattle.sigstore_tuf_rules.specs.Taking.{there_of}
use Rattle.sigstore_tuf_rules.specs.Serving.{version_in}
use Rattle.sigstore_tuf_runs.specs.Run.{IsIdle, Repeats, next_root, alone, root_loop, Refetches, Does, refresh_steps, RunsSteps}
use Rattle.sigstore_tuf_runs.specs.Newest.{IsLastRoot, HasItsTimestamp, AreNewest}
use Rattle.sigstore_tuf_rules.proofs.Updates.{Puts, judged_puts}
use Rattle.sigstore_tuf_runs.proofs.Lift.{IsAsked, AsksNoRoot, next_root_is}
use Rattle.sigstore_tuf_causes.proofs.Carrying.{fetched_had, adopt_carried, does_carried}
use Rattle.sigstore_tuf_causes.proofs.Causes.{was_equal, timestamp_reads, no_role_cause}
use Rattle.sigstore_tuf_causes.proofs.Serving.{reseeds_root, refetches_root, not_refused, Rest, step_split}

-- ---- the walk over next roots

-- what isn't there
lacked : (part : Folders → Files) (name : List ℕ) (max : ℕ) (old new : Watched Folders) → FetchesNamed part name max old new (Ok None) → IfTold old.told (λ folders. part folders name ≡ None)
lacked part name max old new (fetch_unnamed s r) = cc
lacked part name max old new (fetch_asked (Ok file) f r) = by_told old.told f.file
  where
    is : None ≡ file
    is = let same : ◌≡◌ {A = Result (Option (List ℕ)) Error} (Ok None) (Ok file) = r in cc

    by_told : (told : Option Folders) → IfTold told (λ folders. file ≡ part folders name) → IfTold told (λ folders. part folders name ≡ None)
    by_told None h = tt
    by_told (Some folders) h = sym h ∙ sym is
lacked part name max old new (fetch_asked (Err fault) f r) = cc

told_all : (P Q : Folders → Type 0) (told : Option Folders) → ((folders : Folders) → P folders → Q folders) → IfTold told P → IfTold told Q
told_all P Q None f h = tt
told_all P Q (Some folders) f h = f folders h

each_told : (P : Folders → Type 0) (told : Option Folders) → ((folders : Folders) → P folders) → IfTold told P
each_told P None f = tt
each_told P (Some folders) f = f folders

no_next : (set : InForce) → alone (next_root set) ≡ None → version_in set ≡ 2 ^ 64 - 1
no_next set h = by_test (version_in set == 2 ^ 64 - 1) refl h
  where
    same : (m n : ℕ) → (m == n) ≡ true → m ≡ n
    same m n e = grind (arith, nat_tests)

    by_test : (b : Bool) → (version_in set == 2 ^ 64 - 1) ≡ b → alone (if b then None else Some (version_in set + 1)) ≡ None → version_in set ≡ 2 ^ 64 - 1
    by_test true e h = same (version_in set) (2 ^ 64 - 1) e
    by_test false e h = cc

module _ (session : Session) where
  -- over what a repository tells
  abbrev Ends : State → InForce → Type 0
  Ends old set = IfTold old.repo.told (λ folders. IsLastRoot folders set)

  abbrev limit : Result ⊤ Error
  limit = Err (tuf.Transport (transport.Rotations session.config.max_root_rotations))

  idle_ends : (old new : State) → IsIdle (root_loop limit) tt old new (Ok tt) → Ends old new.documents
  idle_ends old new (none, same, is) = subst (λ (s : State). Ends old s.documents) (sym same) (each_told (λ folders. IsLastRoot folders old.documents) old.repo.told (λ folders. inl (no_next old.documents none)))

  stop_ends : (k : Kind) (old new : State) → k ≡ kind.Root (version_in old.documents + 1) → Adopts session k old new (Ok false) → Ends old new.documents
  stop_ends k old new is (unfetched e f u r) = cc
  stop_ends k old new is (absent f u r) =
      subst (Ends old) (sym u.documents)
      (told_all (λ folders. folders.metadata (file_name old.documents k) ≡ None) (λ folders. IsLastRoot folders old.documents) old.repo.told (λ folders h. inr (subst (λ k. folders.metadata (file_name old.documents k) ≡ None) is h))
      (lacked metadata_files (file_name old.documents k) (max_length session.config k) old.repo new.repo f))
  stop_ends k old new is (refused bytes e f j u r) = cc
  stop_ends k old new is (kept bytes f j u r) = cc
  stop_ends k old new is (adopted bytes written f j w r) = by_written written r
    where
      by_written : (written : Result ⊤ Error) → Ok false ≡ there_of written → Ends old new.documents
      by_written (Ok x) h = cc
      by_written (Err e) h = cc

  walk_ends : (n : ℕ) (old new : State) → Repeats (Adopts session) (root_loop limit) n tt old new (Ok tt) → Ends old new.documents
  walk_ends zero old new (inl i) = idle_ends old new i
  walk_ends zero old new (inr (k, (rest, next, same, is))) = no_both tt _ is
  walk_ends (suc n) old new (inl i) = idle_ends old new i
  walk_ends (suc n) old new (inr (k, (rest, next, inl s))) = stop_ends k old new (next_root_is old.documents k rest next).0 s
  walk_ends (suc n) old new (inr (k, (rest, next, inr (mid, a, r)))) =
      let is = next_root_is old.documents k rest next in
      let asked : IsAsked k old = subst (λ k. IsAsked k old) (sym is.0) (refl, is.1) in
      let c = adopt_carried session k old mid (Ok true) asked a in
      subst (λ told. IfTold told (λ folders. IsLastRoot folders new.documents)) c.since.same (walk_ends n mid new r)

  -- ---- the timestamp

  other_version : (role : List ℕ) (trusted new : ℕ) (e : Error) → other_of role trusted new ≡ Err e → trusted ≡ new
  other_version role trusted new e h = by_test (new == trusted) refl h
    where
      same : (m n : ℕ) → (m == n) ≡ true → n ≡ m
      same m n e = grind (arith, nat_tests)

      by_test : (b : Bool) → (new == trusted) ≡ b → ◌≡◌ {A = Result ⊤ Error} (if b then Err (tuf.EqualVersion role new) else Ok tt) (Err e) → trusted ≡ new
      by_test true t h = same new trusted t
      by_test false t h = cc

  -- a lower number is no equal one
  not_lower : {C : Type 0} (role : List ℕ) (trusted new : ℕ) (other : List ℕ) (version : ℕ) → not_below_of role trusted new ≡ Err (tuf.EqualVersion other version) → C
  not_lower {C = C} role trusted new other version h = by_test (nat_lt new trusted) h
    where
      by_test : (b : Bool) → ◌≡◌ {A = Result ⊤ Error} (if b then Err (tuf.Rollback role trusted new) else Ok tt) (Err (tuf.EqualVersion other version)) → C
      by_test true h = cc
      by_test false h = cc

  no_lower_pin : {C : Type 0} (old new : Option MetaFile) (role : List ℕ) (version : ℕ) → pins_not_below_of old new ≡ Err (tuf.EqualVersion role version) → C
  no_lower_pin None new role version h = cc
  no_lower_pin (Some a) None role version h = cc
  no_lower_pin (Some a) (Some b) role version h = not_lower (codes "snapshot") a.version b.version role version h

  equal_than : (old new : declared_timestamp.Timestamp) (role : List ℕ) (version : ℕ) → newer_than_of old new ≡ Err (tuf.EqualVersion role version) → old.version ≡ new.version
  unfolding newer_than_of
  equal_than old new role version h =
      refused_at (not_below_of (codes "timestamp") old.version new.version) _ (tuf.EqualVersion role version) h (λ p. not_lower (codes "timestamp") old.version new.version role version p) (λ u p k.
      refused_at (other_of (codes "timestamp") old.version new.version) _ (tuf.EqualVersion role version) k (λ q. other_version (codes "timestamp") old.version new.version (tuf.EqualVersion role version) q) (λ u q l.
      no_lower_pin (snapshot_pin old) (snapshot_pin new) role version l))

  pub record EqualTimestamp (set : InForce) (bytes : List ℕ) : Type 0 where
    pub held : Held declared_timestamp.Timestamp
    pub in_force : set.timestamp ≡ Some held
    pub doc : Document declared_timestamp.Timestamp
    pub read : timestamp_document bytes ≡ Ok doc
    pub version_is : (content_of held).version ≡ (content_in doc).version

  -- a timestamp that is kept has the version of the one that was fetched
  equal_timestamp : (set : InForce) (bytes : List ℕ) (role : List ℕ) (version : ℕ) → update_timestamp_of session.crypto set bytes (Some session.now) ≡ Err (tuf.EqualVersion role version) → EqualTimestamp set bytes
  unfolding update_timestamp_of timestamp_checks_of
  equal_timestamp set bytes role version h =
      refused_at (timestamp_document bytes) _ (tuf.EqualVersion role version) h (λ p. absurd (timestamp_reads bytes (tuf.EqualVersion role version) p)) (λ doc p k.
      refused_at (timestamp_checks_of session.crypto set doc (Some session.now)) _ (tuf.EqualVersion role version) k (λ q.
      refused_at (meets_role_of session.crypto (content_in {T = declared_root.Root} set.root) (codes "timestamp") doc) _ (tuf.EqualVersion role version) q
      (λ r. no_role_cause session.crypto (content_in {T = declared_root.Root} set.root) doc role version (role_cause session.crypto (content_in {T = declared_root.Root} set.root) (codes "timestamp") doc (tuf.EqualVersion role version) r)) (λ u r l.
      refused_at (newer_of set.timestamp (content_in {T = declared_timestamp.Timestamp} doc)) _ (tuf.EqualVersion role version) l (λ s. by_held set.timestamp refl doc p s) (λ u s m.
      let past = expiry_cause (codes "timestamp") (content_in {T = declared_timestamp.Timestamp} doc).expires session.now (tuf.EqualVersion role version) m in
      let never = past.0 in cc))) (λ u q l. cc))
    where
      by_held : (o : Option (Held declared_timestamp.Timestamp)) → set.timestamp ≡ o → (doc : Document declared_timestamp.Timestamp) → timestamp_document bytes ≡ Ok doc
          → newer_of o (content_in {T = declared_timestamp.Timestamp} doc) ≡ Err (tuf.EqualVersion role version) → EqualTimestamp set bytes
      by_held None e doc p s = cc
      by_held (Some held) e doc p s = record { held = held; in_force = e; doc = doc; read = p; version_is = equal_than (content_of held) (content_in {T = declared_timestamp.Timestamp} doc) role version s }

  abbrev Has : State → InForce → Type 0
  Has old set = IfTold old.repo.told (λ folders. HasItsTimestamp folders set)

  fetched_newest : (old new : State) → Refetches session kind.Timestamp old new (Ok tt) → Has old new.documents
  fetched_newest old new (inl (current, same, is)) = cc
  fetched_newest old new (inr (other, (answer, unfetched e f u r, is))) = not_refused session answer e is r
  fetched_newest old new (inr (other, (answer, absent f u r, is))) = not_refused session answer _ is r
  fetched_newest old new (inr (other, (answer, refused bytes e f j u r, is))) = not_refused session answer e is r
  fetched_newest old new (inr (other, (answer, kept bytes f j u r, is))) =
      let e = was_equal (update_timestamp_of session.crypto old.documents bytes (Some session.now)) j in
      let t = equal_timestamp old.documents bytes e.0 e.1.0 e.1.1 in
      subst (Has old) (sym u.documents)
      (told_all (λ folders. folders.metadata timestamp_name ≡ Some bytes) (λ folders. HasItsTimestamp folders old.documents) old.repo.told
      (λ folders there. record { held = t.held; in_force = t.in_force; bytes = bytes; there = there; doc = t.doc; read = t.read; version_is = t.version_is })
      (fetched_had metadata_files timestamp_name session.config.timestamp_max_length old.repo new.repo bytes f))
  fetched_newest old new (inr (other, (answer, adopted bytes written f j w r, is))) =
      let p = judged_puts session.crypto old.documents bytes kind.Timestamp (Some session.now) new.documents j in
      told_all (λ folders. folders.metadata timestamp_name ≡ Some bytes) (λ folders. HasItsTimestamp folders new.documents) old.repo.told
      (λ folders there. record {
        held = p.held;
        in_force = ap (λ (s : InForce). s.timestamp) p.new_is;
        bytes = bytes;
        there = there;
        doc = p.held.document;
        read = subst (λ b. timestamp_document b ≡ Ok p.held.document) p.bytes_is p.signed.read;
        version_is = refl;
      })
      (fetched_had metadata_files timestamp_name session.config.timestamp_max_length old.repo new.repo bytes f)

  -- ---- what later steps leave

  abbrev IsBelowTimestamp : Kind → Type 0
  IsBelowTimestamp (kind.Root number) = ⊥
  IsBelowTimestamp kind.Timestamp = ⊥
  IsBelowTimestamp kind.Snapshot = ⊤
  IsBelowTimestamp kind.Targets = ⊤

  -- root and timestamp stay
  record SameAbove (old new : InForce) : Type 0 where
    root : new.root ≡ old.root
    timestamp : new.timestamp ≡ old.timestamp

  same_above : (old new : InForce) → new ≡ old → SameAbove old new
  same_above old new e = record { root = ap (λ (s : InForce). s.root) e; timestamp = ap (λ (s : InForce). s.timestamp) e }

  puts_above : (k : Kind) (old new : InForce) (bytes : List ℕ) → IsBelowTimestamp k → Puts session.crypto old bytes k (Some session.now) new → SameAbove old new
  puts_above (kind.Root number) old new bytes n p = absurd n
  puts_above kind.Timestamp old new bytes n p = absurd n
  puts_above kind.Snapshot old new bytes n p = record { root = ap (λ (s : InForce). s.root) p.new_is; timestamp = ap (λ (s : InForce). s.timestamp) p.new_is }
  puts_above kind.Targets old new bytes n p = record { root = ap (λ (s : InForce). s.root) p.new_is; timestamp = ap (λ (s : InForce). s.timestamp) p.new_is }

  adopts_above : (k : Kind) (old new : State) (answer : Result Bool Error) → IsBelowTimestamp k → Adopts session k old new answer → SameAbove old.documents new.documents
  adopts_above k old new answer n (unfetched e f u r) = same_above old.documents new.documents u.documents
  adopts_above k old new answer n (absent f u r) = same_above old.documents new.documents u.documents
  adopts_above k old new answer n (refused bytes e f j u r) = same_above old.documents new.documents u.documents
  adopts_above k old new answer n (kept bytes f j u r) = same_above old.documents new.documents u.documents
  adopts_above k old new answer n (adopted bytes written f j w r) = puts_above k old.documents new.documents bytes n (judged_puts session.crypto old.documents bytes k (Some session.now) new.documents j)

  refetches_above : (k : Kind) (old new : State) → IsBelowTimestamp k → Refetches session k old new (Ok tt) → SameAbove old.documents new.documents
  refetches_above k old new n (inl (current, same, is)) = same_above old.documents new.documents (ap (λ (s : State). s.documents) same)
  refetches_above k old new n (inr (other, (answer, a, is))) = adopts_above k old new answer n a

  root_last : (a b : State) (told : Option Folders) → b.documents.root ≡ a.documents.root → IfTold told (λ folders. IsLastRoot folders a.documents) → IfTold told (λ folders. IsLastRoot folders b.documents)
  root_last a b told e h =
      subst (λ (r : Document declared_root.Root). IfTold told (λ folders. ((content_in r).version ≡ 2 ^ 64 - 1) ⊎ (folders.metadata (root_name ((content_in r).version + 1)) ≡ None))) (sym e) h

  newest : (a b : State) (told : Option Folders) → SameAbove a.documents b.documents → IfTold told (λ folders. IsLastRoot folders a.documents) → IfTold told (λ folders. HasItsTimestamp folders a.documents)
      → IfTold told (λ folders. AreNewest folders b.documents)
  newest a b None s r t = tt
  newest a b (Some folders) s r t = record {
    root = root_last a b (Some folders) s.root r;
    timestamp = record { held = t.held; in_force = s.timestamp ∙ t.in_force; bytes = t.bytes; there = t.there; doc = t.doc; read = t.read; version_is = t.version_is };
  }

  -- the repository tells the same after a step
  tells : (step : Step) (old new : State) → AsksNoRoot step → Does session step old new (Ok tt) → new.repo.told ≡ old.repo.told
  tells step old new asks d = (does_carried session step old new (Ok tt) asks d).since.same

  module _ (new : State) where
    abbrev G : Option Folders → Type 0
    G told = IfTold told (λ folders. AreNewest folders new.documents)

    refresh_newest : (old : State) → Rest session refresh_steps old new (Ok tt) → G old.repo.told
    refresh_newest old run =
        step_split G' run (λ e d is. no_both tt e is) (λ s1 d1 r1.
        step_split G' r1 (λ e d is. no_both tt e is) (λ s2 d2 r2.
        step_split G' r2 (λ e d is. no_both tt e is) (λ s3 d3 r3.
        step_split G' r3 (λ e d is. no_both tt e is) (λ s4 d4 r4.
        step_split G' r4 (λ e d is. no_both tt e is) (λ s5 d5 r5.
        step_split G' r5 (λ e d is. no_both tt e is) (λ s6 d6 r6.
        step_split G' r6 (λ e d is. no_both tt e is) (λ s7 d7 r7.
        step_split G' r7 (λ e d is. no_both tt e is) (λ s8 d8 r8.
        step_split G' r8 (λ e d is. no_both tt e is) (λ s9 d9 r9.
        step_split G' r9 (λ e d is. no_both tt e is) (λ s10 d10 r10.
        let root1 = walk_ends session.config.max_root_rotations old s1 d1 in
        let root2 = root_last s1 s2 old.repo.told (ap (λ (s : State). s.documents.root) d2.same) root1 in
        let root3 = root_last s2 s3 old.repo.told (reseeds_root session kind.Timestamp s2 s3 (Ok tt) tt d3).root root2 in
        let root4 = root_last s3 s4 old.repo.told (reseeds_root session kind.Snapshot s3 s4 (Ok tt) tt d4).root root3 in
        let root5 = root_last s4 s5 old.repo.told (reseeds_root session kind.Targets s4 s5 (Ok tt) tt d5).root root4 in
        let root6 = root_last s5 s6 old.repo.told (refetches_root session kind.Timestamp s5 s6 (Ok tt) tt d6).root root5 in
        let told : s5.repo.told ≡ old.repo.told =
        tells (Seed kind.Targets) s4 s5 tt d5 ∙ (tells (Seed kind.Snapshot) s3 s4 tt d4 ∙ (tells (Seed kind.Timestamp) s2 s3 tt d3 ∙ (tells CheckRoot s1 s2 tt d2 ∙ tells WalkRoots old s1 tt d1))) in
        let time6 = subst (λ t. IfTold t (λ folders. HasItsTimestamp folders s6.documents)) told (fetched_newest s5 s6 d6) in
        let above7 = same_above s6.documents s7.documents (ap (λ (s : State). s.documents) d7.same) in
        let above8 = refetches_above kind.Snapshot s7 s8 tt d8 in
        let above9 = same_above s8.documents s9.documents (ap (λ (s : State). s.documents) d9.same) in
        let above10 = refetches_above kind.Targets s9 s10 tt d10 in
        let end : new ≡ s10 = r10.runs.0 in
        newest s6 new old.repo.told (record {
          root = ap (λ (s : State). s.documents.root) end ∙ (above10.root ∙ (above9.root ∙ (above8.root ∙ above7.root)));
          timestamp = ap (λ (s : State). s.documents.timestamp) end ∙ (above10.timestamp ∙ (above9.timestamp ∙ (above8.timestamp ∙ above7.timestamp)));
        }) root6 time6))))))))))
      where
        G' : Type 0
        G' = G old.repo.told

pub on_refresh_newest : (session : Session) (old new : State) (result : Result ⊤ Error) → RunsSteps session refresh_steps old new result → OnOk result (IfTold old.repo.told (λ folders. AreNewest folders new.documents))
on_refresh_newest session old new (Ok x) r = refresh_newest session new old (record { runs = r.runs })
on_refresh_newest session old new (Err e) r = tt
