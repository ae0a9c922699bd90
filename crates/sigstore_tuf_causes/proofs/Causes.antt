-- Each refusal of a refresh has its cause.
use Rattle.std.proofs.Common.{◌≡◌, ◌≢◌, ◌⊎◌, inl, inr, ℕ, zero, suc, ◌+◌, ◌-◌, ◌^◌, ◌≤◌, List, [], ◌∷◌, length, Bool, true, Option, Some, None, Result, Ok, Err, codes, refl, sym, ap, ◌∙◌, subst, arith}
use Rattle.std.specs.Prelude.{⊤, ok_or, IfErr}
use Rattle.std.specs.List.{last_or}
use Rattle.jiff_core.specs.declared.timestamp.Timestamp as jiff
use Rattle.foundation.specs.Watched.{Watched, Rose, IfTold, Since}
use Rattle.foundation.specs.Results.{step_ok, err_same, some_same, no_both, refused_at}
use Rattle.sigstore_keys.specs.Crypto.{Crypto}
use Rattle.sigstore_tuf_text.specs.declared.error.Error.{Error}
use Rattle.sigstore_tuf_text.specs.declared.error.Error.TheVariants as tuf
use Rattle.sigstore_tuf_text.specs.declared.error.Rule.TheVariants as rule
use Rattle.sigstore_tuf_text.specs.declared.error.TransportFault.{TransportFault}
use Rattle.sigstore_tuf_text.specs.declared.error.TransportFault.TheVariants as transport
use Rattle.sigstore_tuf_parts.specs.declared.root.Root as declared_root
use Rattle.sigstore_tuf_parts.specs.declared.snapshot.Snapshot as declared_snapshot
use Rattle.sigstore_tuf_parts.specs.declared.timestamp.MetaFile.{MetaFile}
use Rattle.sigstore_tuf_parts.specs.declared.timestamp.Timestamp as declared_timestamp
use Rattle.sigstore_tuf_parts.specs.Document.{Document, content_in}
use Rattle.sigstore_tuf_parts.specs.Integrity.{fresh_of}
use Rattle.sigstore_tuf_parts.specs.RootRoles.{meets_role_of}
use Rattle.sigstore_tuf_parts.specs.Timestamp.{timestamp_of}
use Rattle.sigstore_tuf_parts.proofs.IntegrityLaws.{fresh_exactly}
use Rattle.sigstore_tuf_parts.proofs.PinCauses.{expiry_cause}
use Rattle.sigstore_tuf_parts.proofs.ReadingCauses.{read_cause, timestamp_only}
use Rattle.sigstore_tuf_parts.proofs.RoleCauses.{role_cause}
use Rattle.sigstore_tuf_parts.specs.Laws.{ReadsWithCause}
use Rattle.sigstore_tuf_parts.specs.Cause.{RoleCause}
use Rattle.sigstore_tuf_rules.specs.declared.documents.Held.{Held}
use Rattle.sigstore_tuf_rules.specs.declared.documents.InForce.{InForce}
use Rattle.sigstore_tuf_rules.specs.declared.kind.Kind.{Kind}
use Rattle.sigstore_tuf_rules.specs.declared.kind.Kind.TheVariants as kind
use Rattle.sigstore_tuf_outside.specs.declared.repository.FetchFault.TheVariants as fetch
use Rattle.sigstore_tuf_runs.specs.declared.step.Step.{Step}
use Rattle.sigstore_tuf_runs.specs.declared.step.Step.TheVariants.{WalkRoots, CheckRoot, Seed, Fetch, CheckTimestamp, CheckSnapshot}
use Rattle.sigstore_tuf_rules.specs.Documents.{timestamp_document, content_of, snapshot_pin, targets_pin}
use Rattle.sigstore_tuf_outside.specs.Repository.{Folders, Files, metadata_files}
use Rattle.sigstore_tuf_rules.specs.Names.{file_name, max_length}
use Rattle.sigstore_tuf_rules.specs.Update.{fresh_at_of, newer_of, timestamp_checks_of, update_timestamp_of, targets_pin_of}
use Rattle.sigstore_tuf_runs.specs.State.{Session, State}
use Rattle.sigstore_tuf_rules.specs.Taking.{unless_equal, there_of}
use Rattle.sigstore_tuf_runs.specs.Adopt.{FetchesNamed, FetchesDocument, fetch_unnamed, fetch_asked, absence_of, Adopts, unfetched, absent, refused, kept, adopted}
use Rattle.sigstore_tuf_rules.specs.Serving.{version_in, root_serves_of, timestamp_serves_of, snapshot_serves_of}
use Rattle.sigstore_tuf_runs.specs.Run.{said, Stops, next_root, alone, WalksRoots, Checks, Refetches, Does, refresh_steps, RunsSteps}
use Rattle.sigstore_tuf_rules.specs.Trusted.{BeginsWith}
use Rattle.sigstore_tuf_rules.specs.Authorised.{AreAuthorised, given_in}
use Rattle.sigstore_tuf_runs.specs.Cause as cause
use Rattle.sigstore_tuf_runs.specs.Cause.{Has, IsInForce, Had, in_force, WasHad, HasTimestamp, HasSnapshot, IsBefore, PinsTargets, Refusal, TransportCause, MayNotLack, RefreshCause, rotated, root_expired, snapshot_unpinned, kept_expired, targets_unpinned, wanting}
use Rattle.sigstore_tuf_rules.proofs.Updates.{ok_some, judged_puts}
use Rattle.sigstore_tuf_causes.proofs.Staying.{does_stays}
use Rattle.sigstore_tuf_causes.proofs.Holding.{stays_whole}
use Rattle.sigstore_tuf_runs.proofs.Lift.{IsAsked, AsksNoRoot, next_root_is}
use Rattle.sigstore_tuf_runs.proofs.Steps.{keeps_want, reseeds_want, adopt_rises}
use Rattle.sigstore_tuf_causes.proofs.Carrying.{fetched_had, Carried, carried_joins, carried_stays, adopt_carried, does_carried}
use Rattle.sigstore_tuf_causes.proofs.Refusals.{missing, IsPinningTargets, refusal_cause}
use Rattle.sigstore_tuf_causes.proofs.Serving.{RootFresh, root_looked, root_stays, reseeds_root, refetches_root, timestamp_looked, snapshot_fetched, Rest, step_split}

-- ---- want of memory

pub is_want : (e : Error) → (e ≡ tuf.NoMemory) ⊎ (e ≢ tuf.NoMemory)
is_want tuf.NoMemory = inl refl
is_want tuf.Json = inr (λ h. cc)
is_want (tuf.Malformed rule) = inr (λ h. cc)
is_want tuf.NonIntegerNumber = inr (λ h. cc)
is_want (tuf.UnusableKey id) = inr (λ h. cc)
is_want (tuf.UnsupportedScheme keytype scheme) = inr (λ h. cc)
is_want (tuf.UnknownRole name) = inr (λ h. cc)
is_want (tuf.DuplicateSignature role id) = inr (λ h. cc)
is_want (tuf.ThresholdNotMet role found threshold) = inr (λ h. cc)
is_want (tuf.Rollback role trusted number) = inr (λ h. cc)
is_want (tuf.EqualVersion role number) = inr (λ h. cc)
is_want (tuf.BadRootVersion trusted number) = inr (λ h. cc)
is_want (tuf.Expired role expires) = inr (λ h. cc)
is_want (tuf.IntegrityMismatch difference) = inr (λ h. cc)
is_want tuf.Crypto = inr (λ h. cc)
is_want tuf.NotRefreshed = inr (λ h. cc)
is_want (tuf.TargetNotFound path) = inr (λ h. cc)
is_want (tuf.Transport fault) = inr (λ h. cc)

rose_earlier : (a b c : ℕ) → a ≤ b → Rose b c → Rose a c
rose_earlier a b c p h = omega arith

-- a timestamp of the trusted version has one beside it
pub was_equal : (r : Result InForce Error) → unless_equal r ≡ Ok None → (role : List ℕ) × ((version : ℕ) × (r ≡ Err (tuf.EqualVersion role version)))
was_equal (Ok set) h = cc
was_equal (Err (tuf.EqualVersion role version)) h = (role, (version, refl))
was_equal (Err tuf.NoMemory) h = cc
was_equal (Err tuf.Json) h = cc
was_equal (Err (tuf.Malformed rule)) h = cc
was_equal (Err tuf.NonIntegerNumber) h = cc
was_equal (Err (tuf.UnusableKey id)) h = cc
was_equal (Err (tuf.UnsupportedScheme keytype scheme)) h = cc
was_equal (Err (tuf.UnknownRole name)) h = cc
was_equal (Err (tuf.DuplicateSignature role id)) h = cc
was_equal (Err (tuf.ThresholdNotMet role found threshold)) h = cc
was_equal (Err (tuf.Rollback role trusted number)) h = cc
was_equal (Err (tuf.BadRootVersion trusted number)) h = cc
was_equal (Err (tuf.Expired role expires)) h = cc
was_equal (Err (tuf.IntegrityMismatch difference)) h = cc
was_equal (Err tuf.Crypto) h = cc
was_equal (Err tuf.NotRefreshed) h = cc
was_equal (Err (tuf.TargetNotFound path)) h = cc
was_equal (Err (tuf.Transport fault)) h = cc

pub timestamp_reads : ReadsWithCause (codes "timestamp") timestamp_of
timestamp_reads = read_cause (codes "timestamp") timestamp_of timestamp_only

pub no_role_cause : {C : Type 0} {T : Type 0} (crypto : Crypto) (root : declared_root.Root) (doc : Document T) (role : List ℕ) (version : ℕ) → RoleCause crypto root (codes "timestamp") doc (tuf.EqualVersion role version) → C
no_role_cause crypto root doc role version (inl u) = let never = u.0 in cc
no_role_cause crypto root doc role version (inr u) = absurd u.cause

equal_held : (crypto : Crypto) (set : InForce) (bytes : List ℕ) (now : jiff.Timestamp) (role : List ℕ) (version : ℕ) → update_timestamp_of crypto set bytes (Some now) ≡ Err (tuf.EqualVersion role version)
    → (held : Held declared_timestamp.Timestamp) × (set.timestamp ≡ Some held)
unfolding update_timestamp_of timestamp_checks_of
equal_held crypto set bytes now role version h =
    refused_at (timestamp_document bytes) _ (tuf.EqualVersion role version) h (λ p. absurd (timestamp_reads bytes (tuf.EqualVersion role version) p)) (λ doc p k.
    refused_at (timestamp_checks_of crypto set doc (Some now)) _ (tuf.EqualVersion role version) k (λ q.
    refused_at (meets_role_of crypto (content_in {T = declared_root.Root} set.root) (codes "timestamp") doc) _ (tuf.EqualVersion role version) q
    (λ r. no_role_cause crypto (content_in {T = declared_root.Root} set.root) doc role version (role_cause crypto (content_in {T = declared_root.Root} set.root) (codes "timestamp") doc (tuf.EqualVersion role version) r)) (λ u r l.
    refused_at (newer_of set.timestamp (content_in {T = declared_timestamp.Timestamp} doc)) _ (tuf.EqualVersion role version) l (λ s. by_held set.timestamp refl (content_in {T = declared_timestamp.Timestamp} doc) s) (λ u s m.
    let past = expiry_cause (codes "timestamp") (content_in {T = declared_timestamp.Timestamp} doc).expires now (tuf.EqualVersion role version) m in
    let never = past.0 in cc))) (λ u q l. cc))
  where
    by_held : (o : Option (Held declared_timestamp.Timestamp)) → set.timestamp ≡ o → (d : declared_timestamp.Timestamp) → newer_of o d ≡ Err (tuf.EqualVersion role version) → (held : Held declared_timestamp.Timestamp) × (set.timestamp ≡ Some held)
    by_held None e d s = cc
    by_held (Some held) e d s = (held, e)

module _ (session : Session) where
  -- ---- the cause, of what was had earlier

  had_earlier : (a b c : State) (k : Kind) → Carried a b → WasHad b c k → WasHad a c k
  had_earlier a b c k p (bytes, i, h) = (bytes, i, p.had k bytes h)

  pub transport_earlier : (part : Folders → Files) (name : List ℕ) (max : ℕ) (a b c : Watched Folders) (fault : TransportFault) → Since a b → TransportCause part name max b c fault → TransportCause part name max a c fault
  transport_earlier part name max a b c transport.Failed s h = rose_earlier a.faults b.faults c.faults s.later h
  transport_earlier part name max a b c transport.Absent s h = subst (λ told. IfTold told (λ folders. part folders name ≡ None)) s.same h
  transport_earlier part name max a b c (transport.TooLong limit seen) s h =
      (h.0, h.1, subst (λ told. IfTold told (λ folders. (bytes : List ℕ) × (part folders name ≡ Some bytes) × (seen ≡ length bytes))) s.same h.2)
  transport_earlier part name max a b c (transport.Rotations limit) s h = h

  has_earlier : (part : Folders → Files) (name bytes : List ℕ) (a b : State) → Carried a b → Has part b.repo name bytes → Has part a.repo name bytes
  has_earlier part name bytes a b p h = subst (λ told. IfTold told (λ folders. part folders name ≡ Some bytes)) p.since.same h

  pub earlier : (a b c : State) (e : Error) → Carried a b → RefreshCause session b c e → RefreshCause session a c e
  earlier a b c e p (cause.refused k bytes h before r) = cause.refused k bytes (has_earlier metadata_files (file_name c.documents k) bytes a b p h) before r
  earlier a b c e p (cause.unfetched k fault before t m is) =
      cause.unfetched k fault before (transport_earlier metadata_files (file_name c.documents k) (max_length session.config k) a.repo b.repo c.repo fault p.since t) m is
  earlier a b c e p (rotated is most more) = rotated is (let r = p.rises in omega arith) more
  earlier a b c e p (root_expired h x) = root_expired (had_earlier a b c _ p h) x
  earlier a b c e p (snapshot_unpinned held h before at none is) = snapshot_unpinned held (had_earlier a b c _ p h) before at none is
  earlier a b c e p (kept_expired held h before at x) = kept_expired held (had_earlier a b c _ p h) before at x
  earlier a b c e p (targets_unpinned held h before at none is) = targets_unpinned held (had_earlier a b c _ p h) before at none is
  earlier a b c e p (wanting is) = wanting is

  -- ---- one adoption

  at_answer : (old new : State) (answer other : Result Bool Error) → answer ≡ other → IfErr (said other) (RefreshCause session old new) → IfErr (said answer) (RefreshCause session old new)
  at_answer old new answer other e h = subst (λ answer. IfErr (said answer) (RefreshCause session old new)) (sym e) h

  not_absent : (k : Kind) (fault : TransportFault) → fault ≢ transport.Absent → MayNotLack k fault
  not_absent (kind.Root number) fault h = h
  not_absent kind.Timestamp fault h = tt
  not_absent kind.Snapshot fault h = tt
  not_absent kind.Targets fault h = tt

  fault_cause : (k : Kind) (old new : State) (e : Error) → IsBefore k session.now new.documents → FetchesNamed metadata_files (file_name new.documents k) (max_length session.config k) old.repo new.repo (Err e) → RefreshCause session old new e
  fault_cause k old new e before (fetch_unnamed s r) = wanting (err_same e tuf.NoMemory r)
  fault_cause k old new e before (fetch_asked (Ok file) f r) = cc
  fault_cause k old new e before (fetch_asked (Err fetch.Failed) f r) = cause.unfetched k transport.Failed before f.failed (not_absent k transport.Failed (λ h. cc)) (err_same e _ r)
  fault_cause k old new e before (fetch_asked (Err (fetch.TooLong seen)) f r) =
      cause.unfetched k (transport.TooLong (max_length session.config k) seen) before (refl, f.limit, f.file) (not_absent k _ (λ h. cc)) (err_same e _ r)
  fault_cause k old new e before (fetch_asked (Err fetch.NoMemory) f r) = wanting (err_same e tuf.NoMemory r)

  lacking : (k : Kind) (old new : State) → FetchesNamed metadata_files (file_name new.documents k) (max_length session.config k) old.repo new.repo (Ok None) → TransportCause metadata_files (file_name new.documents k) (max_length session.config k) old.repo new.repo transport.Absent
  lacking k old new (fetch_unnamed s r) = cc
  lacking k old new (fetch_asked (Ok file) f r) = by_told old.repo.told f.file
    where
      is : None ≡ file
      is = let same : ◌≡◌ {A = Result (Option (List ℕ)) Error} (Ok None) (Ok file) = r in cc

      by_told : (told : Option Folders) → IfTold told (λ folders. file ≡ metadata_files folders (file_name new.documents k)) → IfTold told (λ folders. metadata_files folders (file_name new.documents k) ≡ None)
      by_told None h = tt
      by_told (Some folders) h = sym h ∙ sym is
  lacking k old new (fetch_asked (Err fault) f r) = cc

  absence_cause : (k : Kind) (old new : State) → IsBefore k session.now new.documents → FetchesNamed metadata_files (file_name new.documents k) (max_length session.config k) old.repo new.repo (Ok None) → IfErr (said (absence_of k)) (RefreshCause session old new)
  absence_cause (kind.Root number) old new before f = tt
  absence_cause kind.Timestamp old new before f = cause.unfetched kind.Timestamp transport.Absent before (lacking kind.Timestamp old new f) tt refl
  absence_cause kind.Snapshot old new before f = cause.unfetched kind.Snapshot transport.Absent before (lacking kind.Snapshot old new f) tt refl
  absence_cause kind.Targets old new before f = cause.unfetched kind.Targets transport.Absent before (lacking kind.Targets old new f) tt refl

  by_want : (old new : State) (e : Error) → (e ≢ tuf.NoMemory → RefreshCause session old new e) → RefreshCause session old new e
  by_want old new e f = by_either (is_want e)
    where
      by_either : (e ≡ tuf.NoMemory) ⊎ (e ≢ tuf.NoMemory) → RefreshCause session old new e
      by_either (inl is) = wanting is
      by_either (inr other) = f other

  -- the name is that by the documents in force at the end
  fetched_then : (k : Kind) (old new : State) (file : Result (Option (List ℕ)) Error) → new.documents ≡ old.documents → FetchesDocument session old.documents k old.repo new.repo file
      → FetchesNamed metadata_files (file_name new.documents k) (max_length session.config k) old.repo new.repo file
  fetched_then k old new file same f = subst (λ set. FetchesNamed metadata_files (file_name set k) (max_length session.config k) old.repo new.repo file) (sym same) f

  pub adopt_cause : (k : Kind) (old new : State) (answer : Result Bool Error) → IsBefore k session.now old.documents → IsPinningTargets k session.now old.documents → Adopts session k old new answer → IfErr (said answer) (RefreshCause session old new)
  adopt_cause k old new answer before pins (unfetched e f u r) = at_answer old new answer (Err e) r (fault_cause k old new e (subst (IsBefore k session.now) (sym u.documents) before) (fetched_then k old new (Err e) u.documents f))
  adopt_cause k old new answer before pins (absent f u r) = at_answer old new answer (absence_of k) r (absence_cause k old new (subst (IsBefore k session.now) (sym u.documents) before) (fetched_then k old new (Ok None) u.documents f))
  adopt_cause k old new answer before pins (refused bytes e f j u r) =
      at_answer old new answer (Err e) r (by_want old new e (λ other. cause.refused k bytes (fetched_had metadata_files (file_name new.documents k) (max_length session.config k) old.repo new.repo bytes (fetched_then k old new (Ok (Some bytes)) u.documents f))
      (subst (IsBefore k session.now) (sym u.documents) before)
      (subst (λ set. Refusal session.crypto session.now set k bytes e) (sym u.documents) (refusal_cause session.crypto session.now old.documents k bytes e before pins (j other)))))
  adopt_cause k old new answer before pins (kept bytes f j u r) = at_answer old new answer (Ok true) r tt
  adopt_cause k old new answer before pins (adopted bytes written f j w r) = at_answer old new answer (there_of written) r (by_written written (keeps_want new.documents k bytes old.store new.store written w))
    where
      by_written : (written : Result ⊤ Error) → IfErr written (λ e. e ≡ tuf.NoMemory) → IfErr (said (there_of written)) (RefreshCause session old new)
      by_written (Ok x) h = tt
      by_written (Err e) h = wanting h

  -- ---- the walk over next roots

  -- the refusal has a cause, or so many roots were adopted and there is another number
  pub data WalkCause (n : ℕ) (old new : State) (e : Error) : Type 0 where
    walk_caused : RefreshCause session old new e → WalkCause n old new e
    walk_ended : e ≡ tuf.Transport (transport.Rotations session.config.max_root_rotations) → version_in old.documents + n ≤ version_in new.documents → version_in new.documents ≢ 2 ^ 64 - 1 → WalkCause n old new e

  asked_before : (k : Kind) (rest : ⊤) (old : State) → alone (next_root old.documents) ≡ Some (k, rest) → IsBefore k session.now old.documents × IsPinningTargets k session.now old.documents × IsAsked k old
  asked_before k rest old next =
      let is = next_root_is old.documents k rest next in
      subst (λ k. IsBefore k session.now old.documents × IsPinningTargets k session.now old.documents × IsAsked k old) (sym is.0) ((refl, is.1), tt, (refl, is.1))

  root_adopted : (k : Kind) (rest : ⊤) (old mid : State) → alone (next_root old.documents) ≡ Some (k, rest) → Adopts session k old mid (Ok true) → version_in mid.documents ≡ version_in old.documents + 1
  root_adopted k rest old mid next a = let is = next_root_is old.documents k rest next in adopt_rises session (version_in old.documents + 1) old mid (subst (λ k. Adopts session k old mid (Ok true)) is.0 a)

  stopped_cause : (n : ℕ) (k : Kind) (rest : ⊤) (old new : State) (result : Result ⊤ Error) → alone (next_root old.documents) ≡ Some (k, rest) → Stops (Adopts session) k old new result → IfErr result (WalkCause n old new)
  stopped_cause n k rest old new (Ok x) next s = tt
  stopped_cause n k rest old new (Err e) next s = let b = asked_before k rest old next in walk_caused (adopt_cause k old new (Err e) b.0 b.1 s)

  pub walk_cause : (n : ℕ) (old new : State) (result : Result ⊤ Error) → WalksRoots session n old new result → IfErr result (WalkCause n old new)
  walk_cause zero old new result (inl (none, same, is)) = subst (λ r. IfErr r (WalkCause zero old new)) (sym is) tt
  walk_cause (suc n) old new result (inl (none, same, is)) = subst (λ r. IfErr r (WalkCause (suc n) old new)) (sym is) tt
  walk_cause zero old new result (inr (k, (rest, next, same, is))) =
      let at = next_root_is old.documents k rest next in
      let here = ap (λ (s : State). version_in s.documents) same in
      subst (λ r. IfErr r (WalkCause zero old new)) (sym is) (walk_ended refl (omega (arith, here)) (λ h. at.1 (sym here ∙ h)))
  walk_cause (suc n) old new result (inr (k, (rest, next, inl s))) = stopped_cause (suc n) k rest old new result next s
  walk_cause (suc n) old new result (inr (k, (rest, next, inr (mid, a, r)))) = by_result result (walk_cause n mid new result r)
    where
      by_cause : (e : Error) → WalkCause n mid new e → WalkCause (suc n) old new e
      by_cause e (walk_caused c) = walk_caused (earlier old mid new e (adopt_carried session k old mid (Ok true) (asked_before k rest old next).2 a) c)
      by_cause e (walk_ended is most more) = walk_ended is (let up = root_adopted k rest old mid next a in omega (arith, up, most)) more

      by_result : (result : Result ⊤ Error) → IfErr result (WalkCause n mid new) → IfErr result (WalkCause (suc n) old new)
      by_result (Ok x) h = tt
      by_result (Err e) h = by_cause e h

  pub walked_cause : (old new : State) (e : Error) → WalksRoots session session.config.max_root_rotations old new (Err e) → RefreshCause session old new e
  walked_cause old new e w = by_cause (walk_cause session.config.max_root_rotations old new (Err e) w)
    where
      by_cause : WalkCause session.config.max_root_rotations old new e → RefreshCause session old new e
      by_cause (walk_caused c) = c
      by_cause (walk_ended is most more) = rotated is most more

  -- ---- a look at what is in force

  looked_cause : (test : InForce → Result ⊤ Error) (old new : State) (e : Error) → Checks test old new (Err e) → (test old.documents ≡ Err e → RefreshCause session old old e) → RefreshCause session old new e
  looked_cause test old new e c f = by_want old new e (λ other. subst (λ new. RefreshCause session old new e) (sym c.same) (f (c.refused other)))

  last_there : (given : List ℕ) (roots : List (List ℕ)) → BeginsWith given roots → (bytes : List ℕ) × (last_or None roots ≡ Some bytes)
  last_there given [] h = absurd h
  last_there given (x ∷ xs) h = from x xs
    where
      from : (x : List ℕ) (xs : List (List ℕ)) → (bytes : List ℕ) × (last_or (Some x) xs ≡ Some bytes)
      from x [] = (x, refl)
      from x (y ∷ ys) = from y ys

  root_had : (state : State) → AreAuthorised session.crypto (given_in state.documents) state.documents → WasHad state state (kind.Root (version_in state.documents))
  root_had state k = let last = last_there (given_in state.documents) state.documents.roots k.roots.begins in (last.0, (last.1, refl), in_force (last.1, refl))

  root_cause : (state : State) (e : Error) → AreAuthorised session.crypto (given_in state.documents) state.documents → root_serves_of state.documents session.now ≡ Err e → RefreshCause session state state e
  root_cause state e k h = root_expired (root_had state k) (expiry_cause (codes "root") (content_in {T = declared_root.Root} state.documents.root).expires session.now e h)

  timestamp_had : (state : State) (held : Held declared_timestamp.Timestamp) → state.documents.timestamp ≡ Some held → WasHad state state kind.Timestamp
  timestamp_had state held is = let there = ap (λ o. held_bytes o) is in (held.bytes, there, in_force there)
    where
      held_bytes : Option (Held declared_timestamp.Timestamp) → Option (List ℕ)
      held_bytes None = None
      held_bytes (Some held) = Some held.bytes

  timestamp_cause : (state : State) (e : Error) (held : Held declared_timestamp.Timestamp) → state.documents.timestamp ≡ Some held → RootFresh session state → timestamp_serves_of state.documents session.now ≡ Err e → RefreshCause session state state e
  unfolding timestamp_serves_of
  timestamp_cause state e held is fresh h =
      let had = timestamp_had state held is in
      refused_at (ok_or state.documents.timestamp (tuf.Malformed rule.NoTimestamp)) _ e h (λ q. missing state.documents.timestamp _ e q (λ none same. let never : None ≡ Some held = sym none ∙ is in cc)) (λ other q k.
      let same : other ≡ held = some_same other held (sym (ok_some state.documents.timestamp _ other q) ∙ is) in
      refused_at (ok_or (snapshot_pin (content_of other)) (tuf.Malformed rule.Unpinned)) _ e k
      (λ r. missing (snapshot_pin (content_of other)) _ e r (λ none unpinned. snapshot_unpinned held had fresh is (ap (λ (x : Held declared_timestamp.Timestamp). snapshot_pin (content_of x)) (sym same) ∙ none) unpinned)) (λ pin r l.
      kept_expired held had fresh is (expiry_cause (codes "timestamp") (content_of held).expires session.now e (subst (λ (x : Held declared_timestamp.Timestamp). fresh_of (codes "timestamp") (content_of x).expires session.now ≡ Err e) same l))))

  snapshot_had : (state : State) (held : Held declared_snapshot.Snapshot) → state.documents.snapshot ≡ Some held → WasHad state state kind.Snapshot
  snapshot_had state held is = let there = ap (λ o. held_bytes o) is in (held.bytes, there, in_force there)
    where
      held_bytes : Option (Held declared_snapshot.Snapshot) → Option (List ℕ)
      held_bytes None = None
      held_bytes (Some held) = Some held.bytes

  -- the pin of the targets document, where the snapshot in force pins it
  targets_pin_is : (set : InForce) (s : HasSnapshot session.now set) (pin : MetaFile) → targets_pin (content_of s.held) ≡ Some pin → targets_pin_of set (Some session.now) ≡ Ok pin
  unfolding targets_pin_of
  targets_pin_is set s pin is = let fresh = (fresh_exactly (codes "snapshot") (content_of s.held).expires session.now).1 s.fresh in rw (s.there, fresh, is) refl

  snapshot_cause : (state : State) (e : Error) → RootFresh session state → HasSnapshot session.now state.documents → snapshot_serves_of state.documents session.now ≡ Err e → RefreshCause session state state e
  unfolding snapshot_serves_of targets_pin_of
  snapshot_cause state e fresh s h = by_pin (targets_pin (content_of s.held)) refl
    where
      by_pin : (o : Option MetaFile) → targets_pin (content_of s.held) ≡ o → RefreshCause session state state e
      by_pin (Some pin) is = no_both tt e (sym (pinned pin is) ∙ h)
        where
          pinned : (pin : MetaFile) → targets_pin (content_of s.held) ≡ Some pin → snapshot_serves_of state.documents session.now ≡ Ok tt
          pinned pin is = rw (targets_pin_is state.documents s pin is) refl
      by_pin None is = targets_unpinned s.held (snapshot_had state s.held s.there) (fresh, s.timestamp) s.there is (err_same e _ (sym h ∙ unpinned is))
        where
          unpinned : targets_pin (content_of s.held) ≡ None → snapshot_serves_of state.documents session.now ≡ Err (tuf.Malformed rule.Unpinned)
          unpinned is = let fresh = (fresh_exactly (codes "snapshot") (content_of s.held).expires session.now).1 s.fresh in rw (s.there, fresh, is) refl

  pinning : (state : State) → HasSnapshot session.now state.documents → snapshot_serves_of state.documents session.now ≡ Ok tt → IsPinningTargets kind.Targets session.now state.documents
  unfolding snapshot_serves_of targets_pin_of
  pinning state s h =
      let p = step_ok (targets_pin_of state.documents (Some session.now)) _ tt h in
      let a = step_ok (ok_or state.documents.snapshot (tuf.Malformed rule.NoSnapshot)) _ p.0 p.1 in
      let f = step_ok (fresh_at_of (codes "snapshot") (content_of a.0).expires (Some session.now)) _ p.0 a.2 in
      (p.0, p.1, (a.0, ok_some state.documents.snapshot (tuf.Malformed rule.NoSnapshot) a.0 a.1, ok_some (targets_pin (content_of a.0)) (tuf.Malformed rule.Unpinned) p.0 f.2))

  -- a timestamp is in force after its step
  timestamp_fetched : (old new : State) → Refetches session kind.Timestamp old new (Ok tt) → (held : Held declared_timestamp.Timestamp) × (new.documents.timestamp ≡ Some held)
  timestamp_fetched old new (inl (current, same, is)) = cc
  timestamp_fetched old new (inr (other, (answer, unfetched e f u r, is))) = let never : ◌≡◌ {A = Result ⊤ Error} (Ok tt) (Err e) = is ∙ ap said r in cc
  timestamp_fetched old new (inr (other, (answer, absent f u r, is))) = let never : ◌≡◌ {A = Result ⊤ Error} (Ok tt) (Err (tuf.Transport transport.Absent)) = is ∙ ap said r in cc
  timestamp_fetched old new (inr (other, (answer, refused bytes e f j u r, is))) = let never : ◌≡◌ {A = Result ⊤ Error} (Ok tt) (Err e) = is ∙ ap said r in cc
  timestamp_fetched old new (inr (other, (answer, kept bytes f j u r, is))) =
      let q = was_equal (update_timestamp_of session.crypto old.documents bytes (Some session.now)) j in
      let h = equal_held session.crypto old.documents bytes session.now q.0 q.1.0 q.1.1 in
      (h.0, ap (λ (s : InForce). s.timestamp) u.documents ∙ h.1)
  timestamp_fetched old new (inr (other, (answer, adopted bytes written f j w r, is))) =
      let p = judged_puts session.crypto old.documents bytes kind.Timestamp (Some session.now) new.documents j in
      (p.held, ap (λ (s : InForce). s.timestamp) p.new_is)

  refetch_cause : (k : Kind) (old new : State) (e : Error) → IsBefore k session.now old.documents → IsPinningTargets k session.now old.documents → Refetches session k old new (Err e) → RefreshCause session old new e
  refetch_cause k old new e before pins (inl (current, same, is)) = no_both tt e (sym is)
  refetch_cause k old new e before pins (inr (other, (answer, a, is))) = subst (λ r. IfErr r (RefreshCause session old new)) (sym is) (adopt_cause k old new answer before pins a)

  -- ---- the run

  module _ (old new : State) (e : Error) where
    abbrev G : Type 0
    G = RefreshCause session old new e

    here : (mid : State) (d : Error) → Carried old mid → RefreshCause session mid new d → ◌≡◌ {A = Result ⊤ Error} (Err e) (Err d) → G
    here mid d c r is = earlier old mid new e c (subst (RefreshCause session mid new) (sym (err_same e d is)) r)

    next : (step : Step) (a b : State) → AsksNoRoot step → Carried old a → Does session step a b (Ok tt) → Carried old b
    next step a b asks c d = carried_joins old a b c (does_carried session step a b (Ok tt) asks d)

    refresh_caused : AreAuthorised session.crypto (given_in old.documents) old.documents → Rest session refresh_steps old new (Err e) → G
    refresh_caused auth run =
        step_split G run (λ d h is. here old d (carried_stays old) (walked_cause old new d h) is) (λ s1 d1 r1.
        let c1 = next WalkRoots old s1 tt (carried_stays old) d1 in
        let auth1 = stays_whole session.crypto old.documents s1.documents (does_stays session WalkRoots old s1 (Ok tt) tt d1) auth in
        step_split G r1 (λ d h is. here s1 d c1 (looked_cause (λ set. root_serves_of set session.now) s1 new d h (λ q. root_cause s1 d auth1 q)) is) (λ s2 d2 r2.
        let c2 = next CheckRoot s1 s2 tt c1 d2 in
        let fresh2 = root_looked session s1 s2 d2 in
        step_split G r2 (λ d h is. here s2 d c2 (wanting (reseeds_want session kind.Timestamp s2 new (Err d) h)) is) (λ s3 d3 r3.
        let c3 = next (Seed kind.Timestamp) s2 s3 tt c2 d3 in
        let fresh3 = root_stays session s2 s3 (reseeds_root session kind.Timestamp s2 s3 (Ok tt) tt d3) fresh2 in
        step_split G r3 (λ d h is. here s3 d c3 (wanting (reseeds_want session kind.Snapshot s3 new (Err d) h)) is) (λ s4 d4 r4.
        let c4 = next (Seed kind.Snapshot) s3 s4 tt c3 d4 in
        let fresh4 = root_stays session s3 s4 (reseeds_root session kind.Snapshot s3 s4 (Ok tt) tt d4) fresh3 in
        step_split G r4 (λ d h is. here s4 d c4 (wanting (reseeds_want session kind.Targets s4 new (Err d) h)) is) (λ s5 d5 r5.
        let c5 = next (Seed kind.Targets) s4 s5 tt c4 d5 in
        let fresh5 = root_stays session s4 s5 (reseeds_root session kind.Targets s4 s5 (Ok tt) tt d5) fresh4 in
        step_split G r5 (λ d h is. here s5 d c5 (refetch_cause kind.Timestamp s5 new d fresh5 tt h) is) (λ s6 d6 r6.
        let c6 = next (Fetch kind.Timestamp) s5 s6 tt c5 d6 in
        let fresh6 = root_stays session s5 s6 (refetches_root session kind.Timestamp s5 s6 (Ok tt) tt d6) fresh5 in
        let held6 = timestamp_fetched s5 s6 d6 in
        step_split G r6 (λ d h is. here s6 d c6 (looked_cause (λ set. timestamp_serves_of set session.now) s6 new d h (λ q. timestamp_cause s6 d held6.0 held6.1 fresh6 q)) is) (λ s7 d7 r7.
        let c7 = next CheckTimestamp s6 s7 tt c6 d7 in
        let time7 = timestamp_looked session s6 s7 d7 in
        let fresh7 = subst (RootFresh session) (sym d7.same) fresh6 in
        step_split G r7 (λ d h is. here s7 d c7 (refetch_cause kind.Snapshot s7 new d (fresh7, time7) tt h) is) (λ s8 d8 r8.
        let c8 = next (Fetch kind.Snapshot) s7 s8 tt c7 d8 in
        let snap8 = snapshot_fetched session s7 s8 time7 d8 in
        let fresh8 = root_stays session s7 s8 (refetches_root session kind.Snapshot s7 s8 (Ok tt) tt d8) fresh7 in
        step_split G r8 (λ d h is. here s8 d c8 (looked_cause (λ set. snapshot_serves_of set session.now) s8 new d h (λ q. snapshot_cause s8 d fresh8 snap8 q)) is) (λ s9 d9 r9.
        let c9 = next CheckSnapshot s8 s9 tt c8 d9 in
        let snap9 = subst (λ (s : State). HasSnapshot session.now s.documents) (sym d9.same) snap8 in
        let fresh9 = subst (RootFresh session) (sym d9.same) fresh8 in
        let pins9 = subst (λ (s : State). IsPinningTargets kind.Targets session.now s.documents) (sym d9.same) (pinning s8 snap8 d9.passed) in
        step_split G r9 (λ d h is. here s9 d c9 (refetch_cause kind.Targets s9 new d (fresh9, snap9) pins9 h) is) (λ s10 d10 r10.
        no_both tt e (sym r10.runs.1)))))))))))

-- as it is promised
pub refresh_cause : (session : Session) (old new : State) (result : Result ⊤ Error) → AreAuthorised session.crypto (given_in old.documents) old.documents → RunsSteps session refresh_steps old new result → IfErr result (RefreshCause session old new)
refresh_cause session old new (Ok x) auth r = tt
refresh_cause session old new (Err e) auth r = refresh_caused session old new e auth (record { runs = r.runs })
