-- Each call carries the floor: in the documents in force, and in the timestamp that a store holds.
use Rattle.std.proofs.Common.{◌≡◌, ◌≢◌, ◌⊎◌, inl, inr, ℕ, zero, suc, ◌+◌, ◌<◌, ◌≤◌, List, [], ◌∷◌, Bool, true, false, Option, Some, None, Result, Ok, Err, codes, refl, sym, ap, ◌∙◌, subst, arith, le_refl, le_trans}
use Rattle.std.specs.Prelude.{⊤, option_map, is_some, IfSome}
use Rattle.jiff_core.specs.declared.timestamp.Timestamp as jiff
use Rattle.foundation.specs.Results.{some_same, ok_same}
use Rattle.foundation.specs.Watched.{Watched, IfTold}
use Rattle.sigstore_keys.specs.Crypto.{Crypto}
use Rattle.sigstore_tuf_text.specs.declared.error.Error.{Error}
use Rattle.sigstore_tuf_text.specs.declared.error.Error.TheVariants as tuf
use Rattle.sigstore_tuf_text.specs.declared.error.TransportFault.TheVariants as transport
use Rattle.sigstore_tuf_text.specs.Names.{timestamp_name, snapshot_name, targets_name}
use Rattle.sigstore_tuf_parts.specs.declared.root.Root as declared_root
use Rattle.sigstore_tuf_parts.specs.declared.timestamp.MetaFile.{MetaFile}
use Rattle.sigstore_tuf_parts.specs.declared.timestamp.Timestamp as declared_timestamp
use Rattle.sigstore_tuf_parts.specs.Document.{Document, content_in}
use Rattle.sigstore_tuf_parts.specs.RootRoles.{meets_role_of, MeetsRole}
use Rattle.sigstore_tuf_outside.specs.declared.store.StoreFault.{StoreFault}
use Rattle.sigstore_tuf_outside.specs.declared.store.StoreFault.TheVariants as store
use Rattle.sigstore_tuf_outside.specs.Repository.{Quiet, Files}
use Rattle.sigstore_tuf_outside.specs.Store.{with_file, Keeps as KeepsTold}
use Rattle.sigstore_tuf_rules.specs.declared.documents.Held.{Held}
use Rattle.sigstore_tuf_rules.specs.declared.documents.InForce.{InForce}
use Rattle.sigstore_tuf_rules.specs.declared.kind.Kind.{Kind}
use Rattle.sigstore_tuf_rules.specs.declared.kind.Kind.TheVariants.{Root, Timestamp, Snapshot, Targets}
use Rattle.sigstore_tuf_rules.specs.Documents.{timestamp_document, content_of}
use Rattle.sigstore_tuf_rules.specs.Floor.{standing_of, floor_of, NoLower, KeepsFloor}
use Rattle.sigstore_tuf_rules.specs.Names.{is_consistent, snapshot_pin_in, history_name, root_file, kept_name, both_names, kept_names}
use Rattle.sigstore_tuf_rules.specs.Serving.{version_in}
use Rattle.sigstore_tuf_rules.specs.Taking.{judged_of, bytes_in, there_of, unless_equal}
use Rattle.sigstore_tuf_rules.specs.Update.{with_timestamp, newer_of, timestamp_checks_of, update_timestamp_of}
use Rattle.sigstore_tuf_rules.proofs.Updates.{Puts, judged_puts}
use Rattle.sigstore_tuf_runs.specs.declared.step.Step.{Step}
use Rattle.sigstore_tuf_runs.specs.declared.step.Step.TheVariants.{WalkRoots, CheckRoot, Seed, Fetch, CheckTimestamp, CheckSnapshot}
use Rattle.sigstore_tuf_runs.specs.State.{Session, State}
use Rattle.sigstore_tuf_runs.specs.Adopt.{LoadsNamed, load_unnamed, load_asked, Saves, save_unnamed, save_asked, SavesAll, KeepsWhere, Adopts, unfetched, absent, refused, kept, adopted, passed_over, Seeds, unloaded, unkept, unseeded, equal, seeded}
use Rattle.sigstore_tuf_runs.specs.Run.{Turn, Repeats, Stops, root_loop, said, Refetches, Reseeds, moment_of, SavesRoot, Attaches, roots_unrecalled, roots_recalled, roots_left, Does, Runs, refresh_steps, RunsSteps}
use Rattle.sigstore_tuf_runs.specs.Carried.{IsTimestamp, HasItsVersion, HoldsTimestamp, timestamp_file, IsUndisturbed, BeginsAnew, NotBelowStored, CarriesFloor}
use Rattle.sigstore_tuf_runs.proofs.Lift.{NotRoot, next_root_is}
use Rattle.sigstore_tuf_runs.proofs.Steps.{load_wants, passes, reseeds_want}
use Rattle.sigstore_tuf_causes.proofs.Carrying.{loaded_had}
use Rattle.sigstore_tuf_causes.proofs.Faults.{quiet_first, quiet_second, not_both}
use Rattle.sigstore_tuf_causes.proofs.Keeping.{told_map, told_each, loaded_told, all_later, all_put, apart, with_this, with_other, where_later}
use Rattle.sigstore_tuf_causes.proofs.RolesMet.{step_to, role_ok}
use Rattle.sigstore_tuf_causes.proofs.Staying.{attach_stays, refresh_stays, runs_stay}
use Rattle.sigstore_tuf_causes.proofs.StoreNames.{kept_unversioned}

-- ---- what a store has under `timestamp.json`

abbrev at_timestamp : Files → Option (List ℕ)
at_timestamp files = files timestamp_name

-- a file under another name leaves it
pub saved_leaves : (bytes name : List ℕ) (old new : Watched Files) (result : Result ⊤ Error) → name ≢ timestamp_name → Saves bytes name old new result → timestamp_file new ≡ timestamp_file old
saved_leaves bytes name old new result n (save_unnamed s r) = ap timestamp_file s
saved_leaves bytes name old new result n (save_asked answer s r) = by_answer answer s.kept
  where
    leaves : (told : Option Files) → option_map at_timestamp (option_map (with_file name bytes) told) ≡ option_map at_timestamp told
    leaves None = refl
    leaves (Some files) = ap Some (with_other name bytes timestamp_name files (λ e. n (sym e)))

    same : new.told ≡ old.told → timestamp_file new ≡ timestamp_file old
    same e = ap (option_map at_timestamp) e

    put : new.told ≡ option_map (with_file name bytes) old.told → timestamp_file new ≡ timestamp_file old
    put e = ap (option_map at_timestamp) e ∙ leaves old.told

    by_answer : (answer : Result ⊤ StoreFault) → KeepsTold {T = ⊤} old.told new.told name bytes answer → timestamp_file new ≡ timestamp_file old
    by_answer (Ok y) e = put e
    by_answer (Err store.BadName) e = same e
    by_answer (Err store.Failed) (inl e) = same e
    by_answer (Err store.Failed) (inr e) = put e
    by_answer (Err store.NoMemory) (inl e) = same e
    by_answer (Err store.NoMemory) (inr e) = put e

abbrev AreOthers : List (List ℕ) → Type 0
AreOthers [] = ⊤
AreOthers (name ∷ names) = (name ≢ timestamp_name) × AreOthers names

pub all_leave : (bytes : List ℕ) (names : List (List ℕ)) (old new : Watched Files) (result : Result ⊤ Error) → AreOthers names → SavesAll bytes names old new result → timestamp_file new ≡ timestamp_file old
all_leave bytes [] old new result n (s, r) = ap timestamp_file s
all_leave bytes (name ∷ names) old new result n (inl (e, s, r)) = saved_leaves bytes name old new (Err e) n.0 s
all_leave bytes (name ∷ names) old new result n (inr (mid, s, more)) = all_leave bytes names mid new result n.1 more ∙ saved_leaves bytes name old mid (Ok tt) n.0 s

pub loaded_leaves : (name : List ℕ) (old new : Watched Files) (result : Result (Option (List ℕ)) Error) → LoadsNamed name old new result → timestamp_file new ≡ timestamp_file old
loaded_leaves name old new result l = ap (option_map at_timestamp) (loaded_told name old new result l).0

-- the names of other documents
abbrev IsOther : Kind → Type 0
IsOther (Root number) = ⊤
IsOther Timestamp = ⊥
IsOther Snapshot = ⊤
IsOther Targets = ⊤

both_other : (consistent : Bool) (pin : Option MetaFile) → AreOthers (both_names consistent pin snapshot_name)
both_other consistent None = (apart snapshot_name timestamp_name refl, tt)
both_other false (Some pin) = (apart snapshot_name timestamp_name refl, tt)
both_other true (Some pin) = ((λ e. kept_unversioned Timestamp pin.version snapshot_name (sym e)), (apart snapshot_name timestamp_name refl, tt))

other_names : (set : InForce) (k : Kind) → IsOther k → AreOthers (kept_names set k)
other_names set (Root number) n = (apart (history_name number) timestamp_name refl, (apart root_file timestamp_name refl, tt))
other_names set Timestamp n = absurd n
other_names set Snapshot n = both_other (is_consistent set) (snapshot_pin_in set)
other_names set Targets n = (apart targets_name timestamp_name refl, tt)

-- what holds of the file holds where it was left
file_left : (P : Option (List ℕ) → Type 0) (old new : Option Files) → option_map at_timestamp new ≡ option_map at_timestamp old → IfTold old (λ files. P (files timestamp_name)) → IfTold new (λ files. P (files timestamp_name))
file_left P old None e h = tt
file_left P None (Some files) e h = cc
file_left P (Some a) (Some b) e h = subst P (sym (some_same (b timestamp_name) (a timestamp_name) e)) h

-- a told store with such a file
pub file_there : (told : Option Files) (file : Option (List ℕ)) → option_map at_timestamp told ≡ Some file → (files : Files) × (told ≡ Some files) × (files timestamp_name ≡ file)
file_there None file h = cc
file_there (Some files) file h = (files, refl, some_same (files timestamp_name) file h)

-- ---- root, timestamp and the store's timestamp stay

pub record Still (old new : State) : Type 0 where
  pub root : new.documents.root ≡ old.documents.root
  pub timestamp : new.documents.timestamp ≡ old.documents.timestamp
  pub left : timestamp_file new.store ≡ timestamp_file old.store

pub still_same : (old new : State) → new.documents ≡ old.documents → timestamp_file new.store ≡ timestamp_file old.store → Still old new
still_same old new d l = record { root = ap (λ (s : InForce). s.root) d; timestamp = ap (λ (s : InForce). s.timestamp) d; left = l }

pub still_state : (old new : State) → new ≡ old → Still old new
still_state old new e = still_same old new (ap (λ (s : State). s.documents) e) (ap (λ (s : State). timestamp_file s.store) e)

pub still_joins : {a b c : State} → Still a b → Still b c → Still a c
still_joins p q = record { root = q.root ∙ p.root; timestamp = q.timestamp ∙ p.timestamp; left = q.left ∙ p.left }

module _ (crypto : Crypto) where
  -- the store's file is of the timestamp, where there is one
  abbrev Of : Option (Held declared_timestamp.Timestamp) → Document declared_root.Root → Option (List ℕ) → Type 0
  Of timestamp root file = IfSome timestamp (HasItsVersion crypto (content_in root) file)

  still_holds : (old new : State) → Still old new → HoldsTimestamp crypto old → HoldsTimestamp crypto new
  still_holds old new s h =
      file_left (Of new.documents.timestamp new.documents.root) old.store.told new.store.told s.left
      (subst (λ (t : Option (Held declared_timestamp.Timestamp)). IfTold old.store.told (λ files. Of t new.documents.root (files timestamp_name))) (sym s.timestamp)
      (subst (λ (r : Document declared_root.Root). IfTold old.store.told (λ files. Of old.documents.timestamp r (files timestamp_name))) (sym s.root) h))

  pub none_holds : (state : State) → state.documents.timestamp ≡ None → HoldsTimestamp crypto state
  none_holds state n = told_each (λ files. Of state.documents.timestamp state.documents.root (files timestamp_name)) state.store.told
      (λ files. subst (λ (t : Option (Held declared_timestamp.Timestamp)). Of t state.documents.root (files timestamp_name)) (sym n) tt)

  -- without a timestamp none is too low
  none_below : (old : State) (set : InForce) → set.timestamp ≡ None → NotBelowStored crypto old set
  none_below old set n = told_each
      (λ files. (doc : Document declared_timestamp.Timestamp) → IsTimestamp crypto (content_in set.root) (files timestamp_name) doc → IfSome set.timestamp (λ held. (content_in doc).version ≤ (content_of held).version)) old.store.told
      (λ files doc is. subst (λ (t : Option (Held declared_timestamp.Timestamp)). IfSome t (λ held. (content_in doc).version ≤ (content_of held).version)) (sym n) tt)

  rises_not : (a b : Document declared_root.Root) → b ≡ a → (content_in a).version < (content_in b).version → ⊥
  rises_not a b e h = never (content_in a).version (content_in b).version (ap (λ (r : Document declared_root.Root). (content_in r).version) e) h
    where
      never : (m n : ℕ) → n ≡ m → m < n → ⊥
      never m n p q = omega (arith, p, q)

  still_resumes : (old new : State) → Still old new → BeginsAnew old.documents new.documents → NotBelowStored crypto old new.documents
  still_resumes old new s (inl n) = none_below old new.documents (s.timestamp ∙ n)
  still_resumes old new s (inr rises) = absurd (rises_not old.documents.root new.documents.root s.root rises)

  pub still_carries : (old new : State) (answer : Result ⊤ Error) → KeepsFloor (standing_of old.documents) (standing_of new.documents) → Still old new → CarriesFloor crypto old new answer
  still_carries old new answer f s = record {
    floor = f;
    left = λ n. s.left;
    kept = λ u h. still_holds old new s h;
    resumed = λ u b. still_resumes old new s b;
  }

  -- ---- next roots, and a store that is handed in

  -- no document changes, or the timestamp is dropped; the store's stays
  record Walks (old new : State) : Type 0 where
    later : old.store.faults ≤ new.store.faults
    left : timestamp_file new.store ≡ timestamp_file old.store
    moved : (new.documents ≡ old.documents) ⊎ (new.documents.timestamp ≡ None)

  walks_same : (old new : State) → new.documents ≡ old.documents → old.store.faults ≤ new.store.faults → timestamp_file new.store ≡ timestamp_file old.store → Walks old new
  walks_same old new d later left = record { later = later; left = left; moved = inl d }

  walks_state : (old new : State) → new ≡ old → Walks old new
  walks_state old new e = subst (Walks old) (sym e) (walks_same old old refl (le_refl old.store.faults) refl)

  walks_joins : (a b c : State) → Walks a b → Walks b c → Walks a c
  walks_joins a b c p q = record { later = le_trans p.later q.later; left = q.left ∙ p.left; moved = by_moved p.moved q.moved }
    where
      by_moved : (b.documents ≡ a.documents) ⊎ (b.documents.timestamp ≡ None) → (c.documents ≡ b.documents) ⊎ (c.documents.timestamp ≡ None) → (c.documents ≡ a.documents) ⊎ (c.documents.timestamp ≡ None)
      by_moved x (inr n) = inr n
      by_moved (inl d) (inl e) = inl (e ∙ d)
      by_moved (inr n) (inl e) = inr (ap (λ (s : InForce). s.timestamp) e ∙ n)

  stored_later : (old new : Watched Files) → new ≡ old → old.faults ≤ new.faults
  stored_later old new e = subst (λ (w : Watched Files). old.faults ≤ w.faults) (sym e) (le_refl old.faults)

  walks_stored : (old new : State) → new.documents ≡ old.documents → new.store ≡ old.store → Walks old new
  walks_stored old new d s = walks_same old new d (stored_later old.store new.store s) (ap timestamp_file s)

  walks_loaded : (name : List ℕ) (old new : State) (file : Result (Option (List ℕ)) Error) → LoadsNamed name old.store new.store file → new.documents ≡ old.documents → Walks old new
  walks_loaded name old new file l d = walks_same old new d (loaded_told name old.store new.store file l).1 (loaded_leaves name old.store new.store file l)

  seed_walks : (number : ℕ) (old new : State) (answer : Result Bool Error) → Seeds crypto (Root number) None old new answer → Walks old new
  seed_walks number old new answer (unloaded e l u r) = walks_loaded (history_name number) old new (Err e) l u.documents
  seed_walks number old new answer (unkept l u r) = walks_loaded (history_name number) old new (Ok None) l u.documents
  seed_walks number old new answer (unseeded bytes e l j u r) = walks_loaded (history_name number) old new (Ok (Some bytes)) l u.documents
  seed_walks number old new answer (equal bytes l j u r) = walks_loaded (history_name number) old new (Ok (Some bytes)) l u.documents
  seed_walks number old new answer (seeded bytes l j s r) =
      let p = judged_puts crypto old.documents bytes (Root number) None new.documents j in
      record {
        later = (loaded_told (history_name number) old.store new.store (Ok (Some bytes)) l).1;
        left = loaded_leaves (history_name number) old.store new.store (Ok (Some bytes)) l;
        moved = inr (ap (λ (s : InForce). s.timestamp) p.new_is);
      }

  -- a loop over next roots
  roots_walk : (turn : Turn) → ((number : ℕ) (old new : State) (answer : Result Bool Error) → turn (Root number) old new answer → Walks old new) → (limit : Result ⊤ Error) (n : ℕ) (old new : State) (result : Result ⊤ Error)
      → Repeats turn (root_loop limit) n tt old new result → Walks old new
  roots_walk turn turns limit n old new result r = by_count n old r
    where
      turned : (a b : State) (k : Kind) (rest : ⊤) (answer : Result Bool Error) → (root_loop limit).next tt a.documents ≡ Some (k, rest) → turn k a b answer → Walks a b
      turned a b k rest answer next t = turns (version_in a.documents + 1) a b answer (subst (λ k. turn k a b answer) (next_root_is a.documents k rest next).0 t)

      stopped : (a : State) (k : Kind) (rest : ⊤) (answer : Result ⊤ Error) → (root_loop limit).next tt a.documents ≡ Some (k, rest) → Stops turn k a new answer → Walks a new
      stopped a k rest (Ok x) next s = turned a new k rest (Ok false) next s
      stopped a k rest (Err e) next s = turned a new k rest (Err e) next s

      by_count : (n : ℕ) (a : State) → Repeats turn (root_loop limit) n tt a new result → Walks a new
      by_count zero a (inl (none, same, is)) = walks_state a new same
      by_count zero a (inr (k, (rest, next, same, is))) = walks_state a new same
      by_count (suc n) a (inl (none, same, is)) = walks_state a new same
      by_count (suc n) a (inr (k, (rest, next, inl s))) = stopped a k rest result next s
      by_count (suc n) a (inr (k, (rest, next, inr (mid, t, more)))) = walks_joins a mid new (turned a mid k rest (Ok true) next t) (by_count n mid more)

  root_saved : (old new : State) (result : Result ⊤ Error) → SavesRoot old new result → Walks old new
  root_saved old new result s =
      walks_same old new s.documents (where_later old.documents (Root (version_in old.documents)) (bytes_in (Root (version_in old.documents)) old.documents) old.store new.store result s.written)
      (by_bytes (bytes_in (Root (version_in old.documents)) old.documents) s.written)
    where
      by_bytes : (b : Option (List ℕ)) → KeepsWhere (kept_names old.documents (Root (version_in old.documents))) b old.store new.store result → timestamp_file new.store ≡ timestamp_file old.store
      by_bytes None (e, r) = ap timestamp_file e
      by_bytes (Some bytes) w = all_leave bytes (kept_names old.documents (Root (version_in old.documents))) old.store new.store result (other_names old.documents (Root (version_in old.documents)) tt) w.saves

  attach_walks : (old new : State) (result : Result ⊤ Error) → Attaches crypto old new result → Walks old new
  attach_walks old new result (roots_unrecalled e r is) = roots_walk (λ k. Seeds crypto k None) seed_walks (Ok tt) (roots_left old.documents) old new (Err e) r
  attach_walks old new result (roots_recalled mid r s) = walks_joins old mid new (roots_walk (λ k. Seeds crypto k None) seed_walks (Ok tt) (roots_left old.documents) old mid (Ok tt) r) (root_saved mid new result s)

  walks_hold : (old new : State) → Walks old new → HoldsTimestamp crypto old → HoldsTimestamp crypto new
  walks_hold old new w h = by_moved w.moved
    where
      by_moved : (new.documents ≡ old.documents) ⊎ (new.documents.timestamp ≡ None) → HoldsTimestamp crypto new
      by_moved (inl d) = still_holds old new (still_same old new d w.left) h
      by_moved (inr n) = none_holds new n

  walks_carry : (old new : State) (answer : Result ⊤ Error) → KeepsFloor (standing_of old.documents) (standing_of new.documents) → Walks old new → CarriesFloor crypto old new answer
  walks_carry old new answer f w = record { floor = f; left = λ n. w.left; kept = λ u h. walks_hold old new w h; resumed = λ u b. by_moved b w.moved }
    where
      by_moved : BeginsAnew old.documents new.documents → (new.documents ≡ old.documents) ⊎ (new.documents.timestamp ≡ None) → NotBelowStored crypto old new.documents
      by_moved b (inl d) = still_resumes old new (still_same old new d w.left) b
      by_moved b (inr n) = none_below old new.documents n

  pub attach_carries : (old new : State) (result : Result ⊤ Error) → Attaches crypto old new result → CarriesFloor crypto old new result
  attach_carries old new result a = walks_carry old new result (attach_stays crypto old new result a).floor (attach_walks old new result a)

  -- ---- the steps after the next roots

  -- the root stays, a timestamp isn't dropped, and a store goes on to hold it
  record Goes (old new : State) (result : Result ⊤ Error) : Type 0 where
    later : old.store.faults ≤ new.store.faults
    root : new.documents.root ≡ old.documents.root
    none : new.documents.timestamp ≡ None → old.documents.timestamp ≡ None
    left : new.documents.timestamp ≡ None → timestamp_file new.store ≡ timestamp_file old.store
    kept : IsUndisturbed old new result → HoldsTimestamp crypto old → HoldsTimestamp crypto new

  goes_still : (old new : State) (result : Result ⊤ Error) → old.store.faults ≤ new.store.faults → Still old new → Goes old new result
  goes_still old new result later s = record { later = later; root = s.root; none = λ n. sym s.timestamp ∙ n; left = λ n. s.left; kept = λ u h. still_holds old new s h }

  goes_stored : (old new : State) (result : Result ⊤ Error) → new.documents ≡ old.documents → new.store ≡ old.store → Goes old new result
  goes_stored old new result d s = goes_still old new result (stored_later old.store new.store s) (still_same old new d (ap timestamp_file s))

  goes_state : (old new : State) (result : Result ⊤ Error) → new ≡ old → Goes old new result
  goes_state old new result e = goes_stored old new result (ap (λ (s : State). s.documents) e) (ap (λ (s : State). s.store) e)

  goes_loaded : (name : List ℕ) (old new : State) (file : Result (Option (List ℕ)) Error) (result : Result ⊤ Error) → LoadsNamed name old.store new.store file → new.documents ≡ old.documents → Goes old new result
  goes_loaded name old new file result l d = goes_still old new result (loaded_told name old.store new.store file l).1 (still_same old new d (loaded_leaves name old.store new.store file l))

  goes_said : (old new : State) (result other : Result ⊤ Error) → result ≡ other → Goes old new other → Goes old new result
  goes_said old new result other e g = subst (Goes old new) (sym e) g

  goes_joins : (a b c : State) (result : Result ⊤ Error) → Goes a b (Ok tt) → Goes b c result → Goes a c result
  goes_joins a b c result p q = record {
    later = le_trans p.later q.later;
    root = q.root ∙ p.root;
    none = λ n. p.none (q.none n);
    left = λ n. q.left n ∙ p.left (q.none n);
    kept = λ u h.
        q.kept (u.0, quiet_second a.store.faults b.store.faults c.store.faults p.later q.later u.1)
        (p.kept ((λ e. cc), quiet_first a.store.faults b.store.faults c.store.faults p.later q.later u.1) h);
  }

  -- a timestamp that is put in force, with its file
  put_timestamp : (now : Option jiff.Timestamp) (old new : InForce) (bytes : List ℕ) (file : Option (List ℕ)) → Puts crypto old bytes Timestamp now new → file ≡ Some bytes → Of new.timestamp new.root file
  put_timestamp now old new bytes file p e = subst (λ (s : InForce). Of s.timestamp s.root file) (sym p.new_is) (record {
    doc = p.held.document;
    is = record { bytes = bytes; there = e; read = subst (λ b. timestamp_document b ≡ Ok p.held.document) p.bytes_is p.signed.read; met = p.signed.met };
    version_is = refl;
  })

  never_none : {C : Type 0} (now : Option jiff.Timestamp) (old new : InForce) (bytes : List ℕ) → Puts crypto old bytes Timestamp now new → new.timestamp ≡ None → C
  never_none now old new bytes p n = let never : None ≡ Some p.held = sym n ∙ ap (λ (s : InForce). s.timestamp) p.new_is in cc

  seeded_goes : (k : Kind) (now : Option jiff.Timestamp) (old new : State) (bytes : List ℕ) (result : Result ⊤ Error) → NotRoot k → Puts crypto old.documents bytes k now new.documents
      → LoadsNamed (kept_name k) old.store new.store (Ok (Some bytes)) → Goes old new result
  seeded_goes (Root number) now old new bytes result n p l = absurd n
  seeded_goes Timestamp now old new bytes result n p l =
      let t = loaded_told timestamp_name old.store new.store (Ok (Some bytes)) l in
      record {
        later = t.1;
        root = ap (λ (s : InForce). s.root) p.new_is;
        none = λ n. never_none now old.documents new.documents bytes p n;
        left = λ n. never_none now old.documents new.documents bytes p n;
        kept = λ u h.
            subst (λ told. IfTold told (λ files. Of new.documents.timestamp new.documents.root (files timestamp_name))) (sym t.0)
            (told_map (λ files. files timestamp_name ≡ Some bytes) (λ files. Of new.documents.timestamp new.documents.root (files timestamp_name)) old.store.told
            (λ files f. put_timestamp now old.documents new.documents bytes (files timestamp_name) p f) (loaded_had timestamp_name old.store new.store bytes l));
      }
  seeded_goes Snapshot now old new bytes result n p l =
      goes_still old new result (loaded_told snapshot_name old.store new.store (Ok (Some bytes)) l).1
      (record { root = ap (λ (s : InForce). s.root) p.new_is; timestamp = ap (λ (s : InForce). s.timestamp) p.new_is; left = loaded_leaves snapshot_name old.store new.store (Ok (Some bytes)) l })
  seeded_goes Targets now old new bytes result n p l =
      goes_still old new result (loaded_told targets_name old.store new.store (Ok (Some bytes)) l).1
      (record { root = ap (λ (s : InForce). s.root) p.new_is; timestamp = ap (λ (s : InForce). s.timestamp) p.new_is; left = loaded_leaves targets_name old.store new.store (Ok (Some bytes)) l })

  seeds_go : (k : Kind) (now : Option jiff.Timestamp) (old new : State) (answer : Result Bool Error) → NotRoot k → Seeds crypto k now old new answer → Goes old new (said answer)
  seeds_go k now old new answer n (unloaded e l u r) = goes_loaded (kept_name k) old new (Err e) (said answer) l u.documents
  seeds_go k now old new answer n (unkept l u r) = goes_loaded (kept_name k) old new (Ok None) (said answer) l u.documents
  seeds_go k now old new answer n (unseeded bytes e l j u r) = goes_loaded (kept_name k) old new (Ok (Some bytes)) (said answer) l u.documents
  seeds_go k now old new answer n (equal bytes l j u r) = goes_loaded (kept_name k) old new (Ok (Some bytes)) (said answer) l u.documents
  seeds_go k now old new answer n (seeded bytes l j s r) = seeded_goes k now old new bytes (said answer) n (judged_puts crypto old.documents bytes k now new.documents j) l

  adopted_goes : (k : Kind) (now : Option jiff.Timestamp) (old new : State) (bytes : List ℕ) (answer : Result Bool Error) (written : Result ⊤ Error) → NotRoot k → Puts crypto old.documents bytes k now new.documents
      → SavesAll bytes (kept_names new.documents k) old.store new.store written → answer ≡ there_of written → Goes old new (said answer)
  adopted_goes (Root number) now old new bytes answer written n p w r = absurd n
  adopted_goes Timestamp now old new bytes answer written n p w r = record {
    later = all_later bytes (timestamp_name ∷ []) old.store new.store written w;
    root = ap (λ (s : InForce). s.root) p.new_is;
    none = λ n. never_none now old.documents new.documents bytes p n;
    left = λ n. never_none now old.documents new.documents bytes p n;
    kept = λ u h.
        all_put (λ files. Of new.documents.timestamp new.documents.root (files timestamp_name)) bytes (timestamp_name ∷ []) old.store new.store written (refl, tt) (λ e. u.0 (ap said (r ∙ ap there_of e))) u.1 w
        (told_each (λ files. Of new.documents.timestamp new.documents.root (with_file timestamp_name bytes files timestamp_name)) old.store.told
        (λ files. put_timestamp now old.documents new.documents bytes (with_file timestamp_name bytes files timestamp_name) p (with_this timestamp_name bytes files)));
  }
  adopted_goes Snapshot now old new bytes answer written n p w r =
      goes_still old new (said answer) (all_later bytes (kept_names new.documents Snapshot) old.store new.store written w)
      (record { root = ap (λ (s : InForce). s.root) p.new_is; timestamp = ap (λ (s : InForce). s.timestamp) p.new_is; left = all_leave bytes (kept_names new.documents Snapshot) old.store new.store written (other_names new.documents Snapshot tt) w })
  adopted_goes Targets now old new bytes answer written n p w r =
      goes_still old new (said answer) (all_later bytes (kept_names new.documents Targets) old.store new.store written w)
      (record { root = ap (λ (s : InForce). s.root) p.new_is; timestamp = ap (λ (s : InForce). s.timestamp) p.new_is; left = all_leave bytes (kept_names new.documents Targets) old.store new.store written (other_names new.documents Targets tt) w })

  -- ---- a timestamp of the store that is put in force again

  judged_again : (set : InForce) (bytes : List ℕ) (doc : Document declared_timestamp.Timestamp) → set.timestamp ≡ None → timestamp_document bytes ≡ Ok doc → MeetsRole crypto (content_in set.root) (codes "timestamp") doc
      → judged_of crypto Timestamp set bytes None ≡ Ok (Some (with_timestamp set (record { bytes = bytes; document = doc })))
  unfolding update_timestamp_of timestamp_checks_of
  judged_again set bytes doc none read met =
      ap unless_equal (step_to (timestamp_document bytes) _ doc read
      ∙ step_to (timestamp_checks_of crypto set doc None) _ tt
      (step_to (meets_role_of crypto (content_in {T = declared_root.Root} set.root) (codes "timestamp") doc) _ tt (role_ok crypto (content_in {T = declared_root.Root} set.root) (codes "timestamp") doc met)
      ∙ step_to (newer_of set.timestamp (content_in {T = declared_timestamp.Timestamp} doc)) _ tt (ap (λ o. newer_of o (content_in {T = declared_timestamp.Timestamp} doc)) none)))

  -- the store's timestamp, where it is one of the root in force, is put in force once none is
  record Resumed (version : ℕ) (set : InForce) : Type 0 where
    held : Held declared_timestamp.Timestamp
    there : set.timestamp ≡ Some held
    version_is : (content_of held).version ≡ version

  of_none : {C : Type 0} (answer : Result Bool Error) → answer ≡ Err tuf.NoMemory → said answer ≢ Err tuf.NoMemory → C
  of_none answer e most = absurd (most (ap said e))

  told_file : (P : Files → Type 0) (told : Option Files) (files : Files) → told ≡ Some files → IfTold told P → P files
  told_file P told files e h = subst (λ t. IfTold t P) e h

  seed_resumes : (old new : State) (answer : Result Bool Error) (files : Files) (doc : Document declared_timestamp.Timestamp) → old.documents.timestamp ≡ None → old.store.told ≡ Some files
      → IsTimestamp crypto (content_in old.documents.root) (files timestamp_name) doc → IsUndisturbed old new (said answer) → Seeds crypto Timestamp None old new answer → Resumed (content_in doc).version new.documents
  seed_resumes old new answer files doc none told is u s = by_seed s
    where
      judged : judged_of crypto Timestamp old.documents is.bytes None ≡ Ok (Some (with_timestamp old.documents (record { bytes = is.bytes; document = doc })))
      judged = judged_again old.documents is.bytes doc none is.read is.met

      same_bytes : (bytes : List ℕ) → LoadsNamed timestamp_name old.store new.store (Ok (Some bytes)) → is.bytes ≡ bytes
      same_bytes bytes l = some_same is.bytes bytes (sym is.there ∙ told_file (λ files. files timestamp_name ≡ Some bytes) old.store.told files told (loaded_had timestamp_name old.store new.store bytes l))

      nothing : LoadsNamed timestamp_name old.store new.store (Ok None) → Resumed (content_in doc).version new.documents
      nothing (load_unnamed s r) = cc
      nothing (load_asked (Ok file) l r) =
          let there : file ≡ files timestamp_name = told_file (λ files. file ≡ files timestamp_name) old.store.told files told l.file in
          let given : ◌≡◌ {A = Result (Option (List ℕ)) Error} (Ok None) (Ok file) = r in
          let never : None ≡ Some is.bytes = ok_same None file given ∙ there ∙ is.there in cc
      nothing (load_asked (Err store.Failed) l r) = absurd (not_both old.store.faults new.store.faults l.cause.1 u.1)
      nothing (load_asked (Err store.BadName) l r) = let never : false ≡ true = l.cause in cc
      nothing (load_asked (Err store.NoMemory) l r) = cc

      refuses : (bytes : List ℕ) (e : Error) → is.bytes ≡ bytes → (e ≢ tuf.NoMemory → judged_of crypto Timestamp old.documents bytes None ≡ Err e) → answer ≡ passed_over e → (passed_over e ≡ Ok false) ⊎ (passed_over e ≡ Err tuf.NoMemory)
          → Resumed (content_in doc).version new.documents
      refuses bytes e b j r (inr wants) = of_none answer (r ∙ wants) u.0
      refuses bytes e b j r (inl passed) =
          let judged_so = j (λ is. let never : ◌≡◌ {A = Result Bool Error} (Err tuf.NoMemory) (Ok false) = ap passed_over (sym is) ∙ passed in cc) in
          let never : ◌≡◌ {A = Result (Option InForce) Error} (Ok (Some (with_timestamp old.documents (record { bytes = is.bytes; document = doc })))) (Err e) = sym judged ∙ ap (λ b. judged_of crypto Timestamp old.documents b None) b ∙ judged_so in cc

      by_seed : Seeds crypto Timestamp None old new answer → Resumed (content_in doc).version new.documents
      by_seed (unloaded e l u' r) = of_none answer (r ∙ ap Err (load_wants timestamp_name old.store new.store e l)) u.0
      by_seed (unkept l u' r) = nothing l
      by_seed (unseeded bytes e l j u' r) = refuses bytes e (same_bytes bytes l) j r (passes e)
      by_seed (equal bytes l j u' r) =
          let never : ◌≡◌ {A = Result (Option InForce) Error} (Ok (Some (with_timestamp old.documents (record { bytes = is.bytes; document = doc })))) (Ok None) =
          sym judged ∙ ap (λ b. judged_of crypto Timestamp old.documents b None) (same_bytes bytes l) ∙ j in cc
      by_seed (seeded bytes l j s' r) =
          let p = judged_puts crypto old.documents bytes Timestamp None new.documents j in
          let read : timestamp_document is.bytes ≡ Ok p.held.document = subst (λ b. timestamp_document b ≡ Ok p.held.document) (p.bytes_is ∙ sym (same_bytes bytes l)) p.signed.read in
          record {
            held = p.held;
            there = ap (λ (s : InForce). s.timestamp) p.new_is;
            version_is = ap (λ (d : Document declared_timestamp.Timestamp). (content_in d).version) (ok_same p.held.document doc (sym read ∙ is.read));
          }

-- ---- a refresh

module _ (session : Session) where
  adopts_go : (k : Kind) (old new : State) (answer : Result Bool Error) → NotRoot k → Adopts session k old new answer → Goes session.crypto old new (said answer)
  adopts_go k old new answer n (unfetched e f u r) = goes_stored session.crypto old new (said answer) u.documents u.store
  adopts_go k old new answer n (absent f u r) = goes_stored session.crypto old new (said answer) u.documents u.store
  adopts_go k old new answer n (refused bytes e f j u r) = goes_stored session.crypto old new (said answer) u.documents u.store
  adopts_go k old new answer n (kept bytes f j u r) = goes_stored session.crypto old new (said answer) u.documents u.store
  adopts_go k old new answer n (adopted bytes written f j w r) =
      adopted_goes session.crypto k (Some session.now) old new bytes answer written n (judged_puts session.crypto old.documents bytes k (Some session.now) new.documents j) w.saves r

  adopt_walks : (number : ℕ) (old new : State) (answer : Result Bool Error) → Adopts session (Root number) old new answer → Walks session.crypto old new
  adopt_walks number old new answer (unfetched e f u r) = walks_stored session.crypto old new u.documents u.store
  adopt_walks number old new answer (absent f u r) = walks_stored session.crypto old new u.documents u.store
  adopt_walks number old new answer (refused bytes e f j u r) = walks_stored session.crypto old new u.documents u.store
  adopt_walks number old new answer (kept bytes f j u r) = walks_stored session.crypto old new u.documents u.store
  adopt_walks number old new answer (adopted bytes written f j w r) =
      let p = judged_puts session.crypto old.documents bytes (Root number) (Some session.now) new.documents j in
      record {
        later = all_later bytes (kept_names new.documents (Root number)) old.store new.store written w.saves;
        left = all_leave bytes (kept_names new.documents (Root number)) old.store new.store written (other_names new.documents (Root number) tt) w.saves;
        moved = inr (ap (λ (s : InForce). s.timestamp) p.new_is);
      }

  reseeds_go : (k : Kind) (old new : State) (result : Result ⊤ Error) → NotRoot k → Reseeds session k old new result → Goes session.crypto old new result
  reseeds_go k old new result n (inl (there, same, is)) = goes_state session.crypto old new result same
  reseeds_go k old new result n (inr (none, (answer, s, is))) = goes_said session.crypto old new result (said answer) is (seeds_go session.crypto k (moment_of k session.now) old new answer n s)

  refetches_go : (k : Kind) (old new : State) (result : Result ⊤ Error) → NotRoot k → Refetches session k old new result → Goes session.crypto old new result
  refetches_go k old new result n (inl (current, same, is)) = goes_state session.crypto old new result same
  refetches_go k old new result n (inr (other, (answer, a, is))) = goes_said session.crypto old new result (said answer) is (adopts_go k old new answer n a)

  abbrev IsLater : Step → Type 0
  IsLater WalkRoots = ⊥
  IsLater CheckRoot = ⊤
  IsLater (Seed k) = NotRoot k
  IsLater (Fetch k) = NotRoot k
  IsLater CheckTimestamp = ⊤
  IsLater CheckSnapshot = ⊤

  abbrev AreLater : List Step → Type 0
  AreLater [] = ⊤
  AreLater (step ∷ steps) = IsLater step × AreLater steps

  does_go : (step : Step) (old new : State) (result : Result ⊤ Error) → IsLater step → Does session step old new result → Goes session.crypto old new result
  does_go WalkRoots old new result n d = absurd n
  does_go CheckRoot old new result n d = goes_state session.crypto old new result d.same
  does_go (Seed k) old new result n d = reseeds_go k old new result n d
  does_go (Fetch k) old new result n d = refetches_go k old new result n d
  does_go CheckTimestamp old new result n d = goes_state session.crypto old new result d.same
  does_go CheckSnapshot old new result n d = goes_state session.crypto old new result d.same

  runs_go : (steps : List Step) (old new : State) (result : Result ⊤ Error) → AreLater steps → Runs session steps old new result → Goes session.crypto old new result
  runs_go [] old new result n (same, is) = goes_state session.crypto old new result same
  runs_go (step ∷ steps) old new result n (inl (e, d, is)) = goes_said session.crypto old new result (Err e) is (does_go step old new (Err e) n.0 d)
  runs_go (step ∷ steps) old new result n (inr (mid, d, r)) = goes_joins session.crypto old mid new result (does_go step old mid (Ok tt) n.0 d) (runs_go steps mid new result n.1 r)

  abbrev following_steps : List Step
  following_steps = Seed Snapshot ∷ Seed Targets ∷ Fetch Timestamp ∷ CheckTimestamp ∷ Fetch Snapshot ∷ CheckSnapshot ∷ Fetch Targets ∷ []

  -- from the store's timestamp on
  abbrev seeding_steps : List Step
  seeding_steps = Seed Timestamp ∷ following_steps

  abbrev later_steps : List Step
  later_steps = CheckRoot ∷ seeding_steps

  no_lower : (version : ℕ) (t : Option (Held declared_timestamp.Timestamp)) → NoLower (Some version) (option_map (λ (held : Held declared_timestamp.Timestamp). (content_of held).version) t) → IfSome t (λ held. version ≤ (content_of held).version)
  no_lower version None h = tt
  no_lower version (Some held) h = subst (λ n. version ≤ n) (sym (some_same (content_of held).version h.0 h.1)) h.2

  -- once the store's timestamp is in force it is the floor of what follows
  above_seeded : (set new : InForce) (version : ℕ) → Resumed session.crypto version set → new.root ≡ set.root → KeepsFloor (standing_of set) (standing_of new) → IfSome new.timestamp (λ held. version ≤ (content_of held).version)
  above_seeded set new version r root f =
      let below = f.1 (sym (ap (λ (d : Document declared_root.Root). (content_in d).version) root)) in
      no_lower version new.timestamp
      (subst (λ (o : Option ℕ). NoLower o (floor_of new).timestamp) (ap (option_map (λ (held : Held declared_timestamp.Timestamp). (content_of held).version)) r.there ∙ ap Some r.version_is) below.timestamp)

  -- from a state without a timestamp, whose store has the file
  module _ (new : State) (result : Result ⊤ Error) (most : result ≢ Err tuf.NoMemory) (files : Files) (doc : Document declared_timestamp.Timestamp) (is : IsTimestamp session.crypto (content_in new.documents.root) (files timestamp_name) doc) where
    abbrev Above : Type 0
    Above = IfSome new.documents.timestamp (λ held. (content_in doc).version ≤ (content_of held).version)

    followed : (a b : State) (answer : Result Bool Error) → a.documents.timestamp ≡ None → timestamp_file a.store ≡ Some (files timestamp_name) → Quiet a.store.faults new.store.faults
        → Seeds session.crypto Timestamp None a b answer → Ok tt ≡ said answer → Runs session following_steps b new result → Above
    followed a b answer none file quiet s said_is r =
        let at = file_there a.store.told (files timestamp_name) file in
        let g = seeds_go session.crypto Timestamp None a b answer tt s in
        let h = runs_go following_steps b new result (tt, (tt, (tt, (tt, (tt, (tt, (tt, tt))))))) r in
        let root : new.documents.root ≡ a.documents.root = h.root ∙ g.root in
        let signed = subst (λ (f : Option (List ℕ)). IsTimestamp session.crypto (content_in a.documents.root) f doc) (sym at.2) (subst (λ (d : Document declared_root.Root). IsTimestamp session.crypto (content_in d) (files timestamp_name) doc) root is) in
        let undisturbed : IsUndisturbed a b (said answer) =
        ((λ e. let never : ◌≡◌ {A = Result ⊤ Error} (Ok tt) (Err tuf.NoMemory) = said_is ∙ e in cc), quiet_first a.store.faults b.store.faults new.store.faults g.later h.later quiet) in
        above_seeded b.documents new.documents (content_in doc).version (seed_resumes session.crypto a b answer at.0 doc none at.1 signed undisturbed s) h.root
        (runs_stay session following_steps b new result (tt, (tt, (tt, (tt, (tt, (tt, (tt, tt))))))) r).floor

    seeding : (a : State) → a.documents.timestamp ≡ None → timestamp_file a.store ≡ Some (files timestamp_name) → Quiet a.store.faults new.store.faults → Runs session seeding_steps a new result → Above
    seeding a none file quiet (inl (e, d, r)) =
        let wants : e ≡ tuf.NoMemory = reseeds_want session Timestamp a new (Err e) d in
        absurd (most (r ∙ ap Err wants))
    seeding a none file quiet (inr (b, inl (there, same, r), more)) =
        let never : false ≡ true = sym (ap (λ (o : Option (Held declared_timestamp.Timestamp)). is_some (option_map (λ held. held.bytes) o)) none) ∙ there in cc
    seeding a none file quiet (inr (b, inr (nothing, (answer, s, r)), more)) = followed a b answer none file quiet s r more

    checking : (a : State) → a.documents.timestamp ≡ None → timestamp_file a.store ≡ Some (files timestamp_name) → Quiet a.store.faults new.store.faults → Runs session later_steps a new result → Above
    checking a none file quiet (inl (e, d, r)) =
        subst (λ (t : Option (Held declared_timestamp.Timestamp)). IfSome t (λ held. (content_in doc).version ≤ (content_of held).version)) (sym (ap (λ (s : State). s.documents.timestamp) d.same ∙ none)) tt
    checking a none file quiet (inr (b, d, more)) = seeding a none file quiet (subst (λ (s : State). Runs session seeding_steps s new result) d.same more)

  abbrev limit : Result ⊤ Error
  limit = Err (tuf.Transport (transport.Rotations session.config.max_root_rotations))

  refresh_resumes : (old mid new : State) (result : Result ⊤ Error) → Walks session.crypto old mid → Goes session.crypto mid new result → Runs session later_steps mid new result
      → IsUndisturbed old new result → BeginsAnew old.documents new.documents → NotBelowStored session.crypto old new.documents
  refresh_resumes old mid new result w g r u b = by_told old.store.told refl
    where
      none_by : (mid.documents ≡ old.documents) ⊎ (mid.documents.timestamp ≡ None) → BeginsAnew old.documents new.documents → mid.documents.timestamp ≡ None
      none_by (inr n) b = n
      none_by (inl d) (inl n) = ap (λ (s : InForce). s.timestamp) d ∙ n
      none_by (inl d) (inr rises) = absurd (rises_not session.crypto old.documents.root new.documents.root (g.root ∙ ap (λ (s : InForce). s.root) d) rises)

      by_told : (told : Option Files) → old.store.told ≡ told
          → IfTold told (λ files. (doc : Document declared_timestamp.Timestamp) → IsTimestamp session.crypto (content_in new.documents.root) (files timestamp_name) doc → IfSome new.documents.timestamp (λ held. (content_in doc).version ≤ (content_of held).version))
      by_told None e = tt
      by_told (Some files) e = λ doc is.
          checking new result u.0 files doc is mid (none_by w.moved b) (w.left ∙ ap (option_map at_timestamp) e)
          (quiet_second old.store.faults mid.store.faults new.store.faults w.later g.later u.1) r

  pub refresh_carries : (old new : State) (result : Result ⊤ Error) → RunsSteps session refresh_steps old new result → CarriesFloor session.crypto old new result
  refresh_carries old new result r = by_run r.runs
    where
      floor : KeepsFloor (standing_of old.documents) (standing_of new.documents)
      floor = (refresh_stays session old new result r).floor

      walked : (mid : State) (answer : Result ⊤ Error) → Does session WalkRoots old mid answer → Walks session.crypto old mid
      walked mid answer d = roots_walk session.crypto (Adopts session) adopt_walks limit session.config.max_root_rotations old mid answer d

      by_run : Runs session refresh_steps old new result → CarriesFloor session.crypto old new result
      by_run (inl (e, d, is)) = walks_carry session.crypto old new result floor (walked new (Err e) d)
      by_run (inr (mid, d, more)) =
          let w = walked mid (Ok tt) d in
          let g = runs_go later_steps mid new result (tt, (tt, (tt, (tt, (tt, (tt, (tt, (tt, (tt, tt))))))))) more in
          record {
            floor = floor;
            left = λ n. g.left n ∙ w.left;
            kept = λ u h. g.kept (u.0, quiet_second old.store.faults mid.store.faults new.store.faults w.later g.later u.1) (walks_hold session.crypto old mid w h);
            resumed = λ u b. refresh_resumes old mid new result w g more u b;
          }
