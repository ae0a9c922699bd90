-- What is had after a step was had before it.
use Rattle.std.proofs.Common.{◌≡◌, ◌⊎◌, inl, inr, ℕ, ◌≤◌, List, [], ◌∷◌, ◌++◌, codes, Bool, true, false, Option, Some, None, Result, Ok, Err, refl, sym, ap, ◌∙◌, subst, arith, le_refl, le_trans}
use Rattle.std.specs.Prelude.{⊤, option_map}
use Rattle.jiff_core.specs.declared.timestamp.Timestamp as jiff
use Rattle.foundation.specs.Watched.{Watched, IfTold, Since}
use Rattle.foundation.specs.Results.{some_same}
use Rattle.sigstore_keys.specs.Crypto.{Crypto}
use Rattle.sigstore_tuf_text.specs.declared.error.Error.{Error}
use Rattle.sigstore_tuf_text.specs.Names.{root_name, snapshot_name}
use Rattle.sigstore_tuf_parts.specs.declared.timestamp.MetaFile.{MetaFile}
use Rattle.sigstore_tuf_rules.specs.declared.documents.InForce.{InForce}
use Rattle.sigstore_tuf_rules.specs.declared.kind.Kind.{Kind}
use Rattle.sigstore_tuf_rules.specs.declared.kind.Kind.TheVariants.{Root, Timestamp, Snapshot, Targets}
use Rattle.sigstore_tuf_runs.specs.declared.step.Step.{Step}
use Rattle.sigstore_tuf_outside.specs.declared.store.StoreFault.{StoreFault}
use Rattle.sigstore_tuf_outside.specs.declared.store.StoreFault.TheVariants as store
use Rattle.sigstore_tuf_outside.specs.Repository.{Folders, Files, metadata_files}
use Rattle.sigstore_tuf_outside.specs.Store.{with_file, Keeps as KeepsTold}
use Rattle.sigstore_tuf_rules.specs.Names.{is_consistent, snapshot_pin_in, file_name, max_length, kept_name, both_names, kept_names}
use Rattle.sigstore_tuf_runs.specs.State.{Session, State}
use Rattle.sigstore_tuf_rules.specs.Taking.{bytes_in}
use Rattle.sigstore_tuf_runs.specs.Adopt.{FetchesNamed, fetch_unnamed, fetch_asked, LoadsNamed, load_unnamed, load_asked, Saves, save_unnamed, save_asked, SavesAll, Keeps, KeepsWhere, Adopts, unfetched, absent, refused, kept, adopted, Seeds, unloaded, unkept, unseeded, equal, seeded}
use Rattle.sigstore_tuf_rules.specs.Serving.{version_in}
use Rattle.sigstore_tuf_runs.specs.Run.{SavesRoot, Attaches, Does, refresh_steps, RunsSteps}
use Rattle.sigstore_tuf_runs.specs.Cause.{Has, HasKept, IsInForce, Had, in_repository, in_store, in_force}
use Rattle.sigstore_tuf_rules.proofs.Updates.{Puts, judged_puts, bytes_put}
use Rattle.sigstore_tuf_runs.proofs.Lift.{IsAsked, AsksNoRoot, attach_lift, does_lift, runs_lift}
use Rattle.sigstore_tuf_causes.proofs.StoreNames.{put_from, kept_unversioned, name_of, never_root_file, had_named}

-- what is had at the end was had at the beginning
pub record Carried (old new : State) : Type 0 where
  pub since : Since old.repo new.repo
  pub had : (q : Kind) (x : List ℕ) → Had new q x → Had old q x
  pub rises : version_in old.documents ≤ version_in new.documents

pub since_same : {A : Type 0} (a b : Watched A) → b ≡ a → Since a b
since_same a b h = record { same = ap (λ (w : Watched _). w.told) h; later = subst (λ (w : Watched _). a.faults ≤ w.faults) (sym h) (le_refl a.faults) }

pub since_joins : {A : Type 0} (a b c : Watched A) → Since a b → Since b c → Since a c
since_joins a b c p q = record { same = q.same ∙ p.same; later = le_trans p.later q.later }

pub carried_joins : (a b c : State) → Carried a b → Carried b c → Carried a c
carried_joins a b c p q = record {
  since = since_joins a.repo b.repo c.repo p.since q.since;
  had = λ k x h. p.had k x (q.had k x h);
  rises = le_trans p.rises q.rises;
}

-- what a fetch and a load leave
pub fetched_since : (part : Folders → Files) (name : List ℕ) (max : ℕ) (old new : Watched Folders) (result : Result (Option (List ℕ)) Error) → FetchesNamed part name max old new result → Since old new
fetched_since part name max old new result (fetch_unnamed s r) = since_same old new s
fetched_since part name max old new result (fetch_asked answer f r) = record { same = f.same; later = f.later }

pub loaded_same : (name : List ℕ) (old new : Watched Files) (result : Result (Option (List ℕ)) Error) → LoadsNamed name old new result → new.told ≡ old.told
loaded_same name old new result (load_unnamed s r) = ap (λ (w : Watched Files). w.told) s
loaded_same name old new result (load_asked answer l r) = l.same

-- what was had by a fetch and by a load
pub fetched_had : (part : Folders → Files) (name : List ℕ) (max : ℕ) (old new : Watched Folders) (bytes : List ℕ) → FetchesNamed part name max old new (Ok (Some bytes)) → Has part old name bytes
fetched_had part name max old new bytes (fetch_unnamed s r) = cc
fetched_had part name max old new bytes (fetch_asked (Ok file) f r) = by_told old.told f.file
  where
    is : Some bytes ≡ file
    is = let same : ◌≡◌ {A = Result (Option (List ℕ)) Error} (Ok (Some bytes)) (Ok file) = r in cc

    by_told : (told : Option Folders) → IfTold told (λ folders. file ≡ part folders name) → IfTold told (λ folders. part folders name ≡ Some bytes)
    by_told None h = tt
    by_told (Some folders) h = sym h ∙ sym is
fetched_had part name max old new bytes (fetch_asked (Err fault) f r) = cc

pub loaded_had : (name : List ℕ) (old new : Watched Files) (bytes : List ℕ) → LoadsNamed name old new (Ok (Some bytes)) → HasKept old name bytes
loaded_had name old new bytes (load_unnamed s r) = cc
loaded_had name old new bytes (load_asked (Ok file) l r) = by_told old.told l.file
  where
    is : Some bytes ≡ file
    is = let same : ◌≡◌ {A = Result (Option (List ℕ)) Error} (Ok (Some bytes)) (Ok file) = r in cc

    by_told : (told : Option Files) → IfTold told (λ files. file ≡ files name) → IfTold told (λ files. files name ≡ Some bytes)
    by_told None h = tt
    by_told (Some files) h = sym h ∙ sym is
loaded_had name old new bytes (load_asked (Err store.Failed) l r) = cc
loaded_had name old new bytes (load_asked (Err store.BadName) l r) = cc
loaded_had name old new bytes (load_asked (Err store.NoMemory) l r) = cc

-- ---- what is in force after an update

puts_force : (crypto : Crypto) (k : Kind) (now : Option jiff.Timestamp) (old : State) (new : InForce) (bytes : List ℕ) → IsAsked k old → Puts crypto old.documents bytes k now new → (q : Kind) (x : List ℕ) → IsInForce new q x
    → ((kept_name q ≡ kept_name k) × (x ≡ bytes)) ⊎ IsInForce old.documents q x
puts_force crypto k now old new bytes asked p q x i = each k asked p q i
  where
    is_bytes : (k : Kind) → Puts crypto old.documents bytes k now new → bytes_in k new ≡ Some x → x ≡ bytes
    is_bytes k p i = some_same x bytes (sym i ∙ bytes_put crypto old.documents new bytes k now p)

    stays : (b : Option (List ℕ)) (c : Option (List ℕ)) → b ≡ c → b ≡ Some x → c ≡ Some x
    stays b c e h = sym e ∙ h

    never : {C : Type 0} (b : Option (List ℕ)) → b ≡ None → b ≡ Some x → C
    never b e h = let n : None ≡ Some x = sym e ∙ h in cc

    each : (k : Kind) → IsAsked k old → Puts crypto old.documents bytes k now new → (q : Kind) → IsInForce new q x → ((kept_name q ≡ kept_name k) × (x ≡ bytes)) ⊎ IsInForce old.documents q x
    each (Root number) asked p (Root m) i =
        inl (ap (λ n. codes "root_history/" ++ n) (i.1 ∙ ap root_name (ap version_in p.new_is ∙ p.next.number ∙ sym asked.0)), is_bytes (Root number) p i.0)
    each (Root number) asked p Timestamp i = never (bytes_in Timestamp new) (ap (bytes_in Timestamp) p.new_is) i
    each (Root number) asked p Snapshot i = never (bytes_in Snapshot new) (ap (bytes_in Snapshot) p.new_is) i
    each (Root number) asked p Targets i = never (bytes_in Targets new) (ap (bytes_in Targets) p.new_is) i
    each Timestamp asked p (Root m) i = inr (stays (bytes_in (Root m) new) (bytes_in (Root m) old.documents) (ap (bytes_in (Root m)) p.new_is) i.0, i.1 ∙ ap (λ (s : InForce). root_name (version_in s)) p.new_is)
    each Timestamp asked p Timestamp i = inl (refl, is_bytes Timestamp p i)
    each Timestamp asked p Snapshot i = inr (stays (bytes_in Snapshot new) (bytes_in Snapshot old.documents) (ap (bytes_in Snapshot) p.new_is) i)
    each Timestamp asked p Targets i = inr (stays (bytes_in Targets new) (bytes_in Targets old.documents) (ap (bytes_in Targets) p.new_is) i)
    each Snapshot asked p (Root m) i = inr (stays (bytes_in (Root m) new) (bytes_in (Root m) old.documents) (ap (bytes_in (Root m)) p.new_is) i.0, i.1 ∙ ap (λ (s : InForce). root_name (version_in s)) p.new_is)
    each Snapshot asked p Timestamp i = inr (stays (bytes_in Timestamp new) (bytes_in Timestamp old.documents) (ap (bytes_in Timestamp) p.new_is) i)
    each Snapshot asked p Snapshot i = inl (refl, is_bytes Snapshot p i)
    each Snapshot asked p Targets i = never (bytes_in Targets new) (ap (bytes_in Targets) p.new_is) i
    each Targets asked p (Root m) i = inr (stays (bytes_in (Root m) new) (bytes_in (Root m) old.documents) (ap (bytes_in (Root m)) p.new_is) i.0, i.1 ∙ ap (λ (s : InForce). root_name (version_in s)) p.new_is)
    each Targets asked p Timestamp i = inr (stays (bytes_in Timestamp new) (bytes_in Timestamp old.documents) (ap (bytes_in Timestamp) p.new_is) i)
    each Targets asked p Snapshot i = inr (stays (bytes_in Snapshot new) (bytes_in Snapshot old.documents) (ap (bytes_in Snapshot) p.new_is) i)
    each Targets asked p Targets i = inl (refl, is_bytes Targets p i)

puts_rise : (crypto : Crypto) (k : Kind) (now : Option jiff.Timestamp) (old new : InForce) (bytes : List ℕ) → Puts crypto old bytes k now new → version_in old ≤ version_in new
puts_rise crypto (Root number) now old new bytes p = let e = ap version_in p.new_is ∙ p.next.number in omega (arith, e)
puts_rise crypto Timestamp now old new bytes p = let e = ap version_in p.new_is in omega (arith, e)
puts_rise crypto Snapshot now old new bytes p = let e = ap version_in p.new_is in omega (arith, e)
puts_rise crypto Targets now old new bytes p = let e = ap version_in p.new_is in omega (arith, e)

-- ---- what is kept after a write

-- what is under a document's name in the store was had before
abbrev KeptHad : State → Watched Files → Type 0
KeptHad old seen = (q : Kind) (x : List ℕ) → HasKept seen (kept_name q) x → Had old q x

kept_before : (old : State) (seen : Watched Files) → seen.told ≡ old.store.told → KeptHad old seen
kept_before old seen e q x h = in_store (subst (λ told. IfTold told (λ files. files (kept_name q) ≡ Some x)) e h)

-- the bytes were had as a document of each kind that has this name
abbrev IsHadAs : State → List ℕ → List ℕ → Type 0
IsHadAs old name bytes = (q : Kind) → kept_name q ≡ name → Had old q bytes

abbrev AreHadAs : State → List (List ℕ) → List ℕ → Type 0
AreHadAs old [] bytes = ⊤
AreHadAs old (name ∷ names) bytes = IsHadAs old name bytes × AreHadAs old names bytes

-- so it is under the names of its kind
both_had : (old : State) (consistent : Bool) (pin : Option MetaFile) (bytes : List ℕ) → Had old Snapshot bytes → AreHadAs old (both_names consistent pin snapshot_name) bytes
both_had old consistent None bytes h = (λ q e. had_named old q Snapshot bytes e h, tt)
both_had old false (Some pin) bytes h = (λ q e. had_named old q Snapshot bytes e h, tt)
both_had old true (Some pin) bytes h = (λ q e. kept_unversioned q pin.version snapshot_name e, (λ q e. had_named old q Snapshot bytes e h, tt))

kind_had : (old : State) (set : InForce) (k : Kind) (bytes : List ℕ) → Had old k bytes → AreHadAs old (kept_names set k) bytes
kind_had old set (Root number) bytes h = (λ q e. had_named old q (Root number) bytes e h, (λ q e. never_root_file q e, tt))
kind_had old set Timestamp bytes h = (λ q e. had_named old q Timestamp bytes e h, tt)
kind_had old set Snapshot bytes h = both_had old (is_consistent set) (snapshot_pin_in set) bytes h
kind_had old set Targets bytes h = (λ q e. had_named old q Targets bytes e h, tt)

saved_had : (old : State) (bytes name : List ℕ) (mid new : Watched Files) (result : Result ⊤ Error) → IsHadAs old name bytes → KeptHad old mid → Saves bytes name mid new result → KeptHad old new
saved_had old bytes name mid new result h k (save_unnamed s r) q x f = k q x (subst (λ (w : Watched Files). HasKept w (kept_name q) x) s f)
saved_had old bytes name mid new result h k (save_asked answer s r) q x f = by_answer answer s.kept
  where
    same : new.told ≡ mid.told → Had old q x
    same e = k q x (subst (λ told. IfTold told (λ files. files (kept_name q) ≡ Some x)) e f)

    put : new.told ≡ option_map (with_file name bytes) mid.told → Had old q x
    put e = by_put (put_from name bytes (kept_name q) x mid.told new.told e f)
      where
        by_put : IfTold mid.told (λ files. files (kept_name q) ≡ Some x) ⊎ ((kept_name q ≡ name) × (x ≡ bytes)) → Had old q x
        by_put (inl g) = k q x g
        by_put (inr (at, is)) = subst (Had old q) (sym is) (h q at)

    by_answer : (answer : Result ⊤ StoreFault) → KeepsTold {T = ⊤} mid.told new.told name bytes answer → Had old q x
    by_answer (Ok y) e = put e
    by_answer (Err store.BadName) e = same e
    by_answer (Err store.Failed) (inl e) = same e
    by_answer (Err store.Failed) (inr e) = put e
    by_answer (Err store.NoMemory) (inl e) = same e
    by_answer (Err store.NoMemory) (inr e) = put e

all_had : (old : State) (bytes : List ℕ) (names : List (List ℕ)) (mid new : Watched Files) (result : Result ⊤ Error) → AreHadAs old names bytes → KeptHad old mid → SavesAll bytes names mid new result → KeptHad old new
all_had old bytes [] mid new result h k (s, r) = λ q x f. k q x (subst (λ (w : Watched Files). HasKept w (kept_name q) x) s f)
all_had old bytes (name ∷ names) mid new result h k (inl (e, s, r)) = saved_had old bytes name mid new (Err e) h.0 k s
all_had old bytes (name ∷ names) mid new result h k (inr (next, s, more)) = all_had old bytes names next new result h.1 (saved_had old bytes name mid next (Ok tt) h.0 k s) more

keeps_had : (old : State) (set : InForce) (k : Kind) (bytes : List ℕ) (new : Watched Files) (result : Result ⊤ Error) → Had old k bytes → Keeps (kept_names set k) bytes old.store new result → KeptHad old new
keeps_had old set k bytes new result h w = all_had old bytes (kept_names set k) old.store new result (kind_had old set k bytes h) (kept_before old old.store refl) w.saves

-- ---- each step

filed_before : (part : Folders → Files) (old new : Watched Folders) (name x : List ℕ) → new.told ≡ old.told → Has part new name x → Has part old name x
filed_before part old new name x e f = subst (λ told. IfTold told (λ folders. part folders name ≡ Some x)) e f

unmoved : (old new : State) → Since old.repo new.repo → new.documents ≡ old.documents → KeptHad old new.store → Carried old new
unmoved old new since d k = record { since = since; had = each; rises = let e = ap version_in d in omega (arith, e) }
  where
    each : (q : Kind) (x : List ℕ) → Had new q x → Had old q x
    each q x (in_repository n i f) = in_repository n i (filed_before metadata_files old.repo new.repo n x since.same f)
    each q x (in_store f) = k q x f
    each q x (in_force i) = in_force (subst (λ set. IsInForce set q x) d i)

moved : (crypto : Crypto) (k : Kind) (now : Option jiff.Timestamp) (bytes : List ℕ) (old new : State) → IsAsked k old → Had old k bytes → Puts crypto old.documents bytes k now new.documents → Since old.repo new.repo → KeptHad old new.store → Carried old new
moved crypto k now bytes old new asked had p since stored = record { since = since; had = each; rises = puts_rise crypto k now old.documents new.documents bytes p }
  where
    each : (q : Kind) (x : List ℕ) → Had new q x → Had old q x
    each q x (in_repository n i f) = in_repository n i (filed_before metadata_files old.repo new.repo n x since.same f)
    each q x (in_store f) = stored q x f
    each q x (in_force i) = by_force (puts_force crypto k now old new.documents bytes asked p q x i)
      where
        by_force : ((kept_name q ≡ kept_name k) × (x ≡ bytes)) ⊎ IsInForce old.documents q x → Had old q x
        by_force (inl (at, is)) = subst (Had old q) (sym is) (had_named old q k bytes at had)
        by_force (inr i) = in_force i

store_same : (old new : State) → new.store ≡ old.store → KeptHad old new.store
store_same old new s = kept_before old new.store (ap (λ (w : Watched Files). w.told) s)

pub seed_carried : (crypto : Crypto) (k : Kind) (now : Option jiff.Timestamp) (old new : State) (answer : Result Bool Error) → IsAsked k old → Seeds crypto k now old new answer → Carried old new
seed_carried crypto k now old new answer asked (unloaded e l u r) = unmoved old new (since_same old.repo new.repo u.repo) u.documents (kept_before old new.store (loaded_same (kept_name k) old.store new.store (Err e) l))
seed_carried crypto k now old new answer asked (unkept l u r) = unmoved old new (since_same old.repo new.repo u.repo) u.documents (kept_before old new.store (loaded_same (kept_name k) old.store new.store (Ok None) l))
seed_carried crypto k now old new answer asked (unseeded bytes e l j u r) =
    unmoved old new (since_same old.repo new.repo u.repo) u.documents (kept_before old new.store (loaded_same (kept_name k) old.store new.store (Ok (Some bytes)) l))
seed_carried crypto k now old new answer asked (equal bytes l j u r) =
    unmoved old new (since_same old.repo new.repo u.repo) u.documents (kept_before old new.store (loaded_same (kept_name k) old.store new.store (Ok (Some bytes)) l))
seed_carried crypto k now old new answer asked (seeded bytes l j s r) =
    moved crypto k now bytes old new asked (in_store (loaded_had (kept_name k) old.store new.store bytes l)) (judged_puts crypto old.documents bytes k now new.documents j) (since_same old.repo new.repo s)
    (kept_before old new.store (loaded_same (kept_name k) old.store new.store (Ok (Some bytes)) l))

pub save_carried : (old new : State) (result : Result ⊤ Error) → SavesRoot old new result → Carried old new
save_carried old new result s = unmoved old new (since_same old.repo new.repo s.repo) s.documents (by_bytes (bytes_in (Root (version_in old.documents)) old.documents) refl s.written)
  where
    by_bytes : (b : Option (List ℕ)) → bytes_in (Root (version_in old.documents)) old.documents ≡ b → KeepsWhere (kept_names old.documents (Root (version_in old.documents))) b old.store new.store result → KeptHad old new.store
    by_bytes None e (s, r) = store_same old new s
    by_bytes (Some bytes) e w = keeps_had old old.documents (Root (version_in old.documents)) bytes new.store result (in_force (e, refl)) w

pub attach_carried : (crypto : Crypto) (old new : State) (result : Result ⊤ Error) → Attaches crypto old new result → Carried old new
attach_carried crypto old new result a =
    attach_lift (λ old new result. Carried old new) (λ a b c result p q. carried_joins a b c p q) stays crypto (λ k old new answer asked s. seed_carried crypto k None old new answer asked s) save_carried old new result a
  where
    stays : (a : State) → Carried a a
    stays a = unmoved a a (since_same a.repo a.repo refl) refl (store_same a a refl)

pub carried_stays : (a : State) → Carried a a
carried_stays a = unmoved a a (since_same a.repo a.repo refl) refl (store_same a a refl)

module _ (session : Session) where
  since_of : (k : Kind) (old new : State) (file : Result (Option (List ℕ)) Error) → FetchesNamed metadata_files (file_name old.documents k) (max_length session.config k) old.repo new.repo file → Since old.repo new.repo
  since_of k old new file f = fetched_since metadata_files (file_name old.documents k) (max_length session.config k) old.repo new.repo file f

  pub adopt_carried : (k : Kind) (old new : State) (answer : Result Bool Error) → IsAsked k old → Adopts session k old new answer → Carried old new
  adopt_carried k old new answer asked (unfetched e f u r) = unmoved old new (since_of k old new (Err e) f) u.documents (store_same old new u.store)
  adopt_carried k old new answer asked (absent f u r) = unmoved old new (since_of k old new (Ok None) f) u.documents (store_same old new u.store)
  adopt_carried k old new answer asked (refused bytes e f j u r) = unmoved old new (since_of k old new (Ok (Some bytes)) f) u.documents (store_same old new u.store)
  adopt_carried k old new answer asked (kept bytes f j u r) = unmoved old new (since_of k old new (Ok (Some bytes)) f) u.documents (store_same old new u.store)
  adopt_carried k old new answer asked (adopted bytes written f j w r) =
      let had : Had old k bytes = in_repository (file_name old.documents k) (name_of old.documents k) (fetched_had metadata_files (file_name old.documents k) (max_length session.config k) old.repo new.repo bytes f) in
      moved session.crypto k (Some session.now) bytes old new asked had (judged_puts session.crypto old.documents bytes k (Some session.now) new.documents j) (since_of k old new (Ok (Some bytes)) f)
      (keeps_had old new.documents k bytes new.store written had w)

  pub does_carried : (step : Step) (old new : State) (result : Result ⊤ Error) → AsksNoRoot step → Does session step old new result → Carried old new
  does_carried step old new result asks d =
      does_lift (λ old new result. Carried old new) (λ a b c result p q. carried_joins a b c p q) carried_stays session adopt_carried (seed_carried session.crypto) (λ a e. carried_stays a) step old new result asks d

  pub refresh_carried : (old new : State) (result : Result ⊤ Error) → RunsSteps session refresh_steps old new result → Carried old new
  refresh_carried old new result r =
      runs_lift (λ old new result. Carried old new) (λ a b c result p q. carried_joins a b c p q) carried_stays session adopt_carried (seed_carried session.crypto) (λ a e. carried_stays a) refresh_steps old new result
      (tt, (tt, (tt, (tt, (tt, (tt, (tt, (tt, (tt, (tt, tt)))))))))) r.runs
