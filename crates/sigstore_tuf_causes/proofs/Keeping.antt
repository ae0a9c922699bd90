-- A store that counts no fault has what is in force.
use Rattle.std.proofs.Common.{◌≡◌, ◌≢◌, inl, inr, ℕ, ◌+◌, ◌-◌, ◌^◌, ◌<◌, ◌≤◌, List, [], ◌∷◌, ◌++◌, if◌then◌else◌, Bool, true, false, bytes_eq, drop, Option, Some, None, Result, Ok, Err, codes, refl, sym, ap, ◌∙◌, subst, arith, le_refl, le_trans}
use Rattle.std.specs.Prelude.{⊤, option_map, IfSome}
use Rattle.std.specs.List.{AllByRecursion, AllZip, last_or}
use Rattle.std.proofs.lemmas.Slice.Eq.{bytes_eq-Decides}
use Rattle.jiff_core.specs.declared.timestamp.Timestamp as jiff
use Rattle.foundation.specs.Watched.{Watched, Rose, IfTold}
use Rattle.foundation.specs.Results.{step_ok, ok_same, some_same}
use Rattle.sigstore_keys.specs.Crypto.{Crypto}
use Rattle.sigstore_tuf_text.specs.declared.error.Error.{Error}
use Rattle.sigstore_tuf_text.specs.declared.error.Error.TheVariants as tuf
use Rattle.sigstore_tuf_text.specs.declared.error.TransportFault.TheVariants as transport
use Rattle.sigstore_tuf_parts.specs.declared.root.Root as declared
use Rattle.sigstore_tuf_parts.specs.Document.{Document, content_in}
use Rattle.sigstore_tuf_text.specs.Names.{timestamp_name, snapshot_name, targets_name, versioned_name}
use Rattle.sigstore_tuf_parts.specs.declared.timestamp.MetaFile.{MetaFile}
use Rattle.sigstore_tuf_parts.specs.RootRoles.{root_document, meets_role_of, AreNextRoots, Roots}
use Rattle.sigstore_tuf_parts.proofs.ReadExact.{version_bound}
use Rattle.sigstore_tuf_rules.specs.declared.documents.InForce.{InForce}
use Rattle.sigstore_tuf_rules.specs.declared.kind.Kind.{Kind}
use Rattle.sigstore_tuf_rules.specs.declared.kind.Kind.TheVariants.{Root, Timestamp, Snapshot, Targets}
use Rattle.sigstore_tuf_runs.specs.declared.step.Step.{Step}
use Rattle.sigstore_tuf_runs.specs.declared.step.Step.TheVariants.{WalkRoots, CheckRoot, Seed, Fetch, CheckTimestamp, CheckSnapshot}
use Rattle.sigstore_tuf_outside.specs.declared.store.StoreFault.{StoreFault}
use Rattle.sigstore_tuf_outside.specs.declared.store.StoreFault.TheVariants as store
use Rattle.sigstore_tuf_outside.specs.Repository.{Quiet, Files}
use Rattle.sigstore_tuf_outside.specs.Store.{is_bad_name, with_file, HasStoreCause, Keeps as KeepsTold}
use Rattle.sigstore_tuf_rules.specs.Names.{is_consistent, snapshot_pin_in, history_name, root_file, kept_name, both_names, kept_names}
use Rattle.sigstore_tuf_rules.specs.Update.{first_root_of}
use Rattle.sigstore_tuf_runs.specs.State.{Session, State}
use Rattle.sigstore_tuf_rules.specs.Taking.{bytes_in, there_of}
use Rattle.sigstore_tuf_runs.specs.Adopt.{LoadsNamed, load_unnamed, load_asked, passed_of, Saves, save_unnamed, save_asked, SavesAll, KeepsWhere, Adopts, unfetched, absent, refused, kept, adopted, Seeds, unloaded, unkept, unseeded, equal, seeded}
use Rattle.sigstore_tuf_rules.specs.Serving.{version_in}
use Rattle.sigstore_tuf_runs.specs.Run.{Repeats, root_loop, said, Checks, Refetches, Reseeds, moment_of, SavesRoot, Attaches, roots_unrecalled, roots_recalled, roots_left, Does, Runs, refresh_steps, RunsSteps}
use Rattle.sigstore_tuf_rules.specs.Trusted.{BeginsWith}
use Rattle.sigstore_tuf_rules.specs.Authorised.{given_in, IsAuthorised}
use Rattle.sigstore_tuf_runs.specs.Kept.{IsFiled, HasRoot, HasLastRoot, HoldsAdopted, HoldsInForce, KeepsAdopted, KeepsInForce, AttachesKept, StaysKept}
use Rattle.sigstore_tuf_rules.proofs.Updates.{Puts, judged_puts, bytes_put, top_inserted}
use Rattle.sigstore_tuf_runs.proofs.Lift.{IsAsked, NotRoot, AsksNoRoot, AskNoRoots, asked_later, roots_lift}
use Rattle.sigstore_tuf_rules.proofs.Authorised.{judged_stays}
use Rattle.sigstore_tuf_causes.proofs.Holding.{stays_whole}
use Rattle.sigstore_tuf_runs.proofs.Steps.{save_wants}
use Rattle.sigstore_tuf_causes.proofs.Carrying.{loaded_had}
use Rattle.sigstore_tuf_causes.proofs.Faults.{quiet_first, quiet_second, not_both}
use Rattle.sigstore_tuf_causes.proofs.StoreNames.{kept_unversioned, never_root_file}
use Rattle.sigstore_tuf_causes.proofs.RootNames.{same_number, never_versioned, history_good, versioned_good}

-- ---- told files

pub told_moved : (f : Files → Files) (P : Files → Type 0) (old new : Option Files) → new ≡ option_map f old → IfTold old (λ files. P (f files)) → IfTold new P
told_moved f P None new e h = subst (λ t. IfTold t P) (sym e) tt
told_moved f P (Some files) new e h = subst (λ t. IfTold t P) (sym e) h

pub told_map : (P Q : Files → Type 0) (told : Option Files) → ((files : Files) → P files → Q files) → IfTold told P → IfTold told Q
told_map P Q None f h = tt
told_map P Q (Some files) f h = f files h

pub told_each : (P : Files → Type 0) (told : Option Files) → ((files : Files) → P files) → IfTold told P
told_each P None f = tt
told_each P (Some files) f = f files

pub told_both : (P Q R : Files → Type 0) (told : Option Files) → ((files : Files) → P files → Q files → R files) → IfTold told P → IfTold told Q → IfTold told R
told_both P Q R None f h k = tt
told_both P Q R (Some files) f h k = f files h k

-- ---- loads and writes

pub loaded_told : (name : List ℕ) (old new : Watched Files) (result : Result (Option (List ℕ)) Error) → LoadsNamed name old new result → (new.told ≡ old.told) × (old.faults ≤ new.faults)
loaded_told name old new result (load_unnamed s r) = (ap (λ (w : Watched Files). w.told) s, subst (λ (w : Watched Files). old.faults ≤ w.faults) (sym s) (le_refl old.faults))
loaded_told name old new result (load_asked answer l r) = (l.same, l.later)

pub saved_later : (bytes name : List ℕ) (old new : Watched Files) (result : Result ⊤ Error) → Saves bytes name old new result → old.faults ≤ new.faults
saved_later bytes name old new result (save_unnamed s r) = subst (λ (w : Watched Files). old.faults ≤ w.faults) (sym s) (le_refl old.faults)
saved_later bytes name old new result (save_asked answer s r) = s.later

-- without a fault the file is written
pub saved_put : (bytes name : List ℕ) (old new : Watched Files) (result : Result ⊤ Error) → is_bad_name name ≡ false → result ≢ Err tuf.NoMemory → Quiet old.faults new.faults → Saves bytes name old new result
    → new.told ≡ option_map (with_file name bytes) old.told
saved_put bytes name old new result good most quiet (save_unnamed s r) = absurd (most r)
saved_put bytes name old new result good most quiet (save_asked answer s r) = by_answer answer s.cause s.kept r
  where
    by_answer : (answer : Result ⊤ StoreFault) → HasStoreCause {T = ⊤} (Rose old.faults new.faults) name answer → KeepsTold {T = ⊤} old.told new.told name bytes answer → result ≡ passed_of answer
        → new.told ≡ option_map (with_file name bytes) old.told
    by_answer (Ok x) c k r = k
    by_answer (Err store.Failed) c k r = absurd (not_both old.faults new.faults c.1 quiet)
    by_answer (Err store.BadName) c k r = let no : false ≡ true = sym good ∙ c in cc
    by_answer (Err store.NoMemory) c k r = absurd (most r)

pub all_later : (bytes : List ℕ) (names : List (List ℕ)) (old new : Watched Files) (result : Result ⊤ Error) → SavesAll bytes names old new result → old.faults ≤ new.faults
all_later bytes [] old new result (s, r) = subst (λ (w : Watched Files). old.faults ≤ w.faults) (sym s) (le_refl old.faults)
all_later bytes (name ∷ names) old new result (inl (e, s, r)) = saved_later bytes name old new (Err e) s
all_later bytes (name ∷ names) old new result (inr (mid, s, more)) = le_trans (saved_later bytes name old mid (Ok tt) s) (all_later bytes names mid new result more)

abbrev pub files_all : List ℕ → List (List ℕ) → Files → Files
files_all bytes [] files = files
files_all bytes (name ∷ names) files = files_all bytes names (with_file name bytes files)

abbrev pub AreGood : List (List ℕ) → Type 0
AreGood [] = ⊤
AreGood (name ∷ names) = (is_bad_name name ≡ false) × AreGood names

pub all_put : (Q : Files → Type 0) (bytes : List ℕ) (names : List (List ℕ)) (old new : Watched Files) (result : Result ⊤ Error) → AreGood names → result ≢ Err tuf.NoMemory → Quiet old.faults new.faults → SavesAll bytes names old new result
    → IfTold old.told (λ files. Q (files_all bytes names files)) → IfTold new.told Q
all_put Q bytes [] old new result good most quiet (s, r) h = subst (λ (w : Watched Files). IfTold w.told Q) (sym s) h
all_put Q bytes (name ∷ names) old new result good most quiet (inl (e, s, r)) h = absurd (most (r ∙ ap Err (save_wants bytes name old new (Err e) s)))
all_put Q bytes (name ∷ names) old new result good most quiet (inr (mid, s, more)) h =
    let a = saved_later bytes name old mid (Ok tt) s in
    let b = all_later bytes names mid new result more in
    all_put Q bytes names mid new result good.1 most (quiet_second old.faults mid.faults new.faults a b quiet) more
    (told_moved (with_file name bytes) (λ files. Q (files_all bytes names files)) old.told mid.told (saved_put bytes name old mid (Ok tt) good.0 (λ e. cc) (quiet_first old.faults mid.faults new.faults a b quiet) s) h)

-- ---- lists

pub all_map : {A : Type 0} (P Q : A → Type 0) (xs : List A) → ((x : A) → P x → Q x) → AllByRecursion P xs → AllByRecursion Q xs
all_map P Q [] f h = tt
all_map P Q (x ∷ xs) f h = (f x h.0, all_map P Q xs f h.1)

all_both : {A : Type 0} (P Q R : A → Type 0) (xs : List A) → ((x : A) → P x → Q x → R x) → AllByRecursion P xs → AllByRecursion Q xs → AllByRecursion R xs
all_both P Q R [] f h k = tt
all_both P Q R (x ∷ xs) f h k = (f x h.0 k.0, all_both P Q R xs f h.1 k.1)

all_more : {A : Type 0} (P : A → Type 0) (xs : List A) (x : A) → AllByRecursion P xs → P x → AllByRecursion P (xs ++ x ∷ [])
all_more P [] x h p = (p, tt)
all_more P (y ∷ ys) x h p = (h.0, all_more P ys x h.1 p)

zip_last : {A B : Type 0} (R : A → B → Type 0) (s : A) (t : B) (xs : List A) (ys : List B) (a : A) (b : B) → R s t → AllZip R xs ys → last_or (Some s) xs ≡ Some a → last_or (Some t) ys ≡ Some b → R a b
zip_last R s t [] [] a b r z p q = subst (λ x. R x b) (some_same s a p) (subst (R s) (some_same t b q) r)
zip_last R s t [] (y ∷ ys) a b r z p q = absurd z
zip_last R s t (x ∷ xs) [] a b r z p q = absurd z
zip_last R s t (x ∷ xs) (y ∷ ys) a b r z p q = zip_last R x y xs ys a b z.0 z.1 p q

last_there : {A : Type 0} (s : A) (xs : List A) → (x : A) × (last_or (Some s) xs ≡ Some x)
last_there s [] = (s, refl)
last_there s (x ∷ xs) = last_there x xs

all_last : {A : Type 0} (P : A → Type 0) (x : A) (xs : List A) (last : A) → AllByRecursion P (x ∷ xs) → last_or (Some x) xs ≡ Some last → P last
all_last P x [] last h e = subst P (some_same x last e) h.0
all_last P x (y ∷ ys) last h e = all_last P y ys last h.1 e

-- ---- the roots in force

abbrev numbered : Document declared.Root → ℕ
numbered doc = (content_in doc).version

abbrev Reads : List ℕ → Document declared.Root → Type 0
Reads bytes doc = root_document bytes ≡ Ok doc

same_doc : (bytes : List ℕ) (d e : Document declared.Root) → Reads bytes d → Reads bytes e → d ≡ e
same_doc bytes d e p q = ok_same d e (sym p ∙ q)

-- a root of these bytes has no higher version
abbrev Within : ℕ → List ℕ → Type 0
Within version bytes = (doc : Document declared.Root) → Reads bytes doc → numbered doc ≤ version

below : (crypto : Crypto) (d root : Document declared.Root) (bs : List (List ℕ)) (ds : List (Document declared.Root)) → AllZip Reads bs ds → AreNextRoots crypto d ds → last_or (Some d) ds ≡ Some root
    → (numbered d ≤ numbered root) × AllByRecursion (Within (numbered root)) bs
below crypto d root [] [] z n l = (subst (λ (r : Document declared.Root). numbered d ≤ numbered r) (some_same d root l) (le_refl (numbered d)), tt)
below crypto d root [] (x ∷ ds) z n l = absurd z
below crypto d root (b ∷ bs) [] z n l = absurd z
below crypto d root (b ∷ bs) (x ∷ ds) z n l =
    let r = below crypto x root bs ds z.1 n.1 l in
    let next : numbered x ≡ numbered d + 1 = n.0.number in
    (omega (arith, next, r.0), (λ doc at. subst (λ (k : Document declared.Root). numbered k ≤ numbered root) (same_doc b x doc z.0 at) r.0, r.1))

-- what the roots in force have in common
record RootFacts (roots : List (List ℕ)) (root : Document declared.Root) : Type 0 where
  within : AllByRecursion (Within (numbered root)) (drop 1 roots)
  bound : numbered root < 2 ^ 64
  last : (bytes : List ℕ) → last_or None roots ≡ Some bytes → Reads bytes root
  more : (bytes : List ℕ) → drop 1 (roots ++ bytes ∷ []) ≡ drop 1 roots ++ bytes ∷ []

root_facts : (crypto : Crypto) (given : List ℕ) (first root : Document declared.Root) (bs : List (List ℕ)) (ds : List (Document declared.Root)) → BeginsWith given bs → AllZip Reads bs ds → Roots crypto first ds → last_or None ds ≡ Some root
    → RootFacts bs root
root_facts crypto given first root [] ds begins z n l = absurd begins
root_facts crypto given first root (b ∷ bs) [] begins z n l = absurd z
root_facts crypto given first root (b ∷ bs) (d ∷ ds) begins z n l =
    let w = below crypto first root bs ds z.1 n.2 (ap (λ (x : Document declared.Root). last_or (Some x) ds) (sym n.0) ∙ l) in
    let x = last_there b bs in
    record {
      within = w.1;
      bound = version_bound x.0 root (zip_last Reads b d bs ds x.0 root z.0 z.1 x.1 l);
      last = λ bytes at. zip_last Reads b d bs ds bytes root z.0 z.1 at l;
      more = λ bytes. refl;
    }

facts : (crypto : Crypto) (set : InForce) → IsAuthorised crypto set → RootFacts set.roots set.root
facts crypto set k = root_facts crypto (given_in set) k.roots.first set.root set.roots k.roots.documents k.roots.begins k.roots.read k.roots.next k.roots.last

-- ---- files before and after a document is put in force

-- the document is there, and what is under the names of other documents stayed
record Moves (k : Kind) (bytes : List ℕ) (files files' : Files) : Type 0 where
  there : files' (kept_name k) ≡ Some bytes
  others : (q : Kind) (x : List ℕ) → kept_name q ≢ kept_name k → files (kept_name q) ≡ Some x → files' (kept_name q) ≡ Some x

pub apart : (a b : List ℕ) → bytes_eq a b ≡ false → a ≢ b
apart a b n h = let no : true ≡ false = sym ((bytes_eq-Decides a b).1 h) ∙ n in cc

pub with_this : (name bytes : List ℕ) (files : Files) → with_file name bytes files name ≡ Some bytes
with_this name bytes files = ap (λ b. if b then Some bytes else files name) ((bytes_eq-Decides name name).1 refl)

pub with_other : (name bytes q : List ℕ) (files : Files) → q ≢ name → with_file name bytes files q ≡ files q
with_other name bytes q files n = by_test (bytes_eq q name) refl
  where
    by_test : (b : Bool) → bytes_eq q name ≡ b → with_file name bytes files q ≡ files q
    by_test true e = absurd (n ((bytes_eq-Decides q name).0 e))
    by_test false e = ap (λ b. if b then Some bytes else files q) e

stayed : (k : Kind) (bytes : List ℕ) (files : Files) → files (kept_name k) ≡ Some bytes → Moves k bytes files files
stayed k bytes files h = record { there = h; others = λ q x n f. f }

-- a snapshot under both of its names, or under its own alone
snapshot_alone : (bytes : List ℕ) (files : Files) → Moves Snapshot bytes files (with_file snapshot_name bytes files)
snapshot_alone bytes files = record { there = with_this snapshot_name bytes files; others = λ q x n f. with_other snapshot_name bytes (kept_name q) files n ∙ f }

snapshot_written : (consistent : Bool) (pin : Option MetaFile) (bytes : List ℕ) (files : Files) → Moves Snapshot bytes files (files_all bytes (both_names consistent pin snapshot_name) files)
snapshot_written consistent None bytes files = snapshot_alone bytes files
snapshot_written false (Some pin) bytes files = snapshot_alone bytes files
snapshot_written true (Some pin) bytes files =
    let once = with_file (versioned_name pin.version snapshot_name) bytes files in
    record {
      there = with_this snapshot_name bytes once;
      others = λ q x n f. with_other snapshot_name bytes (kept_name q) once n ∙ (with_other (versioned_name pin.version snapshot_name) bytes (kept_name q) files (λ e. kept_unversioned q pin.version snapshot_name e) ∙ f);
    }

written : (set : InForce) (k : Kind) (bytes : List ℕ) (files : Files) → Moves k bytes files (files_all bytes (kept_names set k) files)
written set (Root number) bytes files = record {
  there = with_other root_file bytes (history_name number) (with_file (history_name number) bytes files) (apart (history_name number) root_file refl) ∙ with_this (history_name number) bytes files;
  others = λ q x n f. with_other root_file bytes (kept_name q) (with_file (history_name number) bytes files) (λ e. never_root_file q e) ∙ (with_other (history_name number) bytes (kept_name q) files n ∙ f);
}
written set Timestamp bytes files = record { there = with_this timestamp_name bytes files; others = λ q x n f. with_other timestamp_name bytes (kept_name q) files n ∙ f }
written set Snapshot bytes files = snapshot_written (is_consistent set) (snapshot_pin_in set) bytes files
written set Targets bytes files = record { there = with_this targets_name bytes files; others = λ q x n f. with_other targets_name bytes (kept_name q) files n ∙ f }

pub some_kept : (b : Option (List ℕ)) (files files' : Files) (name : List ℕ) → ((x : List ℕ) → files name ≡ Some x → files' name ≡ Some x) → IfSome b (IsFiled files name) → IfSome b (IsFiled files' name)
some_kept None files files' name f h = tt
some_kept (Some x) files files' name f h = f x h

pub roots_kept : (files files' : Files) (roots : List (List ℕ)) → ((n : ℕ) (x : List ℕ) → files (history_name n) ≡ Some x → files' (history_name n) ≡ Some x) → AllByRecursion (HasRoot files) roots → AllByRecursion (HasRoot files') roots
roots_kept files files' roots f h = all_map (HasRoot files) (HasRoot files') roots (λ b r. record { doc = r.doc; read = r.read; there = f (numbered r.doc) b r.there }) h

number_fits : (number version : ℕ) → number ≡ version + 1 → version ≢ 2 ^ 64 - 1 → version < 2 ^ 64 → number < 2 ^ 64
number_fits number version e n b = omega arith

module _ (crypto : Crypto) (now : Option jiff.Timestamp) (bytes : List ℕ) (files files' : Files) where
  -- a root that was kept before is another one than the next
  root_kept : (number version : ℕ) (b : List ℕ) → number ≡ version + 1 → version ≢ 2 ^ 64 - 1 → version < 2 ^ 64 → Moves (Root number) bytes files files' → HasRoot files b → Within version b → HasRoot files' b
  root_kept number version b e n bound m r w =
      let most : numbered r.doc ≤ version = w r.doc r.read in
      record {
        doc = r.doc;
        read = r.read;
        there = m.others (Root (numbered r.doc)) b (λ h. another (numbered r.doc) most (same_number (numbered r.doc) number (fits (numbered r.doc) most) (number_fits number version e n bound) h)) r.there;
      }
    where
      fits : (k : ℕ) → k ≤ version → k < 2 ^ 64
      fits k h = omega arith

      another : (k : ℕ) → k ≤ version → k ≡ number → ⊥
      another k h same = omega arith

  adopted_put : (k : Kind) (old : State) (new : InForce) → IsAsked k old → RootFacts old.documents.roots old.documents.root → Puts crypto old.documents bytes k now new → Moves k bytes files files' → HoldsAdopted files old.documents
      → HoldsAdopted files' new
  adopted_put (Root number) old new asked r p m h = subst (HoldsAdopted files') (sym p.new_is) (record {
    roots = subst (AllByRecursion (HasRoot files')) (sym (r.more bytes)) (all_more (HasRoot files') (drop 1 old.documents.roots) bytes
        (all_both (HasRoot files) (Within (version_in old.documents)) (HasRoot files') (drop 1 old.documents.roots) (λ b x w. root_kept number (version_in old.documents) b asked.0 asked.1 r.bound m x w) h.roots r.within)
        (record { doc = p.doc; read = p.read; there = subst (λ n. files' (history_name n) ≡ Some bytes) (asked.0 ∙ sym p.next.number) m.there }));
    timestamp = tt;
    snapshot = tt;
    targets = tt;
  })
  adopted_put Timestamp old new asked r p m h = subst (HoldsAdopted files') (sym p.new_is) (record {
    roots = roots_kept files files' (drop 1 old.documents.roots) (λ n x f. m.others (Root n) x (apart (history_name n) timestamp_name refl) f) h.roots;
    timestamp = m.there ∙ ap Some (sym p.bytes_is);
    snapshot = some_kept (bytes_in Snapshot old.documents) files files' snapshot_name (λ x f. m.others Snapshot x (apart snapshot_name timestamp_name refl) f) h.snapshot;
    targets = some_kept (bytes_in Targets old.documents) files files' targets_name (λ x f. m.others Targets x (apart targets_name timestamp_name refl) f) h.targets;
  })
  adopted_put Snapshot old new asked r p m h = subst (HoldsAdopted files') (sym p.new_is) (record {
    roots = roots_kept files files' (drop 1 old.documents.roots) (λ n x f. m.others (Root n) x (apart (history_name n) snapshot_name refl) f) h.roots;
    timestamp = some_kept (bytes_in Timestamp old.documents) files files' timestamp_name (λ x f. m.others Timestamp x (apart timestamp_name snapshot_name refl) f) h.timestamp;
    snapshot = m.there ∙ ap Some (sym p.bytes_is);
    targets = tt;
  })
  adopted_put Targets old new asked r p m h = subst (HoldsAdopted files') (sym p.new_is) (record {
    roots = roots_kept files files' (drop 1 old.documents.roots) (λ n x f. m.others (Root n) x (apart (history_name n) targets_name refl) f) h.roots;
    timestamp = some_kept (bytes_in Timestamp old.documents) files files' timestamp_name (λ x f. m.others Timestamp x (apart timestamp_name targets_name refl) f) h.timestamp;
    snapshot = some_kept (bytes_in Snapshot old.documents) files files' snapshot_name (λ x f. m.others Snapshot x (apart snapshot_name targets_name refl) f) h.snapshot;
    targets = subst (λ o. IfSome (option_map (λ held. held.bytes) o) (IsFiled files' targets_name)) (sym (top_inserted old.documents p.held)) (m.there ∙ ap Some (sym p.bytes_is));
  })

  -- the last root stays, where none is put in force
  last_stays : (k : Kind) (old new : InForce) → NotRoot k → Puts crypto old bytes k now new → ((x : List ℕ) → files root_file ≡ Some x → files' root_file ≡ Some x) → HasLastRoot files old.roots → HasLastRoot files' new.roots
  last_stays (Root number) old new n p f h = absurd n
  last_stays Timestamp old new n p f h = subst (λ (s : InForce). HasLastRoot files' s.roots) (sym p.new_is) (some_kept (last_or None old.roots) files files' root_file f h)
  last_stays Snapshot old new n p f h = subst (λ (s : InForce). HasLastRoot files' s.roots) (sym p.new_is) (some_kept (last_or None old.roots) files files' root_file f h)
  last_stays Targets old new n p f h = subst (λ (s : InForce). HasLastRoot files' s.roots) (sym p.new_is) (some_kept (last_or None old.roots) files files' root_file f h)

-- the last root, once a document was written
root_file_kept : (consistent : Bool) (pin : Option MetaFile) (bytes : List ℕ) (files : Files) → files_all bytes (both_names consistent pin snapshot_name) files root_file ≡ files root_file
root_file_kept consistent None bytes files = with_other snapshot_name bytes root_file files (apart root_file snapshot_name refl)
root_file_kept false (Some pin) bytes files = with_other snapshot_name bytes root_file files (apart root_file snapshot_name refl)
root_file_kept true (Some pin) bytes files =
    with_other snapshot_name bytes root_file (with_file (versioned_name pin.version snapshot_name) bytes files) (apart root_file snapshot_name refl)
    ∙ with_other (versioned_name pin.version snapshot_name) bytes root_file files (λ e. never_versioned pin.version snapshot_name 114 _ (omega arith) e)

last_written : (crypto : Crypto) (k : Kind) (now : Option jiff.Timestamp) (bytes : List ℕ) (files : Files) (old new : InForce) → Puts crypto old bytes k now new → HasLastRoot files old.roots → HasLastRoot (files_all bytes (kept_names new k) files) new.roots
last_written crypto (Root number) now bytes files old new p h =
    subst (λ o. IfSome o (IsFiled (files_all bytes (kept_names new (Root number)) files) root_file)) (sym (bytes_put crypto old new bytes (Root number) now p)) (with_this root_file bytes (with_file (history_name number) bytes files))
last_written crypto Timestamp now bytes files old new p h =
    last_stays crypto now bytes files (with_file timestamp_name bytes files) Timestamp old new tt p (λ x f. with_other timestamp_name bytes root_file files (apart root_file timestamp_name refl) ∙ f) h
last_written crypto Snapshot now bytes files old new p h =
    last_stays crypto now bytes files (files_all bytes (kept_names new Snapshot) files) Snapshot old new tt p (λ x f. root_file_kept (is_consistent new) (snapshot_pin_in new) bytes files ∙ f) h
last_written crypto Targets now bytes files old new p h =
    last_stays crypto now bytes files (with_file targets_name bytes files) Targets old new tt p (λ x f. with_other targets_name bytes root_file files (apart root_file targets_name refl) ∙ f) h

both_good : (consistent : Bool) (pin : Option MetaFile) → AreGood (both_names consistent pin snapshot_name)
both_good consistent None = (refl, tt)
both_good false (Some pin) = (refl, tt)
both_good true (Some pin) = (versioned_good pin.version, (refl, tt))

good_names : (set : InForce) (k : Kind) → AreGood (kept_names set k)
good_names set (Root number) = (history_good number, (refl, tt))
good_names set Timestamp = (refl, tt)
good_names set Snapshot = both_good (is_consistent set) (snapshot_pin_in set)
good_names set Targets = (refl, tt)

-- ---- each change keeps what a store has

pub record Keeping (H : Files → InForce → Type 0) (crypto : Crypto) (old new : State) (result : Result ⊤ Error) : Type 0 where
  pub later : old.store.faults ≤ new.store.faults
  pub authorised : IsAuthorised crypto old.documents → IsAuthorised crypto new.documents
  pub kept : IsAuthorised crypto old.documents → result ≢ Err tuf.NoMemory → Quiet old.store.faults new.store.faults → IfTold old.store.told (λ files. H files old.documents)
      → IfTold new.store.told (λ files. H files new.documents)

module _ (H : Files → InForce → Type 0) (crypto : Crypto) where
  joins : (a b c : State) (result : Result ⊤ Error) → Keeping H crypto a b (Ok tt) → Keeping H crypto b c result → Keeping H crypto a c result
  joins a b c result p q = record {
    later = le_trans p.later q.later;
    authorised = λ k. q.authorised (p.authorised k);
    kept = λ k most quiet h.
        q.kept (p.authorised k) most (quiet_second a.store.faults b.store.faults c.store.faults p.later q.later quiet)
        (p.kept k (λ e. cc) (quiet_first a.store.faults b.store.faults c.store.faults p.later q.later quiet) h);
  }

  unmoved : (old new : State) (result : Result ⊤ Error) → new.documents ≡ old.documents → new.store.told ≡ old.store.told → old.store.faults ≤ new.store.faults → Keeping H crypto old new result
  unmoved old new result d s later = record {
    later = later;
    authorised = λ k. subst (IsAuthorised crypto) (sym d) k;
    kept = λ k most quiet h. subst (λ t. IfTold t (λ files. H files new.documents)) (sym s) (subst (λ set. IfTold old.store.told (λ files. H files set)) (sym d) h);
  }

  stays : (a : State) (result : Result ⊤ Error) → Keeping H crypto a a result
  stays a result = unmoved a a result refl refl (le_refl a.store.faults)

  same_store : (old new : State) (result : Result ⊤ Error) → new.documents ≡ old.documents → new.store ≡ old.store → Keeping H crypto old new result
  same_store old new result d s = unmoved old new result d (ap (λ (w : Watched Files). w.told) s) (subst (λ (w : Watched Files). old.store.faults ≤ w.faults) (sym s) (le_refl old.store.faults))

  same_state : (old new : State) (result : Result ⊤ Error) → new ≡ old → Keeping H crypto old new result
  same_state old new result e = subst (λ n. Keeping H crypto old n result) (sym e) (stays old result)

  same_result : (old new : State) (result said : Result ⊤ Error) → result ≡ said → Keeping H crypto old new said → Keeping H crypto old new result
  same_result old new result said e p = subst (Keeping H crypto old new) (sym e) p

  loaded : (k : Kind) (old new : State) (file : Result (Option (List ℕ)) Error) (result : Result ⊤ Error) → LoadsNamed (kept_name k) old.store new.store file → new.documents ≡ old.documents → Keeping H crypto old new result
  loaded k old new file result l d = let t = loaded_told (kept_name k) old.store new.store file l in unmoved old new result d t.0 t.1

  -- a document of the store that is put in force
  seeds : (k : Kind) (now : Option jiff.Timestamp) (old new : State) (answer : Result Bool Error)
      → ((bytes : List ℕ) (files : Files) → RootFacts old.documents.roots old.documents.root → Puts crypto old.documents bytes k now new.documents → files (kept_name k) ≡ Some bytes → H files old.documents → H files new.documents)
      → Seeds crypto k now old new answer → Keeping H crypto old new (said answer)
  seeds k now old new answer put (unloaded e l u r) = loaded k old new (Err e) (said answer) l u.documents
  seeds k now old new answer put (unkept l u r) = loaded k old new (Ok None) (said answer) l u.documents
  seeds k now old new answer put (unseeded bytes e l j u r) = loaded k old new (Ok (Some bytes)) (said answer) l u.documents
  seeds k now old new answer put (equal bytes l j u r) = loaded k old new (Ok (Some bytes)) (said answer) l u.documents
  seeds k now old new answer put (seeded bytes l j s r) =
      let t = loaded_told (kept_name k) old.store new.store (Ok (Some bytes)) l in
      let p = judged_puts crypto old.documents bytes k now new.documents j in
      record {
        later = t.1;
        authorised = λ a. stays_whole crypto old.documents new.documents (judged_stays crypto k now old.documents new.documents bytes j) a;
        kept = λ a most quiet h.
            subst (λ t. IfTold t (λ files. H files new.documents)) (sym t.0)
            (told_both (λ files. files (kept_name k) ≡ Some bytes) (λ files. H files old.documents) (λ files. H files new.documents) old.store.told (λ files f h. put bytes files (facts crypto old.documents a) p f h)
            (loaded_had (kept_name k) old.store new.store bytes l) h);
      }

-- what was adopted stays, whatever the store's document is
seeds_adopted : (crypto : Crypto) (k : Kind) (now : Option jiff.Timestamp) (old new : State) (answer : Result Bool Error) → IsAsked k old → Seeds crypto k now old new answer → Keeping HoldsAdopted crypto old new (said answer)
seeds_adopted crypto k now old new answer asked s =
    seeds HoldsAdopted crypto k now old new answer (λ bytes files r p f h. adopted_put crypto now bytes files files k old new.documents asked r p (stayed k bytes files f) h) s

-- and the last root, where it is no root
seeds_keep : (crypto : Crypto) (k : Kind) (now : Option jiff.Timestamp) (old new : State) (answer : Result Bool Error) → NotRoot k → Seeds crypto k now old new answer → Keeping HoldsInForce crypto old new (said answer)
seeds_keep crypto k now old new answer n s =
    seeds HoldsInForce crypto k now old new answer
    (λ bytes files r p f h. record {
      root = last_stays crypto now bytes files files k old.documents new.documents n p (λ x f. f) h.root;
      adopted = adopted_put crypto now bytes files files k old new.documents (asked_later k old n) r p (stayed k bytes files f) h.adopted;
    }) s

-- ---- a store that is handed in

agrees : (name bytes q : List ℕ) (files : Files) → files name ≡ Some bytes → with_file name bytes files q ≡ files q
agrees name bytes q files h = by_test (bytes_eq q name) refl
  where
    by_test : (b : Bool) → bytes_eq q name ≡ b → with_file name bytes files q ≡ files q
    by_test true e = ap (λ b. if b then Some bytes else files q) e ∙ (sym h ∙ ap files (sym ((bytes_eq-Decides q name).0 e)))
    by_test false e = ap (λ b. if b then Some bytes else files q) e

-- the last root, written once more under its number
roots_again : (files : Files) (roots : List (List ℕ)) (root : Document declared.Root) (bytes : List ℕ) → RootFacts roots root → last_or None roots ≡ Some bytes → AllByRecursion (HasRoot files) (drop 1 roots)
    → AllByRecursion (HasRoot (with_file (history_name (numbered root)) bytes files)) (drop 1 roots)
roots_again files [] root bytes r l h = tt
roots_again files (b ∷ []) root bytes r l h = tt
roots_again files (b ∷ c ∷ cs) root bytes r l h =
    let last = all_last (HasRoot files) c cs bytes h l in
    let doc : last.doc ≡ root = same_doc bytes last.doc root last.read (r.last bytes l) in
    let there : files (history_name (numbered root)) ≡ Some bytes = subst (λ (d : Document declared.Root). files (history_name (numbered d)) ≡ Some bytes) doc last.there in
    roots_kept files (with_file (history_name (numbered root)) bytes files) (c ∷ cs) (λ n x f. agrees (history_name (numbered root)) bytes (history_name n) files there ∙ f) h

again : (files : Files) (set : InForce) (bytes : List ℕ) → RootFacts set.roots set.root → last_or None set.roots ≡ Some bytes → HoldsAdopted files set → HoldsInForce (files_all bytes (kept_names set (Root (version_in set))) files) set
again files set bytes r l h = record {
  root = subst (λ o. IfSome o (IsFiled files' root_file)) (sym l) (with_this root_file bytes once);
  adopted = record {
    roots = roots_kept once files' (drop 1 set.roots) (λ n x f. with_other root_file bytes (history_name n) once (apart (history_name n) root_file refl) ∙ f) (roots_again files set.roots set.root bytes r l h.roots);
    timestamp = some_kept (bytes_in Timestamp set) files files' timestamp_name (λ x f. others Timestamp (apart timestamp_name (history_name (version_in set)) refl) ∙ f) h.timestamp;
    snapshot = some_kept (bytes_in Snapshot set) files files' snapshot_name (λ x f. others Snapshot (apart snapshot_name (history_name (version_in set)) refl) ∙ f) h.snapshot;
    targets = some_kept (bytes_in Targets set) files files' targets_name (λ x f. others Targets (apart targets_name (history_name (version_in set)) refl) ∙ f) h.targets;
  };
}
  where
    once : Files
    once = with_file (history_name (version_in set)) bytes files

    files' : Files
    files' = with_file root_file bytes once

    others : (q : Kind) → kept_name q ≢ history_name (version_in set) → files' (kept_name q) ≡ files (kept_name q)
    others q n = with_other root_file bytes (kept_name q) once (λ e. never_root_file q e) ∙ with_other (history_name (version_in set)) bytes (kept_name q) files n

-- the root in force is there
last_is_there : (given : List ℕ) (roots : List (List ℕ)) → BeginsWith given roots → (bytes : List ℕ) × (last_or None roots ≡ Some bytes)
last_is_there given [] h = absurd h
last_is_there given (b ∷ bs) h = last_there b bs

saves_root : (crypto : Crypto) (old new : State) → IsAuthorised crypto old.documents → Quiet old.store.faults new.store.faults → SavesRoot old new (Ok tt) → KeepsAdopted old → KeepsInForce new
saves_root crypto old new a quiet s h =
    let last = last_is_there (given_in old.documents) old.documents.roots a.roots.begins in
    let w = subst (λ b. KeepsWhere (kept_names old.documents (Root (version_in old.documents))) b old.store new.store (Ok tt)) last.1 s.written in
    let r = facts crypto old.documents a in
    subst (λ set. IfTold new.store.told (λ files. HoldsInForce files set)) (sym s.documents)
    (all_put (λ files. HoldsInForce files old.documents) last.0 (kept_names old.documents (Root (version_in old.documents))) old.store new.store (Ok tt) (good_names old.documents (Root (version_in old.documents))) (λ e. cc) quiet w.saves
    (told_map (λ files. HoldsAdopted files old.documents) (λ files. HoldsInForce (files_all last.0 (kept_names old.documents (Root (version_in old.documents))) files) old.documents) old.store.told (λ files h. again files old.documents last.0 r last.1 h) h))

pub where_later : (set : InForce) (k : Kind) (bytes : Option (List ℕ)) (old new : Watched Files) (result : Result ⊤ Error) → KeepsWhere (kept_names set k) bytes old new result → old.faults ≤ new.faults
where_later set k None old new result (s, r) = subst (λ (w : Watched Files). old.faults ≤ w.faults) (sym s) (le_refl old.faults)
where_later set k (Some bytes) old new result w = all_later bytes (kept_names set k) old new result w.saves

recalls_keep : (crypto : Crypto) (n : ℕ) (old new : State) (result : Result ⊤ Error) → Repeats (λ k. Seeds crypto k None) (root_loop (Ok tt)) n tt old new result → Keeping HoldsAdopted crypto old new result
recalls_keep crypto n old new result r =
    roots_lift (Keeping HoldsAdopted crypto) (joins HoldsAdopted crypto) (λ a. stays HoldsAdopted crypto a (Ok tt)) (λ k. Seeds crypto k None) (λ k old new answer asked s. seeds_adopted crypto k None old new answer asked s)
    (Ok tt) (λ a. stays HoldsAdopted crypto a (Ok tt)) n old new result r

pub attach_later : (crypto : Crypto) (old new : State) (result : Result ⊤ Error) → Attaches crypto old new result → old.store.faults ≤ new.store.faults
attach_later crypto old new result (roots_unrecalled e r is) = (recalls_keep crypto (roots_left old.documents) old new (Err e) r).later
attach_later crypto old new result (roots_recalled mid r s) =
    le_trans (recalls_keep crypto (roots_left old.documents) old mid (Ok tt) r).later
    (where_later mid.documents (Root (version_in mid.documents)) (bytes_in (Root (version_in mid.documents)) mid.documents) mid.store new.store result s.written)

pub attach_kept : (crypto : Crypto) (old new : State) (result : Result ⊤ Error) → IsAuthorised crypto old.documents → Attaches crypto old new result → AttachesKept old new result
attach_kept crypto old new (Err e) a t = tt
attach_kept crypto old new (Ok x) a (roots_unrecalled e r is) = cc
attach_kept crypto old new (Ok x) a (roots_recalled mid r s) = λ quiet h.
    let k = recalls_keep crypto (roots_left old.documents) old mid (Ok tt) r in
    let l = where_later mid.documents (Root (version_in mid.documents)) (bytes_in (Root (version_in mid.documents)) mid.documents) mid.store new.store (Ok x) s.written in
    saves_root crypto mid new (k.authorised a) (quiet_second old.store.faults mid.store.faults new.store.faults k.later l quiet) s
    (k.kept a (λ e. cc) (quiet_first old.store.faults mid.store.faults new.store.faults k.later l quiet) h)

-- with a first root nothing was adopted yet
pub first_kept : (crypto : Crypto) (bytes : List ℕ) (set : InForce) (files : Files) → first_root_of crypto bytes ≡ Ok set → HoldsAdopted files set
unfolding first_root_of
first_kept crypto bytes set files h =
    let a = step_ok (root_document bytes) _ set h in
    let b = step_ok (meets_role_of crypto (content_in a.0) (codes "root") a.0) _ set a.2 in
    subst (HoldsAdopted files) (ok_same _ set b.2) (record { roots = tt; timestamp = tt; snapshot = tt; targets = tt })

-- ---- a refresh

module _ (session : Session) where
  abbrev P : State → State → Result ⊤ Error → Type 0
  P = Keeping HoldsInForce session.crypto

  wanted : (answer : Result Bool Error) (written : Result ⊤ Error) → said answer ≢ Err tuf.NoMemory → answer ≡ there_of written → written ≢ Err tuf.NoMemory
  wanted answer written most r e = most (ap said (r ∙ ap there_of e))

  adopts_keep : (k : Kind) (old new : State) (answer : Result Bool Error) → IsAsked k old → Adopts session k old new answer → P old new (said answer)
  adopts_keep k old new answer asked (unfetched e f u r) = same_store HoldsInForce session.crypto old new (said answer) u.documents u.store
  adopts_keep k old new answer asked (absent f u r) = same_store HoldsInForce session.crypto old new (said answer) u.documents u.store
  adopts_keep k old new answer asked (refused bytes e f j u r) = same_store HoldsInForce session.crypto old new (said answer) u.documents u.store
  adopts_keep k old new answer asked (kept bytes f j u r) = same_store HoldsInForce session.crypto old new (said answer) u.documents u.store
  adopts_keep k old new answer asked (adopted bytes result f j w r) =
      let p = judged_puts session.crypto old.documents bytes k (Some session.now) new.documents j in
      record {
        later = all_later bytes (kept_names new.documents k) old.store new.store result w.saves;
        authorised = λ a. stays_whole session.crypto old.documents new.documents (judged_stays session.crypto k (Some session.now) old.documents new.documents bytes j) a;
        kept = λ a most quiet h.
            let facts = facts session.crypto old.documents a in
            all_put (λ files. HoldsInForce files new.documents) bytes (kept_names new.documents k) old.store new.store result (good_names new.documents k) (wanted answer result most r) quiet w.saves
            (told_map (λ files. HoldsInForce files old.documents) (λ files. HoldsInForce (files_all bytes (kept_names new.documents k) files) new.documents) old.store.told
            (λ files h. record {
              root = last_written session.crypto k (Some session.now) bytes files old.documents new.documents p h.root;
              adopted = adopted_put session.crypto (Some session.now) bytes files (files_all bytes (kept_names new.documents k) files) k old new.documents asked facts p (written new.documents k bytes files) h.adopted;
            }) h);
      }

  checks_keep : (test : InForce → Result ⊤ Error) (old new : State) (result : Result ⊤ Error) → Checks test old new result → P old new result
  checks_keep test old new result c = same_state HoldsInForce session.crypto old new result c.same

  reseeds_keep : (k : Kind) (old new : State) (result : Result ⊤ Error) → NotRoot k → Reseeds session k old new result → P old new result
  reseeds_keep k old new result n (inl (there, same, is)) = same_state HoldsInForce session.crypto old new result same
  reseeds_keep k old new result n (inr (none, (answer, s, is))) =
      same_result HoldsInForce session.crypto old new result (said answer) is (seeds_keep session.crypto k (moment_of k session.now) old new answer n s)

  refetches_keep : (k : Kind) (old new : State) (result : Result ⊤ Error) → NotRoot k → Refetches session k old new result → P old new result
  refetches_keep k old new result n (inl (current, same, is)) = same_state HoldsInForce session.crypto old new result same
  refetches_keep k old new result n (inr (other, (answer, a, is))) = same_result HoldsInForce session.crypto old new result (said answer) is (adopts_keep k old new answer (asked_later k old n) a)

  does_keep : (step : Step) (old new : State) (result : Result ⊤ Error) → AsksNoRoot step → Does session step old new result → P old new result
  does_keep WalkRoots old new result asks d =
      roots_lift P (joins HoldsInForce session.crypto) (λ a. stays HoldsInForce session.crypto a (Ok tt)) (Adopts session) adopts_keep (Err (tuf.Transport (transport.Rotations session.config.max_root_rotations)))
      (λ a. stays HoldsInForce session.crypto a _) session.config.max_root_rotations old new result d
  does_keep CheckRoot old new result asks d = checks_keep _ old new result d
  does_keep (Seed k) old new result asks d = reseeds_keep k old new result asks d
  does_keep (Fetch k) old new result asks d = refetches_keep k old new result asks d
  does_keep CheckTimestamp old new result asks d = checks_keep _ old new result d
  does_keep CheckSnapshot old new result asks d = checks_keep _ old new result d

  runs_keep : (steps : List Step) (old new : State) (result : Result ⊤ Error) → AskNoRoots steps → Runs session steps old new result → P old new result
  runs_keep [] old new result asks (same, is) = same_state HoldsInForce session.crypto old new result same
  runs_keep (step ∷ steps) old new result asks (inl (e, d, is)) = same_result HoldsInForce session.crypto old new result (Err e) is (does_keep step old new (Err e) asks.0 d)
  runs_keep (step ∷ steps) old new result asks (inr (mid, d, r)) = joins HoldsInForce session.crypto old mid new result (does_keep step old mid (Ok tt) asks.0 d) (runs_keep steps mid new result asks.1 r)

  refresh_keep : (old new : State) (result : Result ⊤ Error) → RunsSteps session refresh_steps old new result → P old new result
  refresh_keep old new result r = runs_keep refresh_steps old new result (tt, (tt, (tt, (tt, (tt, (tt, (tt, (tt, (tt, (tt, tt)))))))))) r.runs

  pub refresh_later : (old new : State) (result : Result ⊤ Error) → RunsSteps session refresh_steps old new result → old.store.faults ≤ new.store.faults
  refresh_later old new result r = (refresh_keep old new result r).later

  pub refresh_kept : (old new : State) (result : Result ⊤ Error) → IsAuthorised session.crypto old.documents → RunsSteps session refresh_steps old new result → StaysKept old new result
  refresh_kept old new result a r = λ most quiet h. (refresh_keep old new result r).kept a most quiet h
