-- The walk over an offered chain's roots reaches the last of them, unless memory is wanting.
use Rattle.std.proofs.Common.{◌≡◌, ◌≢◌, ◌⊎◌, inl, inr, ℕ, zero, suc, ◌+◌, ◌-◌, ◌^◌, ◌<◌, ◌≤◌, ◌==◌, List, [], ◌∷◌, ◌++◌, length, append_assoc, Bool, true, false, if◌then◌else◌, bytes_eq, Option, Some, None, Result, Ok, Err, codes, refl, sym, ap, ◌∙◌, subst, arith, le_refl, le_trans}
use Rattle.std.specs.Prelude.{⊤, IfErr}
use Rattle.std.specs.List.{AllZip, last_or}
use Rattle.std.proofs.lemmas.Bool.Decides.{nat_tests}
use Rattle.std.proofs.lemmas.Slice.Eq.{bytes_eq-Decides}
use Rattle.jiff_core.specs.declared.timestamp.Timestamp as jiff
use Rattle.foundation.specs.Watched.{Watched, Since}
use Rattle.foundation.specs.Results.{ok_same, err_same, some_same, no_both}
use Rattle.sigstore_keys.specs.Crypto.{Crypto}
use Rattle.sigstore_tuf_text.specs.declared.error.Error.{Error}
use Rattle.sigstore_tuf_text.specs.declared.error.Error.TheVariants as tuf
use Rattle.sigstore_tuf_parts.specs.declared.root.Root as declared
use Rattle.sigstore_tuf_parts.specs.Document.{Document, content_in}
use Rattle.sigstore_tuf_text.specs.Names.{root_name, timestamp_name, snapshot_name, targets_name}
use Rattle.sigstore_tuf_parts.proofs.ReadExact.{version_bound}
use Rattle.sigstore_tuf_parts.specs.RootRoles.{root_document, meets_role_of, IsNextRoot, AreNextRoots}
use Rattle.sigstore_tuf_rules.specs.declared.chain.TrustChain.{TrustChain}
use Rattle.sigstore_tuf_rules.specs.declared.documents.InForce.{InForce}
use Rattle.sigstore_tuf_rules.specs.declared.kind.Kind.{Kind}
use Rattle.sigstore_tuf_rules.specs.declared.kind.Kind.TheVariants.{Root}
use Rattle.sigstore_tuf_outside.specs.Repository.{Quiet, Folders, Files}
use Rattle.sigstore_tuf_outside.specs.Store.{with_file}
use Rattle.sigstore_tuf_rules.specs.Names.{history_name, root_file, kept_name, kept_names, kept_target}
use Rattle.sigstore_tuf_runs.specs.State.{Session, State}
use Rattle.sigstore_tuf_rules.specs.Update.{with_root, next_number_of, root_checks_of, update_root_of}
use Rattle.sigstore_tuf_rules.specs.Taking.{bytes_in, judged_of}
use Rattle.sigstore_tuf_runs.specs.Adopt.{LoadsNamed, KeepsWhere, Adopts, passed_over, Seeds, unloaded, unkept, unseeded, equal as seed_equal, seeded}
use Rattle.sigstore_tuf_rules.specs.Serving.{version_in}
use Rattle.sigstore_tuf_runs.specs.Run.{Turn, IsIdle, Stops, Repeats, next_root, alone, root_loop, roots_left, SavesRoot, Attaches, roots_unrecalled, roots_recalled}
use Rattle.sigstore_tuf_offers.specs.Offer.{IsServed, AreServedAfter, RootsEnd, IsNoneOr, AreKeptAfter}
use Rattle.sigstore_tuf_causes.proofs.Carrying.{since_same, since_joins, loaded_same, adopt_carried}
use Rattle.sigstore_tuf_runs.proofs.Steps.{passes, load_wants, keeps_want}
use Rattle.sigstore_tuf_runs.proofs.Lift.{next_root_is, roots_lift}
use Rattle.sigstore_tuf_causes.proofs.RootNames.{same_number}
use Rattle.sigstore_tuf_rules.proofs.Updates.{last_is}
use Rattle.sigstore_tuf_causes.proofs.Faults.{quiet_first, quiet_second}
use Rattle.sigstore_tuf_causes.proofs.RolesMet.{step_to, role_ok}
use Rattle.sigstore_tuf_offers.proofs.Completing.{equal, if_true, Done, wanting, done, Answers, wants, answers, Took, Left, adopts_there, adopts_lacking, TellsSo, AreHarmless, tells_same, keeps_so, took_so, loaded_is, none_or_put, found_wanted}
use Rattle.sigstore_tuf_offers.proofs.Offered.{Ahead, Offered}

-- ---- a next root is judged well

root_checked : (crypto : Crypto) (old doc : Document declared.Root) → IsNextRoot crypto old doc → root_checks_of crypto old doc ≡ Ok tt
unfolding root_checks_of
root_checked crypto old doc n =
    step_to (next_number_of (content_in {T = declared.Root} old).version (content_in {T = declared.Root} doc).version) _ tt (if_true _ _ (equal _ _ n.number))
    ∙ step_to (meets_role_of crypto (content_in {T = declared.Root} old) (codes "root") doc) _ tt (role_ok crypto _ _ doc n.handed_on)
    ∙ role_ok crypto _ _ doc n.own

root_updated : (crypto : Crypto) (set : InForce) (bytes : List ℕ) (doc : Document declared.Root) → root_document bytes ≡ Ok doc → IsNextRoot crypto set.root doc → update_root_of crypto set bytes ≡ Ok (with_root set bytes doc)
unfolding update_root_of
root_updated crypto set bytes doc read n =
    step_to (root_document bytes) _ doc read ∙ step_to (root_checks_of crypto set.root doc) _ tt (root_checked crypto set.root doc n)

root_judged : (crypto : Crypto) (number : ℕ) (set : InForce) (bytes : List ℕ) (now : Option jiff.Timestamp) (doc : Document declared.Root) → root_document bytes ≡ Ok doc → IsNextRoot crypto set.root doc
    → judged_of crypto (Root number) set bytes now ≡ Ok (Some (with_root set bytes doc))
root_judged crypto number set bytes now doc read n = rw (root_updated crypto set bytes doc read n)

-- ---- numbers

abbrev pub number_of : Document declared.Root → ℕ
number_of doc = (content_in {T = declared.Root} doc).version

no_next : (set : InForce) → alone (next_root set) ≡ None → version_in set ≡ 2 ^ 64 - 1
no_next set h = by_test (version_in set == 2 ^ 64 - 1) refl h
  where
    by_test : (b : Bool) → (version_in set == 2 ^ 64 - 1) ≡ b → alone (if b then None else Some (version_in set + 1)) ≡ None → version_in set ≡ 2 ^ 64 - 1
    by_test true e h = grind (arith, nat_tests)
    by_test false e h = cc

small_next : (n : ℕ) → n < 2 ^ 64 → n ≢ 2 ^ 64 - 1 → n + 1 < 2 ^ 64
small_next n h other = by_test (n == 2 ^ 64 - 1) refl
  where
    by_test : (b : Bool) → (n == 2 ^ 64 - 1) ≡ b → n + 1 < 2 ^ 64
    by_test true e = absurd (other (grind (arith, nat_tests)))
    by_test false e = grind (arith, nat_tests)

-- fewer roots end within the limit too
pub end_of_fewer : (files : Files) (newer fewer max last : ℕ) → fewer ≤ newer → RootsEnd files newer max last → RootsEnd files fewer max last
end_of_fewer files newer fewer max last le (inl (few, none)) = inl (omega (arith, le, few), none)
end_of_fewer files newer fewer max last le (inr (few, greatest)) = inr (omega (arith, le, few), greatest)

end_of_later : (files : Files) (newer max last : ℕ) → RootsEnd files (suc newer) (suc max) last → RootsEnd files newer max last
end_of_later files newer max last (inl (few, none)) = inl (omega (arith, few), none)
end_of_later files newer max last (inr (few, greatest)) = inr (omega (arith, few), greatest)

none_left : (bs : List (List ℕ)) (b : List ℕ) → length (b ∷ bs) ≤ 0 → ⊥
none_left bs b h = omega (arith, h)

-- ---- what a seeding does

-- documents and repository stay, and so does what the store tells
pub record Passed (old new : State) : Type 0 where
  pub documents : new.documents ≡ old.documents
  pub repo : new.repo ≡ old.repo
  pub told : new.store.told ≡ old.store.told

-- memory was wanting, nothing was put in force, or the bytes that were loaded were
pub data Seeded (crypto : Crypto) (k : Kind) (now : Option jiff.Timestamp) (old new : State) (answer : Result Bool Error) : Type 0 where
  seed_wants : answer ≡ Err tuf.NoMemory → Seeded crypto k now old new answer
  seed_passed : answer ≡ Ok false → Passed old new → Seeded crypto k now old new answer
  seed_put : answer ≡ Ok true → (bytes : List ℕ) → LoadsNamed (kept_name k) old.store new.store (Ok (Some bytes))
      → judged_of crypto k old.documents bytes now ≡ Ok (Some new.documents) → new.repo ≡ old.repo → Seeded crypto k now old new answer

pub seeds_so : (crypto : Crypto) (k : Kind) (now : Option jiff.Timestamp) (old new : State) (answer : Result Bool Error) → Seeds crypto k now old new answer → Seeded crypto k now old new answer
seeds_so crypto k now old new answer (unloaded e l u r) = seed_wants (r ∙ ap Err (load_wants (kept_name k) old.store new.store e l))
seeds_so crypto k now old new answer (unkept l u r) = seed_passed r (record { documents = u.documents; repo = u.repo; told = loaded_same (kept_name k) old.store new.store (Ok None) l })
seeds_so crypto k now old new answer (unseeded bytes e l j u r) = by_answer (passes e)
  where
    by_answer : (passed_over e ≡ Ok false) ⊎ (passed_over e ≡ Err tuf.NoMemory) → Seeded crypto k now old new answer
    by_answer (inl p) = seed_passed (r ∙ p) (record { documents = u.documents; repo = u.repo; told = loaded_same (kept_name k) old.store new.store (Ok (Some bytes)) l })
    by_answer (inr p) = seed_wants (r ∙ p)
seeds_so crypto k now old new answer (seed_equal bytes l j u r) = seed_passed r (record { documents = u.documents; repo = u.repo; told = loaded_same (kept_name k) old.store new.store (Ok (Some bytes)) l })
seeds_so crypto k now old new answer (seeded bytes l j s r) = seed_put r bytes l j s

false_true : {C : Type 0} → ◌≡◌ {A = Result Bool Error} (Ok false) (Ok true) → C
false_true h = cc

true_false : {C : Type 0} → ◌≡◌ {A = Result Bool Error} (Ok true) (Ok false) → C
true_false h = cc

-- ---- the store's roots

-- a root that may be written under this number: where one of the list has that number it is that one, and none has a lower one
abbrev pub SuitsRoots : ℕ → List (List ℕ) → ℕ → List ℕ → Type 0
SuitsRoots version [] n x = n ≤ version
SuitsRoots version (b ∷ bs) n x = (n ≡ version + 1 → x ≡ b) × SuitsRoots (version + 1) bs n x

pub low_suits : (version : ℕ) (bs : List (List ℕ)) (n : ℕ) (x : List ℕ) → n ≤ version → SuitsRoots version bs n x
low_suits version [] n x h = h
low_suits version (b ∷ bs) n x h = (λ e. absurd (omega (arith, e, h)), low_suits (version + 1) bs n x (omega (arith, h)))

first_suits : (version : ℕ) (b : List ℕ) (bs : List (List ℕ)) → SuitsRoots version (b ∷ bs) (version + 1) b
first_suits version b bs = (λ e. refl, low_suits (version + 1) bs (version + 1) b (le_refl (version + 1)))

-- what suits the roots ahead suits all
abbrev pub IsPlace : ℕ → List (List ℕ) → ℕ → List (List ℕ) → Type 0
IsPlace from whole version rest = (n : ℕ) (x : List ℕ) → version < n → SuitsRoots version rest n x → SuitsRoots from whole n x

later_place : (from : ℕ) (whole : List (List ℕ)) (version : ℕ) (b : List ℕ) (bs : List (List ℕ)) → IsPlace from whole version (b ∷ bs) → IsPlace from whole (version + 1) bs
later_place from whole version b bs p n x less s = p n x (omega (arith, less)) (λ e. absurd (omega (arith, less, e)), s)

-- a write under another name, and that of a root, leave what the store has of the roots
kept_elsewhere : (files : Files) (name bytes : List ℕ) → ((n : ℕ) → bytes_eq (history_name n) name ≡ false) → (version : ℕ) (bs : List (List ℕ)) → AreKeptAfter files version bs → AreKeptAfter (with_file name bytes files) version bs
kept_elsewhere files name bytes apart version [] k = λ n less small. ap (λ b. if b then Some bytes else files (history_name n)) (apart n) ∙ k n less small
kept_elsewhere files name bytes apart version (b ∷ bs) k =
    (none_or_put files (history_name (version + 1)) name bytes (Some b) (inl (apart (version + 1))) k.0, kept_elsewhere files name bytes apart (version + 1) bs k.1)

kept_by_root : (files : Files) (n : ℕ) (x : List ℕ) → n < 2 ^ 64 → (version : ℕ) (bs : List (List ℕ)) → SuitsRoots version bs n x → version + length bs < 2 ^ 64 → AreKeptAfter files version bs → AreKeptAfter (with_file (history_name n) x files) version bs
kept_by_root files n x small version [] s bound k = λ m less little. by_test m less little (bytes_eq (history_name m) (history_name n)) refl
  where
    by_test : (m : ℕ) → version < m → m < 2 ^ 64 → (b : Bool) → bytes_eq (history_name m) (history_name n) ≡ b → (if b then Some x else files (history_name m)) ≡ None
    by_test m less little true e = let same = same_number m n little small ((bytes_eq-Decides (history_name m) (history_name n)).0 e) in absurd (omega (arith, same, less, s))
    by_test m less little false e = k m less little
kept_by_root files n x small version (b ∷ bs) s bound k =
    (by_test (bytes_eq (history_name (version + 1)) (history_name n)) refl, kept_by_root files n x small (version + 1) bs s.1 (omega (arith, bound)) k.1)
  where
    by_test : (t : Bool) → bytes_eq (history_name (version + 1)) (history_name n) ≡ t → IsNoneOr (if t then Some x else files (history_name (version + 1))) (Some b)
    by_test true e =
        let same = same_number (version + 1) n (omega (arith, bound)) small ((bytes_eq-Decides (history_name (version + 1)) (history_name n)).0 e) in
        inr (ap Some (s.0 (sym same)))
    by_test false e = k.0

-- the number of the last root is one of 64 bits
pub way_bound : (session : Session) (folders : Folders) (last doc : Document declared.Root) (rest : List (List ℕ)) (docs : List (Document declared.Root)) → number_of doc < 2 ^ 64 → Ahead session folders last doc rest docs → number_of doc + length rest < 2 ^ 64
way_bound session folders last doc rest docs bound a = by_rest doc rest docs bound a.read a.next
  where
    by_rest : (doc : Document declared.Root) (rest : List (List ℕ)) (docs : List (Document declared.Root)) → number_of doc < 2 ^ 64 → AllZip (λ bytes doc. root_document bytes ≡ Ok doc) rest docs → AreNextRoots session.crypto doc docs
        → number_of doc + length rest < 2 ^ 64
    by_rest doc [] [] bound z n = omega (arith, bound)
    by_rest doc [] (d ∷ ds) bound z n = absurd z
    by_rest doc (r ∷ rs) [] bound z n = absurd z
    by_rest doc (r ∷ rs) (d ∷ ds) bound z n =
        let later = by_rest d rs ds (version_bound r d z.0) z.1 n.1 in
        let next = n.0.number in
        omega (arith, later, next)

module _ (session : Session) (folders : Folders) (path : List ℕ) (chain : TrustChain) (o : Offered session folders path chain) (from : ℕ) (whole : List (List ℕ)) (whole_bound : from + length whole < 2 ^ 64) where
  -- ---- what the store tells

  -- each name that is read has nothing or the chain's document
  pub record IsWarm (files : Files) : Type 0 where
    pub roots : AreKeptAfter files from whole
    pub time : IsNoneOr (files timestamp_name) (Some o.time.bytes)
    pub snap : IsNoneOr (files snapshot_name) (Some o.snap.bytes)
    pub top : IsNoneOr (files targets_name) (Some o.top.bytes)
    pub file : IsNoneOr (files (kept_target path)) (Some chain.file)

  -- the bytes aren't under that name, or are what is wanted there
  abbrev Suits : List ℕ → List ℕ → List ℕ → List ℕ → Type 0
  Suits q wanted name bytes = (bytes_eq q name ≡ false) ⊎ (◌≡◌ {A = Option (List ℕ)} (Some bytes) (Some wanted))

  pub stays_warm : (name bytes : List ℕ) → Suits timestamp_name o.time.bytes name bytes → Suits snapshot_name o.snap.bytes name bytes → Suits targets_name o.top.bytes name bytes → Suits (kept_target path) chain.file name bytes
      → ((files : Files) → AreKeptAfter files from whole → AreKeptAfter (with_file name bytes files) from whole) → (files : Files) → IsWarm files → IsWarm (with_file name bytes files)
  stays_warm name bytes t s g f r files w = record {
    roots = r files w.roots;
    time = none_or_put files timestamp_name name bytes (Some o.time.bytes) t w.time;
    snap = none_or_put files snapshot_name name bytes (Some o.snap.bytes) s w.snap;
    top = none_or_put files targets_name name bytes (Some o.top.bytes) g w.top;
    file = none_or_put files (kept_target path) name bytes (Some chain.file) f w.file;
  }

  -- a write under a name that is no root's
  pub stays_elsewhere : (name bytes : List ℕ) → ((n : ℕ) → bytes_eq (history_name n) name ≡ false) → (files : Files) → AreKeptAfter files from whole → AreKeptAfter (with_file name bytes files) from whole
  stays_elsewhere name bytes apart files k = kept_elsewhere files name bytes apart from whole k

  root_harmless : (set : InForce) (number : ℕ) (bytes : List ℕ) → number < 2 ^ 64 → SuitsRoots from whole number bytes → AreHarmless IsWarm bytes (kept_names set (Root number))
  root_harmless set number bytes small suits = (
    stays_warm (history_name number) bytes (inl refl) (inl refl) (inl refl) (inl refl) (λ files k. kept_by_root files number bytes small from whole suits whole_bound k),
    (stays_warm root_file bytes (inl refl) (inl refl) (inl refl) (inl refl) (stays_elsewhere root_file bytes (λ n. refl)), tt),
  )

  -- ---- on the way along the roots

  -- this root of the chain is in force, these follow, and nothing else is in force
  pub record OnRoots (state : State) (doc : Document declared.Root) (rest : List (List ℕ)) : Type 0 where
    pub told : state.repo.told ≡ Some folders
    pub root : state.documents.root ≡ doc
    pub roots : state.documents.roots ++ rest ≡ chain.roots
    pub no_time : state.documents.timestamp ≡ None
    pub no_snap : state.documents.snapshot ≡ None
    pub no_top : state.documents.targets ≡ []
    pub bound : number_of doc < 2 ^ 64
    pub place : IsPlace from whole (number_of doc) rest
    pub suits : (bytes : List ℕ) → last_or None state.documents.roots ≡ Some bytes → SuitsRoots from whole (number_of doc) bytes
    pub warm : TellsSo IsWarm state.store

  -- the next root suits
  next_suits : (state : State) (doc next : Document declared.Root) (bytes : List ℕ) (rest : List (List ℕ)) → OnRoots state doc (bytes ∷ rest) → number_of next ≡ number_of doc + 1 → SuitsRoots from whole (number_of next) bytes
  next_suits state doc next bytes rest b e = subst (λ n. SuitsRoots from whole n bytes) (sym e) (b.place (number_of doc + 1) bytes (omega arith) (first_suits (number_of doc) bytes rest))

  on_next : (old new : State) (doc next : Document declared.Root) (bytes : List ℕ) (rest : List (List ℕ)) → OnRoots old doc (bytes ∷ rest) → root_document bytes ≡ Ok next → number_of next ≡ number_of doc + 1
      → new.documents ≡ with_root old.documents bytes next → new.repo.told ≡ old.repo.told → TellsSo IsWarm new.store → OnRoots new next rest
  on_next old new doc next bytes rest b read e d t w = record {
    told = t ∙ b.told;
    root = ap (λ (s : InForce). s.root) d;
    roots = ap (λ (s : InForce). s.roots ++ rest) d ∙ append_assoc old.documents.roots (bytes ∷ []) rest ∙ b.roots;
    no_time = ap (λ (s : InForce). s.timestamp) d;
    no_snap = ap (λ (s : InForce). s.snapshot) d;
    no_top = ap (λ (s : InForce). s.targets) d;
    bound = version_bound bytes next read;
    place = subst (λ n. IsPlace from whole n rest) (sym e) (later_place from whole (number_of doc) bytes rest b.place);
    suits = λ x at. subst (SuitsRoots from whole (number_of next)) (some_same bytes x (sym (last_is bytes old.documents.roots None) ∙ sym (ap (λ (s : InForce). last_or None s.roots) d) ∙ at)) (next_suits old doc next bytes rest b e);
    warm = w;
  }

  on_same : (old new : State) (doc : Document declared.Root) (rest : List (List ℕ)) → OnRoots old doc rest → new.documents ≡ old.documents → new.repo.told ≡ old.repo.told → TellsSo IsWarm new.store → OnRoots new doc rest
  on_same old new doc rest b d t w = record {
    told = t ∙ b.told;
    root = ap (λ (s : InForce). s.root) d ∙ b.root;
    roots = ap (λ (s : InForce). s.roots ++ rest) d ∙ b.roots;
    no_time = ap (λ (s : InForce). s.timestamp) d ∙ b.no_time;
    no_snap = ap (λ (s : InForce). s.snapshot) d ∙ b.no_snap;
    no_top = ap (λ (s : InForce). s.targets) d ∙ b.no_top;
    bound = b.bound;
    place = b.place;
    suits = λ x at. b.suits x (sym (ap (λ (s : InForce). last_or None s.roots) d) ∙ at);
    warm = w;
  }

  at_last : (state : State) (doc : Document declared.Root) → OnRoots state doc [] → Some doc ≡ Some o.root → OnRoots state o.root []
  at_last state doc b l = subst (λ doc. OnRoots state doc []) (some_same doc o.root l) b

  abbrev Way : Document declared.Root → List (List ℕ) → List (Document declared.Root) → Type 0
  Way doc rest docs = Ahead session folders o.root doc rest docs

  abbrev Ends : ℕ → ℕ → Type 0
  Ends newer max = RootsEnd folders.metadata newer max (number_of o.root)

  number_in : (state : State) (doc : Document declared.Root) (rest : List (List ℕ)) → OnRoots state doc rest → version_in state.documents ≡ number_of doc
  number_in state doc rest b = ap number_of b.root

  later_way : (doc d : Document declared.Root) (b : List ℕ) (bs : List (List ℕ)) (ds : List (Document declared.Root)) → Way doc (b ∷ bs) (d ∷ ds) → Way d bs ds
  later_way doc d b bs ds a =
      record { read = a.read.1; next = a.next.1; last_is = a.last_is; served = subst (λ n. AreServedAfter folders.metadata session.config.root_max_length n bs) (sym a.next.0.number) a.served.1 }

  -- a root of the greatest number is the chain's last
  not_greatest : {C : Type 0} (state : State) (doc d : Document declared.Root) (b : List ℕ) (bs : List (List ℕ)) (ds : List (Document declared.Root)) → OnRoots state doc (b ∷ bs) → Way doc (b ∷ bs) (d ∷ ds)
      → version_in state.documents ≡ 2 ^ 64 - 1 → C
  not_greatest state doc d b bs ds on a g =
      let bound = version_bound b d a.read.0 in
      let at = number_in state doc (b ∷ bs) on in
      let next = a.next.0.number in
      absurd (omega (arith, bound, at, next, g))

  -- ---- the repository's next roots

  module _ (limit : Result ⊤ Error) where
    idle_done : (old new : State) (result : Result ⊤ Error) (doc : Document declared.Root) (rest : List (List ℕ)) (docs : List (Document declared.Root)) (max : ℕ) → OnRoots old doc rest → Way doc rest docs → Ends (length rest) max
        → IsIdle (root_loop limit) tt old new result → Done (OnRoots new o.root []) result
    idle_done old new result doc [] [] max b a e (none, same, is) = done is (subst (λ s. OnRoots s o.root []) (sym same) (at_last old doc b a.last_is))
    idle_done old new result doc [] (d ∷ ds) max b a e i = absurd a.read
    idle_done old new result doc (r ∷ rs) [] max b a e i = absurd a.read
    idle_done old new result doc (r ∷ rs) (d ∷ ds) max b a e (none, same, is) = not_greatest old doc d r rs ds b a (no_next old.documents none)

    limit_not_met : {C : Type 0} (old : State) (doc : Document declared.Root) (rest : List (List ℕ)) (docs : List (Document declared.Root)) → OnRoots old doc rest → Way doc rest docs → Ends (length rest) 0 → version_in old.documents ≢ 2 ^ 64 - 1 → C
    limit_not_met old doc [] [] b a (inl (few, none)) other = absurd (omega (arith, few))
    limit_not_met old doc [] [] b a (inr (few, greatest)) other = absurd (other (ap number_of ((at_last old doc b a.last_is).root) ∙ greatest))
    limit_not_met old doc [] (d ∷ ds) b a e other = absurd a.read
    limit_not_met old doc (r ∷ rs) [] b a e other = absurd a.read
    limit_not_met old doc (r ∷ rs) (d ∷ ds) b a (inl (few, none)) other = absurd (omega (arith, few))
    limit_not_met old doc (r ∷ rs) (d ∷ ds) b a (inr (few, greatest)) other = absurd (none_left rs r few)

    walk_since : (n : ℕ) (old new : State) (result : Result ⊤ Error) → Repeats (Adopts session) (root_loop limit) n tt old new result → Since old.repo new.repo
    walk_since n old new result r =
        roots_lift (λ old new result. Since old.repo new.repo) (λ a b c result p q. since_joins a.repo b.repo c.repo p q) (λ a. since_same a.repo a.repo refl) (Adopts session) (λ k old new answer asked a. (adopt_carried session k old new answer asked a).since) limit
        (λ a. since_same a.repo a.repo refl) n old new result r

    -- the next root is taken
    root_taken : (old new : State) (answer : Result Bool Error) (doc d : Document declared.Root) (r : List ℕ) (rs : List (List ℕ)) (ds : List (Document declared.Root)) → OnRoots old doc (r ∷ rs) → Way doc (r ∷ rs) (d ∷ ds)
        → Quiet old.repo.faults new.repo.faults → Adopts session (Root (version_in old.documents + 1)) old new answer → Answers (OnRoots new d rs) answer (Ok true)
    root_taken old new answer doc d r rs ds b a q adopts =
        by_answer (adopts_there session folders (Root number) r old new (Some (with_root old.documents r d)) b.told served.there served.short q
        (root_judged session.crypto number old.documents r (Some session.now) d a.read.0 (subst (λ root. IsNextRoot session.crypto root d) (sym b.root) a.next.0)) answer adopts)
      where
        number : ℕ
        number = version_in old.documents + 1

        is_number : version_in old.documents + 1 ≡ number_of d
        is_number = let at = number_in old doc (r ∷ rs) b in let next = a.next.0.number in omega (arith, at, next)

        small : version_in old.documents + 1 < 2 ^ 64
        small = let bound = version_bound r d a.read.0 in omega (arith, bound, is_number)

        suits : SuitsRoots from whole (version_in old.documents + 1) r
        suits = subst (λ n. SuitsRoots from whole n r) (sym is_number) (next_suits old doc d r rs b a.next.0.number)

        served : IsServed folders.metadata (root_name (version_in old.documents + 1)) r session.config.root_max_length
        served = subst (λ n. IsServed folders.metadata (root_name (n + 1)) r session.config.root_max_length) (sym (number_in old doc (r ∷ rs) b)) a.served.0

        by_answer : Answers (Took (Root number) r old new (Some (with_root old.documents r d))) answer (Ok true) → Answers (OnRoots new d rs) answer (Ok true)
        by_answer (wants h) = wants h
        by_answer (answers h t) =
            answers h (on_next old new doc d r rs b a.read.0 a.next.0.number t.documents t.told (took_so IsWarm (Root number) r old new (Some (with_root old.documents r d)) (root_harmless new.documents number r small suits) t b.warm))

    -- after the chain's last there is none
    none_taken : (old new : State) (answer : Result Bool Error) (doc : Document declared.Root) (max : ℕ) → OnRoots old doc [] → Some doc ≡ Some o.root → Ends 0 max → version_in old.documents ≢ 2 ^ 64 - 1
        → Quiet old.repo.faults new.repo.faults → Adopts session (Root (version_in old.documents + 1)) old new answer → Answers (OnRoots new o.root []) answer (Ok false)
    none_taken old new answer doc max b l e other q adopts = by_end e
      where
        last : OnRoots old o.root []
        last = at_last old doc b l

        by_answer : Answers (Left old new) answer (Ok false) → Answers (OnRoots new o.root []) answer (Ok false)
        by_answer (wants h) = wants h
        by_answer (answers h t) = answers h (on_same old new o.root [] last t.documents t.told (subst (TellsSo IsWarm) (sym t.store) b.warm))

        by_end : Ends 0 max → Answers (OnRoots new o.root []) answer (Ok false)
        by_end (inl (few, none)) =
            by_answer (adopts_lacking session folders (Root (version_in old.documents + 1)) old new answer b.told
            (subst (λ n. folders.metadata (root_name (n + 1)) ≡ None) (sym (number_in old o.root [] last)) none) q adopts)
        by_end (inr (few, greatest)) = absurd (other (number_in old o.root [] last ∙ greatest))

    abbrev Turns : ℕ → Kind → State → State → Result ⊤ Error → Type 0
    Turns n k old new result = Stops (Adopts session) k old new result ⊎ ((mid : State) × Adopts session k old mid (Ok true) × Repeats (Adopts session) (root_loop limit) n tt mid new result)

    -- the rest of the walk is done from every state that is on the way
    abbrev GoesOn : ℕ → State → Result ⊤ Error → Type 0
    GoesOn n new result = (mid : State) (doc : Document declared.Root) (rest : List (List ℕ)) (docs : List (Document declared.Root)) → OnRoots mid doc rest → Way doc rest docs → Ends (length rest) n → Quiet mid.repo.faults new.repo.faults
        → Repeats (Adopts session) (root_loop limit) n tt mid new result → Done (OnRoots new o.root []) result

    last_turn : (n : ℕ) (old new : State) (result : Result ⊤ Error) (doc : Document declared.Root) → OnRoots old doc [] → Some doc ≡ Some o.root → Ends 0 (suc n) → version_in old.documents ≢ 2 ^ 64 - 1 → Quiet old.repo.faults new.repo.faults
        → Turns n (Root (version_in old.documents + 1)) old new result → Done (OnRoots new o.root []) result
    last_turn n old new (Ok x) doc b l e other q (inl s) = by_answer (none_taken old new (Ok false) doc (suc n) b l e other q s)
      where
        by_answer : Answers (OnRoots new o.root []) (Ok false) (Ok false) → Done (OnRoots new o.root []) (Ok x)
        by_answer (wants h) = no_both false tuf.NoMemory h
        by_answer (answers h t) = done refl t
    last_turn n old new (Err f) doc b l e other q (inl s) = by_answer (none_taken old new (Err f) doc (suc n) b l e other q s)
      where
        by_answer : Answers (OnRoots new o.root []) (Err f) (Ok false) → Done (OnRoots new o.root []) (Err f)
        by_answer (wants h) = wanting (ap Err (err_same f tuf.NoMemory h))
        by_answer (answers h t) = no_both false f (sym h)
    last_turn n old new result doc b l e other q (inr (mid, a, r)) = by_answer (none_taken old mid (Ok true) doc (suc n) b l e other quiet a)
      where
        quiet : Quiet old.repo.faults mid.repo.faults
        quiet =
            let first = (adopt_carried session (Root (version_in old.documents + 1)) old mid (Ok true) (refl, other) a).since in
            let second = walk_since n mid new result r in
            quiet_first old.repo.faults mid.repo.faults new.repo.faults first.later second.later q

        by_answer : Answers (OnRoots mid o.root []) (Ok true) (Ok false) → Done (OnRoots new o.root []) result
        by_answer (wants h) = no_both true tuf.NoMemory h
        by_answer (answers h t) = true_false h

    next_turn : (n : ℕ) (old new : State) (result : Result ⊤ Error) (doc d : Document declared.Root) (r : List ℕ) (rs : List (List ℕ)) (ds : List (Document declared.Root)) → GoesOn n new result → OnRoots old doc (r ∷ rs) → Way doc (r ∷ rs) (d ∷ ds)
        → Ends (length (r ∷ rs)) (suc n) → version_in old.documents ≢ 2 ^ 64 - 1 → Quiet old.repo.faults new.repo.faults → Turns n (Root (version_in old.documents + 1)) old new result → Done (OnRoots new o.root []) result
    next_turn n old new (Ok x) doc d r rs ds goes b a e other q (inl s) = by_answer (root_taken old new (Ok false) doc d r rs ds b a q s)
      where
        by_answer : Answers (OnRoots new d rs) (Ok false) (Ok true) → Done (OnRoots new o.root []) (Ok x)
        by_answer (wants h) = no_both false tuf.NoMemory h
        by_answer (answers h t) = false_true h
    next_turn n old new (Err f) doc d r rs ds goes b a e other q (inl s) = by_answer (root_taken old new (Err f) doc d r rs ds b a q s)
      where
        by_answer : Answers (OnRoots new d rs) (Err f) (Ok true) → Done (OnRoots new o.root []) (Err f)
        by_answer (wants h) = wanting (ap Err (err_same f tuf.NoMemory h))
        by_answer (answers h t) = no_both true f (sym h)
    next_turn n old new result doc d r rs ds goes b a e other q (inr (mid, t, more)) = by_answer (root_taken old mid (Ok true) doc d r rs ds b a (quiet_first old.repo.faults mid.repo.faults new.repo.faults first.later second.later q) t)
      where
        first : Since old.repo mid.repo
        first = (adopt_carried session (Root (version_in old.documents + 1)) old mid (Ok true) (refl, other) t).since

        second : Since mid.repo new.repo
        second = walk_since n mid new result more

        by_answer : Answers (OnRoots mid d rs) (Ok true) (Ok true) → Done (OnRoots new o.root []) result
        by_answer (wants h) = no_both true tuf.NoMemory h
        by_answer (answers h on) =
            goes mid d rs ds on (later_way doc d r rs ds a) (end_of_later folders.metadata (length rs) n (number_of o.root) e)
            (quiet_second old.repo.faults mid.repo.faults new.repo.faults first.later second.later q) more

    turn_done : (n : ℕ) (old new : State) (result : Result ⊤ Error) (doc : Document declared.Root) (rest : List (List ℕ)) (docs : List (Document declared.Root)) → GoesOn n new result → OnRoots old doc rest → Way doc rest docs
        → Ends (length rest) (suc n) → version_in old.documents ≢ 2 ^ 64 - 1 → Quiet old.repo.faults new.repo.faults → Turns n (Root (version_in old.documents + 1)) old new result → Done (OnRoots new o.root []) result
    turn_done n old new result doc [] [] goes b a e other q t = last_turn n old new result doc b a.last_is e other q t
    turn_done n old new result doc [] (d ∷ ds) goes b a e other q t = absurd a.read
    turn_done n old new result doc (r ∷ rs) [] goes b a e other q t = absurd a.read
    turn_done n old new result doc (r ∷ rs) (d ∷ ds) goes b a e other q t = next_turn n old new result doc d r rs ds goes b a e other q t

    pub walk_done : (n : ℕ) (old new : State) (result : Result ⊤ Error) (doc : Document declared.Root) (rest : List (List ℕ)) (docs : List (Document declared.Root)) → OnRoots old doc rest → Way doc rest docs → Ends (length rest) n
        → Quiet old.repo.faults new.repo.faults → Repeats (Adopts session) (root_loop limit) n tt old new result → Done (OnRoots new o.root []) result
    walk_done zero old new result doc rest docs b a e q (inl i) = idle_done old new result doc rest docs zero b a e i
    walk_done zero old new result doc rest docs b a e q (inr (k, (w, next, same, is))) = limit_not_met old doc rest docs b a e ((next_root_is old.documents k w next).1)
    walk_done (suc n) old new result doc rest docs b a e q (inl i) = idle_done old new result doc rest docs (suc n) b a e i
    walk_done (suc n) old new result doc rest docs b a e q (inr (k, (w, next, t))) =
        let named = next_root_is old.documents k w next in
        turn_done n old new result doc rest docs (λ mid doc rest docs b a e q r. walk_done n mid new result doc rest docs b a e q r) b a e named.1 q (subst (λ k. Turns n k old new result) named.0 t)

  -- ---- the store's next roots

  -- somewhere on the way, with at most so many roots ahead
  pub record Somewhere (most : ℕ) (state : State) : Type 0 where
    pub doc : Document declared.Root
    pub rest : List (List ℕ)
    pub docs : List (Document declared.Root)
    pub on : OnRoots state doc rest
    pub way : Way doc rest docs
    pub fewer : length rest ≤ most

  here : (state : State) (doc : Document declared.Root) (rest : List (List ℕ)) (docs : List (Document declared.Root)) → OnRoots state doc rest → Way doc rest docs → Somewhere (length rest) state
  here state doc rest docs b a = record { doc = doc; rest = rest; docs = docs; on = b; way = a; fewer = le_refl (length rest) }

  further : (fewer most : ℕ) (state : State) → fewer ≤ most → Somewhere fewer state → Somewhere most state
  further fewer most state le s = record { doc = s.doc; rest = s.rest; docs = s.docs; on = s.on; way = s.way; fewer = le_trans s.fewer le }

  abbrev SeedTurn : Turn
  SeedTurn k = Seeds session.crypto k None

  module _ (files : Files) where
    abbrev Recalls : ℕ → State → State → Result ⊤ Error → Type 0
    Recalls n old new result = Repeats SeedTurn (root_loop (Ok tt)) n tt old new result

    abbrev SeedTurns : ℕ → Kind → State → State → Result ⊤ Error → Type 0
    SeedTurns n k old new result = Stops SeedTurn k old new result ⊎ ((mid : State) × SeedTurn k old mid (Ok true) × Recalls n mid new result)

    abbrev SeedsOn : ℕ → State → Result ⊤ Error → Type 0
    SeedsOn n new result = (mid : State) (doc : Document declared.Root) (rest : List (List ℕ)) (docs : List (Document declared.Root)) → OnRoots mid doc rest → Way doc rest docs → mid.store.told ≡ Some files → AreKeptAfter files (number_of doc) rest
        → Recalls n mid new result → Done (Somewhere (length rest) new) result

    passed_here : (old new : State) (doc : Document declared.Root) (rest : List (List ℕ)) (docs : List (Document declared.Root)) → OnRoots old doc rest → Way doc rest docs → Passed old new → Somewhere (length rest) new
    passed_here old new doc rest docs b a p = here new doc rest docs (on_same old new doc rest b p.documents (ap (λ (w : Watched Folders). w.told) p.repo) (tells_same IsWarm old.store new.store p.told b.warm)) a

    -- a root of the store is the chain's next
    root_recalled : {C : Type 0} (old mid : State) (doc : Document declared.Root) (rest : List (List ℕ)) (docs : List (Document declared.Root)) (bytes : List ℕ) → OnRoots old doc rest → Way doc rest docs → old.store.told ≡ Some files → version_in old.documents ≢ 2 ^ 64 - 1
        → AreKeptAfter files (number_of doc) rest → LoadsNamed (history_name (version_in old.documents + 1)) old.store mid.store (Ok (Some bytes))
        → judged_of session.crypto (Root (version_in old.documents + 1)) old.documents bytes None ≡ Ok (Some mid.documents) → mid.repo ≡ old.repo
        → ((d : Document declared.Root) (r : List ℕ) (rs : List (List ℕ)) (ds : List (Document declared.Root)) → rest ≡ r ∷ rs → OnRoots mid d rs → Way d rs ds → mid.store.told ≡ Some files → AreKeptAfter files (number_of d) rs → C) → C
    root_recalled {C} old mid doc rest docs bytes b a told other kept l j repo f = by_rest rest docs b a kept f
      where
        there : files (history_name (number_of doc + 1)) ≡ Some bytes
        there = ap (λ n. files (history_name (n + 1))) (sym (number_in old doc rest b)) ∙ loaded_is (history_name (version_in old.documents + 1)) old.store mid.store files bytes told l

        small : number_of doc + 1 < 2 ^ 64
        small = small_next (number_of doc) b.bound (λ e. other (number_in old doc rest b ∙ e))

        told_mid : mid.store.told ≡ Some files
        told_mid = loaded_same (history_name (version_in old.documents + 1)) old.store mid.store (Ok (Some bytes)) l ∙ told

        by_rest : (rest : List (List ℕ)) (docs : List (Document declared.Root)) → OnRoots old doc rest → Way doc rest docs → AreKeptAfter files (number_of doc) rest
            → ((d : Document declared.Root) (r : List ℕ) (rs : List (List ℕ)) (ds : List (Document declared.Root)) → rest ≡ r ∷ rs → OnRoots mid d rs → Way d rs ds → mid.store.told ≡ Some files → AreKeptAfter files (number_of d) rs → C) → C
        by_rest [] docs b a kept f = let none : files (history_name (number_of doc + 1)) ≡ None = kept (number_of doc + 1) (omega arith) small in let never : None ≡ Some bytes = sym none ∙ there in cc
        by_rest (r ∷ rs) [] b a kept f = absurd a.read
        by_rest (r ∷ rs) (d ∷ ds) b a kept f =
            let same : r ≡ bytes = some_same r bytes (found_wanted (files (history_name (number_of doc + 1))) (Some r) bytes kept.0 there) in
            let judged = root_judged session.crypto (version_in old.documents + 1) old.documents r None d a.read.0 (subst (λ root. IsNextRoot session.crypto root d) (sym b.root) a.next.0) in
            let documents : mid.documents ≡ with_root old.documents r d =
            some_same mid.documents (with_root old.documents r d) (ok_same _ _ (sym j ∙ ap (λ x. judged_of session.crypto (Root (version_in old.documents + 1)) old.documents x None) (sym same) ∙ judged)) in
            f d r rs ds refl
            (on_next old mid doc d r rs b a.read.0 a.next.0.number documents (ap (λ (w : Watched Folders). w.told) repo) (tells_same IsWarm old.store mid.store (loaded_same (history_name (version_in old.documents + 1)) old.store mid.store (Ok (Some bytes)) l) b.warm))
            (later_way doc d r rs ds a) told_mid (subst (λ n. AreKeptAfter files n rs) (sym a.next.0.number) kept.1)

    seed_turn : (n : ℕ) (old new : State) (result : Result ⊤ Error) (doc : Document declared.Root) (rest : List (List ℕ)) (docs : List (Document declared.Root)) → SeedsOn n new result → OnRoots old doc rest → Way doc rest docs
        → old.store.told ≡ Some files → version_in old.documents ≢ 2 ^ 64 - 1 → AreKeptAfter files (number_of doc) rest → SeedTurns n (Root (version_in old.documents + 1)) old new result → Done (Somewhere (length rest) new) result
    seed_turn n old new (Ok x) doc rest docs goes b a told other kept (inl s) = by_seeds (seeds_so session.crypto (Root (version_in old.documents + 1)) None old new (Ok false) s)
      where
        by_seeds : Seeded session.crypto (Root (version_in old.documents + 1)) None old new (Ok false) → Done (Somewhere (length rest) new) (Ok x)
        by_seeds (seed_wants h) = no_both false tuf.NoMemory h
        by_seeds (seed_passed h p) = done refl (passed_here old new doc rest docs b a p)
        by_seeds (seed_put h bytes l j repo) = false_true h
    seed_turn n old new (Err e) doc rest docs goes b a told other kept (inl s) = by_seeds (seeds_so session.crypto (Root (version_in old.documents + 1)) None old new (Err e) s)
      where
        by_seeds : Seeded session.crypto (Root (version_in old.documents + 1)) None old new (Err e) → Done (Somewhere (length rest) new) (Err e)
        by_seeds (seed_wants h) = wanting (ap Err (err_same e tuf.NoMemory h))
        by_seeds (seed_passed h p) = no_both false e (sym h)
        by_seeds (seed_put h bytes l j repo) = no_both true e (sym h)
    seed_turn n old new result doc rest docs goes b a told other kept (inr (mid, s, r)) = by_seeds (seeds_so session.crypto (Root (version_in old.documents + 1)) None old mid (Ok true) s)
      where
        by_seeds : Seeded session.crypto (Root (version_in old.documents + 1)) None old mid (Ok true) → Done (Somewhere (length rest) new) result
        by_seeds (seed_wants h) = no_both true tuf.NoMemory h
        by_seeds (seed_passed h p) = true_false h
        by_seeds (seed_put h bytes l j repo) =
            root_recalled old mid doc rest docs bytes b a told other kept l j repo
            (λ d x xs ds is on way told_mid kept_mid. by_done x xs is (goes mid d xs ds on way told_mid kept_mid r))
          where
            by_done : (x : List ℕ) (xs : List (List ℕ)) → rest ≡ x ∷ xs → Done (Somewhere (length xs) new) result → Done (Somewhere (length rest) new) result
            by_done x xs is (wanting h) = wanting h
            by_done x xs is (done h s) = let e = ap length is in done h (further (length xs) (length rest) new (omega (arith, e)) s)

    recall_done : (n : ℕ) (old new : State) (result : Result ⊤ Error) (doc : Document declared.Root) (rest : List (List ℕ)) (docs : List (Document declared.Root)) → OnRoots old doc rest → Way doc rest docs → old.store.told ≡ Some files
        → AreKeptAfter files (number_of doc) rest → Recalls n old new result → Done (Somewhere (length rest) new) result
    recall_done zero old new result doc rest docs b a told kept (inl (none, same, is)) = done is (subst (Somewhere (length rest)) (sym same) (here old doc rest docs b a))
    recall_done zero old new result doc rest docs b a told kept (inr (k, (w, next, same, is))) = done is (subst (Somewhere (length rest)) (sym same) (here old doc rest docs b a))
    recall_done (suc n) old new result doc rest docs b a told kept (inl (none, same, is)) = done is (subst (Somewhere (length rest)) (sym same) (here old doc rest docs b a))
    recall_done (suc n) old new result doc rest docs b a told kept (inr (k, (w, next, t))) =
        let named = next_root_is old.documents k w next in
        seed_turn n old new result doc rest docs (λ mid doc rest docs b a t k r. recall_done n mid new result doc rest docs b a t k r) b a told named.1 kept (subst (λ k. SeedTurns n k old new result) named.0 t)

    -- the root in force is written
    save_done : (most : ℕ) (old new : State) (result : Result ⊤ Error) → Somewhere most old → SavesRoot old new result → Done (Somewhere most new) result
    save_done most old new result s w = by_result result (warm (bytes_in (Root number) old.documents) refl w.written) (want (bytes_in (Root number) old.documents) result w.written)
      where
        number : ℕ
        number = version_in old.documents

        warm : (b : Option (List ℕ)) → last_or None old.documents.roots ≡ b → KeepsWhere (kept_names old.documents (Root (version_in old.documents))) b old.store new.store result → TellsSo IsWarm new.store
        warm None at (same, is) = subst (TellsSo IsWarm) (sym same) s.on.warm
        warm (Some bytes) at keeps =
            let is = number_in old s.doc s.rest s.on in
            keeps_so IsWarm old.documents (Root (version_in old.documents)) bytes old.store new.store result
            (root_harmless old.documents (version_in old.documents) bytes (subst (λ n. n < 2 ^ 64) (sym is) s.on.bound) (subst (λ n. SuitsRoots from whole n bytes) (sym is) (s.on.suits bytes at))) keeps s.on.warm

        want : (b : Option (List ℕ)) (result : Result ⊤ Error) → KeepsWhere (kept_names old.documents (Root (version_in old.documents))) b old.store new.store result → IfErr result (λ e. e ≡ tuf.NoMemory)
        want None result (same, is) = subst (λ r. IfErr r (λ e. e ≡ tuf.NoMemory)) (sym is) tt
        want (Some bytes) result keeps = keeps_want old.documents (Root (version_in old.documents)) bytes old.store new.store result keeps

        by_result : (result : Result ⊤ Error) → TellsSo IsWarm new.store → IfErr result (λ e. e ≡ tuf.NoMemory) → Done (Somewhere most new) result
        by_result (Ok x) t h =
            done refl (record { doc = s.doc; rest = s.rest; docs = s.docs; on = on_same old new s.doc s.rest s.on w.documents (ap (λ (w : Watched Folders). w.told) w.repo) t; way = s.way; fewer = s.fewer })
        by_result (Err e) t h = wanting (ap Err h)

    pub attach_done : (old new : State) (result : Result ⊤ Error) (doc : Document declared.Root) (rest : List (List ℕ)) (docs : List (Document declared.Root)) → OnRoots old doc rest → Way doc rest docs → old.store.told ≡ Some files
        → AreKeptAfter files (number_of doc) rest → Attaches session.crypto old new result → Done (Somewhere (length rest) new) result
    attach_done old new result doc rest docs b a told kept (roots_unrecalled e r is) = by_done (recall_done (roots_left old.documents) old new (Err e) doc rest docs b a told kept r)
      where
        by_done : Done (Somewhere (length rest) new) (Err e) → Done (Somewhere (length rest) new) result
        by_done (wanting h) = wanting (is ∙ ap Err (err_same e tuf.NoMemory h))
        by_done (done h s) = no_both tt e (sym h)
    attach_done old new result doc rest docs b a told kept (roots_recalled mid r s) = by_done (recall_done (roots_left old.documents) old mid (Ok tt) doc rest docs b a told kept r)
      where
        by_done : Done (Somewhere (length rest) mid) (Ok tt) → Done (Somewhere (length rest) new) result
        by_done (wanting h) = no_both tt tuf.NoMemory h
        by_done (done h m) = save_done (length rest) mid new result m s
