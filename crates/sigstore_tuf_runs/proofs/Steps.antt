-- What each step does, from what its calls promise.
use Rattle.std.proofs.Common.{◌≡◌, ◌⊎◌, inl, inr, ℕ, zero, suc, ◌+◌, ◌-◌, ◌^◌, ◌<◌, ◌==◌, if◌then◌else◌, List, [], ◌∷◌, length, get_or, drop, drop-cons, add-one, Bool, true, false, Option, Some, None, Result, Ok, Err, refl, subst, sym, ap, ◌∙◌, arith}
use Rattle.std.specs.Prelude.{⊤, is_some, option_copied, IfErr}
use Rattle.std.specs.Borrow.{Bor}
use Rattle.jiff_core.specs.declared.timestamp.Timestamp as jiff
use Rattle.foundation.specs.Watched.{Watched}
use Rattle.sigstore_keys.specs.Crypto.{Crypto}
use Rattle.sigstore_tuf_parts.specs.declared.timestamp.MetaFile.{MetaFile}
use Rattle.sigstore_tuf_text.specs.Names.{versioned_name}
use Rattle.sigstore_tuf_text.specs.declared.error.Error.{Error}
use Rattle.sigstore_tuf_text.specs.declared.error.Error.TheVariants as tuf
use Rattle.sigstore_tuf_rules.specs.declared.documents.InForce.{InForce}
use Rattle.sigstore_tuf_rules.specs.declared.kind.Kind.{Kind}
use Rattle.sigstore_tuf_rules.specs.declared.kind.Kind.TheVariants.{Root}
use Rattle.sigstore_tuf_outside.specs.Repository.{Folders, Files, metadata_files}
use Rattle.sigstore_tuf_rules.specs.Names.{pinned_name, file_name, max_length, kept_name, both_names, kept_names}
use Rattle.sigstore_tuf_runs.specs.State.{Session, State, state_of}
use Rattle.sigstore_tuf_runs.specs.Adopt.{FetchesNamed, FetchesDocument, loaded_of, LoadsNamed, load_unnamed, load_asked, passed_of, Saves, save_unnamed, save_asked, SavesAll, Keeps, KeepsWhere, Adopts, unfetched, absent, refused, kept, adopted, passed_over, Seeds, unloaded, unkept, unseeded, seeded, equal}
use Rattle.sigstore_tuf_rules.specs.Taking.{bytes_in, judged_of, Takes}
use Rattle.sigstore_tuf_runs.specs.Run.{Turn, Loop, IsIdle, Stops, Repeats, next_root, roots_left, said, moment_of, Reseeds, Does, Runs, Attaches}
use Rattle.sigstore_tuf_runs.specs.declared.step.Step.{Step}
use Rattle.sigstore_tuf_rules.specs.Serving.{version_in}
use Rattle.sigstore_tuf_rules.proofs.Updates.{judged_puts, never_equal, bytes_put}
use Rattle.sigstore_tuf_runs.proofs.Lift.{attach_lift}
use Rattle.sigstore_tuf_outside.specs.declared.store.StoreFault.{StoreFault}
use Rattle.sigstore_tuf_outside.specs.declared.store.StoreFault.TheVariants as store
use Rattle.foundation.specs.Results.{err_same}

pub fetched_for : (session : Session) (set : InForce) (k : Kind) {name : List ℕ} {max : ℕ} {old new : Watched Folders} {result : Result (Option (List ℕ)) Error} → name ≡ file_name set k → max ≡ max_length session.config k
    → FetchesNamed metadata_files name max old new result → FetchesDocument session set k old new result
fetched_for session set k {name} {max} {old} {new} {result} at bound f =
    subst (λ n. FetchesNamed metadata_files n (max_length session.config k) old new result) at (subst (λ m. FetchesNamed metadata_files name m old new result) bound f)

pub pinned_same : {c d : Bool} {p q : Option MetaFile} (name : List ℕ) → c ≡ d → p ≡ q → pinned_name c p name ≡ pinned_name d q name
pinned_same {c} {d} {p} {q} name a b = ap (λ c. pinned_name c p name) a ∙ ap (λ p. pinned_name d p name) b

pub both_same : {c d : Bool} {p q : Option MetaFile} (name : List ℕ) → c ≡ d → p ≡ q → both_names c p name ≡ both_names d q name
both_same {c} {d} {p} {q} name a b = ap (λ c. both_names c p name) a ∙ ap (λ p. both_names d p name) b

pub both_versioned : {c : Bool} {o : Option MetaFile} {n : List ℕ} (pin : MetaFile) (name : List ℕ) → c ≡ true → o ≡ Some pin → n ≡ versioned_name pin.version name → n ∷ name ∷ [] ≡ both_names c o name
both_versioned {c} {o} {n} pin name a b e = ap (λ n. n ∷ name ∷ []) e ∙ sym (both_same name a b)

pub all_as : (bytes : List ℕ) {names others : List (List ℕ)} (old new : Watched Files) (result : Result ⊤ Error) → others ≡ names → SavesAll bytes others old new result → SavesAll bytes names old new result
all_as bytes {names} {others} old new result at s = subst (λ n. SavesAll bytes n old new result) at s

pub fetched_as : {part : Folders → Files} {name other : List ℕ} {max : ℕ} {old new : Watched Folders} {result : Result (Option (List ℕ)) Error} → other ≡ name → FetchesNamed part other max old new result → FetchesNamed part name max old new result
fetched_as {part} {name} {other} {max} {old} {new} {result} at f = subst (λ n. FetchesNamed part n max old new result) at f

pub loaded_as : {name other : List ℕ} {old new : Watched Files} {result : Result (Option (List ℕ)) Error} → other ≡ name → LoadsNamed other old new result → LoadsNamed name old new result
loaded_as {name} {other} {old} {new} {result} at l = subst (λ n. LoadsNamed n old new result) at l

pub saved_as : {bytes name other : List ℕ} {old new : Watched Files} {result : Result ⊤ Error} → other ≡ name → Saves bytes other old new result → Saves bytes name old new result
saved_as {bytes} {name} {other} {old} {new} {result} at s = subst (λ n. Saves bytes n old new result) at s

pub kept_as : (set : InForce) (k : Kind) {bytes : List ℕ} {names : List (List ℕ)} {old new : Watched Files} {result : Result ⊤ Error} → names ≡ kept_names set k → SavesAll bytes names old new result → Keeps (kept_names set k) bytes old new result
kept_as set k {bytes} {names} {old} {new} {result} at s = record { saves = subst (λ n. SavesAll bytes n old new result) at s }

-- the bytes that are written are those that were judged
pub kept_put : (session : Session) (k : Kind) (old new : InForce) (bytes : List ℕ) {store store' : Watched Files} {result : Result ⊤ Error} → judged_of session.crypto k old bytes (Some session.now) ≡ Ok (Some new)
    → KeepsWhere (kept_names new k) (bytes_in k new) store store' result → Keeps (kept_names new k) bytes store store' result
kept_put session k old new bytes {store} {store'} {result} judged w =
    let at = bytes_put session.crypto old new bytes k (Some session.now) (judged_puts session.crypto old bytes k (Some session.now) new judged) in
    subst (λ b. KeepsWhere (kept_names new k) b store store' result) at w

-- a document of the store that was judged
pub seed_taken : (crypto : Crypto) (k : Kind) (now : Option jiff.Timestamp) (old new : InForce) (repo : Watched Folders) (store store' : Watched Files) (bytes : List ℕ) (was : Bool)
    → LoadsNamed (kept_name k) store store' (Ok (Some bytes)) → Takes (judged_of crypto k old bytes now) old new (Ok was)
    → Seeds crypto k now (state_of old repo store) (state_of new repo store') (Ok was)
seed_taken crypto k now old new repo store store' bytes true l t = seeded bytes l t refl refl
seed_taken crypto k now old new repo store store' bytes false l t = equal bytes l t.0 (record { documents = t.1; repo = refl }) refl

-- a refusal that is passed over
pub passes : (e : Error) → (passed_over e ≡ Ok false) ⊎ (passed_over e ≡ Err tuf.NoMemory)
passes tuf.NoMemory = inr refl
passes tuf.Json = inl refl
passes (tuf.Malformed rule) = inl refl
passes tuf.NonIntegerNumber = inl refl
passes (tuf.UnusableKey id) = inl refl
passes (tuf.UnsupportedScheme keytype scheme) = inl refl
passes (tuf.UnknownRole name) = inl refl
passes (tuf.DuplicateSignature role id) = inl refl
passes (tuf.ThresholdNotMet role found threshold) = inl refl
passes (tuf.Rollback role trusted number) = inl refl
passes (tuf.EqualVersion role number) = inl refl
passes (tuf.BadRootVersion trusted number) = inl refl
passes (tuf.Expired role expires) = inl refl
passes (tuf.IntegrityMismatch difference) = inl refl
passes tuf.Crypto = inl refl
passes tuf.NotRefreshed = inl refl
passes (tuf.TargetNotFound path) = inl refl
passes (tuf.Transport fault) = inl refl

pub not_passed : {C : Type 0} (e : Error) → ◌≡◌ {A = Result Bool Error} (Ok true) (passed_over e) → C
not_passed {C} e h = by_answer (passes e)
  where
    by_answer : (passed_over e ≡ Ok false) ⊎ (passed_over e ≡ Err tuf.NoMemory) → C
    by_answer (inl is) = let never : ◌≡◌ {A = Result Bool Error} (Ok true) (Ok false) = h ∙ is in cc
    by_answer (inr is) = let never : ◌≡◌ {A = Result Bool Error} (Ok true) (Err tuf.NoMemory) = h ∙ is in cc

-- a root of the store that is put in force has the next number
pub seed_rises : (crypto : Crypto) (number : ℕ) (now : Option jiff.Timestamp) (old new : State) → Seeds crypto (Root number) now old new (Ok true) → version_in new.documents ≡ version_in old.documents + 1
seed_rises crypto number now old new (unloaded e l u r) = cc
seed_rises crypto number now old new (unkept l u r) = cc
seed_rises crypto number now old new (unseeded bytes e l j u r) = not_passed e r
seed_rises crypto number now old new (equal bytes l j u r) = cc
seed_rises crypto number now old new (seeded bytes l j s r) =
    let p = judged_puts crypto old.documents bytes (Root number) now new.documents j in
    ap version_in p.new_is ∙ p.next.number

-- what is left once the next root is in force
pub one_less : (old new : InForce) (number : ℕ) → Some number ≡ next_root old → number < 2 ^ 64 → version_in new ≡ version_in old + 1 → roots_left old ≡ suc (roots_left new)
one_less old new number next bound rises = by_test (version_in old == 2 ^ 64 - 1) refl next
  where
    by_test : (b : Bool) → (version_in old == 2 ^ 64 - 1) ≡ b → Some number ≡ (if b then None else Some (version_in old + 1)) → roots_left old ≡ suc (roots_left new)
    by_test true e h = cc
    by_test false e h = let n : number ≡ version_in old + 1 = cc in omega (arith, n, rises, bound)

-- ---- the turns of a loop

module _ {W : Type 0} (turn : Turn) (loop : Loop W) (work : W) (old new : State) (result : Result ⊤ Error) where
  pub idles : (n : ℕ) → IsIdle loop work old new result → Repeats turn loop n work old new result
  idles zero i = inl i
  idles (suc n) i = inl i

  pub stopped : (n : ℕ) (k : Kind) (rest : W) → 0 < n → loop.next work old.documents ≡ Some (k, rest) → Stops turn k old new result → Repeats turn loop n work old new result
  stopped zero k rest h e s = absurd (omega arith)
  stopped (suc n) k rest h e s = inr (k, (rest, e, inl s))

  pub turned : (n m : ℕ) (k : Kind) (rest : W) (mid : State) → n ≡ suc m → loop.next work old.documents ≡ Some (k, rest) → turn k old mid (Ok true)
      → Repeats turn loop m (loop.grow rest mid.documents) mid new result → Repeats turn loop n work old new result
  turned n m k rest mid h e a r = subst (λ n. Repeats turn loop n work old new result) (sym h) (inr (k, (rest, e, inr (mid, a, r))))

  pub met : (n : ℕ) (k : Kind) (rest : W) → n ≡ 0 → loop.next work old.documents ≡ Some (k, rest) → new ≡ old → result ≡ loop.limit → Repeats turn loop n work old new result
  met n k rest h e same is = subst (λ n. Repeats turn loop n work old new result) (sym h) (inr (k, (rest, e, same, is)))

-- ---- the steps of a run

pub ran : (session : Session) (steps : List Step) (i : ℕ) (d : Step) (old mid new : State) (result : Result ⊤ Error) → i < length steps → Does session (get_or steps i d) old mid (Ok tt)
    → Runs session (drop (i + 1) steps) mid new result → Runs session (drop i steps) old new result
ran session steps i d old mid new result h step rest =
    subst (λ xs. Runs session xs old new result) (sym (drop-cons steps i d h)) (inr (mid, step, subst (λ j. Runs session (drop j steps) mid new result) (add-one i) rest))

pub ran_into : (session : Session) (steps : List Step) (i : ℕ) (d : Step) (old new : State) (e : Error) → i < length steps → Does session (get_or steps i d) old new (Err e) → Runs session (drop i steps) old new (Err e)
ran_into session steps i d old new e h step = subst (λ xs. Runs session xs old new (Err e)) (sym (drop-cons steps i d h)) (inl (e, step, refl))

some_copied : {A : Type 0} (o : Option (Bor A)) → is_some (option_copied o) ≡ is_some o
some_copied None = refl
some_copied (Some b) = refl

pub none_there : {A : Type 0} (o : Option (Bor A)) (p : Option A) → option_copied o ≡ p → false ≡ is_some o → is_some p ≡ false
none_there o p at none = ap is_some (sym at) ∙ some_copied o ∙ sym none

pub reseeded : (session : Session) (k : Kind) (now : Option jiff.Timestamp) (old new : State) (answer : Result Bool Error) → is_some (bytes_in k old.documents) ≡ false → now ≡ moment_of k session.now
    → Seeds session.crypto k now old new answer → Reseeds session k old new (said answer)
reseeded session k now old new answer none at s = inr (none, (answer, subst (λ n. Seeds session.crypto k n old new answer) at s, refl))

pub some_left : (set : InForce) (number : ℕ) → Some number ≡ next_root set → number < 2 ^ 64 → 0 < roots_left set
some_left set number next bound = by_test (version_in set == 2 ^ 64 - 1) refl next
  where
    by_test : (b : Bool) → (version_in set == 2 ^ 64 - 1) ≡ b → Some number ≡ (if b then None else Some (version_in set + 1)) → 0 < roots_left set
    by_test true e h = cc
    by_test false e h = let n : number ≡ version_in set + 1 = cc in omega (arith, n, bound)

-- ---- a store that is handed in: nothing refuses but want of memory

-- the answer isn't a refusal, or memory is wanting
abbrev IsWant : {T : Type 0} → Result T Error → Type 0
IsWant (Ok x) = ⊤
IsWant (Err e) = e ≡ tuf.NoMemory

pub load_wants : (name : List ℕ) (old new : Watched Files) (e : Error) → LoadsNamed name old new (Err e) → e ≡ tuf.NoMemory
load_wants name old new e (load_unnamed s r) = err_same e tuf.NoMemory r
load_wants name old new e (load_asked answer l r) = by_answer answer r
  where
    by_answer : (answer : Result (Option (List ℕ)) StoreFault) → Err e ≡ loaded_of answer → e ≡ tuf.NoMemory
    by_answer (Ok file) h = cc
    by_answer (Err store.Failed) h = cc
    by_answer (Err store.BadName) h = cc
    by_answer (Err store.NoMemory) h = err_same e tuf.NoMemory h

pub save_wants : (bytes name : List ℕ) (old new : Watched Files) (result : Result ⊤ Error) → Saves bytes name old new result → IsWant result
save_wants bytes name old new result (save_unnamed s r) = subst IsWant (sym r) refl
save_wants bytes name old new result (save_asked answer l r) = subst IsWant (sym r) (by_answer answer)
  where
    by_answer : (answer : Result ⊤ StoreFault) → IsWant (passed_of answer)
    by_answer (Ok x) = tt
    by_answer (Err store.Failed) = tt
    by_answer (Err store.BadName) = tt
    by_answer (Err store.NoMemory) = refl

pub all_want : (bytes : List ℕ) (names : List (List ℕ)) (old new : Watched Files) (result : Result ⊤ Error) → SavesAll bytes names old new result → IsWant result
all_want bytes [] old new result (s, r) = subst IsWant (sym r) tt
all_want bytes (name ∷ names) old new result (inl (e, s, r)) = subst IsWant (sym r) (save_wants bytes name old new (Err e) s)
all_want bytes (name ∷ names) old new result (inr (mid, s, more)) = all_want bytes names mid new result more

where_wants : (set : InForce) (k : Kind) (bytes : Option (List ℕ)) (old new : Watched Files) (result : Result ⊤ Error) → KeepsWhere (kept_names set k) bytes old new result → IsWant result
where_wants set k None old new result (s, r) = subst IsWant (sym r) tt
where_wants set k (Some bytes) old new result w = all_want bytes (kept_names set k) old new result w.saves

seeds_want : (crypto : Crypto) (k : Kind) (now : Option jiff.Timestamp) (old new : State) (answer : Result Bool Error) → Seeds crypto k now old new answer → IsWant (said answer)
seeds_want crypto k now old new answer (unloaded e l u r) = subst (λ a. IsWant (said a)) (sym r) (load_wants (kept_name k) old.store new.store e l)
seeds_want crypto k now old new answer (unkept l u r) = subst (λ a. IsWant (said a)) (sym r) tt
seeds_want crypto k now old new answer (equal bytes l j u r) = subst (λ a. IsWant (said a)) (sym r) tt
seeds_want crypto k now old new answer (seeded bytes l j s r) = subst (λ a. IsWant (said a)) (sym r) tt
seeds_want crypto k now old new answer (unseeded bytes e l j u r) = by_answer (passes e)
  where
    by_answer : (passed_over e ≡ Ok false) ⊎ (passed_over e ≡ Err tuf.NoMemory) → IsWant (said answer)
    by_answer (inl is) = subst (λ a. IsWant (said a)) (sym (r ∙ is)) tt
    by_answer (inr is) = subst (λ a. IsWant (said a)) (sym (r ∙ is)) refl

want_cause : (result : Result ⊤ Error) → IsWant result → IfErr result (λ e. e ≡ tuf.NoMemory)
want_cause (Ok x) w = tt
want_cause (Err e) w = w

pub attach_wants : (crypto : Crypto) (old new : State) (result : Result ⊤ Error) → Attaches crypto old new result → IfErr result (λ e. e ≡ tuf.NoMemory)
attach_wants crypto old new result a =
    want_cause result (attach_lift (λ old new result. IsWant result) (λ a b c result p q. q) (λ a. tt) crypto (λ k old new answer asked s. seeds_want crypto k None old new answer s)
    (λ old new result s. where_wants old.documents (Root (version_in old.documents)) (bytes_in (Root (version_in old.documents)) old.documents) old.store new.store result s.written) old new result a)

pub keeps_want : (set : InForce) (k : Kind) (bytes : List ℕ) (old new : Watched Files) (result : Result ⊤ Error) → Keeps (kept_names set k) bytes old new result → IfErr result (λ e. e ≡ tuf.NoMemory)
keeps_want set k bytes old new result w = want_cause result (all_want bytes (kept_names set k) old new result w.saves)

pub reseeds_want : (session : Session) (k : Kind) (old new : State) (result : Result ⊤ Error) → Reseeds session k old new result → IfErr result (λ e. e ≡ tuf.NoMemory)
reseeds_want session k old new result (inl (there, same, is)) = subst (λ r. IfErr r (λ e. e ≡ tuf.NoMemory)) (sym is) tt
reseeds_want session k old new result (inr (none, (answer, s, is))) =
    subst (λ r. IfErr r (λ e. e ≡ tuf.NoMemory)) (sym is) (want_cause (said answer) (seeds_want session.crypto k (moment_of k session.now) old new answer s))

-- a root of the repository that is put in force has the next number
pub adopt_rises : (session : Session) (number : ℕ) (old new : State) → Adopts session (Root number) old new (Ok true) → version_in new.documents ≡ version_in old.documents + 1
adopt_rises session number old new (unfetched e f u r) = cc
adopt_rises session number old new (absent f u r) = cc
adopt_rises session number old new (refused bytes e f j u r) = cc
adopt_rises session number old new (kept bytes f j u r) = absurd (never_equal _ j)
adopt_rises session number old new (adopted bytes written f j w r) =
    let p = judged_puts session.crypto old.documents bytes (Root number) (Some session.now) new.documents j in
    ap version_in p.new_is ∙ p.next.number
