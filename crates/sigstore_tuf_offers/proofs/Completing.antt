-- One adoption over told files and without a fault, and what a store keeps.
use Rattle.std.proofs.Common.{◌≡◌, ◌≢◌, ◌⊎◌, inl, inr, ℕ, ◌≤◌, ◌==◌, List, [], ◌∷◌, length, Bool, true, false, if◌then◌else◌, bytes_eq, Option, Some, None, Result, Ok, Err, refl, sym, ap, ◌∙◌, subst, arith}
use Rattle.std.specs.Prelude.{⊤, IfErr, IfSome, option_map}
use Rattle.std.proofs.lemmas.Bool.Decides.{nat_tests}
use Rattle.foundation.specs.Watched.{Watched, IfTold}
use Rattle.foundation.specs.Results.{ok_same, err_same, some_same, no_both}
use Rattle.sigstore_tuf_text.specs.declared.error.Error.{Error}
use Rattle.sigstore_tuf_text.specs.declared.error.Error.TheVariants as tuf
use Rattle.sigstore_tuf_rules.specs.declared.documents.InForce.{InForce}
use Rattle.sigstore_tuf_rules.specs.declared.kind.Kind.{Kind}
use Rattle.sigstore_tuf_outside.specs.declared.repository.FetchFault.{FetchFault}
use Rattle.sigstore_tuf_outside.specs.declared.repository.FetchFault.TheVariants as fetch
use Rattle.sigstore_tuf_outside.specs.declared.store.StoreFault.{StoreFault}
use Rattle.sigstore_tuf_outside.specs.declared.store.StoreFault.TheVariants as store
use Rattle.sigstore_tuf_outside.specs.Repository.{Quiet, Folders, Files, metadata_files, IsFile}
use Rattle.sigstore_tuf_outside.specs.Store.{with_file, Keeps as KeepsTold}
use Rattle.sigstore_tuf_rules.specs.Names.{file_name, max_length, kept_names}
use Rattle.sigstore_tuf_runs.specs.State.{Session, State}
use Rattle.sigstore_tuf_rules.specs.Taking.{judged_of, there_of}
use Rattle.sigstore_tuf_runs.specs.Adopt.{FetchesNamed, fetch_unnamed, fetch_asked, FetchesDocument, LoadsNamed, Saves, save_unnamed, save_asked, SavesAll, absence_of, Keeps, Adopts, unfetched, absent, refused, kept, adopted}
use Rattle.sigstore_tuf_offers.specs.Offer.{IsNoneOr}
use Rattle.sigstore_tuf_causes.proofs.Faults.{not_both}
use Rattle.sigstore_tuf_causes.proofs.Carrying.{fetched_since, loaded_had}
use Rattle.sigstore_tuf_causes.proofs.Causes.{is_want}
use Rattle.sigstore_tuf_runs.proofs.Steps.{keeps_want}

-- ---- judgements that are Ok

pub equal : (m n : ℕ) → m ≡ n → (m == n) ≡ true
equal m n h = grind (arith, nat_tests)

pub if_true : {E : Type 0} (b : Bool) (e : E) → b ≡ true → ◌≡◌ {A = Result ⊤ E} (if b then Ok tt else Err e) (Ok tt)
if_true b e h = ap (λ b. if b then Ok tt else Err e) h

-- ---- one fetch, of told files and without a fault

-- memory was wanting, or P
pub data Done (P : Type 0) (result : Result ⊤ Error) : Type 0 where
  wanting : result ≡ Err tuf.NoMemory → Done P result
  done : result ≡ Ok tt → P → Done P result

pub data Answers (P : Type 0) (answer other : Result Bool Error) : Type 0 where
  wants : answer ≡ Err tuf.NoMemory → Answers P answer other
  answers : answer ≡ other → P → Answers P answer other

-- memory was wanting, or this was given
pub data Given (file : Option (List ℕ)) (result : Result (Option (List ℕ)) Error) : Type 0 where
  ungiven : result ≡ Err tuf.NoMemory → Given file result
  given : result ≡ Ok file → Given file result

told_files : (part : Folders → Files) (told : Option Folders) (folders : Folders) (name : List ℕ) (answer : Result (Option (List ℕ)) FetchFault) → told ≡ Some folders
    → IfTold told (λ folders. IsFile (part folders name) answer) → IsFile (part folders name) answer
told_files part told folders name answer e h = subst (λ told. IfTold told (λ folders. IsFile (part folders name) answer)) e h

pub fetch_given : (part : Folders → Files) (name : List ℕ) (max : ℕ) (old new : Watched Folders) (folders : Folders) (file : Option (List ℕ)) (result : Result (Option (List ℕ)) Error) → old.told ≡ Some folders → part folders name ≡ file
    → IfSome file (λ bytes. length bytes ≤ max) → Quiet old.faults new.faults → FetchesNamed part name max old new result → Given file result
fetch_given part name max old new folders file result told is short quiet (fetch_unnamed s r) = ungiven r
fetch_given part name max old new folders file result told is short quiet (fetch_asked (Ok x) f r) =
    let same : x ≡ part folders name = told_files part old.told folders name (Ok x) told f.file in
    given (r ∙ ap Ok (same ∙ is))
fetch_given part name max old new folders file result told is short quiet (fetch_asked (Err fetch.Failed) f r) = absurd (not_both old.faults new.faults f.failed quiet)
fetch_given part name max old new folders file result told is short quiet (fetch_asked (Err (fetch.TooLong seen)) f r) =
    let at = told_files part old.told folders name (Err (fetch.TooLong seen)) told f.file in
    let there : file ≡ Some at.0 = sym is ∙ at.1 in
    let fits : length at.0 ≤ max = subst (λ o. IfSome o (λ bytes. length bytes ≤ max)) there short in
    absurd (omega (arith, fits, f.limit, at.2))
fetch_given part name max old new folders file result told is short quiet (fetch_asked (Err fetch.NoMemory) f r) = ungiven r

pub of_given : {C : Type 0} (file x : Option (List ℕ)) → Given file (Ok x) → (x ≡ file → C) → C
of_given file x (ungiven h) f = cc
of_given file x (given h) f = f (ok_same x file h)

pub of_ungiven : {C : Type 0} (file : Option (List ℕ)) (e : Error) → Given file (Err e) → (e ≡ tuf.NoMemory → C) → C
of_ungiven file e (ungiven h) f = f (err_same e tuf.NoMemory h)
of_ungiven file e (given h) f = cc

-- ---- one adoption, of told files and without a fault

abbrev pub after : InForce → Option InForce → InForce
after old None = old
after old (Some new) = new

-- the document was put in force and written, or left as it was
pub record Took (k : Kind) (bytes : List ℕ) (old new : State) (r : Option InForce) : Type 0 where
  pub documents : new.documents ≡ after old.documents r
  pub told : new.repo.told ≡ old.repo.told
  pub stored : (new.store ≡ old.store) ⊎ ((written : Result ⊤ Error) × Keeps (kept_names new.documents k) bytes old.store new.store written)

-- nothing changed
pub record Left (old new : State) : Type 0 where
  pub documents : new.documents ≡ old.documents
  pub told : new.repo.told ≡ old.repo.told
  pub store : new.store ≡ old.store

module _ (session : Session) (folders : Folders) where
  fetched_so : (k : Kind) (file : Option (List ℕ)) (old new : State) (result : Result (Option (List ℕ)) Error) → old.repo.told ≡ Some folders → folders.metadata (file_name old.documents k) ≡ file
      → IfSome file (λ bytes. length bytes ≤ max_length session.config k) → Quiet old.repo.faults new.repo.faults → FetchesDocument session old.documents k old.repo new.repo result → Given file result
  fetched_so k file old new result told is short quiet f = fetch_given metadata_files (file_name old.documents k) (max_length session.config k) old.repo new.repo folders file result told is short quiet f

  told_after : (k : Kind) (old new : State) (result : Result (Option (List ℕ)) Error) → FetchesDocument session old.documents k old.repo new.repo result → new.repo.told ≡ old.repo.told
  told_after k old new result f = let s = fetched_since metadata_files (file_name old.documents k) (max_length session.config k) old.repo new.repo result f in s.same

  -- the document is there, and is judged so
  module _ (k : Kind) (bytes : List ℕ) (old new : State) (r : Option InForce) (told : old.repo.told ≡ Some folders) (is : folders.metadata (file_name old.documents k) ≡ Some bytes) (short : length bytes ≤ max_length session.config k)
      (quiet : Quiet old.repo.faults new.repo.faults) (judged : judged_of session.crypto k old.documents bytes (Some session.now) ≡ Ok r) where
    abbrev There : Result Bool Error → Type 0
    There answer = Answers (Took k bytes old new r) answer (Ok true)

    judged_same : (x : List ℕ) (j : Result (Option InForce) Error) → Some x ≡ Some bytes → judged_of session.crypto k old.documents x (Some session.now) ≡ j → j ≡ Ok r
    judged_same x j same h = sym h ∙ ap (λ x. judged_of session.crypto k old.documents x (Some session.now)) (some_same x bytes same) ∙ judged

    refused_there : (x : List ℕ) (e : Error) (answer : Result Bool Error) → Some x ≡ Some bytes → (e ≢ tuf.NoMemory → judged_of session.crypto k old.documents x (Some session.now) ≡ Err e) → answer ≡ Err e → There answer
    refused_there x e answer same j a = by_want (is_want e)
      where
        by_want : (e ≡ tuf.NoMemory) ⊎ (e ≢ tuf.NoMemory) → There answer
        by_want (inl h) = wants (a ∙ ap Err h)
        by_want (inr h) = no_both r e (sym (judged_same x (Err e) same (j h)))

    adopted_there : (x : List ℕ) (written : Result ⊤ Error) (answer : Result Bool Error) → Some x ≡ Some bytes → judged_of session.crypto k old.documents x (Some session.now) ≡ Ok (Some new.documents) → new.repo.told ≡ old.repo.told
        → Keeps (kept_names new.documents k) x old.store new.store written → answer ≡ there_of written → There answer
    adopted_there x written answer same j t w a = by_write written a w (keeps_want new.documents k x old.store new.store written w)
      where
        by_write : (written : Result ⊤ Error) → answer ≡ there_of written → Keeps (kept_names new.documents k) x old.store new.store written → IfErr written (λ e. e ≡ tuf.NoMemory) → There answer
        by_write (Ok y) a w h = answers a (record {
          documents = ap (after old.documents) (ok_same (Some new.documents) r (judged_same x (Ok (Some new.documents)) same j));
          told = t;
          stored = inr (Ok y, subst (λ x. Keeps (kept_names new.documents k) x old.store new.store (Ok y)) (some_same x bytes same) w);
        })
        by_write (Err e) a w h = wants (a ∙ ap Err h)

    pub adopts_there : (answer : Result Bool Error) → Adopts session k old new answer → There answer
    adopts_there answer (unfetched e f u a) = of_ungiven (Some bytes) e (fetched_so k (Some bytes) old new (Err e) told is short quiet f) (λ h. wants (a ∙ ap Err h))
    adopts_there answer (absent f u a) = of_given (Some bytes) None (fetched_so k (Some bytes) old new (Ok None) told is short quiet f) (λ h. cc)
    adopts_there answer (refused x e f j u a) = of_given (Some bytes) (Some x) (fetched_so k (Some bytes) old new (Ok (Some x)) told is short quiet f) (λ h. refused_there x e answer h j a)
    adopts_there answer (kept x f j u a) =
        of_given (Some bytes) (Some x) (fetched_so k (Some bytes) old new (Ok (Some x)) told is short quiet f)
        (λ h. answers a (record {
          documents = u.documents ∙ ap (after old.documents) (ok_same None r (judged_same x (Ok None) h j));
          told = told_after k old new (Ok (Some x)) f;
          stored = inl u.store;
        }))
    adopts_there answer (adopted x written f j w a) =
        of_given (Some bytes) (Some x) (fetched_so k (Some bytes) old new (Ok (Some x)) told is short quiet f) (λ h. adopted_there x written answer h j (told_after k old new (Ok (Some x)) f) w a)

  -- it isn't there
  pub adopts_lacking : (k : Kind) (old new : State) (answer : Result Bool Error) → old.repo.told ≡ Some folders → folders.metadata (file_name old.documents k) ≡ None → Quiet old.repo.faults new.repo.faults → Adopts session k old new answer
      → Answers (Left old new) answer (absence_of k)
  adopts_lacking k old new answer told is quiet (unfetched e f u a) = of_ungiven None e (fetched_so k None old new (Err e) told is tt quiet f) (λ h. wants (a ∙ ap Err h))
  adopts_lacking k old new answer told is quiet (absent f u a) = answers a (record { documents = u.documents; told = told_after k old new (Ok None) f; store = u.store })
  adopts_lacking k old new answer told is quiet (refused x e f j u a) = of_given None (Some x) (fetched_so k None old new (Ok (Some x)) told is tt quiet f) (λ h. cc)
  adopts_lacking k old new answer told is quiet (kept x f j u a) = of_given None (Some x) (fetched_so k None old new (Ok (Some x)) told is tt quiet f) (λ h. cc)
  adopts_lacking k old new answer told is quiet (adopted x written f j w a) = of_given None (Some x) (fetched_so k None old new (Ok (Some x)) told is tt quiet f) (λ h. cc)

-- ---- what a told store keeps

-- the store tells files of which Q holds
pub record TellsSo (Q : Files → Type 0) (seen : Watched Files) : Type 0 where
  pub files : Files
  pub told : seen.told ≡ Some files
  pub so : Q files

-- Q stays where the bytes are written under each of these names
abbrev pub AreHarmless : (Files → Type 0) → List ℕ → List (List ℕ) → Type 0
AreHarmless Q bytes [] = ⊤
AreHarmless Q bytes (name ∷ names) = ((files : Files) → Q files → Q (with_file name bytes files)) × AreHarmless Q bytes names

module _ (Q : Files → Type 0) where
  pub tells_same : (old new : Watched Files) → new.told ≡ old.told → TellsSo Q old → TellsSo Q new
  tells_same old new e t = record { files = t.files; told = e ∙ t.told; so = t.so }

  pub saved_so : (bytes name : List ℕ) (old new : Watched Files) (result : Result ⊤ Error) → ((files : Files) → Q files → Q (with_file name bytes files)) → Saves bytes name old new result → TellsSo Q old → TellsSo Q new
  saved_so bytes name old new result h (save_unnamed s r) t = subst (TellsSo Q) (sym s) t
  saved_so bytes name old new result h (save_asked answer s r) t = by_answer answer s.kept
    where
      put : new.told ≡ option_map (with_file name bytes) old.told → TellsSo Q new
      put e = record { files = with_file name bytes t.files; told = e ∙ ap (option_map (with_file name bytes)) t.told; so = h t.files t.so }

      by_answer : (answer : Result ⊤ StoreFault) → KeepsTold {T = ⊤} old.told new.told name bytes answer → TellsSo Q new
      by_answer (Ok y) e = put e
      by_answer (Err store.BadName) e = tells_same old new e t
      by_answer (Err store.Failed) (inl e) = tells_same old new e t
      by_answer (Err store.Failed) (inr e) = put e
      by_answer (Err store.NoMemory) (inl e) = tells_same old new e t
      by_answer (Err store.NoMemory) (inr e) = put e

  all_so : (bytes : List ℕ) (names : List (List ℕ)) (old new : Watched Files) (result : Result ⊤ Error) → AreHarmless Q bytes names → SavesAll bytes names old new result → TellsSo Q old → TellsSo Q new
  all_so bytes [] old new result h (s, r) t = subst (TellsSo Q) (sym s) t
  all_so bytes (name ∷ names) old new result h (inl (e, s, r)) t = saved_so bytes name old new (Err e) h.0 s t
  all_so bytes (name ∷ names) old new result h (inr (mid, s, more)) t = all_so bytes names mid new result h.1 more (saved_so bytes name old mid (Ok tt) h.0 s t)

  pub keeps_so : (set : InForce) (k : Kind) (bytes : List ℕ) (old new : Watched Files) (result : Result ⊤ Error) → AreHarmless Q bytes (kept_names set k) → Keeps (kept_names set k) bytes old new result → TellsSo Q old → TellsSo Q new
  keeps_so set k bytes old new result h w t = all_so bytes (kept_names set k) old new result h w.saves t

  pub took_so : (k : Kind) (bytes : List ℕ) (old new : State) (r : Option InForce) → AreHarmless Q bytes (kept_names new.documents k) → Took k bytes old new r → TellsSo Q old.store → TellsSo Q new.store
  took_so k bytes old new r h took t = by_stored took.stored
    where
      by_stored : (new.store ≡ old.store) ⊎ ((written : Result ⊤ Error) × Keeps (kept_names new.documents k) bytes old.store new.store written) → TellsSo Q new.store
      by_stored (inl e) = subst (TellsSo Q) (sym e) t
      by_stored (inr (written, w)) = keeps_so new.documents k bytes old.store new.store written h w t

-- what is loaded is what is told
pub loaded_is : (name : List ℕ) (old new : Watched Files) (files : Files) (bytes : List ℕ) → old.told ≡ Some files → LoadsNamed name old new (Ok (Some bytes)) → files name ≡ Some bytes
loaded_is name old new files bytes told l = subst (λ told. IfTold told (λ files. files name ≡ Some bytes)) told (loaded_had name old new bytes l)

-- what is under a name after a write, where the write is elsewhere or is of what is wanted there
pub none_or_put : (files : Files) (q name bytes : List ℕ) (wanted : Option (List ℕ)) → (bytes_eq q name ≡ false) ⊎ (Some bytes ≡ wanted) → IsNoneOr (files q) wanted → IsNoneOr (with_file name bytes files q) wanted
none_or_put files q name bytes wanted apart h = by_test (bytes_eq q name) refl apart
  where
    by_test : (b : Bool) → bytes_eq q name ≡ b → (bytes_eq q name ≡ false) ⊎ (Some bytes ≡ wanted) → IsNoneOr (if b then Some bytes else files q) wanted
    by_test true e (inl n) = let never : true ≡ false = sym e ∙ n in cc
    by_test true e (inr w) = inr w
    by_test false e a = h

-- what is found is wanted
pub found_wanted : (found wanted : Option (List ℕ)) (bytes : List ℕ) → IsNoneOr found wanted → found ≡ Some bytes → wanted ≡ Some bytes
found_wanted found wanted bytes (inl n) e = let never : None ≡ Some bytes = sym n ∙ e in cc
found_wanted found wanted bytes (inr w) e = sym w ∙ e
