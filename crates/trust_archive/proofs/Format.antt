-- What is spelled is read again, and what is read is spelled so: the whole archive. So a chain has one spelling, and a spelling one chain.
use Rattle.std.proofs.Common.{◌≡◌, ℕ, List, [], ◌∷◌, ◌++◌, length, take, drop, append_assoc, append-nil, Result, Ok, refl, sym, ap, ◌∙◌, subst, bytes_eq}
use Rattle.std.specs.List.{AllByRecursion}
use Rattle.std.proofs.lemmas.List.{take-append-drop}
use Rattle.std.proofs.lemmas.Slice.Eq.{bytes_eq-Decides}
use Rattle.foundation.specs.Results.{step_ok, ok_same}
use Rattle.foundation.specs.Steps.{◌>>=◌}
use Rattle.der_grammar.specs.Tlv.{IsBytes}
use Rattle.der_grammar.specs.TlvLaws.{IsBytes-drop}
use Rattle.sigstore_tuf_rules.specs.declared.chain.RoleDoc.{RoleDoc}
use Rattle.sigstore_tuf_rules.specs.declared.chain.TrustChain.{TrustChain}
use Rattle.sigstore_tuf_parts.specs.declared.targets.TargetFile.{TargetFile}
use Rattle.trust_archive.specs.declared.archive.Archive.{Archive}
use Rattle.trust_archive.specs.declared.error.Unread.{Unread}
use Rattle.trust_archive.specs.declared.error.Unread.TheVariants.{Left}
use Rattle.trust_archive.specs.Grammar.{fits_of, all_fit_of, counted, counted_at, list_spelled, list_at, ended_at}
use Rattle.trust_archive.specs.Spelling.{archive_in, with_target, opening, opening_at, role_spelled, role_at, octets_of, each_number, counted_numbers, role_numbers, numbers_fit_of, spelling_of, documents_at, parts_of, HasTexts, IsSpelling}
use Rattle.trust_archive.proofs.Parts.{to, passed, short_of, fits_so, Takes, FitsCounted, counted_again, counted_takes, lawful_counted, FitsRole, lawful_role, FitsList, list_again, list_takes, each_fits, fits_each, one_fits, fits_one, AreShort, role_fits, fits_role}

pub record FitsArchive (a : Archive) : Type 0 where
  pub roots : FitsList counted FitsCounted counted_at lawful_counted a.roots
  pub timestamp : FitsCounted a.timestamp
  pub snapshot : FitsCounted a.snapshot
  pub roles : FitsList role_spelled FitsRole role_at lawful_role a.roles
  pub file : FitsCounted a.file

-- ---- the opening line

opening_again : (rest : List ℕ) → opening_at (opening ++ rest) ≡ Ok rest
unfolding opening_at
opening_again rest = refl

pub opening_takes : (bytes rest : List ℕ) → opening_at bytes ≡ Ok rest → bytes ≡ opening ++ rest
unfolding opening_at
opening_takes bytes rest h =
    let p = passed (bytes_eq (take 10 bytes) opening) (drop 10 bytes) rest (Left (length bytes)) h in
    sym (take-append-drop 10 bytes) ∙ ap (λ x. x ++ drop 10 bytes) ((bytes_eq-Decides (take 10 bytes) opening).0 p.0) ∙ ap (λ x. opening ++ x) p.1

pub opening_rest : (bytes rest : List ℕ) → IsBytes bytes → opening_at bytes ≡ Ok rest → IsBytes rest
unfolding opening_at
opening_rest bytes rest o h = let p = passed (bytes_eq (take 10 bytes) opening) (drop 10 bytes) rest (Left (length bytes)) h in subst IsBytes p.1 (IsBytes-drop 10 bytes o)

-- ---- the documents before the roles

abbrev pub Top : Type 0
Top = (List (List ℕ) × List ℕ) × List ℕ

abbrev pub top_octets : Top → List ℕ
top_octets t = list_spelled counted t.0.0 ++ (counted t.0.1 ++ counted t.1)

pub record FitsTop (t : Top) : Type 0 where
  pub roots : FitsList counted FitsCounted counted_at lawful_counted t.0.0
  pub timestamp : FitsCounted t.0.1
  pub snapshot : FitsCounted t.1

pub top_parts : (t : Top) (rest : List ℕ) → top_octets t ++ rest ≡ list_spelled counted t.0.0 ++ (counted t.0.1 ++ (counted t.1 ++ rest))
top_parts t rest = append_assoc (list_spelled counted t.0.0) (counted t.0.1 ++ counted t.1) rest ∙ ap (λ x. list_spelled counted t.0.0 ++ x) (append_assoc (counted t.0.1) (counted t.1) rest)

documents_again : (t : Top) (rest : List ℕ) → FitsTop t → documents_at (list_spelled counted t.0.0 ++ (counted t.0.1 ++ (counted t.1 ++ rest))) ≡ Ok (t, rest)
unfolding documents_at
documents_again t rest h =
    to (list_at counted_at (list_spelled counted t.0.0 ++ (counted t.0.1 ++ (counted t.1 ++ rest)))) _ (t.0.0, counted t.0.1 ++ (counted t.1 ++ rest)) (list_again counted FitsCounted counted_at lawful_counted t.0.0 _ h.roots)
    ∙ to (counted_at (counted t.0.1 ++ (counted t.1 ++ rest))) _ (t.0.1, counted t.1 ++ rest) (counted_again t.0.1 _ h.timestamp)
    ∙ to (counted_at (counted t.1 ++ rest)) _ (t.1, rest) (counted_again t.1 rest h.snapshot)

pub documents_takes : (bytes : List ℕ) (t : Top) (rest : List ℕ) → IsBytes bytes → documents_at bytes ≡ Ok (t, rest) → Takes top_octets FitsTop bytes t rest
unfolding documents_at
documents_takes bytes t rest o h =
    let r = step_ok (list_at counted_at bytes) (λ roots. counted_at roots.1 >>= λ timestamp. counted_at timestamp.1 >>= λ snapshot. Ok (((roots.0, timestamp.0), snapshot.0), snapshot.1)) (t, rest) h in
    let i = step_ok (counted_at r.0.1) (λ timestamp. counted_at timestamp.1 >>= λ snapshot. Ok (((r.0.0, timestamp.0), snapshot.0), snapshot.1)) (t, rest) r.2 in
    let s = step_ok (counted_at i.0.1) (λ snapshot. Ok (((r.0.0, i.0.0), snapshot.0), snapshot.1)) (t, rest) i.2 in
    let roots = list_takes counted FitsCounted counted_at lawful_counted bytes r.0.0 r.0.1 o r.1 in
    let timestamp = counted_takes r.0.1 i.0.0 i.0.1 roots.octets i.1 in
    let snapshot = counted_takes i.0.1 s.0.0 s.0.1 timestamp.octets s.1 in
    subst (λ (x : Top × List ℕ). Takes top_octets FitsTop bytes x.0 x.1) (ok_same (((r.0.0, i.0.0), s.0.0), s.0.1) (t, rest) s.2)
    (record {
      is = roots.is ∙ ap (λ x. list_spelled counted r.0.0 ++ x) (timestamp.is ∙ ap (λ x. counted i.0.0 ++ x) snapshot.is) ∙ sym (top_parts ((r.0.0, i.0.0), s.0.0) s.0.1);
      fits = record { roots = roots.fits; timestamp = timestamp.fits; snapshot = snapshot.fits };
      octets = snapshot.octets;
    })

-- ---- the whole

abbrev back : Archive → List ℕ
back a = list_spelled role_spelled a.roles ++ counted a.file

abbrev pub built : Top → List RoleDoc → List ℕ → Archive
built t roles file = record { roots = t.0.0; timestamp = t.0.1; snapshot = t.1; roles = roles; file = file }

abbrev top_in : Archive → Top
top_in a = ((a.roots, a.timestamp), a.snapshot)

ended_nothing : {A : Type 0} (x y : A) (rest : List ℕ) → ended_at x rest ≡ Ok y → (rest ≡ []) × (x ≡ y)
ended_nothing x y [] h = (refl, ok_same x y h)
ended_nothing x y (b ∷ rest) h = cc

-- the octets of an archive are read as it
pub parts_again : (a : Archive) → FitsArchive a → parts_of (octets_of a) ≡ Ok a
unfolding parts_of
parts_again a h =
    to (opening_at (octets_of a)) _ (list_spelled counted a.roots ++ (counted a.timestamp ++ (counted a.snapshot ++ back a))) (opening_again _)
    ∙ to (documents_at (list_spelled counted a.roots ++ (counted a.timestamp ++ (counted a.snapshot ++ back a)))) _ (top_in a, back a)
    (documents_again (top_in a) (back a) (record { roots = h.roots; timestamp = h.timestamp; snapshot = h.snapshot }))
    ∙ to (list_at role_at (list_spelled role_spelled a.roles ++ counted a.file)) _ (a.roles, counted a.file) (list_again role_spelled FitsRole role_at lawful_role a.roles (counted a.file) h.roles)
    ∙ ap last (sym (append-nil (counted a.file)))
    ∙ to (counted_at (counted a.file ++ [])) (λ file. ended_at (built (top_in a) a.roles file.0) file.1) (a.file, []) (counted_again a.file [] h.file)
  where
    last : List ℕ → Result Archive Unread
    last bytes = counted_at bytes >>= λ file. ended_at (built (top_in a) a.roles file.0) file.1

pub record PartsTaken (bytes : List ℕ) (a : Archive) : Type 0 where
  pub is : bytes ≡ octets_of a
  pub fits : FitsArchive a

-- what is read has these octets
pub parts_taken : (bytes : List ℕ) (a : Archive) → IsBytes bytes → parts_of bytes ≡ Ok a → PartsTaken bytes a
unfolding parts_of
parts_taken bytes a o h =
    let p = step_ok (opening_at bytes) (λ rest. documents_at rest >>= λ d. list_at role_at d.1 >>= λ roles. counted_at roles.1 >>= λ file. ended_at (built d.0 roles.0 file.0) file.1) a h in
    let d = step_ok (documents_at p.0) (λ d. list_at role_at d.1 >>= λ roles. counted_at roles.1 >>= λ file. ended_at (built d.0 roles.0 file.0) file.1) a p.2 in
    let r = step_ok (list_at role_at d.0.1) (λ roles. counted_at roles.1 >>= λ file. ended_at (built d.0.0 roles.0 file.0) file.1) a d.2 in
    let f = step_ok (counted_at r.0.1) (λ file. ended_at (built d.0.0 r.0.0 file.0) file.1) a r.2 in
    let e = ended_nothing (built d.0.0 r.0.0 f.0.0) a f.0.1 f.2 in
    let documents = documents_takes p.0 d.0.0 d.0.1 (opening_rest bytes p.0 o p.1) d.1 in
    let roles = list_takes role_spelled FitsRole role_at lawful_role d.0.1 r.0.0 r.0.1 documents.octets r.1 in
    let file = counted_takes r.0.1 f.0.0 f.0.1 roles.octets f.1 in
    let last : r.0.1 ≡ counted f.0.0 = file.is ∙ ap (λ x. counted f.0.0 ++ x) e.0 ∙ append-nil (counted f.0.0) in
    subst (PartsTaken bytes) e.1
    (record {
      is = opening_takes bytes p.0 p.1
          ∙ ap (λ x. opening ++ x) (documents.is ∙ top_parts d.0.0 d.0.1 ∙ ap (λ x. list_spelled counted d.0.0.0.0 ++ (counted d.0.0.0.1 ++ (counted d.0.0.1 ++ x))) (roles.is ∙ ap (λ x. list_spelled role_spelled r.0.0 ++ x) last));
      fits = record { roots = documents.fits.roots; timestamp = documents.fits.timestamp; snapshot = documents.fits.snapshot; roles = roles.fits; file = file.fits };
    })

-- ---- the numbers in it

all_counted : (xs : List (List ℕ)) → all_fit_of (each_number counted_numbers xs) ≡ Ok tt → AllByRecursion FitsCounted xs
all_counted xs h = each_fits counted_numbers FitsCounted (λ x. one_fits (length x)) xs h

with_texts : (roles : List RoleDoc) → AllByRecursion HasTexts roles → AllByRecursion AreShort roles → AllByRecursion FitsRole roles
with_texts [] t s = tt
with_texts (r ∷ roles) t s =
    (record { name = (s.0.name, t.0.0); delegator = (s.0.delegator, t.0.1); document = s.0.document }, with_texts roles t.1 s.1)

texts_of : (roles : List RoleDoc) → AllByRecursion FitsRole roles → AllByRecursion HasTexts roles
texts_of [] h = tt
texts_of (r ∷ roles) h = ((h.0.name.1, h.0.delegator.1), texts_of roles h.1)

fitting : (a : Archive) → AllByRecursion HasTexts a.roles → numbers_fit_of a ≡ Ok tt → FitsArchive a
unfolding numbers_fit_of
fitting a texts h =
    let n = step_ok (fits_of (length a.roots)) _ tt h in
    let e = step_ok (all_fit_of (each_number counted_numbers a.roots)) _ tt n.2 in
    let t = step_ok (fits_of (length a.timestamp)) _ tt e.2 in
    let s = step_ok (fits_of (length a.snapshot)) _ tt t.2 in
    let r = step_ok (fits_of (length a.roles)) _ tt s.2 in
    let d = step_ok (all_fit_of (each_number role_numbers a.roles)) _ tt r.2 in
    record {
      roots = (short_of (length a.roots) n.1, all_counted a.roots e.1);
      timestamp = short_of (length a.timestamp) t.1;
      snapshot = short_of (length a.snapshot) s.1;
      roles = (short_of (length a.roles) r.1, with_texts a.roles texts (each_fits role_numbers AreShort role_fits a.roles d.1));
      file = short_of (length a.file) d.2;
    }

all_fit : (a : Archive) → FitsArchive a → numbers_fit_of a ≡ Ok tt
unfolding numbers_fit_of
all_fit a h =
    to (fits_of (length a.roots)) _ tt (fits_so (length a.roots) h.roots.0)
    ∙ to (all_fit_of (each_number counted_numbers a.roots)) _ tt (fits_each counted_numbers FitsCounted (λ x. fits_one (length x)) a.roots h.roots.1)
    ∙ to (fits_of (length a.timestamp)) _ tt (fits_so (length a.timestamp) h.timestamp)
    ∙ to (fits_of (length a.snapshot)) _ tt (fits_so (length a.snapshot) h.snapshot)
    ∙ to (fits_of (length a.roles)) _ tt (fits_so (length a.roles) h.roles.0)
    ∙ to (all_fit_of (each_number role_numbers a.roles)) _ tt (fits_each role_numbers FitsRole fits_role a.roles h.roles.1)
    ∙ fits_so (length a.file) h.file

-- ---- chains

-- the spelling of a chain is read as it, but for its target
pub spelling_read : (bytes : List ℕ) (chain : TrustChain) → IsSpelling bytes chain → parts_of bytes ≡ Ok (archive_in chain)
unfolding spelling_of
spelling_read bytes chain s =
    let n = step_ok (numbers_fit_of (archive_in chain)) (λ _. Ok (octets_of (archive_in chain))) bytes s.is in
    ap parts_of (sym (ok_same (octets_of (archive_in chain)) bytes n.2)) ∙ parts_again (archive_in chain) (fitting (archive_in chain) s.texts n.1)

-- the octets of an archive are its spelling, whatever its target
pub fits_spelling : (a : Archive) (target : TargetFile) → FitsArchive a → IsSpelling (octets_of a) (with_target a target)
unfolding spelling_of
fits_spelling a target fits = record { texts = texts_of a.roles fits.roles.1; is = to (numbers_fit_of a) (λ _. Ok (octets_of a)) tt (all_fit a fits) }

-- and so are bytes that are read as it
pub read_spelling : (bytes : List ℕ) (a : Archive) (target : TargetFile) → IsBytes bytes → parts_of bytes ≡ Ok a → IsSpelling bytes (with_target a target)
read_spelling bytes a target o h = let t = parts_taken bytes a o h in subst (λ b. IsSpelling b (with_target a target)) (sym t.is) (fits_spelling a target t.fits)

-- chains of one spelling differ in their targets alone
pub one_spelling : (bytes : List ℕ) (a b : TrustChain) → IsSpelling bytes a → IsSpelling bytes b → archive_in a ≡ archive_in b
one_spelling bytes a b s t = ok_same (archive_in a) (archive_in b) (sym (spelling_read bytes a s) ∙ spelling_read bytes b t)
