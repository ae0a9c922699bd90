-- The octets before the first part that can't be read begin the spelling of an archive.
use Rattle.std.proofs.Common.{◌≡◌, ℕ, zero, suc, ◌-◌, ◌<◌, ◌==◌, nat_le, List, [], ◌∷◌, ◌++◌, length, slice_index, take, drop, append_assoc, append-nil, length-append, Bool, true, false, if◌then◌else◌, Option, Some, None, Result, Ok, Err, refl, sym, ap, ◌∙◌, subst, arith, bytes_eq}
use Rattle.std.specs.Int.{w32, from_be_bytes}
use Rattle.std.specs.Str.{is_utf8}
use Rattle.std.proofs.lemmas.Bool.Decides.{nat_tests}
use Rattle.std.proofs.lemmas.List.{take_at}
use Rattle.std.proofs.lemmas.Str.{IsUtf8-from_ascii, is_utf8-from_IsUtf8}
use Rattle.der_grammar.specs.Tlv.{IsBytes}
use Rattle.foundation.specs.Results.{err_same, refused_at}
use Rattle.foundation.specs.Steps.{◌>>=◌}
use Rattle.sigstore_tuf_rules.specs.declared.chain.RoleDoc.{RoleDoc}
use Rattle.trust_archive.specs.declared.archive.Archive.{Archive}
use Rattle.trust_archive.specs.declared.error.Unread.{Unread}
use Rattle.trust_archive.specs.declared.error.Unread.TheVariants.{Left, NoMemory}
use Rattle.trust_archive.specs.Cause.{BeginsSpelling}
use Rattle.trust_archive.specs.Grammar.{Reading, unread_at, number_spelled, number_at, octets_at, utf8_at, counted, counted_at, text_at, each_spelled, list_spelled, times_at, list_at, ended_at}
use Rattle.trust_archive.specs.Spelling.{opening, opening_at, document_spelled, document_at, some_at, role_spelled, role_at, octets_of, documents_at, parts_of}
use Rattle.trust_archive.proofs.Format.{FitsArchive, opening_takes, opening_rest, Top, top_octets, FitsTop, top_parts, documents_takes, built, fits_spelling}
use Rattle.trust_archive.proofs.Parts.{IsShort, Takes, number_takes, Lawful, FitsCounted, counted_takes, lawful_counted, FitsText, text_takes, FitsDocument, FitsRole, lawful_role, FitsTimes, FitsList, list_takes}

-- all octets but so many begin a spelling
pub record IsBegun (bytes : List ℕ) (left : ℕ) (spelling : List ℕ) : Type 0 where
  pub front : List ℕ
  pub tail : List ℕ
  pub more : List ℕ
  pub bytes_are : bytes ≡ front ++ tail
  pub left_is : length tail ≡ left
  pub begins : spelling ≡ front ++ more

none_begun : (bytes : List ℕ) (left : ℕ) (spelling : List ℕ) → left ≡ length bytes → IsBegun bytes left spelling
none_begun bytes left spelling h = record { front = []; tail = bytes; more = spelling; bytes_are = refl; left_is = sym h; begins = refl }

-- that of a part behind these octets
behind : (octets bytes rest : List ℕ) (left : ℕ) (spelling : List ℕ) → bytes ≡ octets ++ rest → IsBegun rest left spelling → IsBegun bytes left (octets ++ spelling)
behind octets bytes rest left spelling is b = record {
  front = octets ++ b.front;
  tail = b.tail;
  more = b.more;
  bytes_are = is ∙ ap (λ r. octets ++ r) b.bytes_are ∙ sym (append_assoc octets b.front b.tail);
  left_is = b.left_is;
  begins = ap (λ r. octets ++ r) b.begins ∙ sym (append_assoc octets b.front b.more);
}

-- that of a part before these
before : (bytes : List ℕ) (left : ℕ) (spelling octets : List ℕ) → IsBegun bytes left spelling → IsBegun bytes left (spelling ++ octets)
before bytes left spelling octets b = record {
  front = b.front;
  tail = b.tail;
  more = b.more ++ octets;
  bytes_are = b.bytes_are;
  left_is = b.left_is;
  begins = ap (λ r. r ++ octets) b.begins ∙ append_assoc b.front b.more octets;
}

pub record Begins {A : Type 0} (spelled : A → List ℕ) (Fits : A → Type 0) (bytes : List ℕ) (left : ℕ) : Type 0 where
  pub whole : A
  pub fits : Fits whole
  pub begun : IsBegun bytes left (spelled whole)

-- ---- what is left where nothing is read

abbrev left_in : Unread → ℕ
left_in (Left left) = left
left_in NoMemory = 0

same_left : {A : Type 0} (bytes : List ℕ) (left : ℕ) → ◌≡◌ {A = Result A Unread} (Err (Left (length bytes))) (Err (Left left)) → left ≡ length bytes
same_left bytes left h = sym (ap left_in (err_same (Left (length bytes)) (Left left) h))

unless_read : {A : Type 0} (b : Bool) (x : A) (bytes : List ℕ) (left : ℕ) → ◌≡◌ {A = Result A Unread} (if b then Ok x else Err (Left (length bytes))) (Err (Left left)) → left ≡ length bytes
unless_read true x bytes left h = cc
unless_read {A} false x bytes left h = same_left {A = A} bytes left h

number_left : (bytes : List ℕ) (left : ℕ) → number_at bytes ≡ Err (Left left) → left ≡ length bytes
unfolding number_at
number_left bytes left h = unless_read (nat_le 4 (length bytes)) (from_be_bytes w32 (take 4 bytes), drop 4 bytes) bytes left h

octets_left : (n : ℕ) (bytes : List ℕ) (left : ℕ) → octets_at n bytes ≡ Err (Left left) → left ≡ length bytes
unfolding octets_at
octets_left n bytes left h = unless_read (nat_le n (length bytes)) (take n bytes, drop n bytes) bytes left h

utf8_left : (n : ℕ) (bytes : List ℕ) (left : ℕ) → utf8_at n bytes ≡ Err (Left left) → left ≡ length bytes
unfolding utf8_at
utf8_left n bytes left h =
    refused_at (octets_at n bytes) (λ t. if is_utf8 t.0 then Ok t else unread_at bytes) (Left left) h (λ p. octets_left n bytes left p) (λ t p k. unless_read (is_utf8 t.0) t bytes left k)

-- ---- octets behind their number

abbrev zeros : ℕ → List ℕ
zeros zero = []
zeros (suc n) = 0 ∷ zeros n

length_zeros : (n : ℕ) → length (zeros n) ≡ n
length_zeros zero = refl
length_zeros (suc n) = ap suc (length_zeros n)

zero_at : (n i : ℕ) → slice_index (zeros n) i < 128
zero_at zero i = omega arith
zero_at (suc n) zero = omega arith
zero_at (suc n) (suc i) = zero_at n i

text_zeros : (n : ℕ) → is_utf8 (zeros n) ≡ true
text_zeros n = is_utf8-from_IsUtf8 (zeros n) (IsUtf8-from_ascii (zeros n) (zero_at n))

-- the number was read, and nothing behind it
numbered : (n : ℕ) (bytes rest : List ℕ) (left : ℕ) → Takes number_spelled IsShort bytes n rest → left ≡ length rest → IsBegun bytes left (counted (zeros n))
numbered n bytes rest left t h = record {
  front = number_spelled n;
  tail = rest;
  more = zeros n;
  bytes_are = t.is;
  left_is = sym h;
  begins = ap (λ m. number_spelled m ++ zeros n) (length_zeros n);
}

short_zeros : (n : ℕ) → IsShort n → IsShort (length (zeros n))
short_zeros n h = subst IsShort (sym (length_zeros n)) h

counted_begins : (bytes : List ℕ) (left : ℕ) → IsBytes bytes → counted_at bytes ≡ Err (Left left) → Begins counted FitsCounted bytes left
unfolding counted_at
counted_begins bytes left o h =
    refused_at (number_at bytes) (λ n. octets_at n.0 n.1) (Left left) h
    (λ p. record { whole = []; fits = omega arith; begun = none_begun bytes left (counted []) (number_left bytes left p) })
    (λ n p k.
    let t = number_takes bytes n.0 n.1 o p in
    record { whole = zeros n.0; fits = short_zeros n.0 t.fits; begun = numbered n.0 bytes n.1 left t (octets_left n.0 n.1 left k) })

text_begins : (bytes : List ℕ) (left : ℕ) → IsBytes bytes → text_at bytes ≡ Err (Left left) → Begins counted FitsText bytes left
unfolding text_at
text_begins bytes left o h =
    refused_at (number_at bytes) (λ n. utf8_at n.0 n.1) (Left left) h
    (λ p. record { whole = []; fits = (omega arith, text_zeros 0); begun = none_begun bytes left (counted []) (number_left bytes left p) })
    (λ n p k.
    let t = number_takes bytes n.0 n.1 o p in
    record { whole = zeros n.0; fits = (short_zeros n.0 t.fits, text_zeros n.0); begun = numbered n.0 bytes n.1 left t (utf8_left n.0 n.1 left k) })

-- ---- documents and roles

document_begins : (bytes : List ℕ) (left : ℕ) → IsBytes bytes → document_at bytes ≡ Err (Left left) → Begins document_spelled FitsDocument bytes left
unfolding document_at
document_begins [] left o h = record { whole = None; fits = tt; begun = none_begun [] left (document_spelled None) (same_left {A = Option (List ℕ) × List ℕ} [] left h) }
document_begins (b ∷ bytes) left o h = by_zero (b == 0) h
  where
    by_one : (t : Bool) → (b == 1) ≡ t → ◌≡◌ {A = Reading (Option (List ℕ))} (if t then some_at bytes else unread_at (b ∷ bytes)) (Err (Left left)) → Begins document_spelled FitsDocument (b ∷ bytes) left
    by_one true e h =
        let one : b ≡ 1 = grind (arith, nat_tests) in
        refused_at (counted_at bytes) (λ d. Ok (Some d.0, d.1)) (Left left) h
        (λ p.
        let c = counted_begins bytes left o.1 p in
        record { whole = Some c.whole; fits = c.fits; begun = behind (1 ∷ []) (b ∷ bytes) bytes left (counted c.whole) (ap (λ n. n ∷ bytes) one) c.begun }) (λ d p k. cc)
    by_one false e h = record { whole = None; fits = tt; begun = none_begun (b ∷ bytes) left (document_spelled None) (same_left {A = Option (List ℕ) × List ℕ} (b ∷ bytes) left h) }

    by_zero : (t : Bool) → ◌≡◌ {A = Reading (Option (List ℕ))} (if t then Ok (None, bytes) else if b == 1 then some_at bytes else unread_at (b ∷ bytes)) (Err (Left left)) → Begins document_spelled FitsDocument (b ∷ bytes) left
    by_zero true h = cc
    by_zero false h = by_one (b == 1) refl h

fits_none : FitsText []
fits_none = (omega arith, text_zeros 0)

role_begins : (bytes : List ℕ) (left : ℕ) → IsBytes bytes → role_at bytes ≡ Err (Left left) → Begins role_spelled FitsRole bytes left
unfolding role_at
role_begins bytes left o h =
    refused_at (text_at bytes) (λ name. text_at name.1 >>= λ delegator. document_at delegator.1 >>= λ document. Ok (record { name = name.0; delegator = delegator.0; bytes = document.0 }, document.1)) (Left left) h
    (λ p.
    let n = text_begins bytes left o p in
    record {
      whole = record { name = n.whole; delegator = []; bytes = None };
      fits = record { name = n.fits; delegator = fits_none; document = tt };
      begun = before bytes left (counted n.whole) (counted [] ++ document_spelled None) n.begun;
    })
    (λ name p k.
    let n = text_takes bytes name.0 name.1 o p in
    refused_at (text_at name.1) (λ delegator. document_at delegator.1 >>= λ document. Ok (record { name = name.0; delegator = delegator.0; bytes = document.0 }, document.1)) (Left left) k
    (λ q.
    let d = text_begins name.1 left n.octets q in
    record {
      whole = record { name = name.0; delegator = d.whole; bytes = None };
      fits = record { name = n.fits; delegator = d.fits; document = tt };
      begun = behind (counted name.0) bytes name.1 left (counted d.whole ++ document_spelled None) n.is (before name.1 left (counted d.whole) (document_spelled None) d.begun);
    })
    (λ delegator q l.
    let d = text_takes name.1 delegator.0 delegator.1 n.octets q in
    refused_at (document_at delegator.1) (λ document. Ok (record { name = name.0; delegator = delegator.0; bytes = document.0 }, document.1)) (Left left) l
    (λ r.
    let b = document_begins delegator.1 left d.octets r in
    record {
      whole = record { name = name.0; delegator = delegator.0; bytes = b.whole };
      fits = record { name = n.fits; delegator = d.fits; document = b.fits };
      begun = behind (counted name.0) bytes name.1 left (counted delegator.0 ++ document_spelled b.whole) n.is (behind (counted delegator.0) name.1 delegator.1 left (document_spelled b.whole) d.is b.begun);
    }) (λ b r m. cc)))

-- ---- lists

module _ {A : Type 0} (spelled : A → List ℕ) (Fits : A → Type 0) (reads : List ℕ → Reading A) (law : Lawful spelled Fits reads) (least : A) (least_fits : Fits least)
    (item : (bytes : List ℕ) (left : ℕ) → IsBytes bytes → reads bytes ≡ Err (Left left) → Begins spelled Fits bytes left) where
  abbrev so_many : ℕ → List A
  so_many zero = []
  so_many (suc n) = least ∷ so_many n

  so_many_fit : (n : ℕ) → FitsTimes spelled Fits reads law n (so_many n)
  so_many_fit zero = (refl, tt)
  so_many_fit (suc n) = let f = so_many_fit n in (ap suc f.0, (least_fits, f.1))

  times_begins : (n : ℕ) (bytes : List ℕ) (left : ℕ) → IsBytes bytes → times_at reads n bytes ≡ Err (Left left) → Begins (each_spelled spelled) (FitsTimes spelled Fits reads law n) bytes left
  times_begins zero bytes left o h = cc
  times_begins (suc n) bytes left o h =
      refused_at (reads bytes) (λ first. times_at reads n first.1 >>= λ later. Ok (first.0 ∷ later.0, later.1)) (Left left) h
      (λ p.
      let i = item bytes left o p in
      let f = so_many_fit n in
      record { whole = i.whole ∷ so_many n; fits = (ap suc f.0, (i.fits, f.1)); begun = before bytes left (spelled i.whole) (each_spelled spelled (so_many n)) i.begun })
      (λ first p k.
      let t = law.takes bytes first.0 first.1 o p in
      refused_at (times_at reads n first.1) (λ later. Ok (first.0 ∷ later.0, later.1)) (Left left) k
      (λ q.
      let m = times_begins n first.1 left t.octets q in
      record { whole = first.0 ∷ m.whole; fits = (ap suc m.fits.0, (t.fits, m.fits.1)); begun = behind (spelled first.0) bytes first.1 left (each_spelled spelled m.whole) t.is m.begun }) (λ later q l. cc))

  pub list_begins : (bytes : List ℕ) (left : ℕ) → IsBytes bytes → list_at reads bytes ≡ Err (Left left) → Begins (list_spelled spelled) (FitsList spelled Fits reads law) bytes left
  list_begins bytes left o h =
      refused_at (number_at bytes) (λ n. times_at reads n.0 n.1) (Left left) h
      (λ p. record { whole = []; fits = (omega arith, tt); begun = none_begun bytes left (list_spelled spelled []) (number_left bytes left p) })
      (λ n p k.
      let t = number_takes bytes n.0 n.1 o p in
      let m = times_begins n.0 n.1 left t.octets k in
      record {
        whole = m.whole;
        fits = (subst IsShort (sym m.fits.0) t.fits, m.fits.1);
        begun = subst (λ x. IsBegun bytes left (number_spelled x ++ each_spelled spelled m.whole)) (sym m.fits.0) (behind (number_spelled n.0) bytes n.1 left (each_spelled spelled m.whole) t.is m.begun);
      })

-- ---- the whole

empty_list : {A : Type 0} (spelled : A → List ℕ) (Fits : A → Type 0) (reads : List ℕ → Reading A) (law : Lawful spelled Fits reads) → FitsList spelled Fits reads law []
empty_list spelled Fits reads law = (omega arith, tt)

no_octets : FitsCounted []
no_octets = omega arith

-- what follows the opening line
abbrev behind_opening : Archive → List ℕ
behind_opening a = list_spelled counted a.roots ++ (counted a.timestamp ++ (counted a.snapshot ++ (list_spelled role_spelled a.roles ++ counted a.file)))

abbrev no_back : List ℕ
no_back = list_spelled role_spelled [] ++ counted []

documents_begin : (bytes : List ℕ) (left : ℕ) → IsBytes bytes → documents_at bytes ≡ Err (Left left) → Begins behind_opening FitsArchive bytes left
unfolding documents_at
documents_begin bytes left o h =
    refused_at (list_at counted_at bytes) (λ roots. counted_at roots.1 >>= λ timestamp. counted_at timestamp.1 >>= λ snapshot. Ok (((roots.0, timestamp.0), snapshot.0), snapshot.1)) (Left left) h
    (λ p.
    let r = list_begins counted FitsCounted counted_at lawful_counted [] no_octets counted_begins bytes left o p in
    record {
      whole = record { roots = r.whole; timestamp = []; snapshot = []; roles = []; file = [] };
      fits = record { roots = r.fits; timestamp = no_octets; snapshot = no_octets; roles = empty_list role_spelled FitsRole role_at lawful_role; file = no_octets };
      begun = before bytes left (list_spelled counted r.whole) (counted [] ++ (counted [] ++ no_back)) r.begun;
    })
    (λ roots p k.
    let r = list_takes counted FitsCounted counted_at lawful_counted bytes roots.0 roots.1 o p in
    refused_at (counted_at roots.1) (λ timestamp. counted_at timestamp.1 >>= λ snapshot. Ok (((roots.0, timestamp.0), snapshot.0), snapshot.1)) (Left left) k
    (λ q.
    let t = counted_begins roots.1 left r.octets q in
    record {
      whole = record { roots = roots.0; timestamp = t.whole; snapshot = []; roles = []; file = [] };
      fits = record { roots = r.fits; timestamp = t.fits; snapshot = no_octets; roles = empty_list role_spelled FitsRole role_at lawful_role; file = no_octets };
      begun = behind (list_spelled counted roots.0) bytes roots.1 left (counted t.whole ++ (counted [] ++ no_back)) r.is (before roots.1 left (counted t.whole) (counted [] ++ no_back) t.begun);
    })
    (λ timestamp q l.
    let t = counted_takes roots.1 timestamp.0 timestamp.1 r.octets q in
    refused_at (counted_at timestamp.1) (λ snapshot. Ok (((roots.0, timestamp.0), snapshot.0), snapshot.1)) (Left left) l
    (λ s.
    let n = counted_begins timestamp.1 left t.octets s in
    record {
      whole = record { roots = roots.0; timestamp = timestamp.0; snapshot = n.whole; roles = []; file = [] };
      fits = record { roots = r.fits; timestamp = t.fits; snapshot = n.fits; roles = empty_list role_spelled FitsRole role_at lawful_role; file = no_octets };
      begun = behind (list_spelled counted roots.0) bytes roots.1 left (counted timestamp.0 ++ (counted n.whole ++ no_back)) r.is
          (behind (counted timestamp.0) roots.1 timestamp.1 left (counted n.whole ++ no_back) t.is (before timestamp.1 left (counted n.whole) no_back n.begun));
    }) (λ snapshot s m. cc)))

opening_left : (bytes : List ℕ) (left : ℕ) → opening_at bytes ≡ Err (Left left) → left ≡ length bytes
unfolding opening_at
opening_left bytes left h = unless_read (bytes_eq (take 10 bytes) opening) (drop 10 bytes) bytes left h

ended_left : {A : Type 0} (x : A) (rest : List ℕ) (left : ℕ) → ended_at x rest ≡ Err (Left left) → left ≡ length rest
ended_left x [] left h = cc
ended_left {A} x (b ∷ rest) left h = same_left {A = A} (b ∷ rest) left h

all_begun : (octets bytes rest : List ℕ) (left : ℕ) → bytes ≡ octets ++ rest → left ≡ length rest → IsBegun bytes left octets
all_begun octets bytes rest left is h = record { front = octets; tail = rest; more = []; bytes_are = is; left_is = sym h; begins = sym (append-nil octets) }

-- what begins behind the documents begins so in the archive
back_begins : (bytes rest : List ℕ) (t : Top) (after : List ℕ) (roles : List RoleDoc) (file : List ℕ) (left : ℕ) → opening_at bytes ≡ Ok rest → Takes top_octets FitsTop rest t after
    → IsBegun after left (list_spelled role_spelled roles ++ counted file) → IsBegun bytes left (octets_of (built t roles file))
back_begins bytes rest t after roles file left p d b =
    behind opening bytes rest left (behind_opening (built t roles file)) (opening_takes bytes rest p)
    (subst (IsBegun rest left) (top_parts t (list_spelled role_spelled roles ++ counted file)) (behind (top_octets t) rest after left (list_spelled role_spelled roles ++ counted file) d.is b))

abbrev least_role : RoleDoc
least_role = record { name = []; delegator = []; bytes = None }

least_fits : FitsRole least_role
least_fits = record { name = fits_none; delegator = fits_none; document = tt }

parts_begin : (bytes : List ℕ) (left : ℕ) → IsBytes bytes → parts_of bytes ≡ Err (Left left) → Begins octets_of FitsArchive bytes left
unfolding parts_of
parts_begin bytes left o h =
    refused_at (opening_at bytes) (λ rest. documents_at rest >>= λ d. list_at role_at d.1 >>= λ roles. counted_at roles.1 >>= λ file. ended_at (built d.0 roles.0 file.0) file.1) (Left left) h
    (λ p. record {
      whole = record { roots = []; timestamp = []; snapshot = []; roles = []; file = [] };
      fits = record {
        roots = empty_list counted FitsCounted counted_at lawful_counted;
        timestamp = no_octets;
        snapshot = no_octets;
        roles = empty_list role_spelled FitsRole role_at lawful_role;
        file = no_octets;
      };
      begun = none_begun bytes left _ (opening_left bytes left p);
    })
    (λ rest p k.
    let octets = opening_rest bytes rest o p in
    refused_at (documents_at rest) (λ d. list_at role_at d.1 >>= λ roles. counted_at roles.1 >>= λ file. ended_at (built d.0 roles.0 file.0) file.1) (Left left) k
    (λ q.
    let d = documents_begin rest left octets q in record { whole = d.whole; fits = d.fits; begun = behind opening bytes rest left (behind_opening d.whole) (opening_takes bytes rest p) d.begun })
    (λ t q l. back bytes left rest p octets t q l))
  where
    back : (bytes : List ℕ) (left : ℕ) (rest : List ℕ) → opening_at bytes ≡ Ok rest → IsBytes rest → (t : Top × List ℕ) → documents_at rest ≡ Ok t
        → (list_at role_at t.1 >>= λ roles. counted_at roles.1 >>= λ file. ended_at (built t.0 roles.0 file.0) file.1) ≡ Err (Left left) → Begins octets_of FitsArchive bytes left
    back bytes left rest p octets t q l =
        let d = documents_takes rest t.0 t.1 octets q in
        refused_at (list_at role_at t.1) (λ roles. counted_at roles.1 >>= λ file. ended_at (built t.0 roles.0 file.0) file.1) (Left left) l
        (λ r.
        let roles = list_begins role_spelled FitsRole role_at lawful_role least_role least_fits role_begins t.1 left d.octets r in
        record {
          whole = built t.0 roles.whole [];
          fits = record { roots = d.fits.roots; timestamp = d.fits.timestamp; snapshot = d.fits.snapshot; roles = roles.fits; file = no_octets };
          begun = back_begins bytes rest t.0 t.1 roles.whole [] left p d (before t.1 left (list_spelled role_spelled roles.whole) (counted []) roles.begun);
        })
        (λ roles r m.
        let many = list_takes role_spelled FitsRole role_at lawful_role t.1 roles.0 roles.1 d.octets r in
        refused_at (counted_at roles.1) (λ file. ended_at (built t.0 roles.0 file.0) file.1) (Left left) m
        (λ s.
        let file = counted_begins roles.1 left many.octets s in
        record {
          whole = built t.0 roles.0 file.whole;
          fits = record { roots = d.fits.roots; timestamp = d.fits.timestamp; snapshot = d.fits.snapshot; roles = many.fits; file = file.fits };
          begun = back_begins bytes rest t.0 t.1 roles.0 file.whole left p d (behind (list_spelled role_spelled roles.0) t.1 roles.1 left (counted file.whole) many.is file.begun);
        })
        (λ file s n.
        let taken = counted_takes roles.1 file.0 file.1 many.octets s in
        record {
          whole = built t.0 roles.0 file.0;
          fits = record { roots = d.fits.roots; timestamp = d.fits.timestamp; snapshot = d.fits.snapshot; roles = many.fits; file = taken.fits };
          begun = back_begins bytes rest t.0 t.1 roles.0 file.0 left p d
              (behind (list_spelled role_spelled roles.0) t.1 roles.1 left (counted file.0) many.is
              (all_begun (counted file.0) roles.1 file.1 left taken.is (ended_left (built t.0 roles.0 file.0) file.1 left n)));
        }))

-- the octets before, and the archive whose spelling they begin
pub format_begins : (bytes : List ℕ) (left : ℕ) → IsBytes bytes → parts_of bytes ≡ Err (Left left) → BeginsSpelling bytes (length bytes - left)
format_begins bytes left o h =
    let b = parts_begin bytes left o h in
    let at : length b.begun.front ≡ length bytes - left = omega (arith, ap length b.begun.bytes_are, length-append b.begun.front b.begun.tail, b.begun.left_is) in
    record {
      whole = b.whole;
      spelling = octets_of b.whole;
      spells = λ target. fits_spelling b.whole target b.fits;
      more = b.begun.more;
      begins = b.begun.begins ∙ ap (λ f. f ++ b.begun.more) (sym (ap (take (length bytes - left)) b.begun.bytes_are ∙ take_at b.begun.front b.begun.tail (length bytes - left) at));
    }
