-- What is spelled is read again, and what is read is spelled so: each part.
use Rattle.std.proofs.Common.{◌≡◌, ℕ, zero, suc, ◌<◌, ◌≤◌, ◌==◌, nat_lt, nat_le, List, [], ◌∷◌, ◌++◌, length, get_or, take, drop, append_assoc, Bool, true, false, if◌then◌else◌, Option, Some, None, Result, Ok, Err, refl, sym, ap, ◌∙◌, subst, arith}
use Rattle.std.specs.Prelude.{⊤}
use Rattle.std.specs.List.{AllByRecursion}
use Rattle.std.specs.Int.{w32, from_be_bytes}
use Rattle.std.specs.Str.{is_utf8}
use Rattle.std.proofs.lemmas.Bool.{ltb-true, lt-ltb, leb-true, le-leb}
use Rattle.std.proofs.lemmas.Bool.Decides.{nat_tests}
use Rattle.std.proofs.lemmas.List.{take_at, drop_at, take-append-drop, length-append, length-take}
use Rattle.std.proofs.lemmas.Nat.{be_bytes_4, from_be_bytes-to_be_bytes_4}
use Rattle.foundation.specs.Results.{step_ok, ok_same}
use Rattle.foundation.specs.Steps.{◌>>=◌}
use Rattle.der_grammar.specs.Tlv.{IsBytes}
use Rattle.der_grammar.specs.TlvLaws.{IsBytes-drop}
use Rattle.sigstore_tuf_rules.specs.declared.chain.RoleDoc.{RoleDoc}
use Rattle.trust_archive.specs.declared.error.ArchiveError.TheVariants.{TooLong}
use Rattle.trust_archive.specs.declared.error.Unread.TheVariants.{Left}
use Rattle.trust_archive.specs.Grammar.{Reading, unread_at, number_spelled, number_at, fits_of, all_fit_of, counted, octets_at, counted_at, utf8_at, text_at, each_spelled, list_spelled, times_at, list_at}
use Rattle.trust_archive.specs.Spelling.{document_spelled, some_at, document_at, role_spelled, role_at, document_numbers, role_numbers, each_number}

-- ---- tests

-- a step that is Ok
pub to : {A B E : Type 0} (r : Result A E) (f : A → Result B E) (x : A) → r ≡ Ok x → (r >>= f) ≡ f x
to r f x h = ap (λ r. r >>= f) h

pub passed : {A E : Type 0} (b : Bool) (x y : A) (e : E) → (if b then Ok x else Err e) ≡ Ok y → (b ≡ true) × (x ≡ y)
passed true x y e h = (refl, ok_same x y h)
passed false x y e h = cc

-- ---- numbers

abbrev pub IsShort : ℕ → Type 0
IsShort n = n < 4294967296

pub short_of : (n : ℕ) → fits_of n ≡ Ok tt → IsShort n
unfolding fits_of
short_of n h = let p = passed (nat_lt n 4294967296) tt tt (TooLong n) h in ltb-true n 4294967296 p.0

pub fits_so : (n : ℕ) → IsShort n → fits_of n ≡ Ok tt
unfolding fits_of
fits_so n h = rw (lt-ltb n 4294967296 h) refl

four : (a b c d : ℕ) (rest : List ℕ) → nat_le 4 (length (a ∷ b ∷ c ∷ d ∷ rest)) ≡ true
four a b c d rest = le-leb 4 (length (a ∷ b ∷ c ∷ d ∷ rest)) (omega arith)

four_read : (a b c d : ℕ) (rest : List ℕ) → number_at (a ∷ b ∷ c ∷ d ∷ rest) ≡ Ok (from_be_bytes w32 (a ∷ b ∷ c ∷ d ∷ []), rest)
unfolding number_at
four_read a b c d rest = rw (four a b c d rest) refl

pub number_again : (n : ℕ) (rest : List ℕ) → IsShort n → number_at (number_spelled n ++ rest) ≡ Ok (n, rest)
number_again n rest h = four_read _ _ _ _ rest ∙ ap (λ m. Ok (m, rest)) (from_be_bytes-to_be_bytes_4 n h)

pub record Takes {A : Type 0} (spelled : A → List ℕ) (Fits : A → Type 0) (bytes : List ℕ) (x : A) (rest : List ℕ) : Type 0 where
  pub is : bytes ≡ spelled x ++ rest
  pub fits : Fits x
  pub octets : IsBytes rest

small_of : (bs : List ℕ) → IsBytes bs → (i : ℕ) → get_or bs i 0 < 256
small_of [] h i = omega arith
small_of (b ∷ bs) h zero = h.0
small_of (b ∷ bs) h (suc i) = small_of bs h.1 i

few : {C : Type 0} (bytes : List ℕ) (n : ℕ) (rest : List ℕ) → length bytes < 4 → number_at bytes ≡ Ok (n, rest) → C
unfolding number_at
few bytes n rest h e = let p = passed (nat_le 4 (length bytes)) (from_be_bytes w32 (take 4 bytes), drop 4 bytes) (n, rest) (Left (length bytes)) e in absurd (omega (arith, leb-true 4 (length bytes) p.0, h))

pub number_takes : (bytes : List ℕ) (n : ℕ) (rest : List ℕ) → IsBytes bytes → number_at bytes ≡ Ok (n, rest) → Takes number_spelled IsShort bytes n rest
number_takes [] n rest o h = few [] n rest (omega arith) h
number_takes (a ∷ []) n rest o h = few (a ∷ []) n rest (omega arith) h
number_takes (a ∷ b ∷ []) n rest o h = few (a ∷ b ∷ []) n rest (omega arith) h
number_takes (a ∷ b ∷ c ∷ []) n rest o h = few (a ∷ b ∷ c ∷ []) n rest (omega arith) h
number_takes (a ∷ b ∷ c ∷ d ∷ bytes) n rest o h =
    let same = ok_same (from_be_bytes w32 (a ∷ b ∷ c ∷ d ∷ []), bytes) (n, rest) (sym (four_read a b c d bytes) ∙ h) in
    let number : n ≡ from_be_bytes w32 (a ∷ b ∷ c ∷ d ∷ []) = sym (ap (λ (x : ℕ × List ℕ). x.0) same) in
    let spelt = be_bytes_4 (a ∷ b ∷ c ∷ d ∷ []) n refl (small_of (a ∷ b ∷ c ∷ d ∷ []) (o.0, (o.1.0, (o.1.1.0, (o.1.1.1.0, tt))))) number in
    subst (λ r. Takes number_spelled IsShort (a ∷ b ∷ c ∷ d ∷ bytes) n r) (ap (λ (x : ℕ × List ℕ). x.1) same)
    (record { is = ap (λ s. s ++ bytes) (sym spelt); fits = omega (arith, number, o.0, o.1.0, o.1.1.0, o.1.1.1.0); octets = o.1.1.1.1 })

-- ---- octets

pub octets_again : (xs rest : List ℕ) → octets_at (length xs) (xs ++ rest) ≡ Ok (xs, rest)
unfolding octets_at
octets_again xs rest = rw (le-leb (length xs) (length (xs ++ rest)) (omega (arith, length-append xs rest)), take_at xs rest (length xs) refl, drop_at xs rest (length xs) refl) refl

pub octets_takes : (n : ℕ) (bytes xs rest : List ℕ) → IsBytes bytes → octets_at n bytes ≡ Ok (xs, rest) → Takes (λ x. x) (λ x. length x ≡ n) bytes xs rest
unfolding octets_at
octets_takes n bytes xs rest o h =
    let p = passed (nat_le n (length bytes)) (take n bytes, drop n bytes) (xs, rest) (Left (length bytes)) h in
    let long : n ≤ length bytes = leb-true n (length bytes) p.0 in
    subst (λ (x : List ℕ × List ℕ). Takes (λ x. x) (λ x. length x ≡ n) bytes x.0 x.1) p.1
    (record { is = sym (take-append-drop n bytes); fits = omega (arith, length-take n bytes, long); octets = IsBytes-drop n bytes o })

-- ---- the law of a part

pub record Lawful {A : Type 0} (spelled : A → List ℕ) (Fits : A → Type 0) (reads : List ℕ → Reading A) : Type 0 where
  pub again : (x : A) (rest : List ℕ) → Fits x → reads (spelled x ++ rest) ≡ Ok (x, rest)
  pub takes : (bytes : List ℕ) (x : A) (rest : List ℕ) → IsBytes bytes → reads bytes ≡ Ok (x, rest) → Takes spelled Fits bytes x rest

-- a part and then another
pub joined : {A B : Type 0} (first : A → List ℕ) (F : A → Type 0) (second : B → List ℕ) (G : B → Type 0) (bytes : List ℕ) (x : A) (rest : List ℕ) (y : B) (rest' : List ℕ)
    → Takes first F bytes x rest → Takes second G rest y rest' → bytes ≡ (first x ++ second y) ++ rest'
joined first F second G bytes x rest y rest' t u = t.is ∙ ap (λ r. first x ++ r) u.is ∙ sym (append_assoc (first x) (second y) rest')

-- ---- octets behind their number

abbrev pub FitsCounted : List ℕ → Type 0
FitsCounted xs = IsShort (length xs)

pub counted_again : (xs rest : List ℕ) → FitsCounted xs → counted_at (counted xs ++ rest) ≡ Ok (xs, rest)
unfolding counted_at
counted_again xs rest h =
    ap counted_at' (append_assoc (number_spelled (length xs)) xs rest)
    ∙ to (number_at (number_spelled (length xs) ++ (xs ++ rest))) (λ n. octets_at n.0 n.1) (length xs, xs ++ rest) (number_again (length xs) (xs ++ rest) h) ∙ octets_again xs rest
  where
    counted_at' : List ℕ → Reading (List ℕ)
    counted_at' bytes = number_at bytes >>= λ n. octets_at n.0 n.1

pub counted_takes : (bytes xs rest : List ℕ) → IsBytes bytes → counted_at bytes ≡ Ok (xs, rest) → Takes counted FitsCounted bytes xs rest
unfolding counted_at
counted_takes bytes xs rest o h =
    let s = step_ok (number_at bytes) (λ n. octets_at n.0 n.1) (xs, rest) h in
    let n = number_takes bytes s.0.0 s.0.1 o s.1 in
    let t = octets_takes s.0.0 s.0.1 xs rest n.octets s.2 in
    record {
      is = joined number_spelled IsShort (λ x. x) (λ x. length x ≡ s.0.0) bytes s.0.0 s.0.1 xs rest n t ∙ ap (λ m. (number_spelled m ++ xs) ++ rest) (sym t.fits);
      fits = subst IsShort (sym t.fits) n.fits;
      octets = t.octets;
    }

pub lawful_counted : Lawful counted FitsCounted counted_at
lawful_counted = record { again = counted_again; takes = counted_takes }

-- ---- texts

abbrev pub FitsText : List ℕ → Type 0
FitsText xs = IsShort (length xs) × (is_utf8 xs ≡ true)

pub text_again : (xs rest : List ℕ) → FitsText xs → text_at (counted xs ++ rest) ≡ Ok (xs, rest)
unfolding text_at utf8_at
text_again xs rest h =
    ap text_at' (append_assoc (number_spelled (length xs)) xs rest)
    ∙ to (number_at (number_spelled (length xs) ++ (xs ++ rest))) (λ n. utf8_at n.0 n.1) (length xs, xs ++ rest) (number_again (length xs) (xs ++ rest) h.0)
    ∙ to (octets_at (length xs) (xs ++ rest)) (λ t. if is_utf8 t.0 then Ok t else unread_at (xs ++ rest)) (xs, rest) (octets_again xs rest) ∙ ap (λ b. if b then Ok (xs, rest) else unread_at (xs ++ rest)) h.1
  where
    text_at' : List ℕ → Reading (List ℕ)
    text_at' bytes = number_at bytes >>= λ n. utf8_at n.0 n.1

pub text_takes : (bytes xs rest : List ℕ) → IsBytes bytes → text_at bytes ≡ Ok (xs, rest) → Takes counted FitsText bytes xs rest
unfolding text_at utf8_at
text_takes bytes xs rest o h =
    let s = step_ok (number_at bytes) (λ n. utf8_at n.0 n.1) (xs, rest) h in
    let n = number_takes bytes s.0.0 s.0.1 o s.1 in
    let u = step_ok (octets_at s.0.0 s.0.1) (λ t. if is_utf8 t.0 then Ok t else unread_at s.0.1) (xs, rest) s.2 in
    let p = passed (is_utf8 u.0.0) u.0 (xs, rest) (Left (length s.0.1)) u.2 in
    let t = octets_takes s.0.0 s.0.1 xs rest n.octets (u.1 ∙ ap Ok p.1) in
    record {
      is = joined number_spelled IsShort (λ x. x) (λ x. length x ≡ s.0.0) bytes s.0.0 s.0.1 xs rest n t ∙ ap (λ m. (number_spelled m ++ xs) ++ rest) (sym t.fits);
      fits = (subst IsShort (sym t.fits) n.fits, ap (λ (x : List ℕ × List ℕ). is_utf8 x.0) (sym p.1) ∙ p.0);
      octets = t.octets;
    }

pub lawful_text : Lawful counted FitsText text_at
lawful_text = record { again = text_again; takes = text_takes }

-- ---- documents

abbrev pub FitsDocument : Option (List ℕ) → Type 0
FitsDocument None = ⊤
FitsDocument (Some bytes) = IsShort (length bytes)

pub document_again : (d : Option (List ℕ)) (rest : List ℕ) → FitsDocument d → document_at (document_spelled d ++ rest) ≡ Ok (d, rest)
unfolding document_at
document_again None rest h = refl
document_again (Some bytes) rest h = to (counted_at (counted bytes ++ rest)) (λ d. Ok (Some d.0, d.1)) (bytes, rest) (counted_again bytes rest h)

pub document_takes : (bytes : List ℕ) (d : Option (List ℕ)) (rest : List ℕ) → IsBytes bytes → document_at bytes ≡ Ok (d, rest) → Takes document_spelled FitsDocument bytes d rest
unfolding document_at
document_takes [] d rest o h = cc
document_takes (b ∷ bytes) d rest o h = by_zero (b == 0) refl h
  where
    by_one : (t : Bool) → (b == 1) ≡ t → ◌≡◌ {A = Reading (Option (List ℕ))} (if t then some_at bytes else unread_at (b ∷ bytes)) (Ok (d, rest)) → Takes document_spelled FitsDocument (b ∷ bytes) d rest
    by_one true e h =
        let one : b ≡ 1 = grind (arith, nat_tests) in
        let s = step_ok (counted_at bytes) (λ d. Ok (Some d.0, d.1)) (d, rest) h in
        let t = counted_takes bytes s.0.0 s.0.1 o.1 s.1 in
        subst (λ (x : Option (List ℕ) × List ℕ). Takes document_spelled FitsDocument (b ∷ bytes) x.0 x.1) (ok_same (Some s.0.0, s.0.1) (d, rest) s.2)
        (record { is = ap (λ n. n ∷ bytes) one ∙ ap (λ r. 1 ∷ r) t.is; fits = t.fits; octets = t.octets })
    by_one false e h = cc

    by_zero : (t : Bool) → (b == 0) ≡ t → ◌≡◌ {A = Reading (Option (List ℕ))} (if t then Ok (None, bytes) else if b == 1 then some_at bytes else unread_at (b ∷ bytes)) (Ok (d, rest)) → Takes document_spelled FitsDocument (b ∷ bytes) d rest
    by_zero true e h =
        let none : b ≡ 0 = grind (arith, nat_tests) in
        subst (λ (x : Option (List ℕ) × List ℕ). Takes document_spelled FitsDocument (b ∷ bytes) x.0 x.1) (ok_same (None, bytes) (d, rest) h)
        (record { is = ap (λ n. n ∷ bytes) none; fits = tt; octets = o.1 })
    by_zero false e h = by_one (b == 1) refl h

-- ---- roles

pub record FitsRole (r : RoleDoc) : Type 0 where
  pub name : FitsText r.name
  pub delegator : FitsText r.delegator
  pub document : FitsDocument r.bytes

role_parts : (r : RoleDoc) (rest : List ℕ) → role_spelled r ++ rest ≡ counted r.name ++ (counted r.delegator ++ (document_spelled r.bytes ++ rest))
role_parts r rest = append_assoc (counted r.name) (counted r.delegator ++ document_spelled r.bytes) rest ∙ ap (λ x. counted r.name ++ x) (append_assoc (counted r.delegator) (document_spelled r.bytes) rest)

parts_role : (name delegator : List ℕ) (bytes : Option (List ℕ)) (rest : List ℕ)
    → counted name ++ (counted delegator ++ (document_spelled bytes ++ rest)) ≡ role_spelled (record { name = name; delegator = delegator; bytes = bytes }) ++ rest
parts_role name delegator bytes rest = sym (role_parts (record { name = name; delegator = delegator; bytes = bytes }) rest)

abbrev role_at' : List ℕ → Reading RoleDoc
role_at' bytes = text_at bytes >>= λ name. text_at name.1 >>= λ delegator. document_at delegator.1 >>= λ document. Ok (record { name = name.0; delegator = delegator.0; bytes = document.0 }, document.1)

pub role_again : (r : RoleDoc) (rest : List ℕ) → FitsRole r → role_at (role_spelled r ++ rest) ≡ Ok (r, rest)
unfolding role_at
role_again r rest h =
    ap role_at' (role_parts r rest)
    ∙ to (text_at (counted r.name ++ (counted r.delegator ++ (document_spelled r.bytes ++ rest)))) _ (r.name, counted r.delegator ++ (document_spelled r.bytes ++ rest)) (text_again r.name _ h.name)
    ∙ to (text_at (counted r.delegator ++ (document_spelled r.bytes ++ rest))) _ (r.delegator, document_spelled r.bytes ++ rest) (text_again r.delegator _ h.delegator)
    ∙ to (document_at (document_spelled r.bytes ++ rest)) _ (r.bytes, rest) (document_again r.bytes rest h.document)

pub role_takes : (bytes : List ℕ) (r : RoleDoc) (rest : List ℕ) → IsBytes bytes → role_at bytes ≡ Ok (r, rest) → Takes role_spelled FitsRole bytes r rest
unfolding role_at
role_takes bytes r rest o h =
    let n = step_ok (text_at bytes) (λ name. text_at name.1 >>= λ delegator. document_at delegator.1 >>= λ document. Ok (record { name = name.0; delegator = delegator.0; bytes = document.0 }, document.1)) (r, rest) h in
    let d = step_ok (text_at n.0.1) (λ delegator. document_at delegator.1 >>= λ document. Ok (record { name = n.0.0; delegator = delegator.0; bytes = document.0 }, document.1)) (r, rest) n.2 in
    let b = step_ok (document_at d.0.1) (λ document. Ok (record { name = n.0.0; delegator = d.0.0; bytes = document.0 }, document.1)) (r, rest) d.2 in
    let name = text_takes bytes n.0.0 n.0.1 o n.1 in
    let delegator = text_takes n.0.1 d.0.0 d.0.1 name.octets d.1 in
    let document = document_takes d.0.1 b.0.0 b.0.1 delegator.octets b.1 in
    subst (λ (x : RoleDoc × List ℕ). Takes role_spelled FitsRole bytes x.0 x.1) (ok_same (record { name = n.0.0; delegator = d.0.0; bytes = b.0.0 }, b.0.1) (r, rest) b.2)
    (record {
      is = name.is ∙ ap (λ x. counted n.0.0 ++ x) delegator.is ∙ ap (λ x. counted n.0.0 ++ (counted d.0.0 ++ x)) document.is
          ∙ parts_role n.0.0 d.0.0 b.0.0 b.0.1;
      fits = record { name = name.fits; delegator = delegator.fits; document = document.fits };
      octets = document.octets;
    })

pub lawful_role : Lawful role_spelled FitsRole role_at
lawful_role = record { again = role_again; takes = role_takes }

-- ---- lists

module _ {A : Type 0} (spelled : A → List ℕ) (Fits : A → Type 0) (reads : List ℕ → Reading A) (law : Lawful spelled Fits reads) where
  times_again : (xs : List A) (rest : List ℕ) → AllByRecursion Fits xs → times_at reads (length xs) (each_spelled spelled xs ++ rest) ≡ Ok (xs, rest)
  times_again [] rest h = refl
  times_again (x ∷ xs) rest h =
      ap (times_at reads (suc (length xs))) (append_assoc (spelled x) (each_spelled spelled xs) rest)
      ∙ to (reads (spelled x ++ (each_spelled spelled xs ++ rest))) (λ first. times_at reads (length xs) first.1 >>= λ later. Ok (first.0 ∷ later.0, later.1)) (x, each_spelled spelled xs ++ rest) (law.again x _ h.0)
      ∙ to (times_at reads (length xs) (each_spelled spelled xs ++ rest)) (λ later. Ok (x ∷ later.0, later.1)) (xs, rest) (times_again xs rest h.1)

  abbrev pub FitsTimes : ℕ → List A → Type 0
  FitsTimes n xs = (length xs ≡ n) × AllByRecursion Fits xs

  times_takes : (n : ℕ) (bytes : List ℕ) (xs : List A) (rest : List ℕ) → IsBytes bytes → times_at reads n bytes ≡ Ok (xs, rest) → Takes (each_spelled spelled) (FitsTimes n) bytes xs rest
  times_takes zero bytes xs rest o h =
      subst (λ (x : List A × List ℕ). Takes (each_spelled spelled) (FitsTimes zero) bytes x.0 x.1) (ok_same ([], bytes) (xs, rest) h) (record { is = refl; fits = (refl, tt); octets = o })
  times_takes (suc n) bytes xs rest o h =
      let s = step_ok (reads bytes) (λ first. times_at reads n first.1 >>= λ later. Ok (first.0 ∷ later.0, later.1)) (xs, rest) h in
      let m = step_ok (times_at reads n s.0.1) (λ later. Ok (s.0.0 ∷ later.0, later.1)) (xs, rest) s.2 in
      let t = law.takes bytes s.0.0 s.0.1 o s.1 in
      let u = times_takes n s.0.1 m.0.0 m.0.1 t.octets m.1 in
      subst (λ (x : List A × List ℕ). Takes (each_spelled spelled) (FitsTimes (suc n)) bytes x.0 x.1) (ok_same (s.0.0 ∷ m.0.0, m.0.1) (xs, rest) m.2)
      (record {
        is = joined spelled Fits (each_spelled spelled) (FitsTimes n) bytes s.0.0 s.0.1 m.0.0 m.0.1 t u;
        fits = (ap suc u.fits.0, (t.fits, u.fits.1));
        octets = u.octets;
      })

  abbrev pub FitsList : List A → Type 0
  FitsList xs = IsShort (length xs) × AllByRecursion Fits xs

  pub list_again : (xs : List A) (rest : List ℕ) → FitsList xs → list_at reads (list_spelled spelled xs ++ rest) ≡ Ok (xs, rest)
  list_again xs rest h =
      ap (list_at reads) (append_assoc (number_spelled (length xs)) (each_spelled spelled xs) rest)
      ∙ to (number_at (number_spelled (length xs) ++ (each_spelled spelled xs ++ rest))) (λ n. times_at reads n.0 n.1) (length xs, each_spelled spelled xs ++ rest) (number_again (length xs) _ h.0) ∙ times_again xs rest h.1

  pub list_takes : (bytes : List ℕ) (xs : List A) (rest : List ℕ) → IsBytes bytes → list_at reads bytes ≡ Ok (xs, rest) → Takes (list_spelled spelled) FitsList bytes xs rest
  list_takes bytes xs rest o h =
      let s = step_ok (number_at bytes) (λ n. times_at reads n.0 n.1) (xs, rest) h in
      let n = number_takes bytes s.0.0 s.0.1 o s.1 in
      let t = times_takes s.0.0 s.0.1 xs rest n.octets s.2 in
      record {
        is = joined number_spelled IsShort (each_spelled spelled) (FitsTimes s.0.0) bytes s.0.0 s.0.1 xs rest n t ∙ ap (λ m. (number_spelled m ++ each_spelled spelled xs) ++ rest) (sym t.fits.0);
        fits = (subst IsShort (sym t.fits.0) n.fits, t.fits.1);
        octets = t.octets;
      }

-- ---- the numbers in each part

all_joined : (ms ns : List ℕ) → all_fit_of (ms ++ ns) ≡ Ok tt → (all_fit_of ms ≡ Ok tt) × (all_fit_of ns ≡ Ok tt)
all_joined [] ns h = (refl, h)
all_joined (m ∷ ms) ns h =
    let s = step_ok (fits_of m) (λ _. all_fit_of (ms ++ ns)) tt h in
    let t = all_joined ms ns s.2 in
    (to (fits_of m) (λ _. all_fit_of ms) s.0 s.1 ∙ t.0, t.1)

all_both : (ms ns : List ℕ) → all_fit_of ms ≡ Ok tt → all_fit_of ns ≡ Ok tt → all_fit_of (ms ++ ns) ≡ Ok tt
all_both [] ns h k = k
all_both (m ∷ ms) ns h k = let s = step_ok (fits_of m) (λ _. all_fit_of ms) tt h in to (fits_of m) (λ _. all_fit_of (ms ++ ns)) s.0 s.1 ∙ all_both ms ns s.2 k

module _ {A : Type 0} (numbers : A → List ℕ) (Fits : A → Type 0) where
  pub each_fits : ((x : A) → all_fit_of (numbers x) ≡ Ok tt → Fits x) → (xs : List A) → all_fit_of (each_number numbers xs) ≡ Ok tt → AllByRecursion Fits xs
  each_fits f [] h = tt
  each_fits f (x ∷ xs) h = let s = all_joined (numbers x) (each_number numbers xs) h in (f x s.0, each_fits f xs s.1)

  pub fits_each : ((x : A) → Fits x → all_fit_of (numbers x) ≡ Ok tt) → (xs : List A) → AllByRecursion Fits xs → all_fit_of (each_number numbers xs) ≡ Ok tt
  fits_each f [] h = refl
  fits_each f (x ∷ xs) h = all_both (numbers x) (each_number numbers xs) (f x h.0) (fits_each f xs h.1)

pub one_fits : (n : ℕ) → all_fit_of (n ∷ []) ≡ Ok tt → IsShort n
one_fits n h = let s = step_ok (fits_of n) (λ _. all_fit_of []) tt h in short_of n s.1

pub fits_one : (n : ℕ) → IsShort n → all_fit_of (n ∷ []) ≡ Ok tt
fits_one n h = to (fits_of n) (λ _. all_fit_of []) tt (fits_so n h)

document_fits : (d : Option (List ℕ)) → all_fit_of (document_numbers d) ≡ Ok tt → FitsDocument d
document_fits None h = tt
document_fits (Some bytes) h = one_fits (length bytes) h

fits_document : (d : Option (List ℕ)) → FitsDocument d → all_fit_of (document_numbers d) ≡ Ok tt
fits_document None h = refl
fits_document (Some bytes) h = fits_one (length bytes) h

-- the lengths in a role
pub record AreShort (r : RoleDoc) : Type 0 where
  pub name : IsShort (length r.name)
  pub delegator : IsShort (length r.delegator)
  pub document : FitsDocument r.bytes

pub role_fits : (r : RoleDoc) → all_fit_of (role_numbers r) ≡ Ok tt → AreShort r
role_fits r h =
    let n = step_ok (fits_of (length r.name)) (λ _. all_fit_of (length r.delegator ∷ document_numbers r.bytes)) tt h in
    let d = step_ok (fits_of (length r.delegator)) (λ _. all_fit_of (document_numbers r.bytes)) tt n.2 in
    record { name = short_of (length r.name) n.1; delegator = short_of (length r.delegator) d.1; document = document_fits r.bytes d.2 }

pub fits_role : (r : RoleDoc) → FitsRole r → all_fit_of (role_numbers r) ≡ Ok tt
fits_role r h =
    to (fits_of (length r.name)) (λ _. all_fit_of (length r.delegator ∷ document_numbers r.bytes)) tt (fits_so (length r.name) h.name.0)
    ∙ to (fits_of (length r.delegator)) (λ _. all_fit_of (document_numbers r.bytes)) tt (fits_so (length r.delegator) h.delegator.0) ∙ fits_document r.bytes h.document
