-- An identifier stands once among extensions, and what is left without it is shorter.
use Rattle.std.proofs.Common.{◌≡◌, ℕ, zero, suc, ◌-◌, ◌<◌, ◌≤◌, Bool, true, false, ltb, List, [], ◌∷◌, ◌++◌, length, Option, Some, None, Ok, Err, refl, sym, ap, subst, ◌∙◌, arith, inl, inr}
use Rattle.std.specs.Prelude.{bytes_eq, is_some}
use Rattle.std.proofs.lemmas.Bool.{cases_lt, lt-ltb, le-ltb}
use Rattle.std.proofs.lemmas.List.{length-append, length-take}
use Rattle.std.proofs.lemmas.Slice.Eq.{bytes_eq-Decides}
use Rattle.der_grammar.specs.Outcome.{Outcome}
use Rattle.der_grammar.specs.Tlv.{IsBytes, length_bytes, tlv}
use Rattle.der_grammar.specs.Grammar.{framed}
use Rattle.spki_core.specs.declared.error.X509Error.TheVariants.{Extension}
use Rattle.spki_core.specs.Reading.{Reading, of_der, before}
use Rattle.x509_views.specs.Extensions.{OneExtension, Found, extension_at, found_of, distinct_of}
use Rattle.x509_views.specs.Certificates.{Certificate, certificate_of}
use Rattle.x509_views.specs.Precertificates.{sct_oid, written_anew, without, rewritten, precert_of}
use Rattle.x509_views.proofs.Lists.{extension-shrinks, found-none, found-stop, found-here, found-later, distinct-twice, distinct-later}
use Rattle.x509_views.proofs.Made.{ExtensionFacts, extension-facts}

abbrev some_found : Found → Option Found
some_found f = Some f

abbrev no_found : Option Found
no_found = None

found_is : (f g : Found) → some_found f ≡ some_found g → f ≡ g
found_is f g e = cc

not_found : (o : Option Found) → is_some o ≡ false → o ≡ no_found
not_found None e = refl
not_found (Some f) e = absurd cc

abbrev fine : Reading (Unit {0})
fine = Ok tt

abbrev twice : Reading (Unit {0})
twice = Err Extension

-- ---- once

abbrev Once : List ℕ → List ℕ → Found → Type 0
Once oid bytes f = distinct_of bytes ≡ Ok tt → found_of oid bytes ≡ Some f → found_of oid f.behind ≡ None

-- one step, with what holds of the rest
once-here : (oid rest : List ℕ) (x : OneExtension) (behind : List ℕ) (f : Found) (same : Bool) → bytes_eq x.oid oid ≡ same → 0 < length rest → extension_at rest ≡ Ok (x, behind) → is_some (found_of x.oid behind) ≡ false → Once oid behind f → Once oid rest f
once-here oid rest x behind f true t some r alone later d e =
    let here = found-here oid rest x behind some r t in
    let is : behind ≡ f.behind = ap (λ (z : Found). z.behind) (found_is (record { from = rest; extension = x; behind = behind }) f (sym here ∙ e)) in
    let named : x.oid ≡ oid = (bytes_eq-Decides x.oid oid).0 t in
    let none : found_of x.oid behind ≡ no_found = not_found (found_of x.oid behind) alone in
    subst (λ (z : List ℕ). found_of oid z ≡ None) is (subst (λ (z : List ℕ). found_of z behind ≡ None) named none)
once-here oid rest x behind f false t some r alone later d e =
    later (sym (distinct-later rest x behind some r alone) ∙ d) (sym (found-later oid rest x behind some r t) ∙ e)

once-by : (oid rest : List ℕ) (x : OneExtension) (behind : List ℕ) (f : Found) (again : Bool) → is_some (found_of x.oid behind) ≡ again → 0 < length rest → extension_at rest ≡ Ok (x, behind) → Once oid behind f → Once oid rest f
once-by oid rest x behind f true t some r later d e = let clash : twice ≡ fine = sym (distinct-twice rest x behind some r t) ∙ d in absurd cc
once-by oid rest x behind f false t some r later d e = once-here oid rest x behind f (bytes_eq x.oid oid) refl some r t later d e

once-read : (oid rest : List ℕ) (f : Found) (r : Reading (OneExtension × List ℕ)) → 0 < length rest → extension_at rest ≡ r → ((x : OneExtension) (behind : List ℕ) → extension_at rest ≡ Ok (x, behind) → Once oid behind f) → Once oid rest f
once-read oid rest f (Err w) some r later d e = let clash : no_found ≡ some_found f = sym (found-stop oid rest w some r) ∙ e in absurd cc
once-read oid rest f (Ok x) some r later d e = once-by oid rest x.0 x.1 f (is_some (found_of x.0.oid x.1)) refl some r (later x.0 x.1 r) d e

once-within : (n : ℕ) (oid bytes : List ℕ) (f : Found) → length bytes ≤ n → Once oid bytes f
once-within n oid [] f le d e = let clash : no_found ≡ some_found f = sym (found-none oid [] refl) ∙ e in absurd cc
once-within zero oid (b ∷ bytes) f le d e = absurd (omega arith)
once-within (suc n) oid (b ∷ bytes) f le d e =
    let some : 0 < length (b ∷ bytes) = omega arith in
    once-read oid (b ∷ bytes) f (extension_at (b ∷ bytes)) some refl
    (λ x behind r. let lt = extension-shrinks (b ∷ bytes) x behind r in once-within n oid behind f (omega arith)) d e

pub once : (oid bytes : List ℕ) (f : Found) → Once oid bytes f
once oid bytes f = once-within (length bytes) oid bytes f (omega arith)

-- ---- shorter

pub record Within (bytes : List ℕ) (f : Found) : Type 0 where
  pub behind : length f.behind < length f.from
  pub from : length f.from ≤ length bytes

abbrev IsWithin : List ℕ → List ℕ → Found → Type 0
IsWithin oid bytes f = found_of oid bytes ≡ Some f → Within bytes f

within-here : (oid rest : List ℕ) (x : OneExtension) (behind : List ℕ) (f : Found) (same : Bool) → bytes_eq x.oid oid ≡ same → 0 < length rest → extension_at rest ≡ Ok (x, behind) → IsWithin oid behind f → IsWithin oid rest f
within-here oid rest x behind f true t some r later e =
    let is = found_is (record { from = rest; extension = x; behind = behind }) f (sym (found-here oid rest x behind some r t) ∙ e) in
    let lt = extension-shrinks rest x behind r in
    subst (λ (z : Found). Within rest z) is (record { behind = lt; from = omega arith })
within-here oid rest x behind f false t some r later e =
    let w = later (sym (found-later oid rest x behind some r t) ∙ e) in
    let lt = extension-shrinks rest x behind r in
    record { behind = w.behind; from = omega (arith, w.from) }

within-read : (oid rest : List ℕ) (f : Found) (r : Reading (OneExtension × List ℕ)) → 0 < length rest → extension_at rest ≡ r → ((x : OneExtension) (behind : List ℕ) → extension_at rest ≡ Ok (x, behind) → IsWithin oid behind f) → IsWithin oid rest f
within-read oid rest f (Err w) some r later e = let clash : no_found ≡ some_found f = sym (found-stop oid rest w some r) ∙ e in absurd cc
within-read oid rest f (Ok x) some r later e = within-here oid rest x.0 x.1 f (bytes_eq x.0.oid oid) refl some r (later x.0 x.1 r) e

within : (n : ℕ) (oid bytes : List ℕ) (f : Found) → length bytes ≤ n → IsWithin oid bytes f
within n oid [] f le e = let clash : no_found ≡ some_found f = sym (found-none oid [] refl) ∙ e in absurd cc
within zero oid (b ∷ bytes) f le e = absurd (omega arith)
within (suc n) oid (b ∷ bytes) f le e =
    let some : 0 < length (b ∷ bytes) = omega arith in
    within-read oid (b ∷ bytes) f (extension_at (b ∷ bytes)) some refl
    (λ x behind r. let lt = extension-shrinks (b ∷ bytes) x behind r in within n oid behind f (omega arith)) e

without-shorter : (list : List ℕ) (f : Found) → Within list f → length (without list f) ≤ length list
without-shorter list f w =
    omega (arith, w.behind, w.from, length-append (before list f.from) f.behind, length-take (length list - length f.from) list)

-- ---- lengths of encodings

at_most_1 : (n : ℕ) → n < 128 → length (length_bytes n) ≤ 1
unfolding length_bytes
at_most_1 n a = let t0 : ltb n 128 ≡ true = lt-ltb _ _ a in rw t0 (omega arith)

at_most_2 : (n : ℕ) → n < 256 → length (length_bytes n) ≤ 2
unfolding length_bytes
at_most_2 n a = elim (cases_lt n 128) [
  | inl b ↦ let t0 : ltb n 128 ≡ true = lt-ltb _ _ b in rw t0 (omega arith)
  | inr b ↦ let t0 : ltb n 128 ≡ false = le-ltb _ _ b in let t1 : ltb n 256 ≡ true = lt-ltb _ _ a in rw (t0, t1) (omega arith)
]

at_most_3 : (n : ℕ) → n < 65536 → length (length_bytes n) ≤ 3
unfolding length_bytes
at_most_3 n a = elim (cases_lt n 256) [
  | inl b ↦ let le = at_most_2 n b in omega arith
  | inr b ↦
      let t0 : ltb n 128 ≡ false = le-ltb _ _ (omega arith) in
      let t1 : ltb n 256 ≡ false = le-ltb _ _ b in
      let t2 : ltb n 65536 ≡ true = lt-ltb _ _ a in rw (t0, t1, t2) (omega arith)
]

at_most_4 : (n : ℕ) → n < 16777216 → length (length_bytes n) ≤ 4
unfolding length_bytes
at_most_4 n a = elim (cases_lt n 65536) [
  | inl b ↦ let le = at_most_3 n b in omega arith
  | inr b ↦
      let t0 : ltb n 128 ≡ false = le-ltb _ _ (omega arith) in
      let t1 : ltb n 256 ≡ false = le-ltb _ _ (omega arith) in
      let t2 : ltb n 65536 ≡ false = le-ltb _ _ b in
      let t3 : ltb n 16777216 ≡ true = lt-ltb _ _ a in rw (t0, t1, t2, t3) (omega arith)
]

at_most_5 : (n : ℕ) → length (length_bytes n) ≤ 5
unfolding length_bytes
at_most_5 n = elim (cases_lt n 16777216) [
  | inl b ↦ let le = at_most_4 n b in omega arith
  | inr b ↦
      let t0 : ltb n 128 ≡ false = le-ltb _ _ (omega arith) in
      let t1 : ltb n 256 ≡ false = le-ltb _ _ (omega arith) in
      let t2 : ltb n 65536 ≡ false = le-ltb _ _ (omega arith) in
      let t3 : ltb n 16777216 ≡ false = le-ltb _ _ b in rw (t0, t1, t2, t3) (omega arith)
]

grows : (m n : ℕ) → m ≤ n → length (length_bytes m) ≤ length (length_bytes n)
unfolding length_bytes
grows m n le = elim (cases_lt n 128) [
  | inl a ↦ let t0 : ltb n 128 ≡ true = lt-ltb _ _ a in let k = at_most_1 m (omega arith) in rw t0 (omega arith)
  | inr a ↦ let t0 : ltb n 128 ≡ false = le-ltb _ _ a in
      elim (cases_lt n 256) [
        | inl b ↦ let t1 : ltb n 256 ≡ true = lt-ltb _ _ b in let k = at_most_2 m (omega arith) in rw (t0, t1) (omega arith)
        | inr b ↦ let t1 : ltb n 256 ≡ false = le-ltb _ _ b in
            elim (cases_lt n 65536) [
              | inl d ↦ let t2 : ltb n 65536 ≡ true = lt-ltb _ _ d in let k = at_most_3 m (omega arith) in rw (t0, t1, t2) (omega arith)
              | inr d ↦ let t2 : ltb n 65536 ≡ false = le-ltb _ _ d in
                  elim (cases_lt n 16777216) [
                    | inl h ↦ let t3 : ltb n 16777216 ≡ true = lt-ltb _ _ h in let k = at_most_4 m (omega arith) in rw (t0, t1, t2, t3) (omega arith)
                    | inr h ↦ let t3 : ltb n 16777216 ≡ false = le-ltb _ _ h in let k = at_most_5 m in rw (t0, t1, t2, t3) (omega arith)
                  ]
            ]
      ]
]

tlv-grows : (tag : ℕ) (a b : List ℕ) → length a ≤ length b → length (tlv tag a) ≤ length (tlv tag b)
unfolding tlv
tlv-grows tag a b le =
    omega (arith, grows (length a) (length b) le, length-append (length_bytes (length a)) a, length-append (length_bytes (length b)) b)

-- ---- what is written anew

frames : (tag : ℕ) (contents : List ℕ) → length contents < 268435456 → framed tag contents ≡ Ok (tlv tag contents)
frames tag contents lt = let t : ltb (length contents) 268435456 ≡ true = lt-ltb _ _ lt in rw t refl

writes : (front list kept : List ℕ) → length kept ≤ length list → length list < 268435456 → length (tlv 48 list) < 268435456 → length (front ++ tlv 163 (tlv 48 list)) < 268435456
    → written_anew front kept ≡ Ok (tlv 48 (front ++ tlv 163 (tlv 48 kept)))
unfolding written_anew
writes front list kept le a b d =
    let one = tlv-grows 48 kept list le in
    let two = tlv-grows 163 (tlv 48 kept) (tlv 48 list) one in
    let f0 = frames 48 kept (omega arith) in
    let f1 = frames 163 (tlv 48 kept) (omega arith) in
    let f2 = frames 48 (front ++ tlv 163 (tlv 48 kept)) (omega (arith, length-append front (tlv 163 (tlv 48 kept)), length-append front (tlv 163 (tlv 48 list)))) in
    rw f0 (rw f1 f2)

abbrev written : List ℕ → Reading (List ℕ)
written bytes = Ok bytes

by-found : (c : Certificate) (list : List ℕ) (o : Option Found) → found_of sct_oid list ≡ o → ExtensionFacts c list
    → (out : List ℕ) × (rewritten c.tbs c.signed.tail.front list o ≡ written out)
by-found c list None e x = (c.tbs, refl)
by-found c list (Some f) e x =
    let w = within (length list) sct_oid list f (omega arith) e in
    let k = writes c.signed.tail.front list (without list f) (without-shorter list f w) x.list_facts.fits x.list_facts.outer_fits x.fits in
    (tlv 48 (c.signed.tail.front ++ tlv 163 (tlv 48 (without list f))), ap (λ (z : Outcome (List ℕ)). of_der z) k)

by-extensions : (bytes : List ℕ) (c : Certificate) (o : Option (List ℕ)) → IsBytes bytes → certificate_of bytes ≡ Ok c → c.signed.tail.extensions ≡ o
    → (out : List ℕ) × (precert_of c.tbs c.signed.tail.front o ≡ written out)
by-extensions bytes c None fits h e = (c.tbs, refl)
by-extensions bytes c (Some list) fits h e = by-found c list (found_of sct_oid list) refl (extension-facts bytes c list fits h e)

pub is-there : (bytes : List ℕ) (c : Certificate) → IsBytes bytes → certificate_of bytes ≡ Ok c
    → (out : List ℕ) × (precert_of c.tbs c.signed.tail.front c.signed.tail.extensions ≡ written out)
is-there bytes c fits h = by-extensions bytes c c.signed.tail.extensions fits h refl
