-- Identifiers of extensions one after the other: a step, whatever the bound, and what a check of them answers.
use Rattle.std.proofs.Common.{◌≡◌, ℕ, zero, suc, ◌<◌, ◌≤◌, Bool, true, false, cond, List, [], ◌∷◌, ◌++◌, length, Ok, Err, refl, sym, ap, ◌∙◌, append_assoc, arith}
use Rattle.std.specs.Prelude.{◌≢◌, bytes_eq, is_some, IfOk, IfErr}
use Rattle.std.specs.List.{list_any}
use Rattle.std.proofs.lemmas.List.{append-nil}
use Rattle.spki_core.specs.declared.error.X509Error.{X509Error}
use Rattle.spki_core.specs.declared.error.X509Error.TheVariants.{Extension, NoMemory}
use Rattle.spki_core.specs.Reading.{Reading}
use Rattle.x509_views.specs.Extensions.{OneExtension, extension_at, found_of, distinct_of}
use Rattle.x509_views.specs.Distinct.{Listed, listed_or, listed_at, listed_of, repeats}
use Rattle.x509_views.proofs.Lists.{extension-shrinks, found-none, found-stop, found-here, found-later, distinct-none, distinct-refused, distinct-twice, distinct-later}

-- ---- a step

listed_alike : (r : Reading (OneExtension × List ℕ)) (f h : List ℕ → Listed) → ((x : OneExtension × List ℕ) → r ≡ Ok x → f x.1 ≡ h x.1) → listed_or r f ≡ listed_or r h
listed_alike (Err e) f h same = refl
listed_alike (Ok x) f h same = ap (λ (z : Listed). (x.0.oid ∷ z.0, z.1)) (same x refl)

listed-more : (n m : ℕ) (bytes : List ℕ) → length bytes ≤ n → length bytes ≤ m → listed_at n bytes ≡ listed_at m bytes
unfolding listed_at
listed-more n m [] p q = refl
listed-more zero m (b ∷ bytes) p q = absurd (omega arith)
listed-more (suc n) zero (b ∷ bytes) p q = absurd (omega arith)
listed-more (suc n) (suc m) (b ∷ bytes) p q =
    listed_alike (extension_at (b ∷ bytes)) (listed_at n) (listed_at m)
    (λ x e. let lt = extension-shrinks (b ∷ bytes) x.0 x.1 e in listed-more n m x.1 (omega arith) (omega arith))

listed-step : (b : ℕ) (bytes : List ℕ) → listed_of (b ∷ bytes) ≡ listed_or (extension_at (b ∷ bytes)) listed_of
unfolding listed_of listed_at
listed-step b bytes =
    listed_alike (extension_at (b ∷ bytes)) (listed_at (length bytes)) (λ rest. listed_at (length rest) rest)
    (λ x e. let lt = extension-shrinks (b ∷ bytes) x.0 x.1 e in listed-more (length bytes) (length x.1) x.1 (omega arith) (omega arith))

listed-as : (rest : List ℕ) (r : Reading (OneExtension × List ℕ)) → 0 < length rest → extension_at rest ≡ r → listed_of rest ≡ listed_or r listed_of
listed-as [] r some e = absurd (omega arith)
listed-as (b ∷ bytes) r some e = listed-step b bytes ∙ ap (λ (z : Reading (OneExtension × List ℕ)). listed_or z listed_of) e

listed-none : (rest : List ℕ) → length rest ≡ 0 → listed_of rest ≡ ([], Ok tt)
unfolding listed_of listed_at
listed-none [] e = refl
listed-none (b ∷ bytes) e = absurd (omega arith)

listed-stop : (rest : List ℕ) (e : X509Error) → 0 < length rest → extension_at rest ≡ Err e → listed_of rest ≡ ([], Err e)
listed-stop rest e some h = listed-as rest (Err e) some h

listed-one : (rest : List ℕ) (x : OneExtension) (behind : List ℕ) → 0 < length rest → extension_at rest ≡ Ok (x, behind) → listed_of rest ≡ (x.oid ∷ (listed_of behind).0, (listed_of behind).1)
listed-one rest x behind some h = listed-as rest (Ok (x, behind)) some h

-- ---- the loop

abbrev pub ListsOn : List (List ℕ) → List ℕ → List ℕ → Type 0
ListsOn front rest bytes = (front ++ (listed_of rest).0, (listed_of rest).1) ≡ listed_of bytes

pub begins : (bytes : List ℕ) → ListsOn [] bytes bytes
begins bytes = refl

abbrev on : List (List ℕ) → Listed → Listed
on front l = (front ++ l.0, l.1)

pub lists_one : (front : List (List ℕ)) (rest behind bytes : List ℕ) (x : OneExtension) → 0 < length rest → extension_at rest ≡ Ok (x, behind) → ListsOn front rest bytes → ListsOn (front ++ x.oid ∷ []) behind bytes
lists_one front rest behind bytes x some e h =
    ap (λ (z : List (List ℕ)). (z, (listed_of behind).1)) (append_assoc front (x.oid ∷ []) (listed_of behind).0) ∙ sym (ap (on front) (listed-one rest x behind some e)) ∙ h

pub stops : (front : List (List ℕ)) (rest bytes : List ℕ) (e : X509Error) → 0 < length rest → extension_at rest ≡ Err e → ListsOn front rest bytes → listed_of bytes ≡ (front, Err e)
stops front rest bytes e some r h = sym h ∙ ap (on front) (listed-stop rest e some r) ∙ ap (λ (z : List (List ℕ)). (z, Err e)) (append-nil front)

pub ends : (front : List (List ℕ)) (rest bytes : List ℕ) → length rest ≡ 0 → ListsOn front rest bytes → listed_of bytes ≡ (front, Ok tt)
ends front rest bytes none h = sym h ∙ ap (on front) (listed-none rest none) ∙ ap (λ (z : List (List ℕ)). (z, Ok tt)) (append-nil front)

-- ---- an identifier is found exactly where it is among those that are listed

abbrev IsListed : List ℕ → List ℕ → Type 0
IsListed oid bytes = is_some (found_of oid bytes) ≡ list_any (λ y. bytes_eq y oid) (listed_of bytes).0

abbrev among : List ℕ → Listed → Bool
among oid l = list_any (λ y. bytes_eq y oid) l.0

listed-by : (oid rest : List ℕ) (x : OneExtension) (behind : List ℕ) (same : Bool) → bytes_eq x.oid oid ≡ same → 0 < length rest → extension_at rest ≡ Ok (x, behind) → IsListed oid behind → IsListed oid rest
listed-by oid rest x behind true t some r later =
    ap is_some (found-here oid rest x behind some r t) ∙ sym (ap (among oid) (listed-one rest x behind some r) ∙ rw t refl)
listed-by oid rest x behind false t some r later =
    ap is_some (found-later oid rest x behind some r t) ∙ later ∙ sym (ap (among oid) (listed-one rest x behind some r) ∙ rw t refl)

listed-read : (oid rest : List ℕ) (r : Reading (OneExtension × List ℕ)) → 0 < length rest → extension_at rest ≡ r → ((x : OneExtension) (behind : List ℕ) → extension_at rest ≡ Ok (x, behind) → IsListed oid behind) → IsListed oid rest
listed-read oid rest (Err w) some r later = ap is_some (found-stop oid rest w some r) ∙ sym (ap (among oid) (listed-stop rest w some r))
listed-read oid rest (Ok x) some r later = listed-by oid rest x.0 x.1 (bytes_eq x.0.oid oid) refl some r (later x.0 x.1 r)

listed-within : (n : ℕ) (oid bytes : List ℕ) → length bytes ≤ n → IsListed oid bytes
listed-within n oid [] le = ap is_some (found-none oid [] refl) ∙ sym (ap (among oid) (listed-none [] refl))
listed-within zero oid (b ∷ bytes) le = absurd (omega arith)
listed-within (suc n) oid (b ∷ bytes) le =
    let some : 0 < length (b ∷ bytes) = omega arith in
    listed-read oid (b ∷ bytes) (extension_at (b ∷ bytes)) some refl
    (λ x behind r. let lt = extension-shrinks (b ∷ bytes) x behind r in listed-within n oid behind (omega arith))

is_listed : (oid bytes : List ℕ) → IsListed oid bytes
is_listed oid bytes = listed-within (length bytes) oid bytes (omega arith)

-- ---- the check

abbrev pub checked_once : Listed → Reading (Unit {0})
checked_once l = cond (repeats l.0) (Err Extension) l.1

once-by : (rest : List ℕ) (x : OneExtension) (behind : List ℕ) (again : Bool) → is_some (found_of x.oid behind) ≡ again → 0 < length rest → extension_at rest ≡ Ok (x, behind) → distinct_of behind ≡ checked_once (listed_of behind) → distinct_of rest ≡ checked_once (listed_of rest)
once-by rest x behind true t some r later =
    let twice : list_any (λ y. bytes_eq y x.oid) (listed_of behind).0 ≡ true = sym (is_listed x.oid behind) ∙ t in
    distinct-twice rest x behind some r t ∙ sym (ap checked_once (listed-one rest x behind some r) ∙ rw twice refl)
once-by rest x behind false t some r later =
    let once : list_any (λ y. bytes_eq y x.oid) (listed_of behind).0 ≡ false = sym (is_listed x.oid behind) ∙ t in
    distinct-later rest x behind some r t ∙ later ∙ sym (ap checked_once (listed-one rest x behind some r) ∙ rw once refl)

once-read : (rest : List ℕ) (r : Reading (OneExtension × List ℕ)) → 0 < length rest → extension_at rest ≡ r → ((x : OneExtension) (behind : List ℕ) → extension_at rest ≡ Ok (x, behind) → distinct_of behind ≡ checked_once (listed_of behind)) → distinct_of rest ≡ checked_once (listed_of rest)
once-read rest (Err w) some r later = distinct-refused rest w some r ∙ sym (ap checked_once (listed-stop rest w some r))
once-read rest (Ok x) some r later = once-by rest x.0 x.1 (is_some (found_of x.0.oid x.1)) refl some r (later x.0 x.1 r)

once-within : (n : ℕ) (bytes : List ℕ) → length bytes ≤ n → distinct_of bytes ≡ checked_once (listed_of bytes)
once-within n [] le = distinct-none [] refl ∙ sym (ap checked_once (listed-none [] refl))
once-within zero (b ∷ bytes) le = absurd (omega arith)
once-within (suc n) (b ∷ bytes) le =
    let some : 0 < length (b ∷ bytes) = omega arith in
    once-read (b ∷ bytes) (extension_at (b ∷ bytes)) some refl
    (λ x behind r. let lt = extension-shrinks (b ∷ bytes) x behind r in once-within n behind (omega arith))

pub distinct_is : (bytes : List ℕ) → distinct_of bytes ≡ checked_once (listed_of bytes)
distinct_is bytes = once-within (length bytes) bytes (omega arith)

pub twice : (bytes : List ℕ) (oids : List (List ℕ)) (ending : Reading (Unit {0})) → listed_of bytes ≡ (oids, ending) → repeats oids ≡ true → distinct_of bytes ≡ Err Extension
twice bytes oids ending is t = distinct_is bytes ∙ ap checked_once is ∙ rw t refl

pub apart : (bytes : List ℕ) (oids : List (List ℕ)) (ending : Reading (Unit {0})) → listed_of bytes ≡ (oids, ending) → repeats oids ≡ false → distinct_of bytes ≡ ending
apart bytes oids ending is t = distinct_is bytes ∙ ap checked_once is ∙ rw t refl

pub if_ok : (r ending : Reading (Unit {0})) → r ≡ ending → IfOk ending (λ x. r ≡ Ok tt)
if_ok r (Ok x) e = e
if_ok r (Err w) e = tt

pub if_err : (r ending : Reading (Unit {0})) → r ≡ ending → IfErr ending (λ w. w ≢ NoMemory → r ≡ Err w)
if_err r (Ok x) e = tt
if_err r (Err w) e = λ other. e
