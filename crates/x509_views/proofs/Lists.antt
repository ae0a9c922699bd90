-- Extensions one after the other: a step, whatever the bound.
use Rattle.std.proofs.Common.{◌≡◌, ℕ, zero, suc, ◌<◌, ◌≤◌, Bool, true, false, cond, eqb, List, [], ◌∷◌, length, Option, Some, None, Ok, Err, refl, ap, ◌∙◌, arith}
use Rattle.std.specs.Prelude.{bytes_eq, is_some, option_map}
use Rattle.foundation.specs.Steps.{◌>>=◌}
use Rattle.der_grammar.specs.declared.error.DerError.TheVariants.{Tag}
use Rattle.der_grammar.specs.Outcome.{Outcome}
use Rattle.der_grammar.specs.Tlv.{tlv_at}
use Rattle.der_grammar.specs.Grammar.{primitive, read, read_body}
use Rattle.der_grammar.specs.ManyLaws.{read-shrinks}
use Rattle.spki_core.specs.declared.error.X509Error.{X509Error}
use Rattle.spki_core.specs.declared.error.X509Error.TheVariants.{Der, Extension}
use Rattle.spki_core.specs.Reading.{Reading, of_der, with_tag, contents_at}
use Rattle.x509_views.specs.Extensions.{OneExtension, Found, extension_of, extension_at, found_or, found_at, found_of, distinct_at, distinct_of}

-- ---- readings

pub bind_reads : {A B : Type 0} (r : Reading A) (f : A → Reading B) (y : B) → (r >>= f) ≡ Ok y → (x : A) × (r ≡ Ok x) × (f x ≡ Ok y)
bind_reads (Ok x) f y e = (x, refl, e)
bind_reads (Err d) f y e = absurd cc

pub both_ways : {A B : Type 0} (r : Reading A) (f h : A → Reading B) → ((x : A) → r ≡ Ok x → f x ≡ h x) → (r >>= f) ≡ (r >>= h)
both_ways (Ok x) f h same = same x refl
both_ways (Err e) f h same = refl

abbrev read_ok : ℕ × List ℕ × List ℕ → Reading (List ℕ × List ℕ)
read_ok t = Ok (t.1, t.2)

abbrev outcome_ok : ℕ × List ℕ × List ℕ → Outcome (List ℕ × List ℕ)
outcome_ok t = Ok t.1 >>= λ a. Ok (a, t.2)

tagged_so : (b : Bool) (t : ℕ × List ℕ × List ℕ) (c rest : List ℕ) → cond b (read_ok t) (Err (Der Tag)) ≡ Ok (c, rest) → cond b (outcome_ok t) (Err Tag) ≡ Ok (c, rest)
tagged_so true t c rest h = cc
tagged_so false t c rest h = absurd cc

read_so : (tag : ℕ) (r : Outcome (ℕ × List ℕ × List ℕ)) (c rest : List ℕ) → (of_der r >>= with_tag tag) ≡ Ok (c, rest) → (r >>= read_body (primitive tag (λ c. true))) ≡ Ok (c, rest)
read_so tag (Ok t) c rest h = tagged_so (eqb t.0 tag) t c rest h
read_so tag (Err e) c rest h = absurd cc

pub contents-shrinks : (tag : ℕ) (bytes c rest : List ℕ) → contents_at tag bytes ≡ Ok (c, rest) → length rest < length bytes
unfolding contents_at read
contents-shrinks tag bytes c rest h = read-shrinks (primitive tag (λ c. true)) bytes c rest (read_so tag (tlv_at bytes) c rest h)

abbrev done : {A : Type 0} → A → Reading A
done x = Ok x

pub reading_is : {A : Type 0} (x y : A) → done x ≡ done y → x ≡ y
reading_is x y e = cc

pub extension-shrinks : (bytes : List ℕ) (x : OneExtension) (rest : List ℕ) → extension_at bytes ≡ Ok (x, rest) → length rest < length bytes
unfolding extension_at
extension-shrinks bytes x rest h =
    let c = bind_reads (contents_at 48 bytes) _ (x, rest) h in
    let e = bind_reads (extension_of c.0.0) _ (x, rest) c.2 in
    let is : c.0.1 ≡ rest = ap (λ (z : OneExtension × List ℕ). z.1) (reading_is (e.0, c.0.1) (x, rest) e.2) in
    let lt = contents-shrinks 48 bytes c.0.0 c.0.1 c.1 in
    omega (arith, ap length is)

-- ---- the place of one

found_alike : (oid bytes : List ℕ) (r : Reading (OneExtension × List ℕ)) (f h : List ℕ → Option Found) → ((x : OneExtension × List ℕ) → r ≡ Ok x → f x.1 ≡ h x.1) → found_or oid bytes r f ≡ found_or oid bytes r h
found_alike oid bytes (Err e) f h same = refl
found_alike oid bytes (Ok x) f h same = ap (λ (z : Option Found). cond (bytes_eq x.0.oid oid) (Some (record { from = bytes; extension = x.0; behind = x.1 })) z) (same x refl)

found-more : (n m : ℕ) (oid bytes : List ℕ) → length bytes ≤ n → length bytes ≤ m → found_at n oid bytes ≡ found_at m oid bytes
unfolding found_at
found-more n m oid [] p q = refl
found-more zero m oid (b ∷ bytes) p q = absurd (omega arith)
found-more (suc n) zero oid (b ∷ bytes) p q = absurd (omega arith)
found-more (suc n) (suc m) oid (b ∷ bytes) p q =
    found_alike oid (b ∷ bytes) (extension_at (b ∷ bytes)) (found_at n oid) (found_at m oid)
    (λ x e. let lt = extension-shrinks (b ∷ bytes) x.0 x.1 e in found-more n m oid x.1 (omega arith) (omega arith))

found-step : (oid : List ℕ) (b : ℕ) (bytes : List ℕ) → found_of oid (b ∷ bytes) ≡ found_or oid (b ∷ bytes) (extension_at (b ∷ bytes)) (found_of oid)
unfolding found_of found_at
found-step oid b bytes =
    found_alike oid (b ∷ bytes) (extension_at (b ∷ bytes)) (found_at (length bytes) oid) (λ rest. found_at (length rest) oid rest)
    (λ x e. let lt = extension-shrinks (b ∷ bytes) x.0 x.1 e in found-more (length bytes) (length x.1) oid x.1 (omega arith) (omega arith))

found-as : (oid rest : List ℕ) (r : Reading (OneExtension × List ℕ)) → 0 < length rest → extension_at rest ≡ r → found_of oid rest ≡ found_or oid rest r (found_of oid)
found-as oid [] r some e = absurd (omega arith)
found-as oid (b ∷ bytes) r some e = found-step oid b bytes ∙ ap (λ (z : Reading (OneExtension × List ℕ)). found_or oid (b ∷ bytes) z (found_of oid)) e

pub found-none : (oid rest : List ℕ) → length rest ≡ 0 → found_of oid rest ≡ None
unfolding found_of found_at
found-none oid [] e = refl
found-none oid (b ∷ bytes) e = absurd (omega arith)

pub found-stop : (oid rest : List ℕ) (e : X509Error) → 0 < length rest → extension_at rest ≡ Err e → found_of oid rest ≡ None
found-stop oid rest e some h = found-as oid rest (Err e) some h

pub found-here : (oid rest : List ℕ) (x : OneExtension) (behind : List ℕ) → 0 < length rest → extension_at rest ≡ Ok (x, behind) → bytes_eq x.oid oid ≡ true → found_of oid rest ≡ Some (record { from = rest; extension = x; behind = behind })
found-here oid rest x behind some h t = found-as oid rest (Ok (x, behind)) some h ∙ rw t refl

pub found-later : (oid rest : List ℕ) (x : OneExtension) (behind : List ℕ) → 0 < length rest → extension_at rest ≡ Ok (x, behind) → bytes_eq x.oid oid ≡ false → found_of oid rest ≡ found_of oid behind
found-later oid rest x behind some h t = found-as oid rest (Ok (x, behind)) some h ∙ rw t refl

-- ---- all of them

abbrev one_of : (List ℕ → Reading (Unit {0})) → OneExtension × List ℕ → Reading (Unit {0})
one_of later x = cond (is_some (found_of x.0.oid x.1)) (Err Extension) (later x.1)

distinct-more : (n m : ℕ) (bytes : List ℕ) → length bytes ≤ n → length bytes ≤ m → distinct_at n bytes ≡ distinct_at m bytes
unfolding distinct_at
distinct-more n m [] p q = refl
distinct-more zero m (b ∷ bytes) p q = absurd (omega arith)
distinct-more (suc n) zero (b ∷ bytes) p q = absurd (omega arith)
distinct-more (suc n) (suc m) (b ∷ bytes) p q =
    both_ways (extension_at (b ∷ bytes)) (one_of (distinct_at n)) (one_of (distinct_at m))
    (λ x e. let lt = extension-shrinks (b ∷ bytes) x.0 x.1 e in
    ap (λ (z : Reading (Unit {0})). cond (is_some (found_of x.0.oid x.1)) (Err Extension) z) (distinct-more n m x.1 (omega arith) (omega arith)))

distinct-step : (b : ℕ) (bytes : List ℕ) → distinct_of (b ∷ bytes) ≡ (extension_at (b ∷ bytes) >>= one_of distinct_of)
unfolding distinct_of distinct_at
distinct-step b bytes =
    both_ways (extension_at (b ∷ bytes)) (one_of (distinct_at (length bytes))) (one_of (λ rest. distinct_at (length rest) rest))
    (λ x e. let lt = extension-shrinks (b ∷ bytes) x.0 x.1 e in
    ap (λ (z : Reading (Unit {0})). cond (is_some (found_of x.0.oid x.1)) (Err Extension) z) (distinct-more (length bytes) (length x.1) x.1 (omega arith) (omega arith)))

distinct-as : (rest : List ℕ) (r : Reading (OneExtension × List ℕ)) → 0 < length rest → extension_at rest ≡ r → distinct_of rest ≡ (r >>= one_of distinct_of)
distinct-as [] r some e = absurd (omega arith)
distinct-as (b ∷ bytes) r some e = distinct-step b bytes ∙ ap (λ (z : Reading (OneExtension × List ℕ)). z >>= one_of distinct_of) e

pub distinct-none : (rest : List ℕ) → length rest ≡ 0 → distinct_of rest ≡ Ok tt
unfolding distinct_of distinct_at
distinct-none [] e = refl
distinct-none (b ∷ bytes) e = absurd (omega arith)

pub distinct-refused : (rest : List ℕ) (e : X509Error) → 0 < length rest → extension_at rest ≡ Err e → distinct_of rest ≡ Err e
distinct-refused rest e some h = distinct-as rest (Err e) some h

pub distinct-twice : (rest : List ℕ) (x : OneExtension) (behind : List ℕ) → 0 < length rest → extension_at rest ≡ Ok (x, behind) → is_some (found_of x.oid behind) ≡ true → distinct_of rest ≡ Err Extension
distinct-twice rest x behind some h t = distinct-as rest (Ok (x, behind)) some h ∙ rw t refl

pub distinct-later : (rest : List ℕ) (x : OneExtension) (behind : List ℕ) → 0 < length rest → extension_at rest ≡ Ok (x, behind) → is_some (found_of x.oid behind) ≡ false → distinct_of rest ≡ distinct_of behind
distinct-later rest x behind some h t = distinct-as rest (Ok (x, behind)) some h ∙ rw t refl

pub same_some : {A B : Type 0} (f : A → B) (o : Option A) (p : Option B) → option_map f o ≡ p → is_some o ≡ is_some p
same_some f None p e = ap is_some e
same_some f (Some a) p e = ap is_some e
