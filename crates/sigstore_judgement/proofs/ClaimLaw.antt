-- What a bundle says is of an artifact exactly where the comparison of digests says so.
use Rattle.std.proofs.Common.{◌≡◌, ◌≢◌, ◌⊎◌, inl, inr, ℕ, zero, suc, List, [], ◌∷◌, Bool, true, false, ◌||◌, Option, Some, None, refl, sym, ap, ◌∙◌, arith}
use Rattle.std.specs.Prelude.{Contains}
use Rattle.std.specs.List.{list_any}
use Rattle.std.proofs.lemmas.Slice.Eq.{bytes_eq-Decides}
use Rattle.sigstore_types_parts.specs.declared.hash_algorithm.HashAlgorithm.TheVariants.{Sha2256, Sha2512}
use Rattle.sigstore_envelopes.specs.declared.statement.Statement.{Statement}
use Rattle.sigstore_envelopes.specs.declared.statement.Subject.{Subject}
use Rattle.sigstore_envelopes.specs.Statement.{is_spelled}
use Rattle.sigstore_types.specs.declared.content.MessageDigest.{MessageDigest}
use Rattle.sigstore_judgement.specs.Artifact.{Artifact, digest_of}
use Rattle.sigstore_judgement.specs.Claim.{Claim, OfDigest, OfStatement, is_digest, is_told, tells_digest, is_bound, IsTold, IsSpelled, IsBound, IsOfOther}

-- ---- lists and truths

or_either : (a b : Bool) → (a || b) ≡ true → (a ≡ true) ⊎ (b ≡ true)
or_either true b h = inl refl
or_either false b h = inr h

or_left : (a b : Bool) → a ≡ true → (a || b) ≡ true
or_left a b h = ap (λ x. x || b) h

or_right : (a b : Bool) → b ≡ true → (a || b) ≡ true
or_right true b h = refl
or_right false b h = h

among_first : {A : Type 0} (x : A) (xs : List A) → Contains (x ∷ xs) x
among_first x xs = (0, omega arith, refl)

among_later : {A : Type 0} (x : A) (xs : List A) (y : A) → Contains xs y → Contains (x ∷ xs) y
among_later x xs y (i, below, is) = (suc i, omega (arith, below), is)

where_in : {A : Type 0} (x : A) (xs : List A) (y : A) → Contains (x ∷ xs) y → (y ≡ x) ⊎ Contains xs y
where_in x xs y (zero, below, is) = inl (sym is)
where_in x xs y (suc i, below, is) = inr (i, omega (arith, below), is)

-- some of a list passes a test exactly where one that stands in it does
any_is : {A : Type 0} (test : A → Bool) (xs : List A) → list_any test xs ≡ true → (x : A) × Contains xs x × (test x ≡ true)
any_is {A} test [] h = cc
any_is {A} test (x ∷ xs) h = by (test x) refl h (any_is test xs)
  where
    by : (b : Bool) → test x ≡ b → (b || list_any test xs) ≡ true → (list_any test xs ≡ true → (y : A) × Contains xs y × (test y ≡ true))
        → (y : A) × Contains (x ∷ xs) y × (test y ≡ true)
    by true is k later = (x, among_first x xs, is)
    by false is k later = let l = later k in (l.0, among_later x xs l.0 l.1, l.2)

is_any : {A : Type 0} (test : A → Bool) (xs : List A) (x : A) → Contains xs x → test x ≡ true → list_any test xs ≡ true
is_any test [] x c h = absurd (omega (arith, c.1))
is_any test (y ∷ xs) x c h = elim (where_in y xs x c) [
  | inl here ↦ or_left (test y) (list_any test xs) (ap test (sym here) ∙ h)
  | inr there ↦ or_right (test y) (list_any test xs) (is_any test xs x there h)
]

-- ---- a digest

is_it : (told : List ℕ) (o : Option (List ℕ)) → is_digest told o ≡ true → o ≡ Some told
is_it told None h = cc
is_it told (Some digest) h = ap Some (sym ((bytes_eq-Decides told digest).0 h))

it_is : (told : List ℕ) (o : Option (List ℕ)) → o ≡ Some told → is_digest told o ≡ true
it_is told o h = ap (is_digest told) h ∙ (bytes_eq-Decides told told).1 refl

told_so : (o : Option MessageDigest) (artifact : Artifact) → is_told o (digest_of artifact) ≡ true → IsTold o artifact
told_so None artifact h = tt
told_so (Some told) artifact h = is_it told.digest (digest_of artifact told.algorithm) h

so_told : (o : Option MessageDigest) (artifact : Artifact) → IsTold o artifact → is_told o (digest_of artifact) ≡ true
so_told None artifact h = refl
so_told (Some told) artifact h = it_is told.digest (digest_of artifact told.algorithm) h

-- the artifact's digest is another than the one that is told
told_another : (o : Option MessageDigest) (artifact : Artifact) → is_told o (digest_of artifact) ≡ false
    → (told : MessageDigest) × (o ≡ Some told) × (digest_of artifact told.algorithm ≢ Some told.digest)
told_another None artifact h = cc
told_another (Some told) artifact h = (told, refl, λ same. let k = sym h ∙ it_is told.digest (digest_of artifact told.algorithm) same in cc)

-- ---- a statement

-- some subject tells the digest, by its text in one of the two places
abbrev Spells : (Subject → Option (List ℕ)) → List Subject → Option (List ℕ) → Type 0
Spells told subjects o = (subject : Subject) × Contains subjects subject × IsSpelled (told subject) o

spells : (told : Subject → Option (List ℕ)) (subjects : List Subject) (digest : List ℕ) → list_any (λ subject. is_spelled (told subject) digest) subjects ≡ true
    → Spells told subjects (Some digest)
spells told subjects digest h =
    let one = any_is (λ subject. is_spelled (told subject) digest) subjects h in
    (one.0, one.1, (digest, refl, one.2))

by_sha256 : (statement : Statement) (o : Option (List ℕ)) → tells_digest statement Sha2256 o ≡ true → Spells (λ subject. subject.sha256) statement.subjects o
by_sha256 statement None h = cc
by_sha256 statement (Some digest) h = spells (λ subject. subject.sha256) statement.subjects digest h

by_sha512 : (statement : Statement) (o : Option (List ℕ)) → tells_digest statement Sha2512 o ≡ true → Spells (λ subject. subject.sha512) statement.subjects o
by_sha512 statement None h = cc
by_sha512 statement (Some digest) h = spells (λ subject. subject.sha512) statement.subjects digest h

so_sha256 : (statement : Statement) (o : Option (List ℕ)) (subject : Subject) → Contains statement.subjects subject → IsSpelled subject.sha256 o
    → tells_digest statement Sha2256 o ≡ true
so_sha256 statement o subject among (digest, is, spelled) =
    ap (tells_digest statement Sha2256) is ∙ is_any (λ (s : Subject). is_spelled s.sha256 digest) statement.subjects subject among spelled

so_sha512 : (statement : Statement) (o : Option (List ℕ)) (subject : Subject) → Contains statement.subjects subject → IsSpelled subject.sha512 o
    → tells_digest statement Sha2512 o ≡ true
so_sha512 statement o subject among (digest, is, spelled) =
    ap (tells_digest statement Sha2512) is ∙ is_any (λ (s : Subject). is_spelled s.sha512 digest) statement.subjects subject among spelled

-- ---- what a bundle says

pub bound_so : (claim : Claim) (artifact : Artifact) → is_bound claim (digest_of artifact) ≡ true → IsBound claim artifact
bound_so (OfDigest told) artifact h = told_so told artifact h
bound_so (OfStatement statement) artifact h =
    elim (or_either (tells_digest statement Sha2256 (digest_of artifact Sha2256)) (tells_digest statement Sha2512 (digest_of artifact Sha2512)) h) [
      | inl a ↦ let s = by_sha256 statement (digest_of artifact Sha2256) a in (s.0, s.1, inl s.2)
      | inr b ↦ let s = by_sha512 statement (digest_of artifact Sha2512) b in (s.0, s.1, inr s.2)
    ]

pub so_bound : (claim : Claim) (artifact : Artifact) → IsBound claim artifact → is_bound claim (digest_of artifact) ≡ true
so_bound (OfDigest told) artifact b = so_told told artifact b
so_bound (OfStatement statement) artifact (subject, among, inl spelled) =
    or_left (tells_digest statement Sha2256 (digest_of artifact Sha2256)) (tells_digest statement Sha2512 (digest_of artifact Sha2512))
    (so_sha256 statement (digest_of artifact Sha2256) subject among spelled)
so_bound (OfStatement statement) artifact (subject, among, inr spelled) =
    or_right (tells_digest statement Sha2256 (digest_of artifact Sha2256)) (tells_digest statement Sha2512 (digest_of artifact Sha2512))
    (so_sha512 statement (digest_of artifact Sha2512) subject among spelled)

pub of_other : (claim : Claim) (artifact : Artifact) → is_bound claim (digest_of artifact) ≡ false → IsOfOther claim artifact
of_other (OfDigest told) artifact h = told_another told artifact h
of_other (OfStatement statement) artifact h =
    λ subject among is. let k = sym h ∙ so_bound (OfStatement statement) artifact (subject, among, is) in cc
