-- The digests that were taken of an artifact are the artifact's, for each algorithm that is needed.
use Rattle.std.proofs.Common.{◌≡◌, ℕ, List, [], ◌∷◌, ◌++◌, Bool, true, false, ◌||◌, ◌&&◌, cond, if◌then◌else◌, Option, Some, None, option_map, find}
use Rattle.std.proofs.Common.{Result, Ok, refl, sym, ap, ◌∙◌, subst}
use Rattle.std.specs.List.{list_any, list_all}
use Rattle.std.specs.Prelude.{is_some}
use Rattle.foundation.specs.Results.{and_true, step_ok, ok_same}
use Rattle.sigstore_types_parts.specs.HashAlgorithm.{same_algorithm, with_algorithm, with_optional}
use Rattle.sigstore_types_parts.specs.declared.hash_algorithm.HashAlgorithm.{HashAlgorithm}
use Rattle.sigstore_types_parts.specs.declared.hash_algorithm.HashAlgorithm.TheVariants.{Sha2256, Sha2384, Sha2512, Sha3256, Sha3384}
use Rattle.sigstore_types.specs.declared.content.MessageDigest.{MessageDigest}
use Rattle.sigstore_types.specs.declared.content.MessageSignature.{MessageSignature}
use Rattle.sigstore_types.specs.declared.content.SignatureContent.{SignatureContent}
use Rattle.sigstore_envelopes.specs.declared.envelope.DsseEnvelope.{DsseEnvelope}
use Rattle.sigstore_types.specs.declared.content.SignatureContent.TheVariants.{MessageSignature as OfMessage, DsseEnvelope as OfEnvelope}
use Rattle.sigstore_envelopes.specs.declared.statement.Statement.{Statement}
use Rattle.sigstore_envelopes.specs.declared.statement.Subject.{Subject}
use Rattle.sigstore_envelopes.specs.Statement.{algorithms_of, where_told, tells_sha256, tells_sha512, is_spelled}
use Rattle.sigstore_keys.specs.declared.key.VerificationKey.{VerificationKey}
use Rattle.sigstore_keys.specs.declared.scheme.SigningScheme.{SigningScheme}
use Rattle.sigstore_keys.specs.Digest.{is_hashed, digest_by, digests_by}
use Rattle.sigstore_keys.specs.Good.{Judge}
use Rattle.sigstore_keys.specs.Scheme.{digest_algorithm_of}
use Rattle.sigstore_judgement.specs.declared.error.Error.{Error}
use Rattle.sigstore_judgement.specs.Artifact.{Digests, Read, Digest, digest_of, digest_among, has_each}
use Rattle.sigstore_binding.specs.Rows.{Message}
use Rattle.sigstore_judgement.specs.Claim.{Claim, OfDigest, OfStatement, stated_of, claim_of, algorithm_told, needed_of, is_digest, is_told, tells_digest, is_bound}
use Rattle.sigstore_judgement.specs.Content.{signature_in, subject_by, subject_in, is_good_of, is_signed, signed_in, first_refusal, content_judged_of}

pub same_is : (a b : HashAlgorithm) → same_algorithm a b ≡ true → a ≡ b
same_is Sha2256 Sha2256 h = refl
same_is Sha2256 Sha2384 h = cc
same_is Sha2256 Sha2512 h = cc
same_is Sha2256 Sha3256 h = cc
same_is Sha2256 Sha3384 h = cc
same_is Sha2384 Sha2256 h = cc
same_is Sha2384 Sha2384 h = refl
same_is Sha2384 Sha2512 h = cc
same_is Sha2384 Sha3256 h = cc
same_is Sha2384 Sha3384 h = cc
same_is Sha2512 Sha2256 h = cc
same_is Sha2512 Sha2384 h = cc
same_is Sha2512 Sha2512 h = refl
same_is Sha2512 Sha3256 h = cc
same_is Sha2512 Sha3384 h = cc
same_is Sha3256 Sha2256 h = cc
same_is Sha3256 Sha2384 h = cc
same_is Sha3256 Sha2512 h = cc
same_is Sha3256 Sha3256 h = refl
same_is Sha3256 Sha3384 h = cc
same_is Sha3384 Sha2256 h = cc
same_is Sha3384 Sha2384 h = cc
same_is Sha3384 Sha2512 h = cc
same_is Sha3384 Sha3256 h = cc
same_is Sha3384 Sha3384 h = refl

pub same_sym : (a b : HashAlgorithm) → same_algorithm a b ≡ same_algorithm b a
same_sym Sha2256 Sha2256 = refl
same_sym Sha2256 Sha2384 = refl
same_sym Sha2256 Sha2512 = refl
same_sym Sha2256 Sha3256 = refl
same_sym Sha2256 Sha3384 = refl
same_sym Sha2384 Sha2256 = refl
same_sym Sha2384 Sha2384 = refl
same_sym Sha2384 Sha2512 = refl
same_sym Sha2384 Sha3256 = refl
same_sym Sha2384 Sha3384 = refl
same_sym Sha2512 Sha2256 = refl
same_sym Sha2512 Sha2384 = refl
same_sym Sha2512 Sha2512 = refl
same_sym Sha2512 Sha3256 = refl
same_sym Sha2512 Sha3384 = refl
same_sym Sha3256 Sha2256 = refl
same_sym Sha3256 Sha2384 = refl
same_sym Sha3256 Sha2512 = refl
same_sym Sha3256 Sha3256 = refl
same_sym Sha3256 Sha3384 = refl
same_sym Sha3384 Sha2256 = refl
same_sym Sha3384 Sha2384 = refl
same_sym Sha3384 Sha2512 = refl
same_sym Sha3384 Sha3256 = refl
same_sym Sha3384 Sha3384 = refl

pub same_self : (a : HashAlgorithm) → same_algorithm a a ≡ true
same_self Sha2256 = refl
same_self Sha2384 = refl
same_self Sha2512 = refl
same_self Sha3256 = refl
same_self Sha3384 = refl

-- the digest of bytes by an algorithm, where there is a hasher of it
abbrev digest_if : List ℕ → HashAlgorithm → Option (List ℕ)
digest_if bytes algorithm = if is_hashed algorithm then Some (digest_by algorithm bytes) else None

pub or_later : (a b : Bool) → a ≡ false → (a || b) ≡ true → b ≡ true
or_later true b e h = cc
or_later false b e h = h

abbrev taken_by : HashAlgorithm × List ℕ → List ℕ
taken_by x = x.1

-- the first of the digests, or one of the others
had_first : (bytes : List ℕ) (a b : HashAlgorithm) (bs : List HashAlgorithm) (t : Bool) → same_algorithm b a ≡ t → is_hashed b ≡ true
    → (t ≡ false → digest_among (digests_by bs bytes) a ≡ digest_if bytes a) → digest_among (digests_by (b ∷ bs) bytes) a ≡ digest_if bytes a
had_first bytes a b bs true e hashed later =
    ap (λ t. option_map taken_by (cond t (Some (b, digest_by b bytes)) (find (λ (x : HashAlgorithm × List ℕ). same_algorithm x.0 a) (digests_by bs bytes)))) e
    ∙ subst (λ c. Some (digest_by b bytes) ≡ digest_if bytes c) (same_is b a e) (sym (ap (λ t. if t then Some (digest_by b bytes) else None) hashed))
had_first bytes a b bs false e hashed later =
    ap (λ t. option_map taken_by (cond t (Some (b, digest_by b bytes)) (find (λ (x : HashAlgorithm × List ℕ). same_algorithm x.0 a) (digests_by bs bytes)))) e
    ∙ later refl

-- of an algorithm that is needed the digest was taken
pub had_needed : (bytes : List ℕ) (a : HashAlgorithm) (needed : List HashAlgorithm) → list_all is_hashed needed ≡ true → list_any (same_algorithm a) needed ≡ true
    → digest_among (digests_by needed bytes) a ≡ digest_if bytes a
had_needed bytes a [] h k = cc
had_needed bytes a (b ∷ bs) h k =
    let hashed = and_true (is_hashed b) (list_all is_hashed bs) h in
    had_first bytes a b bs (same_algorithm b a) refl hashed.0
    (λ other. had_needed bytes a bs hashed.1 (or_later (same_algorithm a b) (list_any (same_algorithm a) bs) (same_sym a b ∙ other) k))

-- and so each that is needed was taken
one_taken : (bytes : List ℕ) (a b : HashAlgorithm) (bs : List HashAlgorithm) (t : Bool) → same_algorithm b a ≡ t
    → (t ≡ false → is_some (digest_among (digests_by bs bytes) a) ≡ true) → is_some (digest_among (digests_by (b ∷ bs) bytes) a) ≡ true
one_taken bytes a b bs true e later =
    ap (λ t. is_some (option_map taken_by (cond t (Some (b, digest_by b bytes)) (find (λ (x : HashAlgorithm × List ℕ). same_algorithm x.0 a) (digests_by bs bytes))))) e
one_taken bytes a b bs false e later =
    ap (λ t. is_some (option_map taken_by (cond t (Some (b, digest_by b bytes)) (find (λ (x : HashAlgorithm × List ℕ). same_algorithm x.0 a) (digests_by bs bytes))))) e
    ∙ later refl

some_taken : (bytes : List ℕ) (a : HashAlgorithm) (needed : List HashAlgorithm) → list_any (same_algorithm a) needed ≡ true
    → is_some (digest_among (digests_by needed bytes) a) ≡ true
some_taken bytes a [] h = cc
some_taken bytes a (b ∷ bs) h =
    one_taken bytes a b bs (same_algorithm b a) refl
    (λ other. some_taken bytes a bs (or_later (same_algorithm a b) (list_any (same_algorithm a) bs) (same_sym a b ∙ other) h))

or_either : (t u : Bool) → u ≡ true → (t || u) ≡ true
or_either true u h = refl
or_either false u h = h

both_true : (t u : Bool) → t ≡ true → u ≡ true → (t && u) ≡ true
both_true true u h k = k
both_true false u h k = cc

pub first_of : (a : HashAlgorithm) (list : List HashAlgorithm) → list_any (same_algorithm a) (a ∷ list) ≡ true
first_of a list = ap (λ t. t || list_any (same_algorithm a) list) (same_self a)

pub later_of : (a b : HashAlgorithm) (list : List HashAlgorithm) → list_any (same_algorithm a) list ≡ true → list_any (same_algorithm a) (b ∷ list) ≡ true
later_of a b list h = or_either (same_algorithm a b) (list_any (same_algorithm a) list) h

all_taken : (bytes : List ℕ) (needed list : List HashAlgorithm)
    → ((a : HashAlgorithm) → list_any (same_algorithm a) list ≡ true → list_any (same_algorithm a) needed ≡ true)
    → has_each list (digest_among (digests_by needed bytes)) ≡ true
all_taken bytes needed [] f = refl
all_taken bytes needed (a ∷ list) f =
    both_true (is_some (digest_among (digests_by needed bytes) a)) (has_each list (digest_among (digests_by needed bytes)))
    (some_taken bytes a needed (f a (first_of a list)))
    (all_taken bytes needed list (λ b h. f b (later_of b a list h)))

pub each_taken : (needed : List HashAlgorithm) (bytes : List ℕ) → has_each needed (digest_among (digests_by needed bytes)) ≡ true
each_taken needed bytes = all_taken bytes needed needed (λ a h. h)

-- ---- what is needed

or_kept : (t u v : Bool) → (u ≡ true → v ≡ true) → (t || u) ≡ true → (t || v) ≡ true
or_kept true u v f h = refl
or_kept false u v f h = f h

any_appended : (a b : HashAlgorithm) (list : List HashAlgorithm) → list_any (same_algorithm a) list ≡ true → list_any (same_algorithm a) (list ++ b ∷ []) ≡ true
any_appended a b [] h = cc
any_appended a b (x ∷ xs) h =
    or_kept (same_algorithm a x) (list_any (same_algorithm a) xs) (list_any (same_algorithm a) (xs ++ b ∷ [])) (λ k. any_appended a b xs k) h

any_last : (a : HashAlgorithm) (list : List HashAlgorithm) → list_any (same_algorithm a) (list ++ a ∷ []) ≡ true
any_last a [] = ap (λ t. t || false) (same_self a)
any_last a (x ∷ xs) = or_either (same_algorithm a x) (list_any (same_algorithm a) (xs ++ a ∷ [])) (any_last a xs)

pub kept : (a b : HashAlgorithm) (list : List HashAlgorithm) → list_any (same_algorithm a) list ≡ true → list_any (same_algorithm a) (with_algorithm list b) ≡ true
kept a b list h = by_there (list_any (same_algorithm b) list) refl
  where
    by_there : (t : Bool) → list_any (same_algorithm b) list ≡ t → list_any (same_algorithm a) (with_algorithm list b) ≡ true
    by_there true e = ap (λ t. list_any (same_algorithm a) (if t then list else list ++ b ∷ [])) e ∙ h
    by_there false e = ap (λ t. list_any (same_algorithm a) (if t then list else list ++ b ∷ [])) e ∙ any_appended a b list h

pub added : (a : HashAlgorithm) (list : List HashAlgorithm) → list_any (same_algorithm a) (with_algorithm list a) ≡ true
added a list = by_there (list_any (same_algorithm a) list) refl
  where
    by_there : (t : Bool) → list_any (same_algorithm a) list ≡ t → list_any (same_algorithm a) (with_algorithm list a) ≡ true
    by_there true e = ap (λ t. list_any (same_algorithm a) (if t then list else list ++ a ∷ [])) e ∙ e
    by_there false e = ap (λ t. list_any (same_algorithm a) (if t then list else list ++ a ∷ [])) e ∙ any_last a list

kept_optional : (a : HashAlgorithm) (o : Option HashAlgorithm) (list : List HashAlgorithm) → list_any (same_algorithm a) list ≡ true
    → list_any (same_algorithm a) (with_optional list o) ≡ true
kept_optional a None list h = h
kept_optional a (Some b) list h = kept a b list h

-- the digests that are needed of a message
abbrev message_needs : SigningScheme → Option MessageDigest → List HashAlgorithm
message_needs scheme told = needed_of scheme (OfDigest told)

-- the algorithm of the scheme is needed
scheme_needed : (scheme : SigningScheme) (told : Option MessageDigest) (a : HashAlgorithm) → digest_algorithm_of scheme ≡ Some a
    → list_any (same_algorithm a) (message_needs scheme told) ≡ true
scheme_needed scheme told a e =
    ap (λ o. list_any (same_algorithm a) (with_optional (with_optional (Sha2256 ∷ []) (algorithm_told told)) o)) e
    ∙ added a (with_optional (Sha2256 ∷ []) (algorithm_told told))

-- and so is that of the digest that the bundle tells
told_needed : (scheme : SigningScheme) (told : Option MessageDigest) (a : HashAlgorithm) → algorithm_told told ≡ Some a
    → list_any (same_algorithm a) (message_needs scheme told) ≡ true
told_needed scheme told a e =
    kept_optional a (digest_algorithm_of scheme) (with_optional (Sha2256 ∷ []) (algorithm_told told))
    (ap (λ o. list_any (same_algorithm a) (with_optional (Sha2256 ∷ []) o)) e ∙ added a (Sha2256 ∷ []))

-- and SHA-256
sha256_needed : (scheme : SigningScheme) (told : Option MessageDigest) → list_any (same_algorithm Sha2256) (message_needs scheme told) ≡ true
sha256_needed scheme told =
    kept_optional Sha2256 (digest_algorithm_of scheme) (with_optional (Sha2256 ∷ []) (algorithm_told told))
    (kept_optional Sha2256 (algorithm_told told) (Sha2256 ∷ []) refl)

-- ---- the judgement by the digests that were taken

-- digests that are alike for what is looked at: what is said of the artifact, what is signed, and what entries are compared with
pub record AreAlike (key : VerificationKey) (content : SignatureContent) (claim : Claim) (one two : Digests) : Type 0 where
  pub bound : is_bound claim one ≡ is_bound claim two
  pub subject : (bytes : Option (List ℕ)) → subject_in key.scheme content one bytes ≡ subject_in key.scheme content two bytes
  pub signed : signed_in content one ≡ signed_in content two

-- they give one judgement
pub judged_alike : (accepts : Judge) (key : VerificationKey) (content : SignatureContent) (claim : Claim) (one two : Digests) (bytes : Option (List ℕ))
    → AreAlike key content claim one two → content_judged_of accepts key content claim one bytes ≡ content_judged_of accepts key content claim two bytes
judged_alike accepts key content claim one two bytes alike =
    ap (λ b. first_refusal content b (is_signed accepts key content one bytes)) alike.bound
    ∙ ap (λ o. first_refusal content (is_bound claim two) (is_good_of accepts key o (signature_in content))) (alike.subject bytes)

told_alike : (one two : Digests) (o : Option MessageDigest) → ((a : HashAlgorithm) → algorithm_told o ≡ Some a → one a ≡ two a) → is_told o one ≡ is_told o two
told_alike one two None f = refl
told_alike one two (Some digest) f = ap (is_digest digest.digest) (f digest.algorithm refl)

subject_alike : (one two : Digests) (bytes : Option (List ℕ)) (o : Option HashAlgorithm) → ((a : HashAlgorithm) → o ≡ Some a → one a ≡ two a) → subject_by o one bytes ≡ subject_by o two bytes
subject_alike one two bytes None f = refl
subject_alike one two bytes (Some a) f = f a refl

-- where no subject tells a digest, none is spelled
untold : (told : Subject → Option (List ℕ)) (subjects : List Subject) (digest : List ℕ) → list_any (λ subject. is_some (told subject)) subjects ≡ false
    → list_any (λ subject. is_spelled (told subject) digest) subjects ≡ false
untold told [] digest h = refl
untold told (s ∷ ss) digest h = by (told s) refl (untold told ss digest)
  where
    by : (o : Option (List ℕ)) → told s ≡ o → (list_any (λ subject. is_some (told subject)) ss ≡ false → list_any (λ subject. is_spelled (told subject) digest) ss ≡ false)
        → (is_spelled (told s) digest || list_any (λ subject. is_spelled (told subject) digest) ss) ≡ false
    by None is later =
        ap (λ o. is_spelled o digest || list_any (λ subject. is_spelled (told subject) digest) ss) is
        ∙ later (sym (ap (λ o. is_some o || list_any (λ subject. is_some (told subject)) ss) is) ∙ h)
    by (Some text) is later = let k = sym (ap (λ o. is_some o || list_any (λ subject. is_some (told subject)) ss) is) ∙ h in cc

no_sha256 : (statement : Statement) → list_any tells_sha256 statement.subjects ≡ false → (o : Option (List ℕ)) → tells_digest statement Sha2256 o ≡ false
no_sha256 statement h None = refl
no_sha256 statement h (Some digest) = untold (λ subject. subject.sha256) statement.subjects digest h

no_sha512 : (statement : Statement) → list_any tells_sha512 statement.subjects ≡ false → (o : Option (List ℕ)) → tells_digest statement Sha2512 o ≡ false
no_sha512 statement h None = refl
no_sha512 statement h (Some digest) = untold (λ subject. subject.sha512) statement.subjects digest h

behind_sha256 : (t : Bool) → list_any (same_algorithm Sha2512) (where_told Sha2256 t ++ where_told Sha2512 true) ≡ true
behind_sha256 true = refl
behind_sha256 false = refl

-- of the two digests that a statement may tell, those that are looked at are alike
module _ (statement : Statement) (one two : Digests) (f : (a : HashAlgorithm) → list_any (same_algorithm a) (algorithms_of statement) ≡ true → one a ≡ two a) where
  sha256_alike : (t : Bool) → list_any tells_sha256 statement.subjects ≡ t → tells_digest statement Sha2256 (one Sha2256) ≡ tells_digest statement Sha2256 (two Sha2256)
  sha256_alike true is =
      ap (tells_digest statement Sha2256)
      (f Sha2256 (ap (λ t. list_any (same_algorithm Sha2256) (where_told Sha2256 t ++ where_told Sha2512 (list_any tells_sha512 statement.subjects))) is))
  sha256_alike false is = no_sha256 statement is (one Sha2256) ∙ sym (no_sha256 statement is (two Sha2256))

  sha512_alike : (t : Bool) → list_any tells_sha512 statement.subjects ≡ t → tells_digest statement Sha2512 (one Sha2512) ≡ tells_digest statement Sha2512 (two Sha2512)
  sha512_alike true is =
      ap (tells_digest statement Sha2512) (f Sha2512 (
      ap (λ t. list_any (same_algorithm Sha2512) (where_told Sha2256 (list_any tells_sha256 statement.subjects) ++ where_told Sha2512 t)) is
      ∙ behind_sha256 (list_any tells_sha256 statement.subjects)
      ))
  sha512_alike false is = no_sha512 statement is (one Sha2512) ∙ sym (no_sha512 statement is (two Sha2512))

  stated_alike : is_bound (OfStatement statement) one ≡ is_bound (OfStatement statement) two
  stated_alike =
      ap (λ b. b || tells_digest statement Sha2512 (one Sha2512)) (sha256_alike (list_any tells_sha256 statement.subjects) refl)
      ∙ ap (λ b. tells_digest statement Sha2256 (two Sha2256) || b) (sha512_alike (list_any tells_sha512 statement.subjects) refl)

-- the same for each algorithm that is needed
abbrev pub Same : SigningScheme → Claim → Digests → Digests → Type 0
Same scheme claim one two = (a : HashAlgorithm) → list_any (same_algorithm a) (needed_of scheme claim) ≡ true → one a ≡ two a

message_alike : (key : VerificationKey) (message : MessageSignature) (one two : Digests) → Same key.scheme (OfDigest message.message_digest) one two
    → AreAlike key (OfMessage message) (OfDigest message.message_digest) one two
message_alike key message one two f = record {
  bound = told_alike one two message.message_digest (λ a e. f a (told_needed key.scheme message.message_digest a e));
  subject = λ bytes. subject_alike one two bytes (digest_algorithm_of key.scheme) (λ a e. f a (scheme_needed key.scheme message.message_digest a e));
  signed = ap (λ digest. Message digest message.signature) (f Sha2256 (sha256_needed key.scheme message.message_digest));
}

statement_alike : (key : VerificationKey) (envelope : DsseEnvelope) (statement : Statement) (one two : Digests) → Same key.scheme (OfStatement statement) one two
    → AreAlike key (OfEnvelope envelope) (OfStatement statement) one two
statement_alike key envelope statement one two f = record { bound = stated_alike statement one two f; subject = λ bytes. refl; signed = refl }

-- digests that are the same for each algorithm that is needed are alike
pub alike : (key : VerificationKey) (content : SignatureContent) (claim : Claim) (one two : Digests) → claim_of content ≡ Ok claim → Same key.scheme claim one two
    → AreAlike key content claim one two
alike key (OfMessage message) claim one two is f = by (ok_same (OfDigest message.message_digest) claim is) f
  where
    by : OfDigest message.message_digest ≡ claim → Same key.scheme claim one two → AreAlike key (OfMessage message) claim one two
    by same f =
        subst (λ claim. AreAlike key (OfMessage message) claim one two) same
        (message_alike key message one two (subst (λ claim. Same key.scheme claim one two) (sym same) f))
alike key (OfEnvelope envelope) claim one two is f = by (step_ok (stated_of envelope) (λ statement. Ok (OfStatement statement)) claim is) f
  where
    by : (statement : Statement) × (stated_of envelope ≡ Ok statement) × ◌≡◌ {A = Result Claim Error} (Ok (OfStatement statement)) (Ok claim)
        → Same key.scheme claim one two → AreAlike key (OfEnvelope envelope) claim one two
    by (statement, read, h) f =
        let same = ok_same (OfStatement statement) claim h in
        subst (λ claim. AreAlike key (OfEnvelope envelope) claim one two) same
        (statement_alike key envelope statement one two (subst (λ claim. Same key.scheme claim one two) (sym same) f))

-- over the digests that are needed, of all the bytes
pub taken_alike : (key : VerificationKey) (content : SignatureContent) (claim : Claim) (bytes : List ℕ) → claim_of content ≡ Ok claim
    → list_all is_hashed (needed_of key.scheme claim) ≡ true
    → AreAlike key content claim (digest_among (digests_by (needed_of key.scheme claim) bytes)) (digest_of (Read bytes))
taken_alike key content claim bytes is hashed =
    alike key content claim (digest_among (digests_by (needed_of key.scheme claim) bytes)) (digest_of (Read bytes)) is
    (λ a e. had_needed bytes a (needed_of key.scheme claim) hashed e)

-- over the one digest that is handed in
pub one_alike : (key : VerificationKey) (content : SignatureContent) (claim : Claim) (given : HashAlgorithm) (digest : List ℕ) → claim_of content ≡ Ok claim
    → AreAlike key content claim (digest_among ((given, digest) ∷ [])) (digest_of (Digest given digest))
one_alike key content claim given digest is =
    alike key content claim (digest_among ((given, digest) ∷ [])) (digest_of (Digest given digest)) is (λ a e. one a)
  where
    one : (a : HashAlgorithm) → digest_among ((given, digest) ∷ []) a ≡ digest_of (Digest given digest) a
    one a = by_same (same_algorithm given a) refl
      where
        by_same : (t : Bool) → same_algorithm given a ≡ t → digest_among ((given, digest) ∷ []) a ≡ digest_of (Digest given digest) a
        by_same true e = ap (λ t. option_map (λ (x : HashAlgorithm × List ℕ). x.1) (cond t (Some (given, digest)) None)) e ∙ sym (ap (λ t. if t then Some digest else None) e)
        by_same false e = ap (λ t. option_map (λ (x : HashAlgorithm × List ℕ). x.1) (cond t (Some (given, digest)) None)) e ∙ sym (ap (λ t. if t then Some digest else None) e)
