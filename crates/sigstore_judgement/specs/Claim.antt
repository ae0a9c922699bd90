-- What a bundle says of its artifact: of a message its digest (Sigstore bundle format); of an envelope its statement (DSSE; in-toto
-- Attestation Framework, Statement v1).
use Rattle.std.specs.Prelude.{◌≡◌, ◌≢◌, ◌⊎◌, ℕ, List, [], ◌∷◌, bytes_eq}
use Rattle.std.specs.Prelude.{codes, Contains, Bool, true, false, ◌||◌, if◌then◌else◌, ⊤}
use Rattle.std.specs.Prelude.{Option, Some, None, option_copied, Result, Ok, Err}
use Rattle.foundation.specs.Steps.{◌>>=◌}
use Rattle.sigstore_types_parts.specs.HashAlgorithm.{with_optional}
use Rattle.sigstore_types_parts.specs.declared.error.TypesError.{TypesError}
use Rattle.sigstore_types_parts.specs.declared.hash_algorithm.HashAlgorithm.{HashAlgorithm}
use Rattle.sigstore_types_parts.specs.declared.hash_algorithm.HashAlgorithm.TheVariants.{Sha2256, Sha2512}
use Rattle.sigstore_envelopes.specs.declared.envelope.DsseEnvelope.{DsseEnvelope}
use Rattle.sigstore_envelopes.specs.declared.statement.Statement.{Statement}
use Rattle.sigstore_envelopes.specs.declared.statement.Subject.{Subject}
use Rattle.sigstore_envelopes.specs.Statement.{statement_of_bytes, algorithms_of, tells, is_spelled}
use Rattle.sigstore_types.specs.declared.content.SignatureContent.{SignatureContent}
use Rattle.sigstore_types.specs.declared.content.SignatureContent.TheVariants.{MessageSignature as OfMessage, DsseEnvelope as OfEnvelope}
use Rattle.sigstore_types.specs.declared.content.MessageDigest.{MessageDigest}
use Rattle.sigstore_keys.specs.declared.scheme.SigningScheme.{SigningScheme}
use Rattle.sigstore_keys.specs.Scheme.{digest_algorithm_of}
use Rattle.sigstore_judgement.specs.declared.claim.Claim.{Claim as Given}
use Rattle.sigstore_judgement.specs.declared.claim.Claim.TheVariants as given
use Rattle.sigstore_judgement.specs.declared.error.Error.{Error}
use Rattle.sigstore_judgement.specs.declared.error.Error.TheVariants.{InvalidBundle, UnsupportedBundle}
use Rattle.sigstore_judgement.specs.Artifact.{Artifact, Digests, digest_of}

-- the digest of a message, where the bundle tells one; or a statement
pub data Claim : Type 0 where
  OfDigest : Option MessageDigest → Claim
  OfStatement : Statement → Claim

-- what the code read
abbrev pub claim_as : Given → Claim
claim_as (given.Digest told) = OfDigest (option_copied told)
claim_as (given.Statement statement) = OfStatement statement

-- ---- reading it

-- the payload is a statement (else what was signed for another reader would be taken for one)
abbrev pub is_in_toto : List ℕ → Bool
is_in_toto payload_type = bytes_eq payload_type (codes "application/vnd.in-toto+json")

abbrev pub typed_of : List ℕ → Result ⊤ Error
typed_of payload_type = if is_in_toto payload_type then Ok tt else Err UnsupportedBundle

abbrev pub or_invalid : Result Statement TypesError → Result Statement Error
or_invalid (Ok statement) = Ok statement
or_invalid (Err e) = Err InvalidBundle

-- it is of something
abbrev pub subjects_of : List Subject → Result ⊤ Error
subjects_of [] = Err InvalidBundle
subjects_of (subject ∷ subjects) = Ok tt

-- by some digest that can be had (else nothing would tie it to the artifact)
abbrev pub digested_of : List HashAlgorithm → Result ⊤ Error
digested_of [] = Err UnsupportedBundle
digested_of (algorithm ∷ algorithms) = Ok tt

abbrev pub statement_judged_of : Statement → Result ⊤ Error
statement_judged_of statement = subjects_of statement.subjects >>= λ _. digested_of (algorithms_of statement)

unfoldable pub stated_of : DsseEnvelope → Result Statement Error
stated_of envelope = do
  _ ← typed_of envelope.payload_type
  statement ← or_invalid (statement_of_bytes envelope.payload)
  _ ← statement_judged_of statement
  Ok statement

abbrev pub claim_of : SignatureContent → Result Claim Error
claim_of (OfMessage message) = Ok (OfDigest message.message_digest)
claim_of (OfEnvelope envelope) = stated_of envelope >>= λ statement. Ok (OfStatement statement)

-- ---- which digests of the artifact are needed

abbrev pub algorithm_told : Option MessageDigest → Option HashAlgorithm
algorithm_told None = None
algorithm_told (Some told) = Some told.algorithm

-- of a message SHA-256, that of the digest that the bundle tells, and that of the scheme, each once; of a statement those that its subjects
-- tell
abbrev pub needed_of : SigningScheme → Claim → List HashAlgorithm
needed_of scheme (OfDigest told) = with_optional (with_optional (Sha2256 ∷ []) (algorithm_told told)) (digest_algorithm_of scheme)
needed_of scheme (OfStatement statement) = algorithms_of statement

-- ---- whether it is of this artifact

abbrev pub is_digest : List ℕ → Option (List ℕ) → Bool
is_digest told None = false
is_digest told (Some digest) = bytes_eq told digest

abbrev pub is_told : Option MessageDigest → Digests → Bool
is_told None digest = true
is_told (Some told) digest = is_digest told.digest (digest told.algorithm)

abbrev pub tells_digest : Statement → HashAlgorithm → Option (List ℕ) → Bool
tells_digest statement algorithm None = false
tells_digest statement algorithm (Some digest) = tells statement algorithm digest

-- the digest that the bundle tells of a message, where it tells one, is the artifact's by that algorithm; of a statement some subject's is
abbrev pub is_bound : Claim → Digests → Bool
is_bound (OfDigest told) digest = is_told told digest
is_bound (OfStatement statement) digest =
    tells_digest statement Sha2256 (digest Sha2256) || tells_digest statement Sha2512 (digest Sha2512)

-- ---- the same without an order

abbrev pub IsTold : Option MessageDigest → Artifact → Type 0
IsTold None artifact = ⊤
IsTold (Some told) artifact = digest_of artifact told.algorithm ≡ Some told.digest

-- the artifact's digest is spelled in hexadecimal, in either case
abbrev pub IsSpelled : Option (List ℕ) → Option (List ℕ) → Type 0
IsSpelled text digest = (bytes : List ℕ) × (digest ≡ Some bytes) × (is_spelled text bytes ≡ true)

-- a subject is the artifact, by one of the digests that it tells
abbrev pub IsSubject : Artifact → Subject → Type 0
IsSubject artifact subject = IsSpelled subject.sha256 (digest_of artifact Sha2256) ⊎ IsSpelled subject.sha512 (digest_of artifact Sha2512)

abbrev pub IsBound : Claim → Artifact → Type 0
IsBound (OfDigest told) artifact = IsTold told artifact
IsBound (OfStatement statement) artifact = (subject : Subject) × Contains statement.subjects subject × IsSubject artifact subject

-- it is of another: a digest of a message that isn't the artifact's by the algorithm that is told with it, or a statement of which no
-- subject is the artifact
abbrev pub IsOfOther : Claim → Artifact → Type 0
IsOfOther (OfDigest told) artifact = (one : MessageDigest) × (told ≡ Some one) × (digest_of artifact one.algorithm ≢ Some one.digest)
IsOfOther (OfStatement statement) artifact = (subject : Subject) → Contains statement.subjects subject → IsSubject artifact subject → ⊥
