-- What is signed, by cases on the bundle's content (Sigstore bundle format; DSSE; FIPS 180-4, FIPS 186-5): the questions that the judgement
-- asks of it, and the order in which its answers refuse.
use Rattle.std.specs.Prelude.{ℕ, List, Bool, true, false, ◌||◌, if◌then◌else◌, ⊤, Option, Some, None, Result, Ok, Err}
use Rattle.std.specs.List.{list_all}
use Rattle.sigstore_types_parts.specs.declared.hash_algorithm.HashAlgorithm.{HashAlgorithm}
use Rattle.sigstore_types_parts.specs.declared.hash_algorithm.HashAlgorithm.TheVariants.{Sha2256}
use Rattle.sigstore_envelopes.specs.Encoding.{encoding_of}
use Rattle.sigstore_types.specs.declared.content.SignatureContent.{SignatureContent}
use Rattle.sigstore_types.specs.declared.content.SignatureContent.TheVariants.{MessageSignature as OfMessage, DsseEnvelope as OfEnvelope}
use Rattle.sigstore_types.specs.declared.content.MessageDigest.{MessageDigest}
use Rattle.sigstore_keys.specs.declared.error.Error.{Error as CryptoError}
use Rattle.sigstore_keys.specs.declared.scheme.SigningScheme.{SigningScheme}
use Rattle.sigstore_keys.specs.declared.key.VerificationKey.{VerificationKey}
use Rattle.sigstore_keys.specs.Scheme.{key_algorithm_of, digest_algorithm_of, has_digest, resolved_of}
use Rattle.sigstore_keys.specs.Good.{Judge, subject_of, is_good_over}
use Rattle.sigstore_binding.specs.Rows.{Signed, Message, Envelope}
use Rattle.sigstore_judgement.specs.declared.error.Error.{Error}
use Rattle.sigstore_judgement.specs.declared.error.Error.TheVariants.{SignatureInvalid, ArtifactMismatch, UnsupportedArtifact}
use Rattle.sigstore_judgement.specs.Artifact.{Digests, Kind}
use Rattle.sigstore_judgement.specs.Claim.{Claim, is_bound}

-- ---- the scheme under which the key signed

-- that of the key and the message digest's algorithm; the key's own where the bundle tells no digest, and for an envelope
abbrev pub digest_scheme_of : SigningScheme → Option MessageDigest → Result SigningScheme CryptoError
digest_scheme_of scheme None = Ok scheme
digest_scheme_of scheme (Some told) = resolved_of (key_algorithm_of scheme) told.algorithm

abbrev pub scheme_of : SigningScheme → SignatureContent → Result SigningScheme CryptoError
scheme_of scheme (OfMessage message) = digest_scheme_of scheme message.message_digest
scheme_of scheme (OfEnvelope envelope) = Ok scheme

-- ---- whether the artifact serves

-- what is signed can be had without the artifact's bytes: of a message where the scheme signs its digest, of an envelope always
abbrev pub signs_digest : SigningScheme → SignatureContent → Bool
signs_digest scheme (OfMessage message) = has_digest scheme
signs_digest scheme (OfEnvelope envelope) = true

-- The artifact's bytes are kept where they are signed themselves, and each digest that is needed can be had: else a check would have to
-- be passed over.
abbrev pub supported_of : Kind → Bool → List HashAlgorithm → Result ⊤ Error
supported_of kind signs_digest needed =
    if signs_digest || kind.keeps_bytes then
    (if list_all kind.has needed then Ok tt else Err kind.lacking)
    else Err UnsupportedArtifact

-- ---- what is signed

abbrev pub signature_in : SignatureContent → List ℕ
signature_in (OfMessage message) = message.signature
signature_in (OfEnvelope envelope) = envelope.signature.sig

-- an artifact's digest where the scheme has one, and else its bytes
abbrev pub subject_by : Option HashAlgorithm → Digests → Option (List ℕ) → Option (List ℕ)
subject_by (Some algorithm) digest bytes = digest algorithm
subject_by None digest bytes = bytes

-- What the signature is over, where it can be had: of a message the artifact; of an envelope its encoding (DSSE, "signature definition"),
-- which names the payload's type, so that a payload isn't taken for one of another type.
abbrev pub subject_in : SigningScheme → SignatureContent → Digests → Option (List ℕ) → Option (List ℕ)
subject_in scheme (OfMessage message) digest bytes = subject_by (digest_algorithm_of scheme) digest bytes
subject_in scheme (OfEnvelope envelope) digest bytes = Some (subject_of scheme (encoding_of envelope))

abbrev pub is_good_of : Judge → VerificationKey → Option (List ℕ) → List ℕ → Bool
is_good_of accepts key None signature = false
is_good_of accepts key (Some subject) signature = is_good_over accepts key subject signature

-- the signature is good over what the scheme signs of an artifact
abbrev pub is_artifact_signed : Judge → VerificationKey → Digests → Option (List ℕ) → List ℕ → Bool
is_artifact_signed accepts key digest bytes signature =
    is_good_of accepts key (subject_by (digest_algorithm_of key.scheme) digest bytes) signature

-- the content's signature is good over what is signed
abbrev pub is_signed : Judge → VerificationKey → SignatureContent → Digests → Option (List ℕ) → Bool
is_signed accepts key content digest bytes = is_good_of accepts key (subject_in key.scheme content digest bytes) (signature_in content)

-- ---- what an entry is compared with

-- a message by the artifact's SHA-256 value, with its signature; or the envelope
abbrev pub signed_in : SignatureContent → Digests → Signed
signed_in (OfMessage message) digest = Message (digest Sha2256) message.signature
signed_in (OfEnvelope envelope) digest = Envelope envelope

-- ---- the judgement

-- Of a message first whether it is bound (else the bundle is of another artifact, whoever signed it), then whether it is signed (else
-- anyone could have written the bundle). Of an envelope first whether it is signed: what it states counts for nothing before.
abbrev pub first_refusal : SignatureContent → Bool → Bool → Result ⊤ Error
first_refusal (OfMessage message) bound signed = if bound then (if signed then Ok tt else Err SignatureInvalid) else Err ArtifactMismatch
first_refusal (OfEnvelope envelope) bound signed = if signed then (if bound then Ok tt else Err ArtifactMismatch) else Err SignatureInvalid

abbrev pub content_judged_of : Judge → VerificationKey → SignatureContent → Claim → Digests → Option (List ℕ) → Result ⊤ Error
content_judged_of accepts key content claim digest bytes =
    first_refusal content (is_bound claim digest) (is_signed accepts key content digest bytes)
