-- When a signature is good, over any provider's relation.
use Rattle.std.specs.Prelude.{ℕ, List, [], ◌∷◌, length, nat_eq, nat_le, Bool, true, false, ◌&&◌, ⊤, if◌then◌else◌, Option, Some}
use Rattle.std.specs.Prelude.{None, Result, Ok, Err, IsTrue}
use Rattle.sha2.specs.Sha256.{sha256}
use Rattle.sha2.specs.Sha512.{sha384, sha512}
use Rattle.foundation.specs.Steps.{◌>>=◌}
use Rattle.spki_core.specs.Reading.{Reading}
use Rattle.spki_core.specs.Rsa.{RsaKey, rsa_key_of, bit_length}
use Rattle.sigstore_types_parts.specs.declared.hash_algorithm.HashAlgorithm.{HashAlgorithm}
use Rattle.sigstore_types_parts.specs.HashAlgorithm.{digest_len_of}
use Rattle.sigstore_keys.specs.declared.error.Error.{Error}
use Rattle.sigstore_keys.specs.declared.error.Error.TheVariants.{Verification, UnsupportedAlgorithm, InvalidKey}
use Rattle.sigstore_keys.specs.declared.error.VerificationFault.TheVariants as fault
use Rattle.sigstore_keys.specs.declared.error.KeyRule.TheVariants as rule
use Rattle.sigstore_keys.specs.declared.scheme.SigningScheme.{SigningScheme}
use Rattle.sigstore_keys.specs.declared.scheme.SigningScheme.TheVariants.{EcdsaP256Sha256, EcdsaP256Sha384}
use Rattle.sigstore_keys.specs.declared.scheme.SigningScheme.TheVariants.{EcdsaP384Sha256, EcdsaP384Sha384, Ed25519}
use Rattle.sigstore_keys.specs.declared.scheme.SigningScheme.TheVariants.{RsaPssSha256, RsaPssSha384, RsaPssSha512}
use Rattle.sigstore_keys.specs.declared.scheme.SigningScheme.TheVariants.{RsaPkcs1Sha256, RsaPkcs1Sha384}
use Rattle.sigstore_keys.specs.declared.scheme.SigningScheme.TheVariants.{RsaPkcs1Sha512, MlDsa44, MlDsa65, MlDsa87}
use Rattle.sigstore_keys.specs.declared.scheme.KeyAlgorithm.{KeyAlgorithm}
use Rattle.sigstore_keys.specs.declared.scheme.KeyAlgorithm.TheVariants as sort
use Rattle.sigstore_keys.specs.Scheme.{key_algorithm_of, digest_algorithm_of}
use Rattle.sigstore_keys.specs.declared.key.VerificationKey.{VerificationKey}
use Rattle.sigstore_keys.specs.Key.{der_key_of}

-- whether a scheme, a raw key, a subject and a signature go together
abbrev pub Judge : Type 0
Judge = SigningScheme → List ℕ → List ℕ → List ℕ → Bool

-- what a signature of a message is judged over: its digest (FIPS 180-4) where the scheme has one
abbrev pub subject_of : SigningScheme → List ℕ → List ℕ
subject_of EcdsaP256Sha256 message = sha256 message
subject_of EcdsaP256Sha384 message = sha384 message
subject_of EcdsaP384Sha256 message = sha256 message
subject_of EcdsaP384Sha384 message = sha384 message
subject_of Ed25519 message = message
subject_of RsaPssSha256 message = sha256 message
subject_of RsaPssSha384 message = sha384 message
subject_of RsaPssSha512 message = sha512 message
subject_of RsaPkcs1Sha256 message = sha256 message
subject_of RsaPkcs1Sha384 message = sha384 message
subject_of RsaPkcs1Sha512 message = sha512 message
subject_of MlDsa44 message = message
subject_of MlDsa65 message = message
subject_of MlDsa87 message = message

-- a point that isn't compressed begins with 04 (SEC 1, section 2.3.3)
abbrev pub is_uncompressed : List ℕ → Bool
is_uncompressed [] = false
is_uncompressed (first ∷ others) = nat_eq first 4

-- the modulus has 2048 to 8192 bits
abbrev pub is_modulus : List ℕ → Bool
is_modulus modulus = nat_le 2048 (bit_length modulus) && nat_le (bit_length modulus) 8192

-- an RSA key (RFC 8017, A.1.1) with such a modulus
abbrev pub is_rsa_key : Reading RsaKey → Bool
is_rsa_key (Ok key) = is_modulus key.modulus
is_rsa_key (Err e) = false

-- the test of a raw key; those of Ed25519 and ML-DSA aren't tested
abbrev pub is_raw_key : KeyAlgorithm → List ℕ → Bool
is_raw_key sort.EcdsaP256 key = is_uncompressed key
is_raw_key sort.EcdsaP384 key = is_uncompressed key
is_raw_key sort.Ed25519 key = true
is_raw_key sort.Rsa key = is_rsa_key (rsa_key_of key)
is_raw_key sort.MlDsa44 key = true
is_raw_key sort.MlDsa65 key = true
is_raw_key sort.MlDsa87 key = true

-- with the refusal of a key that fails its test
abbrev pub raw_key_by : Error → KeyAlgorithm → List ℕ → Result ⊤ Error
raw_key_by refusal algorithm key = if is_raw_key algorithm key then Ok tt else Err refusal

abbrev pub raw_key_of : SigningScheme → List ℕ → Result ⊤ Error
raw_key_of scheme key = raw_key_by (InvalidKey rule.RawKey) (key_algorithm_of scheme) key

-- the raw key passes its test and the provider accepts the signature over the subject
abbrev pub is_good_over : Judge → VerificationKey → List ℕ → List ℕ → Bool
is_good_over accepts key subject signature =
    is_raw_key (key_algorithm_of key.scheme) key.key && accepts key.scheme key.key subject signature

abbrev pub is_good : Judge → VerificationKey → List ℕ → List ℕ → Bool
is_good accepts key message signature = is_good_over accepts key (subject_of key.scheme message) signature

abbrev pub Good : Judge → VerificationKey → List ℕ → List ℕ → Type 0
Good accepts key message signature = IsTrue (is_good accepts key message signature)

-- the provider accepts
abbrev pub accepted_of : Bool → Result ⊤ Error
accepted_of true = Ok tt
accepted_of false = Err (Verification fault.Refused)

-- a signature over a subject: the raw key's test, then the provider
abbrev pub judged_over : Judge → VerificationKey → List ℕ → List ℕ → Result ⊤ Error
judged_over accepts key subject signature = do
  _ ← raw_key_by (Verification fault.RawKey) (key_algorithm_of key.scheme) key.key
  accepted_of (accepts key.scheme key.key subject signature)

-- a signature of a message
abbrev pub verified_of : Judge → VerificationKey → List ℕ → List ℕ → Result ⊤ Error
verified_of accepts key message signature = judged_over accepts key (subject_of key.scheme message) signature

-- the digest's length
abbrev pub sized_digest_of : Option HashAlgorithm → List ℕ → Result ⊤ Error
sized_digest_of None digest = Err UnsupportedAlgorithm
sized_digest_of (Some algorithm) digest =
    if nat_eq (length digest) (digest_len_of algorithm) then Ok tt else Err (Verification fault.DigestLength)

-- a signature of a message with that digest
abbrev pub prehashed_of : Judge → VerificationKey → List ℕ → List ℕ → Result ⊤ Error
prehashed_of accepts key digest signature = do
  _ ← sized_digest_of (digest_algorithm_of key.scheme) digest
  judged_over accepts key digest signature

-- ---- under a key in DER

-- a signature of a message
abbrev pub der_verified_of : Judge → SigningScheme → List ℕ → List ℕ → List ℕ → Result ⊤ Error
der_verified_of accepts scheme der message signature = do
  key ← der_key_of scheme der
  verified_of accepts key message signature

-- a signature of a message with that digest
abbrev pub der_prehashed_of : Judge → SigningScheme → List ℕ → List ℕ → List ℕ → Result ⊤ Error
der_prehashed_of accepts scheme der digest signature = do
  key ← der_key_of scheme der
  prehashed_of accepts key digest signature

-- the bytes are read as a key that has a property
abbrev pub is_of_key : (VerificationKey → Bool) → Result VerificationKey Error → Bool
is_of_key has (Ok key) = has key
is_of_key has (Err e) = false

-- the signature is good under the key that the bytes are read as
abbrev pub is_der_good_over : Judge → SigningScheme → List ℕ → List ℕ → List ℕ → Bool
is_der_good_over accepts scheme der subject signature =
    is_of_key (λ key. is_good_over accepts key subject signature) (der_key_of scheme der)

abbrev pub is_der_good : Judge → SigningScheme → List ℕ → List ℕ → List ℕ → Bool
is_der_good accepts scheme der message signature =
    is_of_key (λ key. is_good accepts key message signature) (der_key_of scheme der)
