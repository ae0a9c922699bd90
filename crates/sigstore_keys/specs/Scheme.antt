-- Signature schemes: their keys, names and digests (FIPS 186-5, RFC 8017, RFC 8032, FIPS 204).
use Rattle.std.specs.Prelude.{ℕ, List, [], ◌∷◌, bytes_eq, Bool, true, false, if◌then◌else◌, Option, Some, None, Result}
use Rattle.std.specs.Prelude.{Ok, Err, codes}
use Rattle.sigstore_types_parts.specs.declared.hash_algorithm.HashAlgorithm.{HashAlgorithm}
use Rattle.sigstore_types_parts.specs.declared.hash_algorithm.HashAlgorithm.TheVariants.{Sha2256, Sha2384, Sha2512}
use Rattle.sigstore_types_parts.specs.HashAlgorithm.{digest_len_of}
use Rattle.sigstore_keys.specs.declared.error.Error.{Error}
use Rattle.sigstore_keys.specs.declared.error.Error.TheVariants.{UnsupportedAlgorithm}
use Rattle.sigstore_keys.specs.declared.scheme.SigningScheme.{SigningScheme}
use Rattle.sigstore_keys.specs.declared.scheme.SigningScheme.TheVariants.{EcdsaP256Sha256, EcdsaP256Sha384}
use Rattle.sigstore_keys.specs.declared.scheme.SigningScheme.TheVariants.{EcdsaP384Sha256, EcdsaP384Sha384, Ed25519}
use Rattle.sigstore_keys.specs.declared.scheme.SigningScheme.TheVariants.{RsaPssSha256, RsaPssSha384, RsaPssSha512}
use Rattle.sigstore_keys.specs.declared.scheme.SigningScheme.TheVariants.{RsaPkcs1Sha256, RsaPkcs1Sha384}
use Rattle.sigstore_keys.specs.declared.scheme.SigningScheme.TheVariants.{RsaPkcs1Sha512, MlDsa44, MlDsa65, MlDsa87}
use Rattle.sigstore_keys.specs.declared.scheme.KeyAlgorithm.{KeyAlgorithm}
use Rattle.sigstore_keys.specs.declared.scheme.KeyAlgorithm.TheVariants as sort

-- the sort of key that signs under the scheme
abbrev pub key_algorithm_of : SigningScheme → KeyAlgorithm
key_algorithm_of EcdsaP256Sha256 = sort.EcdsaP256
key_algorithm_of EcdsaP256Sha384 = sort.EcdsaP256
key_algorithm_of EcdsaP384Sha256 = sort.EcdsaP384
key_algorithm_of EcdsaP384Sha384 = sort.EcdsaP384
key_algorithm_of Ed25519 = sort.Ed25519
key_algorithm_of RsaPssSha256 = sort.Rsa
key_algorithm_of RsaPssSha384 = sort.Rsa
key_algorithm_of RsaPssSha512 = sort.Rsa
key_algorithm_of RsaPkcs1Sha256 = sort.Rsa
key_algorithm_of RsaPkcs1Sha384 = sort.Rsa
key_algorithm_of RsaPkcs1Sha512 = sort.Rsa
key_algorithm_of MlDsa44 = sort.MlDsa44
key_algorithm_of MlDsa65 = sort.MlDsa65
key_algorithm_of MlDsa87 = sort.MlDsa87

-- the scheme's name
abbrev pub scheme_name_of : SigningScheme → List ℕ
scheme_name_of EcdsaP256Sha256 = codes "ECDSA_P256_SHA256"
scheme_name_of EcdsaP256Sha384 = codes "ECDSA_P256_SHA384"
scheme_name_of EcdsaP384Sha256 = codes "ECDSA_P384_SHA256"
scheme_name_of EcdsaP384Sha384 = codes "ECDSA_P384_SHA384"
scheme_name_of Ed25519 = codes "ED25519"
scheme_name_of RsaPssSha256 = codes "RSA_PSS_SHA256"
scheme_name_of RsaPssSha384 = codes "RSA_PSS_SHA384"
scheme_name_of RsaPssSha512 = codes "RSA_PSS_SHA512"
scheme_name_of RsaPkcs1Sha256 = codes "RSA_PKCS1_SHA256"
scheme_name_of RsaPkcs1Sha384 = codes "RSA_PKCS1_SHA384"
scheme_name_of RsaPkcs1Sha512 = codes "RSA_PKCS1_SHA512"
scheme_name_of MlDsa44 = codes "ML_DSA_44"
scheme_name_of MlDsa65 = codes "ML_DSA_65"
scheme_name_of MlDsa87 = codes "ML_DSA_87"

-- the first of these schemes that has that name
abbrev pub scheme_among : List SigningScheme → List ℕ → Option SigningScheme
scheme_among [] name = None
scheme_among (scheme ∷ others) name = if bytes_eq name (scheme_name_of scheme) then Some scheme else scheme_among others name

abbrev pub schemes : List SigningScheme
schemes =
    EcdsaP256Sha256 ∷ EcdsaP256Sha384 ∷ EcdsaP384Sha256 ∷ EcdsaP384Sha384 ∷ Ed25519 ∷ RsaPssSha256 ∷ RsaPssSha384
    ∷ RsaPssSha512 ∷ RsaPkcs1Sha256 ∷ RsaPkcs1Sha384 ∷ RsaPkcs1Sha512 ∷ MlDsa44 ∷ MlDsa65 ∷ MlDsa87 ∷ []

-- the scheme of that name
abbrev pub scheme_named : List ℕ → Option SigningScheme
scheme_named name = scheme_among schemes name

-- the digest that is signed in place of the message
abbrev pub digest_algorithm_of : SigningScheme → Option HashAlgorithm
digest_algorithm_of EcdsaP256Sha256 = Some Sha2256
digest_algorithm_of EcdsaP256Sha384 = Some Sha2384
digest_algorithm_of EcdsaP384Sha256 = Some Sha2256
digest_algorithm_of EcdsaP384Sha384 = Some Sha2384
digest_algorithm_of Ed25519 = None
digest_algorithm_of RsaPssSha256 = Some Sha2256
digest_algorithm_of RsaPssSha384 = Some Sha2384
digest_algorithm_of RsaPssSha512 = Some Sha2512
digest_algorithm_of RsaPkcs1Sha256 = Some Sha2256
digest_algorithm_of RsaPkcs1Sha384 = Some Sha2384
digest_algorithm_of RsaPkcs1Sha512 = Some Sha2512
digest_algorithm_of MlDsa44 = None
digest_algorithm_of MlDsa65 = None
digest_algorithm_of MlDsa87 = None

abbrev pub has_digest : SigningScheme → Bool
has_digest scheme = is_there (digest_algorithm_of scheme) where
  is_there : Option HashAlgorithm → Bool
  is_there None = false
  is_there (Some algorithm) = true

-- the length of the scheme's digest; 0 where it has none
abbrev pub digest_size_of : SigningScheme → ℕ
digest_size_of scheme = size_of (digest_algorithm_of scheme) where
  size_of : Option HashAlgorithm → ℕ
  size_of None = 0
  size_of (Some algorithm) = digest_len_of algorithm

-- the scheme of a key where none is named
abbrev pub default_scheme_of : KeyAlgorithm → SigningScheme
default_scheme_of sort.EcdsaP256 = EcdsaP256Sha256
default_scheme_of sort.EcdsaP384 = EcdsaP384Sha384
default_scheme_of sort.Ed25519 = Ed25519
default_scheme_of sort.Rsa = RsaPkcs1Sha256
default_scheme_of sort.MlDsa44 = MlDsa44
default_scheme_of sort.MlDsa65 = MlDsa65
default_scheme_of sort.MlDsa87 = MlDsa87

-- the scheme of a key with a digest
abbrev pub resolved_of : KeyAlgorithm → HashAlgorithm → Result SigningScheme Error
resolved_of sort.EcdsaP256 Sha2256 = Ok EcdsaP256Sha256
resolved_of sort.EcdsaP256 Sha2384 = Ok EcdsaP256Sha384
resolved_of sort.EcdsaP256 other = Err UnsupportedAlgorithm
resolved_of sort.EcdsaP384 Sha2256 = Ok EcdsaP384Sha256
resolved_of sort.EcdsaP384 Sha2384 = Ok EcdsaP384Sha384
resolved_of sort.EcdsaP384 other = Err UnsupportedAlgorithm
resolved_of sort.Ed25519 hash = Ok Ed25519
resolved_of sort.Rsa Sha2256 = Ok RsaPkcs1Sha256
resolved_of sort.Rsa Sha2384 = Ok RsaPkcs1Sha384
resolved_of sort.Rsa Sha2512 = Ok RsaPkcs1Sha512
resolved_of sort.Rsa other = Err UnsupportedAlgorithm
resolved_of sort.MlDsa44 hash = Ok MlDsa44
resolved_of sort.MlDsa65 hash = Ok MlDsa65
resolved_of sort.MlDsa87 hash = Ok MlDsa87
