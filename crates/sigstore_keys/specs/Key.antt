-- Keys in DER: the SubjectPublicKeyInfo of RFC 5280, section 4.1, and the bare RSA key of RFC 8017, A.1.1.
use Rattle.std.specs.Prelude.{ℕ, List, Bool, true, false, ◌&&◌, if◌then◌else◌, ⊤, Result, Ok, Err, is_ok}
use Rattle.foundation.specs.Steps.{◌>>=◌}
use Rattle.spki_core.specs.declared.error.X509Error.{X509Error}
use Rattle.spki_core.specs.Rsa.{rsa_key_of}
use Rattle.spki_core.specs.Spki.{Spki, spki_view_of}
use Rattle.sigstore_keys.specs.declared.error.Error.{Error}
use Rattle.sigstore_keys.specs.declared.error.Error.TheVariants.{InvalidKey}
use Rattle.sigstore_keys.specs.declared.error.KeyRule.TheVariants as rule
use Rattle.sigstore_keys.specs.declared.scheme.SigningScheme.{SigningScheme}
use Rattle.sigstore_keys.specs.declared.scheme.KeyAlgorithm.{KeyAlgorithm}
use Rattle.sigstore_keys.specs.declared.scheme.KeyAlgorithm.TheVariants.{EcdsaP256, EcdsaP384, Ed25519, Rsa, MlDsa44, MlDsa65, MlDsa87}
use Rattle.sigstore_keys.specs.declared.key.VerificationKey.{VerificationKey}
use Rattle.sigstore_keys.specs.KeyAlgorithm.{algorithm_of_parts, or_invalid}
use Rattle.sigstore_keys.specs.Scheme.{key_algorithm_of, default_scheme_of}

abbrev pub key_with : SigningScheme → List ℕ → VerificationKey
key_with scheme raw = record { scheme = scheme; key = raw }

-- ---- under the default scheme

-- the raw key is the octets of the bit string
unfoldable pub key_of_parts : Spki → Result VerificationKey Error
key_of_parts spki = do
  algorithm ← algorithm_of_parts spki
  Ok (key_with (default_scheme_of algorithm) spki.key)

-- the key of a SubjectPublicKeyInfo under its default scheme
unfoldable pub spki_key_of : List ℕ → Result VerificationKey Error
spki_key_of der = or_invalid (spki_view_of der) >>= key_of_parts

-- ---- under a scheme that is named

abbrev pub same_sort : KeyAlgorithm → KeyAlgorithm → Bool
same_sort EcdsaP256 EcdsaP256 = true
same_sort EcdsaP384 EcdsaP384 = true
same_sort Ed25519 Ed25519 = true
same_sort Rsa Rsa = true
same_sort MlDsa44 MlDsa44 = true
same_sort MlDsa65 MlDsa65 = true
same_sort MlDsa87 MlDsa87 = true
same_sort a b = false

-- the key is of the sort that signs under the scheme
abbrev pub of_scheme : SigningScheme → KeyAlgorithm → Result ⊤ Error
of_scheme scheme algorithm = if same_sort algorithm (key_algorithm_of scheme) then Ok tt else Err (InvalidKey rule.Scheme)

unfoldable pub key_under : SigningScheme → Spki → Result VerificationKey Error
key_under scheme spki = do
  algorithm ← algorithm_of_parts spki
  _ ← of_scheme scheme algorithm
  Ok (key_with scheme spki.key)

-- the key of a SubjectPublicKeyInfo under a scheme
unfoldable pub spki_key_under : SigningScheme → List ℕ → Result VerificationKey Error
spki_key_under scheme der = or_invalid (spki_view_of der) >>= key_under scheme

-- ---- in either encoding

-- for the schemes of RSA the bytes are a bare key, and themselves the raw key
abbrev pub bare_key_under : SigningScheme → List ℕ → Result VerificationKey Error
bare_key_under scheme der =
    if same_sort Rsa (key_algorithm_of scheme) && is_ok (rsa_key_of der) then Ok (key_with scheme der)
    else Err (InvalidKey rule.Encoding)

abbrev pub key_in_either : SigningScheme → List ℕ → Result Spki X509Error → Result VerificationKey Error
key_in_either scheme der (Ok spki) = key_under scheme spki
key_in_either scheme der (Err e) = bare_key_under scheme der

-- the key of a SubjectPublicKeyInfo under a scheme; where the bytes are none, a bare RSA key
unfoldable pub der_key_of : SigningScheme → List ℕ → Result VerificationKey Error
der_key_of scheme der = key_in_either scheme der (spki_view_of der)
