-- The sort of a key from its SubjectPublicKeyInfo (RFC 5280, section 4.1; RFC 5480, 2.1; RFC 8017, A.1; RFC 8410, 3; RFC 9881).
use Rattle.std.specs.Prelude.{ℕ, List, [], ◌∷◌, bytes_eq, ◌==◌, if◌then◌else◌, ⊤, Option, Some, None, Result, Ok, Err, is_ok}
use Rattle.foundation.specs.Steps.{◌>>=◌}
use Rattle.spki_core.specs.Rsa.{rsa_key_of}
use Rattle.spki_core.specs.Spki.{Algorithm, Spki, spki_view_of}
use Rattle.spki_core.specs.declared.error.X509Error.{X509Error}
use Rattle.sigstore_keys.specs.declared.error.Error.{Error}
use Rattle.sigstore_keys.specs.declared.error.Error.TheVariants.{InvalidKey}
use Rattle.sigstore_keys.specs.declared.error.KeyRule.TheVariants as rule
use Rattle.sigstore_keys.specs.declared.scheme.KeyAlgorithm.{KeyAlgorithm}
use Rattle.sigstore_keys.specs.declared.scheme.KeyAlgorithm.TheVariants.{EcdsaP256, EcdsaP384, Ed25519, Rsa, MlDsa44, MlDsa65, MlDsa87}

-- id-ecPublicKey, 1.2.840.10045.2.1
abbrev pub ec_oid : List ℕ
ec_oid = 0x2a ∷ 0x86 ∷ 0x48 ∷ 0xce ∷ 0x3d ∷ 0x02 ∷ 0x01 ∷ []

-- secp256r1, 1.2.840.10045.3.1.7, as it is encoded
abbrev pub p256_curve : List ℕ
p256_curve = 0x06 ∷ 0x08 ∷ 0x2a ∷ 0x86 ∷ 0x48 ∷ 0xce ∷ 0x3d ∷ 0x03 ∷ 0x01 ∷ 0x07 ∷ []

-- secp384r1, 1.3.132.0.34, as it is encoded
abbrev pub p384_curve : List ℕ
p384_curve = 0x06 ∷ 0x05 ∷ 0x2b ∷ 0x81 ∷ 0x04 ∷ 0x00 ∷ 0x22 ∷ []

-- rsaEncryption, 1.2.840.113549.1.1.1
abbrev pub rsa_oid : List ℕ
rsa_oid = 0x2a ∷ 0x86 ∷ 0x48 ∷ 0x86 ∷ 0xf7 ∷ 0x0d ∷ 0x01 ∷ 0x01 ∷ 0x01 ∷ []

-- NULL, as it is encoded
abbrev pub null : List ℕ
null = 0x05 ∷ 0x00 ∷ []

-- id-Ed25519, 1.3.101.112
abbrev pub ed25519_oid : List ℕ
ed25519_oid = 0x2b ∷ 0x65 ∷ 0x70 ∷ []

-- id-ml-dsa-44, id-ml-dsa-65 and id-ml-dsa-87: 2.16.840.1.101.3.4.3.17, .18 and .19
abbrev pub ml_dsa_oid : ℕ → List ℕ
ml_dsa_oid last = 0x60 ∷ 0x86 ∷ 0x48 ∷ 0x01 ∷ 0x65 ∷ 0x03 ∷ 0x04 ∷ 0x03 ∷ last ∷ []

-- the parameters name the curve
abbrev pub curve_of : Option (List ℕ) → Result KeyAlgorithm Error
curve_of None = Err (InvalidKey rule.Algorithm)
curve_of (Some curve) =
    if bytes_eq curve p256_curve then Ok EcdsaP256
    else if bytes_eq curve p384_curve then Ok EcdsaP384
    else Err (InvalidKey rule.Algorithm)

-- the parameters are NULL, or left out
abbrev pub null_of : Option (List ℕ) → Result KeyAlgorithm Error
null_of None = Ok Rsa
null_of (Some parameters) = if bytes_eq parameters null then Ok Rsa else Err (InvalidKey rule.Algorithm)

-- the parameters are left out
abbrev pub bare : KeyAlgorithm → Option (List ℕ) → Result KeyAlgorithm Error
bare sort None = Ok sort
bare sort (Some parameters) = Err (InvalidKey rule.Algorithm)

-- the sort of key that an identifier with its parameters names
abbrev pub named_of : Algorithm → Result KeyAlgorithm Error
named_of named =
    if bytes_eq named.oid ec_oid then curve_of named.parameters
    else if bytes_eq named.oid rsa_oid then null_of named.parameters
    else if bytes_eq named.oid ed25519_oid then bare Ed25519 named.parameters
    else if bytes_eq named.oid (ml_dsa_oid 0x11) then bare MlDsa44 named.parameters
    else if bytes_eq named.oid (ml_dsa_oid 0x12) then bare MlDsa65 named.parameters
    else if bytes_eq named.oid (ml_dsa_oid 0x13) then bare MlDsa87 named.parameters
    else Err (InvalidKey rule.Algorithm)

-- a bit string of whole octets
abbrev pub whole_octets : ℕ → Result ⊤ Error
whole_octets unused_bits = if unused_bits == 0 then Ok tt else Err (InvalidKey rule.UnusedBits)

-- the key of RSA is two numbers; the others are octets of any kind
abbrev pub key_read : KeyAlgorithm → List ℕ → Result ⊤ Error
key_read Rsa key = if is_ok (rsa_key_of key) then Ok tt else Err (InvalidKey rule.Encoding)
key_read EcdsaP256 key = Ok tt
key_read EcdsaP384 key = Ok tt
key_read Ed25519 key = Ok tt
key_read MlDsa44 key = Ok tt
key_read MlDsa65 key = Ok tt
key_read MlDsa87 key = Ok tt

unfoldable pub algorithm_of_parts : Spki → Result KeyAlgorithm Error
algorithm_of_parts spki = do
  sort ← named_of spki.algorithm
  _ ← whole_octets spki.unused_bits
  _ ← key_read sort spki.key
  Ok sort

abbrev pub or_invalid : Result Spki X509Error → Result Spki Error
or_invalid (Ok spki) = Ok spki
or_invalid (Err e) = Err (InvalidKey rule.Encoding)

-- the sort of key of a SubjectPublicKeyInfo, or the first refusal
unfoldable pub algorithm_of_spki : List ℕ → Result KeyAlgorithm Error
algorithm_of_spki der = or_invalid (spki_view_of der) >>= algorithm_of_parts
