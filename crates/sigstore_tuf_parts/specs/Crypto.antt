-- What a declared key gives, and what its signatures are over (TUF specification, section 4.2).
use Rattle.std.specs.Prelude.{ℕ, List, ◌∷◌, ◌++◌, length, nat_eq, bytes_eq, Bool, true, false, ◌&&◌, if◌then◌else◌}
use Rattle.std.specs.Prelude.{Option, Some, None, ok_or, Result, Ok, Err, codes}
use Rattle.std.specs.Str.{trim}
use Rattle.sha2.specs.Sha512.{sha512}
use Rattle.hex.specs.Hex.{decode_of}
use Rattle.hex.specs.declared.error.FromHexError.{FromHexError}
use Rattle.foundation.specs.Steps.{◌>>=◌}
use Rattle.sigstore_keys.specs.declared.scheme.SigningScheme.{SigningScheme}
use Rattle.sigstore_keys.specs.declared.scheme.SigningScheme.TheVariants.{EcdsaP256Sha256, EcdsaP384Sha384, Ed25519}
use Rattle.sigstore_keys.specs.declared.scheme.SigningScheme.TheVariants.{RsaPssSha256, RsaPssSha384, RsaPssSha512}
use Rattle.sigstore_keys.specs.declared.scheme.SigningScheme.TheVariants.{MlDsa44, MlDsa65, MlDsa87}
use Rattle.sigstore_keys.specs.declared.key.VerificationKey.{VerificationKey}
use Rattle.sigstore_keys.specs.declared.error.Error.TheVariants as crypto
use Rattle.sigstore_keys.specs.declared.error.Error as crypto_error
use Rattle.sigstore_keys.specs.Key.{key_with, spki_key_under}
use Rattle.sigstore_tuf_parts.specs.declared.keys.Key.{Key}
use Rattle.sigstore_tuf_parts.specs.declared.verification.KeyFault.{KeyFault}
use Rattle.sigstore_tuf_parts.specs.declared.verification.KeyFault.TheVariants.{Unusable, Unsupported, Refused, NoMemory}

-- the scheme of that name
abbrev pub declared_scheme : List ℕ → Option SigningScheme
declared_scheme name =
    if bytes_eq name (codes "ecdsa-sha2-nistp256") then Some EcdsaP256Sha256 else
    if bytes_eq name (codes "ecdsa-sha2-nistp384") then Some EcdsaP384Sha384 else
    if bytes_eq name (codes "ed25519") then Some Ed25519 else
    if bytes_eq name (codes "rsassa-pss-sha256") then Some RsaPssSha256 else
    if bytes_eq name (codes "rsassa-pss-sha384") then Some RsaPssSha384 else
    if bytes_eq name (codes "rsassa-pss-sha512") then Some RsaPssSha512 else
    if bytes_eq name (codes "ml-dsa-44/1") then Some MlDsa44 else
    if bytes_eq name (codes "ml-dsa-65/1") then Some MlDsa65 else
    if bytes_eq name (codes "ml-dsa-87/1") then Some MlDsa87 else
    None

-- what the maker of keys refuses
abbrev pub spki_fault : crypto_error.Error → KeyFault
spki_fault crypto.NoMemory = NoMemory
spki_fault crypto.Signing = Refused
spki_fault (crypto.Verification fault) = Refused
spki_fault crypto.InvalidKeyFormat = Refused
spki_fault crypto.UnsupportedAlgorithm = Refused
spki_fault (crypto.Checkpoint fault) = Refused
spki_fault (crypto.InvalidCertificate fault) = Refused
spki_fault (crypto.InvalidKey rule) = Refused

abbrev pub or_spki_fault : Result VerificationKey crypto_error.Error → Result VerificationKey KeyFault
or_spki_fault (Ok key) = Ok key
or_spki_fault (Err e) = Err (spki_fault e)

-- what the armour reads is a SubjectPublicKeyInfo, and gives its key under the scheme
abbrev pub armored_key_of : SigningScheme → List ℕ → Result VerificationKey KeyFault
armored_key_of scheme der = or_spki_fault (spki_key_under scheme der)

abbrev pub is_ed25519 : SigningScheme → Bool
is_ed25519 Ed25519 = true
is_ed25519 scheme = false

abbrev pub raw_ed25519_of : Result (List ℕ) FromHexError → Result VerificationKey KeyFault
raw_ed25519_of (Ok raw) = Ok (key_with Ed25519 raw)
raw_ed25519_of (Err e) = Err Unusable

-- a text that isn't armoured: for Ed25519 (RFC 8032) 64 hexadecimal digits, whose 32 octets are the raw key
abbrev pub bare_key_of : SigningScheme → List ℕ → Result VerificationKey KeyFault
bare_key_of scheme text =
    if is_ed25519 scheme && nat_eq (length text) 64 then raw_ed25519_of (decode_of text) else Err Unusable

-- the key that a public text holds, under a scheme
abbrev pub text_key_of : (List ℕ → Bool) → (List ℕ → Option (List ℕ)) → SigningScheme → List ℕ → Result VerificationKey KeyFault
text_key_of armored key_in scheme text =
    if armored text then (ok_or (key_in text) Unusable >>= armored_key_of scheme) else bare_key_of scheme text

-- What a declared key gives: its scheme is one of the nine, and its trimmed public text holds a key.
unfoldable pub key_of : (List ℕ → Bool) → (List ℕ → Option (List ℕ)) → Key → Result VerificationKey KeyFault
key_of armored key_in key = do
  scheme ← ok_or (declared_scheme key.scheme) Unsupported
  text_key_of armored key_in scheme (trim key.keyval.public)

abbrev pub is_ml_dsa : SigningScheme → Bool
is_ml_dsa MlDsa44 = true
is_ml_dsa MlDsa65 = true
is_ml_dsa MlDsa87 = true
is_ml_dsa scheme = false

-- the message that a document's signature is over: its canonical text, and for ML-DSA `tuf`, 01 and the text's SHA-512
abbrev pub signed_text : SigningScheme → List ℕ → List ℕ
signed_text scheme text = if is_ml_dsa scheme then codes "tuf" ++ 1 ∷ sha512 text else text
