-- What the calls of a declared key answer (TUF specification, section 4.2).
use Rattle.std.specs.Prelude.{ℕ, List, Bool, ⊤, if◌then◌else◌, ok_or, Result, Ok, Err, codes}
use Rattle.sha2.specs.Sha256.{sha256}
use Rattle.hex.specs.Hex.{encode_lower}
use Rattle.serde_json.specs.Data.{Data, string, object, no_members, member}
use Rattle.foundation.specs.Steps.{◌>>=◌}
use Rattle.sigstore_keys.specs.declared.scheme.SigningScheme.{SigningScheme}
use Rattle.sigstore_keys.specs.declared.key.VerificationKey.{VerificationKey}
use Rattle.sigstore_keys.specs.Good.{is_good}
use Rattle.sigstore_keys.specs.Crypto.{Crypto}
use Rattle.sigstore_tuf_text.specs.declared.error.Error.{Error}
use Rattle.sigstore_tuf_text.specs.declared.error.Error.TheVariants as tuf
use Rattle.sigstore_tuf_parts.specs.declared.keys.Key.{Key}
use Rattle.sigstore_tuf_parts.specs.declared.verification.KeyFault.{KeyFault}
use Rattle.sigstore_tuf_parts.specs.declared.verification.KeyFault.TheVariants as fault
use Rattle.sigstore_tuf_text.specs.Canon.{canon}
use Rattle.sigstore_tuf_parts.specs.Crypto.{declared_scheme, key_of, signed_text}

-- the object of the key's public text alone
abbrev pub public_object_of : Key → Data
public_object_of key = object (member (codes "public") (string key.keyval.public) no_members)

-- the object of the key's type, text and scheme, without other members
abbrev pub key_object_of : Key → Data
key_object_of key =
    object (member (codes "keytype") (string key.keytype)
    (member (codes "keyval") (public_object_of key)
    (member (codes "scheme") (string key.scheme) no_members)))

-- the SHA-256 value of that object's canonical text, in lower-case hexadecimal
unfoldable pub key_id_of : Key → List ℕ
key_id_of key = encode_lower (sha256 (canon (key_object_of key)))

-- the scheme that the key names
abbrev pub signing_scheme_of : Key → Result SigningScheme Error
signing_scheme_of key = ok_or (declared_scheme key.scheme) (tuf.UnsupportedScheme key.keytype key.scheme)

-- why a declared key gives none, as a refusal
abbrev pub key_error : Key → KeyFault → Error
key_error key fault.Unsupported = tuf.UnsupportedScheme key.keytype key.scheme
key_error key fault.Unusable = tuf.UnusableKey (key_id_of key)
key_error key fault.Refused = tuf.Crypto
key_error key fault.NoMemory = tuf.NoMemory

abbrev pub or_key_error : Key → Result VerificationKey KeyFault → Result VerificationKey Error
or_key_error key (Ok verifier) = Ok verifier
or_key_error key (Err fault) = Err (key_error key fault)

abbrev pub or_crypto : Bool → Result ⊤ Error
or_crypto good = if good then Ok tt else Err tuf.Crypto

-- a signature of a message under a declared key
abbrev pub key_verified_of : Crypto → Key → List ℕ → List ℕ → Result ⊤ Error
key_verified_of crypto key message signature = do
  verifier ← or_key_error key (key_of crypto.armored crypto.key_in key)
  or_crypto (is_good crypto.accepts verifier (signed_text verifier.scheme message) signature)
