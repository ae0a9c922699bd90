-- Members of log bodies and of a log's answers, and the parts that several bodies have.
use Rattle.std.specs.Prelude.{ℕ, List, codes, bytes_eq, if◌then◌else◌, Option, Result, Ok, Err, ok_or}
use Rattle.serde_json.specs.Data.{Data}
use Rattle.foundation.specs.Steps.{◌>>=◌}
use Rattle.sigstore_types_parts.specs.Read as read
use Rattle.sigstore_types_parts.specs.Encoded as encoded
use Rattle.sigstore_types_parts.specs.HashAlgorithm.{algorithm_named}
use Rattle.sigstore_types_parts.specs.declared.hash_algorithm.HashAlgorithm.{HashAlgorithm}
use Rattle.sigstore_rekor_parts.specs.Error.{rekor_of, placed_at, name_of}
use Rattle.sigstore_rekor_parts.specs.declared.member.RekorMember.{RekorMember}
use Rattle.sigstore_rekor_parts.specs.declared.member.RekorMember.TheVariants as m
use Rattle.sigstore_rekor_parts.specs.declared.error.ResponseRule.TheVariants as rule
use Rattle.sigstore_rekor_parts.specs.declared.error.Error.{Error}
use Rattle.sigstore_rekor_parts.specs.declared.error.Error.TheVariants.{InvalidResponse}
use Rattle.sigstore_rekor_parts.specs.declared.key_details.RekorV2KeyDetails.{RekorV2KeyDetails}
use Rattle.sigstore_rekor_parts.specs.declared.key_details.RekorV2KeyDetails.TheVariants.{PkixEcdsaP256Sha256}
use Rattle.sigstore_rekor_parts.specs.declared.raw.X509CertificateRaw.{X509CertificateRaw}
use Rattle.sigstore_rekor_parts.specs.declared.raw.PublicKeyRaw.{PublicKeyRaw}
use Rattle.sigstore_rekor_parts.specs.declared.hash_value.HashValue.{HashValue}

-- a member that is there; absent or of another JSON type, it is Member of that member
abbrev pub required : {T : Type 0} → (Data → Result T Error) → RekorMember → Data → Result T Error
required reads m = read.required_of rekor_of (placed_at m) reads (name_of m)

-- a member that may be absent or null
abbrev pub optional : {T : Type 0} → (Data → Result T Error) → RekorMember → Data → Result (Option T) Error
optional reads m = read.optional_of rekor_of (placed_at m) reads (name_of m)

abbrev pub text : Data → Result (List ℕ) Error
text = read.text_of rekor_of

abbrev pub bytes : Data → Result (List ℕ) Error
bytes = encoded.bytes_of rekor_of

-- each item of a list that is there
abbrev pub list : {T : Type 0} → (Data → Result T Error) → RekorMember → Data → Result (List T) Error
list reads m = required (read.sequence_of rekor_of reads) m

-- a known algorithm, by either of its names
unfoldable pub algorithm_of : Data → Result HashAlgorithm Error
algorithm_of d = do
  name ← required text m.Algorithm d
  ok_or (algorithm_named name) (InvalidResponse rule.Algorithm)

abbrev pub key_details_name_of : RekorV2KeyDetails → List ℕ
key_details_name_of PkixEcdsaP256Sha256 = codes "PKIX_ECDSA_P256_SHA_256"

abbrev pub key_details_named : List ℕ → Result RekorV2KeyDetails Error
key_details_named name =
    if bytes_eq name (key_details_name_of PkixEcdsaP256Sha256) then Ok PkixEcdsaP256Sha256 else Err (InvalidResponse rule.KeyDetails)

unfoldable pub key_details_of : Data → Result RekorV2KeyDetails Error
key_details_of d = text d >>= key_details_named

-- a certificate in DER
unfoldable pub certificate_of : Data → Result X509CertificateRaw Error
certificate_of d = do
  raw_bytes ← required bytes m.RawBytes d
  Ok (record { raw_bytes = raw_bytes })

-- a public key in DER
unfoldable pub public_key_of : Data → Result PublicKeyRaw Error
public_key_of d = do
  raw_bytes ← required bytes m.RawBytes d
  Ok (record { raw_bytes = raw_bytes })

-- a hash, which may be any text
unfoldable pub hash_value_of : Data → Result HashValue Error
hash_value_of d = do
  algorithm ← algorithm_of d
  value ← required text m.Value d
  Ok (record { algorithm = algorithm; value = value })
