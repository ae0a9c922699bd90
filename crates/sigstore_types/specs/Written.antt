-- A bundle as it is written as JSON (Sigstore protobuf specs, sigstore_bundle.proto; protobuf, "ProtoJSON Format").
use Rattle.std.specs.Prelude.{ℕ, List, [], ◌∷◌, codes, option_map, Option, Some, None}
use Rattle.serde_json.specs.Data.{Data, string}
use Rattle.serde_json.specs.Written.{compact_text}
use Rattle.sigstore_types_parts.specs.declared.hash_algorithm.HashAlgorithm.{HashAlgorithm}
use Rattle.sigstore_types_parts.specs.declared.hash_algorithm.HashAlgorithm.TheVariants.{Sha2256, Sha2384, Sha2512, Sha3256, Sha3384}
use Rattle.sigstore_types_parts.specs.declared.member.TypesMember.{TypesMember}
use Rattle.sigstore_types_parts.specs.declared.member.TypesMember.TheVariants as m
use Rattle.sigstore_entries.specs.Writing.{octets_data, list_data, some_list, object_of, holding}
use Rattle.sigstore_entries.specs.Written.{entry_data}
use Rattle.sigstore_envelopes.specs.Written.{envelope_data}
use Rattle.sigstore_types.specs.declared.bundle.Bundle.{Bundle}
use Rattle.sigstore_types.specs.declared.content.SignatureContent.{SignatureContent}
use Rattle.sigstore_types.specs.declared.content.SignatureContent.TheVariants as content
use Rattle.sigstore_types.specs.declared.content.MessageSignature.{MessageSignature}
use Rattle.sigstore_types.specs.declared.content.MessageDigest.{MessageDigest}
use Rattle.sigstore_types.specs.declared.material.VerificationMaterial.{VerificationMaterial}
use Rattle.sigstore_types.specs.declared.material.VerificationMaterialContent.{VerificationMaterialContent}
use Rattle.sigstore_types.specs.declared.material.VerificationMaterialContent.TheVariants as material

-- ---- what is signed

-- HashAlgorithm
abbrev pub algorithm_name_of : HashAlgorithm → List ℕ
algorithm_name_of Sha2256 = codes "SHA2_256"
algorithm_name_of Sha2384 = codes "SHA2_384"
algorithm_name_of Sha2512 = codes "SHA2_512"
algorithm_name_of Sha3256 = codes "SHA3_256"
algorithm_name_of Sha3384 = codes "SHA3_384"

-- HashOutput
abbrev pub message_digest_members : MessageDigest → List (TypesMember × Option Data)
message_digest_members digest =
    (m.Algorithm, Some (string (algorithm_name_of digest.algorithm)))
    ∷ (m.Digest, Some (octets_data digest.digest))
    ∷ []

unfoldable pub message_digest_data : MessageDigest → Data
message_digest_data digest = object_of (message_digest_members digest)

abbrev pub message_signature_members : MessageSignature → List (TypesMember × Option Data)
message_signature_members message =
    (m.MessageDigest, option_map message_digest_data message.message_digest)
    ∷ (m.Signature, Some (octets_data message.signature))
    ∷ []

unfoldable pub message_signature_data : MessageSignature → Data
message_signature_data message = object_of (message_signature_members message)

-- which member the content is, and the others are left out
abbrev pub message_in : SignatureContent → Option Data
message_in (content.MessageSignature message) = Some (message_signature_data message)
message_in (content.DsseEnvelope envelope) = None

abbrev pub envelope_in : SignatureContent → Option Data
envelope_in (content.MessageSignature message) = None
envelope_in (content.DsseEnvelope envelope) = Some (envelope_data envelope)

-- ---- what it is verified with

-- octets, each in base64 at the only member of an object
abbrev pub each_holding : TypesMember → List (List ℕ) → Data
each_holding m octets = list_data (λ o. holding m (octets_data o)) octets

-- X509Certificate
abbrev pub certificate_in : VerificationMaterialContent → Option Data
certificate_in (material.Certificate certificate) = Some (holding m.RawBytes (octets_data certificate))
certificate_in (material.X509CertificateChain chain) = None
certificate_in (material.PublicKey hint) = None

-- X509CertificateChain
abbrev pub chain_in : VerificationMaterialContent → Option Data
chain_in (material.Certificate certificate) = None
chain_in (material.X509CertificateChain chain) = Some (holding m.Certificates (each_holding m.RawBytes chain))
chain_in (material.PublicKey hint) = None

-- PublicKeyIdentifier; no hint is left out, and the empty one is written
abbrev pub key_in : VerificationMaterialContent → Option Data
key_in (material.Certificate certificate) = None
key_in (material.X509CertificateChain chain) = None
key_in (material.PublicKey hint) = Some (object_of ((m.Hint, option_map string hint) ∷ []))

-- TimestampVerificationData; without a token it is left out
abbrev pub tokens_in : List (List ℕ) → Option Data
tokens_in [] = None
tokens_in (token ∷ tokens) = Some (holding m.Rfc3161Timestamps (each_holding m.SignedTimestamp (token ∷ tokens)))

-- no entries are left out
abbrev pub material_members : VerificationMaterial → List (TypesMember × Option Data)
material_members verification =
    (m.Certificate, certificate_in verification.content)
    ∷ (m.PublicKey, key_in verification.content)
    ∷ (m.TimestampVerificationData, tokens_in verification.rfc3161_timestamps)
    ∷ (m.TlogEntries, some_list entry_data verification.tlog_entries)
    ∷ (m.X509CertificateChain, chain_in verification.content)
    ∷ []

unfoldable pub material_data : VerificationMaterial → Data
material_data verification = object_of (material_members verification)

-- ---- the whole

abbrev pub bundle_members : Bundle → List (TypesMember × Option Data)
bundle_members bundle =
    (m.DsseEnvelope, envelope_in bundle.content)
    ∷ (m.MediaType, Some (string bundle.media_type))
    ∷ (m.MessageSignature, message_in bundle.content)
    ∷ (m.VerificationMaterial, Some (material_data bundle.verification_material))
    ∷ []

unfoldable pub bundle_data : Bundle → Data
bundle_data bundle = object_of (bundle_members bundle)

-- without blanks
abbrev pub bundle_text_of : Bundle → List ℕ
bundle_text_of bundle = compact_text (bundle_data bundle)
