-- A Sigstore bundle as JSON (Sigstore protobuf specs, sigstore_bundle.proto).
use Rattle.std.specs.Prelude.{ℕ, List, [], ◌∷◌, Bool, true, false, ◌||◌, bytes_eq, codes, Option, Some, None, Result, Ok, Err, ⊤}
use Rattle.std.specs.Prelude.{ok_or, is_some, if◌then◌else◌}
use Rattle.std.specs.List.{list_all}
use Rattle.serde_json.specs.Data.{Data}
use Rattle.foundation.specs.Steps.{◌>>=◌}
use Rattle.sigstore_types_parts.specs.HashAlgorithm.{algorithm_named}
use Rattle.sigstore_types_parts.specs.declared.hash_algorithm.HashAlgorithm.{HashAlgorithm}
use Rattle.sigstore_types_parts.specs.declared.member.TypesMember.TheVariants as m
use Rattle.sigstore_types_parts.specs.declared.error.TypesError.{TypesError}
use Rattle.sigstore_types_parts.specs.declared.error.TypesError.TheVariants as e
use Rattle.sigstore_types.specs.declared.bundle.Bundle.{Bundle}
use Rattle.sigstore_types.specs.declared.content.SignatureContent.{SignatureContent}
use Rattle.sigstore_types.specs.declared.content.SignatureContent.TheVariants as content
use Rattle.sigstore_types.specs.declared.content.MessageSignature.{MessageSignature}
use Rattle.sigstore_types.specs.declared.content.MessageDigest.{MessageDigest}
use Rattle.sigstore_types.specs.declared.material.VerificationMaterial.{VerificationMaterial}
use Rattle.sigstore_types.specs.declared.material.VerificationMaterialContent.{VerificationMaterialContent}
use Rattle.sigstore_types.specs.declared.material.VerificationMaterialContent.TheVariants as material
use Rattle.sigstore_types.specs.declared.material.Hint.{Hint}
use Rattle.sigstore_types.specs.declared.material.SigningCertificate.{SigningCertificate}
use Rattle.sigstore_types.specs.declared.material.SigningChain.{SigningChain}
use Rattle.sigstore_types.specs.declared.material.TokenList.{TokenList}
use Rattle.sigstore_types.specs.declared.material.Tokens.{Tokens}
use Rattle.sigstore_entries.specs.declared.entry.TransparencyLogEntry.{TransparencyLogEntry}
use Rattle.sigstore_entries.specs.Entry.{json, required, optional, text, bytes, list, entry_of}
use Rattle.sigstore_envelopes.specs.Envelope.{envelope_of}
use Rattle.sigstore_envelopes.specs.declared.envelope.DsseEnvelope.{DsseEnvelope}
use Rattle.sigstore_types.specs.Members.{each_held}
use Rattle.sigstore_types.specs.TrustedRoot.{chain_of}

abbrev pub is_media_type : List ℕ → Bool
is_media_type name =
    bytes_eq name (codes "application/vnd.dev.sigstore.bundle+json;version=0.1")
    || (bytes_eq name (codes "application/vnd.dev.sigstore.bundle+json;version=0.2")
    || (bytes_eq name (codes "application/vnd.dev.sigstore.bundle+json;version=0.3")
    || bytes_eq name (codes "application/vnd.dev.sigstore.bundle.v0.3+json")))

unfoldable pub media_type_of : Data → Result (List ℕ) TypesError
media_type_of d = do
  name ← required text m.MediaType d
  if is_media_type name then Ok name else Err e.MediaType

-- the public key of a material: at most a hint to it
unfoldable pub hint_of : Data → Result Hint TypesError
hint_of d = do
  hint ← optional text m.Hint d
  Ok (record { hint = hint })

-- X509Certificate; what its octets say isn't read here
unfoldable pub certificate_of : Data → Result SigningCertificate TypesError
certificate_of d = do
  certificate ← required bytes m.RawBytes d
  Ok (record { certificate = certificate })

-- a chain without certificates has none that could have signed
abbrev pub some_of : List (List ℕ) → Result (List (List ℕ)) TypesError
some_of [] = Err (e.Field m.Certificates)
some_of (certificate ∷ behind) = Ok (certificate ∷ behind)

-- X509CertificateChain, of at least one
unfoldable pub signing_chain_of : Data → Result SigningChain TypesError
signing_chain_of d = do
  chain ← chain_of d
  certificates ← some_of chain.certificates
  Ok (record { certificates = certificates })

-- exactly one of the three; none or several are a misreading of the whole material
abbrev pub one_material_of : Option SigningCertificate → Option SigningChain → Option Hint → Result VerificationMaterialContent TypesError
one_material_of (Some single) None None = Ok (material.Certificate single.certificate)
one_material_of None (Some chain) None = Ok (material.X509CertificateChain chain.certificates)
one_material_of None None (Some key) = Ok (material.PublicKey key.hint)
one_material_of None None None = Err e.Json
one_material_of (Some single) (Some chain) key = Err e.Json
one_material_of (Some single) None (Some key) = Err e.Json
one_material_of None (Some chain) (Some key) = Err e.Json

unfoldable pub material_content_of : Data → Result VerificationMaterialContent TypesError
material_content_of d = do
  single ← optional certificate_of m.Certificate d
  chain ← optional signing_chain_of m.X509CertificateChain d
  key ← optional hint_of m.PublicKey d
  one_material_of single chain key

-- RFC3161SignedTimestamp, each with a token in base64
unfoldable pub token_list_of : Data → Result TokenList TypesError
token_list_of d = each_held m.SignedTimestamp d >>= λ list. Ok (record { list = list })

abbrev pub or_no_tokens : Option TokenList → List (List ℕ)
or_no_tokens None = []
or_no_tokens (Some tokens) = tokens.list

-- TimestampVerificationData
unfoldable pub tokens_of : Data → Result Tokens TypesError
tokens_of d = do
  list ← optional token_list_of m.Rfc3161Timestamps d
  Ok (record { list = or_no_tokens list })

abbrev pub or_none : Option Tokens → List (List ℕ)
or_none None = []
or_none (Some tokens) = tokens.list

unfoldable pub material_of : Data → Result VerificationMaterial TypesError
material_of d = do
  content ← material_content_of d
  entries ← list entry_of m.TlogEntries d
  tokens ← optional tokens_of m.TimestampVerificationData d
  Ok (record { content = content; tlog_entries = entries; rfc3161_timestamps = or_none tokens })

-- a known algorithm, by either of its names
unfoldable pub algorithm_of : Data → Result HashAlgorithm TypesError
algorithm_of d = do
  name ← required text m.Algorithm d
  ok_or (algorithm_named name) (e.Field m.Algorithm)

-- a digest of any length
unfoldable pub message_digest_of : Data → Result MessageDigest TypesError
message_digest_of d = do
  algorithm ← algorithm_of d
  digest ← required bytes m.Digest d
  Ok (record { algorithm = algorithm; digest = digest })

unfoldable pub message_signature_of : Data → Result MessageSignature TypesError
message_signature_of d = do
  message_digest ← optional message_digest_of m.MessageDigest d
  signature ← required bytes m.Signature d
  Ok (record { message_digest = message_digest; signature = signature })

-- exactly one of a message signature and an envelope; none or both are a misreading of the whole bundle
abbrev pub one_content_of : Option MessageSignature → Option DsseEnvelope → Result SignatureContent TypesError
one_content_of (Some message) None = Ok (content.MessageSignature message)
one_content_of None (Some envelope) = Ok (content.DsseEnvelope envelope)
one_content_of (Some message) (Some envelope) = Err e.Json
one_content_of None None = Err e.Json

unfoldable pub content_of : Data → Result SignatureContent TypesError
content_of d = do
  message ← optional message_signature_of m.MessageSignature d
  envelope ← optional envelope_of m.DsseEnvelope d
  one_content_of message envelope

unfoldable pub bundle_of : Data → Result Bundle TypesError
bundle_of d = do
  media_type ← media_type_of d
  verification_material ← required material_of m.VerificationMaterial d
  content ← content_of d
  Ok (record { media_type = media_type; content = content; verification_material = verification_material })

unfoldable pub bundle_of_bytes : List ℕ → Result Bundle TypesError
bundle_of_bytes bytes = json bytes >>= bundle_of

-- ---- the certificates

-- the certificate whose key signed: the only one, or the first of a chain. Those behind it only vouch for it, so who
-- could choose among them would show one certificate and sign with another's key
abbrev pub signing_certificate_of : VerificationMaterialContent → Option (List ℕ)
signing_certificate_of (material.Certificate certificate) = Some certificate
signing_certificate_of (material.X509CertificateChain []) = None
signing_certificate_of (material.X509CertificateChain (certificate ∷ behind)) = Some certificate
signing_certificate_of (material.PublicKey hint) = None

-- those behind it
abbrev pub intermediates_of : VerificationMaterialContent → List (List ℕ)
intermediates_of (material.Certificate certificate) = []
intermediates_of (material.X509CertificateChain []) = []
intermediates_of (material.X509CertificateChain (certificate ∷ behind)) = behind
intermediates_of (material.PublicKey hint) = []

-- ---- what a policy needs of the log

abbrev pub entries_in : Bundle → List TransparencyLogEntry
entries_in bundle = bundle.verification_material.tlog_entries

-- the time-stamp tokens
abbrev pub tokens_in : Bundle → List (List ℕ)
tokens_in bundle = bundle.verification_material.rfc3161_timestamps

abbrev pub has_proof : TransparencyLogEntry → Bool
has_proof entry = is_some entry.inclusion_proof

-- there is an entry, and each has a proof
abbrev pub shown_of : List TransparencyLogEntry → Result ⊤ TypesError
shown_of [] = Err e.NoEntry
shown_of (entry ∷ entries) = if list_all has_proof (entry ∷ entries) then Ok tt else Err e.NoProof

-- where the log is to be verified (else a signature that nobody can find in a log would pass)
abbrev pub structure_of : Bundle → Bool → Result ⊤ TypesError
structure_of bundle true = shown_of (entries_in bundle)
structure_of bundle false = Ok tt
