-- Whether an entry of a log of Rekor's second version is of what was sent (Rekor, "rekor-tiles").
use Rattle.std.specs.Prelude.{bytes_eq, Bool, true, false, not, if◌then◌else◌, Option, Some, None, is_some, Result, Ok, Err, ⊤}
use Rattle.foundation.specs.Steps.{◌>>=◌}
use Rattle.sigstore_types_parts.specs.HashAlgorithm.{same_algorithm}
use Rattle.sigstore_types_parts.specs.declared.hash_algorithm.HashAlgorithm.TheVariants.{Sha2256}
use Rattle.sigstore_entries.specs.declared.kind_version.KindVersion.{KindVersion}
use Rattle.sigstore_entries.specs.declared.kind_version.KindVersion.TheVariants as kind
use Rattle.sigstore_entries.specs.declared.inclusion_proof.InclusionProof.{InclusionProof}
use Rattle.sigstore_entries.specs.declared.entry.TransparencyLogEntry.{TransparencyLogEntry}
use Rattle.sigstore_rekor_parts.specs.Body.{body_of}
use Rattle.sigstore_rekor_parts.specs.declared.error.ResponseRule.{ResponseRule}
use Rattle.sigstore_rekor_parts.specs.declared.error.ResponseRule.TheVariants as rule
use Rattle.sigstore_rekor_parts.specs.declared.error.Error.{Error}
use Rattle.sigstore_rekor_parts.specs.declared.error.Error.TheVariants.{InvalidResponse}
use Rattle.sigstore_rekor_parts.specs.declared.body.RekorEntryBody.{RekorEntryBody}
use Rattle.sigstore_rekor_parts.specs.declared.body.RekorEntryBody.TheVariants as body
use Rattle.sigstore_rekor_parts.specs.declared.key_details.RekorV2KeyDetails.{RekorV2KeyDetails}
use Rattle.sigstore_rekor_parts.specs.declared.key_details.RekorV2KeyDetails.TheVariants.{PkixEcdsaP256Sha256}
use Rattle.sigstore_rekor_parts.specs.declared.raw.X509CertificateRaw.{X509CertificateRaw}
use Rattle.sigstore_rekor_parts.specs.declared.raw.PublicKeyRaw.{PublicKeyRaw}
use Rattle.sigstore_rekor_parts.specs.declared.hashed_rekord_v002.HashedRekordV002Verifier.{HashedRekordV002Verifier}
use Rattle.sigstore_rekor_parts.specs.declared.hashed_rekord_v002.HashedRekordV002DataInner.{HashedRekordV002DataInner}
use Rattle.sigstore_rekor_parts.specs.declared.hashed_rekord_v002.HashedRekordV002Data.{HashedRekordV002Data}
use Rattle.sigstore_rekor.specs.declared.hashed_rekord_v2.VerifierV2.{VerifierV2}
use Rattle.sigstore_rekor.specs.declared.hashed_rekord_v2.VerifierV2.TheVariants as sent
use Rattle.sigstore_rekor.specs.declared.hashed_rekord_v2.HashedRekordV2.{HashedRekordV2}

-- what holds, or this rule is broken
abbrev pub unless_broken : Bool → ResponseRule → Result ⊤ Error
unless_broken holds broken = if holds then Ok tt else Err (InvalidResponse broken)

abbrev pub is_v2 : KindVersion → Bool
is_v2 kind.HashedRekordV002 = true
is_v2 other = false

abbrev pub are_same_details : RekorV2KeyDetails → RekorV2KeyDetails → Bool
are_same_details PkixEcdsaP256Sha256 PkixEcdsaP256Sha256 = true

abbrev pub is_same_in : Option X509CertificateRaw → Option PublicKeyRaw → VerifierV2 → Bool
is_same_in (Some logged) None (sent.Certificate certificate) = bytes_eq logged.raw_bytes certificate
is_same_in None (Some logged) (sent.PublicKey key) = bytes_eq logged.raw_bytes key
is_same_in certificate key verifier = false

-- the logged verifier has one sort alone, that of the request, and it is the request's
abbrev pub is_same_verifier : HashedRekordV002Verifier → VerifierV2 → Bool
is_same_verifier logged verifier = is_same_in logged.x509_certificate logged.public_key verifier

-- the digest, which is of SHA-256
abbrev pub data_of : HashedRekordV002DataInner → HashedRekordV2 → Result ⊤ Error
data_of logged request = do
  _ ← unless_broken (same_algorithm logged.algorithm Sha2256) rule.Algorithm
  unless_broken (bytes_eq logged.digest request.digest) rule.Digest

abbrev pub verifier_of : HashedRekordV002Verifier → HashedRekordV2 → Result ⊤ Error
verifier_of logged request = do
  _ ← unless_broken (are_same_details logged.key_details request.key_details) rule.KeyDetails
  unless_broken (is_same_verifier logged request.verifier) rule.Verifier

unfoldable pub logged_of : HashedRekordV002Data → HashedRekordV2 → Result ⊤ Error
logged_of logged request = do
  _ ← data_of logged.data_ request
  _ ← unless_broken (bytes_eq logged.signature.content request.signature) rule.Signature
  verifier_of logged.signature.verifier request

abbrev pub body_of_request : RekorEntryBody → HashedRekordV2 → Result ⊤ Error
body_of_request (body.HashedRekordV002 logged) request = logged_of logged.spec.hashed_rekord_v002 request
body_of_request other request = Err (InvalidResponse rule.Kind)

-- what was logged is what was sent
unfoldable pub logged_in : TransparencyLogEntry → HashedRekordV2 → Result ⊤ Error
logged_in entry request = do
  _ ← unless_broken (is_v2 entry.kind_version) rule.Kind
  logged ← body_of kind.HashedRekordV002 entry.canonicalized_body
  body_of_request logged request

-- logs of this version tell no time and make no promise
abbrev pub untimed_of : TransparencyLogEntry → Result ⊤ Error
untimed_of entry = do
  _ ← unless_broken (not (is_some entry.integrated_time)) rule.IntegratedTime
  unless_broken (not (is_some entry.inclusion_promise)) rule.InclusionPromise

-- there is a proof, and its checkpoint isn't the empty text
abbrev pub shown_of : Option InclusionProof → Result ⊤ Error
shown_of None = Err (InvalidResponse rule.InclusionProof)
shown_of (Some proof) = unless_broken (is_some proof.checkpoint.checkpoint) rule.EmptyCheckpoint

unfoldable pub validated_of : TransparencyLogEntry → HashedRekordV2 → Result ⊤ Error
validated_of entry request = do
  _ ← logged_in entry request
  _ ← untimed_of entry
  shown_of entry.inclusion_proof
