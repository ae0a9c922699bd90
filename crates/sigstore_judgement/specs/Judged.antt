-- When a bundle is accepted, whoever signed it, by its artifact (Sigstore bundle format; FIPS 180-4, FIPS 186-5).
use Rattle.std.specs.Prelude.{ℕ, List, [], true, ⊤, Option, None, Result, Ok, Err, if◌then◌else◌}
use Rattle.foundation.specs.Steps.{◌>>=◌}
use Rattle.sigstore_types_parts.specs.declared.hash_algorithm.HashAlgorithm.{HashAlgorithm}
use Rattle.sigstore_types.specs.declared.bundle.Bundle.{Bundle}
use Rattle.sigstore_types.specs.declared.content.SignatureContent.{SignatureContent}
use Rattle.sigstore_types.specs.Bundle.{entries_in, tokens_in, intermediates_of}
use Rattle.sigstore_keys.specs.declared.key.VerificationKey.{VerificationKey}
use Rattle.sigstore_keys.specs.declared.scheme.SigningScheme.{SigningScheme}
use Rattle.sigstore_keys.specs.Key.{spki_key_of}
use Rattle.certificate_claims.specs.declared.certificate_info.CertificateInfo.{CertificateInfo}
use Rattle.sigstore_policy.specs.declared.certificate.VerificationPolicy.{VerificationPolicy}
use Rattle.sigstore_certificate.specs.Certified.{certified_of}
use Rattle.sigstore_judgement.specs.declared.error.Error.{Error}
use Rattle.sigstore_judgement.specs.declared.error.Error.TheVariants.{UnsupportedArtifact}
use Rattle.sigstore_judgement.specs.declared.evidence.Evidence.{Evidence}
use Rattle.sigstore_judgement.specs.declared.judge.Ready.{Ready as Prepared}
use Rattle.sigstore_policy.specs.declared.public_key.PublicKeyVerificationPolicy.{PublicKeyVerificationPolicy}
use Rattle.sigstore_judgement.specs.declared.report.VerificationResult.{VerificationResult}
use Rattle.sigstore_judgement.specs.Artifact.{Artifact, Digests, has_each, digest_of, bytes_of, Kind, kind_of, read_kind}
use Rattle.sigstore_judgement.specs.Claim.{Claim, claim_as, claim_of, needed_of}
use Rattle.sigstore_judgement.specs.Conditions.{conditions_judged_of}
use Rattle.sigstore_judgement.specs.Content.{scheme_of, signs_digest, supported_of, signature_in, content_judged_of}
use Rattle.sigstore_judgement.specs.Entries.{log_judged_of, log_count_of, logs_judged_of, entries_described_of}
use Rattle.sigstore_judgement.specs.Error.{by_crypto, by_certificate}
use Rattle.sigstore_judgement.specs.Evidence.{managed_evidence, owner_evidence, report_of}
use Rattle.sigstore_judgement.specs.Grounds.{Grounds, trust_in, Terms}
use Rattle.sigstore_policy.specs.Policy.{Meaning}
use Rattle.sigstore_judgement.specs.Parties.{parties_of}
use Rattle.sigstore_judgement.specs.Signer.{Signer, Managed, Certified, signer_as, conditions_in, key_in, signer_of}
use Rattle.sigstore_judgement.specs.Tokens.{tokens_judged_of}
use Rattle.sigstore_judgement.specs.Verified.{verified_of}

-- ---- before the artifact is read

-- who signed, their key under the scheme of this bundle, what it says of the artifact, and the digests of that which are needed
pub record Ready : Type 0 where
  pub signer : Signer
  pub key : VerificationKey
  pub claim : Claim
  pub needed : List HashAlgorithm

-- what the code prepared
abbrev pub ready_as : Prepared → Ready
ready_as ready = record { signer = signer_as ready.signer; key = ready.key; claim = claim_as ready.claim; needed = ready.needed }

-- and of which bundle
abbrev pub bundle_in : Prepared → Bundle
bundle_in ready = ready.bundle.now

abbrev pub ready_with : Signer → VerificationKey → Claim → Ready
ready_with signer key claim = record { signer = signer; key = key; claim = claim; needed = needed_of key.scheme claim }

abbrev pub key_with : SigningScheme → VerificationKey → VerificationKey
key_with scheme key = record { scheme = scheme; key = key.key }

-- what the bundle says of its artifact, and whether the artifact serves
abbrev pub claimed_of : Kind → SigningScheme → SignatureContent → Result Claim Error
claimed_of kind scheme content =
    claim_of content >>= λ claim. supported_of kind (signs_digest scheme content) (needed_of scheme claim) >>= λ _. Ok claim

-- The signer's key (the bundle's own hint is never a key), its scheme (else a bundle could choose a weaker one), what the bundle says of
-- its artifact, and whether the artifact serves.
unfoldable pub ready_of : Kind → Signer → Bundle → Result Ready Error
ready_of kind signer bundle = do
  key ← by_crypto (spki_key_of (key_in signer))
  scheme ← by_crypto (scheme_of key.scheme bundle.content)
  claim ← claimed_of kind scheme bundle.content
  Ok (ready_with signer (key_with scheme key) claim)

-- who signed, and what is needed of them
unfoldable pub prepared_of : Kind → Meaning → Bundle → Result Ready Error
prepared_of kind policy bundle = do
  signer ← signer_of policy bundle
  ready_of kind signer bundle

-- ---- by the artifact

-- under a managed key: the entries with the number of their logs, where the policy verifies the log, and the tokens of its signature
unfoldable pub managed_vouched_of : Grounds → PublicKeyVerificationPolicy → Bundle → Result Evidence Error
managed_vouched_of grounds policy bundle = do
  promised ← log_judged_of grounds (Managed policy) policy.verify_tlog (entries_in bundle)
  _ ← logs_judged_of policy.verify_tlog policy.logs (log_count_of grounds policy.verify_tlog (entries_in bundle))
  stamped ← tokens_judged_of grounds (signature_in bundle.content) (tokens_in bundle)
  Ok (managed_evidence promised stamped (log_count_of grounds policy.verify_tlog (entries_in bundle)) (parties_of grounds policy.verify_tlog bundle))

-- The certificates that a bundle brings beside the signing one: they may stand between it and an anchor, and are trusted in nothing.
abbrev pub intermediates_in : Bundle → List (List ℕ)
intermediates_in bundle = intermediates_of bundle.verification_material.content

-- Under a certificate: the verified times; the certificate at each of them, whether enough certificate logs saw it, and whom it names; then
-- the entries with the number of their logs, where the policy verifies the log.
unfoldable pub owner_vouched_of : Grounds → VerificationPolicy → CertificateInfo → List ℕ → Bundle → Result Evidence Error
owner_vouched_of grounds policy info certificate bundle = do
  times ← verified_of grounds bundle
  scts ← by_certificate (certified_of (trust_in grounds) policy info certificate (intermediates_in bundle) times)
  promised ← log_judged_of grounds (Certified policy info certificate) policy.verify_tlog (entries_in bundle)
  _ ← logs_judged_of policy.verify_tlog policy.logs (log_count_of grounds policy.verify_tlog (entries_in bundle))
  Ok (owner_evidence times scts promised (log_count_of grounds policy.verify_tlog (entries_in bundle)) (parties_of grounds true bundle))

-- what vouches for the signer, and what it shows
abbrev pub vouched_of : Grounds → Signer → Bundle → Result Evidence Error
vouched_of grounds (Managed policy) bundle = managed_vouched_of grounds policy bundle
vouched_of grounds (Certified policy info certificate) bundle = owner_vouched_of grounds policy info certificate bundle

-- The judgement of what was prepared, over digests and bytes that are had: what vouches for the signer (what wasn't logged isn't worth a
-- look at its signature), the content, what the entries say of the bundle, and what the policy asks beside who signed.
unfoldable pub judged_had : Grounds → Ready → Bundle → Digests → Option (List ℕ) → Result VerificationResult Error
judged_had grounds ready bundle digest bytes = do
  evidence ← vouched_of grounds ready.signer bundle
  _ ← content_judged_of grounds.crypto.accepts ready.key bundle.content ready.claim digest bytes
  _ ← entries_described_of grounds ready.signer bundle digest (entries_in bundle)
  _ ← conditions_judged_of (conditions_in ready.signer) ready.claim evidence
  Ok (report_of ready.signer evidence)

-- ---- by digests that a caller took

-- each that is needed is among them: else a check would be passed over
abbrev pub given_of : List HashAlgorithm → Digests → Result ⊤ Error
given_of needed digest = if has_each needed digest then Ok tt else Err UnsupportedArtifact

-- the judgement of what was prepared of a bundle, over them
abbrev pub judged_by : Grounds → Ready → Bundle → Digests → Result VerificationResult Error
judged_by grounds ready bundle digest = given_of ready.needed digest >>= λ _. judged_had grounds ready bundle digest None

-- ---- the whole judgement

unfoldable pub judged_of : Terms → Bundle → Artifact → Result VerificationResult Error
judged_of terms bundle artifact = do
  ready ← prepared_of (kind_of artifact) terms.policy bundle
  judged_had terms.grounds ready bundle (digest_of artifact) (bytes_of artifact)

abbrev pub needed_in : Result Ready Error → List HashAlgorithm
needed_in (Ok ready) = ready.needed
needed_in (Err e) = []

-- the digests that are taken of an artifact that is read
abbrev pub needed_by : Meaning → Bundle → List HashAlgorithm
needed_by policy bundle = needed_in (prepared_of read_kind policy bundle)
