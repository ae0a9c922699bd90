-- Who signed: a key that its holder manages, or the owner of a certificate, each with the policy that says what is asked of it.
use Rattle.std.specs.Prelude.{◌≡◌, ℕ, List, Bool, ⊤, Option, Some, None, Result, Ok, Err}
use Rattle.foundation.specs.Steps.{◌>>=◌}
use Rattle.sigstore_types_parts.specs.declared.time_range.TimeRange.{TimeRange}
use Rattle.sigstore_types.specs.declared.bundle.Bundle.{Bundle}
use Rattle.sigstore_types.specs.declared.material.VerificationMaterialContent.{VerificationMaterialContent}
use Rattle.sigstore_types.specs.declared.material.VerificationMaterialContent.TheVariants as material
use Rattle.sigstore_types.specs.Bundle.{structure_of, signing_certificate_of}
use Rattle.certificate_claims.specs.declared.certificate_info.CertificateInfo.{CertificateInfo}
use Rattle.certificate_claims.specs.Info.{info_of}
use Rattle.sigstore_policy.specs.declared.certificate.VerificationPolicy.{VerificationPolicy}
use Rattle.sigstore_policy.specs.declared.conditions.SignatureConditions.{SignatureConditions}
use Rattle.sigstore_binding.specs.Verifier as binding
use Rattle.sigstore_judgement.specs.declared.error.Error.{Error}
use Rattle.sigstore_judgement.specs.declared.error.Error.TheVariants.{InvalidBundle, UnsupportedBundle}
use Rattle.sigstore_policy.specs.declared.public_key.PublicKeyVerificationPolicy.{PublicKeyVerificationPolicy}
use Rattle.sigstore_judgement.specs.declared.signing.Signing.{Signing}
use Rattle.sigstore_judgement.specs.declared.signing.Signing.TheVariants as signing
use Rattle.sigstore_judgement.specs.Error.{by_types, by_info}
use Rattle.sigstore_policy.specs.Policy.{Meaning, PublicKey, Certificate}

-- the holder of a key; or the owner of a certificate, with what it says and the certificate itself
pub data Signer : Type 0 where
  Managed : PublicKeyVerificationPolicy → Signer
  Certified : VerificationPolicy → CertificateInfo → List ℕ → Signer

-- who the code says it was
abbrev pub signer_as : Signing → Signer
signer_as (signing.Managed policy) = Managed policy.now
signer_as (signing.Certified owner) = Certified owner.policy.now owner.info owner.certificate.now

-- ---- what a signer brings

-- what is asked of the signature beside who made it
abbrev pub conditions_in : Signer → SignatureConditions
conditions_in (Managed policy) = policy.conditions
conditions_in (Certified policy info certificate) = policy.conditions

-- the key in DER (SubjectPublicKeyInfo)
abbrev pub key_in : Signer → List ℕ
key_in (Managed policy) = policy.key
key_in (Certified policy info certificate) = info.public_key

-- when a certificate is valid (RFC 5280, section 4.1.2.5)
abbrev pub validity_of : CertificateInfo → TimeRange
validity_of info = record { start = info.not_before; end = Some info.not_after }

-- who it is to an entry
abbrev pub signatory_of : Signer → binding.Signatory
signatory_of (Managed policy) = binding.Key policy.key
signatory_of (Certified policy info certificate) = binding.Certificate certificate info.public_key (validity_of info)

-- whether the log is verified
abbrev pub verifies_log : Signer → Bool
verifies_log (Managed policy) = policy.verify_tlog
verifies_log (Certified policy info certificate) = policy.verify_tlog

-- ---- who signed, under a policy: the policy's kind is looked at here alone

-- the material with which the bundle says that it was signed: a public key, or certificates
abbrev pub material_in : Bundle → VerificationMaterialContent
material_in bundle = bundle.verification_material.content

-- the certificate with which the bundle says that it was signed, where it has one
abbrev pub certificate_in : Bundle → Option (List ℕ)
certificate_in bundle = signing_certificate_of (material_in bundle)

-- Under a policy for a key the material is a public key. Certificates aren't judged so, not even an empty chain: what they say would be
-- passed over.
abbrev pub keyed_of : VerificationMaterialContent → Result ⊤ Error
keyed_of (material.PublicKey hint) = Ok tt
keyed_of (material.Certificate certificate) = Err UnsupportedBundle
keyed_of (material.X509CertificateChain chain) = Err UnsupportedBundle

-- and one without a certificate names nobody of whom the policy could ask anything
abbrev pub named_of : Option (List ℕ) → Result (List ℕ) Error
named_of None = Err InvalidBundle
named_of (Some certificate) = Ok certificate

-- Under a managed key it is its holder. The bundle has what the policy needs of the log: else a signature that was never logged passes,
-- and the owner of a stolen key is never noticed.
unfoldable pub managed_of : PublicKeyVerificationPolicy → Bundle → Result Signer Error
managed_of policy bundle = do
  _ ← keyed_of (material_in bundle)
  _ ← by_types (structure_of bundle policy.verify_tlog)
  Ok (Managed policy)

-- Under a policy for certificates it is the owner of the signing certificate, which has to say who that is.
unfoldable pub owner_of : VerificationPolicy → Bundle → Result Signer Error
owner_of policy bundle = do
  _ ← by_types (structure_of bundle policy.verify_tlog)
  certificate ← named_of (certificate_in bundle)
  info ← by_info (info_of certificate)
  Ok (Certified policy info certificate)

abbrev pub signer_of : Meaning → Bundle → Result Signer Error
signer_of (Certificate policy) bundle = owner_of policy bundle
signer_of (PublicKey policy) bundle = managed_of policy bundle

-- Those of the checks that need no memory: where one of them refuses, no answer is out of memory.
abbrev pub first_checks_of : Meaning → Bundle → Result ⊤ Error
first_checks_of (PublicKey policy) bundle = keyed_of (material_in bundle) >>= λ _. by_types (structure_of bundle policy.verify_tlog)
first_checks_of (Certificate policy) bundle =
    by_types (structure_of bundle policy.verify_tlog) >>= λ _. named_of (certificate_in bundle) >>= λ _. Ok tt

-- ---- the same without an order of checks

pub record IsManaged (policy : PublicKeyVerificationPolicy) (bundle : Bundle) (signer : Signer) : Type 0 where
  pub hint : Option (List ℕ)
  pub keyed : material_in bundle ≡ material.PublicKey hint
  pub structure : structure_of bundle policy.verify_tlog ≡ Ok tt
  pub is : signer ≡ Managed policy

pub record IsOwner (policy : VerificationPolicy) (bundle : Bundle) (signer : Signer) : Type 0 where
  pub structure : structure_of bundle policy.verify_tlog ≡ Ok tt
  pub certificate : List ℕ
  pub named : certificate_in bundle ≡ Some certificate
  pub info : CertificateInfo
  pub says : info_of certificate ≡ Ok info
  pub is : signer ≡ Certified policy info certificate

abbrev pub IsSigner : Meaning → Bundle → Signer → Type 0
IsSigner (Certificate policy) bundle signer = IsOwner policy bundle signer
IsSigner (PublicKey policy) bundle signer = IsManaged policy bundle signer
