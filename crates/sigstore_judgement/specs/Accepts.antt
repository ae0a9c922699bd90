-- What it means that a bundle is accepted, told without any order of checks.
use Rattle.std.specs.Prelude.{◌≡◌, ◌↔◌, ℕ, List, Bool, true, false, ⊤, Some, Ok, IsTrue}
use Rattle.std.specs.List.{AllByRecursion}
use Rattle.jiff_core.specs.declared.timestamp.Timestamp.{Timestamp}
use Rattle.sigstore_types.specs.declared.bundle.Bundle.{Bundle}
use Rattle.sigstore_types.specs.Bundle.{entries_in, tokens_in}
use Rattle.sigstore_keys.specs.declared.scheme.SigningScheme.{SigningScheme}
use Rattle.sigstore_keys.specs.declared.key.VerificationKey.{VerificationKey}
use Rattle.sigstore_keys.specs.Key.{spki_key_of}
use Rattle.sigstore_keys.specs.Good.{is_good_over}
use Rattle.sigstore_entries.specs.declared.entry.TransparencyLogEntry.{TransparencyLogEntry}
use Rattle.certificate_claims.specs.declared.certificate_info.CertificateInfo.{CertificateInfo}
use Rattle.sigstore_policy.specs.declared.certificate.VerificationPolicy.{VerificationPolicy}
use Rattle.sigstore_certificate.specs.IsCertified.{IsCertified}
use Rattle.sigstore_judgement.specs.declared.evidence.Evidence.{Evidence}
use Rattle.sigstore_policy.specs.declared.public_key.PublicKeyVerificationPolicy.{PublicKeyVerificationPolicy}
use Rattle.sigstore_judgement.specs.declared.report.VerificationResult.{VerificationResult}
use Rattle.sigstore_judgement.specs.Artifact.{Artifact, digest_of, bytes_of, kind_of}
use Rattle.sigstore_judgement.specs.Claim.{Claim, claim_of, needed_of, IsBound}
use Rattle.sigstore_judgement.specs.Conditions.{MeetsConditions}
use Rattle.sigstore_judgement.specs.Content.{scheme_of, signs_digest, supported_of, subject_in, signature_in}
use Rattle.sigstore_judgement.specs.Entries.{IsLogged, HasLogs, log_count_of, told_if, Describes}
use Rattle.sigstore_judgement.specs.Evidence.{managed_evidence, owner_evidence, report_of}
use Rattle.sigstore_judgement.specs.Grounds.{Grounds, trust_in, Terms}
use Rattle.sigstore_judgement.specs.Judged.{intermediates_in, key_with, judged_of}
use Rattle.sigstore_judgement.specs.Parties.{parties_of}
use Rattle.sigstore_judgement.specs.Signer.{Signer, Managed, Certified, conditions_in, key_in, IsSigner}
use Rattle.sigstore_judgement.specs.Tokens.{AreStamped}
use Rattle.sigstore_judgement.specs.Verified.{AreVerified}

-- where the policy verifies the log, each entry is logged, at a time of the signer's
abbrev pub AreLogged : Grounds → Signer → Bool → List TransparencyLogEntry → Type 0
AreLogged grounds signer true entries = AllByRecursion (IsLogged grounds signer) entries
AreLogged grounds signer false entries = ⊤

-- under a managed key: the log does, and as many logs as are asked for; each token is a trusted authority's; and what is found are the times
-- of both, how many logs those are, and how many parties tell the times
pub record ManagedVouches (grounds : Grounds) (policy : PublicKeyVerificationPolicy) (bundle : Bundle) (evidence : Evidence) : Type 0 where
  pub logged : AreLogged grounds (Managed policy) policy.verify_tlog (entries_in bundle)
  pub enough : HasLogs grounds policy.logs policy.verify_tlog (entries_in bundle)
  pub stamped : List Timestamp
  pub are : AreStamped grounds (signature_in bundle.content) (tokens_in bundle) stamped
  pub shows :
      evidence
      ≡ managed_evidence (told_if policy.verify_tlog (entries_in bundle)) stamped (log_count_of grounds policy.verify_tlog (entries_in bundle))
      (parties_of grounds policy.verify_tlog bundle)

-- Under a certificate: these are the verified times, and there is one; at each of them the certificate was valid, so many certificate logs
-- saw it, and it names whom the policy asks for, as far as the policy asks; and the log does vouch, and as many logs as are asked for, where
-- the policy verifies it.
pub record OwnerVouches (grounds : Grounds) (policy : VerificationPolicy) (info : CertificateInfo) (certificate : List ℕ) (bundle : Bundle)
    (evidence : Evidence) : Type 0 where
  pub times : List Timestamp
  pub verified : AreVerified grounds bundle times
  pub scts : ℕ
  pub certified : IsCertified (trust_in grounds) policy info certificate (intermediates_in bundle) times scts
  pub logged : AreLogged grounds (Certified policy info certificate) policy.verify_tlog (entries_in bundle)
  pub enough : HasLogs grounds policy.logs policy.verify_tlog (entries_in bundle)
  pub shows :
      evidence
      ≡ owner_evidence times scts (told_if policy.verify_tlog (entries_in bundle)) (log_count_of grounds policy.verify_tlog (entries_in bundle))
      (parties_of grounds true bundle)

-- what vouches for the signer, and what is found of it
abbrev pub Vouches : Grounds → Signer → Bundle → Evidence → Type 0
Vouches grounds (Managed policy) bundle evidence = ManagedVouches grounds policy bundle evidence
Vouches grounds (Certified policy info certificate) bundle evidence = OwnerVouches grounds policy info certificate bundle evidence

-- Someone signed whom the policy asks for (under a certificate its owner, of whom nothing is known but what that certificate says: `says` of
-- `IsOwner`); their key is read, and with the content it has a scheme; what the bundle says of its artifact is
-- read, of an envelope its statement; the artifact has what is signed and each digest that is needed; the signer is vouched for; what the
-- bundle says is of the artifact; the signature over what the scheme signs is good under the signer's key; each entry describes the bundle,
-- by who signed, what they signed and the signature; what the policy asks beside who signed is met; and the report is made of who signed and
-- what was found.
pub record Accepts (terms : Terms) (bundle : Bundle) (artifact : Artifact) (report : VerificationResult) : Type 0 where
  pub signer : Signer
  pub is : IsSigner terms.policy bundle signer
  pub key : VerificationKey
  pub read : spki_key_of (key_in signer) ≡ Ok key
  pub scheme : SigningScheme
  pub chosen : scheme_of key.scheme bundle.content ≡ Ok scheme
  pub claim : Claim
  pub claims : claim_of bundle.content ≡ Ok claim
  pub supported : supported_of (kind_of artifact) (signs_digest scheme bundle.content) (needed_of scheme claim) ≡ Ok tt
  pub evidence : Evidence
  pub vouches : Vouches terms.grounds signer bundle evidence
  pub bound : IsBound claim artifact
  pub subject : List ℕ
  pub signs : subject_in scheme bundle.content (digest_of artifact) (bytes_of artifact) ≡ Some subject
  pub signed :
      IsTrue (is_good_over terms.grounds.crypto.accepts (key_with scheme key) subject (signature_in bundle.content))
  pub described : AllByRecursion (Describes terms.grounds signer bundle artifact) (entries_in bundle)
  pub meets : MeetsConditions (conditions_in signer) claim evidence
  pub shows : report ≡ report_of signer evidence

-- the judgement accepts exactly the bundles that are to be accepted, with their report
abbrev pub AcceptsExactly : Type 0
AcceptsExactly =
    (terms : Terms) (bundle : Bundle) (artifact : Artifact) (report : VerificationResult)
    → (judged_of terms bundle artifact ≡ Ok report) ↔ Accepts terms bundle artifact report
