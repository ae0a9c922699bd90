-- What the lines mean of a bundle that the judgement accepts: who told the times, and which subject is the artifact.
use Rattle.std.specs.Prelude.{◌≡◌, ◌⊎◌, ◌↔◌, ℕ, List, ◌++◌, length, codes, true, Option, Some, None, Ok}
use Rattle.jiff_core.specs.declared.timestamp.Timestamp as jiff
use Rattle.sigstore_types_parts.specs.declared.hash_algorithm.HashAlgorithm.{HashAlgorithm}
use Rattle.sigstore_types_parts.specs.declared.hash_algorithm.HashAlgorithm.TheVariants.{Sha2256, Sha2512}
use Rattle.certificate_claims.specs.declared.certificate_info.CertificateInfo.{CertificateInfo}
use Rattle.sigstore_types.specs.declared.bundle.Bundle.{Bundle}
use Rattle.sigstore_types.specs.Bundle.{entries_in, tokens_in}
use Rattle.sigstore_judgement.specs.declared.report.VerificationResult.{VerificationResult}
use Rattle.sigstore_judgement.specs.Artifact.{Digests, digest_among}
use Rattle.sigstore_judgement.specs.Claim.{IsSpelled}
use Rattle.sigstore_judgement.specs.Content.{signature_in}
use Rattle.sigstore_judgement.specs.Entries.{log_judged_of}
use Rattle.sigstore_judgement.specs.Grounds.{Grounds}
use Rattle.sigstore_judgement.specs.Judged.{Ready, judged_had}
use Rattle.sigstore_judgement.specs.Signer.{Signer, Managed, Certified}
use Rattle.sigstore_judgement.specs.Tokens.{AreStamped}
use Rattle.sigstore_judgement.specs.Verified.{promises_judged_of}
use Rattle.verification_details.specs.declared.statement.NamedSubject.{NamedSubject}
use Rattle.verification_details.specs.Subject.{digits_of, is_artifact}
use Rattle.verification_details.specs.Lines.{time_lines, source_lines}

-- ---- the times

-- the times that logs promised: under a key where the policy verifies the log, under a certificate in any case
abbrev pub ArePromised : Grounds → Signer → Bundle → List jiff.Timestamp → Type 0
ArePromised grounds (Managed policy) bundle times = log_judged_of grounds (Managed policy) policy.verify_tlog (entries_in bundle) ≡ Ok times
ArePromised grounds (Certified policy info certificate) bundle times = promises_judged_of grounds (entries_in bundle) ≡ Ok times

-- both sorts in the result's order
abbrev pub in_order : Option CertificateInfo → List ℕ → List ℕ → List ℕ
in_order None stamped promised = promised ++ stamped
in_order (Some info) stamped promised = stamped ++ promised

-- each time that the tokens of trusted authorities tell is told as stamped, each that logs promised as promised, and no other time is told
pub record TellsSources (grounds : Grounds) (signer : Signer) (bundle : Bundle) (result : VerificationResult) : Type 0 where
  pub stamped : List jiff.Timestamp
  pub promised : List jiff.Timestamp
  pub tokens : AreStamped grounds (signature_in bundle.content) (tokens_in bundle) stamped
  pub logs : ArePromised grounds signer bundle promised
  pub lines : source_lines (length (tokens_in bundle)) result.certificate result.verified_timestamps
      ≡ in_order result.certificate (time_lines (codes "stamped") stamped) (time_lines (codes "promised") promised)

-- of each bundle that the judgement accepts
abbrev pub SourcesAreTold : Type 0
SourcesAreTold =
    (grounds : Grounds) (ready : Ready) (bundle : Bundle) (digest : Digests) (bytes : Option (List ℕ)) (result : VerificationResult)
    → judged_had grounds ready bundle digest bytes ≡ Ok result → TellsSources grounds ready.signer bundle result

-- ---- the subject

-- a subject is told as the artifact exactly where it tells one of the judged digests, as the judgement compares them
abbrev pub SubjectsAreJudged : Type 0
SubjectsAreJudged =
    (digests : List (HashAlgorithm × List ℕ)) (named : NamedSubject)
    → (is_artifact (digits_of digests) named ≡ true)
    ↔ (IsSpelled named.subject.sha256 (digest_among digests Sha2256) ⊎ IsSpelled named.subject.sha512 (digest_among digests Sha2512))
