-- What rules share of one bundle, so that a later rule needn't ask for it again.
use Rattle.std.specs.Prelude.{◌≡◌, ℕ, List, Bool, true, false, Option, Some, None, Ok, Err, ⊤}
use Rattle.std.specs.List.{AllByRecursion}
use Rattle.sigstore_types_parts.specs.declared.hash_algorithm.HashAlgorithm.{HashAlgorithm}
use Rattle.sigstore_types.specs.declared.bundle.Bundle.{Bundle}
use Rattle.certificate_claims.specs.Info.{info_of}
use Rattle.sigstore_certificate.specs.declared.error.CertificateRefusal.{CertificateRefusal}
use Rattle.sigstore_certificate.specs.Names.{names_judged}
use Rattle.sigstore_policy.specs.declared.certificate.VerificationPolicy.{VerificationPolicy}
use Rattle.sigstore_policy.specs.Policy.{Certificate}
use Rattle.sigstore_judgement.specs.declared.error.Error.{Error}
use Rattle.sigstore_judgement.specs.declared.error.Error.TheVariants.{IdentityMismatch, IssuerMismatch, ClaimMismatch}
use Rattle.sigstore_judgement.specs.declared.rules.ReadArtifact.{ReadArtifact}
use Rattle.sigstore_judgement.specs.declared.sharing.EarlierRule.{EarlierRule}
use Rattle.sigstore_judgement.specs.Artifact.{read_kind}
use Rattle.sigstore_judgement.specs.Error.{error_of_certificate}
use Rattle.sigstore_judgement.specs.Grounds.{Grounds}
use Rattle.sigstore_judgement.specs.Judged.{prepared_of}
use Rattle.sigstore_judgement.specs.Rules.{with_needed, answer_by}
use Rattle.sigstore_judgement.specs.Signer.{certificate_in}

-- ---- a refusal by the names of the certificate

abbrev pub is_by_names : Error → Bool
is_by_names (IdentityMismatch expected actual) = true
is_by_names (IssuerMismatch expected actual) = true
is_by_names (ClaimMismatch name expected actual) = true
is_by_names _ = false

-- the rule asks what the earlier one did, beside names and conditions
pub record AsksAlike (earlier : EarlierRule) (policy : VerificationPolicy) : Type 0 where
  pub log : policy.verify_tlog ≡ earlier.verify_tlog
  pub certificate : policy.certificate ≡ earlier.certificate
  pub scts : policy.scts ≡ earlier.scts

-- the certificate that the earlier rule judged is the bundle's
pub record IsOfBundle (bundle : Bundle) (earlier : EarlierRule) : Type 0 where
  pub certificate : List ℕ
  pub named : certificate_in bundle ≡ Some certificate
  pub says : info_of certificate ≡ Ok earlier.info

-- it doesn't name whom the rule asks for, and is refused so
pub record IsOtherwiseNamed (earlier : EarlierRule) (policy : VerificationPolicy) (e : Error) : Type 0 where
  pub alike : AsksAlike earlier policy
  pub why : CertificateRefusal
  pub refused : names_judged policy earlier.info ≡ Err why
  pub told : error_of_certificate why ≡ e

-- each rule that asks alike is refused by its names, where they refuse: nothing before them does
abbrev pub ComesToNames : Grounds → Bundle → ReadArtifact → EarlierRule → Type 0
ComesToNames grounds bundle artifact earlier =
    (policy : VerificationPolicy) (e : Error) → IsOtherwiseNamed earlier policy e → answer_by grounds bundle artifact (Certificate policy) ≡ Err e

abbrev pub EachComesToNames : Grounds → Bundle → ReadArtifact → List EarlierRule → Type 0
EachComesToNames grounds bundle artifact earlier = AllByRecursion (ComesToNames grounds bundle artifact) earlier

-- ---- the digests that are needed

-- a rule for certificates that asks the same of the log has no others
abbrev pub HasNeeded : Bundle → Option Bool → Option (List HashAlgorithm) → Type 0
HasNeeded bundle None found = ⊤
HasNeeded bundle (Some log) found =
    (policy : VerificationPolicy) → policy.verify_tlog ≡ log → with_needed found (prepared_of read_kind (Certificate policy) bundle) ≡ found
