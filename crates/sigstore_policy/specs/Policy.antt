-- What a bundle is verified under: what is asked of its signing certificate, or a key that its holder manages.
use Rattle.std.specs.Prelude.{Bool}
use Rattle.sigstore_keys.specs.declared.distinct.Threshold.{Threshold}
use Rattle.sigstore_policy.specs.declared.certificate.VerificationPolicy.{VerificationPolicy}
use Rattle.sigstore_policy.specs.declared.public_key.PublicKeyVerificationPolicy.{PublicKeyVerificationPolicy}
use Rattle.sigstore_policy.specs.declared.policy.PolicyKind.{PolicyKind}
use Rattle.sigstore_policy.specs.declared.policy.PolicyKind.TheVariants as kind
use Rattle.sigstore_policy.specs.declared.policy.SigningPolicy.{SigningPolicy}
use Rattle.sigstore_policy.specs.declared.policy.SigningPolicy.TheVariants as signing

pub data Meaning : Type 0 where
  Certificate : VerificationPolicy → Meaning
  PublicKey : PublicKeyVerificationPolicy → Meaning

abbrev pub meaning_of : PolicyKind → Meaning
meaning_of (kind.Certificate policy) = Certificate policy.now
meaning_of (kind.PublicKey policy) = PublicKey policy.now

-- what a policy of either kind means
abbrev pub meaning_in : SigningPolicy → Meaning
meaning_in (signing.Certificate policy) = Certificate policy
meaning_in (signing.PublicKey policy) = PublicKey policy

-- in how many different logs the entries have to stand, where the log is verified
abbrev pub logs_asked : Meaning → Threshold
logs_asked (Certificate policy) = policy.logs
logs_asked (PublicKey policy) = policy.logs

-- whether the policy verifies the log
abbrev pub asks_log : Meaning → Bool
asks_log (Certificate policy) = policy.verify_tlog
asks_log (PublicKey policy) = policy.verify_tlog
