-- Whether a certificate names the identity and the issuer that are asked for, and claims what is.
use Rattle.std.specs.Prelude.{ℕ, List, [], ◌∷◌, Bool, false, bytes_eq, if◌then◌else◌, Option, Some, None, Result, Ok, Err, ⊤}
use Rattle.foundation.specs.Steps.{◌>>=◌}
use Rattle.certificate_claims.specs.declared.certificate_info.CertificateInfo.{CertificateInfo}
use Rattle.certificate_claims.specs.declared.certificate_info.SubjectAltName.{SubjectAltName}
use Rattle.certificate_claims.specs.declared.claims.FulcioCiClaims.{FulcioCiClaims}
use Rattle.certificate_claims.specs.ClaimNames.{claim_in}
use Rattle.sigstore_policy.specs.declared.certificate.IdentityMatcher.{IdentityMatcher}
use Rattle.sigstore_policy.specs.declared.matcher.ClaimMatcher.{ClaimMatcher}
use Rattle.sigstore_policy.specs.Certificate.{matches}
use Rattle.sigstore_policy.specs.Matcher.{is_matched as is_text_matched}
use Rattle.sigstore_policy.specs.declared.certificate.VerificationPolicy.{VerificationPolicy}
use Rattle.sigstore_certificate.specs.declared.error.CertificateRefusal.{CertificateRefusal}
use Rattle.sigstore_certificate.specs.declared.error.CertificateRefusal.TheVariants.{IdentityMismatch, IssuerMismatch, ClaimMismatch}

abbrev pub is_matched : IdentityMatcher → Option SubjectAltName → Bool
is_matched matcher None = false
is_matched matcher (Some identity) = matches matcher identity

-- else anyone to whom the authority gives certificates could have signed
abbrev pub identity_judged : Option IdentityMatcher → Option SubjectAltName → Result ⊤ CertificateRefusal
identity_judged None actual = Ok tt
identity_judged (Some matcher) actual = if is_matched matcher actual then Ok tt else Err (IdentityMismatch matcher actual)

abbrev pub is_text : List ℕ → Option (List ℕ) → Bool
is_text text None = false
is_text text (Some actual) = bytes_eq text actual

-- else another issuer of identities could give that identity to another
abbrev pub issuer_judged : Option (List ℕ) → Option (List ℕ) → Result ⊤ CertificateRefusal
issuer_judged None actual = Ok tt
issuer_judged (Some text) actual = if is_text text actual then Ok tt else Err (IssuerMismatch text actual)

-- else another workflow, or another repository's run of it, could have signed under the identity
abbrev pub claim_judged : ClaimMatcher → FulcioCiClaims → Result ⊤ CertificateRefusal
claim_judged asked claims =
    if is_text_matched asked.text (claim_in claims asked.name) then Ok tt else Err (ClaimMismatch asked.name asked.text (claim_in claims asked.name))

-- each claim that is asked for; the first that isn't told so refuses
abbrev pub claims_judged : List ClaimMatcher → FulcioCiClaims → Result ⊤ CertificateRefusal
claims_judged [] claims = Ok tt
claims_judged (asked ∷ others) claims = claim_judged asked claims >>= λ _. claims_judged others claims

abbrev pub names_judged : VerificationPolicy → CertificateInfo → Result ⊤ CertificateRefusal
names_judged policy info = do
  _ ← identity_judged policy.identity info.identity
  _ ← issuer_judged policy.issuer info.issuer
  claims_judged policy.claims info.ci_claims
