-- What a policy asks of a certificate.
use Rattle.std.specs.Prelude.{ℕ, List, [], ◌++◌, Bool, true, false, bytes_eq, codes, None}
use Rattle.certificate_claims.specs.declared.certificate_info.SubjectAltName.{SubjectAltName}
use Rattle.certificate_claims.specs.declared.certificate_info.SubjectAltName.TheVariants as name
use Rattle.sigstore_policy.specs.declared.certificate.CertificatePolicy.{CertificatePolicy}
use Rattle.sigstore_policy.specs.declared.certificate.CertificatePolicy.TheVariants.{Skip, Verify}
use Rattle.sigstore_policy.specs.declared.certificate.IdentityMatcher.{IdentityMatcher}
use Rattle.sigstore_policy.specs.declared.certificate.IdentityMatcher.TheVariants as asked
use Rattle.sigstore_policy.specs.declared.certificate.VerificationPolicy.{VerificationPolicy}
use Rattle.sigstore_policy.specs.Conditions.{no_conditions}
use Rattle.sigstore_policy.specs.Pattern.{like}

-- an identity of that text and that sort
abbrev pub matcher_of : SubjectAltName → IdentityMatcher
matcher_of (name.Email text) = asked.Email text
matcher_of (name.Uri text) = asked.Uri text

-- the texts are equal, or the text is of the pattern, and the identity is of the sort that is asked for, where one is
abbrev pub matches : IdentityMatcher → SubjectAltName → Bool
matches (asked.Exact text) (name.Email actual) = bytes_eq text actual
matches (asked.Exact text) (name.Uri actual) = bytes_eq text actual
matches (asked.Email text) (name.Email actual) = bytes_eq text actual
matches (asked.Email text) (name.Uri actual) = false
matches (asked.Uri text) (name.Email actual) = false
matches (asked.Uri text) (name.Uri actual) = bytes_eq text actual
matches (asked.EmailLike pattern) (name.Email actual) = like pattern actual
matches (asked.EmailLike pattern) (name.Uri actual) = false
matches (asked.UriLike pattern) (name.Email actual) = false
matches (asked.UriLike pattern) (name.Uri actual) = like pattern actual

-- as it is printed
abbrev pub shown : IdentityMatcher → List ℕ
shown (asked.Exact text) = text
shown (asked.Email text) = codes "email " ++ text
shown (asked.Uri text) = codes "URI " ++ text
shown (asked.EmailLike pattern) = codes "email like " ++ pattern
shown (asked.UriLike pattern) = codes "URI like " ++ pattern

-- whether the path and the window are verified
abbrev pub verifies_chain : CertificatePolicy → Bool
verifies_chain Skip = false
verifies_chain (Verify verify_sct) = true

-- whether the timestamp of a log of certificates is verified
abbrev pub verifies_sct : CertificatePolicy → Bool
verifies_sct Skip = false
verifies_sct (Verify verify_sct) = verify_sct

-- without that timestamp; what verifies no path stays so
abbrev pub without_sct : CertificatePolicy → CertificatePolicy
without_sct Skip = Skip
without_sct (Verify verify_sct) = Verify false

-- a policy that asks for no name, and verifies all else
abbrev pub bare : VerificationPolicy
bare = record {
  identity = None;
  issuer = None;
  claims = [];
  anyone = false;
  verify_tlog = true;
  certificate = Verify true;
  scts = record { value = 1 };
  logs = record { value = 1 };
  conditions = no_conditions;
}
