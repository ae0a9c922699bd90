-- What a certificate says of its owner: the identity of RFC 5280, 4.2.1.6, and Fulcio's extensions.
use Rattle.std.specs.Prelude.{ℕ, List, [], ◌∷◌, Option, Some, None, Result, Ok, Err}
use Rattle.foundation.specs.Steps.{◌>>=◌}
use Rattle.der_grammar.specs.Outcome.{Outcome}
use Rattle.der_grammar.specs.Grammar.{read_all}
use Rattle.der_grammar.specs.Many.{sequence_of}
use Rattle.x509_core.specs.declared.general_name.GeneralName.{GeneralName}
use Rattle.x509_core.specs.declared.general_name.GeneralName.TheVariants.{Rfc822Name, Other}
use Rattle.x509_core.specs.declared.general_name.GeneralName.TheVariants as name
use Rattle.x509_core.specs.Types.{general_name_type}
use Rattle.spki_core.specs.declared.error.X509Error.{X509Error}
use Rattle.x509_views.specs.Certificates.{Certificate, certificate_of}
use Rattle.x509_views.specs.Extensions.{OneExtension}
use Rattle.certificate_fields.specs.Fields.{value_of, extensions_of, moment_of}
use Rattle.certificate_claims.specs.declared.certificate_info.CertificateInfo.{CertificateInfo}
use Rattle.certificate_claims.specs.declared.certificate_info.SubjectAltName.{SubjectAltName}
use Rattle.certificate_claims.specs.declared.certificate_info.SubjectAltName.TheVariants.{Email, Uri}
use Rattle.sigstore_keys.specs.declared.error.Error.{Error}
use Rattle.sigstore_keys.specs.declared.error.Error.TheVariants.{InvalidCertificate}
use Rattle.sigstore_keys.specs.declared.error.CertificateFault.TheVariants as fault
use Rattle.certificate_claims.specs.Claims.{issuer_of, claims_of}
use Rattle.sigstore_keys.specs.KeyAlgorithm.{algorithm_of_spki}

abbrev pub text_of : SubjectAltName → List ℕ
text_of (Email text) = text
text_of (Uri text) = text

-- id-ce-subjectAltName, 2.5.29.17, as its contents
abbrev pub san_oid : List ℕ
san_oid = 0x55 ∷ 0x1d ∷ 0x11 ∷ []

-- the first rfc822Name or uniformResourceIdentifier
abbrev pub first_name : List GeneralName → Option SubjectAltName
first_name [] = None
first_name (Rfc822Name text ∷ names) = Some (Email text)
first_name (name.Uri text ∷ names) = Some (Uri text)
first_name (Other other ∷ names) = first_name names

-- GeneralNames ::= SEQUENCE OF GeneralName
abbrev pub names_of : List ℕ → Outcome (List GeneralName)
names_of value = read_all (sequence_of general_name_type.grammar) value

abbrev pub name_in : Outcome (List GeneralName) → Result (Option SubjectAltName) Error
name_in (Ok names) = Ok (first_name names)
name_in (Err e) = Err (InvalidCertificate fault.San)

abbrev pub identity_in : Option (List ℕ) → Result (Option SubjectAltName) Error
identity_in None = Ok None
identity_in (Some value) = name_in (names_of value)

-- the identity by the subject alternative name (4.2.1.6); refused where that extension is unreadable
unfoldable pub identity_of : List OneExtension → Result (Option SubjectAltName) Error
identity_of extensions = identity_in (value_of san_oid extensions)

unfoldable pub info_of_parts : Certificate → Result CertificateInfo Error
info_of_parts certificate = do
  sort ← algorithm_of_spki certificate.signed.middle.spki
  identity ← identity_of (extensions_of certificate)
  issuer ← issuer_of (extensions_of certificate)
  Ok (record {
    identity = identity;
    issuer = issuer;
    not_before = moment_of certificate.signed.middle.not_before;
    not_after = moment_of certificate.signed.middle.not_after;
    public_key = certificate.signed.middle.spki;
    key_algorithm = sort;
    ci_claims = claims_of (extensions_of certificate);
  })

abbrev pub or_unread : Result Certificate X509Error → Result Certificate Error
or_unread (Ok certificate) = Ok certificate
or_unread (Err e) = Err (InvalidCertificate fault.Der)

-- what a certificate says, or the first refusal
unfoldable pub info_of : List ℕ → Result CertificateInfo Error
info_of der = or_unread (certificate_of der) >>= info_of_parts
