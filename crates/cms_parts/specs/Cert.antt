-- Certificates and what names them.
use Rattle.std.specs.Prelude.{◌≡◌, ◌⊎◌, ℕ, List, refl}
use Rattle.std.proofs.Common.{inl, inr}
use Rattle.der_grammar.specs.Types.{AsnType, sequence_type, explicit_type, any_type, components_as}
use Rattle.der_grammar.specs.Types.{followed_by, required_component, choice_type}
use Rattle.der_grammar.specs.Tags.{constructed_3_tag}
use Rattle.der_core.specs.Oid.{oid_type}
use Rattle.x509_core.specs.Kinds.{name_type, serial_number_type, certificate_type}
use Rattle.cms_parts.specs.declared.cert.OtherCertificateFormat.{OtherCertificateFormat}
use Rattle.cms_parts.specs.declared.cert.IssuerAndSerialNumber.{IssuerAndSerialNumber}
use Rattle.cms_parts.specs.declared.cert.CertificateChoices.{CertificateChoices}
use Rattle.cms_parts.specs.declared.cert.CertificateChoices.TheVariants.{Certificate, Other}

-- SEQUENCE { otherCertFormat OBJECT IDENTIFIER, otherCert ANY } (RFC 5652, 10.2.2)
abbrev pub other_certificate_format_type : AsnType OtherCertificateFormat
other_certificate_format_type =
    sequence_type (components_as (λ x. record { other_cert_format = x.0; other_cert = x.1 }) (λ a. (a.other_cert_format, a.other_cert))
    (followed_by (required_component oid_type)
    (required_component any_type) refl)
    (λ a. refl) (λ b. refl))

-- SEQUENCE { issuer Name, serialNumber INTEGER } (RFC 5652, 10.2.4)
abbrev pub issuer_and_serial_number_type : AsnType IssuerAndSerialNumber
issuer_and_serial_number_type =
    sequence_type (components_as (λ x. record { issuer = x.0; serial_number = x.1 }) (λ a. (a.issuer, a.serial_number))
    (followed_by (required_component name_type)
    (required_component serial_number_type) refl)
    (λ a. refl) (λ b. refl))

-- ---- CHOICE { certificate Certificate, other [3] OtherCertificateFormat } (RFC 5652, 10.2.2), its tag written around the value

abbrev pub to_certificate : List ℕ ⊎ OtherCertificateFormat → CertificateChoices
to_certificate (inl value) = Certificate value
to_certificate (inr value) = Other value

abbrev pub from_certificate : CertificateChoices → List ℕ ⊎ OtherCertificateFormat
from_certificate (Certificate value) = inl value
from_certificate (Other value) = inr value

pub certificate-there : (x : List ℕ ⊎ OtherCertificateFormat) → from_certificate (to_certificate x) ≡ x
certificate-there (inl value) = refl
certificate-there (inr value) = refl

pub certificate-again : (x : CertificateChoices) → to_certificate (from_certificate x) ≡ x
certificate-again (Certificate value) = refl
certificate-again (Other value) = refl

abbrev pub certificate_choices_type : AsnType CertificateChoices
certificate_choices_type =
    choice_type to_certificate from_certificate certificate_type
    (explicit_type constructed_3_tag other_certificate_format_type refl) refl certificate-there certificate-again
