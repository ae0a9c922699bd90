-- Signed data.
use Rattle.std.specs.Prelude.{refl}
use Rattle.der_grammar.specs.Types.{AsnType, sequence_type, set_of_type, implicit_type, explicit_type, any_type, components_as}
use Rattle.der_grammar.specs.Types.{followed_by, required_component, optional_component}
use Rattle.der_grammar.specs.Tags.{set_tag, constructed_0_tag}
use Rattle.der_core.specs.Oid.{oid_type}
use Rattle.x509_core.specs.Types.{algorithm_type}
use Rattle.cms_parts.specs.Tags.{constructed_1_tag}
use Rattle.cms_parts.specs.Cert.{certificate_choices_type}
use Rattle.cms_parts.specs.Revocation.{revocation_info_choices_type}
use Rattle.cms_parts.specs.Versions.{version_type}
use Rattle.cms_parts.specs.Mapped.{mapped_type}
use Rattle.cms_parts.specs.SignerInfo.{signer_info_type}
use Rattle.cms_parts.specs.declared.signed_data.CertificateSet.{CertificateSet}
use Rattle.cms_parts.specs.declared.signed_data.SignerInfos.{SignerInfos}
use Rattle.cms_parts.specs.declared.signed_data.EncapsulatedContentInfo.{EncapsulatedContentInfo}
use Rattle.cms_parts.specs.declared.signed_data.SignedData.{SignedData}

-- SEQUENCE { eContentType OBJECT IDENTIFIER, eContent [0] EXPLICIT ANY OPTIONAL } (RFC 5652, 5.2, the content of any type)
abbrev pub encapsulated_content_info_type : AsnType EncapsulatedContentInfo
encapsulated_content_info_type =
    sequence_type (components_as (λ x. record { econtent_type = x.0; econtent = x.1 }) (λ a. (a.econtent_type, a.econtent))
    (followed_by (required_component oid_type)
    (optional_component (explicit_type constructed_0_tag any_type refl)) refl)
    (λ a. refl) (λ b. refl))

-- SET OF CertificateChoices (RFC 5652, 10.2.3)
abbrev pub certificate_set_type : AsnType CertificateSet
certificate_set_type = mapped_type (λ x. record { 0 = x }) (λ s. s.0) (set_of_type certificate_choices_type) (λ a. refl) (λ b. refl)

-- SET OF SignerInfo (RFC 5652, 5.1)
abbrev pub signer_infos_type : AsnType SignerInfos
signer_infos_type = mapped_type (λ x. record { 0 = x }) (λ s. s.0) (set_of_type signer_info_type) (λ a. refl) (λ b. refl)

-- SEQUENCE { version CMSVersion, digestAlgorithms SET OF AlgorithmIdentifier, encapContentInfo EncapsulatedContentInfo,
-- certificates [0] IMPLICIT CertificateSet OPTIONAL, crls [1] IMPLICIT RevocationInfoChoices OPTIONAL, signerInfos SET OF SignerInfo } (RFC 5652, 5.1)
abbrev pub signed_data_type : AsnType SignedData
signed_data_type =
    sequence_type (components_as (λ x. record {
      version = x.0;
      digest_algorithms = x.1.0;
      encap_content_info = x.1.1.0;
      certificates = x.1.1.1.0;
      crls = x.1.1.1.1.0;
      signer_infos = x.1.1.1.1.1;
    }) (λ a. (a.version, (a.digest_algorithms, (a.encap_content_info, (a.certificates, (a.crls, a.signer_infos))))))
    (followed_by (required_component version_type)
    (followed_by (required_component (set_of_type algorithm_type))
    (followed_by (required_component encapsulated_content_info_type)
    (followed_by (optional_component (implicit_type constructed_0_tag set_tag certificate_set_type refl refl (λ a. refl)))
    (followed_by (optional_component (implicit_type constructed_1_tag set_tag revocation_info_choices_type refl refl (λ a. refl)))
    (required_component signer_infos_type) refl) refl) refl) refl) refl)
    (λ a. refl) (λ b. refl))
