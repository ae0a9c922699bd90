-- Authenticated data.
use Rattle.std.specs.Prelude.{Option, ℕ, List, refl}
use Rattle.der_grammar.specs.Types.{AsnType, Components, sequence_type, set_of_type, implicit_type, components_as}
use Rattle.der_grammar.specs.Types.{followed_by, required_component, optional_component}
use Rattle.der_grammar.specs.Octets.{octet_string_type}
use Rattle.der_grammar.specs.Tags.{sequence_tag, set_tag, constructed_0_tag, constructed_3_tag}
use Rattle.x509_core.specs.Types.{algorithm_type, attribute_type}
use Rattle.cms_parts.specs.Tags.{constructed_1_tag, constructed_2_tag}
use Rattle.cms_parts.specs.Versions.{version_type}
use Rattle.cms_parts.specs.SignedData.{encapsulated_content_info_type}
use Rattle.cms_envelope.specs.EnvelopedData.{originator_info_type, recipient_infos_type}
use Rattle.cms_parts.specs.declared.signed_data.EncapsulatedContentInfo.{EncapsulatedContentInfo}
use Rattle.x509_core.specs.declared.attribute.Attribute.{Attribute}
use Rattle.cms_envelope.specs.declared.authenticated_data.AuthenticatedData.{AuthenticatedData}

-- encapContentInfo EncapsulatedContentInfo, authAttrs [2] IMPLICIT SET OF Attribute OPTIONAL, mac OCTET STRING,
-- unauthAttrs [3] IMPLICIT SET OF Attribute OPTIONAL
abbrev pub authenticated_tail : Components (EncapsulatedContentInfo × (Option (List Attribute) × (List ℕ × Option (List Attribute))))
authenticated_tail =
    followed_by (required_component encapsulated_content_info_type)
    (followed_by (optional_component (implicit_type constructed_2_tag set_tag (set_of_type attribute_type) refl refl (λ a. refl)))
    (followed_by (required_component octet_string_type)
    (optional_component (implicit_type constructed_3_tag set_tag (set_of_type attribute_type) refl refl (λ a. refl))) refl) refl) refl

abbrev pub tail_of : AuthenticatedData → EncapsulatedContentInfo × (Option (List Attribute) × (List ℕ × Option (List Attribute)))
tail_of a = (a.encap_content_info, (a.auth_attrs, (a.mac, a.unauth_attrs)))

-- SEQUENCE { version CMSVersion, originatorInfo [0] IMPLICIT OriginatorInfo OPTIONAL, recipientInfos SET OF RecipientInfo,
-- macAlgorithm AlgorithmIdentifier, digestAlgorithm [1] IMPLICIT AlgorithmIdentifier OPTIONAL, and these } (RFC 5652, 9.1)
abbrev pub authenticated_data_type : AsnType AuthenticatedData
authenticated_data_type =
    sequence_type (components_as (λ x. record {
      version = x.0;
      originator_info = x.1.0;
      recip_infos = x.1.1.0;
      mac_alg = x.1.1.1.0;
      digest_alg = x.1.1.1.1.0;
      encap_content_info = x.1.1.1.1.1.0;
      auth_attrs = x.1.1.1.1.1.1.0;
      mac = x.1.1.1.1.1.1.1.0;
      unauth_attrs = x.1.1.1.1.1.1.1.1;
    }) (λ a. (a.version, (a.originator_info, (a.recip_infos, (a.mac_alg, (a.digest_alg, tail_of a))))))
    (followed_by (required_component version_type)
    (followed_by (optional_component (implicit_type constructed_0_tag sequence_tag originator_info_type refl refl (λ a. refl)))
    (followed_by (required_component recipient_infos_type)
    (followed_by (required_component algorithm_type)
    (followed_by (optional_component (implicit_type constructed_1_tag sequence_tag algorithm_type refl refl (λ a. refl)))
    authenticated_tail refl) refl) refl) refl) refl)
    (λ a. refl) (λ b. refl))
