-- Encrypted data.
use Rattle.std.specs.Prelude.{refl}
use Rattle.der_grammar.specs.Types.{AsnType, sequence_type, set_of_type, implicit_type, components_as}
use Rattle.der_grammar.specs.Types.{followed_by, required_component, optional_component}
use Rattle.der_grammar.specs.Tags.{set_tag}
use Rattle.x509_core.specs.Types.{attribute_type}
use Rattle.cms_parts.specs.Tags.{constructed_1_tag}
use Rattle.cms_parts.specs.Versions.{version_type}
use Rattle.cms_envelope.specs.EncryptedContent.{encrypted_content_info_type}
use Rattle.cms_envelope.specs.declared.encrypted_data.EncryptedData.{EncryptedData}

-- SEQUENCE { version CMSVersion, encryptedContentInfo EncryptedContentInfo, unprotectedAttrs [1] IMPLICIT SET OF Attribute OPTIONAL }
-- (RFC 5652, 8)
abbrev pub encrypted_data_type : AsnType EncryptedData
encrypted_data_type =
    sequence_type (components_as (λ x. record {
      version = x.0;
      enc_content_info = x.1.0;
      unprotected_attrs = x.1.1;
    }) (λ a. (a.version, (a.enc_content_info, a.unprotected_attrs)))
    (followed_by (required_component version_type)
    (followed_by (required_component encrypted_content_info_type)
    (optional_component (implicit_type constructed_1_tag set_tag (set_of_type attribute_type) refl refl (λ a. refl))) refl) refl)
    (λ a. refl) (λ b. refl))
