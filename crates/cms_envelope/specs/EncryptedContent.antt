-- Encrypted content.
use Rattle.std.specs.Prelude.{refl}
use Rattle.der_grammar.specs.Types.{AsnType, sequence_type, implicit_type, components_as}
use Rattle.der_grammar.specs.Types.{followed_by, required_component, optional_component}
use Rattle.der_grammar.specs.Octets.{octet_string_type}
use Rattle.der_grammar.specs.Tags.{octet_string_tag}
use Rattle.der_core.specs.Oid.{oid_type}
use Rattle.x509_core.specs.Types.{algorithm_type}
use Rattle.cms_parts.specs.Tags.{primitive_0_tag}
use Rattle.cms_envelope.specs.declared.encrypted_content.EncryptedContentInfo.{EncryptedContentInfo}

-- SEQUENCE { contentType OBJECT IDENTIFIER, contentEncryptionAlgorithm AlgorithmIdentifier,
-- encryptedContent [0] IMPLICIT OCTET STRING OPTIONAL } (RFC 5652, 6.1)
abbrev pub encrypted_content_info_type : AsnType EncryptedContentInfo
encrypted_content_info_type =
    sequence_type (components_as (λ x. record {
      content_type = x.0;
      content_enc_alg = x.1.0;
      encrypted_content = x.1.1;
    }) (λ a. (a.content_type, (a.content_enc_alg, a.encrypted_content)))
    (followed_by (required_component oid_type)
    (followed_by (required_component algorithm_type)
    (optional_component (implicit_type primitive_0_tag octet_string_tag octet_string_type refl refl (λ a. refl))) refl) refl)
    (λ a. refl) (λ b. refl))
