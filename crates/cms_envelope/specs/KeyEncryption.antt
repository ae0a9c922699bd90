-- Recipients that share a key or a password, and others.
use Rattle.std.specs.Prelude.{refl}
use Rattle.der_grammar.specs.Types.{AsnType, sequence_type, implicit_type, any_type, components_as}
use Rattle.der_grammar.specs.Types.{followed_by, required_component, optional_component}
use Rattle.der_grammar.specs.Octets.{octet_string_type}
use Rattle.der_grammar.specs.Tags.{sequence_tag, constructed_0_tag}
use Rattle.der_core.specs.Oid.{oid_type}
use Rattle.der_core.specs.Times.{generalized_time_type}
use Rattle.x509_core.specs.Types.{algorithm_type, attribute_type}
use Rattle.cms_parts.specs.Versions.{version_type}
use Rattle.cms_envelope.specs.declared.key_encryption.KekIdentifier.{KekIdentifier}
use Rattle.cms_envelope.specs.declared.key_encryption.KekRecipientInfo.{KekRecipientInfo}
use Rattle.cms_envelope.specs.declared.key_encryption.PasswordRecipientInfo.{PasswordRecipientInfo}
use Rattle.cms_envelope.specs.declared.key_encryption.OtherRecipientInfo.{OtherRecipientInfo}

-- SEQUENCE { keyIdentifier OCTET STRING, date GeneralizedTime OPTIONAL, other Attribute OPTIONAL } (RFC 5652, 6.2.3, other as an Attribute)
abbrev pub kek_identifier_type : AsnType KekIdentifier
kek_identifier_type =
    sequence_type (components_as (λ x. record {
      kek_identifier = x.0;
      date = x.1.0;
      other = x.1.1;
    }) (λ a. (a.kek_identifier, (a.date, a.other)))
    (followed_by (required_component octet_string_type)
    (followed_by (optional_component generalized_time_type)
    (optional_component attribute_type) refl) refl)
    (λ a. refl) (λ b. refl))

-- SEQUENCE { version CMSVersion, kekid KEKIdentifier, keyEncryptionAlgorithm AlgorithmIdentifier, encryptedKey OCTET STRING }
-- (RFC 5652, 6.2.3)
abbrev pub kek_recipient_info_type : AsnType KekRecipientInfo
kek_recipient_info_type =
    sequence_type (components_as (λ x. record {
      version = x.0;
      kek_id = x.1.0;
      key_enc_alg = x.1.1.0;
      encrypted_key = x.1.1.1;
    }) (λ a. (a.version, (a.kek_id, (a.key_enc_alg, a.encrypted_key))))
    (followed_by (required_component version_type)
    (followed_by (required_component kek_identifier_type)
    (followed_by (required_component algorithm_type)
    (required_component octet_string_type) refl) refl) refl)
    (λ a. refl) (λ b. refl))

-- SEQUENCE { version CMSVersion, keyDerivationAlgorithm [0] IMPLICIT AlgorithmIdentifier OPTIONAL,
-- keyEncryptionAlgorithm AlgorithmIdentifier, encryptedKey OCTET STRING } (RFC 5652, 6.2.4)
abbrev pub password_recipient_info_type : AsnType PasswordRecipientInfo
password_recipient_info_type =
    sequence_type (components_as (λ x. record {
      version = x.0;
      key_derivation_alg = x.1.0;
      key_enc_alg = x.1.1.0;
      enc_key = x.1.1.1;
    }) (λ a. (a.version, (a.key_derivation_alg, (a.key_enc_alg, a.enc_key))))
    (followed_by (required_component version_type)
    (followed_by (optional_component (implicit_type constructed_0_tag sequence_tag algorithm_type refl refl (λ a. refl)))
    (followed_by (required_component algorithm_type)
    (required_component octet_string_type) refl) refl) refl)
    (λ a. refl) (λ b. refl))

-- SEQUENCE { oriType OBJECT IDENTIFIER, oriValue ANY } (RFC 5652, 6.2.5)
abbrev pub other_recipient_info_type : AsnType OtherRecipientInfo
other_recipient_info_type =
    sequence_type (components_as (λ x. record { ori_type = x.0; ori_value = x.1 }) (λ a. (a.ori_type, a.ori_value))
    (followed_by (required_component oid_type)
    (required_component any_type) refl)
    (λ a. refl) (λ b. refl))
