-- Recipients by key agreement.
use Rattle.std.specs.Prelude.{◌≡◌, ◌⊎◌, ℕ, List, refl}
use Rattle.std.proofs.Common.{inl, inr}
use Rattle.der_grammar.specs.Types.{AsnType, sequence_type, sequence_of_type, implicit_type, explicit_type, components_as}
use Rattle.der_grammar.specs.Types.{followed_by, required_component, optional_component, choice_type}
use Rattle.der_grammar.specs.Octets.{octet_string_type}
use Rattle.der_grammar.specs.Tags.{octet_string_tag, sequence_tag, constructed_0_tag}
use Rattle.der_core.specs.Strings.{bit_string_type}
use Rattle.der_core.specs.Times.{generalized_time_type}
use Rattle.x509_core.specs.Kinds.{subject_key_identifier_type}
use Rattle.x509_core.specs.Types.{algorithm_type, attribute_type}
use Rattle.cms_parts.specs.Tags.{primitive_0_tag, constructed_1_tag}
use Rattle.cms_parts.specs.Versions.{version_type}
use Rattle.cms_parts.specs.Cert.{issuer_and_serial_number_type}
use Rattle.cms_parts.specs.declared.cert.IssuerAndSerialNumber.{IssuerAndSerialNumber}
use Rattle.cms_envelope.specs.declared.key_agreement.OriginatorPublicKey.{OriginatorPublicKey}
use Rattle.cms_envelope.specs.declared.key_agreement.OriginatorIdentifierOrKey.{OriginatorIdentifierOrKey}
use Rattle.cms_envelope.specs.declared.key_agreement.OriginatorIdentifierOrKey.TheVariants as named
use Rattle.cms_envelope.specs.declared.key_agreement.RecipientKeyIdentifier.{RecipientKeyIdentifier}
use Rattle.cms_envelope.specs.declared.key_agreement.KeyAgreeRecipientIdentifier.{KeyAgreeRecipientIdentifier}
use Rattle.cms_envelope.specs.declared.key_agreement.KeyAgreeRecipientIdentifier.TheVariants as agreeing
use Rattle.cms_envelope.specs.declared.key_agreement.RecipientEncryptedKey.{RecipientEncryptedKey}
use Rattle.cms_envelope.specs.declared.key_agreement.KeyAgreeRecipientInfo.{KeyAgreeRecipientInfo}

-- SEQUENCE { algorithm AlgorithmIdentifier, publicKey BIT STRING } (RFC 5652, 6.2.2)
abbrev pub originator_public_key_type : AsnType OriginatorPublicKey
originator_public_key_type =
    sequence_type (components_as (λ x. record { algorithm = x.0; public_key = x.1 }) (λ a. (a.algorithm, a.public_key))
    (followed_by (required_component algorithm_type)
    (required_component bit_string_type) refl)
    (λ a. refl) (λ b. refl))

-- ---- CHOICE { issuerAndSerialNumber IssuerAndSerialNumber, subjectKeyIdentifier [0] IMPLICIT OCTET STRING,
-- originatorKey [1] IMPLICIT OriginatorPublicKey } (RFC 5652, 6.2.2)

abbrev pub to_originator : IssuerAndSerialNumber ⊎ (List ℕ ⊎ OriginatorPublicKey) → OriginatorIdentifierOrKey
to_originator (inl value) = named.IssuerAndSerialNumber value
to_originator (inr (inl value)) = named.SubjectKeyIdentifier value
to_originator (inr (inr value)) = named.OriginatorKey value

abbrev pub from_originator : OriginatorIdentifierOrKey → IssuerAndSerialNumber ⊎ (List ℕ ⊎ OriginatorPublicKey)
from_originator (named.IssuerAndSerialNumber value) = inl value
from_originator (named.SubjectKeyIdentifier value) = inr (inl value)
from_originator (named.OriginatorKey value) = inr (inr value)

pub originator-there : (x : IssuerAndSerialNumber ⊎ (List ℕ ⊎ OriginatorPublicKey)) → from_originator (to_originator x) ≡ x
originator-there (inl value) = refl
originator-there (inr (inl value)) = refl
originator-there (inr (inr value)) = refl

pub originator-again : (x : OriginatorIdentifierOrKey) → to_originator (from_originator x) ≡ x
originator-again (named.IssuerAndSerialNumber value) = refl
originator-again (named.SubjectKeyIdentifier value) = refl
originator-again (named.OriginatorKey value) = refl

abbrev pub originator_identifier_or_key_type : AsnType OriginatorIdentifierOrKey
originator_identifier_or_key_type =
    choice_type to_originator from_originator issuer_and_serial_number_type
    (choice_type (λ x. x) (λ x. x)
    (implicit_type primitive_0_tag octet_string_tag subject_key_identifier_type refl refl (λ a. refl))
    (implicit_type constructed_1_tag sequence_tag originator_public_key_type refl refl (λ a. refl))
    refl (λ x. refl) (λ x. refl))
    refl originator-there originator-again

-- SEQUENCE { subjectKeyIdentifier OCTET STRING, date GeneralizedTime OPTIONAL, other Attribute OPTIONAL } (RFC 5652, 6.2.2, other as an Attribute)
abbrev pub recipient_key_identifier_type : AsnType RecipientKeyIdentifier
recipient_key_identifier_type =
    sequence_type (components_as (λ x. record {
      subject_key_identifier = x.0;
      date = x.1.0;
      other = x.1.1;
    }) (λ a. (a.subject_key_identifier, (a.date, a.other)))
    (followed_by (required_component subject_key_identifier_type)
    (followed_by (optional_component generalized_time_type)
    (optional_component attribute_type) refl) refl)
    (λ a. refl) (λ b. refl))

-- ---- CHOICE { issuerAndSerialNumber IssuerAndSerialNumber, rKeyId [0] IMPLICIT RecipientKeyIdentifier } (RFC 5652, 6.2.2)

abbrev pub to_agreeing : IssuerAndSerialNumber ⊎ RecipientKeyIdentifier → KeyAgreeRecipientIdentifier
to_agreeing (inl value) = agreeing.IssuerAndSerialNumber value
to_agreeing (inr value) = agreeing.RKeyId value

abbrev pub from_agreeing : KeyAgreeRecipientIdentifier → IssuerAndSerialNumber ⊎ RecipientKeyIdentifier
from_agreeing (agreeing.IssuerAndSerialNumber value) = inl value
from_agreeing (agreeing.RKeyId value) = inr value

pub agreeing-there : (x : IssuerAndSerialNumber ⊎ RecipientKeyIdentifier) → from_agreeing (to_agreeing x) ≡ x
agreeing-there (inl value) = refl
agreeing-there (inr value) = refl

pub agreeing-again : (x : KeyAgreeRecipientIdentifier) → to_agreeing (from_agreeing x) ≡ x
agreeing-again (agreeing.IssuerAndSerialNumber value) = refl
agreeing-again (agreeing.RKeyId value) = refl

abbrev pub key_agree_recipient_identifier_type : AsnType KeyAgreeRecipientIdentifier
key_agree_recipient_identifier_type =
    choice_type to_agreeing from_agreeing issuer_and_serial_number_type
    (implicit_type constructed_0_tag sequence_tag recipient_key_identifier_type refl refl (λ a. refl)) refl agreeing-there agreeing-again

-- SEQUENCE { rid KeyAgreeRecipientIdentifier, encryptedKey OCTET STRING } (RFC 5652, 6.2.2)
abbrev pub recipient_encrypted_key_type : AsnType RecipientEncryptedKey
recipient_encrypted_key_type =
    sequence_type (components_as (λ x. record { rid = x.0; enc_key = x.1 }) (λ a. (a.rid, a.enc_key))
    (followed_by (required_component key_agree_recipient_identifier_type)
    (required_component octet_string_type) refl)
    (λ a. refl) (λ b. refl))

-- SEQUENCE { version CMSVersion, originator [0] EXPLICIT OriginatorIdentifierOrKey, ukm [1] EXPLICIT OCTET STRING OPTIONAL,
-- keyEncryptionAlgorithm AlgorithmIdentifier, recipientEncryptedKeys SEQUENCE OF RecipientEncryptedKey } (RFC 5652, 6.2.2)
abbrev pub key_agree_recipient_info_type : AsnType KeyAgreeRecipientInfo
key_agree_recipient_info_type =
    sequence_type (components_as (λ x. record {
      version = x.0;
      originator = x.1.0;
      ukm = x.1.1.0;
      key_enc_alg = x.1.1.1.0;
      recipient_enc_keys = x.1.1.1.1;
    }) (λ a. (a.version, (a.originator, (a.ukm, (a.key_enc_alg, a.recipient_enc_keys)))))
    (followed_by (required_component version_type)
    (followed_by (required_component (explicit_type constructed_0_tag originator_identifier_or_key_type refl))
    (followed_by (optional_component (explicit_type constructed_1_tag octet_string_type refl))
    (followed_by (required_component algorithm_type)
    (required_component (sequence_of_type recipient_encrypted_key_type)) refl) refl) refl) refl)
    (λ a. refl) (λ b. refl))
