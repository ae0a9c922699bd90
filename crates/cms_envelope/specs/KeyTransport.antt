-- Recipients by key transport.
use Rattle.std.specs.Prelude.{◌≡◌, ◌⊎◌, ℕ, List, refl}
use Rattle.std.proofs.Common.{inl, inr}
use Rattle.der_grammar.specs.Types.{AsnType, sequence_type, implicit_type, components_as}
use Rattle.der_grammar.specs.Types.{followed_by, required_component, choice_type}
use Rattle.der_grammar.specs.Octets.{octet_string_type}
use Rattle.der_grammar.specs.Tags.{octet_string_tag}
use Rattle.x509_core.specs.Kinds.{subject_key_identifier_type}
use Rattle.x509_core.specs.Types.{algorithm_type}
use Rattle.cms_parts.specs.Tags.{primitive_0_tag}
use Rattle.cms_parts.specs.Versions.{version_type}
use Rattle.cms_parts.specs.Cert.{issuer_and_serial_number_type}
use Rattle.cms_parts.specs.declared.cert.IssuerAndSerialNumber.{IssuerAndSerialNumber}
use Rattle.cms_envelope.specs.declared.key_transport.RecipientIdentifier.{RecipientIdentifier}
use Rattle.cms_envelope.specs.declared.key_transport.RecipientIdentifier.TheVariants as named
use Rattle.cms_envelope.specs.declared.key_transport.KeyTransRecipientInfo.{KeyTransRecipientInfo}

-- ---- CHOICE { issuerAndSerialNumber IssuerAndSerialNumber, subjectKeyIdentifier [0] IMPLICIT OCTET STRING } (RFC 5652, 6.2.1)

abbrev pub to_recipient : IssuerAndSerialNumber ⊎ List ℕ → RecipientIdentifier
to_recipient (inl value) = named.IssuerAndSerialNumber value
to_recipient (inr value) = named.SubjectKeyIdentifier value

abbrev pub from_recipient : RecipientIdentifier → IssuerAndSerialNumber ⊎ List ℕ
from_recipient (named.IssuerAndSerialNumber value) = inl value
from_recipient (named.SubjectKeyIdentifier value) = inr value

pub recipient-there : (x : IssuerAndSerialNumber ⊎ List ℕ) → from_recipient (to_recipient x) ≡ x
recipient-there (inl value) = refl
recipient-there (inr value) = refl

pub recipient-again : (x : RecipientIdentifier) → to_recipient (from_recipient x) ≡ x
recipient-again (named.IssuerAndSerialNumber value) = refl
recipient-again (named.SubjectKeyIdentifier value) = refl

abbrev pub recipient_identifier_type : AsnType RecipientIdentifier
recipient_identifier_type =
    choice_type to_recipient from_recipient issuer_and_serial_number_type
    (implicit_type primitive_0_tag octet_string_tag subject_key_identifier_type refl refl (λ a. refl)) refl recipient-there recipient-again

-- SEQUENCE { version CMSVersion, rid RecipientIdentifier, keyEncryptionAlgorithm AlgorithmIdentifier, encryptedKey OCTET STRING }
-- (RFC 5652, 6.2.1)
abbrev pub key_trans_recipient_info_type : AsnType KeyTransRecipientInfo
key_trans_recipient_info_type =
    sequence_type (components_as (λ x. record {
      version = x.0;
      rid = x.1.0;
      key_enc_alg = x.1.1.0;
      enc_key = x.1.1.1;
    }) (λ a. (a.version, (a.rid, (a.key_enc_alg, a.enc_key))))
    (followed_by (required_component version_type)
    (followed_by (required_component recipient_identifier_type)
    (followed_by (required_component algorithm_type)
    (required_component octet_string_type) refl) refl) refl)
    (λ a. refl) (λ b. refl))
