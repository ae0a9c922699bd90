-- Enveloped data.
use Rattle.std.specs.Prelude.{◌≡◌, ◌⊎◌, refl}
use Rattle.std.proofs.Common.{inl, inr}
use Rattle.der_grammar.specs.Types.{AsnType, sequence_type, set_of_type, implicit_type, components_as}
use Rattle.der_grammar.specs.Types.{followed_by, required_component, optional_component, choice_type}
use Rattle.der_grammar.specs.Tags.{sequence_tag, set_tag, constructed_0_tag, constructed_3_tag}
use Rattle.x509_core.specs.Types.{attribute_type}
use Rattle.cms_parts.specs.Tags.{constructed_1_tag, constructed_2_tag, constructed_4_tag}
use Rattle.cms_parts.specs.Mapped.{mapped_type}
use Rattle.cms_parts.specs.Versions.{version_type}
use Rattle.cms_parts.specs.Revocation.{revocation_info_choices_type}
use Rattle.cms_parts.specs.SignedData.{certificate_set_type}
use Rattle.cms_envelope.specs.EncryptedContent.{encrypted_content_info_type}
use Rattle.cms_envelope.specs.KeyTransport.{key_trans_recipient_info_type}
use Rattle.cms_envelope.specs.KeyAgreement.{key_agree_recipient_info_type}
use Rattle.cms_envelope.specs.KeyEncryption.{kek_recipient_info_type, password_recipient_info_type, other_recipient_info_type}
use Rattle.cms_envelope.specs.declared.key_transport.KeyTransRecipientInfo.{KeyTransRecipientInfo}
use Rattle.cms_envelope.specs.declared.key_agreement.KeyAgreeRecipientInfo.{KeyAgreeRecipientInfo}
use Rattle.cms_envelope.specs.declared.key_encryption.KekRecipientInfo.{KekRecipientInfo}
use Rattle.cms_envelope.specs.declared.key_encryption.PasswordRecipientInfo.{PasswordRecipientInfo}
use Rattle.cms_envelope.specs.declared.key_encryption.OtherRecipientInfo.{OtherRecipientInfo}
use Rattle.cms_envelope.specs.declared.enveloped_data.RecipientInfo.{RecipientInfo}
use Rattle.cms_envelope.specs.declared.enveloped_data.RecipientInfo.TheVariants.{Ktri, Kari, Kekri, Pwri, Ori}
use Rattle.cms_envelope.specs.declared.enveloped_data.RecipientInfos.{RecipientInfos}
use Rattle.cms_envelope.specs.declared.enveloped_data.OriginatorInfo.{OriginatorInfo}
use Rattle.cms_envelope.specs.declared.enveloped_data.EnvelopedData.{EnvelopedData}

-- ---- CHOICE { ktri KeyTransRecipientInfo, kari [1] IMPLICIT KeyAgreeRecipientInfo, kekri [2] IMPLICIT KEKRecipientInfo,
-- pwri [3] IMPLICIT PasswordRecipientInfo, ori [4] IMPLICIT OtherRecipientInfo } (RFC 5652, 6.2)

abbrev pub to_recipient : KeyTransRecipientInfo ⊎ (KeyAgreeRecipientInfo ⊎ (KekRecipientInfo ⊎ (PasswordRecipientInfo ⊎ OtherRecipientInfo)))
    → RecipientInfo
to_recipient (inl value) = Ktri value
to_recipient (inr (inl value)) = Kari value
to_recipient (inr (inr (inl value))) = Kekri value
to_recipient (inr (inr (inr (inl value)))) = Pwri value
to_recipient (inr (inr (inr (inr value)))) = Ori value

abbrev pub from_recipient : RecipientInfo
    → KeyTransRecipientInfo ⊎ (KeyAgreeRecipientInfo ⊎ (KekRecipientInfo ⊎ (PasswordRecipientInfo ⊎ OtherRecipientInfo)))
from_recipient (Ktri value) = inl value
from_recipient (Kari value) = inr (inl value)
from_recipient (Kekri value) = inr (inr (inl value))
from_recipient (Pwri value) = inr (inr (inr (inl value)))
from_recipient (Ori value) = inr (inr (inr (inr value)))

pub recipient-there : (x : KeyTransRecipientInfo ⊎ (KeyAgreeRecipientInfo ⊎ (KekRecipientInfo ⊎ (PasswordRecipientInfo ⊎ OtherRecipientInfo))))
    → from_recipient (to_recipient x) ≡ x
recipient-there (inl value) = refl
recipient-there (inr (inl value)) = refl
recipient-there (inr (inr (inl value))) = refl
recipient-there (inr (inr (inr (inl value)))) = refl
recipient-there (inr (inr (inr (inr value)))) = refl

pub recipient-again : (x : RecipientInfo) → to_recipient (from_recipient x) ≡ x
recipient-again (Ktri value) = refl
recipient-again (Kari value) = refl
recipient-again (Kekri value) = refl
recipient-again (Pwri value) = refl
recipient-again (Ori value) = refl

abbrev pub recipient_info_type : AsnType RecipientInfo
recipient_info_type =
    choice_type to_recipient from_recipient key_trans_recipient_info_type
    (choice_type (λ x. x) (λ x. x)
    (implicit_type constructed_1_tag sequence_tag key_agree_recipient_info_type refl refl (λ a. refl))
    (choice_type (λ x. x) (λ x. x)
    (implicit_type constructed_2_tag sequence_tag kek_recipient_info_type refl refl (λ a. refl))
    (choice_type (λ x. x) (λ x. x)
    (implicit_type constructed_3_tag sequence_tag password_recipient_info_type refl refl (λ a. refl))
    (implicit_type constructed_4_tag sequence_tag other_recipient_info_type refl refl (λ a. refl))
    refl (λ x. refl) (λ x. refl)) refl (λ x. refl) (λ x. refl)) refl (λ x. refl) (λ x. refl))
    refl recipient-there recipient-again

-- SET OF RecipientInfo (RFC 5652, 6.1)
abbrev pub recipient_infos_type : AsnType RecipientInfos
recipient_infos_type = mapped_type (λ x. record { 0 = x }) (λ s. s.0) (set_of_type recipient_info_type) (λ a. refl) (λ b. refl)

-- SEQUENCE { certs [0] IMPLICIT CertificateSet OPTIONAL, crls [1] IMPLICIT RevocationInfoChoices OPTIONAL } (RFC 5652, 6.1)
abbrev pub originator_info_type : AsnType OriginatorInfo
originator_info_type =
    sequence_type (components_as (λ x. record { certs = x.0; crls = x.1 }) (λ a. (a.certs, a.crls))
    (followed_by (optional_component (implicit_type constructed_0_tag set_tag certificate_set_type refl refl (λ a. refl)))
    (optional_component (implicit_type constructed_1_tag set_tag revocation_info_choices_type refl refl (λ a. refl))) refl)
    (λ a. refl) (λ b. refl))

-- SEQUENCE { version CMSVersion, originatorInfo [0] IMPLICIT OriginatorInfo OPTIONAL, recipientInfos SET OF RecipientInfo,
-- encryptedContentInfo EncryptedContentInfo, unprotectedAttrs [1] IMPLICIT SET OF Attribute OPTIONAL } (RFC 5652, 6.1)
abbrev pub enveloped_data_type : AsnType EnvelopedData
enveloped_data_type =
    sequence_type (components_as (λ x. record {
      version = x.0;
      originator_info = x.1.0;
      recip_infos = x.1.1.0;
      encrypted_content = x.1.1.1.0;
      unprotected_attrs = x.1.1.1.1;
    }) (λ a. (a.version, (a.originator_info, (a.recip_infos, (a.encrypted_content, a.unprotected_attrs)))))
    (followed_by (required_component version_type)
    (followed_by (optional_component (implicit_type constructed_0_tag sequence_tag originator_info_type refl refl (λ a. refl)))
    (followed_by (required_component recipient_infos_type)
    (followed_by (required_component encrypted_content_info_type)
    (optional_component (implicit_type constructed_1_tag set_tag (set_of_type attribute_type) refl refl (λ a. refl))) refl) refl) refl) refl)
    (λ a. refl) (λ b. refl))
