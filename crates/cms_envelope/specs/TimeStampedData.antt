-- Time-stamped data.
use Rattle.std.specs.Prelude.{◌≡◌, ◌⊎◌, List, refl}
use Rattle.std.proofs.Common.{inl, inr}
use Rattle.der_grammar.specs.Types.{AsnType, sequence_type, sequence_of_type, set_of_type, explicit_type, any_type, components_as}
use Rattle.der_grammar.specs.Types.{followed_by, required_component, optional_component, choice_type}
use Rattle.der_grammar.specs.Octets.{octet_string_type}
use Rattle.der_grammar.specs.Booleans.{boolean_type}
use Rattle.der_grammar.specs.Tags.{constructed_0_tag}
use Rattle.der_core.specs.Oid.{oid_type}
use Rattle.der_core.specs.Strings.{ia5_type, utf8_type}
use Rattle.x509_core.specs.Kinds.{certificate_list_type}
use Rattle.x509_core.specs.Types.{attribute_type}
use Rattle.cms_parts.specs.Tags.{constructed_1_tag, constructed_2_tag}
use Rattle.cms_parts.specs.ContentInfo.{content_info_type}
use Rattle.cms_envelope.specs.TsdVersion.{tsd_version_type}
use Rattle.cms_envelope.specs.EvidenceRecord.{evidence_record_type}
use Rattle.cms_envelope.specs.declared.evidence_record.EvidenceRecord.{EvidenceRecord}
use Rattle.cms_envelope.specs.declared.timestamped_data.MetaData.{MetaData}
use Rattle.cms_envelope.specs.declared.timestamped_data.TimeStampAndCrl.{TimeStampAndCrl}
use Rattle.cms_envelope.specs.declared.timestamped_data.OtherEvidence.{OtherEvidence}
use Rattle.cms_envelope.specs.declared.timestamped_data.Evidence.{Evidence}
use Rattle.cms_envelope.specs.declared.timestamped_data.Evidence.TheVariants as named
use Rattle.cms_envelope.specs.declared.timestamped_data.TimeStampedData.{TimeStampedData}

-- SEQUENCE { hashProtected BOOLEAN, fileName UTF8String OPTIONAL, mediaType IA5String OPTIONAL, otherMetaData SET OF Attribute OPTIONAL }
-- (RFC 5544, 2)
abbrev pub meta_data_type : AsnType MetaData
meta_data_type =
    sequence_type (components_as (λ x. record {
      hash_protected = x.0;
      file_name = x.1.0;
      media_type = x.1.1.0;
      other_meta_data = x.1.1.1;
    }) (λ a. (a.hash_protected, (a.file_name, (a.media_type, a.other_meta_data))))
    (followed_by (required_component boolean_type)
    (followed_by (optional_component utf8_type)
    (followed_by (optional_component ia5_type)
    (optional_component (set_of_type attribute_type)) refl) refl) refl)
    (λ a. refl) (λ b. refl))

-- SEQUENCE { timeStamp ContentInfo, crl CertificateList OPTIONAL } (RFC 5544, 2)
abbrev pub time_stamp_and_crl_type : AsnType TimeStampAndCrl
time_stamp_and_crl_type =
    sequence_type (components_as (λ x. record { time_stamp = x.0; crl = x.1 }) (λ a. (a.time_stamp, a.crl))
    (followed_by (required_component content_info_type)
    (optional_component certificate_list_type) refl)
    (λ a. refl) (λ b. refl))

-- SEQUENCE { oeType OBJECT IDENTIFIER, oeValue ANY } (RFC 5544, 2)
abbrev pub other_evidence_type : AsnType OtherEvidence
other_evidence_type =
    sequence_type (components_as (λ x. record { oe_type = x.0; oe_value = x.1 }) (λ a. (a.oe_type, a.oe_value))
    (followed_by (required_component oid_type)
    (required_component any_type) refl)
    (λ a. refl) (λ b. refl))

-- ---- CHOICE { tstEvidence [0] SEQUENCE OF TimeStampAndCRL, ersEvidence [1] EvidenceRecord, otherEvidence [2] OtherEvidence }
-- (RFC 5544, 2, the tags explicit)

abbrev pub to_evidence : List TimeStampAndCrl ⊎ (EvidenceRecord ⊎ OtherEvidence) → Evidence
to_evidence (inl value) = named.TstEvidence value
to_evidence (inr (inl value)) = named.ErsEvidence value
to_evidence (inr (inr value)) = named.OtherEvidence value

abbrev pub from_evidence : Evidence → List TimeStampAndCrl ⊎ (EvidenceRecord ⊎ OtherEvidence)
from_evidence (named.TstEvidence value) = inl value
from_evidence (named.ErsEvidence value) = inr (inl value)
from_evidence (named.OtherEvidence value) = inr (inr value)

pub evidence-there : (x : List TimeStampAndCrl ⊎ (EvidenceRecord ⊎ OtherEvidence)) → from_evidence (to_evidence x) ≡ x
evidence-there (inl value) = refl
evidence-there (inr (inl value)) = refl
evidence-there (inr (inr value)) = refl

pub evidence-again : (x : Evidence) → to_evidence (from_evidence x) ≡ x
evidence-again (named.TstEvidence value) = refl
evidence-again (named.ErsEvidence value) = refl
evidence-again (named.OtherEvidence value) = refl

abbrev pub evidence_type : AsnType Evidence
evidence_type =
    choice_type to_evidence from_evidence (explicit_type constructed_0_tag (sequence_of_type time_stamp_and_crl_type) refl)
    (choice_type (λ x. x) (λ x. x)
    (explicit_type constructed_1_tag evidence_record_type refl)
    (explicit_type constructed_2_tag other_evidence_type refl)
    refl (λ x. refl) (λ x. refl))
    refl evidence-there evidence-again

-- SEQUENCE { version INTEGER 1, dataUri IA5String OPTIONAL, metaData MetaData OPTIONAL, content OCTET STRING OPTIONAL,
-- temporalEvidence Evidence } (RFC 5544, 2)
abbrev pub time_stamped_data_type : AsnType TimeStampedData
time_stamped_data_type =
    sequence_type (components_as (λ x. record {
      version = x.0;
      data_uri = x.1.0;
      meta_data = x.1.1.0;
      content = x.1.1.1.0;
      temporal_evidence = x.1.1.1.1;
    }) (λ a. (a.version, (a.data_uri, (a.meta_data, (a.content, a.temporal_evidence)))))
    (followed_by (required_component tsd_version_type)
    (followed_by (optional_component ia5_type)
    (followed_by (optional_component meta_data_type)
    (followed_by (optional_component octet_string_type)
    (required_component evidence_type) refl) refl) refl) refl)
    (λ a. refl) (λ b. refl))
