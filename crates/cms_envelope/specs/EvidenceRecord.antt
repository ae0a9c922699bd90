-- Evidence records.
use Rattle.std.specs.Prelude.{refl}
use Rattle.der_grammar.specs.Types.{AsnType, sequence_type, sequence_of_type, set_of_type, explicit_type, any_type, components_as}
use Rattle.der_grammar.specs.Types.{followed_by, required_component, optional_component}
use Rattle.der_grammar.specs.Octets.{octet_string_type}
use Rattle.der_grammar.specs.Tags.{constructed_0_tag}
use Rattle.der_core.specs.Oid.{oid_type}
use Rattle.x509_core.specs.Types.{algorithm_type, attribute_type}
use Rattle.cms_parts.specs.Tags.{constructed_1_tag, constructed_2_tag}
use Rattle.cms_parts.specs.ContentInfo.{content_info_type}
use Rattle.cms_envelope.specs.TsdVersion.{tsd_version_type}
use Rattle.cms_envelope.specs.declared.evidence_record.EncryptionInfo.{EncryptionInfo}
use Rattle.cms_envelope.specs.declared.evidence_record.ArchiveTimeStamp.{ArchiveTimeStamp}
use Rattle.cms_envelope.specs.declared.evidence_record.EvidenceRecord.{EvidenceRecord}

-- SEQUENCE { encryptionInfoType OBJECT IDENTIFIER, encryptionInfoValue ANY } (RFC 4998, 3.1)
abbrev pub encryption_info_type : AsnType EncryptionInfo
encryption_info_type =
    sequence_type (components_as (λ x. record {
      encryption_info_type = x.0;
      encryption_info_value = x.1;
    }) (λ a. (a.encryption_info_type, a.encryption_info_value))
    (followed_by (required_component oid_type)
    (required_component any_type) refl)
    (λ a. refl) (λ b. refl))

-- SEQUENCE { digestAlgorithm [0] AlgorithmIdentifier OPTIONAL, attributes [1] Attributes OPTIONAL,
-- reducedHashtree [2] SEQUENCE OF SEQUENCE OF OCTET STRING OPTIONAL, timeStamp ContentInfo } (RFC 4998, 4.1, the tags explicit)
abbrev pub archive_time_stamp_type : AsnType ArchiveTimeStamp
archive_time_stamp_type =
    sequence_type (components_as (λ x. record {
      digest_algorithm = x.0;
      attributes = x.1.0;
      reduced_hashtree = x.1.1.0;
      time_stamp = x.1.1.1;
    }) (λ a. (a.digest_algorithm, (a.attributes, (a.reduced_hashtree, a.time_stamp))))
    (followed_by (optional_component (explicit_type constructed_0_tag algorithm_type refl))
    (followed_by (optional_component (explicit_type constructed_1_tag (set_of_type attribute_type) refl))
    (followed_by (optional_component (explicit_type constructed_2_tag (sequence_of_type (sequence_of_type octet_string_type)) refl))
    (required_component content_info_type) refl) refl) refl)
    (λ a. refl) (λ b. refl))

-- SEQUENCE { version INTEGER 1, digestAlgorithms SEQUENCE OF AlgorithmIdentifier, cryptoInfos [0] SEQUENCE OF Attribute OPTIONAL,
-- encryptionInfo [1] EncryptionInfo OPTIONAL, archiveTimeStampSequence SEQUENCE OF SEQUENCE OF ArchiveTimeStamp }
-- (RFC 4998, 3.1, the tags explicit)
abbrev pub evidence_record_type : AsnType EvidenceRecord
evidence_record_type =
    sequence_type (components_as (λ x. record {
      version = x.0;
      digest_algorithm = x.1.0;
      crypto_infos = x.1.1.0;
      encryption_info = x.1.1.1.0;
      archive_timestamp_sequence = x.1.1.1.1;
    }) (λ a. (a.version, (a.digest_algorithm, (a.crypto_infos, (a.encryption_info, a.archive_timestamp_sequence)))))
    (followed_by (required_component tsd_version_type)
    (followed_by (required_component (sequence_of_type algorithm_type))
    (followed_by (optional_component (explicit_type constructed_0_tag (sequence_of_type attribute_type) refl))
    (followed_by (optional_component (explicit_type constructed_1_tag encryption_info_type refl))
    (required_component (sequence_of_type (sequence_of_type archive_time_stamp_type))) refl) refl) refl) refl)
    (λ a. refl) (λ b. refl))
