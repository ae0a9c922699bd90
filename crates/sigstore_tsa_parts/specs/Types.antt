-- What each type of the Time-Stamp Protocol looks like in DER (RFC 3161).
use Rattle.std.specs.Prelude.{ℕ, Bool, List, Option, refl}
use Rattle.der_grammar.specs.Types.{AsnType, Components, sequence_type, sequence_of_type, implicit_type, explicit_type, any_type, components_as}
use Rattle.der_grammar.specs.Types.{followed_by, required_component, optional_component}
use Rattle.der_grammar.specs.Booleans.{false_by_default}
use Rattle.der_grammar.specs.Octets.{octet_string_type}
use Rattle.der_grammar.specs.Tags.{constructed_0_tag, primitive_1_tag, integer_tag, sequence_tag}
use Rattle.der_core.specs.Oid.{oid_type}
use Rattle.der_core.specs.Strings.{int_type, bit_string_type, utf8_type}
use Rattle.der_core.specs.Times.{generalized_time_type}
use Rattle.der_numbers.specs.Numbers.{number_type}
use Rattle.x509_core.specs.Types.{extension_type, general_name_type}
use Rattle.x509_core.specs.declared.extension.Extension.{Extension}
use Rattle.x509_core.specs.declared.general_name.GeneralName.{GeneralName}
use Rattle.cms_parts.specs.Tags.{primitive_0_tag, constructed_1_tag}
use Rattle.sigstore_tsa_parts.specs.declared.accuracy.Accuracy.{Accuracy}
use Rattle.sigstore_tsa_parts.specs.declared.algorithm.AlgorithmIdentifier.{AlgorithmIdentifier}
use Rattle.sigstore_tsa_parts.specs.declared.imprint.Asn1MessageImprint.{Asn1MessageImprint}
use Rattle.sigstore_tsa_parts.specs.declared.request.TimeStampReq.{TimeStampReq}
use Rattle.sigstore_tsa_parts.specs.declared.response.PkiStatusInfo.{PkiStatusInfo}
use Rattle.sigstore_tsa_parts.specs.declared.response.TimeStampResp.{TimeStampResp}
use Rattle.sigstore_tsa_parts.specs.declared.tst_info.TstInfo.{TstInfo}

-- SEQUENCE { algorithm OBJECT IDENTIFIER, parameters ANY OPTIONAL } (RFC 5280, 4.1.1.2)
abbrev pub algorithm_identifier_type : AsnType AlgorithmIdentifier
algorithm_identifier_type =
    sequence_type (components_as (λ x. record { algorithm = x.0; parameters = x.1 }) (λ a. (a.algorithm, a.parameters))
    (followed_by (required_component oid_type) (optional_component any_type) refl) (λ a. refl) (λ b. refl))

-- SEQUENCE { hashAlgorithm AlgorithmIdentifier, hashedMessage OCTET STRING } (2.4.1)
abbrev pub message_imprint_type : AsnType Asn1MessageImprint
message_imprint_type =
    sequence_type (components_as (λ x. record { hash_algorithm = x.0; hashed_message = x.1 }) (λ a. (a.hash_algorithm, a.hashed_message))
    (followed_by (required_component algorithm_identifier_type) (required_component octet_string_type) refl) (λ a. refl) (λ b. refl))

-- reqPolicy OBJECT IDENTIFIER OPTIONAL, nonce INTEGER OPTIONAL, certReq BOOLEAN DEFAULT FALSE
abbrev pub time_stamp_req_tail : Components (Option (List ℕ) × (Option (List ℕ) × Bool))
time_stamp_req_tail =
    followed_by (optional_component oid_type) (followed_by (optional_component int_type) false_by_default refl) refl

-- SEQUENCE { version INTEGER, messageImprint MessageImprint, and these } (2.4.1), the version an octet
abbrev pub time_stamp_req_type : AsnType TimeStampReq
time_stamp_req_type =
    sequence_type (components_as (λ x. record {
      version = x.0;
      message_imprint = x.1.0;
      req_policy = x.1.1.0;
      nonce = x.1.1.1.0;
      cert_req = x.1.1.1.1;
    }) (λ a. (a.version, (a.message_imprint, (a.req_policy, (a.nonce, a.cert_req)))))
    (followed_by (required_component (number_type 255))
    (followed_by (required_component message_imprint_type)
    time_stamp_req_tail refl) refl)
    (λ a. refl) (λ b. refl))

-- SEQUENCE { status INTEGER, statusString SEQUENCE OF UTF8String OPTIONAL, failInfo BIT STRING OPTIONAL } (2.4.2), the status an octet
abbrev pub pki_status_info_type : AsnType PkiStatusInfo
pki_status_info_type =
    sequence_type (components_as (λ x. record { status = x.0; status_string = x.1.0; fail_info = x.1.1 })
    (λ a. (a.status, (a.status_string, a.fail_info)))
    (followed_by (required_component (number_type 255))
    (followed_by (optional_component (sequence_of_type utf8_type))
    (optional_component bit_string_type) refl) refl)
    (λ a. refl) (λ b. refl))

-- SEQUENCE { status PKIStatusInfo, timeStampToken ANY OPTIONAL } (2.4.2), the token read later
abbrev pub time_stamp_resp_type : AsnType TimeStampResp
time_stamp_resp_type =
    sequence_type (components_as (λ x. record { status = x.0; time_stamp_token = x.1 }) (λ a. (a.status, a.time_stamp_token))
    (followed_by (required_component pki_status_info_type) (optional_component any_type) refl) (λ a. refl) (λ b. refl))

-- SEQUENCE { seconds INTEGER OPTIONAL, millis [0] INTEGER OPTIONAL, micros [1] INTEGER OPTIONAL } (2.4.2), of 64, 16 and 16 bits
abbrev pub accuracy_type : AsnType Accuracy
accuracy_type =
    sequence_type (components_as (λ x. record { seconds = x.0; millis = x.1.0; micros = x.1.1 }) (λ a. (a.seconds, (a.millis, a.micros)))
    (followed_by (optional_component (number_type 18446744073709551615))
    (followed_by (optional_component (implicit_type primitive_0_tag integer_tag (number_type 65535) refl refl (λ a. refl)))
    (optional_component (implicit_type primitive_1_tag integer_tag (number_type 65535) refl refl (λ a. refl))) refl) refl)
    (λ a. refl) (λ b. refl))

-- accuracy Accuracy OPTIONAL, ordering BOOLEAN DEFAULT FALSE, nonce INTEGER OPTIONAL, tsa [0] EXPLICIT GeneralName OPTIONAL,
-- extensions [1] IMPLICIT SEQUENCE OF Extension OPTIONAL
abbrev pub tst_info_tail : Components (Option Accuracy × (Bool × (Option (List ℕ) × (Option GeneralName × Option (List Extension)))))
tst_info_tail =
    followed_by (optional_component accuracy_type)
    (followed_by false_by_default
    (followed_by (optional_component int_type)
    (followed_by (optional_component (explicit_type constructed_0_tag general_name_type refl))
    (optional_component (implicit_type constructed_1_tag sequence_tag (sequence_of_type extension_type) refl refl (λ a. refl)))
    refl) refl) refl) refl

abbrev pub tail_of : TstInfo → Option Accuracy × (Bool × (Option (List ℕ) × (Option GeneralName × Option (List Extension))))
tail_of a = (a.accuracy, (a.ordering, (a.nonce, (a.tsa, a.extensions))))

-- version INTEGER, policy OBJECT IDENTIFIER, messageImprint MessageImprint, the version an octet
abbrev pub tst_info_head : Components (ℕ × (List ℕ × Asn1MessageImprint))
tst_info_head =
    followed_by (required_component (number_type 255))
    (followed_by (required_component oid_type) (required_component message_imprint_type) refl) refl

abbrev pub head_of : TstInfo → ℕ × (List ℕ × Asn1MessageImprint)
head_of a = (a.version, (a.policy, a.message_imprint))

-- SEQUENCE { these, serialNumber INTEGER, genTime GeneralizedTime, and these } (2.4.2)
abbrev pub tst_info_type : AsnType TstInfo
tst_info_type =
    sequence_type (components_as (λ x. record {
      version = x.0.0;
      policy = x.0.1.0;
      message_imprint = x.0.1.1;
      serial_number = x.1.0;
      gen_time = x.1.1.0;
      accuracy = x.1.1.1.0;
      ordering = x.1.1.1.1.0;
      nonce = x.1.1.1.1.1.0;
      tsa = x.1.1.1.1.1.1.0;
      extensions = x.1.1.1.1.1.1.1;
    }) (λ a. (head_of a, (a.serial_number, (a.gen_time, tail_of a))))
    (followed_by tst_info_head
    (followed_by (required_component int_type)
    (followed_by (required_component generalized_time_type)
    tst_info_tail refl) refl) refl)
    (λ a. refl) (λ b. refl))
