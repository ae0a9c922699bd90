-- What one signer signed.
use Rattle.std.specs.Prelude.{◌≡◌, ◌⊎◌, ℕ, List, refl}
use Rattle.std.proofs.Common.{inl, inr}
use Rattle.der_grammar.specs.Types.{AsnType, sequence_type, set_of_type, implicit_type, components_as}
use Rattle.der_grammar.specs.Types.{followed_by, required_component, optional_component, choice_type}
use Rattle.der_grammar.specs.Octets.{octet_string_type}
use Rattle.der_grammar.specs.Tags.{octet_string_tag, set_tag, constructed_0_tag}
use Rattle.x509_core.specs.Kinds.{subject_key_identifier_type}
use Rattle.x509_core.specs.Types.{algorithm_type, attribute_type}
use Rattle.cms_parts.specs.Tags.{primitive_0_tag, constructed_1_tag}
use Rattle.cms_parts.specs.Cert.{issuer_and_serial_number_type}
use Rattle.cms_parts.specs.Versions.{version_type}
use Rattle.cms_parts.specs.declared.cert.IssuerAndSerialNumber.{IssuerAndSerialNumber}
use Rattle.cms_parts.specs.declared.signed_data.SignerIdentifier.{SignerIdentifier}
use Rattle.cms_parts.specs.declared.signed_data.SignerIdentifier.TheVariants as named
use Rattle.cms_parts.specs.declared.signed_data.SignerInfo.{SignerInfo}

-- ---- CHOICE { issuerAndSerialNumber IssuerAndSerialNumber, subjectKeyIdentifier [0] IMPLICIT OCTET STRING } (RFC 5652, 5.3)

abbrev pub to_signer : IssuerAndSerialNumber ⊎ List ℕ → SignerIdentifier
to_signer (inl value) = named.IssuerAndSerialNumber value
to_signer (inr value) = named.SubjectKeyIdentifier value

abbrev pub from_signer : SignerIdentifier → IssuerAndSerialNumber ⊎ List ℕ
from_signer (named.IssuerAndSerialNumber value) = inl value
from_signer (named.SubjectKeyIdentifier value) = inr value

pub signer-there : (x : IssuerAndSerialNumber ⊎ List ℕ) → from_signer (to_signer x) ≡ x
signer-there (inl value) = refl
signer-there (inr value) = refl

pub signer-again : (x : SignerIdentifier) → to_signer (from_signer x) ≡ x
signer-again (named.IssuerAndSerialNumber value) = refl
signer-again (named.SubjectKeyIdentifier value) = refl

abbrev pub signer_identifier_type : AsnType SignerIdentifier
signer_identifier_type =
    choice_type to_signer from_signer issuer_and_serial_number_type
    (implicit_type primitive_0_tag octet_string_tag subject_key_identifier_type refl refl (λ a. refl)) refl signer-there signer-again

-- SEQUENCE { version CMSVersion, sid SignerIdentifier, digestAlgorithm AlgorithmIdentifier, signedAttrs [0] IMPLICIT SET OF Attribute OPTIONAL,
-- signatureAlgorithm AlgorithmIdentifier, signature OCTET STRING, unsignedAttrs [1] IMPLICIT SET OF Attribute OPTIONAL } (RFC 5652, 5.3)
abbrev pub signer_info_type : AsnType SignerInfo
signer_info_type =
    sequence_type (components_as (λ x. record {
      version = x.0;
      sid = x.1.0;
      digest_alg = x.1.1.0;
      signed_attrs = x.1.1.1.0;
      signature_algorithm = x.1.1.1.1.0;
      signature = x.1.1.1.1.1.0;
      unsigned_attrs = x.1.1.1.1.1.1;
    }) (λ a. (a.version, (a.sid, (a.digest_alg, (a.signed_attrs, (a.signature_algorithm, (a.signature, a.unsigned_attrs)))))))
    (followed_by (required_component version_type)
    (followed_by (required_component signer_identifier_type)
    (followed_by (required_component algorithm_type)
    (followed_by (optional_component (implicit_type constructed_0_tag set_tag (set_of_type attribute_type) refl refl (λ a. refl)))
    (followed_by (required_component algorithm_type)
    (followed_by (required_component octet_string_type)
    (optional_component (implicit_type constructed_1_tag set_tag (set_of_type attribute_type) refl refl (λ a. refl))) refl) refl) refl) refl) refl) refl)
    (λ a. refl) (λ b. refl))
