-- Digested data.
use Rattle.std.specs.Prelude.{refl}
use Rattle.der_grammar.specs.Types.{AsnType, sequence_type, components_as}
use Rattle.der_grammar.specs.Types.{followed_by, required_component}
use Rattle.der_grammar.specs.Octets.{octet_string_type}
use Rattle.x509_core.specs.Types.{algorithm_type}
use Rattle.cms_parts.specs.Versions.{version_type}
use Rattle.cms_parts.specs.SignedData.{encapsulated_content_info_type}
use Rattle.cms_envelope.specs.declared.digested_data.DigestedData.{DigestedData}

-- SEQUENCE { version CMSVersion, digestAlgorithm AlgorithmIdentifier, encapContentInfo EncapsulatedContentInfo, digest OCTET STRING }
-- (RFC 5652, 7)
abbrev pub digested_data_type : AsnType DigestedData
digested_data_type =
    sequence_type (components_as (λ x. record {
      version = x.0;
      digest_alg = x.1.0;
      encap_content_info = x.1.1.0;
      digest = x.1.1.1;
    }) (λ a. (a.version, (a.digest_alg, (a.encap_content_info, a.digest))))
    (followed_by (required_component version_type)
    (followed_by (required_component algorithm_type)
    (followed_by (required_component encapsulated_content_info_type)
    (required_component octet_string_type) refl) refl) refl)
    (λ a. refl) (λ b. refl))
