-- Compressed data.
use Rattle.std.specs.Prelude.{refl}
use Rattle.der_grammar.specs.Types.{AsnType, sequence_type, components_as}
use Rattle.der_grammar.specs.Types.{followed_by, required_component}
use Rattle.x509_core.specs.Types.{algorithm_type}
use Rattle.cms_parts.specs.Versions.{version_type}
use Rattle.cms_parts.specs.SignedData.{encapsulated_content_info_type}
use Rattle.cms_envelope.specs.declared.compressed_data.CompressedData.{CompressedData}

-- SEQUENCE { version CMSVersion, compressionAlgorithm AlgorithmIdentifier, encapContentInfo EncapsulatedContentInfo } (RFC 3274, 1.1)
abbrev pub compressed_data_type : AsnType CompressedData
compressed_data_type =
    sequence_type (components_as (λ x. record {
      version = x.0;
      compression_alg = x.1.0;
      encap_content_info = x.1.1;
    }) (λ a. (a.version, (a.compression_alg, a.encap_content_info)))
    (followed_by (required_component version_type)
    (followed_by (required_component algorithm_type)
    (required_component encapsulated_content_info_type) refl) refl)
    (λ a. refl) (λ b. refl))
