-- Signed data that hands on certificates and nothing else.
use Rattle.std.specs.Prelude.{ℕ, List, [], map, Some, None, Ok}
use Rattle.foundation.specs.Steps.{◌>>=◌}
use Rattle.der_grammar.specs.Outcome.{Outcome}
use Rattle.der_grammar.specs.Sets.{set_from}
use Rattle.cms_parts.specs.declared.cert.CertificateChoices.{CertificateChoices}
use Rattle.cms_parts.specs.declared.cert.CertificateChoices.TheVariants.{Certificate}
use Rattle.cms_parts.specs.declared.content_info.CmsVersion.TheVariants.{V1}
use Rattle.cms_parts.specs.declared.content_info.ContentInfo.{ContentInfo}
use Rattle.cms_parts.specs.declared.signed_data.SignedData.{SignedData}
use Rattle.cms_parts.specs.Cert.{certificate_choices_type}
use Rattle.cms_parts.specs.Identifiers.{data_oid, signed_data_oid}
use Rattle.cms_parts.specs.SignedData.{signed_data_type}
use Rattle.cms_parts.specs.Values.{any_from}

-- the content of type signed-data (RFC 5652, 5.1), or TooLong where it can't be written
unfoldable pub content_of : SignedData → Outcome ContentInfo
content_of signed =
    any_from signed_data_type.grammar signed >>= λ value. Ok (record { content_type = signed_data_oid; content = value })

-- no content and no signers, and an empty set of revocation information (RFC 5652, 5.1 and 5.2)
abbrev pub certificates_only : List CertificateChoices → SignedData
certificates_only members = record {
  version = V1;
  digest_algorithms = [];
  encap_content_info = record { econtent_type = data_oid; econtent = None };
  certificates = Some (record { 0 = members });
  crls = Some (record { 0 = [] });
  signer_infos = record { 0 = [] };
}

unfoldable pub content_with : List CertificateChoices → Outcome ContentInfo
content_with choices = set_from certificate_choices_type.grammar choices >>= λ members. content_of (certificates_only members)

-- the certificates of a path; SetDuplicate where one stands twice
abbrev pub content_of_path : List (List ℕ) → Outcome ContentInfo
content_of_path path = content_with (map (λ certificate. Certificate certificate) path)
