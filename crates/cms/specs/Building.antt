-- Signed data of what was collected (RFC 5652, 5.1).
use Rattle.std.specs.Prelude.{List, [], ◌∷◌, Bool, true, false, not, ◌||◌, Option, Some, None, Ok, if◌then◌else◌}
use Rattle.std.specs.List.{list_any}
use Rattle.std.specs.Str.{bytes_eq}
use Rattle.foundation.specs.Steps.{◌>>=◌}
use Rattle.der_grammar.specs.Sets.{set_from}
use Rattle.x509_core.specs.Types.{algorithm_type}
use Rattle.cms_parts.specs.declared.cert.CertificateChoices.{CertificateChoices}
use Rattle.cms_parts.specs.declared.cert.CertificateChoices.TheVariants as certificate
use Rattle.cms_parts.specs.declared.content_info.CmsVersion.{CmsVersion}
use Rattle.cms_parts.specs.declared.content_info.CmsVersion.TheVariants.{V0, V1, V2, V3, V4, V5}
use Rattle.cms_parts.specs.declared.content_info.ContentInfo.{ContentInfo}
use Rattle.cms_parts.specs.declared.revocation.RevocationInfoChoice.{RevocationInfoChoice}
use Rattle.cms_parts.specs.declared.revocation.RevocationInfoChoice.TheVariants as crl
use Rattle.cms_parts.specs.declared.revocation.RevocationInfoChoices.{RevocationInfoChoices}
use Rattle.cms_parts.specs.declared.signed_data.CertificateSet.{CertificateSet}
use Rattle.cms_parts.specs.declared.signed_data.SignedData.{SignedData}
use Rattle.cms_parts.specs.declared.signed_data.SignerInfo.{SignerInfo}
use Rattle.cms_parts.specs.Cert.{certificate_choices_type}
use Rattle.cms_parts.specs.CertificatesOnly.{content_of}
use Rattle.cms_parts.specs.Identifiers.{data_oid}
use Rattle.cms_parts.specs.Revocation.{revocation_info_choice_type}
use Rattle.cms_parts.specs.SignerInfo.{signer_info_type}
use Rattle.cms.specs.Error.{Made, of_der}
use Rattle.cms.specs.Parts.{Collected}

abbrev pub is_other_certificate : CertificateChoices → Bool
is_other_certificate (certificate.Certificate c) = false
is_other_certificate (certificate.Other c) = true

abbrev pub is_other_crl : RevocationInfoChoice → Bool
is_other_crl (crl.Crl c) = false
is_other_crl (crl.Other c) = true

abbrev pub is_v3 : CmsVersion → Bool
is_v3 V0 = false
is_v3 V1 = false
is_v3 V2 = false
is_v3 V3 = true
is_v3 V4 = false
is_v3 V5 = false

abbrev pub is_third : SignerInfo → Bool
is_third info = is_v3 info.version

-- version 5 with a certificate or revocation information of another format; else 3 with a signer of version 3 or content of
-- another type than id-data; else 1 (RFC 5652, 5.1)
unfoldable pub version_for : Collected → CmsVersion
version_for c =
    if list_any is_other_certificate c.certificates || list_any is_other_crl c.crls then V5
    else if list_any is_third c.signers || not (bytes_eq c.content.econtent_type data_oid) then V3
    else V1

-- the set of certificates, or None where none was added
abbrev pub certificates_of : List CertificateChoices → Made (Option CertificateSet)
certificates_of [] = Ok None
certificates_of (c ∷ more) = of_der (set_from certificate_choices_type.grammar (c ∷ more)) >>= λ members. Ok (Some (record { 0 = members }))

-- the set of revocation information, or None where none was added
abbrev pub crls_of : List RevocationInfoChoice → Made (Option RevocationInfoChoices)
crls_of [] = Ok None
crls_of (c ∷ more) = of_der (set_from revocation_info_choice_type.grammar (c ∷ more)) >>= λ members. Ok (Some (record { 0 = members }))

unfoldable pub signed_data_of : Collected → Made SignedData
signed_data_of c = do
  algorithms ← of_der (set_from algorithm_type.grammar c.algorithms)
  certificates ← certificates_of c.certificates
  crls ← crls_of c.crls
  signers ← of_der (set_from signer_info_type.grammar c.signers)
  Ok (record {
    version = version_for c;
    digest_algorithms = algorithms;
    encap_content_info = c.content;
    certificates = certificates;
    crls = crls;
    signer_infos = record { 0 = signers };
  })

-- the content of type signed-data
unfoldable pub built : Collected → Made ContentInfo
built c = signed_data_of c >>= λ signed. of_der (content_of signed)
