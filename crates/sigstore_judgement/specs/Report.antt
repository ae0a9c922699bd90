-- What a report says of whom the certificate names.
use Rattle.std.specs.Prelude.{ℕ, List, Option, Some, None}
use Rattle.certificate_claims.specs.declared.certificate_info.CertificateInfo.{CertificateInfo}
use Rattle.certificate_claims.specs.declared.certificate_info.SubjectAltName.{SubjectAltName}

abbrev pub identity_said : Option CertificateInfo → Option SubjectAltName
identity_said None = None
identity_said (Some info) = info.identity

abbrev pub issuer_said : Option CertificateInfo → Option (List ℕ)
issuer_said None = None
issuer_said (Some info) = info.issuer
