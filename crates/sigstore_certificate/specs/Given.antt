-- What the calls of this crate hand on, as what is trusted.
use Rattle.std.specs.Prelude.{ℕ, List, Bool, Result}
use Rattle.jiff_core.specs.declared.timestamp.Timestamp.{Timestamp}
use Rattle.x509_views.specs.Scts.{Parts as Sct}
use Rattle.sigstore_keys.specs.Good.{Judge}
use Rattle.path_core.specs.declared.error.PathError.{PathError}
use Rattle.path_core.specs.declared.purpose.Purpose.TheVariants.{CodeSigning}
use Rattle.path_core.specs.declared.route.FoundPath.{FoundPath}
use Rattle.path_core.specs.Path.{path_of}
use Rattle.path_core.specs.Paths.{setting}
use Rattle.sigstore_certificate.specs.declared.error.CertificateRefusal.{CertificateRefusal}
use Rattle.sigstore_certificate.specs.declared.given.CertificateInputs.{CertificateInputs}
use Rattle.sigstore_certificate.specs.declared.given.SctInputs.{SctInputs}
use Rattle.sigstore_certificate.specs.declared.given.TrustedAuthorities.{TrustedAuthorities}
use Rattle.sigstore_certificate.specs.Certified.{Trust, issued_at}
use Rattle.sigstore_certificate.specs.Scts.{is_good_sct}

abbrev pub trust_of : {C : Type 0} → (C → Judge) → CertificateInputs C → Trust
trust_of accepts given = record { accepts = accepts given.provider.now; anchors = given.anchors.now; ct_logs = given.ct_logs.now }

-- what is trusted, by who decides signatures
abbrev pub trust_by : Judge → TrustedAuthorities → Trust
trust_by accepts authorities = record { accepts = accepts; anchors = authorities.anchors.now; ct_logs = authorities.ct_logs.now }

-- the first path for code signing at a time
abbrev pub path_in : {C : Type 0} → (C → Judge) → CertificateInputs C → Timestamp → Result FoundPath PathError
path_in accepts given time =
    path_of (setting (accepts given.provider.now) given.leaf.now given.intermediates.now given.anchors.now CodeSigning time)

-- the key of the issuer at a time
abbrev pub issuer_in : {C : Type 0} → (C → Judge) → CertificateInputs C → Timestamp → Result (List ℕ) CertificateRefusal
issuer_in accepts given time = issued_at (trust_of accepts given) given.info.now given.leaf.now given.intermediates.now time

-- whether a timestamp is good
abbrev pub is_good_in : {C : Type 0} → (C → Judge) → SctInputs C → Sct → Bool
is_good_in accepts given sct = is_good_sct (accepts given.provider.now) given.ct_logs.now given.key_hash.now given.tbs.now sct
