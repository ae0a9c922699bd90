-- Whether a signing certificate was valid when it signed, at each verified time (RFC 5280, section 6), was promised by logs of
-- certificates (RFC 6962, section 3.2), and names whom a policy asks for.
use Rattle.std.specs.Prelude.{ℕ, List, [], ◌∷◌, Bool, true, false, if◌then◌else◌, Result, Ok, Err, ⊤}
use Rattle.std.specs.List.{list_any}
use Rattle.foundation.specs.Steps.{◌>>=◌}
use Rattle.jiff_core.specs.declared.timestamp.Timestamp.{Timestamp}
use Rattle.spki_core.specs.Reading.{Reading}
use Rattle.x509_views.specs.Certificates.{Certificate, certificate_of}
use Rattle.sigstore_types_parts.specs.TimeRange.{is_by}
use Rattle.sigstore_keys.specs.declared.distinct.Threshold.{Threshold}
use Rattle.sigstore_keys.specs.Good.{Judge}
use Rattle.sigstore_keys.specs.Keyring.{Ring, is_used_at}
use Rattle.certificate_claims.specs.declared.certificate_info.CertificateInfo.{CertificateInfo}
use Rattle.path_core.specs.declared.purpose.Purpose.TheVariants.{CodeSigning}
use Rattle.path_core.specs.Anchors.{TrustAnchor}
use Rattle.path_core.specs.Path.{path_of}
use Rattle.path_core.specs.Paths.{setting}
use Rattle.sigstore_policy.specs.declared.certificate.CertificatePolicy.{CertificatePolicy}
use Rattle.sigstore_policy.specs.declared.certificate.CertificatePolicy.TheVariants.{Skip, Verify}
use Rattle.sigstore_policy.specs.declared.certificate.VerificationPolicy.{VerificationPolicy}
use Rattle.sigstore_certificate.specs.declared.error.CertificateRefusal.{CertificateRefusal}
use Rattle.sigstore_certificate.specs.declared.error.CertificateRefusal.TheVariants.{Malformed, NoTime, NoValidAuthority, NotYetValid, Expired}
use Rattle.sigstore_certificate.specs.Error.{by_path}
use Rattle.sigstore_certificate.specs.Names.{names_judged}
use Rattle.sigstore_certificate.specs.Scts.{scts_judged}

-- who decides signatures; the trusted authorities' certificates, each with its window; and the keys of the trusted logs of certificates
pub record Trust : Type 0 where
  pub accepts : Judge
  pub anchors : List TrustAnchor
  pub ct_logs : Ring

-- ---- at one time

abbrev pub has_authority : List TrustAnchor → Timestamp → Bool
has_authority anchors time = list_any (λ anchor. is_used_at time anchor.valid_for) anchors

-- some authority was to be used at the time: else one that is no longer trusted could still issue
abbrev pub authority_judged : List TrustAnchor → Timestamp → Result ⊤ CertificateRefusal
authority_judged anchors time = if has_authority anchors time then Ok tt else Err (NoValidAuthority time)

-- the certificate's window has the time: else its key, which may have been given away since, could still sign
abbrev pub window_judged : CertificateInfo → Timestamp → Result ⊤ CertificateRefusal
window_judged info time =
    if is_by info.not_before time then
    (if is_by time info.not_after then Ok tt else Err (Expired time info.not_after))
    else Err (NotYetValid time info.not_before)

-- valid at the time; the key of the certificate's issuer, by the first path then
unfoldable pub issued_at : Trust → CertificateInfo → List ℕ → List (List ℕ) → Timestamp → Result (List ℕ) CertificateRefusal
issued_at t info leaf intermediates time = do
  _ ← authority_judged t.anchors time
  path ← by_path (path_of (setting t.accepts leaf intermediates t.anchors CodeSigning time))
  _ ← window_judged info time
  Ok path.issuer_spki

-- ---- at each time

-- there is a verified time: nothing else tells that the certificate was valid when it signed
abbrev pub some_time_judged : List Timestamp → Result ⊤ CertificateRefusal
some_time_judged [] = Err NoTime
some_time_judged (time ∷ times) = Ok tt

-- the issuer's key at the last of the times; the first time at which there is none refuses
abbrev pub at_each : (Timestamp → Result (List ℕ) CertificateRefusal) → List Timestamp → List ℕ → Result (List ℕ) CertificateRefusal
at_each issuer_at [] key = Ok key
at_each issuer_at (time ∷ times) key = issuer_at time >>= at_each issuer_at times

-- valid at each of the times; the key of the certificate's issuer at the last of them
abbrev pub issued_at_each : Trust → CertificateInfo → List ℕ → List (List ℕ) → List Timestamp → Result (List ℕ) CertificateRefusal
issued_at_each t info leaf intermediates times = at_each (issued_at t info leaf intermediates) times []

-- ---- with its timestamps

abbrev pub parts_read : Reading Certificate → Result Certificate CertificateRefusal
parts_read (Ok c) = Ok c
parts_read (Err e) = Err Malformed

-- as many logs as are asked for promised the certificate, by that key of its issuer; so many did
unfoldable pub leaf_scts_judged : Trust → Threshold → List ℕ → List ℕ → Result ℕ CertificateRefusal
leaf_scts_judged t asked leaf issuer_spki =
    parts_read (certificate_of leaf) >>= λ c. scts_judged t.accepts t.ct_logs asked c issuer_spki

abbrev pub scts_asked : Trust → Bool → Threshold → List ℕ → List ℕ → Result ℕ CertificateRefusal
scts_asked t false asked leaf issuer_spki = Ok 0
scts_asked t true asked leaf issuer_spki = leaf_scts_judged t asked leaf issuer_spki

unfoldable pub chain_verified :
    Trust → Bool → Threshold → CertificateInfo → List ℕ → List (List ℕ) → List Timestamp → Result ℕ CertificateRefusal
chain_verified t verify_sct asked info leaf intermediates times = do
  _ ← some_time_judged times
  issuer_spki ← issued_at_each t info leaf intermediates times
  scts_asked t verify_sct asked leaf issuer_spki

-- ---- all that a policy asks

abbrev pub chain_judged :
    Trust → CertificatePolicy → Threshold → CertificateInfo → List ℕ → List (List ℕ) → List Timestamp → Result ℕ CertificateRefusal
chain_judged t Skip asked info leaf intermediates times = Ok 0
chain_judged t (Verify verify_sct) asked info leaf intermediates times = chain_verified t verify_sct asked info leaf intermediates times

-- The certificate that the information was read of, the intermediates beside it, and the verified times of a signature by it; so many
-- different logs promised the certificate, as far as that was asked.
unfoldable pub certified_of :
    Trust → VerificationPolicy → CertificateInfo → List ℕ → List (List ℕ) → List Timestamp → Result ℕ CertificateRefusal
certified_of t policy info leaf intermediates times = do
  promised ← chain_judged t policy.certificate policy.scts info leaf intermediates times
  _ ← names_judged policy info
  Ok promised
