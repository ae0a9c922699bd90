-- One timestamp, where one log is asked for.
use Rattle.std.specs.Prelude.{◌≡◌, ℕ, List, [], ◌∷◌, if◌then◌else◌, Option, Some, None, Result, Ok, Err, ⊤}
use Rattle.foundation.specs.Steps.{◌>>=◌}
use Rattle.sha2.specs.Sha256.{sha256}
use Rattle.x509_views.specs.Certificates.{Certificate}
use Rattle.x509_views.specs.Scts.{Parts as Sct}
use Rattle.sigstore_keys.specs.declared.distinct.Threshold.{Threshold}
use Rattle.sigstore_keys.specs.declared.scheme.SigningScheme.{SigningScheme}
use Rattle.sigstore_keys.specs.Good.{Judge}
use Rattle.sigstore_keys.specs.Keyring.{Ring, has_key_of}
use Rattle.sigstore_certificate.specs.declared.error.CertificateRefusal.{CertificateRefusal}
use Rattle.sigstore_certificate.specs.declared.error.CertificateRefusal.TheVariants as refusal
use Rattle.sigstore_certificate.specs.declared.error.SctRule.TheVariants as rule
use Rattle.sigstore_certificate.specs.Scts.{refused_by, scts_of, scheme_of, signed_data_of, key_under, log_key, good_by, scts_judged}

abbrev pub schemed : Option SigningScheme → Result SigningScheme CertificateRefusal
schemed None = refused_by rule.Scheme
schemed (Some scheme) = Ok scheme

abbrev pub trusted_for : Ring → SigningScheme → Result ⊤ CertificateRefusal
trusted_for ring scheme = if has_key_of scheme ring then Ok tt else Err refusal.InvalidTrustRoot

-- Its algorithm has a scheme; some trusted log has a key of that sort; what the log signed can be written; and the log of its id has such a
-- key, which is used at its time and by which the signature over that is good. Then one log promised the certificate.
abbrev pub alone_of : Judge → Ring → Certificate → List ℕ → Sct → Result ℕ CertificateRefusal
alone_of accepts ring c issuer_spki sct = do
  scheme ← schemed (scheme_of sct.algorithm)
  _ ← trusted_for ring scheme
  message ← signed_data_of c sct (sha256 issuer_spki)
  if good_by accepts (key_under scheme (log_key ring sct)) (Ok message) sct.signature then Ok 1 else refused_by (rule.TooFew 1 0)

-- a certificate with one timestamp, of which one log is asked, is judged by that timestamp alone
abbrev pub OneAlone : Type 0
OneAlone = (accepts : Judge) (ring : Ring) (asked : Threshold) (c : Certificate) (issuer_spki : List ℕ) (sct : Sct) → asked.value ≡ 1
    → scts_of c ≡ Ok (sct ∷ []) → scts_judged accepts ring asked c issuer_spki ≡ alone_of accepts ring c issuer_spki sct
