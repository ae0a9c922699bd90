-- What a log signed with a certificate that was read can be written, unless it is too long.
use Rattle.std.proofs.Common.{◌≡◌, ◌≤◌, refl, ℕ, List, length, nat_lt, Bool, true, false, if◌then◌else◌, Ok, Err, sym, ap, ◌∙◌}
use Rattle.std.proofs.lemmas.Bool.{ltb-false}
use Rattle.foundation.specs.Steps.{◌>>=◌}
use Rattle.foundation.specs.Results.{err_same}
use Rattle.spki_core.specs.declared.error.X509Error.TheVariants.{SctList}
use Rattle.der_grammar.specs.Tlv.{IsBytes}
use Rattle.x509_views.specs.Certificates.{Certificate, certificate_of}
use Rattle.x509_views.specs.Precertificates.{precert_of}
use Rattle.x509_views.specs.Scts.{Parts as OneSct, signed_of, signed_bytes}
use Rattle.sigstore_certificate.specs.declared.error.CertificateRefusal.{CertificateRefusal}
use Rattle.sigstore_certificate.specs.declared.error.CertificateRefusal.TheVariants.{Sct}
use Rattle.sigstore_certificate.specs.declared.error.SctRule.TheVariants.{Precertificate}
use Rattle.sigstore_certificate.specs.Cause.{WrittenUnlessLong}
use Rattle.sigstore_certificate.specs.Scts.{written, signed_data_of}

too_long : (sct : OneSct) (key_hash tbs : List ℕ) (e : CertificateRefusal) → written (signed_of sct key_hash tbs) ≡ Err e → (e ≡ Sct Precertificate) × (16777216 ≤ length tbs)
unfolding signed_of
too_long sct key_hash tbs e h = by (nat_lt (length tbs) 16777216) (λ k. ltb-false (length tbs) 16777216 k) h
  where
    by : (b : Bool) → (b ≡ false → 16777216 ≤ length tbs) → written (if b then Ok (signed_bytes sct key_hash tbs) else Err SctList) ≡ Err e
        → (e ≡ Sct Precertificate) × (16777216 ≤ length tbs)
    by true less k = cc
    by false less k = (sym (err_same (Sct Precertificate) e k), less refl)

-- it is there for each certificate that was read
abbrev IsThere : Type 0
IsThere = (bytes : List ℕ) (c : Certificate) → IsBytes bytes → certificate_of bytes ≡ Ok c
    → (tbs : List ℕ) × (precert_of c.tbs c.signed.tail.front c.signed.tail.extensions ≡ Ok tbs)

pub written_unless_long : IsThere → WrittenUnlessLong
unfolding signed_data_of
written_unless_long is_there bytes c sct key_hash e is_bytes read h =
    let there = is_there bytes c is_bytes read in
    let after = ap (λ r. written r >>= λ tbs. written (signed_of sct key_hash tbs)) there.1 in
    let long = too_long sct key_hash there.0 e (sym after ∙ h) in
    (long.0, record { tbs = there.0; tbs_is = there.1; long = long.1 })
