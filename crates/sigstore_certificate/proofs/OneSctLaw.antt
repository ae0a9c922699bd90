-- A certificate with one timestamp, of which one log is asked, is judged by that timestamp alone.
use Rattle.std.proofs.Common.{◌≡◌, ℕ, List, [], ◌∷◌, length, Bool, true, false, ◌||◌, nat_lt, nat_le, if◌then◌else◌, is_some, Option, Some, None, Result, Ok, Err, refl, sym, ap, ◌∙◌}
use Rattle.std.specs.Prelude.{⊤}
use Rattle.std.specs.List.{cons_option}
use Rattle.foundation.specs.Steps.{◌>>=◌}
use Rattle.sha2.specs.Sha256.{sha256}
use Rattle.spki_core.specs.Reading.{Reading}
use Rattle.spki_core.specs.declared.error.X509Error.TheVariants.{SctList}
use Rattle.x509_views.specs.Certificates.{Certificate}
use Rattle.x509_views.specs.Precertificates.{precert_of}
use Rattle.x509_views.specs.Scts.{Parts as Sct, signed_of, signed_bytes}
use Rattle.sigstore_keys.specs.declared.distinct.Threshold.{Threshold}
use Rattle.sigstore_keys.specs.declared.scheme.SigningScheme.{SigningScheme}
use Rattle.sigstore_keys.specs.Good.{Judge}
use Rattle.sigstore_keys.specs.Keyring.{Ring, has_key_of}
use Rattle.sigstore_keys.specs.Distinct.{count_distinct}
use Rattle.sigstore_certificate.specs.declared.error.CertificateRefusal.{CertificateRefusal}
use Rattle.sigstore_certificate.specs.declared.error.CertificateRefusal.TheVariants.{InvalidTrustRoot}
use Rattle.sigstore_certificate.specs.declared.error.SctRule.TheVariants as rule
use Rattle.sigstore_certificate.specs.OneSct.{schemed, trusted_for, alone_of, OneAlone}
use Rattle.sigstore_certificate.specs.Scts.{refused_by, scts_of, scheme_of, some_scheme, is_of_ring, some_log, written, signed_part_of, signed_data_of}
use Rattle.sigstore_certificate.specs.Scts.{key_under, log_key, good_by, good_under, is_good_sct, promising_logs, enough_logs, scts_judged}
use Rattle.sigstore_certificate.proofs.SctLaw.{shortened}

module _ (accepts : Judge) (ring : Ring) (asked : Threshold) (one : asked.value ≡ 1) (c : Certificate) (issuer : List ℕ) (sct : Sct) where
  -- whether it is good, where its algorithm has this scheme
  abbrev good : SigningScheme → List ℕ → Bool
  good scheme tbs = good_under accepts ring (sha256 issuer) tbs sct (Some scheme)

  abbrev counted : Bool → Result ℕ CertificateRefusal
  counted b = enough_logs asked (count_distinct (if b then sct.log_id ∷ [] else []))

  count_is : (b : Bool) → counted b ≡ (if b then Ok 1 else refused_by (rule.TooFew 1 0))
  count_is true = ap (λ n. if nat_le n 1 then Ok 1 else refused_by (rule.TooFew n 1)) one
  count_is false = ap (λ n. if nat_le n 0 then Ok 0 else refused_by (rule.TooFew n 0)) one

  count_in : (b : Bool) (tbs : List ℕ) → is_good_sct accepts ring (sha256 issuer) tbs sct ≡ b
      → enough_logs asked (promising_logs (is_good_sct accepts ring (sha256 issuer) tbs) (sct ∷ [])) ≡ (if b then Ok 1 else refused_by (rule.TooFew 1 0))
  count_in true tbs is =
      ap (λ (b : Bool). enough_logs asked (count_distinct (kept b))) is ∙ count_is true
    where
      kept : Bool → List (List ℕ)
      kept b = cons_option (if b then Some sct.log_id else None) []
  count_in false tbs is =
      ap (λ (b : Bool). enough_logs asked (count_distinct (kept b))) is ∙ count_is false
    where
      kept : Bool → List (List ℕ)
      kept b = cons_option (if b then Some sct.log_id else None) []

  module _ (scheme : SigningScheme) (is : scheme_of sct.algorithm ≡ Some scheme) where
    abbrev judged : List ℕ → Result ℕ CertificateRefusal
    judged message =
        if good_by accepts (key_under scheme (log_key ring sct)) (Ok message) sct.signature then Ok 1 else refused_by (rule.TooFew 1 0)

    abbrev after_part : List ℕ → Result ℕ CertificateRefusal
    after_part tbs = enough_logs asked (promising_logs (is_good_sct accepts ring (sha256 issuer) tbs) (sct ∷ []))

    -- over a signed part of which the length can be told
    over : (tbs : List ℕ) (b : Bool) → nat_lt (length tbs) 16777216 ≡ b
        → ((if b then Ok tbs else refused_by rule.Precertificate) >>= after_part) ≡ (written (signed_of sct (sha256 issuer) tbs) >>= judged)
    unfolding signed_of
    over tbs true fits =
        let message = signed_bytes sct (sha256 issuer) tbs in
        let same : is_good_sct accepts ring (sha256 issuer) tbs sct ≡ good_by accepts (key_under scheme (log_key ring sct)) (Ok message) sct.signature =
        ap (good_under accepts ring (sha256 issuer) tbs sct) is
        ∙ ap (λ (b : Bool). good_by accepts (key_under scheme (log_key ring sct)) (if b then Ok message else Err SctList) sct.signature) fits in
        count_in (good_by accepts (key_under scheme (log_key ring sct)) (Ok message) sct.signature) tbs same
        ∙ sym (ap (λ (b : Bool). written (if b then Ok message else Err SctList) >>= judged) fits)
    over tbs false fits =
        sym (ap (λ (b : Bool). written (if b then Ok (signed_bytes sct (sha256 issuer) tbs) else Err SctList) >>= judged) fits)

    by_part : (r : Reading (List ℕ)) → ((written r >>= shortened) >>= after_part) ≡ ((written r >>= λ tbs. written (signed_of sct (sha256 issuer) tbs)) >>= judged)
    by_part (Ok tbs) = over tbs (nat_lt (length tbs) 16777216) refl
    by_part (Err e) = refl

    by_data : (signed_part_of c >>= after_part) ≡ (signed_data_of c sct (sha256 issuer) >>= judged)
    unfolding signed_data_of
    by_data = by_part (precert_of c.tbs c.signed.tail.front c.signed.tail.extensions)

    abbrev trusted : Bool → Result ⊤ CertificateRefusal
    trusted b = if b then Ok tt else Err InvalidTrustRoot

    by_trust : (b : Bool)
        → (trusted (b || false) >>= λ _. signed_part_of c >>= after_part)
        ≡ (trusted b >>= λ _. signed_data_of c sct (sha256 issuer) >>= judged)
    by_trust true = by_data
    by_trust false = refl

  abbrev after_scheme : ⊤ → Result ℕ CertificateRefusal
  after_scheme u =
      some_log ring (sct ∷ []) >>= λ _. signed_part_of c >>= λ tbs. enough_logs asked (promising_logs (is_good_sct accepts ring (sha256 issuer) tbs) (sct ∷ []))

  abbrev schemes : Bool → Result ⊤ CertificateRefusal
  schemes b = if b then Ok tt else refused_by rule.Scheme

  by_scheme : (o : Option SigningScheme) → scheme_of sct.algorithm ≡ o
      → ((some_scheme (sct ∷ [])) >>= after_scheme)
      ≡ (schemed o >>= λ scheme. trusted_for ring scheme >>= λ _. signed_data_of c sct (sha256 issuer) >>= λ message.
      if good_by accepts (key_under scheme (log_key ring sct)) (Ok message) sct.signature then Ok 1 else refused_by (rule.TooFew 1 0))
  by_scheme None is = ap (λ o. schemes (is_some o || false) >>= after_scheme) is
  by_scheme (Some scheme) is =
      ap (λ o. schemes (is_some o || false) >>= after_scheme) is
      ∙ ap (λ o. trusted scheme is (is_of_ring ring o || false) >>= λ _. signed_part_of c >>= after_part scheme is) is
      ∙ by_trust scheme is (has_key_of scheme ring)

  alone : scts_of c ≡ Ok (sct ∷ []) → scts_judged accepts ring asked c issuer ≡ alone_of accepts ring c issuer sct
  unfolding scts_judged
  alone listed =
      ap (λ r. r >>= λ scts. some_scheme scts >>= λ _. some_log ring scts >>= λ _. signed_part_of c >>= λ tbs. enough_logs asked (promising_logs (is_good_sct accepts ring (sha256 issuer) tbs) scts)) listed
      ∙ by_scheme (scheme_of sct.algorithm) refl

pub one_alone : OneAlone
one_alone accepts ring asked c issuer sct one listed = alone accepts ring asked one c issuer sct listed
