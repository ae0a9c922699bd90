-- The timestamps of logs of certificates are judged good exactly where they are.
use Rattle.std.proofs.Common.{◌≡◌, ◌≤◌, ◌<◌, ℕ, List, length, Bool, true, false, nat_lt, if◌then◌else◌, is_some, Option, Some, None, Result, Ok, Err, refl, sym, ap, subst, ◌∙◌}
use Rattle.std.proofs.lemmas.Bool.{ltb-true, lt-ltb, leb-true, le-leb}
use Rattle.std.specs.Prelude.{⊤, IsTrue}
use Rattle.std.specs.List.{list_any}
use Rattle.sha2.specs.Sha256.{sha256}
use Rattle.foundation.specs.Steps.{◌>>=◌}
use Rattle.foundation.specs.Results.{step_ok, ok_same}
use Rattle.spki_core.specs.Reading.{Reading}
use Rattle.x509_views.specs.Certificates.{Certificate, certificate_of}
use Rattle.x509_views.specs.Precertificates.{precert_of}
use Rattle.x509_views.specs.Scts.{Parts as Sct, signed_of}
use Rattle.sigstore_keys.specs.declared.key.VerificationKey.{VerificationKey}
use Rattle.sigstore_keys.specs.declared.distinct.Threshold.{Threshold}
use Rattle.sigstore_keys.specs.declared.scheme.SigningScheme.{SigningScheme}
use Rattle.sigstore_keys.specs.Good.{Judge, is_good}
use Rattle.sigstore_keys.specs.Key.{key_with, same_sort}
use Rattle.sigstore_keys.specs.Keyring.{has_key_of}
use Rattle.sigstore_keys.specs.Distinct.{is_enough}
use Rattle.sigstore_keys.specs.Scheme.{key_algorithm_of}
use Rattle.sigstore_certificate.specs.declared.error.CertificateRefusal.{CertificateRefusal}
use Rattle.sigstore_certificate.specs.declared.error.CertificateRefusal.TheVariants.{InvalidTrustRoot}
use Rattle.sigstore_certificate.specs.declared.error.SctRule.TheVariants as rule
use Rattle.sigstore_certificate.specs.Certified.{Trust, parts_read, leaf_scts_judged}
use Rattle.sigstore_certificate.specs.IsCertified.{IsKnown, HasScts, IsGoodSct, GoodExactly}
use Rattle.sigstore_certificate.specs.Scts.{refused_by, scts_of, scheme_of, has_scheme, some_scheme, is_of_ring, is_of_logs, some_log, written, signed_part_of}
use Rattle.sigstore_certificate.specs.Scts.{key_under, log_key, good_over, good_by, good_under, is_good_sct, promising_logs, enough_logs, scts_judged}
use Rattle.sigstore_certificate.proofs.Among.{among_from_any, any_from_among}
use Rattle.sigstore_certificate.proofs.NamesLaw.{passes}

-- ---- the steps

pub written_means : (r : Reading (List ℕ)) (octets : List ℕ) → written r ≡ Ok octets → r ≡ Ok octets
written_means (Ok o) octets h = ap Ok (ok_same o octets h)
written_means (Err e) octets h = cc

pub parts_mean : (r : Reading Certificate) (c : Certificate) → parts_read r ≡ Ok c → r ≡ Ok c
parts_mean (Ok d) c h = ap Ok (ok_same d c h)
parts_mean (Err e) c h = cc

-- ---- whether logs of such certificates are trusted

pub ring_means : (t : Trust) (o : Option SigningScheme) → is_of_ring t.ct_logs o ≡ true
    → (scheme : SigningScheme) × (o ≡ Some scheme) × (has_key_of scheme t.ct_logs ≡ true)
ring_means t None h = cc
ring_means t (Some scheme) h = (scheme, refl, h)

pub known_means : (t : Trust) (scts : List Sct) → list_any (is_of_logs t.ct_logs) scts ≡ true → IsKnown t scts
known_means t scts h =
    let a = among_from_any (is_of_logs t.ct_logs) scts h in
    let r = ring_means t (scheme_of (a.0).algorithm) a.2 in
    record { sct = a.0; among = a.1; scheme = r.0; scheme_is = r.1; some = r.2 }

known_passes : (t : Trust) (scts : List Sct) → IsKnown t scts → list_any (is_of_logs t.ct_logs) scts ≡ true
known_passes t scts k =
    any_from_among (is_of_logs t.ct_logs) scts k.sct k.among (ap (is_of_ring t.ct_logs) k.scheme_is ∙ k.some)

schemed_passes : (t : Trust) (scts : List Sct) → IsKnown t scts → list_any has_scheme scts ≡ true
schemed_passes t scts k = any_from_among has_scheme scts k.sct k.among (ap is_some k.scheme_is)

-- ---- what was signed

pub record IsPart (c : Certificate) (tbs : List ℕ) : Type 0 where
  pub tbs_is : precert_of c.tbs c.signed.tail.front c.signed.tail.extensions ≡ Ok tbs
  pub short : length tbs < 16777216

abbrev pub shortened : List ℕ → Result (List ℕ) CertificateRefusal
shortened tbs = if nat_lt (length tbs) 16777216 then Ok tbs else refused_by rule.Precertificate

short_means : (tbs out : List ℕ) → shortened tbs ≡ Ok out → (tbs ≡ out) × (length tbs < 16777216)
short_means tbs out h = by (nat_lt (length tbs) 16777216) (ltb-true (length tbs) 16777216) h
  where
    by : (b : Bool) → (b ≡ true → length tbs < 16777216) → (if b then Ok tbs else refused_by rule.Precertificate) ≡ Ok out
        → (tbs ≡ out) × (length tbs < 16777216)
    by true less k = (ok_same tbs out k, less refl)
    by false less k = cc

pub part_means : (c : Certificate) (tbs : List ℕ) → signed_part_of c ≡ Ok tbs → IsPart c tbs
part_means c tbs h =
    let s = step_ok (written (precert_of c.tbs c.signed.tail.front c.signed.tail.extensions)) shortened tbs h in
    let n = short_means s.0 tbs s.2 in
    record {
      tbs_is = written_means (precert_of c.tbs c.signed.tail.front c.signed.tail.extensions) s.0 s.1 ∙ ap Ok n.0;
      short = subst (λ (l : List ℕ). length l < 16777216) n.0 n.1;
    }

part_passes : (c : Certificate) (tbs : List ℕ) → IsPart c tbs → signed_part_of c ≡ Ok tbs
part_passes c tbs p =
    ap (λ r. written r >>= shortened) p.tbs_is
    ∙ ap (λ (b : Bool). if b then Ok tbs else refused_by rule.Precertificate) (lt-ltb (length tbs) 16777216 p.short)

-- ---- a signature

-- the log's key, of the scheme's sort, by which the signature is good over what was signed
record IsBy (accepts : Judge) (held : Option VerificationKey) (scheme : SigningScheme) (signed : Reading (List ℕ)) (signature : List ℕ) : Type 0 where
  key : VerificationKey
  key_is : held ≡ Some key
  sort : IsTrue (same_sort (key_algorithm_of key.scheme) (key_algorithm_of scheme))
  message : List ℕ
  message_is : signed ≡ Ok message
  good : IsTrue (is_good accepts (key_with scheme key.key) message signature)

over_means : (accepts : Judge) (key : VerificationKey) (signed : Reading (List ℕ)) (signature : List ℕ) → good_over accepts key signed signature ≡ true
    → (message : List ℕ) × (signed ≡ Ok message) × IsTrue (is_good accepts key message signature)
over_means accepts key (Ok message) signature h = (message, refl, h)
over_means accepts key (Err e) signature h = cc

by_means : (accepts : Judge) (held : Option VerificationKey) (scheme : SigningScheme) (signed : Reading (List ℕ)) (signature : List ℕ)
    → good_by accepts (key_under scheme held) signed signature ≡ true → IsBy accepts held scheme signed signature
by_means accepts None scheme signed signature h = cc
by_means accepts (Some key) scheme signed signature h = by (same_sort (key_algorithm_of key.scheme) (key_algorithm_of scheme)) refl h
  where
    by : (b : Bool) → same_sort (key_algorithm_of key.scheme) (key_algorithm_of scheme) ≡ b
        → good_by accepts (if b then Some (key_with scheme key.key) else None) signed signature ≡ true → IsBy accepts (Some key) scheme signed signature
    by true is k =
        let o = over_means accepts (key_with scheme key.key) signed signature k in
        record { key = key; key_is = refl; sort = is; message = o.0; message_is = o.1; good = o.2 }
    by false is k = cc

by_passes : (accepts : Judge) (held : Option VerificationKey) (scheme : SigningScheme) (signed : Reading (List ℕ)) (signature : List ℕ)
    → IsBy accepts held scheme signed signature → good_by accepts (key_under scheme held) signed signature ≡ true
by_passes accepts held scheme signed signature i =
    ap (λ o. good_by accepts (key_under scheme o) signed signature) i.key_is
    ∙ ap (λ (b : Bool). good_by accepts (if b then Some (key_with scheme i.key.key) else None) signed signature) i.sort
    ∙ ap (λ s. good_over accepts (key_with scheme i.key.key) s signature) i.message_is
    ∙ i.good

module _ (t : Trust) (issuer tbs : List ℕ) (sct : Sct) where
  under_means : (o : Option SigningScheme) → scheme_of sct.algorithm ≡ o → good_under t.accepts t.ct_logs (sha256 issuer) tbs sct o ≡ true → IsGoodSct t issuer tbs sct
  under_means None is h = cc
  under_means (Some scheme) is h =
      let b = by_means t.accepts (log_key t.ct_logs sct) scheme (signed_of sct (sha256 issuer) tbs) sct.signature h in
      record {
        scheme = scheme;
        scheme_is = is;
        key = b.key;
        key_is = b.key_is;
        sort = b.sort;
        message = b.message;
        message_is = b.message_is;
        good = b.good;
      }

  good_passes : IsGoodSct t issuer tbs sct → is_good_sct t.accepts t.ct_logs (sha256 issuer) tbs sct ≡ true
  good_passes g =
      ap (good_under t.accepts t.ct_logs (sha256 issuer) tbs sct) g.scheme_is
      ∙ by_passes t.accepts (log_key t.ct_logs sct) g.scheme (signed_of sct (sha256 issuer) tbs) sct.signature
      (record { key = g.key; key_is = g.key_is; sort = g.sort; message = g.message; message_is = g.message_is; good = g.good })

pub good_exactly : GoodExactly
good_exactly t issuer tbs sct = (under_means t issuer tbs sct (scheme_of sct.algorithm) refl, good_passes t issuer tbs sct)

-- ---- the count

pub enough_means : (asked : Threshold) (found count : ℕ) → enough_logs asked found ≡ Ok count → (found ≡ count) × (asked.value ≤ found)
enough_means asked found count h = by (is_enough asked found) (leb-true asked.value found) h
  where
    by : (b : Bool) → (b ≡ true → asked.value ≤ found) → (if b then Ok found else refused_by (rule.TooFew asked.value found)) ≡ Ok count
        → (found ≡ count) × (asked.value ≤ found)
    by true less k = (ok_same found count k, less refl)
    by false less k = cc

enough_passes : (asked : Threshold) (found : ℕ) → asked.value ≤ found → enough_logs asked found ≡ Ok found
enough_passes asked found less =
    ap (λ (b : Bool). if b then Ok found else refused_by (rule.TooFew asked.value found)) (le-leb asked.value found less)

-- ---- all of it

module _ (t : Trust) (asked : Threshold) (leaf issuer : List ℕ) where
  abbrev count_in : List Sct → List ℕ → ℕ
  count_in scts tbs = promising_logs (is_good_sct t.accepts t.ct_logs (sha256 issuer) tbs) scts

  abbrev after_part : List Sct → List ℕ → Result ℕ CertificateRefusal
  after_part scts tbs = enough_logs asked (count_in scts tbs)

  abbrev after_log : Certificate → List Sct → ⊤ → Result ℕ CertificateRefusal
  after_log c scts u = signed_part_of c >>= after_part scts

  abbrev after_scheme : Certificate → List Sct → ⊤ → Result ℕ CertificateRefusal
  after_scheme c scts u = some_log t.ct_logs scts >>= after_log c scts

  abbrev after_list : Certificate → List Sct → Result ℕ CertificateRefusal
  after_list c scts = some_scheme scts >>= after_scheme c scts

  abbrev after_parts : Certificate → Result ℕ CertificateRefusal
  after_parts c = scts_judged t.accepts t.ct_logs asked c issuer

  judged_means : (c : Certificate) (count : ℕ) → certificate_of leaf ≡ Ok c → scts_judged t.accepts t.ct_logs asked c issuer ≡ Ok count
      → HasScts t asked leaf issuer count
  unfolding scts_judged
  judged_means c count read h =
      let a = step_ok (scts_of c) (after_list c) count h in
      let b = step_ok (some_scheme a.0) (after_scheme c a.0) count a.2 in
      let d = step_ok (some_log t.ct_logs a.0) (after_log c a.0) count b.2 in
      let e = step_ok (signed_part_of c) (after_part a.0) count d.2 in
      let p = part_means c e.0 e.1 in
      let n = enough_means asked (count_in a.0 e.0) count e.2 in
      record {
        parts = c;
        read = read;
        scts = a.0;
        listed = a.1;
        known = known_means t a.0 (passes (list_any (is_of_logs t.ct_logs) a.0) InvalidTrustRoot d.0 d.1);
        tbs = e.0;
        tbs_is = p.tbs_is;
        short = p.short;
        logs = sym n.0;
        enough = subst (λ (m : ℕ). asked.value ≤ m) n.0 n.1;
      }

  judged_passes : (count : ℕ) (s : HasScts t asked leaf issuer count) → scts_judged t.accepts t.ct_logs asked s.parts issuer ≡ Ok count
  unfolding scts_judged
  judged_passes count s =
      ap (λ r. r >>= after_list s.parts) s.listed
      ∙ ap (λ (b : Bool). (if b then Ok tt else refused_by rule.Scheme) >>= after_scheme s.parts s.scts) (schemed_passes t s.scts s.known)
      ∙ ap (λ (b : Bool). (if b then Ok tt else Err InvalidTrustRoot) >>= after_log s.parts s.scts) (known_passes t s.scts s.known)
      ∙ ap (λ r. r >>= after_part s.scts) (part_passes s.parts s.tbs (record { tbs_is = s.tbs_is; short = s.short }))
      ∙ ap (enough_logs asked) (sym s.logs)
      ∙ enough_passes asked count s.enough

  pub scts_mean : (count : ℕ) → leaf_scts_judged t asked leaf issuer ≡ Ok count → HasScts t asked leaf issuer count
  unfolding leaf_scts_judged
  scts_mean count h =
      let s = step_ok (parts_read (certificate_of leaf)) after_parts count h in
      judged_means s.0 count (parts_mean (certificate_of leaf) s.0 s.1) s.2

  pub scts_pass : (count : ℕ) → HasScts t asked leaf issuer count → leaf_scts_judged t asked leaf issuer ≡ Ok count
  unfolding leaf_scts_judged
  scts_pass count s = ap (λ r. parts_read r >>= after_parts) s.read ∙ judged_passes count s
