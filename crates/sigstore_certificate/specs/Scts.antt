-- The timestamps of logs of certificates in a certificate (RFC 6962, sections 3.2 and 3.3).
use Rattle.std.specs.Prelude.{ℕ, List, [], ◌∷◌, length, Bool, false, nat_lt, bytes_eq, if◌then◌else◌, is_some, filter_map}
use Rattle.std.specs.Prelude.{Option, Some, None, Result, Ok, Err, ⊤}
use Rattle.std.specs.List.{list_any}
use Rattle.foundation.specs.Steps.{◌>>=◌}
use Rattle.sha2.specs.Sha256.{sha256}
use Rattle.spki_core.specs.Reading.{Reading}
use Rattle.x509_views.specs.Certificates.{Certificate}
use Rattle.x509_views.specs.Precertificates.{sct_oid, precert_of}
use Rattle.x509_views.specs.Scts.{Parts as Sct, sct_list_of, signed_of}
use Rattle.sigstore_types_parts.specs.Instant.{at_millisecond}
use Rattle.sigstore_keys.specs.declared.key.VerificationKey.{VerificationKey}
use Rattle.sigstore_keys.specs.declared.distinct.Threshold.{Threshold}
use Rattle.sigstore_keys.specs.declared.scheme.SigningScheme.{SigningScheme}
use Rattle.sigstore_keys.specs.declared.scheme.SigningScheme.TheVariants.{EcdsaP256Sha256, EcdsaP384Sha384}
use Rattle.sigstore_keys.specs.declared.scheme.SigningScheme.TheVariants.{RsaPkcs1Sha256, RsaPkcs1Sha384, RsaPkcs1Sha512}
use Rattle.sigstore_keys.specs.Good.{Judge, is_good}
use Rattle.sigstore_keys.specs.Key.{key_with, same_sort}
use Rattle.sigstore_keys.specs.Keyring.{Ring, key_at, has_key_of}
use Rattle.sigstore_keys.specs.Distinct.{count_distinct, is_enough}
use Rattle.sigstore_keys.specs.Scheme.{key_algorithm_of}
use Rattle.certificate_fields.specs.Fields.{value_of, extensions_of}
use Rattle.sigstore_certificate.specs.declared.error.SctRule.{SctRule}
use Rattle.sigstore_certificate.specs.declared.error.SctRule.TheVariants as rule
use Rattle.sigstore_certificate.specs.declared.error.CertificateRefusal.{CertificateRefusal}
use Rattle.sigstore_certificate.specs.declared.error.CertificateRefusal.TheVariants as refusal

abbrev pub refused_by : {A : Type 0} → SctRule → Result A CertificateRefusal
refused_by broken = Err (refusal.Sct broken)

-- ---- those that the certificate has

abbrev pub scts_in : Reading (List Sct) → Result (List Sct) CertificateRefusal
scts_in (Ok scts) = Ok scts
scts_in (Err e) = refused_by rule.List

abbrev pub listed : Option (List ℕ) → Result (List Sct) CertificateRefusal
listed None = refused_by rule.List
listed (Some value) = scts_in (sct_list_of value)

-- the list is there and readable
abbrev pub scts_of : Certificate → Result (List Sct) CertificateRefusal
scts_of c = listed (value_of sct_oid (extensions_of c))

-- SignatureAndHashAlgorithm (RFC 5246, 7.4.1.4.1)
abbrev pub scheme_of : List ℕ → Option SigningScheme
scheme_of algorithm =
    if bytes_eq algorithm (4 ∷ 3 ∷ []) then Some EcdsaP256Sha256
    else (if bytes_eq algorithm (5 ∷ 3 ∷ []) then Some EcdsaP384Sha384
    else (if bytes_eq algorithm (4 ∷ 1 ∷ []) then Some RsaPkcs1Sha256
    else (if bytes_eq algorithm (5 ∷ 1 ∷ []) then Some RsaPkcs1Sha384
    else (if bytes_eq algorithm (6 ∷ 1 ∷ []) then Some RsaPkcs1Sha512
    else None))))

abbrev pub has_scheme : Sct → Bool
has_scheme sct = is_some (scheme_of sct.algorithm)

-- some timestamp's algorithm has a scheme: else nothing could decide whether a log signed
abbrev pub some_scheme : List Sct → Result ⊤ CertificateRefusal
some_scheme scts = if list_any has_scheme scts then Ok tt else refused_by rule.Scheme

abbrev pub is_of_ring : Ring → Option SigningScheme → Bool
is_of_ring ring None = false
is_of_ring ring (Some scheme) = has_key_of scheme ring

-- some trusted log's key is of the sort that a timestamp's scheme asks for
abbrev pub is_of_logs : Ring → Sct → Bool
is_of_logs ring sct = is_of_ring ring (scheme_of sct.algorithm)

-- one of them is such a timestamp: else the trusted logs aren't those of such certificates
abbrev pub some_log : Ring → List Sct → Result ⊤ CertificateRefusal
some_log ring scts = if list_any (is_of_logs ring) scts then Ok tt else Err refusal.InvalidTrustRoot

-- ---- what the log signed

abbrev pub written : Reading (List ℕ) → Result (List ℕ) CertificateRefusal
written (Ok octets) = Ok octets
written (Err e) = refused_by rule.Precertificate

-- what a log signed, and the log's identifier
pub record SignedByLog : Type 0 where
  pub log_id : List ℕ
  pub octets : List ℕ

-- the timestamp, the SHA-256 value of the issuer's key, and the certificate's signed part without its timestamps
unfoldable pub signed_data_of : Certificate → Sct → List ℕ → Result (List ℕ) CertificateRefusal
signed_data_of c sct key_hash = do
  tbs ← written (precert_of c.tbs c.signed.tail.front c.signed.tail.extensions)
  written (signed_of sct key_hash tbs)

-- the certificate's signed part without its timestamps, of which three octets can tell the length: the same for every log
abbrev pub signed_part_of : Certificate → Result (List ℕ) CertificateRefusal
signed_part_of c = do
  tbs ← written (precert_of c.tbs c.signed.tail.front c.signed.tail.extensions)
  if nat_lt (length tbs) 16777216 then Ok tbs else refused_by rule.Precertificate

-- ---- the signatures

-- the key under the scheme, where it is of the scheme's sort: an RSA key is one of three
abbrev pub key_under : SigningScheme → Option VerificationKey → Option VerificationKey
key_under scheme None = None
key_under scheme (Some key) =
    if same_sort (key_algorithm_of key.scheme) (key_algorithm_of scheme) then Some (key_with scheme key.key) else None

-- the key of the log of that id, which is used at the timestamp's time
abbrev pub log_key : Ring → Sct → Option VerificationKey
log_key ring sct = key_at sct.log_id (at_millisecond sct.milliseconds) ring

abbrev pub good_over : Judge → VerificationKey → Reading (List ℕ) → List ℕ → Bool
good_over accepts key (Ok message) signature = is_good accepts key message signature
good_over accepts key (Err e) signature = false

abbrev pub good_by : Judge → Option VerificationKey → Reading (List ℕ) → List ℕ → Bool
good_by accepts None message signature = false
good_by accepts (Some key) message signature = good_over accepts key message signature

abbrev pub good_under : Judge → Ring → List ℕ → List ℕ → Sct → Option SigningScheme → Bool
good_under accepts ring key_hash tbs sct None = false
good_under accepts ring key_hash tbs sct (Some scheme) =
    good_by accepts (key_under scheme (log_key ring sct)) (signed_of sct key_hash tbs) sct.signature

-- A timestamp is good where its algorithm has a scheme, the log of its id has a key of that sort, which is used at its time, and by that
-- key the signature is good over the certificate's signed part, for the issuer of that key's SHA-256 value.
abbrev pub is_good_sct : Judge → Ring → List ℕ → List ℕ → Sct → Bool
is_good_sct accepts ring key_hash tbs sct = good_under accepts ring key_hash tbs sct (scheme_of sct.algorithm)

-- the log that promised by a timestamp, where it is good
abbrev pub promising : (Sct → Bool) → Sct → Option (List ℕ)
promising good sct = if good sct then Some sct.log_id else None

-- how many different logs have a good one
abbrev pub promising_logs : (Sct → Bool) → List Sct → ℕ
promising_logs good scts = count_distinct (filter_map (promising good) scts)

-- As many different logs as are asked for have a good one, or more: one log alone could keep the certificate to itself, or show it to
-- nobody but whoever asked for it.
abbrev pub enough_logs : Threshold → ℕ → Result ℕ CertificateRefusal
enough_logs asked found = if is_enough asked found then Ok found else refused_by (rule.TooFew asked.value found)

-- ---- all of it

-- The certificate has a list of timestamps; some of them has a scheme, and some such scheme a trusted log's key; the signed part can be
-- written; and enough logs have a good timestamp, for the certificate's issuer by that key. So many logs do.
unfoldable pub scts_judged : Judge → Ring → Threshold → Certificate → List ℕ → Result ℕ CertificateRefusal
scts_judged accepts ring asked c issuer_spki = do
  scts ← scts_of c
  _ ← some_scheme scts
  _ ← some_log ring scts
  tbs ← signed_part_of c
  enough_logs asked (promising_logs (is_good_sct accepts ring (sha256 issuer_spki) tbs) scts)
