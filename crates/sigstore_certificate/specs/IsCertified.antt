-- What it means that a certificate is accepted for a signature, told without any order of checks.
use Rattle.std.specs.Prelude.{◌≡◌, ◌≢◌, ◌↔◌, ◌≤◌, ◌<◌, ℕ, List, [], ◌∷◌, length}
use Rattle.std.specs.Prelude.{Contains, Bool, true, false, ⊤, Option, Some, None, Ok, IsTrue}
use Rattle.std.specs.List.{AllByRecursion}
use Rattle.sha2.specs.Sha256.{sha256}
use Rattle.jiff_core.specs.declared.timestamp.Timestamp.{Timestamp}
use Rattle.x509_views.specs.Certificates.{Certificate, certificate_of}
use Rattle.x509_views.specs.Precertificates.{precert_of}
use Rattle.x509_views.specs.Scts.{Parts as Sct, signed_of}
use Rattle.sigstore_types_parts.specs.Instant.{at_millisecond}
use Rattle.sigstore_types_parts.specs.TimeRange.{is_by}
use Rattle.sigstore_keys.specs.declared.key.VerificationKey.{VerificationKey}
use Rattle.sigstore_keys.specs.declared.distinct.Threshold.{Threshold}
use Rattle.sigstore_keys.specs.declared.scheme.SigningScheme.{SigningScheme}
use Rattle.sigstore_keys.specs.Good.{is_good}
use Rattle.sigstore_keys.specs.Key.{key_with, same_sort}
use Rattle.sigstore_keys.specs.Keyring.{is_used_at, key_at, has_key_of}
use Rattle.sigstore_keys.specs.Scheme.{key_algorithm_of}
use Rattle.certificate_claims.specs.declared.certificate_info.CertificateInfo.{CertificateInfo}
use Rattle.certificate_claims.specs.declared.certificate_info.SubjectAltName.{SubjectAltName}
use Rattle.certificate_claims.specs.declared.claims.FulcioCiClaims.{FulcioCiClaims}
use Rattle.certificate_claims.specs.ClaimNames.{claim_in}
use Rattle.path_core.specs.declared.purpose.Purpose.TheVariants.{CodeSigning}
use Rattle.path_core.specs.declared.route.FoundPath.{FoundPath}
use Rattle.path_core.specs.Anchors.{TrustAnchor}
use Rattle.path_core.specs.Paths.{setting, IsFound}
use Rattle.sigstore_policy.specs.declared.certificate.CertificatePolicy.{CertificatePolicy}
use Rattle.sigstore_policy.specs.declared.certificate.CertificatePolicy.TheVariants.{Skip, Verify}
use Rattle.sigstore_policy.specs.declared.certificate.IdentityMatcher.{IdentityMatcher}
use Rattle.sigstore_policy.specs.declared.certificate.VerificationPolicy.{VerificationPolicy}
use Rattle.sigstore_policy.specs.declared.matcher.ClaimMatcher.{ClaimMatcher}
use Rattle.sigstore_certificate.specs.Certified.{Trust, certified_of}
use Rattle.sigstore_policy.specs.Certificate.{matches}
use Rattle.sigstore_policy.specs.Matcher.{text_matches}
use Rattle.sigstore_certificate.specs.Scts.{scheme_of, scts_of, is_good_sct, promising_logs}

-- ---- the path

-- at a time: a trusted authority's window has it, a first path for code signing leads to one, and the certificate's window has it;
-- this is the key of its issuer on that path
pub record IsValidAt (t : Trust) (info : CertificateInfo) (leaf : List ℕ) (intermediates : List (List ℕ)) (time : Timestamp)
    (issuer : List ℕ) : Type 0 where
  pub anchor : TrustAnchor
  pub among : Contains t.anchors anchor
  pub used : IsTrue (is_used_at time anchor.valid_for)
  pub path : FoundPath
  pub first : IsFound (setting t.accepts leaf intermediates t.anchors CodeSigning time) path
  pub started : IsTrue (is_by info.not_before time)
  pub unended : IsTrue (is_by time info.not_after)
  pub issuer_is : path.issuer_spki ≡ issuer

-- at each of the times; this is the key of its issuer at the last of them
abbrev pub IsValidAtEach : Trust → CertificateInfo → List ℕ → List (List ℕ) → List Timestamp → List ℕ → List ℕ → Type 0
IsValidAtEach t info leaf intermediates [] before issuer = before ≡ issuer
IsValidAtEach t info leaf intermediates (time ∷ times) before issuer =
    (next : List ℕ) × IsValidAt t info leaf intermediates time next × IsValidAtEach t info leaf intermediates times next issuer

-- ---- the promises of logs

-- one of the timestamps has a scheme, and some trusted log a key of that sort
pub record IsKnown (t : Trust) (scts : List Sct) : Type 0 where
  pub sct : Sct
  pub among : Contains scts sct
  pub scheme : SigningScheme
  pub scheme_is : scheme_of sct.algorithm ≡ Some scheme
  pub some : IsTrue (has_key_of scheme t.ct_logs)

-- The certificate has a list of timestamps, one of a scheme of which some trusted log has a key; its signed part without them can be
-- written, in less than 2^24 octets; as many different logs as are asked for have a good one for it; and so many do.
pub record HasScts (t : Trust) (asked : Threshold) (leaf issuer : List ℕ) (promised : ℕ) : Type 0 where
  pub parts : Certificate
  pub read : certificate_of leaf ≡ Ok parts
  pub scts : List Sct
  pub listed : scts_of parts ≡ Ok scts
  pub known : IsKnown t scts
  pub tbs : List ℕ
  pub tbs_is : precert_of parts.tbs parts.signed.tail.front parts.signed.tail.extensions ≡ Ok tbs
  pub short : length tbs < 16777216
  pub logs : promised ≡ promising_logs (is_good_sct t.accepts t.ct_logs (sha256 issuer) tbs) scts
  pub enough : asked.value ≤ promised

abbrev pub HasSctsIf : Bool → Trust → Threshold → List ℕ → List ℕ → ℕ → Type 0
HasSctsIf false t asked leaf issuer promised = promised ≡ 0
HasSctsIf true t asked leaf issuer promised = HasScts t asked leaf issuer promised

-- there is a verified time, it was valid at each, and where that is asked for promised by logs for the issuer at the last of them
pub record IsChained (t : Trust) (verify_sct : Bool) (asked : Threshold) (info : CertificateInfo) (leaf : List ℕ)
    (intermediates : List (List ℕ)) (times : List Timestamp) (promised : ℕ) : Type 0 where
  pub timed : times ≢ []
  pub issuer : List ℕ
  pub valid : IsValidAtEach t info leaf intermediates times [] issuer
  pub scts : HasSctsIf verify_sct t asked leaf issuer promised

abbrev pub IsChainedIf :
    Trust → CertificatePolicy → Threshold → CertificateInfo → List ℕ → List (List ℕ) → List Timestamp → ℕ → Type 0
IsChainedIf t Skip asked info leaf intermediates times promised = promised ≡ 0
IsChainedIf t (Verify verify_sct) asked info leaf intermediates times promised =
    IsChained t verify_sct asked info leaf intermediates times promised

-- ---- what a good timestamp is

-- Its algorithm has a scheme, the log of its id has a key of that sort, which is used at its time, and by that key the signature is good
-- over what the log signed: the certificate's signed part, for the issuer of that key.
pub record IsGoodSct (t : Trust) (issuer tbs : List ℕ) (sct : Sct) : Type 0 where
  pub scheme : SigningScheme
  pub scheme_is : scheme_of sct.algorithm ≡ Some scheme
  pub key : VerificationKey
  pub key_is : key_at sct.log_id (at_millisecond sct.milliseconds) t.ct_logs ≡ Some key
  pub sort : IsTrue (same_sort (key_algorithm_of key.scheme) (key_algorithm_of scheme))
  pub message : List ℕ
  pub message_is : signed_of sct (sha256 issuer) tbs ≡ Ok message
  pub good : IsTrue (is_good t.accepts (key_with scheme key.key) message sct.signature)

-- a timestamp counts exactly where it is good
abbrev pub GoodExactly : Type 0
GoodExactly = (t : Trust) (issuer tbs : List ℕ) (sct : Sct)
    → (is_good_sct t.accepts t.ct_logs (sha256 issuer) tbs sct ≡ true) ↔ IsGoodSct t issuer tbs sct

-- ---- the names

abbrev pub HasIdentity : Option IdentityMatcher → Option SubjectAltName → Type 0
HasIdentity None actual = ⊤
HasIdentity (Some matcher) actual = (identity : SubjectAltName) × (actual ≡ Some identity) × IsTrue (matches matcher identity)

abbrev pub HasIssuer : Option (List ℕ) → Option (List ℕ) → Type 0
HasIssuer None actual = ⊤
HasIssuer (Some text) actual = actual ≡ Some text

-- a claim is told under its own name, and is what is asked for
abbrev pub HasClaim : FulcioCiClaims → ClaimMatcher → Type 0
HasClaim claims asked = (text : List ℕ) × (claim_in claims asked.name ≡ Some text) × IsTrue (text_matches asked.text text)

abbrev pub HasClaims : List ClaimMatcher → FulcioCiClaims → Type 0
HasClaims asked claims = AllByRecursion (HasClaim claims) asked

-- ---- all of it

pub record IsCertified (t : Trust) (policy : VerificationPolicy) (info : CertificateInfo) (leaf : List ℕ) (intermediates : List (List ℕ))
    (times : List Timestamp) (promised : ℕ) : Type 0 where
  pub chain : IsChainedIf t policy.certificate policy.scts info leaf intermediates times promised
  pub identity : HasIdentity policy.identity info.identity
  pub issuer : HasIssuer policy.issuer info.issuer
  pub claims : HasClaims policy.claims info.ci_claims

-- the judgement accepts exactly the certificates that are to be accepted, and tells how many different logs promised each
abbrev pub CertifiedExactly : Type 0
CertifiedExactly = (t : Trust) (policy : VerificationPolicy) (info : CertificateInfo) (leaf : List ℕ) (intermediates : List (List ℕ))
    (times : List Timestamp) (promised : ℕ)
    → (certified_of t policy info leaf intermediates times ≡ Ok promised) ↔ IsCertified t policy info leaf intermediates times promised
