-- What each refusal tells of the certificate.
use Rattle.std.specs.Prelude.{◌≡◌, ◌≤◌, ◌<◌, ℕ, List, [], Contains, false, length, Option, Some, None, Ok, Err, IsTrue}
use Rattle.sha2.specs.Sha256.{sha256}
use Rattle.jiff_core.specs.declared.timestamp.Timestamp.{Timestamp}
use Rattle.spki_core.specs.declared.error.X509Error.{X509Error}
use Rattle.x509_views.specs.Certificates.{Certificate, certificate_of}
use Rattle.x509_views.specs.Precertificates.{sct_oid, precert_of}
use Rattle.x509_views.specs.Scts.{Parts as OneSct, sct_list_of}
use Rattle.der_grammar.specs.Tlv.{IsBytes}
use Rattle.sigstore_types_parts.specs.TimeRange.{is_by}
use Rattle.sigstore_keys.specs.declared.distinct.Threshold.{Threshold}
use Rattle.sigstore_keys.specs.declared.scheme.SigningScheme.{SigningScheme}
use Rattle.certificate_claims.specs.declared.certificate_info.CertificateInfo.{CertificateInfo}
use Rattle.certificate_claims.specs.declared.certificate_info.SubjectAltName.{SubjectAltName}
use Rattle.certificate_claims.specs.declared.claim_name.ClaimName.{ClaimName}
use Rattle.certificate_claims.specs.ClaimNames.{claim_in}
use Rattle.certificate_fields.specs.Fields.{value_of, extensions_of}
use Rattle.path_core.specs.declared.error.LeafFault.{LeafFault}
use Rattle.path_core.specs.declared.error.PathError.TheVariants.{Leaf}
use Rattle.path_core.specs.declared.purpose.Purpose.TheVariants.{CodeSigning}
use Rattle.path_core.specs.declared.route.Route.{Route}
use Rattle.path_core.specs.Paths.{setting, IsPath}
use Rattle.path_core.specs.Traits.{leaf_of}
use Rattle.sigstore_policy.specs.declared.certificate.IdentityMatcher.{IdentityMatcher}
use Rattle.sigstore_policy.specs.declared.certificate.VerificationPolicy.{VerificationPolicy}
use Rattle.sigstore_policy.specs.declared.matcher.TextMatcher.{TextMatcher}
use Rattle.sigstore_certificate.specs.declared.error.CertificateRefusal.{CertificateRefusal}
use Rattle.sigstore_certificate.specs.declared.error.CertificateRefusal.TheVariants as refusal
use Rattle.sigstore_certificate.specs.declared.error.SctRule.{SctRule}
use Rattle.sigstore_certificate.specs.declared.error.SctRule.TheVariants as rule
use Rattle.sigstore_certificate.specs.Certified.{Trust, has_authority, issued_at_each, certified_of}
use Rattle.sigstore_certificate.specs.Error.{refusal_of_path}
use Rattle.sigstore_certificate.specs.IsCertified.{IsKnown}
use Rattle.sigstore_certificate.specs.Names.{is_matched, is_text}
use Rattle.sigstore_policy.specs.Certificate.{verifies_chain, verifies_sct}
use Rattle.sigstore_policy.specs.Matcher.{is_matched as is_text_matched}
use Rattle.sigstore_certificate.specs.Scts.{scts_of, scheme_of, is_of_logs, is_good_sct, promising_logs, signed_data_of}

-- ---- the path

-- it is no leaf by its reading, its version or its critical extensions
pub record IsNoLeaf (leaf : List ℕ) : Type 0 where
  pub fault : LeafFault
  pub lacks : leaf_of CodeSigning leaf ≡ Err fault
  pub malformed : refusal_of_path (Leaf fault) ≡ refusal.Malformed

-- no authority's window has a verified time
pub record LacksAuthority (t : Trust) (times : List Timestamp) (time : Timestamp) : Type 0 where
  pub among : Contains times time
  pub none : has_authority t.anchors time ≡ false

-- there is no path at a verified time; also where the certificate may issue others or is for another purpose
pub record LacksPath (t : Trust) (leaf : List ℕ) (intermediates : List (List ℕ)) (times : List Timestamp) : Type 0 where
  pub time : Timestamp
  pub among : Contains times time
  pub none : (p : Route) → ¬ IsPath (setting t.accepts leaf intermediates t.anchors CodeSigning time) p

-- the certificate's window begins after a verified time
pub record IsEarly (info : CertificateInfo) (times : List Timestamp) (time not_before : Timestamp) : Type 0 where
  pub among : Contains times time
  pub start : not_before ≡ info.not_before
  pub early : is_by info.not_before time ≡ false

-- it ended before a verified time
pub record IsLate (info : CertificateInfo) (times : List Timestamp) (time not_after : Timestamp) : Type 0 where
  pub among : Contains times time
  pub ended : not_after ≡ info.not_after
  pub late : is_by time info.not_after ≡ false

-- ---- the timestamps, for the issuer at the last verified time

-- the certificate has no list of timestamps, or one that isn't read
pub data HasNoList (c : Certificate) : Type 0 where
  no_extension : value_of sct_oid (extensions_of c) ≡ None → HasNoList c
  unread : (value : List ℕ) (fault : X509Error) → value_of sct_oid (extensions_of c) ≡ Some value → sct_list_of value ≡ Err fault
      → HasNoList c

-- its list is read, and no timestamp in it has a scheme
pub record HasNoScheme (c : Certificate) : Type 0 where
  pub scts : List OneSct
  pub listed : scts_of c ≡ Ok scts
  pub none : (sct : OneSct) → Contains scts sct → scheme_of sct.algorithm ≡ None

-- these are its timestamps, and some trusted log's key is of the sort that one of them asks for
pub record HasKnown (t : Trust) (c : Certificate) (scts : List OneSct) : Type 0 where
  pub listed : scts_of c ≡ Ok scts
  pub known : IsKnown t scts

-- what a log signs with them can't be written: the certificate's signed part without its timestamps can't, or is too long
pub data IsUnwritten (t : Trust) (c : Certificate) : Type 0 where
  no_part : (scts : List OneSct) (fault : X509Error) → HasKnown t c scts
      → precert_of c.tbs c.signed.tail.front c.signed.tail.extensions ≡ Err fault → IsUnwritten t c
  no_length : (scts : List OneSct) (tbs : List ℕ) → HasKnown t c scts
      → precert_of c.tbs c.signed.tail.front c.signed.tail.extensions ≡ Ok tbs → 16777216 ≤ length tbs → IsUnwritten t c

-- it is written, and so many different logs have a good timestamp for it, fewer than are asked for
pub record HasTooFew (t : Trust) (c : Certificate) (issuer : List ℕ) (asked found : ℕ) : Type 0 where
  pub scts : List OneSct
  pub has : HasKnown t c scts
  pub tbs : List ℕ
  pub tbs_is : precert_of c.tbs c.signed.tail.front c.signed.tail.extensions ≡ Ok tbs
  pub short : length tbs < 16777216
  pub count : found ≡ promising_logs (is_good_sct t.accepts t.ct_logs (sha256 issuer) tbs) scts
  pub few : found < asked

-- the rule that a refusal names is the broken one, and those that come before it are kept
abbrev pub SctCause : Trust → Threshold → Certificate → List ℕ → SctRule → Type 0
SctCause t threshold c issuer rule.List = HasNoList c
SctCause t threshold c issuer rule.Scheme = HasNoScheme c
SctCause t threshold c issuer rule.Precertificate = IsUnwritten t c
SctCause t threshold c issuer (rule.TooFew asked found) = (asked ≡ threshold.value) × HasTooFew t c issuer asked found

-- there is a path at each verified time; and for the issuer at the last of them the certificate's timestamps break this rule
pub record LacksScts (t : Trust) (threshold : Threshold) (info : CertificateInfo) (leaf : List ℕ) (intermediates : List (List ℕ))
    (times : List Timestamp) (broken : SctRule) : Type 0 where
  pub issuer : List ℕ
  pub valid : issued_at_each t info leaf intermediates times ≡ Ok issuer
  pub parts : Certificate
  pub read : certificate_of leaf ≡ Ok parts
  pub cause : SctCause t threshold parts issuer broken

-- some timestamp has a scheme, and no trusted log's key is of the sort that any of them asks for
pub record LacksLog (t : Trust) (leaf : List ℕ) : Type 0 where
  pub parts : Certificate
  pub read : certificate_of leaf ≡ Ok parts
  pub scts : List OneSct
  pub listed : scts_of parts ≡ Ok scts
  pub sct : OneSct
  pub among : Contains scts sct
  pub scheme : SigningScheme
  pub scheme_is : scheme_of sct.algorithm ≡ Some scheme
  pub none : (other : OneSct) → Contains scts other → is_of_logs t.ct_logs other ≡ false

-- ---- the names

pub record IsOfOther (policy : VerificationPolicy) (info : CertificateInfo) (matcher : IdentityMatcher)
    (actual : Option SubjectAltName) : Type 0 where
  pub asked : policy.identity ≡ Some matcher
  pub said : info.identity ≡ actual
  pub other : is_matched matcher actual ≡ false

pub record IsByOther (policy : VerificationPolicy) (info : CertificateInfo) (text : List ℕ) (actual : Option (List ℕ)) : Type 0 where
  pub asked : policy.issuer ≡ Some text
  pub said : info.issuer ≡ actual
  pub other : is_text text actual ≡ false

-- one of the claims that are asked for isn't told so
pub record LacksClaim (policy : VerificationPolicy) (info : CertificateInfo) (name : ClaimName) (matcher : TextMatcher)
    (actual : Option (List ℕ)) : Type 0 where
  pub among : Contains policy.claims (record { name = name; text = matcher })
  pub said : claim_in info.ci_claims name ≡ actual
  pub other : is_text_matched matcher actual ≡ false

-- ---- by name

abbrev pub Cause : Trust → VerificationPolicy → CertificateInfo → List ℕ → List (List ℕ) → List Timestamp → CertificateRefusal → Type 0
Cause t policy info leaf intermediates times refusal.Malformed = IsTrue (verifies_chain policy.certificate) × IsNoLeaf leaf
Cause t policy info leaf intermediates times refusal.ChainInvalid =
    IsTrue (verifies_chain policy.certificate) × LacksPath t leaf intermediates times
Cause t policy info leaf intermediates times refusal.NoTime = IsTrue (verifies_chain policy.certificate) × (times ≡ [])
Cause t policy info leaf intermediates times (refusal.NoValidAuthority time) =
    IsTrue (verifies_chain policy.certificate) × LacksAuthority t times time
Cause t policy info leaf intermediates times (refusal.NotYetValid time not_before) =
    IsTrue (verifies_chain policy.certificate) × IsEarly info times time not_before
Cause t policy info leaf intermediates times (refusal.Expired time not_after) =
    IsTrue (verifies_chain policy.certificate) × IsLate info times time not_after
Cause t policy info leaf intermediates times (refusal.Sct broken) =
    IsTrue (verifies_sct policy.certificate) × LacksScts t policy.scts info leaf intermediates times broken
Cause t policy info leaf intermediates times refusal.InvalidTrustRoot = IsTrue (verifies_sct policy.certificate) × LacksLog t leaf
Cause t policy info leaf intermediates times (refusal.IdentityMismatch matcher actual) = IsOfOther policy info matcher actual
Cause t policy info leaf intermediates times (refusal.IssuerMismatch text actual) = IsByOther policy info text actual
Cause t policy info leaf intermediates times (refusal.ClaimMismatch name matcher actual) = LacksClaim policy info name matcher actual
Cause t policy info leaf intermediates times refusal.NoMemory = ⊥

-- each refusal comes only where its cause holds
abbrev pub Refusals : Type 0
Refusals = (t : Trust) (policy : VerificationPolicy) (info : CertificateInfo) (leaf : List ℕ) (intermediates : List (List ℕ))
    (times : List Timestamp) (e : CertificateRefusal) → certified_of t policy info leaf intermediates times ≡ Err e
    → Cause t policy info leaf intermediates times e

-- ---- what a log signed

-- the certificate's signed part without its timestamps is there, and has 2^24 octets or more, which three octets can't count
pub record IsTooLong (c : Certificate) : Type 0 where
  pub tbs : List ℕ
  pub tbs_is : precert_of c.tbs c.signed.tail.front c.signed.tail.extensions ≡ Ok tbs
  pub long : 16777216 ≤ length tbs

-- for a certificate that was read it can't be written only where it is too long
abbrev pub WrittenUnlessLong : Type 0
WrittenUnlessLong = (bytes : List ℕ) (c : Certificate) (sct : OneSct) (key_hash : List ℕ) (e : CertificateRefusal) → IsBytes bytes
    → certificate_of bytes ≡ Ok c → signed_data_of c sct key_hash ≡ Err e → (e ≡ refusal.Sct rule.Precertificate) × IsTooLong c
