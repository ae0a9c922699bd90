-- What each refusal of a token under an authority tells, without any order of checks (RFC 3161; RFC 5652; RFC 5280).
use Rattle.std.specs.Prelude.{◌≡◌, ℕ, List, [], ◌∷◌, false, bytes_eq, Some, None, Result, Ok, Err}
use Rattle.der_grammar.specs.Grammar.{read_all}
use Rattle.x509_core.specs.declared.attribute.Attribute.{Attribute}
use Rattle.x509_views.specs.Certificates.{Certificate, certificate_of}
use Rattle.cms_parts.specs.declared.content_info.ContentInfo.{ContentInfo}
use Rattle.cms_parts.specs.declared.signed_data.SignedData.{SignedData}
use Rattle.cms_parts.specs.declared.signed_data.SignerInfo.{SignerInfo}
use Rattle.cms_parts.specs.ContentInfo.{content_info_type}
use Rattle.cms_parts.specs.Identifiers.{signed_data_oid}
use Rattle.cms_parts.specs.SignedData.{signed_data_type}
use Rattle.sigstore_types_parts.specs.declared.hash_algorithm.HashAlgorithm.{HashAlgorithm}
use Rattle.sigstore_types_parts.specs.TimeRange.{has_started, ends_by}
use Rattle.sigstore_types.specs.declared.authority.TsaAuthority.{TsaAuthority}
use Rattle.sigstore_keys.specs.declared.key.VerificationKey.{VerificationKey}
use Rattle.sigstore_keys.specs.Digest.{digest_by}
use Rattle.sigstore_keys.specs.Good.{Judge}
use Rattle.path_core.specs.Anchors.{may_anchor, is_since_1970}
use Rattle.path_core.specs.Path.{path_of}
use Rattle.path_core.specs.Traits.{window_of}
use Rattle.sigstore_tsa_parts.specs.declared.content.TokenContent.{TokenContent}
use Rattle.sigstore_tsa_parts.specs.declared.error.CertificateFault.{CertificateFault}
use Rattle.sigstore_tsa_parts.specs.declared.error.CertificateFault.TheVariants as fault
use Rattle.sigstore_tsa_parts.specs.declared.error.Error.{Error}
use Rattle.sigstore_tsa_parts.specs.declared.error.Error.TheVariants.{SignatureVerificationError, HashMismatch, NoTstInfo, CertificateValidationError}
use Rattle.sigstore_tsa_parts.specs.declared.error.Error.TheVariants.{Parse, TimestampOutsideValidity}
use Rattle.sigstore_tsa_parts.specs.declared.error.ParseRule.{ParseRule}
use Rattle.sigstore_tsa_parts.specs.declared.error.ParseRule.TheVariants as parse
use Rattle.sigstore_tsa_parts.specs.declared.error.SignatureRule.{SignatureRule}
use Rattle.sigstore_tsa_parts.specs.declared.error.SignatureRule.TheVariants as rule
use Rattle.sigstore_tsa_parts.specs.declared.response.TimeStampResp.{TimeStampResp}
use Rattle.sigstore_tsa_parts.specs.Content.{value_in, is_granted, content_info_of, signed_data_of, token_content_of}
use Rattle.sigstore_tsa_parts.specs.Identifiers.{digest_named, tst_info_oid}
use Rattle.sigstore_tsa_parts.specs.Types.{time_stamp_resp_type, tst_info_type}
use Rattle.sigstore_tsa.specs.Signer.{is_named, digest_told_of, key_of, is_signed}
use Rattle.sigstore_tsa.specs.Stamp.{time_of}
use Rattle.sigstore_tsa.specs.Stamped.{stamped_of, IsOutside}
use Rattle.sigstore_tsa.specs.Vouched.{setting_of}

-- a step refuses, whatever its refusal is
abbrev pub Refuses : {A E : Type 0} → Result A E → Type 0
Refuses {A} {E} r = (e : E) × (r ≡ Err e)

-- ---- the token itself

abbrev pub IsResponse : List ℕ → TimeStampResp → Type 0
IsResponse token response = read_all time_stamp_resp_type.grammar token ≡ Ok response

-- a response that isn't granted
pub record IsUngranted (token : List ℕ) : Type 0 where
  pub response : TimeStampResp
  pub is : IsResponse token response
  pub status : is_granted response.status.status ≡ false

-- a response without a token
pub record HasNoToken (token : List ℕ) : Type 0 where
  pub response : TimeStampResp
  pub is : IsResponse token response
  pub none : response.time_stamp_token ≡ None

-- neither a response nor a ContentInfo; or a response with a token that is no ContentInfo
pub data HasNoContentInfo (token : List ℕ) : Type 0 where
  bare : Refuses (read_all time_stamp_resp_type.grammar token) → Refuses (read_all content_info_type.grammar token) → HasNoContentInfo token
  held : (response : TimeStampResp) (value : ℕ × List ℕ) → IsResponse token response → response.time_stamp_token ≡ Some value
      → Refuses (value_in content_info_type.grammar value) → HasNoContentInfo token

-- a ContentInfo of another type, or one whose signed data isn't read
pub data HasNoSignedData (token : List ℕ) : Type 0 where
  other_type : (content : ContentInfo) → content_info_of token ≡ Ok content → bytes_eq content.content_type signed_data_oid ≡ false
      → HasNoSignedData token
  unread : (content : ContentInfo) → content_info_of token ≡ Ok content → Refuses (value_in signed_data_type.grammar content.content)
      → HasNoSignedData token

-- the token's signed data
pub record Holds (token : List ℕ) : Type 0 where
  pub content : ContentInfo
  pub is : content_info_of token ≡ Ok content
  pub signed : SignedData
  pub held : signed_data_of content ≡ Ok signed

-- signed data over another type than TSTInfo
pub record IsOfOtherType (token : List ℕ) : Type 0 where
  pub holds : Holds token
  pub other : bytes_eq holds.signed.encap_content_info.econtent_type tst_info_oid ≡ false

-- signed data over nothing
pub record IsOfNothing (token : List ℕ) : Type 0 where
  pub holds : Holds token
  pub none : holds.signed.encap_content_info.econtent ≡ None

-- signed data over what is no TSTInfo
pub record HasNoInfo (token : List ℕ) : Type 0 where
  pub holds : Holds token
  pub value : ℕ × List ℕ
  pub there : holds.signed.encap_content_info.econtent ≡ Some value
  pub unread : Refuses (read_all tst_info_type.grammar value.1)

-- ---- what it says

-- the imprint is by a digest that isn't known
pub record HasUnknownImprint (token : List ℕ) : Type 0 where
  pub content : TokenContent
  pub read : token_content_of token ≡ Ok content
  pub none : digest_named content.info.message_imprint.hash_algorithm.algorithm ≡ None

-- the time is before 1970
pub record IsBefore1970 (token : List ℕ) : Type 0 where
  pub content : TokenContent
  pub read : token_content_of token ≡ Ok content
  pub before : is_since_1970 (time_of content.info.gen_time) ≡ false

-- the imprint is another than the signature's
pub record HasOtherImprint (token signature told actual : List ℕ) : Type 0 where
  pub content : TokenContent
  pub read : token_content_of token ≡ Ok content
  pub algorithm : HashAlgorithm
  pub named : digest_named content.info.message_imprint.hash_algorithm.algorithm ≡ Some algorithm
  pub told_is : told ≡ content.info.message_imprint.hashed_message
  pub actual_is : actual ≡ digest_by algorithm signature

-- ---- who signed it

pub record HasNoSigner (token : List ℕ) : Type 0 where
  pub content : TokenContent
  pub read : token_content_of token ≡ Ok content
  pub none : content.signers ≡ []

-- the first signer, and the authority's certificate
pub record HasSigner (token : List ℕ) (authority : TsaAuthority) : Type 0 where
  pub content : TokenContent
  pub read : token_content_of token ≡ Ok content
  pub signer : SignerInfo
  pub others : List SignerInfo
  pub first : content.signers ≡ signer ∷ others
  pub leaf : Certificate
  pub leaf_is : certificate_of authority.leaf ≡ Ok leaf

pub record NamesAnother (token : List ℕ) (authority : TsaAuthority) : Type 0 where
  pub has : HasSigner token authority
  pub other : is_named has.signer.sid has.leaf ≡ false

pub record HasNoAttributes (token : List ℕ) (authority : TsaAuthority) : Type 0 where
  pub has : HasSigner token authority
  pub none : has.signer.signed_attrs ≡ None

-- what its first signer signed
pub record HasAttributes (token : List ℕ) (authority : TsaAuthority) : Type 0 where
  pub has : HasSigner token authority
  pub attributes : List Attribute
  pub are : has.signer.signed_attrs ≡ Some attributes

-- not exactly one message digest, with exactly one value, an OCTET STRING
pub record TellsNoDigest (token : List ℕ) (authority : TsaAuthority) : Type 0 where
  pub signs : HasAttributes token authority
  pub none : Refuses (digest_told_of signs.attributes)

pub record HasUnknownDigest (token : List ℕ) (authority : TsaAuthority) : Type 0 where
  pub has : HasSigner token authority
  pub none : digest_named has.signer.digest_alg.oid ≡ None

-- its signer's digest is known
pub record HasDigest (token : List ℕ) (authority : TsaAuthority) : Type 0 where
  pub signs : HasAttributes token authority
  pub digest : HashAlgorithm
  pub named : digest_named signs.has.signer.digest_alg.oid ≡ Some digest

-- the digest that the attributes tell is another than the content's
pub record HasOtherDigest (token : List ℕ) (authority : TsaAuthority) (told actual : List ℕ) : Type 0 where
  pub has : HasDigest token authority
  pub told_is : digest_told_of has.signs.attributes ≡ Ok told
  pub actual_is : actual ≡ digest_by has.digest has.signs.has.content.octets

-- the digest that the token tells is another than what is at hand, of the signature or of the content
pub data Differs (token signature : List ℕ) (authority : TsaAuthority) (told actual : List ℕ) : Type 0 where
  of_imprint : HasOtherImprint token signature told actual → bytes_eq told actual ≡ false → Differs token signature authority told actual
  of_content : HasOtherDigest token authority told actual → bytes_eq told actual ≡ false → Differs token signature authority told actual

-- the certificate's key isn't one of ECDSA, or has no scheme with the digest
pub record HasNoKey (token : List ℕ) (authority : TsaAuthority) (which : SignatureRule) : Type 0 where
  pub has : HasDigest token authority
  pub none : key_of has.signs.has.leaf.signed.middle.spki has.digest ≡ Err (SignatureVerificationError which)

-- the signature over the attributes isn't good
pub record IsUnsigned (accepts : Judge) (token : List ℕ) (authority : TsaAuthority) : Type 0 where
  pub has : HasDigest token authority
  pub key : VerificationKey
  pub key_is : key_of has.signs.has.leaf.signed.middle.spki has.digest ≡ Ok key
  pub bad : is_signed accepts key has.signs.attributes has.signs.has.signer.signature ≡ false

-- ---- who vouches for it

-- no path at the token's time
pub record HasNoPath (accepts : Judge) (token : List ℕ) (authority : TsaAuthority) : Type 0 where
  pub has : HasSigner token authority
  pub none : Refuses (path_of (setting_of accepts authority (time_of has.content.info.gen_time)))

pub record IsTooEarly (token : List ℕ) (authority : TsaAuthority) : Type 0 where
  pub has : HasSigner token authority
  pub early : has_started (window_of has.leaf) (time_of has.content.info.gen_time) ≡ false

pub record IsTooLate (token : List ℕ) (authority : TsaAuthority) : Type 0 where
  pub has : HasSigner token authority
  pub late : ends_by (window_of has.leaf).end (time_of has.content.info.gen_time) ≡ false

-- ---- by the refusal

abbrev pub ParseCause : List ℕ → TsaAuthority → ParseRule → Type 0
ParseCause token authority parse.Status = IsUngranted token
ParseCause token authority parse.NoToken = HasNoToken token
ParseCause token authority parse.ContentInfo = HasNoContentInfo token
ParseCause token authority parse.SignedData = HasNoSignedData token
ParseCause token authority parse.ContentType = IsOfOtherType token
ParseCause token authority parse.TstInfo = HasNoInfo token
ParseCause token authority parse.ImprintAlgorithm = HasUnknownImprint token
ParseCause token authority parse.Time = IsBefore1970 token
ParseCause token authority parse.SignerAlgorithm = HasUnknownDigest token authority

abbrev pub SignatureCause : Judge → List ℕ → TsaAuthority → SignatureRule → Type 0
SignatureCause accepts token authority rule.NoSigner = HasNoSigner token
SignatureCause accepts token authority rule.Certificate = Refuses (certificate_of authority.leaf)
SignatureCause accepts token authority rule.SignerIdentifier = NamesAnother token authority
SignatureCause accepts token authority rule.SignedAttributes = HasNoAttributes token authority
SignatureCause accepts token authority rule.MessageDigest = TellsNoDigest token authority
SignatureCause accepts token authority rule.Key = HasNoKey token authority rule.Key
SignatureCause accepts token authority rule.Scheme = HasNoKey token authority rule.Scheme
SignatureCause accepts token authority rule.Signature = IsUnsigned accepts token authority

abbrev pub CertificateCause : Judge → List ℕ → TsaAuthority → CertificateFault → Type 0
CertificateCause accepts token authority fault.Root = Refuses (may_anchor authority.root)
CertificateCause accepts token authority fault.Path = HasNoPath accepts token authority
CertificateCause accepts token authority fault.NotYetValid = IsTooEarly token authority
CertificateCause accepts token authority fault.Expired = IsTooLate token authority

abbrev pub StampCause : Judge → List ℕ → List ℕ → TsaAuthority → Error → Type 0
StampCause accepts token signature authority (Parse which) = ParseCause token authority which
StampCause accepts token signature authority NoTstInfo = IsOfNothing token
StampCause accepts token signature authority (HashMismatch told actual) = Differs token signature authority told actual
StampCause accepts token signature authority (SignatureVerificationError which) = SignatureCause accepts token authority which
StampCause accepts token signature authority (CertificateValidationError which) = CertificateCause accepts token authority which
StampCause accepts token signature authority (TimestampOutsideValidity time) = IsOutside accepts token signature authority time
StampCause accepts token signature authority other = ⊥

-- each refusal comes only where its cause holds
abbrev pub RefusedStamps : Type 0
RefusedStamps = (accepts : Judge) (token signature : List ℕ) (authority : TsaAuthority) (e : Error)
    → stamped_of accepts token signature authority ≡ Err e → StampCause accepts token signature authority e
