-- What each refusal of the judgement tells: of the trust file, the bundle, the policy and the artifact (Sigstore bundle format; FIPS 180-4,
-- FIPS 186-5; RFC 6962).
use Rattle.std.specs.Prelude.{◌≡◌, ◌<◌, ◌⊎◌, ℕ, List, [], filter_map, Contains, true, false, Some, None, Result, Ok, Err, ⊤}
use Rattle.std.specs.List.{list_all}
use Rattle.foundation.specs.Watched.{Watched}
use Rattle.jiff_core.specs.declared.timestamp.Timestamp.{Timestamp}
use Rattle.sigstore_types_parts.specs.declared.error.TypesError.{TypesError}
use Rattle.sigstore_envelopes.specs.declared.envelope.DsseEnvelope.{DsseEnvelope}
use Rattle.sigstore_envelopes.specs.declared.statement.Statement.{Statement}
use Rattle.sigstore_envelopes.specs.Statement.{statement_of_bytes, algorithms_of}
use Rattle.sigstore_types.specs.declared.bundle.Bundle.{Bundle}
use Rattle.sigstore_types.specs.declared.content.SignatureContent.TheVariants.{DsseEnvelope as OfEnvelope}
use Rattle.sigstore_types.specs.Bundle.{bundle_of_bytes, entries_in, tokens_in}
use Rattle.sigstore_types.specs.declared.trusted_root.TrustedRoot.{TrustedRoot}
use Rattle.sigstore_types.specs.TrustedRoot.{trusted_root_of_bytes}
use Rattle.sigstore_keys.specs.declared.key.VerificationKey.{VerificationKey}
use Rattle.sigstore_keys.specs.declared.scheme.SigningScheme.{SigningScheme}
use Rattle.sigstore_keys.specs.Digest.{is_hashed}
use Rattle.sigstore_keys.specs.Key.{spki_key_of}
use Rattle.sigstore_entries.specs.declared.entry.TransparencyLogEntry.{TransparencyLogEntry}
use Rattle.certificate_claims.specs.declared.certificate_info.CertificateInfo.{CertificateInfo}
use Rattle.certificate_claims.specs.Info.{info_of}
use Rattle.sigstore_log.specs.declared.error.LogError.{LogError}
use Rattle.sigstore_log.specs.declared.error.LogError.TheVariants.{InclusionProof, Checkpoint}
use Rattle.sigstore_log.specs.Cause.{LogCause}
use Rattle.sigstore_log.specs.Promise.{told_time}
use Rattle.sigstore_certificate.specs.declared.error.CertificateRefusal.{CertificateRefusal}
use Rattle.sigstore_policy.specs.declared.certificate.VerificationPolicy.{VerificationPolicy}
use Rattle.sigstore_certificate.specs.Cause.{Cause as CertificateCause}
use Rattle.sigstore_tsa.specs.Authorities.{IsUnstamped, IsOutsideNone, IsOutsideOne}
use Rattle.sigstore_judgement.specs.declared.error.CertificateError.{CertificateError}
use Rattle.sigstore_judgement.specs.declared.error.Error.{Error}
use Rattle.sigstore_judgement.specs.declared.error.TimestampError.{TimestampError}
use Rattle.sigstore_judgement.specs.declared.error.TimestampError.TheVariants as stamp
use Rattle.sigstore_judgement.specs.declared.error.TransparencyLogError.{TransparencyLogError}
use Rattle.sigstore_judgement.specs.declared.error.Error.TheVariants as verify
use Rattle.sigstore_policy.specs.declared.public_key.PublicKeyVerificationPolicy.{PublicKeyVerificationPolicy}
use Rattle.sigstore_judgement.specs.declared.trust.Material.{Material}
use Rattle.sigstore_judgement.specs.declared.evidence.Evidence.{Evidence}
use Rattle.sigstore_judgement.specs.Accepts.{Vouches}
use Rattle.sigstore_judgement.specs.Artifact.{Read, digest_of}
use Rattle.sigstore_judgement.specs.Claim.{Claim, is_in_toto, claim_of, needed_of, IsOfOther}
use Rattle.sigstore_judgement.specs.Conditions.{ConditionCause}
use Rattle.sigstore_judgement.specs.Content.{scheme_of, signs_digest, signature_in, is_signed}
use Rattle.sigstore_judgement.specs.Entries.{vouching_logs, HasUndescribed}
use Rattle.sigstore_judgement.specs.Error.{error_of_crypto, error_of_info, error_of_certificate, error_of_log}
use Rattle.sigstore_judgement.specs.Grounds.{Grounds, trust_in}
use Rattle.sigstore_judgement.specs.Judged.{intermediates_in}
use Rattle.sigstore_policy.specs.Policy.{PublicKey, Certificate, asks_log, logs_asked}
use Rattle.sigstore_judgement.specs.Promise.{ReadWhole, ReadCause}
use Rattle.sigstore_judgement.specs.Signer.{Signer, conditions_in, certificate_in, key_in, IsSigner}
use Rattle.sigstore_judgement.specs.Trust.{material_of}
use Rattle.sigstore_judgement.specs.Under.{Asked, terms_of, trust_fault, bundle_fault}
use Rattle.sigstore_judgement.specs.Unlogged.{HasUnlogged, HasUntimely}
use Rattle.sigstore_judgement.specs.Verified.{AreVerified}

-- a lower definition refuses, and its refusal is this one here
abbrev pub IsRefusedAs : {T X : Type 0} → (X → Error) → Result T X → Error → Type 0
IsRefusedAs {T} {X} error_of r e = (x : X) × (r ≡ Err x) × (error_of x ≡ e)

-- the bundle's bytes are read as this
abbrev pub IsRead : List ℕ → Bundle → Type 0
IsRead bytes reading = bundle_of_bytes bytes ≡ Ok reading

-- the trust file is read, and this is kept of it
pub record IsKept (file : List ℕ) (material : Material) : Type 0 where
  pub trust : TrustedRoot
  pub trust_read : trusted_root_of_bytes file ≡ Ok trust
  pub usable : material_of trust ≡ Ok material

-- ---- those that rest on the trust file, the bundle's bytes and the reader alone

-- the trust file is read, and no verifier can be made of it
abbrev pub IsUnusable : List ℕ → Error → Type 0
IsUnusable file e = (trust : TrustedRoot) × (trusted_root_of_bytes file ≡ Ok trust) × (material_of trust ≡ Err e)

-- the bundle has no reading; or it is read, and the payload of its envelope is no statement, or one without a subject
pub data IsInvalid (bundle : List ℕ) : Type 0 where
  unread : IsRefusedAs bundle_fault (bundle_of_bytes bundle) verify.InvalidBundle → IsInvalid bundle
  no_statement : (reading : Bundle) (envelope : DsseEnvelope) (e : TypesError) → IsRead bundle reading
      → reading.content ≡ OfEnvelope envelope → statement_of_bytes envelope.payload ≡ Err e → IsInvalid bundle
  no_subject : (reading : Bundle) (envelope : DsseEnvelope) (statement : Statement) → IsRead bundle reading
      → reading.content ≡ OfEnvelope envelope → statement_of_bytes envelope.payload ≡ Ok statement → statement.subjects ≡ []
      → IsInvalid bundle

-- the bundle is read, and the payload of its envelope is of another type, or a statement of which no subject tells a digest that can be had
pub data IsUnsupported (bundle : List ℕ) : Type 0 where
  other_type : (reading : Bundle) (envelope : DsseEnvelope) → IsRead bundle reading → reading.content ≡ OfEnvelope envelope
      → is_in_toto envelope.payload_type ≡ false → IsUnsupported bundle
  no_digest : (reading : Bundle) (envelope : DsseEnvelope) (statement : Statement) → IsRead bundle reading
      → reading.content ≡ OfEnvelope envelope → statement_of_bytes envelope.payload ≡ Ok statement → algorithms_of statement ≡ []
      → IsUnsupported bundle

abbrev pub SharedCause : Asked → List ℕ → Watched (List ℕ) → Watched (List ℕ) → Error → Type 0
SharedCause asked file source source' verify.InvalidBundle = IsInvalid asked.bundle
SharedCause asked file source source' verify.UnsupportedBundle = IsUnsupported asked.bundle
SharedCause asked file source source' verify.InvalidTrustRoot = IsUnusable file verify.InvalidTrustRoot
SharedCause asked file source source' verify.Types = IsUnusable file verify.Types
SharedCause asked file source source' verify.Crypto = IsUnusable file verify.Crypto
SharedCause asked file source source' verify.TrustRoot = IsRefusedAs trust_fault (trusted_root_of_bytes file) verify.TrustRoot
SharedCause asked file source source' verify.TrustedCertificate = IsUnusable file verify.TrustedCertificate
SharedCause asked file source source' (verify.ArtifactRead fault) = ReadCause source source' asked.max fault
SharedCause asked file source source' verify.NoMemory = ⊤
SharedCause asked file source source' _ = ⊥

-- ---- those that rest on the policy, and so on who signed

-- the bundle is read, and this signer signed it under the policy
pub record HasSigner (asked : Asked) : Type 0 where
  pub reading : Bundle
  pub read : IsRead asked.bundle reading
  pub signer : Signer
  pub is : IsSigner asked.policy reading signer

-- the policy is for a key, and the bundle that was read has a certificate
pub record MeetsCertificate (asked : Asked) : Type 0 where
  pub policy : PublicKeyVerificationPolicy
  pub under : asked.policy ≡ PublicKey policy
  pub reading : Bundle
  pub read : IsRead asked.bundle reading
  pub certificate : List ℕ
  pub has : certificate_in reading ≡ Some certificate

-- the policy is for certificates, and the bundle that was read has none
pub record LacksCertificate (asked : Asked) : Type 0 where
  pub policy : VerificationPolicy
  pub under : asked.policy ≡ Certificate policy
  pub reading : Bundle
  pub read : IsRead asked.bundle reading
  pub none : certificate_in reading ≡ None

-- the signing certificate of the bundle that was read says nothing of its owner: it isn't read, or its key is of no known sort, or its
-- names aren't read
pub record SaysNothing (asked : Asked) (fault : CertificateError) : Type 0 where
  pub policy : VerificationPolicy
  pub under : asked.policy ≡ Certificate policy
  pub reading : Bundle
  pub read : IsRead asked.bundle reading
  pub certificate : List ℕ
  pub has : certificate_in reading ≡ Some certificate
  pub unread : IsRefusedAs error_of_info (info_of certificate) (verify.Certificate fault)

-- their key is read, and with the content it has this scheme
pub record HasScheme (asked : Asked) : Type 0 where
  pub has : HasSigner asked
  pub key : VerificationKey
  pub key_read : spki_key_of (key_in has.signer) ≡ Ok key
  pub scheme : SigningScheme
  pub chosen : scheme_of key.scheme has.reading.content ≡ Ok scheme

-- the policy verifies the log, and the bundle that was read has no entry, or one without a proof
pub data LacksEntry (asked : Asked) : Type 0 where
  no_entry : (reading : Bundle) → IsRead asked.bundle reading → asks_log asked.policy ≡ true → entries_in reading ≡ [] → LacksEntry asked
  no_proof : (reading : Bundle) (entry : TransparencyLogEntry) → IsRead asked.bundle reading → asks_log asked.policy ≡ true
      → Contains (entries_in reading) entry → entry.inclusion_proof ≡ None → LacksEntry asked

-- the signer's key isn't read; or it and the content have no scheme; or a digest that is needed has no hasher
pub data LacksScheme (asked : Asked) (e : Error) : Type 0 where
  key_unread : (has : HasSigner asked) → IsRefusedAs error_of_crypto (spki_key_of (key_in has.signer)) e → LacksScheme asked e
  no_scheme : (has : HasSigner asked) (key : VerificationKey) → spki_key_of (key_in has.signer) ≡ Ok key
      → IsRefusedAs error_of_crypto (scheme_of key.scheme has.reading.content) e → LacksScheme asked e
  no_hasher : (is : HasScheme asked) (claim : Claim) → claim_of is.has.reading.content ≡ Ok claim
      → list_all is_hashed (needed_of is.scheme claim) ≡ false → e ≡ verify.Crypto → LacksScheme asked e

-- what is signed is the artifact itself, and only its digests are had
pub record LacksDigest (asked : Asked) : Type 0 where
  pub is : HasScheme asked
  pub lacking : signs_digest is.scheme is.has.reading.content ≡ false

-- the artifact was read whole, and what the bundle says is of another
pub record IsOfAnother (asked : Asked) (source source' : Watched (List ℕ)) : Type 0 where
  pub reading : Bundle
  pub read : IsRead asked.bundle reading
  pub claim : Claim
  pub claims : claim_of reading.content ≡ Ok claim
  pub bytes : List ℕ
  pub whole : ReadWhole source source' asked.max bytes
  pub other : IsOfOther claim (Read bytes)

-- the artifact was read whole, and the bundle's signature isn't good over what the scheme signs under the signer's key
pub record IsUnsigned (asked : Asked) (source source' : Watched (List ℕ)) : Type 0 where
  pub is : HasScheme asked
  pub bytes : List ℕ
  pub whole : ReadWhole source source' asked.max bytes
  pub unsigned :
      is_signed asked.crypto.accepts (record { scheme = is.scheme; key = is.key.key }) is.has.reading.content (digest_of (Read bytes)) None
      ≡ false

-- the policy verifies the log, the artifact was read whole, and some entry of the bundle isn't logged by the trust file's logs
pub record IsUnlogged (asked : Asked) (file : List ℕ) (source source' : Watched (List ℕ)) (fault : TransparencyLogError) : Type 0 where
  pub material : Material
  pub kept : IsKept file material
  pub reading : Bundle
  pub read : IsRead asked.bundle reading
  pub bytes : List ℕ
  pub whole : ReadWhole source source' asked.max bytes
  pub asks : asks_log asked.policy ≡ true
  pub unlogged : HasUnlogged (terms_of asked material).grounds (entries_in reading) fault

-- the policy verifies the log, the artifact was read whole, and the entries stand in so many different logs of the trust file, fewer than the
-- policy asks for
pub record LacksLogs (asked : Asked) (file : List ℕ) (source source' : Watched (List ℕ)) (wanted found : ℕ) : Type 0 where
  pub material : Material
  pub kept : IsKept file material
  pub reading : Bundle
  pub read : IsRead asked.bundle reading
  pub bytes : List ℕ
  pub whole : ReadWhole source source' asked.max bytes
  pub asks : asks_log asked.policy ≡ true
  pub threshold : wanted ≡ (logs_asked asked.policy).value
  pub count : found ≡ vouching_logs (terms_of asked material).grounds (entries_in reading)
  pub few : found < wanted

-- the artifact was read whole, and some entry of the bundle isn't of who signed it, of what they signed or of the signature
pub record IsUndescribed (asked : Asked) (source source' : Watched (List ℕ)) (e : Error) : Type 0 where
  pub reading : Bundle
  pub read : IsRead asked.bundle reading
  pub bytes : List ℕ
  pub whole : ReadWhole source source' asked.max bytes
  pub undescribed : HasUndescribed asked.crypto asked.policy reading (Read bytes) e

-- one of the tokens was stamped by no trusted authority over this signature; and why it is refused so
abbrev pub TokenCause : Grounds → List ℕ → List ℕ → TimestampError → Type 0
TokenCause grounds signature token stamp.Invalid =
    IsUnstamped grounds.crypto.accepts token signature grounds.material.authorities
    × IsOutsideNone grounds.crypto.accepts token signature grounds.material.authorities
TokenCause grounds signature token (stamp.OutsideAuthorityValidity time) =
    IsUnstamped grounds.crypto.accepts token signature grounds.material.authorities
    × IsOutsideOne grounds.crypto.accepts token signature grounds.material.authorities time
TokenCause grounds signature token stamp.NoVerifiedTimestamp = ⊥

-- the artifact was read whole, and some token of the bundle isn't a trusted authority's of its signature
pub record HasNoStamp (asked : Asked) (file : List ℕ) (source source' : Watched (List ℕ)) (fault : TimestampError) : Type 0 where
  pub material : Material
  pub kept : IsKept file material
  pub reading : Bundle
  pub read : IsRead asked.bundle reading
  pub bytes : List ℕ
  pub whole : ReadWhole source source' asked.max bytes
  pub token : List ℕ
  pub among : Contains (tokens_in reading) token
  pub why : TokenCause (terms_of asked material).grounds (signature_in reading.content) token fault

-- the policy is for certificates, the artifact was read whole, and of the certificate that signed, at the verified times, this doesn't hold
pub record IsUncertified (asked : Asked) (file : List ℕ) (source source' : Watched (List ℕ)) (e : Error) : Type 0 where
  pub material : Material
  pub kept : IsKept file material
  pub reading : Bundle
  pub read : IsRead asked.bundle reading
  pub bytes : List ℕ
  pub whole : ReadWhole source source' asked.max bytes
  pub policy : VerificationPolicy
  pub under : asked.policy ≡ Certificate policy
  pub certificate : List ℕ
  pub has : certificate_in reading ≡ Some certificate
  pub info : CertificateInfo
  pub says : info_of certificate ≡ Ok info
  pub times : List Timestamp
  pub verified : AreVerified (terms_of asked material).grounds reading times
  pub why : CertificateRefusal
  pub named : error_of_certificate why ≡ e
  pub cause :
      CertificateCause (trust_in (terms_of asked material).grounds) policy info certificate (intermediates_in reading) times why

-- the policy is for certificates, the artifact was read whole, and the bundle has no token, and no entry whose promise tells a time
pub record LacksTime (asked : Asked) (source source' : Watched (List ℕ)) (fault : TimestampError) : Type 0 where
  pub policy : VerificationPolicy
  pub under : asked.policy ≡ Certificate policy
  pub reading : Bundle
  pub read : IsRead asked.bundle reading
  pub bytes : List ℕ
  pub whole : ReadWhole source source' asked.max bytes
  pub tokens : tokens_in reading ≡ []
  pub promises : filter_map told_time (entries_in reading) ≡ []
  pub named : fault ≡ stamp.NoVerifiedTimestamp

-- what a promise alone may be refused for: neither its entry's proof nor a checkpoint
abbrev pub IsOfPromise : LogError → Type 0
IsOfPromise InclusionProof = ⊥
IsOfPromise Checkpoint = ⊥
IsOfPromise _ = ⊤

-- the policy is for certificates, the artifact was read whole, and the promise of some entry tells a time and isn't its log's, or its time
-- is after now
pub record IsUnpromised (asked : Asked) (file : List ℕ) (source source' : Watched (List ℕ)) (fault : TransparencyLogError) : Type 0 where
  pub material : Material
  pub kept : IsKept file material
  pub policy : VerificationPolicy
  pub under : asked.policy ≡ Certificate policy
  pub reading : Bundle
  pub read : IsRead asked.bundle reading
  pub bytes : List ℕ
  pub whole : ReadWhole source source' asked.max bytes
  pub entry : TransparencyLogEntry
  pub among : Contains (entries_in reading) entry
  pub time : Timestamp
  pub tells : told_time entry ≡ Some time
  pub why : LogError
  pub of_promise : IsOfPromise why
  pub named : error_of_log why ≡ verify.TransparencyLog fault
  pub cause : LogCause asked.crypto.accepts material.logs asked.now entry why

-- the policy verifies the log, the artifact was read whole, and a promised time isn't one at which the signer's certificate was valid
pub record IsUntimely (asked : Asked) (source source' : Watched (List ℕ)) (fault : TransparencyLogError) : Type 0 where
  pub reading : Bundle
  pub read : IsRead asked.bundle reading
  pub bytes : List ℕ
  pub whole : ReadWhole source source' asked.max bytes
  pub asks : asks_log asked.policy ≡ true
  pub untimely : HasUntimely asked.policy reading fault

-- the artifact was read whole, and this was found that vouches for who signed; but of what the policy asks beside who signed this isn't met
pub record IsUnmet (asked : Asked) (file : List ℕ) (source source' : Watched (List ℕ)) (e : Error) : Type 0 where
  pub material : Material
  pub kept : IsKept file material
  pub reading : Bundle
  pub read : IsRead asked.bundle reading
  pub bytes : List ℕ
  pub whole : ReadWhole source source' asked.max bytes
  pub signer : Signer
  pub is : IsSigner asked.policy reading signer
  pub claim : Claim
  pub claims : claim_of reading.content ≡ Ok claim
  pub evidence : Evidence
  pub vouches : Vouches (terms_of asked material).grounds signer reading evidence
  pub why : ConditionCause (conditions_in signer) claim evidence e

abbrev pub SignedCause : Asked → List ℕ → Watched (List ℕ) → Watched (List ℕ) → Error → Type 0
SignedCause asked file source source' verify.SignatureInvalid = IsUnsigned asked source source'
SignedCause asked file source source' verify.ArtifactMismatch =
    IsOfAnother asked source source' ⊎ IsUndescribed asked source source' verify.ArtifactMismatch
SignedCause asked file source source' verify.UnsupportedArtifact = LacksDigest asked
SignedCause asked file source source' (verify.Certificate fault) =
    SaysNothing asked fault ⊎ IsUncertified asked file source source' (verify.Certificate fault)
SignedCause asked file source source' (verify.IdentityMismatch expected actual) =
    IsUncertified asked file source source' (verify.IdentityMismatch expected actual)
SignedCause asked file source source' (verify.IssuerMismatch expected actual) =
    IsUncertified asked file source source' (verify.IssuerMismatch expected actual)
SignedCause asked file source source' verify.InvalidTrustRoot = IsUncertified asked file source source' verify.InvalidTrustRoot
SignedCause asked file source source' (verify.TransparencyLog fault) =
    (IsUnlogged asked file source source' fault ⊎ IsUnpromised asked file source source' fault)
    ⊎ (IsUntimely asked source source' fault ⊎ IsUndescribed asked source source' (verify.TransparencyLog fault))
SignedCause asked file source source' (verify.Timestamp fault) =
    HasNoStamp asked file source source' fault ⊎ LacksTime asked source source' fault
SignedCause asked file source source' (verify.TooFewLogs wanted found) = LacksLogs asked file source source' wanted found
SignedCause asked file source source' (verify.ClaimMismatch name expected actual) =
    IsUncertified asked file source source' (verify.ClaimMismatch name expected actual)
SignedCause asked file source source' (verify.PredicateMismatch expected actual) =
    IsUnmet asked file source source' (verify.PredicateMismatch expected actual)
SignedCause asked file source source' (verify.TooFewTimes wanted found) = IsUnmet asked file source source' (verify.TooFewTimes wanted found)
SignedCause asked file source source' (verify.TooFewTokens wanted found) = IsUnmet asked file source source' (verify.TooFewTokens wanted found)
SignedCause asked file source source' (verify.TimeOutside time) = IsUnmet asked file source source' (verify.TimeOutside time)
SignedCause asked file source source' verify.InvalidBundle = LacksCertificate asked
SignedCause asked file source source' verify.UnsupportedBundle =
    MeetsCertificate asked ⊎ IsUndescribed asked source source' verify.UnsupportedBundle
SignedCause asked file source source' verify.Crypto = LacksScheme asked verify.Crypto
SignedCause asked file source source' verify.Bundle = LacksEntry asked
SignedCause asked file source source' _ = ⊥

-- ---- each refusal of the judgement, by its number and name

abbrev pub JudgeCause : Asked → List ℕ → Watched (List ℕ) → Watched (List ℕ) → Error → Type 0
JudgeCause asked file source source' e = SharedCause asked file source source' e ⊎ SignedCause asked file source source' e
