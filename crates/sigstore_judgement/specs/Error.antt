-- The refusals: their numbers and names, and what a lower crate's refusal is here.
use Rattle.std.specs.Prelude.{ℕ, List, Result, Ok, Err}
use Rattle.sigstore_types_parts.specs.declared.error.TypesError.{TypesError}
use Rattle.sigstore_types_parts.specs.declared.error.TypesError.TheVariants as types
use Rattle.sigstore_keys.specs.declared.error.Error.{Error as CryptoError}
use Rattle.sigstore_keys.specs.declared.error.Error.TheVariants as crypto
use Rattle.sigstore_log.specs.declared.error.LogError.{LogError}
use Rattle.sigstore_log.specs.declared.error.LogError.TheVariants as entry
use Rattle.sigstore_binding.specs.declared.error.BindingError.{BindingError}
use Rattle.sigstore_binding.specs.declared.error.BindingError.TheVariants as binding
use Rattle.sigstore_tsa.specs.declared.authorities.TokenFault.{TokenFault}
use Rattle.sigstore_tsa.specs.declared.authorities.TokenFault.TheVariants as token
use Rattle.sigstore_certificate.specs.declared.error.CertificateRefusal.{CertificateRefusal}
use Rattle.sigstore_certificate.specs.declared.error.CertificateRefusal.TheVariants as refusal
use Rattle.sigstore_judgement.specs.declared.error.CertificateError.{CertificateError}
use Rattle.sigstore_judgement.specs.declared.error.CertificateError.TheVariants.{Malformed, ChainInvalid, NoValidAuthority}
use Rattle.sigstore_judgement.specs.declared.error.CertificateError.TheVariants.{NotYetValid, Expired, Sct}
use Rattle.sigstore_judgement.specs.declared.error.TransparencyLogError.{TransparencyLogError}
use Rattle.sigstore_judgement.specs.declared.error.TransparencyLogError.TheVariants as log
use Rattle.sigstore_judgement.specs.declared.error.TimestampError.{TimestampError}
use Rattle.sigstore_judgement.specs.declared.error.TimestampError.TheVariants as stamp
use Rattle.sigstore_judgement.specs.declared.error.Error.{Error}
use Rattle.sigstore_judgement.specs.declared.error.Error.TheVariants.{IdentityMismatch, IssuerMismatch, SignatureInvalid}
use Rattle.sigstore_judgement.specs.declared.error.Error.TheVariants.{ArtifactMismatch, UnsupportedArtifact, Certificate}
use Rattle.sigstore_judgement.specs.declared.error.Error.TheVariants.{TransparencyLog, Timestamp, InvalidBundle}
use Rattle.sigstore_judgement.specs.declared.error.Error.TheVariants.{UnsupportedBundle, InvalidTrustRoot, Types, Crypto}
use Rattle.sigstore_judgement.specs.declared.error.Error.TheVariants.{Bundle, TrustRoot, TrustedCertificate, ArtifactRead}
use Rattle.sigstore_judgement.specs.declared.error.Error.TheVariants.{NoMemory, TooFewLogs}
use Rattle.sigstore_judgement.specs.declared.error.Error.TheVariants.{ClaimMismatch, PredicateMismatch, TooFewTimes, TooFewTokens, TimeOutside}
use Rattle.sigstore_judgement.specs.Names.{refusal_name}

abbrev pub certificate_number_of : CertificateError → ℕ
certificate_number_of Malformed = 6
certificate_number_of ChainInvalid = 7
certificate_number_of (NoValidAuthority time) = 8
certificate_number_of (NotYetValid time not_before) = 9
certificate_number_of (Expired time not_after) = 10
certificate_number_of (Sct rule) = 11

abbrev pub log_number_of : TransparencyLogError → ℕ
log_number_of (log.UnknownLog log_id) = 12
log_number_of log.InclusionProof = 13
log_number_of log.Checkpoint = 14
log_number_of log.InclusionPromise = 15
log_number_of log.EntryMismatch = 16
log_number_of log.IntegratedTime = 17
log_number_of log.MalformedEntry = 18

abbrev pub timestamp_number_of : TimestampError → ℕ
timestamp_number_of stamp.Invalid = 19
timestamp_number_of (stamp.OutsideAuthorityValidity time) = 20
timestamp_number_of stamp.NoVerifiedTimestamp = 21

abbrev pub number_of : Error → ℕ
number_of (IdentityMismatch expected actual) = 1
number_of (IssuerMismatch expected actual) = 2
number_of SignatureInvalid = 3
number_of ArtifactMismatch = 4
number_of UnsupportedArtifact = 5
number_of (Certificate fault) = certificate_number_of fault
number_of (TransparencyLog fault) = log_number_of fault
number_of (Timestamp fault) = timestamp_number_of fault
number_of InvalidBundle = 22
number_of UnsupportedBundle = 23
number_of InvalidTrustRoot = 24
number_of Types = 25
number_of Crypto = 26
number_of Bundle = 27
number_of TrustRoot = 28
number_of TrustedCertificate = 29
number_of (ArtifactRead fault) = 30
number_of NoMemory = 31
number_of (TooFewLogs asked found) = 32
number_of (ClaimMismatch name expected actual) = 33
number_of (PredicateMismatch expected actual) = 34
number_of (TooFewTimes asked found) = 35
number_of (TooFewTokens asked found) = 36
number_of (TimeOutside time) = 37

-- the name as it is printed
abbrev pub name_of : Error → List ℕ
name_of e = refusal_name (number_of e)

-- an unusable key, or a key and a digest that have no scheme
abbrev pub error_of_crypto : CryptoError → Error
error_of_crypto crypto.Signing = Crypto
error_of_crypto (crypto.Verification fault) = Crypto
error_of_crypto crypto.InvalidKeyFormat = Crypto
error_of_crypto crypto.UnsupportedAlgorithm = Crypto
error_of_crypto (crypto.Checkpoint fault) = Crypto
error_of_crypto (crypto.InvalidCertificate fault) = Crypto
error_of_crypto (crypto.InvalidKey rule) = Crypto
error_of_crypto crypto.NoMemory = NoMemory

-- a certificate that isn't read, or that has a key of no known sort, or whose names aren't read
abbrev pub error_of_info : CryptoError → Error
error_of_info crypto.Signing = Certificate Malformed
error_of_info (crypto.Verification fault) = Certificate Malformed
error_of_info crypto.InvalidKeyFormat = Certificate Malformed
error_of_info crypto.UnsupportedAlgorithm = Certificate Malformed
error_of_info (crypto.Checkpoint fault) = Certificate Malformed
error_of_info (crypto.InvalidCertificate fault) = Certificate Malformed
error_of_info (crypto.InvalidKey rule) = Certificate Malformed
error_of_info crypto.NoMemory = NoMemory

-- what a refusal of the certificate's judgement is of its bundle
abbrev pub error_of_certificate : CertificateRefusal → Error
error_of_certificate refusal.Malformed = Certificate Malformed
error_of_certificate refusal.ChainInvalid = Certificate ChainInvalid
error_of_certificate refusal.NoTime = Timestamp stamp.NoVerifiedTimestamp
error_of_certificate (refusal.NoValidAuthority time) = Certificate (NoValidAuthority time)
error_of_certificate (refusal.NotYetValid time not_before) = Certificate (NotYetValid time not_before)
error_of_certificate (refusal.Expired time not_after) = Certificate (Expired time not_after)
error_of_certificate (refusal.Sct rule) = Certificate (Sct rule)
error_of_certificate refusal.InvalidTrustRoot = InvalidTrustRoot
error_of_certificate (refusal.IdentityMismatch expected actual) = IdentityMismatch expected actual
error_of_certificate (refusal.IssuerMismatch expected actual) = IssuerMismatch expected actual
error_of_certificate (refusal.ClaimMismatch name expected actual) = ClaimMismatch name expected actual
error_of_certificate refusal.NoMemory = NoMemory

-- what a refusal of a token is of its bundle
abbrev pub error_of_token : TokenFault → Error
error_of_token token.Invalid = Timestamp stamp.Invalid
error_of_token (token.OutsideValidity time) = Timestamp (stamp.OutsideAuthorityValidity time)
error_of_token token.NoMemory = NoMemory

-- what a refusal of an entry is of its bundle
abbrev pub error_of_log : LogError → Error
error_of_log entry.InclusionProof = TransparencyLog log.InclusionProof
error_of_log entry.Checkpoint = TransparencyLog log.Checkpoint
error_of_log entry.MalformedEntry = TransparencyLog log.MalformedEntry
error_of_log (entry.UnknownLog log_id) = TransparencyLog (log.UnknownLog log_id)
error_of_log entry.InclusionPromise = TransparencyLog log.InclusionPromise
error_of_log entry.IntegratedTime = TransparencyLog log.IntegratedTime
error_of_log entry.NoMemory = NoMemory

-- what a refusal of what an entry says is of its bundle
abbrev pub error_of_binding : BindingError → Error
error_of_binding binding.Unsupported = UnsupportedBundle
error_of_binding binding.MalformedEntry = TransparencyLog log.MalformedEntry
error_of_binding binding.ArtifactMismatch = ArtifactMismatch
error_of_binding binding.EntryMismatch = TransparencyLog log.EntryMismatch
error_of_binding binding.IntegratedTime = TransparencyLog log.IntegratedTime
error_of_binding binding.NoMemory = NoMemory

-- A refusal of the crates of values: want of memory stays what it is, and every other is this one.
abbrev pub lowered : Error → TypesError → Error
lowered otherwise types.NoMemory = NoMemory
lowered otherwise _ = otherwise

-- ---- a lower call's value, or what its refusal is here

abbrev pub by_crypto : {A : Type 0} → Result A CryptoError → Result A Error
by_crypto (Ok x) = Ok x
by_crypto (Err e) = Err (error_of_crypto e)

abbrev pub by_info : {A : Type 0} → Result A CryptoError → Result A Error
by_info (Ok x) = Ok x
by_info (Err e) = Err (error_of_info e)

abbrev pub by_certificate : {A : Type 0} → Result A CertificateRefusal → Result A Error
by_certificate (Ok x) = Ok x
by_certificate (Err e) = Err (error_of_certificate e)

abbrev pub by_types : {A : Type 0} → Result A TypesError → Result A Error
by_types (Ok x) = Ok x
by_types (Err e) = Err (lowered Bundle e)

abbrev pub by_token : {A : Type 0} → Result A TokenFault → Result A Error
by_token (Ok x) = Ok x
by_token (Err e) = Err (error_of_token e)

abbrev pub by_log : {A : Type 0} → Result A LogError → Result A Error
by_log (Ok x) = Ok x
by_log (Err e) = Err (error_of_log e)

abbrev pub by_binding : {A : Type 0} → Result A BindingError → Result A Error
by_binding (Ok x) = Ok x
by_binding (Err e) = Err (error_of_binding e)
