-- Which trust files a verifier is made of, and what it keeps of them.
use Rattle.std.specs.Prelude.{ℕ, List, [], ◌∷◌, ◌++◌, length, nat_eq, is_some, if◌then◌else◌, ⊤, Option, Some, None, Result, Ok, Err}
use Rattle.foundation.specs.Steps.{◌>>=◌}
use Rattle.sigstore_types_parts.specs.declared.time_range.TimeRange.{TimeRange}
use Rattle.sigstore_types_parts.specs.TimeRange.{ends_by}
use Rattle.sigstore_types_parts.specs.declared.error.TypesError.{TypesError}
use Rattle.sigstore_types.specs.declared.authority.Authority.{Authority}
use Rattle.sigstore_types.specs.declared.authority.TsaAuthority.{TsaAuthority}
use Rattle.sigstore_types.specs.TrustedRoot.{stamping_of}
use Rattle.sigstore_types.specs.declared.trusted_root.TrustedLog.{TrustedLog}
use Rattle.sigstore_types.specs.declared.trusted_root.TrustedRoot.{TrustedRoot}
use Rattle.sigstore_keys.specs.declared.error.Error.{Error as CryptoError}
use Rattle.sigstore_keys.specs.declared.key.VerificationKey.{VerificationKey}
use Rattle.sigstore_keys.specs.declared.scheme.SigningScheme.TheVariants.{RsaPkcs1Sha256}
use Rattle.sigstore_keys.specs.Key.{spki_key_of, der_key_of}
use Rattle.sigstore_keys.specs.Keyring.{Ring, held_at, with_held}
use Rattle.path_core.specs.declared.error.PathError.{PathError}
use Rattle.path_core.specs.Anchors.{TrustAnchor, may_anchor}
use Rattle.sigstore_judgement.specs.declared.error.Error.{Error}
use Rattle.sigstore_judgement.specs.declared.error.Error.TheVariants.{InvalidTrustRoot, Types, TrustedCertificate}
use Rattle.sigstore_judgement.specs.declared.trust.LogKind.{LogKind}
use Rattle.sigstore_judgement.specs.declared.trust.LogKind.TheVariants.{Entries, Certificates}
use Rattle.sigstore_judgement.specs.declared.trust.Material.{Material}
use Rattle.sigstore_judgement.specs.Error.{error_of_crypto}

-- a span doesn't end before it starts
abbrev pub window_usable : Option TimeRange → Result ⊤ Error
window_usable None = Ok tt
window_usable (Some range) = if ends_by range.end range.start then Ok tt else Err InvalidTrustRoot

-- ---- logs

-- the id of a log is a SHA-256 value (RFC 6962, 3.2)
abbrev pub id_usable : List ℕ → Result (List ℕ) Error
id_usable id = if nat_eq (length id) 32 then Ok id else Err Types

-- no earlier log has the id: else it wouldn't be said whose key counts
abbrev pub id_new : List ℕ → Ring → Result ⊤ Error
id_new id ring = if is_some (held_at id ring) then Err InvalidTrustRoot else Ok tt

abbrev pub or_refused : Result VerificationKey CryptoError → Result VerificationKey Error
or_refused (Ok key) = Ok key
or_refused (Err e) = Err (error_of_crypto e)

abbrev pub or_bare : Result VerificationKey CryptoError → List ℕ → Result VerificationKey Error
or_bare (Ok key) der = Ok key
or_bare (Err e) der = or_refused (der_key_of RsaPkcs1Sha256 der)

-- a key in DER; of a log of certificates also a bare RSA key. An RSA key signs under each digest of its sort.
abbrev pub log_key_of : LogKind → List ℕ → Result VerificationKey Error
log_key_of Entries der = or_refused (spki_key_of der)
log_key_of Certificates der = or_bare (spki_key_of der) der

-- the ring with one log more
unfoldable pub log_added : LogKind → TrustedLog → Ring → Result Ring Error
log_added kind log ring = do
  _ ← window_usable log.valid_for
  id ← id_usable log.log_id.key_id
  _ ← id_new id ring
  key ← log_key_of kind log.raw_bytes
  Ok (with_held id (record { key = key; validity = log.valid_for }) ring)

-- the ring with logs more, in their order
abbrev pub logs_added : LogKind → List TrustedLog → Ring → Result Ring Error
logs_added kind [] ring = Ok ring
logs_added kind (log ∷ logs) ring = log_added kind log ring >>= logs_added kind logs

-- ---- authorities

abbrev pub nonempty : List (List ℕ) → Result ⊤ Error
nonempty [] = Err InvalidTrustRoot
nonempty (certificate ∷ certificates) = Ok tt

abbrev pub or_certificate : Result ⊤ PathError → Result ⊤ Error
or_certificate (Ok x) = Ok tt
or_certificate (Err e) = Err TrustedCertificate

-- the anchors with one certificate more, which is read and has no name constraints
unfoldable pub certificate_added : Option TimeRange → List ℕ → List TrustAnchor → Result (List TrustAnchor) Error
certificate_added valid_for certificate anchors = do
  _ ← or_certificate (may_anchor certificate)
  Ok (anchors ++ record { certificate = certificate; valid_for = valid_for } ∷ [])

abbrev pub certificates_added : Option TimeRange → List (List ℕ) → List TrustAnchor → Result (List TrustAnchor) Error
certificates_added valid_for [] anchors = Ok anchors
certificates_added valid_for (certificate ∷ certificates) anchors =
    certificate_added valid_for certificate anchors >>= certificates_added valid_for certificates

-- the anchors with those of an authority: each of its certificates, in its window
unfoldable pub authority_added : Authority → List TrustAnchor → Result (List TrustAnchor) Error
authority_added authority anchors = do
  _ ← window_usable authority.valid_for
  _ ← nonempty authority.certificates
  certificates_added authority.valid_for authority.certificates anchors

abbrev pub authorities_added : List Authority → List TrustAnchor → Result (List TrustAnchor) Error
authorities_added [] anchors = Ok anchors
authorities_added (authority ∷ authorities) anchors = authority_added authority anchors >>= authorities_added authorities

-- those that stamp times, each by its chain; one that is empty is none, and refused before
abbrev pub with_stamping : Result TsaAuthority TypesError → List TsaAuthority → List TsaAuthority
with_stamping (Ok authority) authorities = authority ∷ authorities
with_stamping (Err e) authorities = authorities

abbrev pub stamping_among : List Authority → List TsaAuthority
stamping_among [] = []
stamping_among (authority ∷ authorities) = with_stamping (stamping_of authority) (stamping_among authorities)

-- ---- the whole

-- what is kept of a trust file: the keys of logs by their ids, the certificates of certificate authorities as anchors, and the authorities
-- that stamp times; or the first check that fails
unfoldable pub material_of : TrustedRoot → Result Material Error
material_of trust = do
  logs ← logs_added Entries trust.tlogs []
  ct_logs ← logs_added Certificates trust.ctlogs []
  anchors ← authorities_added trust.certificate_authorities []
  _ ← authorities_added trust.timestamp_authorities []
  Ok (record { logs = logs; ct_logs = ct_logs; anchors = anchors; authorities = stamping_among trust.timestamp_authorities })

-- whether a verifier is made of it
abbrev pub usable_of : TrustedRoot → Result ⊤ Error
usable_of trust = material_of trust >>= λ _. Ok tt
