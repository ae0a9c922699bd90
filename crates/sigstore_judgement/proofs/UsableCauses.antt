-- Which refusals the making of a verifier gives.
use Rattle.std.proofs.Common.{◌≡◌, ℕ, Bool, true, false, cond, List, [], ◌∷◌, length, Option, Some, None, Result, Ok, Err, subst}
use Rattle.std.specs.Prelude.{⊤, nat_eq, is_some}
use Rattle.foundation.specs.Results.{refused_at, err_same}
use Rattle.sigstore_types_parts.specs.declared.time_range.TimeRange.{TimeRange}
use Rattle.sigstore_types_parts.specs.TimeRange.{ends_by}
use Rattle.sigstore_types.specs.declared.authority.Authority.{Authority}
use Rattle.sigstore_types.specs.declared.trusted_root.TrustedLog.{TrustedLog}
use Rattle.sigstore_types.specs.declared.trusted_root.TrustedRoot.{TrustedRoot}
use Rattle.sigstore_keys.specs.declared.error.Error.{Error as CryptoError}
use Rattle.sigstore_keys.specs.declared.error.Error.TheVariants as crypto
use Rattle.sigstore_keys.specs.declared.key.VerificationKey.{VerificationKey}
use Rattle.sigstore_keys.specs.declared.scheme.SigningScheme.TheVariants.{RsaPkcs1Sha256}
use Rattle.sigstore_keys.specs.Key.{spki_key_of, der_key_of}
use Rattle.sigstore_keys.specs.Keyring.{Ring, held_at}
use Rattle.path_core.specs.declared.error.PathError.{PathError}
use Rattle.path_core.specs.Anchors.{TrustAnchor, may_anchor}
use Rattle.sigstore_judgement.specs.declared.error.Error.{Error}
use Rattle.sigstore_judgement.specs.declared.error.Error.TheVariants.{InvalidTrustRoot, Types, Crypto, TrustedCertificate, NoMemory}
use Rattle.sigstore_judgement.specs.declared.trust.LogKind.{LogKind}
use Rattle.sigstore_judgement.specs.declared.trust.LogKind.TheVariants.{Entries, Certificates}
use Rattle.sigstore_judgement.specs.Error.{error_of_crypto}
use Rattle.sigstore_judgement.specs.Trust.{window_usable, id_usable, id_new, or_refused, or_bare, log_key_of, log_added, logs_added, nonempty, or_certificate}
use Rattle.sigstore_judgement.specs.Trust.{certificate_added, certificates_added, authority_added, authorities_added, material_of}

-- what is answered of a trust file that can't be used
abbrev pub IsFault : Error → Type 0
IsFault InvalidTrustRoot = ⊤
IsFault Types = ⊤
IsFault Crypto = ⊤
IsFault TrustedCertificate = ⊤
IsFault NoMemory = ⊤
IsFault _ = ⊥

window_fault : (window : Option TimeRange) (e : Error) → window_usable window ≡ Err e → IsFault e
window_fault None e h = cc
window_fault (Some range) e h = by (ends_by range.end range.start) h
  where
    by : (b : Bool) → ◌≡◌ {A = Result ⊤ Error} (cond b (Ok tt) (Err InvalidTrustRoot)) (Err e) → IsFault e
    by true h = cc
    by false h = subst IsFault (err_same InvalidTrustRoot e h) tt

id_fault : (id : List ℕ) (e : Error) → id_usable id ≡ Err e → IsFault e
id_fault id e h = by (nat_eq (length id) 32) h
  where
    by : (b : Bool) → ◌≡◌ {A = Result (List ℕ) Error} (cond b (Ok id) (Err Types)) (Err e) → IsFault e
    by true h = cc
    by false h = subst IsFault (err_same Types e h) tt

new_fault : (id : List ℕ) (ring : Ring) (e : Error) → id_new id ring ≡ Err e → IsFault e
new_fault id ring e h = by (is_some (held_at id ring)) h
  where
    by : (b : Bool) → ◌≡◌ {A = Result ⊤ Error} (cond b (Err InvalidTrustRoot) (Ok tt)) (Err e) → IsFault e
    by true h = subst IsFault (err_same InvalidTrustRoot e h) tt
    by false h = cc

crypto_fault : (d : CryptoError) → IsFault (error_of_crypto d)
crypto_fault crypto.Signing = tt
crypto_fault (crypto.Verification fault) = tt
crypto_fault crypto.InvalidKeyFormat = tt
crypto_fault crypto.UnsupportedAlgorithm = tt
crypto_fault (crypto.Checkpoint fault) = tt
crypto_fault (crypto.InvalidCertificate fault) = tt
crypto_fault (crypto.InvalidKey rule) = tt
crypto_fault crypto.NoMemory = tt

refused_fault : (r : Result VerificationKey CryptoError) (e : Error) → or_refused r ≡ Err e → IsFault e
refused_fault (Ok key) e h = cc
refused_fault (Err d) e h = subst IsFault (err_same (error_of_crypto d) e h) (crypto_fault d)

bare_fault : (r : Result VerificationKey CryptoError) (der : List ℕ) (e : Error) → or_bare r der ≡ Err e → IsFault e
bare_fault (Ok key) der e h = cc
bare_fault (Err d) der e h = refused_fault (der_key_of RsaPkcs1Sha256 der) e h

key_fault : (kind : LogKind) (der : List ℕ) (e : Error) → log_key_of kind der ≡ Err e → IsFault e
key_fault Entries der e h = refused_fault (spki_key_of der) e h
key_fault Certificates der e h = bare_fault (spki_key_of der) der e h

log_fault : (kind : LogKind) (log : TrustedLog) (ring : Ring) (e : Error) → log_added kind log ring ≡ Err e → IsFault e
unfolding log_added
log_fault kind log ring e h =
    refused_at (window_usable log.valid_for) _ e h (window_fault log.valid_for e) (λ x w k.
    refused_at (id_usable log.log_id.key_id) _ e k (id_fault log.log_id.key_id e) (λ id i l.
    refused_at (id_new id ring) _ e l (new_fault id ring e) (λ y n m.
    refused_at (log_key_of kind log.raw_bytes) _ e m (key_fault kind log.raw_bytes e) (λ key r z. cc))))

logs_fault : (kind : LogKind) (logs : List TrustedLog) (ring : Ring) (e : Error) → logs_added kind logs ring ≡ Err e → IsFault e
logs_fault kind [] ring e h = cc
logs_fault kind (log ∷ logs) ring e h =
    refused_at (log_added kind log ring) (logs_added kind logs) e h (log_fault kind log ring e) (λ after one rest. logs_fault kind logs after e rest)

chain_fault : (certificates : List (List ℕ)) (e : Error) → nonempty certificates ≡ Err e → IsFault e
chain_fault [] e h = subst IsFault (err_same InvalidTrustRoot e h) tt
chain_fault (c ∷ cs) e h = cc

may_fault : (r : Result ⊤ PathError) (e : Error) → or_certificate r ≡ Err e → IsFault e
may_fault (Ok x) e h = cc
may_fault (Err d) e h = subst IsFault (err_same TrustedCertificate e h) tt

certificates_fault : (valid_for : Option TimeRange) (certificates : List (List ℕ)) (anchors : List TrustAnchor) (e : Error) → certificates_added valid_for certificates anchors ≡ Err e → IsFault e
unfolding certificate_added
certificates_fault valid_for [] anchors e h = cc
certificates_fault valid_for (certificate ∷ certificates) anchors e h =
    refused_at (certificate_added valid_for certificate anchors) (certificates_added valid_for certificates) e h
    (λ k. refused_at (or_certificate (may_anchor certificate)) _ e k (may_fault (may_anchor certificate) e) (λ x m z. cc))
    (λ after one rest. certificates_fault valid_for certificates after e rest)

authority_fault : (authority : Authority) (anchors : List TrustAnchor) (e : Error) → authority_added authority anchors ≡ Err e → IsFault e
unfolding authority_added
authority_fault authority anchors e h =
    refused_at (window_usable authority.valid_for) _ e h (window_fault authority.valid_for e) (λ x w k.
    refused_at (nonempty authority.certificates) _ e k (chain_fault authority.certificates e) (λ y n l.
    certificates_fault authority.valid_for authority.certificates anchors e l))

authorities_fault : (authorities : List Authority) (anchors : List TrustAnchor) (e : Error) → authorities_added authorities anchors ≡ Err e → IsFault e
authorities_fault [] anchors e h = cc
authorities_fault (authority ∷ authorities) anchors e h =
    refused_at (authority_added authority anchors) (authorities_added authorities) e h (authority_fault authority anchors e) (λ after one rest. authorities_fault authorities after e rest)

pub material_fault : (trust : TrustedRoot) (e : Error) → material_of trust ≡ Err e → IsFault e
unfolding material_of
material_fault trust e h =
    refused_at (logs_added Entries trust.tlogs []) _ e h (logs_fault Entries trust.tlogs [] e) (λ logs o k.
    refused_at (logs_added Certificates trust.ctlogs []) _ e k (logs_fault Certificates trust.ctlogs [] e) (λ ct_logs p l.
    refused_at (authorities_added trust.certificate_authorities []) _ e l (authorities_fault trust.certificate_authorities [] e) (λ anchors q m.
    refused_at (authorities_added trust.timestamp_authorities []) _ e m (authorities_fault trust.timestamp_authorities [] e) (λ stamping r z. cc))))
