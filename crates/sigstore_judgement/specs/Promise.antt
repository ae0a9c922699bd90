-- What the verification of an artifact promises: of one that is read, and of one that is handed in.
use Rattle.std.specs.Prelude.{◌≡◌, ◌≢◌, ◌⊎◌, ℕ, ◌≤◌, ◌+◌, List, length, Result, Ok, Err, IfOk, IfErr}
use Rattle.std.specs.Io.KnownBytes.{prepend_known, IsAtEnd}
use Rattle.foundation.specs.Steps.{◌>>=◌}
use Rattle.foundation.specs.Watched.{Watched, Rose}
use Rattle.jiff_core.specs.declared.timestamp.Timestamp.{Timestamp}
use Rattle.sigstore_types.specs.declared.bundle.Bundle.{Bundle}
use Rattle.sigstore_types.specs.declared.trusted_root.TrustedRoot.{TrustedRoot}
use Rattle.sigstore_keys.specs.Crypto.{Crypto}
use Rattle.sigstore_keys.specs.Digest.{digests_by}
use Rattle.sigstore_keys.specs.declared.reader.ReadError.{ReadError}
use Rattle.sigstore_keys.specs.declared.reader.ReadError.TheVariants.{Failed, TooLong}
use Rattle.sigstore_judgement.specs.declared.error.Error.{Error}
use Rattle.sigstore_judgement.specs.declared.error.Error.TheVariants.{ArtifactRead, NoMemory}
use Rattle.sigstore_judgement.specs.declared.report.VerificationResult.{VerificationResult}
use Rattle.sigstore_judgement.specs.declared.report.JudgedBundle.{JudgedBundle}
use Rattle.sigstore_judgement.specs.Artifact.{Artifact, Read, read_kind}
use Rattle.sigstore_judgement.specs.Grounds.{Terms, terms_with}
use Rattle.sigstore_policy.specs.Policy.{Meaning}
use Rattle.sigstore_judgement.specs.Trust.{material_of}
use Rattle.sigstore_judgement.specs.Judged.{Ready, prepared_of, judged_of, needed_by}
use Rattle.sigstore_judgement.specs.Signer.{first_checks_of}

-- the artifact is these bytes: a source that tells its bytes gave exactly them, up to its end
pub record ReadWhole (old new : Watched (List ℕ)) (max : ℕ) (bytes : List ℕ) : Type 0 where
  pub given : old.told ≡ prepend_known bytes new.told
  pub ended : IsAtEnd new.told
  pub short : length bytes ≤ max

-- what was taken of the source are its first bytes, at most one more than the limit: whatever refuses, no more is read
abbrev pub TookWithin : Watched (List ℕ) → Watched (List ℕ) → ℕ → Type 0
TookWithin old new max = (bytes : List ℕ) × (old.told ≡ prepend_known bytes new.told) × (length bytes ≤ max + 1)

-- why the reading failed: a read did, or more bytes than the limit were given
abbrev pub ReadCause : Watched (List ℕ) → Watched (List ℕ) → ℕ → ReadError → Type 0
ReadCause old new max Failed = Rose old.faults new.faults
ReadCause old new max (TooLong limit) =
    (limit ≡ max) × (bytes : List ℕ) × (old.told ≡ prepend_known bytes new.told) × (length bytes ≡ max + 1)

-- refused before the artifact was read
pub record BeforeReading (terms : Terms) (bundle : Bundle) (old new : Watched (List ℕ)) (e : Error) : Type 0 where
  pub unread : new ≡ old
  pub refusal : prepared_of read_kind terms.policy bundle ≡ Err e

-- refused in the reading
pub record InReading (terms : Terms) (bundle : Bundle) (old new : Watched (List ℕ)) (max : ℕ) (e : Error) : Type 0 where
  pub ready : Ready
  pub prepared : prepared_of read_kind terms.policy bundle ≡ Ok ready
  pub refusal : (fault : ReadError) × (e ≡ ArtifactRead fault) × ReadCause old new max fault

-- refused by the digests of the bytes that were read
pub record AfterReading (terms : Terms) (bundle : Bundle) (old new : Watched (List ℕ)) (max : ℕ) (e : Error) : Type 0 where
  pub ready : Ready
  pub prepared : prepared_of read_kind terms.policy bundle ≡ Ok ready
  pub refusal : (bytes : List ℕ) × ReadWhole old new max bytes × (judged_of terms bundle (Read bytes) ≡ Err e)

-- the cause of a refusal; want of memory needs none
abbrev pub Cause : Terms → Bundle → Watched (List ℕ) → Watched (List ℕ) → ℕ → Error → Type 0
Cause terms bundle old new max e =
    (e ≡ NoMemory) ⊎ (BeforeReading terms bundle old new e
    ⊎ (InReading terms bundle old new max e ⊎ AfterReading terms bundle old new max e))

-- out of memory only where the checks that need none pass
abbrev pub WantsMemory : Terms → Bundle → Error → Type 0
WantsMemory terms bundle e = e ≡ NoMemory → first_checks_of terms.policy bundle ≡ Ok tt

-- the bytes were read to the end, and the bundle is accepted by their digests with this report
pub record Accepted (terms : Terms) (bundle : Bundle) (old new : Watched (List ℕ)) (max : ℕ) (report : VerificationResult)
    (bytes : List ℕ) : Type 0 where
  pub read : ReadWhole old new max bytes
  pub judged : judged_of terms bundle (Read bytes) ≡ Ok report

-- the promise of a verification of an artifact that is read
pub record Verifies (terms : Terms) (bundle : Bundle) (old new : Watched (List ℕ)) (max : ℕ)
    (result : Result VerificationResult Error) : Type 0 where
  pub later : old.faults ≤ new.faults
  pub within : TookWithin old new max
  pub accepted : IfOk result (λ report. (bytes : List ℕ) × Accepted terms bundle old new max report bytes)
  pub refused : IfErr result (Cause terms bundle old new max)
  pub memory : IfErr result (WantsMemory terms bundle)

-- the promise of one that keeps the digests: they are those that were needed, in their order, of the same bytes
pub record VerifiesKept (terms : Terms) (bundle : Bundle) (old new : Watched (List ℕ)) (max : ℕ) (result : Result JudgedBundle Error) : Type 0 where
  pub later : old.faults ≤ new.faults
  pub within : TookWithin old new max
  pub accepted : IfOk result (λ kept. (bytes : List ℕ) × Accepted terms bundle old new max kept.result bytes
      × (kept.digests ≡ digests_by (needed_by terms.policy bundle) bytes))
  pub refused : IfErr result (Cause terms bundle old new max)
  pub memory : IfErr result (WantsMemory terms bundle)

-- the promise of a verification of an artifact that is handed in: the judgement, or want of memory
pub record VerifiesHanded (terms : Terms) (bundle : Bundle) (artifact : Artifact) (result : Result VerificationResult Error) : Type 0 where
  pub accepted : IfOk result (λ report. judged_of terms bundle artifact ≡ Ok report)
  pub refused : IfErr result (λ e. e ≢ NoMemory → judged_of terms bundle artifact ≡ Err e)
  pub memory : IfErr result (WantsMemory terms bundle)

-- the judgement under a trust file of which a verifier is made
abbrev pub judged_under : Crypto → Timestamp → Meaning → TrustedRoot → Bundle → Artifact → Result VerificationResult Error
judged_under crypto now policy trust bundle artifact =
    material_of trust >>= λ material. judged_of (terms_with crypto material now policy) bundle artifact

-- the promise of a verification that makes its verifier: that of the trust file comes first
pub record VerifiesUnder (crypto : Crypto) (now : Timestamp) (policy : Meaning) (trust : TrustedRoot) (bundle : Bundle)
    (artifact : Artifact) (result : Result VerificationResult Error) : Type 0 where
  pub accepted : IfOk result (λ report. judged_under crypto now policy trust bundle artifact ≡ Ok report)
  pub refused : IfErr result (λ e. e ≢ NoMemory → judged_under crypto now policy trust bundle artifact ≡ Err e)
