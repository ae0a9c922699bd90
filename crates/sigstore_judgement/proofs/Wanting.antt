-- Whether a refusal is want of memory.
use Rattle.std.proofs.Common.{◌≡◌, ◌≢◌, ◌⊎◌, inl, inr, refl}
use Rattle.sigstore_judgement.specs.declared.error.Error.{Error}
use Rattle.sigstore_judgement.specs.declared.error.Error.TheVariants as verify

pub is_want : (e : Error) → (e ≡ verify.NoMemory) ⊎ (e ≢ verify.NoMemory)
is_want verify.NoMemory = inl refl
is_want (verify.IdentityMismatch a b) = inr (λ h. cc)
is_want (verify.IssuerMismatch a b) = inr (λ h. cc)
is_want verify.SignatureInvalid = inr (λ h. cc)
is_want verify.ArtifactMismatch = inr (λ h. cc)
is_want verify.UnsupportedArtifact = inr (λ h. cc)
is_want (verify.Certificate a) = inr (λ h. cc)
is_want (verify.TransparencyLog a) = inr (λ h. cc)
is_want (verify.Timestamp a) = inr (λ h. cc)
is_want verify.InvalidBundle = inr (λ h. cc)
is_want verify.UnsupportedBundle = inr (λ h. cc)
is_want verify.InvalidTrustRoot = inr (λ h. cc)
is_want verify.Types = inr (λ h. cc)
is_want verify.Crypto = inr (λ h. cc)
is_want verify.Bundle = inr (λ h. cc)
is_want verify.TrustRoot = inr (λ h. cc)
is_want verify.TrustedCertificate = inr (λ h. cc)
is_want (verify.ArtifactRead a) = inr (λ h. cc)
is_want (verify.TooFewLogs a b) = inr (λ h. cc)
is_want (verify.ClaimMismatch a b c) = inr (λ h. cc)
is_want (verify.PredicateMismatch a b) = inr (λ h. cc)
is_want (verify.TooFewTimes a b) = inr (λ h. cc)
is_want (verify.TooFewTokens a b) = inr (λ h. cc)
is_want (verify.TimeOutside a) = inr (λ h. cc)

-- want of memory, or what holds of every other refusal
pub wanting : {A : Type 0} (e : Error) → (e ≢ verify.NoMemory → A) → (e ≡ verify.NoMemory) ⊎ A
wanting {A} e f = by (is_want e)
  where
    by : (e ≡ verify.NoMemory) ⊎ (e ≢ verify.NoMemory) → (e ≡ verify.NoMemory) ⊎ A
    by (inl is) = inl is
    by (inr other) = inr (f other)
