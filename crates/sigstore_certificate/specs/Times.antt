-- The times at which a certificate was judged.
use Rattle.std.specs.Prelude.{◌≡◌, ◌⊎◌, ℕ, List, Option, Result, Ok}
use Rattle.std.specs.List.{AllByRecursion}
use Rattle.jiff_core.specs.declared.timestamp.Timestamp.{Timestamp}
use Rattle.sigstore_certificate.specs.declared.error.CertificateRefusal.{CertificateRefusal}

-- there is an issuer's key at the time
abbrev pub IsIssuedAt : (Timestamp → Result (List ℕ) CertificateRefusal) → Timestamp → Type 0
IsIssuedAt issuer_at time = (key : List ℕ) × (issuer_at time ≡ Ok key)

-- at each of the times
abbrev pub AreIssued : (Timestamp → Result (List ℕ) CertificateRefusal) → List Timestamp → Type 0
AreIssued issuer_at times = AllByRecursion (IsIssuedAt issuer_at) times

-- what was found at the last time, or else what was there before
abbrev pub IsKept : Option (List ℕ) → Option (List ℕ) → Timestamp → Timestamp → Option (List ℕ) → Type 0
IsKept before found time last kept = (kept ≡ before) ⊎ ((kept ≡ found) × (time ≡ last))
