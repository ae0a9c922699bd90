-- The names of the refusals, by their numbers.
use Rattle.std.specs.Prelude.{ℕ, ◌==◌, List, [], codes, if◌then◌else◌}

-- the name that is printed with a number
abbrev pub refusal_name : ℕ → List ℕ
refusal_name n =
    if n == 1 then codes "IdentityMismatch" else
    if n == 2 then codes "IssuerMismatch" else
    if n == 3 then codes "SignatureInvalid" else
    if n == 4 then codes "ArtifactMismatch" else
    if n == 5 then codes "UnsupportedArtifact" else
    if n == 6 then codes "CertificateMalformed" else
    if n == 7 then codes "ChainInvalid" else
    if n == 8 then codes "NoValidAuthority" else
    if n == 9 then codes "NotYetValid" else
    if n == 10 then codes "CertificateExpired" else
    if n == 11 then codes "Sct" else
    if n == 12 then codes "UnknownLog" else
    if n == 13 then codes "InclusionProof" else
    if n == 14 then codes "Checkpoint" else
    if n == 15 then codes "InclusionPromise" else
    if n == 16 then codes "EntryMismatch" else
    if n == 17 then codes "IntegratedTime" else
    if n == 18 then codes "MalformedEntry" else
    if n == 19 then codes "TimestampInvalid" else
    if n == 20 then codes "OutsideAuthorityValidity" else
    if n == 21 then codes "NoVerifiedTimestamp" else
    if n == 22 then codes "InvalidBundle" else
    if n == 23 then codes "UnsupportedBundle" else
    if n == 24 then codes "InvalidTrustRoot" else
    if n == 25 then codes "Types" else
    if n == 26 then codes "Crypto" else
    if n == 27 then codes "Bundle" else
    if n == 28 then codes "TrustRoot" else
    if n == 29 then codes "TrustedCertificate" else
    if n == 30 then codes "ArtifactRead" else
    if n == 31 then codes "NoMemory" else
    if n == 32 then codes "TooFewLogs" else
    if n == 33 then codes "ClaimMismatch" else
    if n == 34 then codes "PredicateMismatch" else
    if n == 35 then codes "TooFewTimes" else
    if n == 36 then codes "TooFewTokens" else
    if n == 37 then codes "TimeOutside" else []
