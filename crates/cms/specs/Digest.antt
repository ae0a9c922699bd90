-- The digest of the content (RFC 5652, 5.4).
use Rattle.std.specs.Prelude.{ℕ, List, [], ◌∷◌, Option, Some, None, Ok, Err, if◌then◌else◌}
use Rattle.std.specs.Str.{bytes_eq}
use Rattle.foundation.specs.Steps.{◌>>=◌}
use Rattle.sha1.specs.Sha1.{sha1}
use Rattle.sha2.specs.Sha256.{sha224, sha256}
use Rattle.sha2.specs.Sha512.{sha384, sha512}
use Rattle.cms.specs.declared.error.Error.TheVariants.{Builder}
use Rattle.cms.specs.declared.error.BuilderFault.TheVariants.{ContentTwice, NoHasher}
use Rattle.cms.specs.Error.{Made}

-- id-sha1, 1.3.14.3.2.26 (RFC 3370, 2.1)
abbrev pub sha1_oid : List ℕ
sha1_oid = 43 ∷ 14 ∷ 3 ∷ 2 ∷ 26 ∷ []

-- 2.16.840.1.101.3.4.2.n (RFC 5754, 2)
abbrev pub sha2_oid : ℕ → List ℕ
sha2_oid n = 96 ∷ 134 ∷ 72 ∷ 1 ∷ 101 ∷ 3 ∷ 4 ∷ 2 ∷ n ∷ []

-- the digest of octets by the algorithm with this identifier, or NoHasher
unfoldable pub digest_by : List ℕ → List ℕ → Made (List ℕ)
digest_by oid octets =
    if bytes_eq oid sha1_oid then Ok (sha1 octets)
    else if bytes_eq oid (sha2_oid 4) then Ok (sha224 octets)
    else if bytes_eq oid (sha2_oid 1) then Ok (sha256 octets)
    else if bytes_eq oid (sha2_oid 2) then Ok (sha384 octets)
    else if bytes_eq oid (sha2_oid 3) then Ok (sha512 octets)
    else Err (Builder NoHasher)

-- the digest of the content's octets, without their tag and length, or the digest that was made elsewhere; None where neither
-- is there
unfoldable pub digest_of : List ℕ → Option (ℕ × List ℕ) → Option (List ℕ) → Made (Option (List ℕ))
digest_of oid None made = Ok made
digest_of oid (Some content) None = digest_by oid content.1 >>= λ digest. Ok (Some digest)
digest_of oid (Some content) (Some digest) = Err (Builder ContentTwice)
