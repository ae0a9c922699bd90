-- Digests by their algorithm (FIPS 180-4). Those of FIPS 202 are named and have no hasher.
use Rattle.std.specs.Prelude.{ℕ, List, [], Bool, true, false, map}
use Rattle.sha2.specs.Sha256.{sha256}
use Rattle.sha2.specs.Sha512.{sha384, sha512}
use Rattle.sigstore_types_parts.specs.declared.hash_algorithm.HashAlgorithm.{HashAlgorithm}
use Rattle.sigstore_types_parts.specs.declared.hash_algorithm.HashAlgorithm.TheVariants.{Sha2256, Sha2384, Sha2512, Sha3256, Sha3384}

-- whether an algorithm has a hasher
abbrev pub is_hashed : HashAlgorithm → Bool
is_hashed Sha2256 = true
is_hashed Sha2384 = true
is_hashed Sha2512 = true
is_hashed Sha3256 = false
is_hashed Sha3384 = false

-- the digest of bytes by an algorithm that has a hasher; nothing by the others
abbrev pub digest_by : HashAlgorithm → List ℕ → List ℕ
digest_by Sha2256 bytes = sha256 bytes
digest_by Sha2384 bytes = sha384 bytes
digest_by Sha2512 bytes = sha512 bytes
digest_by Sha3256 bytes = []
digest_by Sha3384 bytes = []

-- the digests of bytes by these algorithms, in their order
abbrev pub digests_by : List HashAlgorithm → List ℕ → List (HashAlgorithm × List ℕ)
digests_by algorithms bytes = map (λ algorithm. (algorithm, digest_by algorithm bytes)) algorithms
