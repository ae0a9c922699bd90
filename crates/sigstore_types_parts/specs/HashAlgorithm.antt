-- Digest algorithms (FIPS 180-4, FIPS 202): their lengths and names.
use Rattle.std.specs.Prelude.{ℕ, List, [], ◌∷◌, ◌++◌, length, nat_eq, bytes_eq, Bool, true, false, ◌||◌, if◌then◌else◌}
use Rattle.std.specs.Prelude.{Option, Some, None, Result, Ok, Err, codes}
use Rattle.std.specs.List.{list_any}
use Rattle.sigstore_types_parts.specs.declared.hash_algorithm.HashAlgorithm.{HashAlgorithm}
use Rattle.sigstore_types_parts.specs.declared.hash_algorithm.HashAlgorithm.TheVariants.{Sha2256, Sha2384, Sha2512, Sha3256, Sha3384}
use Rattle.sigstore_types_parts.specs.declared.error.TypesError.{TypesError}
use Rattle.sigstore_types_parts.specs.declared.error.TypesError.TheVariants.{Length}

abbrev pub same_algorithm : HashAlgorithm → HashAlgorithm → Bool
same_algorithm Sha2256 Sha2256 = true
same_algorithm Sha2384 Sha2384 = true
same_algorithm Sha2512 Sha2512 = true
same_algorithm Sha3256 Sha3256 = true
same_algorithm Sha3384 Sha3384 = true
same_algorithm a b = false

-- the length of a digest in bytes
abbrev pub digest_len_of : HashAlgorithm → ℕ
digest_len_of Sha2256 = 32
digest_len_of Sha2384 = 48
digest_len_of Sha2512 = 64
digest_len_of Sha3256 = 32
digest_len_of Sha3384 = 48

-- the name that Rekor's entries use
abbrev pub rekor_name_of : HashAlgorithm → List ℕ
rekor_name_of Sha2256 = codes "sha256"
rekor_name_of Sha2384 = codes "sha384"
rekor_name_of Sha2512 = codes "sha512"
rekor_name_of Sha3256 = codes "sha3-256"
rekor_name_of Sha3384 = codes "sha3-384"

-- the text is one of two
abbrev pub is_either : List ℕ → List ℕ → List ℕ → Bool
is_either a b name = bytes_eq name a || bytes_eq name b

-- the algorithm of a name, as bundles or as Rekor's entries write it
abbrev pub algorithm_named : List ℕ → Option HashAlgorithm
algorithm_named name =
    if is_either (codes "SHA2_256") (codes "sha256") name then Some Sha2256 else
    if is_either (codes "SHA2_384") (codes "sha384") name then Some Sha2384 else
    if is_either (codes "SHA2_512") (codes "sha512") name then Some Sha2512 else
    if is_either (codes "SHA3_256") (codes "sha3-256") name then Some Sha3256 else
    if is_either (codes "SHA3_384") (codes "sha3-384") name then Some Sha3384 else
    None

-- a digest of that algorithm
abbrev pub artifact_digest_of : HashAlgorithm → List ℕ → Result (HashAlgorithm × List ℕ) TypesError
artifact_digest_of algorithm bytes =
    if nat_eq (length bytes) (digest_len_of algorithm) then Ok (algorithm, bytes) else Err (Length (digest_len_of algorithm) (length bytes))

-- ---- lists of algorithms

-- an algorithm behind a list, unless it stands there already
abbrev pub with_algorithm : List HashAlgorithm → HashAlgorithm → List HashAlgorithm
with_algorithm list algorithm = if list_any (same_algorithm algorithm) list then list else list ++ algorithm ∷ []

abbrev pub with_optional : List HashAlgorithm → Option HashAlgorithm → List HashAlgorithm
with_optional list None = list
with_optional list (Some algorithm) = with_algorithm list algorithm
