-- Object identifiers, each as its contents, and the digests that they name.
use Rattle.std.specs.Prelude.{ℕ, List, [], ◌∷◌, bytes_eq, Option, Some, None, Result, Ok, Err, if◌then◌else◌}
use Rattle.der_grammar.specs.declared.error.DerError.TheVariants.{Oid}
use Rattle.sigstore_types_parts.specs.declared.hash_algorithm.HashAlgorithm.{HashAlgorithm}
use Rattle.sigstore_types_parts.specs.declared.hash_algorithm.HashAlgorithm.TheVariants.{Sha2256, Sha2384, Sha2512, Sha3256, Sha3384}
use Rattle.sigstore_tsa_parts.specs.declared.algorithm.AlgorithmIdentifier.{AlgorithmIdentifier}
use Rattle.sigstore_tsa_parts.specs.declared.error.Error.{Error}
use Rattle.sigstore_tsa_parts.specs.declared.error.Error.TheVariants.{Asn1}

-- id-sha256, id-sha384 and id-sha512: 2.16.840.1.101.3.4.2.1, .2 and .3 (RFC 5754, 2)
abbrev pub sha2_oid : ℕ → List ℕ
sha2_oid last = 96 ∷ 134 ∷ 72 ∷ 1 ∷ 101 ∷ 3 ∷ 4 ∷ 2 ∷ last ∷ []

-- id-ct-TSTInfo, 1.2.840.113549.1.9.16.1.4 (RFC 3161, 2.4.2)
abbrev pub tst_info_oid : List ℕ
tst_info_oid = 42 ∷ 134 ∷ 72 ∷ 134 ∷ 247 ∷ 13 ∷ 1 ∷ 9 ∷ 16 ∷ 1 ∷ 4 ∷ []

-- the digest that an identifier names, whatever its parameters are (RFC 5754, 2, has them both left out and NULL)
abbrev pub digest_named : List ℕ → Option HashAlgorithm
digest_named oid =
    if bytes_eq oid (sha2_oid 1) then Some Sha2256 else
    if bytes_eq oid (sha2_oid 2) then Some Sha2384 else
    if bytes_eq oid (sha2_oid 3) then Some Sha2512 else
    None

abbrev pub without_parameters : List ℕ → AlgorithmIdentifier
without_parameters oid = record { algorithm = oid; parameters = None }

-- the identifier of a digest; those of FIPS 202 have none here
abbrev pub identifier_of : HashAlgorithm → Result AlgorithmIdentifier Error
identifier_of Sha2256 = Ok (without_parameters (sha2_oid 1))
identifier_of Sha2384 = Ok (without_parameters (sha2_oid 2))
identifier_of Sha2512 = Ok (without_parameters (sha2_oid 3))
identifier_of Sha3256 = Err (Asn1 Oid)
identifier_of Sha3384 = Err (Asn1 Oid)
