-- Pairs of a key's and a signature's AlgorithmIdentifier, as the contents of their SEQUENCE (RFC 5280, section 4.1.1.2), with their scheme.
use Rattle.std.specs.Prelude.{ℕ, List, [], ◌∷◌, ◌++◌}
use Rattle.der_grammar.specs.Tags.{integer_tag, oid_tag, sequence_tag, constructed_0_tag}
use Rattle.der_grammar.specs.Tlv.{tlv}
use Rattle.sigstore_keys.specs.declared.scheme.SigningScheme.{SigningScheme}
use Rattle.sigstore_keys.specs.declared.scheme.SigningScheme.TheVariants.{EcdsaP256Sha256, EcdsaP256Sha384}
use Rattle.sigstore_keys.specs.declared.scheme.SigningScheme.TheVariants.{EcdsaP384Sha256, EcdsaP384Sha384, Ed25519}
use Rattle.sigstore_keys.specs.declared.scheme.SigningScheme.TheVariants.{RsaPssSha256, RsaPssSha384, RsaPssSha512}
use Rattle.sigstore_keys.specs.declared.scheme.SigningScheme.TheVariants.{RsaPkcs1Sha256, RsaPkcs1Sha384}
use Rattle.sigstore_keys.specs.declared.scheme.SigningScheme.TheVariants.{RsaPkcs1Sha512, MlDsa44, MlDsa65, MlDsa87}
use Rattle.sigstore_keys.specs.declared.pairs.SignatureAlgorithm.{SignatureAlgorithm}
use Rattle.sigstore_keys.specs.KeyAlgorithm.{ec_oid, p256_curve, p384_curve, rsa_oid, null, ed25519_oid, ml_dsa_oid}

pub record Pair : Type 0 where
  pub key_id : List ℕ
  pub signature_id : List ℕ
  pub scheme : SigningScheme

abbrev pub pair_of : SignatureAlgorithm → Pair
pair_of a = record { key_id = a.public_key_alg_id.now; signature_id = a.signature_alg_id.now; scheme = a.scheme }

abbrev pub pair : List ℕ → List ℕ → SigningScheme → Pair
pair key_id signature_id scheme = record { key_id = key_id; signature_id = signature_id; scheme = scheme }

abbrev pub oid : List ℕ → List ℕ
oid contents = tlv oid_tag contents

-- id-ecPublicKey with a curve (RFC 5480, section 2.1.1)
abbrev pub ec_id : List ℕ → List ℕ
ec_id curve = oid ec_oid ++ curve

-- ecdsa-with-SHA256 and ecdsa-with-SHA384: 1.2.840.10045.4.3.2 and .3, without parameters (RFC 5758, section 3.2)
abbrev pub ecdsa_id : ℕ → List ℕ
ecdsa_id last = oid (0x2a ∷ 0x86 ∷ 0x48 ∷ 0xce ∷ 0x3d ∷ 0x04 ∷ 0x03 ∷ last ∷ [])

-- 1.2.840.113549.1.1 with a last arc (RFC 8017, A.2)
abbrev pub pkcs1_oid : ℕ → List ℕ
pkcs1_oid last = oid (0x2a ∷ 0x86 ∷ 0x48 ∷ 0x86 ∷ 0xf7 ∷ 0x0d ∷ 0x01 ∷ 0x01 ∷ last ∷ [])

-- the SHA-2 algorithms with NULL: 2.16.840.1.101.3.4.2 with a last arc (RFC 4055, section 2.1)
abbrev pub hash_id : ℕ → List ℕ
hash_id last = tlv sequence_tag (oid (0x60 ∷ 0x86 ∷ 0x48 ∷ 0x01 ∷ 0x65 ∷ 0x03 ∷ 0x04 ∷ 0x02 ∷ last ∷ []) ++ null)

-- id-RSASSA-PSS with a hash, MGF1 over the same hash, and the salt's length (RFC 4055, section 3.1)
abbrev pub pss_id : ℕ → ℕ → List ℕ
pss_id last salt =
    pkcs1_oid 10
    ++ tlv sequence_tag
    (tlv constructed_0_tag (hash_id last)
    ++ tlv 161 (tlv sequence_tag (pkcs1_oid 8 ++ hash_id last))
    ++ tlv 162 (tlv integer_tag (salt ∷ [])))

abbrev pub rsa_id : List ℕ
rsa_id = oid rsa_oid ++ null

-- the pairs that are known, in their order
abbrev pub known_pairs : List Pair
known_pairs =
    pair (ec_id p256_curve) (ecdsa_id 2) EcdsaP256Sha256
    ∷ pair (ec_id p256_curve) (ecdsa_id 3) EcdsaP256Sha384
    ∷ pair (ec_id p384_curve) (ecdsa_id 2) EcdsaP384Sha256
    ∷ pair (ec_id p384_curve) (ecdsa_id 3) EcdsaP384Sha384
    ∷ pair (oid ed25519_oid) (oid ed25519_oid) Ed25519
    ∷ pair rsa_id (pkcs1_oid 11 ++ null) RsaPkcs1Sha256
    ∷ pair rsa_id (pkcs1_oid 12 ++ null) RsaPkcs1Sha384
    ∷ pair rsa_id (pkcs1_oid 13 ++ null) RsaPkcs1Sha512
    ∷ pair rsa_id (pkcs1_oid 11) RsaPkcs1Sha256
    ∷ pair rsa_id (pkcs1_oid 12) RsaPkcs1Sha384
    ∷ pair rsa_id (pkcs1_oid 13) RsaPkcs1Sha512
    ∷ pair rsa_id (pss_id 1 32) RsaPssSha256
    ∷ pair rsa_id (pss_id 2 48) RsaPssSha384
    ∷ pair rsa_id (pss_id 3 64) RsaPssSha512
    ∷ pair (oid (ml_dsa_oid 17)) (oid (ml_dsa_oid 17)) MlDsa44
    ∷ pair (oid (ml_dsa_oid 18)) (oid (ml_dsa_oid 18)) MlDsa65
    ∷ pair (oid (ml_dsa_oid 19)) (oid (ml_dsa_oid 19)) MlDsa87
    ∷ []
