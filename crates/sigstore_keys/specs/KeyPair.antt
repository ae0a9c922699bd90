-- What a pair of keys signs, and its public key in DER (RFC 5280, section 4.1).
use Rattle.std.specs.Prelude.{◌≡◌, ℕ, List, ◌∷◌, ◌++◌, Option, Some, None, Result, Ok, Err}
use Rattle.foundation.specs.Steps.{◌>>=◌}
use Rattle.der_grammar.specs.Outcome.{Outcome}
use Rattle.der_grammar.specs.Grammar.{framed}
use Rattle.der_grammar.specs.Tags.{bit_string_tag, sequence_tag}
use Rattle.spki_core.specs.Spki.{Spki, spki_view_of}
use Rattle.sigstore_keys.specs.declared.error.Error.{Error}
use Rattle.sigstore_keys.specs.declared.error.Error.TheVariants.{Signing, InvalidKeyFormat}
use Rattle.sigstore_keys.specs.declared.scheme.KeyAlgorithm.{KeyAlgorithm}
use Rattle.sigstore_keys.specs.declared.scheme.KeyAlgorithm.TheVariants.{EcdsaP256, EcdsaP384, Ed25519, Rsa, MlDsa44, MlDsa65, MlDsa87}
use Rattle.sigstore_keys.specs.KeyAlgorithm.{p256_curve, p384_curve, ed25519_oid, ml_dsa_oid, named_of}
use Rattle.sigstore_keys.specs.Pairs.{oid, ec_id, rsa_id}

-- the signature, or that there is none
abbrev pub signed_or : Option (List ℕ) → Result (List ℕ) Error
signed_or None = Err Signing
signed_or (Some signature) = Ok signature

-- the contents of the AlgorithmIdentifier that names a sort of key
abbrev pub key_id_of : KeyAlgorithm → List ℕ
key_id_of EcdsaP256 = ec_id p256_curve
key_id_of EcdsaP384 = ec_id p384_curve
key_id_of Ed25519 = oid ed25519_oid
key_id_of Rsa = rsa_id
key_id_of MlDsa44 = oid (ml_dsa_oid 0x11)
key_id_of MlDsa65 = oid (ml_dsa_oid 0x12)
key_id_of MlDsa87 = oid (ml_dsa_oid 0x13)

-- SubjectPublicKeyInfo ::= SEQUENCE { algorithm AlgorithmIdentifier, subjectPublicKey BIT STRING }, the bits with no unused ones
unfoldable pub spki_with : List ℕ → List ℕ → Outcome (List ℕ)
spki_with key_id key = do
  algorithm ← framed sequence_tag key_id
  bits ← framed bit_string_tag (0 ∷ key)
  framed sequence_tag (algorithm ++ bits)

-- what is too long to be written isn't
abbrev pub or_too_long : Outcome (List ℕ) → Result (List ℕ) Error
or_too_long (Ok der) = Ok der
or_too_long (Err e) = Err InvalidKeyFormat

-- the public key of a sort in DER, or that it is too long
abbrev pub public_key_of : KeyAlgorithm → List ℕ → Result (List ℕ) Error
public_key_of algorithm key = or_too_long (spki_with (key_id_of algorithm) key)

-- these bytes are read as a key of that sort with whole octets, and that raw key
pub record IsPublicKey (sort : KeyAlgorithm) (key der : List ℕ) : Type 0 where
  pub spki : Spki
  pub read : spki_view_of der ≡ Ok spki
  pub sort_is : named_of spki.algorithm ≡ Ok sort
  pub whole : spki.unused_bits ≡ 0
  pub key_is : spki.key ≡ key
