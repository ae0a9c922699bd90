-- The key's DER is read as the raw key, and so is its declaration.
use Rattle.std.proofs.Common.{◌≡◌, List, ℕ, true, Some, Ok, refl}
use Rattle.std.specs.Prelude.{Result}
use Rattle.der_grammar.specs.Tlv.{tlv, length_bytes}
use Rattle.sigstore_keys.specs.Crypto.{Crypto}
use Rattle.sigstore_keys.specs.KeyAlgorithm.{algorithm_of_parts}
use Rattle.sigstore_keys.specs.Key.{key_with, key_under, spki_key_under}
use Rattle.sigstore_keys.specs.KeyPair.{public_key_of, spki_with, IsPublicKey}
use Rattle.sigstore_keys.specs.declared.scheme.KeyAlgorithm.TheVariants.{EcdsaP256}
use Rattle.sigstore_keys.specs.declared.scheme.SigningScheme.TheVariants.{EcdsaP256Sha256}
use Rattle.sigstore_keys.proofs.PublicKeys.{is_read}
use Rattle.sigstore_tuf_parts.specs.Crypto.{key_of}
use Rattle.workload.specs.Keys.{raw_key, spki, armored_key}
use Rattle.workload.specs.Law.{SignsDocuments}
use Rattle.workload.proofs.Contents.{verifier, the_key}
use Rattle.workload.proofs.Literals.{armored_trimmed}

encoded : public_key_of EcdsaP256 raw_key ≡ Ok spki
unfolding spki_with tlv length_bytes raw_key spki
encoded = refl

is_public : IsPublicKey EcdsaP256 raw_key spki
is_public = is_read EcdsaP256 raw_key spki encoded

der_read : spki_key_under EcdsaP256Sha256 spki ≡ Ok verifier
unfolding spki_key_under key_under algorithm_of_parts verifier
der_read = let is = is_public in rw (is.read, is.sort_is, is.whole, is.key_is)

pub key_usable : (crypto : Crypto) → SignsDocuments crypto → key_of crypto.armored crypto.key_in the_key ≡ Ok verifier
unfolding key_of the_key
key_usable crypto signs = rw (armored_trimmed, signs.armored, signs.held, der_read)
