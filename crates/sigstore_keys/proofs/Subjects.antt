-- What a signature is judged over has the length of its scheme's digest.
use Rattle.std.proofs.Common.{◌≡◌, ℕ, List, length}
use Rattle.std.specs.Prelude.{IsTrue}
use Rattle.sha2.proofs.Facts256.{length-sha256}
use Rattle.sha2.proofs.Facts512.{length-sha384, length-sha512}
use Rattle.sigstore_keys.specs.declared.scheme.SigningScheme.{SigningScheme}
use Rattle.sigstore_keys.specs.declared.scheme.SigningScheme.TheVariants.{EcdsaP256Sha256, EcdsaP256Sha384, EcdsaP384Sha256, EcdsaP384Sha384, Ed25519, RsaPssSha256, RsaPssSha384, RsaPssSha512, RsaPkcs1Sha256, RsaPkcs1Sha384, RsaPkcs1Sha512, MlDsa44, MlDsa65, MlDsa87}
use Rattle.sigstore_keys.specs.Good.{subject_of}
use Rattle.sigstore_keys.specs.Scheme.{has_digest, digest_size_of}

pub subject_size : (scheme : SigningScheme) (message : List ℕ) → IsTrue (has_digest scheme) → length (subject_of scheme message) ≡ digest_size_of scheme
subject_size EcdsaP256Sha256 message h = length-sha256 message
subject_size EcdsaP256Sha384 message h = length-sha384 message
subject_size EcdsaP384Sha256 message h = length-sha256 message
subject_size EcdsaP384Sha384 message h = length-sha384 message
subject_size Ed25519 message h = cc
subject_size RsaPssSha256 message h = length-sha256 message
subject_size RsaPssSha384 message h = length-sha384 message
subject_size RsaPssSha512 message h = length-sha512 message
subject_size RsaPkcs1Sha256 message h = length-sha256 message
subject_size RsaPkcs1Sha384 message h = length-sha384 message
subject_size RsaPkcs1Sha512 message h = length-sha512 message
subject_size MlDsa44 message h = cc
subject_size MlDsa65 message h = cc
subject_size MlDsa87 message h = cc
