-- A message with its digests (FIPS 180-4).
use Rattle.std.specs.Prelude.{◌≡◌, ℕ, List}
use Rattle.sha2.specs.Sha256.{sha256}
use Rattle.sha2.specs.Sha512.{sha384, sha512}

-- these are the message's digests by SHA-256, SHA-384 and SHA-512
pub record HasDigests (message small medium large : List ℕ) : Type 0 where
  pub by_sha256 : small ≡ sha256 message
  pub by_sha384 : medium ≡ sha384 message
  pub by_sha512 : large ≡ sha512 message
