-- An envelope with the digests by which entries name it (FIPS 180-4).
use Rattle.std.specs.Prelude.{◌≡◌, ℕ, List}
use Rattle.sha2.specs.Sha256.{sha256}
use Rattle.sigstore_envelopes.specs.declared.envelope.DsseEnvelope.{DsseEnvelope}
use Rattle.sigstore_envelopes.specs.Encoding.{encoding_of}

pub record IsHashed (envelope : DsseEnvelope) (encoded payload_digest encoding_digest : List ℕ) : Type 0 where
  pub encoding : encoded ≡ encoding_of envelope
  pub payload : payload_digest ≡ sha256 envelope.payload
  pub whole : encoding_digest ≡ sha256 (encoding_of envelope)
