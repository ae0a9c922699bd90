-- The laws of encodings and of envelopes.
use Rattle.std.specs.Prelude.{◌≡◌, ◌<◌, ◌^◌, ℕ, List, length, Ok}
use Rattle.serde_json.specs.Data.{Data}
use Rattle.sigstore_envelopes.specs.Encoding.{pae_of}
use Rattle.sigstore_envelopes.specs.Envelope.{envelope_of}
use Rattle.sigstore_envelopes.specs.Written.{envelope_data}
use Rattle.sigstore_envelopes.specs.declared.envelope.DsseEnvelope.{DsseEnvelope}

-- Equal encodings have equal types and payloads (else a signature of one content would be one of another), of types of fewer
-- than 2^64 octets, as all texts in memory are.
abbrev pub EncodingsAreDistinct : Type 0
EncodingsAreDistinct =
    (t p t' p' : List ℕ) → length t < 2 ^ 64 → length t' < 2 ^ 64 → pae_of t p ≡ pae_of t' p' → (t ≡ t') × (p ≡ p')

-- an envelope that is read is read again where it is written
abbrev pub EnvelopesAreReadAgain : Type 0
EnvelopesAreReadAgain = (d : Data) (envelope : DsseEnvelope) → envelope_of d ≡ Ok envelope → envelope_of (envelope_data envelope) ≡ Ok envelope
