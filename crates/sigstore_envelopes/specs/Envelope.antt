-- Envelopes of signed payloads as JSON (DSSE, envelope.md; ProtoJSON of Sigstore bundles).
use Rattle.std.specs.Prelude.{ℕ, List, [], ◌∷◌, Option, Some, None, Result, Ok, Err}
use Rattle.serde_json.specs.Data.{Data}
use Rattle.foundation.specs.Steps.{◌>>=◌}
use Rattle.sigstore_types_parts.specs.Error.{types_of}
use Rattle.sigstore_types_parts.specs.Read as read
use Rattle.sigstore_types_parts.specs.declared.member.TypesMember.TheVariants as m
use Rattle.sigstore_types_parts.specs.declared.error.TypesError.{TypesError}
use Rattle.sigstore_types_parts.specs.declared.error.TypesError.TheVariants as e
use Rattle.sigstore_entries.specs.Entry.{required, optional, text, bytes}
use Rattle.sigstore_envelopes.specs.declared.key_id.KeyId.{KeyId}
use Rattle.sigstore_envelopes.specs.declared.envelope.DsseSignature.{DsseSignature}
use Rattle.sigstore_envelopes.specs.declared.envelope.DsseEnvelope.{DsseEnvelope}

-- a key that isn't named has the empty name
abbrev pub key_id_of : Option (List ℕ) → KeyId
key_id_of None = record { text = [] }
key_id_of (Some name) = record { text = name }

unfoldable pub signature_of : Data → Result DsseSignature TypesError
signature_of d = do
  sig ← required bytes m.Sig d
  keyid ← optional text m.SignatureKeyid d
  Ok (record { sig = sig; keyid = key_id_of keyid })

-- exactly one signature (bundles have no envelopes with others: sigstore_bundle.proto)
abbrev pub only_of : List DsseSignature → Result DsseSignature TypesError
only_of [] = Err (e.Field m.Signatures)
only_of (signature ∷ []) = Ok signature
only_of (signature ∷ other ∷ others) = Err (e.Field m.Signatures)

-- each signature is read before they are counted; other members are passed over
unfoldable pub envelope_of : Data → Result DsseEnvelope TypesError
envelope_of d = do
  payload ← required bytes m.Payload d
  payload_type ← required text m.PayloadType d
  signatures ← required (read.sequence_of types_of signature_of) m.Signatures d
  signature ← only_of signatures
  Ok (record { payload_type = payload_type; payload = payload; signature = signature })
