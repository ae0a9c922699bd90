-- Envelopes as they are written as JSON (DSSE, envelope.md; ProtoJSON of Sigstore bundles).
use Rattle.std.specs.Prelude.{List, [], ◌∷◌, Option, Some}
use Rattle.serde_json.specs.Data.{Data, string}
use Rattle.sigstore_types_parts.specs.declared.member.TypesMember.{TypesMember}
use Rattle.sigstore_types_parts.specs.declared.member.TypesMember.TheVariants as m
use Rattle.sigstore_entries.specs.Writing.{octets_data, list_data, some_text, object_of}
use Rattle.sigstore_envelopes.specs.declared.envelope.DsseSignature.{DsseSignature}
use Rattle.sigstore_envelopes.specs.declared.envelope.DsseEnvelope.{DsseEnvelope}

-- the empty name is left out
abbrev pub signature_members : DsseSignature → List (TypesMember × Option Data)
signature_members signature =
    (m.SignatureKeyid, some_text signature.keyid.text)
    ∷ (m.Sig, Some (octets_data signature.sig))
    ∷ []

unfoldable pub signature_data : DsseSignature → Data
signature_data signature = object_of (signature_members signature)

abbrev pub envelope_members : DsseEnvelope → List (TypesMember × Option Data)
envelope_members envelope =
    (m.Payload, Some (octets_data envelope.payload))
    ∷ (m.PayloadType, Some (string envelope.payload_type))
    ∷ (m.Signatures, Some (list_data signature_data (envelope.signature ∷ [])))
    ∷ []

unfoldable pub envelope_data : DsseEnvelope → Data
envelope_data envelope = object_of (envelope_members envelope)
