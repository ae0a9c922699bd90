-- Bodies of kind intoto, version 0.0.2 (Rekor, "pluggable types"). Other members are passed over.
use Rattle.std.specs.Prelude.{Result, Ok}
use Rattle.serde_json.specs.Data.{Data}
use Rattle.foundation.specs.Steps.{◌>>=◌}
use Rattle.sigstore_rekor_parts.specs.Members.{required, optional, list, text, bytes, hash_value_of}
use Rattle.sigstore_rekor_parts.specs.declared.member.RekorMember.TheVariants as m
use Rattle.sigstore_rekor_parts.specs.declared.error.Error.{Error}
use Rattle.sigstore_rekor_parts.specs.declared.intoto_v002.IntotoSignature.{IntotoSignature}
use Rattle.sigstore_rekor_parts.specs.declared.intoto_v002.IntotoEnvelope.{IntotoEnvelope}
use Rattle.sigstore_rekor_parts.specs.declared.intoto_v002.IntotoV002Content.{IntotoV002Content}
use Rattle.sigstore_rekor_parts.specs.declared.intoto_v002.IntotoV002Spec.{IntotoV002Spec}
use Rattle.sigstore_rekor_parts.specs.declared.intoto_v002.IntotoV002Body.{IntotoV002Body}

-- ---- intoto 0.0.2

-- a signature of an envelope, with an armoured text of whose it is
unfoldable pub signature_of : Data → Result IntotoSignature Error
signature_of d = do
  keyid ← optional text m.SignatureKeyid d
  sig ← required bytes m.Sig d
  public_key ← required bytes m.PublicKey d
  Ok (record { keyid = keyid; sig = sig; public_key = public_key })

-- an envelope without its payload
unfoldable pub envelope_of : Data → Result IntotoEnvelope Error
envelope_of d = do
  payload_type ← required text m.PayloadType d
  signatures ← list signature_of m.Signatures d
  Ok (record { payload_type = payload_type; signatures = signatures })

-- the envelope, its hash, and that of its payload
unfoldable pub content_of : Data → Result IntotoV002Content Error
content_of d = do
  envelope ← required envelope_of m.Envelope d
  hash ← required hash_value_of m.Hash d
  payload_hash ← required hash_value_of m.PayloadHash d
  Ok (record { envelope = envelope; hash = hash; payload_hash = payload_hash })

-- the content of that body
unfoldable pub spec_of : Data → Result IntotoV002Spec Error
spec_of d = do
  content ← required content_of m.Content d
  Ok (record { content = content })

-- what an intoto entry of version 0.0.2 logs: an envelope without its payload
unfoldable pub intoto_v002_of : Data → Result IntotoV002Body Error
intoto_v002_of d = do
  spec ← required spec_of m.Spec d
  Ok (record { spec = spec })
