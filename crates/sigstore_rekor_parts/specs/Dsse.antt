-- Bodies of kind dsse (Rekor, "pluggable types"; of version 0.0.2, "rekor-tiles"). Other members are passed over.
use Rattle.std.specs.Prelude.{Result, Ok}
use Rattle.serde_json.specs.Data.{Data}
use Rattle.foundation.specs.Steps.{◌>>=◌}
use Rattle.sigstore_rekor_parts.specs.Members.{required, optional, list, text, bytes, algorithm_of, certificate_of, public_key_of}
use Rattle.sigstore_rekor_parts.specs.declared.member.RekorMember.TheVariants as m
use Rattle.sigstore_rekor_parts.specs.declared.error.Error.{Error}
use Rattle.sigstore_rekor_parts.specs.declared.dsse_v001.DsseV001Signature.{DsseV001Signature}
use Rattle.sigstore_rekor_parts.specs.declared.dsse_v001.PayloadHashV001.{PayloadHashV001}
use Rattle.sigstore_rekor_parts.specs.declared.dsse_v001.EnvelopeHash.{EnvelopeHash}
use Rattle.sigstore_rekor_parts.specs.declared.dsse_v001.DsseV001Spec.{DsseV001Spec}
use Rattle.sigstore_rekor_parts.specs.declared.dsse_v001.DsseV001Body.{DsseV001Body}
use Rattle.sigstore_rekor_parts.specs.declared.dsse_v002.DsseV002Verifier.{DsseV002Verifier}
use Rattle.sigstore_rekor_parts.specs.declared.dsse_v002.DsseV002Signature.{DsseV002Signature}
use Rattle.sigstore_rekor_parts.specs.declared.dsse_v002.PayloadHash.{PayloadHash}
use Rattle.sigstore_rekor_parts.specs.declared.dsse_v002.DsseV002Data.{DsseV002Data}
use Rattle.sigstore_rekor_parts.specs.declared.dsse_v002.DsseV002Spec.{DsseV002Spec}
use Rattle.sigstore_rekor_parts.specs.declared.dsse_v002.DsseV002Body.{DsseV002Body}

-- ---- dsse 0.0.1

-- a signature of an envelope, with an armoured text of whose it is
unfoldable pub signature_v001_of : Data → Result DsseV001Signature Error
signature_v001_of d = do
  signature ← required bytes m.Signature d
  verifier ← required bytes m.Verifier d
  Ok (record { signature = signature; verifier = verifier })

-- the hash of a payload; its value may be any text
unfoldable pub payload_hash_v001_of : Data → Result PayloadHashV001 Error
payload_hash_v001_of d = do
  algorithm ← algorithm_of d
  value ← required text m.Value d
  Ok (record { algorithm = algorithm; value = value })

-- the hash of an envelope; its value may be any text
unfoldable pub envelope_hash_of : Data → Result EnvelopeHash Error
envelope_hash_of d = do
  algorithm ← algorithm_of d
  value ← required text m.Value d
  Ok (record { algorithm = algorithm; value = value })

-- the hashes of the envelope and of its payload, and the signatures
unfoldable pub spec_v001_of : Data → Result DsseV001Spec Error
spec_v001_of d = do
  envelope_hash ← required envelope_hash_of m.EnvelopeHash d
  payload_hash ← required payload_hash_v001_of m.PayloadHash d
  signatures ← list signature_v001_of m.Signatures d
  Ok (record { envelope_hash = envelope_hash; payload_hash = payload_hash; signatures = signatures })

-- what a dsse entry of version 0.0.1 logs: the signatures of an envelope
unfoldable pub dsse_v001_of : Data → Result DsseV001Body Error
dsse_v001_of d = do
  spec ← required spec_v001_of m.Spec d
  Ok (record { spec = spec })

-- ---- dsse 0.0.2

-- the certificate or the key of a signature; both may be there
unfoldable pub verifier_v002_of : Data → Result DsseV002Verifier Error
verifier_v002_of d = do
  key_details ← required text m.KeyDetails d
  x509_certificate ← optional certificate_of m.X509Certificate d
  public_key ← optional public_key_of m.PublicKey d
  Ok (record { key_details = key_details; x509_certificate = x509_certificate; public_key = public_key })

-- a signature of an envelope, and whose it is
unfoldable pub signature_v002_of : Data → Result DsseV002Signature Error
signature_v002_of d = do
  content ← required bytes m.Content d
  verifier ← required verifier_v002_of m.Verifier d
  Ok (record { content = content; verifier = verifier })

-- the digest of a payload; it may have any length
unfoldable pub payload_hash_of : Data → Result PayloadHash Error
payload_hash_of d = do
  algorithm ← algorithm_of d
  digest ← required bytes m.Digest d
  Ok (record { algorithm = algorithm; digest = digest })

-- the hash of the payload, and the signatures
unfoldable pub data_v002_of : Data → Result DsseV002Data Error
data_v002_of d = do
  payload_hash ← required payload_hash_of m.PayloadHash d
  signatures ← list signature_v002_of m.Signatures d
  Ok (record { payload_hash = payload_hash; signatures = signatures })

-- the content of that body
unfoldable pub spec_v002_of : Data → Result DsseV002Spec Error
spec_v002_of d = do
  dsse_v002 ← required data_v002_of m.DsseV002 d
  Ok (record { dsse_v002 = dsse_v002 })

-- what a dsse entry of version 0.0.2 logs: the signatures of an envelope
unfoldable pub dsse_v002_of : Data → Result DsseV002Body Error
dsse_v002_of d = do
  spec ← required spec_v002_of m.Spec d
  Ok (record { spec = spec })
