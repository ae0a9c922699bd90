-- Bodies of kind hashedrekord (Rekor, "pluggable types"; of version 0.0.2, "rekor-tiles"). Other members are passed over.
use Rattle.std.specs.Prelude.{Result, Ok}
use Rattle.serde_json.specs.Data.{Data}
use Rattle.foundation.specs.Steps.{◌>>=◌}
use Rattle.sigstore_rekor_parts.specs.Members.{required, optional, bytes, algorithm_of, key_details_of, certificate_of, public_key_of, hash_value_of}
use Rattle.sigstore_rekor_parts.specs.declared.member.RekorMember.TheVariants as m
use Rattle.sigstore_rekor_parts.specs.declared.error.Error.{Error}
use Rattle.sigstore_rekor_parts.specs.declared.hashed_rekord_v001.PublicKeyContent.{PublicKeyContent}
use Rattle.sigstore_rekor_parts.specs.declared.hashed_rekord_v001.HashedRekordV001Signature.{HashedRekordV001Signature}
use Rattle.sigstore_rekor_parts.specs.declared.hashed_rekord_v001.HashedRekordV001Data.{HashedRekordV001Data}
use Rattle.sigstore_rekor_parts.specs.declared.hashed_rekord_v001.HashedRekordV001Spec.{HashedRekordV001Spec}
use Rattle.sigstore_rekor_parts.specs.declared.hashed_rekord_v001.HashedRekordV001Body.{HashedRekordV001Body}
use Rattle.sigstore_rekor_parts.specs.declared.hashed_rekord_v002.HashedRekordV002Verifier.{HashedRekordV002Verifier}
use Rattle.sigstore_rekor_parts.specs.declared.hashed_rekord_v002.HashedRekordV002Signature.{HashedRekordV002Signature}
use Rattle.sigstore_rekor_parts.specs.declared.hashed_rekord_v002.HashedRekordV002DataInner.{HashedRekordV002DataInner}
use Rattle.sigstore_rekor_parts.specs.declared.hashed_rekord_v002.HashedRekordV002Data.{HashedRekordV002Data}
use Rattle.sigstore_rekor_parts.specs.declared.hashed_rekord_v002.HashedRekordV002Spec.{HashedRekordV002Spec}
use Rattle.sigstore_rekor_parts.specs.declared.hashed_rekord_v002.HashedRekordV002Body.{HashedRekordV002Body}

-- ---- hashedrekord 0.0.1

-- an armoured text of a certificate or of a public key
unfoldable pub public_key_content_of : Data → Result PublicKeyContent Error
public_key_content_of d = do
  content ← required bytes m.Content d
  Ok (record { content = content })

-- the signature, and whose it is
unfoldable pub signature_v001_of : Data → Result HashedRekordV001Signature Error
signature_v001_of d = do
  content ← required bytes m.Content d
  public_key ← required public_key_content_of m.PublicKey d
  Ok (record { content = content; public_key = public_key })

-- the artifact
unfoldable pub data_v001_of : Data → Result HashedRekordV001Data Error
data_v001_of d = do
  hash ← required hash_value_of m.Hash d
  Ok (record { hash = hash })

-- the artifact and the signature
unfoldable pub spec_v001_of : Data → Result HashedRekordV001Spec Error
spec_v001_of d = do
  data_ ← required data_v001_of m.Data d
  signature ← required signature_v001_of m.Signature d
  Ok (record { data_ = data_; signature = signature })

-- what a hashedrekord entry of version 0.0.1 logs: a signature over an artifact
unfoldable pub hashed_rekord_v001_of : Data → Result HashedRekordV001Body Error
hashed_rekord_v001_of d = do
  spec ← required spec_v001_of m.Spec d
  Ok (record { spec = spec })

-- ---- hashedrekord 0.0.2

-- the certificate or the key of a signature; both may be there
unfoldable pub verifier_v002_of : Data → Result HashedRekordV002Verifier Error
verifier_v002_of d = do
  key_details ← required key_details_of m.KeyDetails d
  x509_certificate ← optional certificate_of m.X509Certificate d
  public_key ← optional public_key_of m.PublicKey d
  Ok (record { key_details = key_details; x509_certificate = x509_certificate; public_key = public_key })

-- the signature, and whose it is
unfoldable pub signature_v002_of : Data → Result HashedRekordV002Signature Error
signature_v002_of d = do
  content ← required bytes m.Content d
  verifier ← required verifier_v002_of m.Verifier d
  Ok (record { content = content; verifier = verifier })

-- the digest of what is signed; it may have any length
unfoldable pub digest_v002_of : Data → Result HashedRekordV002DataInner Error
digest_v002_of d = do
  algorithm ← algorithm_of d
  digest ← required bytes m.Digest d
  Ok (record { algorithm = algorithm; digest = digest })

-- the digest and the signature
unfoldable pub data_v002_of : Data → Result HashedRekordV002Data Error
data_v002_of d = do
  data_ ← required digest_v002_of m.Data d
  signature ← required signature_v002_of m.Signature d
  Ok (record { data_ = data_; signature = signature })

-- the content of that body
unfoldable pub spec_v002_of : Data → Result HashedRekordV002Spec Error
spec_v002_of d = do
  hashed_rekord_v002 ← required data_v002_of m.HashedRekordV002 d
  Ok (record { hashed_rekord_v002 = hashed_rekord_v002 })

-- what a hashedrekord entry of version 0.0.2 logs: a signature over a digest
unfoldable pub hashed_rekord_v002_of : Data → Result HashedRekordV002Body Error
hashed_rekord_v002_of d = do
  spec ← required spec_v002_of m.Spec d
  Ok (record { spec = spec })
