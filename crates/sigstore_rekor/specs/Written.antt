-- The bodies of requests: JSON without blanks, with the members of each object in ascending order.
use Rattle.std.specs.Prelude.{ℕ, List, ◌++◌, codes}
use Rattle.base64.specs.Engines.{standard}
use Rattle.base64.specs.GeneralPurpose.{encode_of}
use Rattle.hex.specs.Hex.{encode_lower}
use Rattle.json.specs.Print.{quoted}
use Rattle.serde_json.specs.Written.{compact_text}
use Rattle.sigstore_envelopes.specs.Written.{envelope_data}
use Rattle.sigstore_envelopes.specs.declared.envelope.DsseEnvelope.{DsseEnvelope}
use Rattle.sigstore_rekor_parts.specs.Members.{key_details_name_of}
use Rattle.sigstore_rekor.specs.declared.hashed_rekord.HashedRekord.{HashedRekord}
use Rattle.sigstore_rekor.specs.declared.dsse_entry.DsseEntry.{DsseEntry}
use Rattle.sigstore_rekor.specs.declared.hashed_rekord_v2.HashedRekordV2.{HashedRekordV2}
use Rattle.sigstore_rekor.specs.declared.hashed_rekord_v2.VerifierV2.{VerifierV2}
use Rattle.sigstore_rekor.specs.declared.hashed_rekord_v2.VerifierV2.TheVariants.{Certificate, PublicKey}
use Rattle.sigstore_rekor.specs.declared.queries.SearchIndex.{SearchIndex}
use Rattle.sigstore_rekor.specs.declared.queries.SearchIndex.TheVariants.{ByHash, ByEmail}

abbrev pub base64 : List ℕ → List ℕ
base64 octets = encode_of standard octets

-- ---- an envelope (DSSE, envelope.md)

-- the JSON text of its value
abbrev pub envelope_text_of : DsseEnvelope → List ℕ
envelope_text_of envelope = compact_text (envelope_data envelope)

-- ---- entries of version 0.0.1 (Rekor, "pluggable types")

abbrev pub hashed_rekord_written : List ℕ → List ℕ → List ℕ → List ℕ
hashed_rekord_written hash signature key =
    codes "{\"apiVersion\":\"0.0.1\",\"kind\":\"hashedrekord\",\"spec\":{\"data\":{\"hash\":{\"algorithm\":\"sha256\",\"value\":\""
    ++ (hash ++ (codes "\"}},\"signature\":{\"content\":\"" ++ (signature
    ++ (codes "\",\"publicKey\":{\"content\":\"" ++ (key ++ codes "\"}}}}")))))

abbrev pub hashed_rekord_text_of : HashedRekord → List ℕ
hashed_rekord_text_of entry = hashed_rekord_written (encode_lower entry.hash) (base64 entry.signature) (base64 entry.public_key)

abbrev pub dsse_written : List ℕ → List ℕ → List ℕ
dsse_written envelope verifier =
    codes "{\"apiVersion\":\"0.0.1\",\"kind\":\"dsse\",\"spec\":{\"proposedContent\":{\"envelope\":"
    ++ (envelope ++ (codes ",\"verifiers\":[\"" ++ (verifier ++ codes "\"]}}}")))

-- the envelope's text stands as a string
abbrev pub dsse_text_of : DsseEntry → List ℕ
dsse_text_of entry = dsse_written (quoted entry.envelope) (base64 entry.verifier)

-- ---- entries of version 0.0.2 (Rekor, "rekor-tiles")

abbrev pub verifier_text_of : VerifierV2 → List ℕ
verifier_text_of (Certificate certificate) = codes "\"x509Certificate\":{\"rawBytes\":\"" ++ (base64 certificate ++ codes "\"}")
verifier_text_of (PublicKey key) = codes "\"publicKey\":{\"rawBytes\":\"" ++ (base64 key ++ codes "\"}")

abbrev pub hashed_rekord_v2_written : List ℕ → List ℕ → List ℕ → List ℕ → List ℕ
hashed_rekord_v2_written digest signature details verifier =
    codes "{\"hashedRekordRequestV002\":{\"digest\":\"" ++ (digest ++ (codes "\",\"signature\":{\"content\":\"" ++ (signature
    ++ (codes "\",\"verifier\":{\"keyDetails\":\"" ++ (details ++ (codes "\"," ++ (verifier ++ codes "}}}}")))))))

abbrev pub hashed_rekord_v2_text_of : HashedRekordV2 → List ℕ
hashed_rekord_v2_text_of entry =
    hashed_rekord_v2_written (base64 entry.digest) (base64 entry.signature) (key_details_name_of entry.key_details)
    (verifier_text_of entry.verifier)

-- ---- searches

abbrev pub search_text_of : SearchIndex → List ℕ
search_text_of (ByHash hash) = codes "{\"hash\":\"sha256:" ++ (encode_lower hash ++ codes "\"}")
search_text_of (ByEmail email) = codes "{\"email\":" ++ (quoted email ++ codes "}")
