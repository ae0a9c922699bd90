-- What the bodies of requests are as JSON values (RFC 8259), and the law that they are read as these.
use Rattle.std.specs.Prelude.{◌≡◌, ℕ, List, ◌++◌, codes, Some}
use Rattle.hex.specs.Hex.{encode_lower, IsBytes}
use Rattle.serde_json.specs.Data.{Data, string, array, object, no_items, item, no_members, member}
use Rattle.serde_json.specs.Read.{read}
use Rattle.sigstore_envelopes.specs.Written.{envelope_data}
use Rattle.sigstore_envelopes.specs.declared.envelope.DsseEnvelope.{DsseEnvelope}
use Rattle.sigstore_rekor_parts.specs.Members.{key_details_name_of}
use Rattle.sigstore_rekor.specs.Written.{base64, envelope_text_of, hashed_rekord_text_of, dsse_text_of, hashed_rekord_v2_text_of, search_text_of}
use Rattle.sigstore_rekor.specs.declared.hashed_rekord.HashedRekord.{HashedRekord}
use Rattle.sigstore_rekor.specs.declared.dsse_entry.DsseEntry.{DsseEntry}
use Rattle.sigstore_rekor.specs.declared.hashed_rekord_v2.HashedRekordV2.{HashedRekordV2}
use Rattle.sigstore_rekor.specs.declared.hashed_rekord_v2.VerifierV2.{VerifierV2}
use Rattle.sigstore_rekor.specs.declared.hashed_rekord_v2.VerifierV2.TheVariants.{Certificate, PublicKey}
use Rattle.sigstore_rekor.specs.declared.queries.SearchIndex.{SearchIndex}
use Rattle.sigstore_rekor.specs.declared.queries.SearchIndex.TheVariants.{ByHash, ByEmail}

-- an object of one member
abbrev pub holding : List ℕ → Data → Data
holding name d = object (member name d no_members)

-- ---- entries of version 0.0.1

abbrev pub entry_data : List ℕ → Data → Data
entry_data kind spec =
    object (member (codes "apiVersion") (string (codes "0.0.1")) (member (codes "kind") (string kind) (member (codes "spec") spec no_members)))

abbrev pub hash_data : List ℕ → Data
hash_data hash =
    holding (codes "hash") (object (member (codes "algorithm") (string (codes "sha256")) (member (codes "value") (string hash) no_members)))

abbrev pub hashed_rekord_data : List ℕ → List ℕ → List ℕ → Data
hashed_rekord_data hash signature key =
    entry_data (codes "hashedrekord") (object (member (codes "data") (hash_data hash)
    (member (codes "signature") (object (member (codes "content") (string signature)
    (member (codes "publicKey") (holding (codes "content") (string key)) no_members))) no_members)))

abbrev pub hashed_rekord_value : HashedRekord → Data
hashed_rekord_value entry = hashed_rekord_data (encode_lower entry.hash) (base64 entry.signature) (base64 entry.public_key)

abbrev pub dsse_data : List ℕ → List ℕ → Data
dsse_data envelope verifier =
    entry_data (codes "dsse") (holding (codes "proposedContent") (object (member (codes "envelope") (string envelope)
    (member (codes "verifiers") (array (item (string verifier) no_items)) no_members))))

-- the envelope's text is a string
abbrev pub dsse_value : DsseEntry → Data
dsse_value entry = dsse_data entry.envelope (base64 entry.verifier)

-- ---- entries of version 0.0.2

abbrev pub hashed_rekord_v2_data : List ℕ → List ℕ → List ℕ → List ℕ → List ℕ → Data
hashed_rekord_v2_data digest signature details sort der =
    holding (codes "hashedRekordRequestV002") (object (member (codes "digest") (string digest)
    (member (codes "signature") (object (member (codes "content") (string signature)
    (member (codes "verifier") (object (member (codes "keyDetails") (string details)
    (member sort (holding (codes "rawBytes") (string der)) no_members))) no_members))) no_members)))

-- the member of the verifier's sort, and what it holds
abbrev pub sort_of : VerifierV2 → List ℕ
sort_of (Certificate der) = codes "x509Certificate"
sort_of (PublicKey der) = codes "publicKey"

abbrev pub der_of : VerifierV2 → List ℕ
der_of (Certificate der) = der
der_of (PublicKey der) = der

abbrev pub hashed_rekord_v2_value : HashedRekordV2 → Data
hashed_rekord_v2_value entry =
    hashed_rekord_v2_data (base64 entry.digest) (base64 entry.signature) (key_details_name_of entry.key_details)
    (sort_of entry.verifier) (base64 (der_of entry.verifier))

-- ---- searches

abbrev pub search_value : SearchIndex → Data
search_value (ByHash hash) = holding (codes "hash") (string (codes "sha256:" ++ encode_lower hash))
search_value (ByEmail email) = holding (codes "email") (string email)

-- ---- the law: bodies whose parts are octets are read as these values

abbrev pub EnvelopesAreRead : Type 0
EnvelopesAreRead = (envelope : DsseEnvelope) → read (envelope_text_of envelope) ≡ Some (envelope_data envelope)

abbrev pub HashedRekordsAreRead : Type 0
HashedRekordsAreRead = (entry : HashedRekord) → IsBytes entry.hash → IsBytes entry.signature → IsBytes entry.public_key
    → read (hashed_rekord_text_of entry) ≡ Some (hashed_rekord_value entry)

abbrev pub DsseEntriesAreRead : Type 0
DsseEntriesAreRead = (entry : DsseEntry) → IsBytes entry.verifier → read (dsse_text_of entry) ≡ Some (dsse_value entry)

abbrev pub HashedRekordsV2AreRead : Type 0
HashedRekordsV2AreRead = (entry : HashedRekordV2) → IsBytes entry.digest → IsBytes entry.signature → IsBytes (der_of entry.verifier)
    → read (hashed_rekord_v2_text_of entry) ≡ Some (hashed_rekord_v2_value entry)

-- an email address is any text
abbrev pub IsHash : SearchIndex → Type 0
IsHash (ByHash hash) = IsBytes hash
IsHash (ByEmail email) = Unit {0}

abbrev pub SearchesAreRead : Type 0
SearchesAreRead = (query : SearchIndex) → IsHash query → read (search_text_of query) ≡ Some (search_value query)
