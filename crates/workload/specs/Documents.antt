-- The four documents of the fixed repository, each signed by one key (TUF specification, sections 4.2 to 4.6).
use Rattle.std.specs.Prelude.{ℕ, List, length, codes, false}
use Rattle.sha2.specs.Sha256.{sha256}
use Rattle.hex.specs.Hex.{encode_lower}
use Rattle.serde_json.specs.Data.{Data, unsigned, boolean, number, string, array, object, item, no_items, Members, member, no_members, put}
use Rattle.serde_json.specs.Written.{compact_text}
use Rattle.workload.specs.Keys.{armored_key}
use Rattle.workload.specs.Trust.{holding, trust_file}

-- ---- what documents are made of

abbrev pub key_id : List ℕ
key_id = codes "k"

abbrev pub one : Data
one = number (unsigned 1)

-- when the timestamp expires, and when the other documents do
abbrev pub soon : List ℕ
soon = codes "2030-01-01T00:00:00Z"

abbrev pub later : List ℕ
later = codes "2031-01-01T00:00:00Z"

unfoldable pub key_value : Data
key_value = object (member (codes "keytype") (string (codes "ecdsa"))
    (member (codes "keyval") (holding (codes "public") (string armored_key))
    (member (codes "scheme") (string (codes "ecdsa-sha2-nistp256")) no_members)))

-- the key alone, once
unfoldable pub role_value : Data
role_value = object (member (codes "keyids") (array (item (string key_id) no_items)) (member (codes "threshold") one no_members))

unfoldable pub roles_value : Data
roles_value = object (member (codes "root") role_value (member (codes "snapshot") role_value
    (member (codes "targets") role_value (member (codes "timestamp") role_value no_members))))

-- the trust file by its digest and its length
unfoldable pub target_value : Data
target_value = object (member (codes "hashes") (holding (codes "sha256") (string (encode_lower (sha256 trust_file))))
    (member (codes "length") (number (unsigned (length trust_file))) no_members))

-- what every kind of document has, here of version 1
unfoldable pub head_members : List ℕ → List ℕ → Members
head_members kind expires = member (codes "_type") (string kind) (member (codes "expires") (string expires)
    (member (codes "spec_version") (string (codes "1.0.0")) (member (codes "version") one no_members)))

-- a document of that kind which pins the first version of one other
unfoldable pub pinning : List ℕ → List ℕ → List ℕ → Data
pinning kind expires name = object (put (codes "meta") (holding name (holding (codes "version") one)) (head_members kind expires))

-- ---- what is signed

unfoldable pub root_signed : Data
root_signed = object (put (codes "roles") roles_value (put (codes "keys") (holding key_id key_value)
    (put (codes "consistent_snapshot") (boolean false) (head_members (codes "root") later))))

unfoldable pub timestamp_signed : Data
timestamp_signed = pinning (codes "timestamp") soon (codes "snapshot.json")

unfoldable pub snapshot_signed : Data
snapshot_signed = pinning (codes "snapshot") later (codes "targets.json")

unfoldable pub targets_signed : Data
targets_signed = object (put (codes "targets") (holding (codes "trusted_root.json") target_value) (head_members (codes "targets") later))

-- ---- the documents

-- the signature of one octet, 1
unfoldable pub signature_value : Data
signature_value = object (member (codes "keyid") (string key_id) (member (codes "sig") (string (codes "01")) no_members))

unfoldable pub document_value : Data → Data
document_value signed = object (member (codes "signatures") (array (item signature_value no_items)) (member (codes "signed") signed no_members))

-- the document's text, without blanks
abbrev pub document_text : Data → List ℕ
document_text signed = compact_text (document_value signed)

unfoldable pub root_bytes : List ℕ
root_bytes = document_text root_signed

unfoldable pub timestamp_bytes : List ℕ
timestamp_bytes = document_text timestamp_signed

unfoldable pub snapshot_bytes : List ℕ
snapshot_bytes = document_text snapshot_signed

unfoldable pub targets_bytes : List ℕ
targets_bytes = document_text targets_signed
