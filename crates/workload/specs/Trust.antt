-- The trust file: one transparency log, as ProtoJSON (`TrustedRoot` of Sigstore's protobuf specifications).
use Rattle.std.specs.Prelude.{ℕ, List, codes}
use Rattle.serde_json.specs.Data.{Data, string, array, object, item, no_items, member, no_members}
use Rattle.serde_json.specs.Written.{compact_text}
use Rattle.workload.specs.Keys.{base64_of, log_id, spki}

-- an object of one member
abbrev pub holding : List ℕ → Data → Data
holding name value = object (member name value no_members)

-- the log's id and its key
unfoldable pub log_value : Data
log_value = object (member (codes "logId") (holding (codes "keyId") (string (base64_of log_id)))
    (member (codes "publicKey") (holding (codes "rawBytes") (string (base64_of spki))) no_members))

unfoldable pub trust_value : Data
trust_value = holding (codes "tlogs") (array (item log_value no_items))

-- without blanks
unfoldable pub trust_file : List ℕ
trust_file = compact_text trust_value
