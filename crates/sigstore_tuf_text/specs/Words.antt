-- The readers of members of documents: whatever isn't read is Json.
use Rattle.std.specs.Prelude.{ℕ, Bool, List, Option, Result, codes}
use Rattle.serde_json.specs.Data.{Data}
use Rattle.jiff_core.specs.declared.timestamp.Timestamp.{Timestamp}
use Rattle.sigstore_types_parts.specs.Read as read
use Rattle.sigstore_tuf_text.specs.declared.member.DocumentMember.{DocumentMember}
use Rattle.sigstore_tuf_text.specs.declared.member.DocumentMember.TheVariants as m
use Rattle.sigstore_tuf_text.specs.declared.error.Error.{Error}
use Rattle.sigstore_tuf_text.specs.Error.{error_of}

-- the member's name in the text
abbrev pub member_name : DocumentMember → List ℕ
member_name m.Keyid = codes "keyid"
member_name m.Sig = codes "sig"
member_name m.Type = codes "_type"
member_name m.SpecVersion = codes "spec_version"
member_name m.Version = codes "version"
member_name m.Expires = codes "expires"
member_name m.ConsistentSnapshot = codes "consistent_snapshot"
member_name m.Keys = codes "keys"
member_name m.Roles = codes "roles"
member_name m.Keytype = codes "keytype"
member_name m.Scheme = codes "scheme"
member_name m.Keyval = codes "keyval"
member_name m.Public = codes "public"
member_name m.Keyids = codes "keyids"
member_name m.Threshold = codes "threshold"
member_name m.Meta = codes "meta"
member_name m.Length = codes "length"
member_name m.Hashes = codes "hashes"
member_name m.Custom = codes "custom"
member_name m.Targets = codes "targets"
member_name m.Delegations = codes "delegations"
member_name m.Name = codes "name"
member_name m.Terminating = codes "terminating"
member_name m.Paths = codes "paths"
member_name m.PathHashPrefixes = codes "path_hash_prefixes"

-- the member, which has to be there
abbrev pub required : {T : Type 0} → (Data → Result T Error) → DocumentMember → Data → Result T Error
required reads m = read.required_of error_of (λ e. e) reads (member_name m)

-- the member, if it is there and not null
abbrev pub optional : {T : Type 0} → (Data → Result T Error) → DocumentMember → Data → Result (Option T) Error
optional reads m = read.optional_of error_of (λ e. e) reads (member_name m)

-- the member, or the default where it is absent
abbrev pub defaulted : {T : Type 0} → (Data → Result T Error) → DocumentMember → T → Data → Result T Error
defaulted reads m = read.defaulted_of error_of (λ e. e) reads (member_name m)

abbrev pub u64 : Data → Result ℕ Error
u64 = read.u64_of error_of

abbrev pub bool : Data → Result Bool Error
bool = read.bool_of error_of

abbrev pub text : Data → Result (List ℕ) Error
text = read.text_of error_of

abbrev pub moment : Data → Result Timestamp Error
moment = read.moment_of error_of

abbrev pub json : Data → Result Data Error
json = read.json_of

abbrev pub sequence : {T : Type 0} → (Data → Result T Error) → Data → Result (List T) Error
sequence = read.sequence_of error_of

abbrev pub map : {T : Type 0} → (Data → Result T Error) → Data → Result (List (List ℕ × T)) Error
map = read.map_of error_of
