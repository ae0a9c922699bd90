-- Octets that objects hold in base64.
use Rattle.std.specs.Prelude.{ℕ, List, Result}
use Rattle.serde_json.specs.Data.{Data}
use Rattle.sigstore_types_parts.specs.Error.{types_of}
use Rattle.sigstore_types_parts.specs.Read as read
use Rattle.sigstore_types_parts.specs.declared.member.TypesMember.{TypesMember}
use Rattle.sigstore_types_parts.specs.declared.error.TypesError.{TypesError}
use Rattle.sigstore_entries.specs.Entry.{required, bytes}

-- the octets that an object holds in base64 under this member
unfoldable pub held_of : TypesMember → Data → Result (List ℕ) TypesError
held_of m d = required bytes m d

-- those of each object of a list
abbrev pub each_held : TypesMember → Data → Result (List (List ℕ)) TypesError
each_held m d = read.sequence_of types_of (held_of m) d
