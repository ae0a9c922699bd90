-- How values are written as JSON (RFC 8259; protobuf, "ProtoJSON Format"): octets in base64 (RFC 4648, section 4), 64-bit numbers
-- as decimal texts, and of an object's members those that are there, each once and in ascending order of their names.
use Rattle.std.specs.Prelude.{ℕ, ℤ, List, [], ◌∷◌, map, decimal, Option, Some, None}
use Rattle.std.specs.Fmt.{signed_decimal}
use Rattle.base64.specs.Engines.{standard}
use Rattle.base64.specs.GeneralPurpose.{encode_of}
use Rattle.serde_json.specs.Data.{Data, string, array, object, Members, no_members, put}
use Rattle.serde_json.specs.View.{items_of}
use Rattle.sigstore_types_parts.specs.Error.{name_of}
use Rattle.sigstore_types_parts.specs.declared.member.TypesMember.{TypesMember}

abbrev pub octets_data : List ℕ → Data
octets_data octets = string (encode_of standard octets)

-- a number of 64 bits without a sign
abbrev pub unsigned_data : ℕ → Data
unsigned_data number = string (decimal number)

-- one with a sign, which is written where it is a minus
abbrev pub signed_data : ℤ → Data
signed_data number = string (signed_decimal number)

abbrev pub list_data : {T : Type 0} → (T → Data) → List T → Data
list_data writes items = array (items_of (map writes items))

-- an empty list is absent
abbrev pub some_list : {T : Type 0} → (T → Data) → List T → Option Data
some_list writes [] = None
some_list writes (item ∷ items) = Some (list_data writes (item ∷ items))

-- the empty text is absent
abbrev pub some_text : List ℕ → Option Data
some_text [] = None
some_text (c ∷ cs) = Some (string (c ∷ cs))

-- others, and a member that may be absent
abbrev pub with_member : TypesMember → Option Data → Members → Members
with_member m None others = others
with_member m (Some d) others = put (name_of m) d others

abbrev pub members_of : List (TypesMember × Option Data) → Members
members_of [] = no_members
members_of (first ∷ others) = with_member first.0 first.1 (members_of others)

-- an object of these members
abbrev pub object_of : List (TypesMember × Option Data) → Data
object_of members = object (members_of members)

-- an object of one member
abbrev pub holding : TypesMember → Data → Data
holding m d = object_of ((m, Some d) ∷ [])
