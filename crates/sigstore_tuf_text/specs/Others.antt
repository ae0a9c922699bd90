-- The members of an object that a document's reader doesn't name.
use Rattle.std.specs.Prelude.{ℕ, List, [], ◌∷◌, Bool, bytes_eq, Option, Some, None, if◌then◌else◌}
use Rattle.std.specs.List.{list_any}
use Rattle.serde_json.specs.Data.{Data, Members, no_members, member}
use Rattle.serde_json.specs.Find.{as_object}
use Rattle.sigstore_tuf_text.specs.declared.member.DocumentMember.{DocumentMember}
use Rattle.sigstore_tuf_text.specs.Words.{member_name}

-- a member that is known has the name
abbrev pub is_named : List DocumentMember → List ℕ → Bool
is_named known name = list_any (λ m. bytes_eq (member_name m) name) known

-- the members with other names
abbrev pub others_in : List DocumentMember → Members → List (List ℕ × Data)
others_in known no_members = []
others_in known (member k d ms) = if is_named known k then others_in known ms else (k, d) ∷ others_in known ms

abbrev others_of_members : List DocumentMember → Option Members → List (List ℕ × Data)
others_of_members known None = []
others_of_members known (Some ms) = others_in known ms

unfoldable pub others_of : List DocumentMember → Data → List (List ℕ × Data)
others_of known d = others_of_members known (as_object d)
