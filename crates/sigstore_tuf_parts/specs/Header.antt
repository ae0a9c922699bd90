-- The kind of a document, and the version of the specification that it follows (TUF specification, section 4.3).
use Rattle.std.specs.Prelude.{ℕ, List, Bool, Option, Some, None, Result, Ok, Err, option_and_then, if◌then◌else◌, bytes_eq, codes, ◌==◌, ⊤}
use Rattle.std.specs.List.{before_first}
use Rattle.serde_json.specs.Data.{Data}
use Rattle.serde_json.specs.Find.{get, as_str}
use Rattle.foundation.specs.Steps.{◌>>=◌}
use Rattle.sigstore_tuf_text.specs.declared.error.Error.{Error}
use Rattle.sigstore_tuf_text.specs.declared.error.Error.TheVariants.{Malformed}
use Rattle.sigstore_tuf_text.specs.declared.error.Rule.{Rule}
use Rattle.sigstore_tuf_text.specs.declared.error.Rule.TheVariants.{Kind, SpecVersion}

-- what stands before the first dot is 1
unfoldable pub is_version_one_text : List ℕ → Bool
is_version_one_text version = bytes_eq (before_first (λ b. b == 46) version) (codes "1")

-- a text passes the test; what is missing or no text is refused later, as a member that isn't read
abbrev pub where_text : (List ℕ → Bool) → Rule → Option (List ℕ) → Result ⊤ Error
where_text test rule None = Ok tt
where_text test rule (Some s) = if test s then Ok tt else Err (Malformed rule)

unfoldable pub kind_of : List ℕ → Data → Result ⊤ Error
kind_of kind d = where_text (λ s. bytes_eq s kind) Kind (option_and_then as_str (get (codes "_type") d))

unfoldable pub spec_version_of : Data → Result ⊤ Error
spec_version_of d = where_text is_version_one_text SpecVersion (option_and_then as_str (get (codes "spec_version") d))

-- a `_type` that is a text is that kind, and a `spec_version` that is a text is of version 1
unfoldable pub header_of : List ℕ → Data → Result ⊤ Error
header_of kind d = do
  _ ← kind_of kind d
  spec_version_of d
