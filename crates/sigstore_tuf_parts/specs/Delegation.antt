-- Whether a delegation is for a path (TUF 4.5: `paths` and `path_hash_prefixes`).
use Rattle.std.specs.Prelude.{ℕ, List, [], ◌∷◌, Bool, true, false, ◌==◌, if◌then◌else◌, Option, Some, None, Result, Ok}
use Rattle.std.specs.List.{list_any, starts_with}
use Rattle.foundation.specs.Steps.{◌>>=◌}
use Rattle.sha2.specs.Sha256.{sha256}
use Rattle.hex.specs.Hex.{encode_lower}
use Rattle.sigstore_tuf_text.specs.declared.error.Error.{Error}
use Rattle.sigstore_tuf_text.specs.Pattern.{matches}
use Rattle.sigstore_tuf_parts.specs.declared.targets.DelegatedRole.{DelegatedRole}

-- the patterns, in order until one matches
abbrev pub any_matches : List ℕ → List (List ℕ) → Result Bool Error
any_matches path [] = Ok false
any_matches path (pattern ∷ later) = matches pattern path >>= λ found. (if found then Ok true else any_matches path later)

-- the hexadecimal SHA-256 of the path begins with one
abbrev pub has_prefix : List ℕ → List (List ℕ) → Bool
has_prefix path prefixes = list_any (λ prefix. starts_with (λ a b. a == b) (encode_lower (sha256 path)) prefix) prefixes

abbrev pub paths_match : List ℕ → Option (List (List ℕ)) → Result Bool Error
paths_match path None = Ok false
paths_match path (Some patterns) = any_matches path patterns

-- where there are hash prefixes, they alone count
abbrev pub path_matches : List ℕ → Option (List (List ℕ)) → Option (List (List ℕ)) → Result Bool Error
path_matches path (Some prefixes) patterns = Ok (has_prefix path prefixes)
path_matches path None patterns = paths_match path patterns

-- whether the delegation is for the path
unfoldable pub matches_path_of : DelegatedRole → List ℕ → Result Bool Error
matches_path_of d path = path_matches path d.path_hash_prefixes d.paths
