-- A text that is asked for.
use Rattle.std.specs.Prelude.{ℕ, List, ◌++◌, codes, Bool, false, bytes_eq, Option, Some, None}
use Rattle.sigstore_policy.specs.declared.matcher.TextMatcher.{TextMatcher}
use Rattle.sigstore_policy.specs.declared.matcher.TextMatcher.TheVariants.{Exact, Like}
use Rattle.sigstore_policy.specs.Pattern.{like}

-- it is that text octet by octet, or of the pattern as a whole
abbrev pub text_matches : TextMatcher → List ℕ → Bool
text_matches (Exact text) told = bytes_eq text told
text_matches (Like pattern) told = like pattern told

-- what isn't told matches nothing, not even a pattern of any text
abbrev pub is_matched : TextMatcher → Option (List ℕ) → Bool
is_matched asked None = false
is_matched asked (Some told) = text_matches asked told

-- as it is printed
abbrev pub text_shown : TextMatcher → List ℕ
text_shown (Exact text) = text
text_shown (Like pattern) = codes "like " ++ pattern
