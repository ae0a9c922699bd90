-- The bundles of a list: a JSON text on each line that isn't blank (JSON Lines).
use Rattle.std.specs.Prelude.{ℕ, suc, ◌==◌, nat_lt, List, [], ◌∷◌, ◌++◌, length, Bool, ◌||◌, if◌then◌else◌, Result, Ok, Err}
use Rattle.std.specs.List.{list_all}
use Rattle.foundation.specs.Steps.{◌>>=◌}
use Rattle.command_bundles.specs.declared.lines.ListedBundle.{ListedBundle}
use Rattle.command_bundles.specs.declared.lines.ListFault.{ListFault}
use Rattle.command_bundles.specs.declared.lines.ListFault.TheVariants.{NoBundle, TooManyBundles}

-- ---- lines

-- the first line begins with this octet too
abbrev pub begun : ℕ → List (List ℕ) → List (List ℕ)
begun octet [] = (octet ∷ []) ∷ []
begun octet (line ∷ lines) = (octet ∷ line) ∷ lines

-- what stands between line feeds; behind the last one there is a line too, which may be empty
abbrev pub lines_of : List ℕ → List (List ℕ)
lines_of [] = [] ∷ []
lines_of (octet ∷ octets) = if octet == 10 then [] ∷ lines_of octets else begun octet (lines_of octets)

-- a blank, a tab or a carriage return
abbrev pub is_space : ℕ → Bool
is_space octet = octet == 32 || octet == 9 || octet == 13

abbrev pub is_blank : List ℕ → Bool
is_blank line = list_all is_space line

-- ---- bundles

-- the greatest number of bundles
abbrev pub max_bundles : ℕ
max_bundles = 1_000

abbrev pub listed : ℕ → List ℕ → ListedBundle
listed line text = record { line = line; text = text }

-- earlier bundles, and behind them that of a line, where it isn't blank and there is room
unfoldable pub added_of : List ListedBundle → ℕ → List ℕ → Result (List ListedBundle) ListFault
added_of before line text =
    if is_blank text then Ok before else
    if nat_lt (length before) max_bundles then Ok (before ++ listed line text ∷ []) else Err TooManyBundles

-- those of lines, of which the first has this number, behind earlier ones
abbrev pub bundles_from : List ListedBundle → ℕ → List (List ℕ) → Result (List ListedBundle) ListFault
bundles_from before line [] = Ok before
bundles_from before line (text ∷ texts) = added_of before line text >>= λ next. bundles_from next (suc line) texts

abbrev pub or_no_bundle : List ListedBundle → Result (List ListedBundle) ListFault
or_no_bundle [] = Err NoBundle
or_no_bundle (bundle ∷ bundles) = Ok (bundle ∷ bundles)

-- The bundles of a list, in order, each with the number of its line, from 1 on.
unfoldable pub listed_of : List ℕ → Result (List ListedBundle) ListFault
listed_of list = bundles_from [] 1 (lines_of list) >>= or_no_bundle
