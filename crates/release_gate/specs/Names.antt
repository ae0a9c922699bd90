-- Which files of a folder are bundles, and of which artifact; and which listings are judged.
use Rattle.std.specs.Prelude.{◌≢◌, ℕ, ◌==◌, ◌<◌, ◌≤◌, ◌↔◌, List, ◌++◌, Contains, Bool, bytes_eq, codes}
use Rattle.std.specs.List.{count_by, ends_with}
use Rattle.std.specs.List.Sorted.{IsStrictlySortedBy}
use Rattle.std.specs.declared.cmp.Ordering.TheVariants.{Less}
use Rattle.sigstore_types_parts.specs.Entries.{text_cmp}

-- the name of an artifact's bundle is the artifact's with this behind it
abbrev pub suffix : List ℕ
suffix = codes ".sigstore.json"

abbrev pub bundle_name : List ℕ → List ℕ
bundle_name name = name ++ suffix

-- every file whose name ends so is a bundle, and every other is an artifact
abbrev pub is_bundle : List ℕ → Bool
is_bundle name = ends_with (λ x y. x == y) name suffix

-- a listing that is longer isn't judged
abbrev pub max_names : ℕ
max_names = 100000

-- how often a name is listed
abbrev pub times_in : List (List ℕ) → List ℕ → ℕ
times_in names name = count_by (λ other. bytes_eq other name) names

-- no name is listed twice: else it wouldn't be said which file is judged
abbrev pub AreOnce : List (List ℕ) → Type 0
AreOnce names = (name : List ℕ) → times_in names name ≤ 1

-- a name is listed twice, and none before it is
pub record IsFirstDoubled (names : List (List ℕ)) (name : List ℕ) : Type 0 where
  pub twice : 1 < times_in names name
  pub first : (other : List ℕ) → 1 < times_in names other → text_cmp other name ≢ Less

-- these are the listed names, in ascending order of their bytes
pub record AreOrdered (listed names : List (List ℕ)) : Type 0 where
  pub ascend : IsStrictlySortedBy text_cmp names
  pub same : (name : List ℕ) → Contains listed name ↔ Contains names name
