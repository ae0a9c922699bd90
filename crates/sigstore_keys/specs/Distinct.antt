-- How many different parties vouch, as logs and time-stamp authorities do: an id that comes again is the same party.
use Rattle.std.specs.Prelude.{ℕ, List, [], ◌∷◌, ◌++◌, length, Bool, nat_le, bytes_eq, if◌then◌else◌}
use Rattle.std.specs.List.{list_any}
use Rattle.sigstore_keys.specs.declared.distinct.Threshold.{Threshold}

abbrev pub is_among : List ℕ → List (List ℕ) → Bool
is_among id ids = list_any (λ other. bytes_eq id other) ids

-- the ids, and behind them one that isn't among them
abbrev pub with_id : List ℕ → List (List ℕ) → List (List ℕ)
with_id id ids = if is_among id ids then ids else ids ++ id ∷ []

-- the ids that were seen, and behind them those of a list that weren't, each once
abbrev pub each_once : List (List ℕ) → List (List ℕ) → List (List ℕ)
each_once seen [] = seen
each_once seen (id ∷ ids) = each_once (with_id id seen) ids

-- how many different ids a list has
abbrev pub count_distinct : List (List ℕ) → ℕ
count_distinct ids = length (each_once [] ids)

-- so many are as many as are asked for
abbrev pub is_enough : Threshold → ℕ → Bool
is_enough asked count = nat_le asked.value count
