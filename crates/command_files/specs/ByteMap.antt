-- Entries of a map from byte strings.
use Rattle.std.specs.Prelude.{ℕ, List, [], ◌∷◌, Vec}

-- the entries, with their keys as bytes
abbrev pub keyed : {A T : Type 0} → List (Vec ℕ A × T) → List (List ℕ × T)
keyed [] = []
keyed (e ∷ es) = (e.0.items, e.1) ∷ keyed es
