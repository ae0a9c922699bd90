-- The inputs at the highest place where two climbs differ.
use Rattle.std.specs.Prelude.{ℕ, Bool, cond, List, Option, Some, bytes_eq}
use Rattle.std.specs.Option.{option_map}
use Rattle.sigstore_merkle.specs.Climb.{input_at}
use Rattle.sigstore_merkle.specs.declared.side.Side.{Side}
use Rattle.sigstore_merkle.specs.declared.together.NodePair.{NodePair}
use Rattle.sigstore_merkle.specs.declared.together.Together.{Together}

-- whether the two of a pair are equal
abbrev pub is_same : List ℕ × List ℕ → Bool
is_same pair = bytes_eq pair.0 pair.1

-- the higher pair where its two differ, else what differs below
abbrev pub higher_of : List ℕ × List ℕ → Option (List ℕ × List ℕ) → Option (List ℕ × List ℕ)
higher_of pair lower = cond (is_same pair) lower (Some pair)

-- what is hashed above two hashes and their siblings
abbrev pub inputs_at : Side → List ℕ → List ℕ → List ℕ → List ℕ → List ℕ × List ℕ
inputs_at side a a_sibling b b_sibling = (input_at side a a_sibling, input_at side b b_sibling)

-- what was hashed at two nodes
abbrev pub inputs_of_pair : NodePair → List ℕ × List ℕ
inputs_of_pair p = inputs_at p.side p.a p.a_sibling p.b p.b_sibling

abbrev pub pair_of : Option NodePair → Option (List ℕ × List ℕ)
pair_of o = option_map inputs_of_pair o

-- what differs once both climbs have gone up one level
abbrev pub differing_above : Side → Together → List ℕ → List ℕ → Option (List ℕ × List ℕ)
differing_above side t a_sibling b_sibling = higher_of (inputs_at side t.a a_sibling t.b b_sibling) (pair_of t.differing)
