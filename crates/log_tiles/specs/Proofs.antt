-- RFC 6962, sections 2.1.1 and 2.1.2: the path of a leaf, and the proof that a tree grew from an older one. As much fuel as there
-- are leaves is enough, and more changes nothing.
use Rattle.std.specs.Prelude.{ℕ, zero, suc, ◌-◌, ◌==◌, nat_lt, Bool, true, false, cond, List, [], ◌∷◌, ◌++◌, length, take, drop}
use Rattle.sigstore_merkle.specs.Tree.{split}
use Rattle.log_tiles.specs.Whole.{tree_hash}

-- the hashes of the parts in which the leaf isn't, the smallest first (section 2.1.1: PATH)
unfoldable pub path_within : ℕ → ℕ → List (List ℕ) → List (List ℕ)
path_within zero index leaves = []
path_within (suc fuel) index leaves =
    cond (nat_lt 1 (length leaves))
    (cond (nat_lt index (split (length leaves)))
    (path_within fuel index (take (split (length leaves)) leaves) ++ tree_hash (drop (split (length leaves)) leaves) ∷ [])
    (path_within fuel (index - split (length leaves)) (drop (split (length leaves)) leaves) ++ tree_hash
    (take (split (length leaves)) leaves) ∷ []))
    []

-- the path of the leaf at an index
abbrev pub path_of : ℕ → List (List ℕ) → List (List ℕ)
path_of index leaves = path_within (length leaves) index leaves

-- the proof for the tree over the first leaves; whole says that this is the tree that was asked for, whose root whoever asks has
-- (section 2.1.2: SUBPROOF)
unfoldable pub proof_within : ℕ → ℕ → Bool → List (List ℕ) → List (List ℕ)
proof_within zero first whole leaves = []
proof_within (suc fuel) first whole leaves =
    cond (first == length leaves)
    (cond whole [] (tree_hash leaves ∷ []))
    (cond (nat_lt (split (length leaves)) first)
    (proof_within fuel (first - split (length leaves)) false (drop (split (length leaves)) leaves) ++ tree_hash
    (take (split (length leaves)) leaves) ∷ [])
    (proof_within fuel first whole (take (split (length leaves)) leaves) ++ tree_hash (drop (split (length leaves)) leaves) ∷ []))

abbrev pub subproof_of : ℕ → Bool → List (List ℕ) → List (List ℕ)
subproof_of first whole leaves = proof_within (length leaves) first whole leaves

-- the proof that the tree over all leaves grew from that over the first ones (section 2.1.2: PROOF)
abbrev pub proof_of : ℕ → List (List ℕ) → List (List ℕ)
proof_of first leaves = subproof_of first true leaves
