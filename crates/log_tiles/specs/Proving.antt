-- What a call promises that makes a proof from a log's tiles.
use Rattle.std.specs.Prelude.{◌≡◌, ℕ, ◌≤◌, [], length, take, get_or, Some, Result, Err, IfOk, IfErr, MatchResult}
use Rattle.foundation.specs.Watched.{Watched, Rose, IfTold, Since}
use Rattle.sigstore_merkle.specs.Tree.{root_from}
use Rattle.log_tiles.specs.Consistency.{AreConsistent}
use Rattle.log_tiles.specs.Whole.{tree_hash}
use Rattle.log_tiles.specs.Proofs.{path_of, proof_of}
use Rattle.log_tiles.specs.Tiles.{TileSet}
use Rattle.log_tiles.specs.Source.{Leaves}
use Rattle.log_tiles.specs.Cause.{TileCause}
use Rattle.log_tiles.specs.declared.error.TileError.{TileError}
use Rattle.log_tiles.specs.declared.error.TileError.TheVariants.{Sizes, IndexOutOfTree, NoMemory}

-- the path of a leaf of the tree over the first leaves (RFC 6962, section 2.1.1): with it the leaf gives the tree's root
pub record IsPath (index size : ℕ) (leaves path : Leaves) : Type 0 where
  pub hashes : path ≡ path_of index (take size leaves)
  pub root : root_from (get_or leaves index []) index size path ≡ Some (tree_hash (take size leaves))

-- the proof that a tree grew from an older one (RFC 6962, section 2.1.2): it is accepted for the roots of both
pub record IsProof (first second : ℕ) (leaves proof : Leaves) : Type 0 where
  pub hashes : proof ≡ proof_of first (take second leaves)
  pub accepted : AreConsistent first (tree_hash (take first leaves)) second (tree_hash (take second leaves)) proof

-- why no proof is made: the numbers aren't good, and this is their refusal; or the tiles that it is taken from give no answer
abbrev pub ProofCause : Type 0 → TileError → TileSet → ℕ → Watched Leaves → Watched Leaves → TileError → Type 0
ProofCause good wrong asked size old new (Sizes first second) = (good → ⊥) × (Sizes first second ≡ wrong)
ProofCause good wrong asked size old new (IndexOutOfTree index count) = (good → ⊥) × (IndexOutOfTree index count ≡ wrong)
ProofCause good wrong asked size old new e = good × TileCause asked size old new e

-- the refusal of the numbers exactly where they aren't good; over told leaves, as many as the tree has, a proof of them
pub record Proves {V : Type 0} (good : Type 0) (wrong : TileError) (asked : TileSet) (size : ℕ) (old new : Watched Leaves)
    (is : Leaves → V → Type 0) (result : Result V TileError) : Type 0 where
  pub since : Since old new
  pub sizes : (good → ⊥) → result ≡ Err wrong
  pub given : IfOk result (λ proof. IfTold old.told (λ leaves. size ≤ length leaves → is leaves proof))
  pub refused : IfErr result (ProofCause good wrong asked size old new)

-- a source that told these leaves, as many as the tree has, and raised no fault
pub record Serves (leaves : Leaves) (size : ℕ) (old new : Watched Leaves) : Type 0 where
  pub told : old.told ≡ Some leaves
  pub held : size ≤ length leaves
  pub quiet : Rose old.faults new.faults → ⊥

-- this is given, want of memory aside
abbrev pub Gives : {V : Type 0} → (V → Type 0) → Result V TileError → Type 0
Gives is result = MatchResult result is (λ e. e ≡ NoMemory)
