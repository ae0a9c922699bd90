-- The numbers of the refusals.
use Rattle.std.specs.Prelude.{ℕ}
use Rattle.sigstore_merkle.specs.declared.error.MerkleError.{MerkleError}
use Rattle.sigstore_merkle.specs.declared.error.MerkleError.TheVariants.{IndexOutOfTree, PathLength, RootMismatch, NoMemory}

abbrev pub number_of : MerkleError → ℕ
number_of (IndexOutOfTree index size) = 1
number_of (PathLength expected actual) = 2
number_of (RootMismatch computed) = 3
number_of NoMemory = 4
