use Rattle.std.proofs.Common.{◌≡◌, map}
use Rattle.sigstore_merkle.specs.Whole.{with_sibling}
use Rattle.sigstore_merkle.proofs.tree.add_sibling.Given as goal

abbrev pub invariant-paths : goal.invariant-paths
invariant-paths l = l.longer ≡ map (with_sibling l.sibling) l.yielded
