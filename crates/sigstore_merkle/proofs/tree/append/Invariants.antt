use Rattle.std.proofs.Common.{◌≡◌, ◌++◌}
use Rattle.sigstore_merkle.proofs.tree.append.Given as goal

abbrev pub invariant-paths : goal.invariant-paths
invariant-paths l = l.front ≡ l.fn.front ++ l.yielded
