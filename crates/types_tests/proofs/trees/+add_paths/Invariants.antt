use Rattle.types_tests.proofs.trees.+add_paths.Given as goal

abbrev pub decreases-add_paths : goal.decreases-add_paths
decreases-add_paths g l = l.levels
