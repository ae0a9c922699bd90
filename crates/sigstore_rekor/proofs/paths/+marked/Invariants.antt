use Rattle.sigstore_rekor.proofs.paths.+marked.Given as goal

abbrev pub decreases-marked : goal.decreases-marked
decreases-marked l = l.groups
