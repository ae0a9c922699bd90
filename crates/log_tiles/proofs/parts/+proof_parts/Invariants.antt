use Rattle.log_tiles.proofs.parts.+proof_parts.Given as goal

abbrev pub decreases-proof_parts : goal.decreases-proof_parts
decreases-proof_parts l = l.part.count
