use Rattle.log_tiles.proofs.parts.+path_parts.Given as goal

abbrev pub decreases-path_parts : goal.decreases-path_parts
decreases-path_parts l = l.part.count
