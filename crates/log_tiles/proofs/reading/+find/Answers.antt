use Rattle.log_tiles.proofs.Found.{rest_of}
use Rattle.log_tiles.proofs.reading.+find.Goals as goal

pub returns-clause-among : goal.returns-clause-among
returns-clause-among t c =
    λ told size all. c.find.ensures.among told size (rest_of told size c.args.read.now _ _ c.in_ok-tile.ensures.cases.0 all)
