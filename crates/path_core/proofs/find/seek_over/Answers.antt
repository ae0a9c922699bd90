use Rattle.path_core.specs.Search.{setting_of}
use Rattle.path_core.proofs.Counting.{found_decides}
use Rattle.path_core.proofs.find.seek_over.Goals as goal

pub returns-clause-ok : goal.returns-clause-ok
returns-clause-ok g c =
    found_decides (setting_of g.C.CryptoProvider.accepts c.args.given.now) _ _ _ c.in_ok-route.ensures.first c.in_ok-found.ensures.route c.in_ok-found.ensures.key
