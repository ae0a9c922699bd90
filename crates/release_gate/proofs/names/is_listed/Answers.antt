use Rattle.release_gate.proofs.Order.{search_finds, search_misses}
use Rattle.release_gate.proofs.names.is_listed.Goals as goal

pub returns-clause-yes : goal.returns-clause-yes
returns-clause-yes c = search_finds c.args.names.now c.args.name.now c.binary_search.result c.is_ok.result c.is_ok.ensures.value c.binary_search.ensures.bound c.binary_search.ensures.ok

pub returns-clause-no : goal.returns-clause-no
returns-clause-no c = search_misses c.args.names.now c.args.name.now c.binary_search.result c.is_ok.result c.requires c.is_ok.ensures.value c.binary_search.ensures.position
