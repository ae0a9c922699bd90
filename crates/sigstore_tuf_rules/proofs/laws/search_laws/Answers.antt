use Rattle.sigstore_tuf_rules.proofs.Walks.{by_list, deeper, at_most_max}
use Rattle.sigstore_tuf_rules.proofs.Agrees.{one_order}
use Rattle.sigstore_tuf_rules.proofs.laws.search_laws.Goals as goal

pub returns-clause-by_list : goal.returns-clause-by_list
returns-clause-by_list c = by_list

pub returns-clause-deep_enough : goal.returns-clause-deep_enough
returns-clause-deep_enough c = deeper

pub returns-clause-bounded : goal.returns-clause-bounded
returns-clause-bounded c = at_most_max

pub returns-clause-one : goal.returns-clause-one
returns-clause-one c = one_order
