use Rattle.std.proofs.Common.{◌≡◌}
use Rattle.sigstore_keys.specs.Pairs.{known_pairs}
use Rattle.path_core.specs.Links.{scheme_among}
use Rattle.path_core.proofs.Pairs.{scheme_from}
use Rattle.path_core.proofs.link.scheme_of.Given as goal

-- no pair that was passed has the identifiers
abbrev pub invariant-pairs : goal.invariant-pairs
invariant-pairs l = scheme_from l.key_id l.signature_id l.pair-index l.pair-items ≡ scheme_among l.key_id l.signature_id known_pairs
