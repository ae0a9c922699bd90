-- The delegations that match, as they are found.
use Rattle.std.proofs.Common.{List, ℕ, ◌++◌}
use Rattle.sigstore_tuf_rules.specs.Order.{Next}

-- these names before the others
abbrev pub after_names : List (List ℕ) → Next → Next
after_names names next = record next { names = names ++ next.names }
