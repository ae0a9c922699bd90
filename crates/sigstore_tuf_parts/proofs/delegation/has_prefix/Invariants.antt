use Rattle.std.proofs.Common.{◌≡◌, drop}
use Rattle.sigstore_tuf_parts.specs.Delegation.{has_prefix}
use Rattle.sigstore_tuf_parts.proofs.delegation.has_prefix.Given as goal

-- those that are left decide
abbrev pub invariant-loop-prefix : goal.invariant-loop-prefix
invariant-loop-prefix l = has_prefix l.path (drop l.prefix-index l.prefixes) ≡ has_prefix l.path l.prefixes
