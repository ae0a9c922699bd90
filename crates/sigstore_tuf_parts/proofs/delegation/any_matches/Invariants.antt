use Rattle.std.proofs.Common.{◌≡◌, drop}
use Rattle.sigstore_tuf_parts.specs.Delegation.{any_matches}
use Rattle.sigstore_tuf_parts.proofs.delegation.any_matches.Given as goal

-- those that are left decide
abbrev pub invariant-loop-pattern : goal.invariant-loop-pattern
invariant-loop-pattern l = any_matches l.path (drop l.pattern-index l.patterns) ≡ any_matches l.path l.patterns
