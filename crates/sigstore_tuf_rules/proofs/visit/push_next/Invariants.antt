use Rattle.std.proofs.Common.{◌≡◌, ◌++◌, map, length}
use Rattle.std.specs.Prelude.{reverse}
use Rattle.sigstore_tuf_rules.specs.Order.{by}
use Rattle.sigstore_tuf_rules.proofs.visit.push_next.Given as goal

-- those that aren't put yet, before those that are
abbrev pub invariant-loop-name : goal.invariant-loop-name
invariant-loop-name l = map (by l.delegator) l.names.items ++ reverse l.pending.items ≡ map (by l.delegator) l.initial.names.items ++ reverse l.initial.pending.items

abbrev pub decreases-loop-name : goal.decreases-loop-name
decreases-loop-name l = length l.names.items
