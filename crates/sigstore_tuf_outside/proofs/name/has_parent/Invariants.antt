use Rattle.std.proofs.Common.{◌≡◌, length}
use Rattle.std.specs.List.{list_any}
use Rattle.sigstore_tuf_outside.specs.Store.{components, is_parent}
use Rattle.sigstore_tuf_outside.proofs.name.has_parent.Given as goal

abbrev pub invariant-loop-rest : goal.invariant-loop-rest
invariant-loop-rest l = list_any is_parent (components l.fn.name) ≡ list_any is_parent (components l.rest)

abbrev pub decreases-loop-rest : goal.decreases-loop-rest
decreases-loop-rest l = length l.rest
