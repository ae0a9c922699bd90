use Rattle.std.proofs.Common.{◌≡◌, drop}
use Rattle.sigstore_types_parts.specs.Calls.{is_ascending_above}
use Rattle.sigstore_types_parts.proofs.calls.ascends.Given as goal

-- what is left ascends from where the loop is exactly where the whole ascends
abbrev pub invariant-loop-call : goal.invariant-loop-call
invariant-loop-call l = is_ascending_above 0 l.calls ≡ is_ascending_above l.low (drop l.call-index l.calls)
