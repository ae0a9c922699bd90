use Rattle.std.proofs.Common.{◌≡◌, ◌+◌, drop}
use Rattle.std.specs.List.{position_or_len}
use Rattle.sigstore_tuf_outside.specs.Store.{is_slash}
use Rattle.sigstore_tuf_outside.proofs.name.first_len.Given as goal

abbrev pub invariant-loop-index : goal.invariant-loop-index
invariant-loop-index l = position_or_len is_slash l.name ≡ l.index + position_or_len is_slash (drop l.index l.name)
