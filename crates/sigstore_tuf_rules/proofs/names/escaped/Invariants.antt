use Rattle.std.proofs.Common.{◌≡◌, ◌++◌}
use Rattle.std.specs.Prelude.{string_bytes}
use Rattle.sigstore_tuf_rules.specs.Names.{escaped}
use Rattle.sigstore_tuf_rules.proofs.names.escaped.Given as goal

-- what was written, and then what is left
abbrev pub invariant-loop-byte : goal.invariant-loop-byte
invariant-loop-byte l = string_bytes l.out ++ escaped l.byte-iterator.rest.now ≡ escaped l.name
