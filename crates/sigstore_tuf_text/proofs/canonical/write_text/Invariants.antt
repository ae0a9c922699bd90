use Rattle.std.proofs.Common.{◌≡◌, ◌++◌, take}
use Rattle.std.specs.List.{flat_map}
use Rattle.sigstore_tuf_text.specs.Canon.{escaped_byte}
use Rattle.sigstore_tuf_text.proofs.canonical.write_text.Given as goal

abbrev pub invariant-loop-byte : goal.invariant-loop-byte
invariant-loop-byte l = l.out.items ≡ l.initial.out.items ++ flat_map escaped_byte (take l.byte-index l.byte-items)
