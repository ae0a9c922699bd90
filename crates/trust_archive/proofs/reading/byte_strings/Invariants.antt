use Rattle.std.proofs.Common.{◌≡◌, ◌-◌}
use Rattle.trust_archive.specs.Grammar.{times_at}
use Rattle.trust_archive.specs.Grammar.{counted_at}
use Rattle.trust_archive.proofs.Steps.{behind}
use Rattle.trust_archive.proofs.reading.byte_strings.Given as goal

-- those that were read, and then the others
abbrev pub invariant-items : goal.invariant-items
invariant-items l = behind l.list (times_at counted_at (l.count - l.counter) l.rest) ≡ times_at counted_at l.count l.bytes
