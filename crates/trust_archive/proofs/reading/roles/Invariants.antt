use Rattle.std.proofs.Common.{◌≡◌, ◌-◌}
use Rattle.trust_archive.specs.Grammar.{times_at}
use Rattle.trust_archive.specs.Spelling.{role_at}
use Rattle.trust_archive.proofs.Steps.{behind}
use Rattle.trust_archive.proofs.reading.roles.Given as goal

-- those that were read, and then the others
abbrev pub invariant-items : goal.invariant-items
invariant-items l = behind l.list (times_at role_at (l.count - l.counter) l.rest) ≡ times_at role_at l.count l.bytes
