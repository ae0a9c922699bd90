use Rattle.std.proofs.Common.{◌≡◌, drop}
use Rattle.command_files.specs.Named.{texts, is_among}
use Rattle.command_files.proofs.named.is_among.Given as goal

abbrev pub invariant-loop-known : goal.invariant-loop-known
invariant-loop-known l = is_among (texts (drop l.known-index l.names)) l.name ≡ is_among (texts l.names) l.name
