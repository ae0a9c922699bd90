use Rattle.std.proofs.Common.{◌≡◌, drop}
use Rattle.std.specs.List.{list_all}
use Rattle.command_files.specs.Named.{texts, has_name}
use Rattle.command_files.proofs.named.has_each.Given as goal

abbrev pub invariant-loop-name : goal.invariant-loop-name
invariant-loop-name l = list_all (has_name l.found) (texts (drop l.name-index l.wanted)) ≡ list_all (has_name l.found) (texts l.wanted)
