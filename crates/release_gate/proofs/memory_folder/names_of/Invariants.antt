use Rattle.std.proofs.Common.{◌≡◌, ◌++◌}
use Rattle.std.specs.Map.{keys_of}
use Rattle.sigstore_types_parts.specs.Entries.{named}
use Rattle.release_gate.proofs.memory_folder.names_of.Given as goal

-- the names so far, followed by those that are left
abbrev pub invariant-files : goal.invariant-files
invariant-files l = l.names.items ++ keys_of (named l.name-iterator) ≡ keys_of l.files
