use Rattle.std.proofs.Common.{◌≡◌, ◌++◌, take, string_bytes}
use Rattle.command_files.specs.Printed.{printed}
use Rattle.command_files.proofs.printed.push_printed.Given as goal

abbrev pub invariant-bytes : goal.invariant-bytes
invariant-bytes l = string_bytes l.text ≡ string_bytes l.fn.text ++ printed (take l.byte-index l.bytes)
