use Rattle.std.proofs.Common.{◌≡◌, ◌++◌, string_bytes}
use Rattle.sigstore_types_parts.specs.Entries.{named}
use Rattle.embedded_verify.specs.Lines.{keep_lines}
use Rattle.embedded_verify.proofs.keeping.push_files.Given as goal

-- what was written is followed by the lines of what is left
abbrev pub invariant-loop-name : goal.invariant-loop-name
invariant-loop-name l = string_bytes l.initial.text ++ keep_lines l.files ≡ string_bytes l.text ++ keep_lines (named l.name-iterator)
