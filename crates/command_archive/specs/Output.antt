-- What the commands write, and their status where it is taken whole.
use Rattle.std.specs.Prelude.{ℕ, List}
use Rattle.command_files.specs.declared.answer.Status.{Status}
use Rattle.command_files.specs.declared.answer.Status.TheVariants as status
use Rattle.command_archive.specs.declared.output.Output.{Output}
use Rattle.command_archive.specs.declared.output.Output.TheVariants.{Lines, Archive}

abbrev pub status_of : Output → Status
status_of (Lines said) = said.status
status_of (Archive bytes) = status.Accepted

abbrev pub octets_of : Output → List ℕ
octets_of (Lines said) = said.text
octets_of (Archive bytes) = bytes
