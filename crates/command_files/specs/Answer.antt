-- What a command says, and the exit status of each end.
use Rattle.std.specs.Prelude.{ℕ, List, codes, Option, Some, None}
use Rattle.command_files.specs.Gather.{word_of}
use Rattle.command_files.specs.Printed.{line_of, pair_line}
use Rattle.command_files.specs.declared.answer.Answer.{Answer}
use Rattle.command_files.specs.declared.answer.Status.{Status}
use Rattle.command_files.specs.declared.answer.Status.TheVariants.{Accepted, Refused, Usage, Input, Output, Memory}
use Rattle.command_files.specs.declared.gather.CommandStop.{CommandStop}
use Rattle.command_files.specs.declared.gather.CommandStop.TheVariants as stop

abbrev pub code_of : Status → ℕ
code_of Accepted = 0
code_of Refused = 1
code_of Usage = 2
code_of Input = 3
code_of Output = 4
code_of Memory = 5

abbrev pub answer : Status → List ℕ → Answer
answer status text = record { status = status; text = text }

-- what is said where a run ends before its judgement; nothing where memory is wanting
unfoldable pub stop_answer : CommandStop → Option Answer
stop_answer stop.Words = Some (answer Usage (line_of (codes "usage")))
stop_answer (stop.Malformed which) = Some (answer Usage (pair_line (codes "usage") (word_of which)))
stop_answer (stop.Input which) = Some (answer Input (pair_line (codes "input") (word_of which)))
stop_answer stop.Memory = None
