use Rattle.std.proofs.Common.{codes}
use Rattle.command_outputs.proofs.Words.{stripped}
use Rattle.command_outputs.proofs.layout.file_in.Goals as goal

pub returns : goal.returns
returns c = stripped (codes "--statement=") c.args.word.now c.strip_prefix.result c.strip_prefix.ensures.cases
