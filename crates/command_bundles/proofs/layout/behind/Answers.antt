use Rattle.command_bundles.proofs.Words.{stripped}
use Rattle.command_bundles.proofs.layout.behind.Goals as goal

pub returns : goal.returns
returns c = stripped c.args.name.now c.args.word.now c.strip_prefix.result c.strip_prefix.ensures.cases
