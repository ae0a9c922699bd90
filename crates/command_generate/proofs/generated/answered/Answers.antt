use Rattle.std.proofs.Common.{Err, ap, ◌∙◌, rules}
use Rattle.command_generate.proofs.Items.{usage_said}
use Rattle.command_generate.proofs.generated.answered.Goals as goal

pub returns-in-Err-Usage : goal.returns-in-Err-Usage
returns-in-Err-Usage c =
    usage_said c.args.words.now c.stopped.result (c.in-Err-Usage.ensures.err (search rules) ∙ ap Err c.in-Err-Usage.field-0-is) c.stopped.ensures
