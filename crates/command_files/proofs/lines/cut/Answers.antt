use Rattle.std.proofs.lemmas.Str.Pattern.{split_once_first}
use Rattle.command_files.proofs.Cuts.{cut_answers}
use Rattle.command_files.proofs.lines.cut.Goals as goal

pub returns : goal.returns
returns c =
    let s = c.args.text.now in
    cut_answers c.args.at s c.split_once.result (split_once_first c.args.at s c.split_once.result c.split_once.ensures.cases c.requires)
