use Rattle.std.proofs.Common.{◌≡◌, ◌++◌, drop}
use Rattle.command_outputs.specs.Layout.{files_in}
use Rattle.command_outputs.proofs.layout.files.Given as goal

abbrev pub invariant-words : goal.invariant-words
invariant-words l = files_in l.words ≡ l.files ++ files_in (drop l.word-index l.words)
