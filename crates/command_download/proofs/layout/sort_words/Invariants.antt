use Rattle.std.proofs.Common.{◌≡◌, drop}
use Rattle.command_download.specs.Layout.{words_sorted}
use Rattle.command_download.proofs.layout.sort_words.Given as goal

abbrev pub invariant-words : goal.invariant-words
invariant-words l = words_sorted l.fn.sorted l.words ≡ words_sorted l.sorted (drop l.word-index l.words)
