use Rattle.std.proofs.Common.{◌≡◌, drop}
use Rattle.command_files.specs.Named.{known_by, words_placed}
use Rattle.command_files.proofs.named.place_words.Given as goal

abbrev pub invariant-words : goal.invariant-words
invariant-words l = words_placed (known_by l.names) l.fn.found l.words ≡ words_placed (known_by l.names) l.found (drop l.word-index l.words)
