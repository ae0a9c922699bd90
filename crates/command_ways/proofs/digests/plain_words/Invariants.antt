use Rattle.std.proofs.Common.{◌≡◌, [], drop}
use Rattle.command_ways.specs.Digests.{plain_from}
use Rattle.command_ways.proofs.digests.plain_words.Given as goal

abbrev pub invariant-words : goal.invariant-words
invariant-words l = plain_from [] l.words ≡ plain_from l.plain (drop l.word-index l.words)
